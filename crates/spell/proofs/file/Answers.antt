use borrow.Author.Rules.{rules}
use native.Mathlib.Omega.{arith}
use mathlib.Core.Path.{refl}
use Rattle.words.proofs.Laws.{zeros_at}
use Rattle.spell.proofs.Filings.{filing_arrangeable, filing_listable, filing_long, filing_ordered, filing_short, filing_writable, filing_written}
use Rattle.spell.proofs.file.Goals as goal

pub find_depths-requires : goal.find_depths-requires
find_depths-requires c = filing_listable c.requires _ (omega arith)

pub arrange-top-requires : goal.arrange-top-requires
arrange-top-requires c = filing_arrangeable c.requires _ (λ i. zeros_at 512 i) refl

pub is_too_long-requires : goal.is_too_long-requires
is_too_long-requires c = filing_ordered c.requires (omega arith) c.arrange-top.ensures

pub returns-then-is_too_long : goal.returns-then-is_too_long
returns-then-is_too_long c = record { filed_by = (λ P h. filing_long c.requires (omega arith) c.arrange-top.ensures c.find_depths.ensures h c.args.out.now c.is_too_long.ensures c.if-is_too_long.true); out_len_unchanged = refl }

pub size-n-requires : goal.size-n-requires
size-n-requires c = filing_ordered c.requires (omega arith) c.arrange-top.ensures

pub returns-then-out-n : goal.returns-then-out-n
returns-then-out-n c = record { filed_by = (λ P h. filing_short c.requires (omega arith) c.arrange-top.ensures c.find_depths.ensures h c.is_too_long.ensures c.if-is_too_long.false c.size-n.ensures c.args.out.now c.if-out-n.true); out_len_unchanged = refl }

pub write-requires : goal.write-requires
write-requires c = filing_writable c.requires (omega arith) c.arrange-top.ensures c.args.out.now c.is_too_long.ensures c.if-is_too_long.false c.size-n.ensures c.if-out-n.false

pub returns : goal.returns
returns c = record { filed_by = (λ P h. filing_written c.requires (omega arith) c.arrange-top.ensures c.find_depths.ensures h c.is_too_long.ensures c.if-is_too_long.false c.size-n.ensures c.args.out.now _ c.if-out-n.false c.write.ensures); out_len_unchanged = search rules }

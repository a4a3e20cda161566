use Rattle.std.proofs.Common.{sym, ◌∙◌}
use borrow.Author.Tests.{ne_eqb}
use Rattle.tokens.proofs.Classes.{sign_alphanumeric}
use Rattle.tokens.specs.Tokens.{goes_on, is_letter}
use Rattle.tokens.proofs.goes_on.Goals as goal

pub returns-then-is_ascii_alphabetic : goal.returns-then-is_ascii_alphabetic
unfolding goes_on is_letter
returns-then-is_ascii_alphabetic c =
    rw (sym c.is_ascii_alphabetic.ensures.value ∙ c.if-is_ascii_alphabetic.true) c.is_ascii_alphabetic-then-is_ascii_alphabetic.ensures.value

pub returns-then-first-eq58 : goal.returns-then-first-eq58
unfolding goes_on is_letter
returns-then-first-eq58 c =
    rw (sym c.is_ascii_alphabetic.ensures.value ∙ c.if-is_ascii_alphabetic.false, c.if-first-eq58.true) (c.is_ascii_alphanumeric.ensures.value ∙ sign_alphanumeric c.args.b)

pub returns-else-first-eq58 : goal.returns-else-first-eq58
unfolding goes_on is_letter
returns-else-first-eq58 c =
    rw (sym c.is_ascii_alphabetic.ensures.value ∙ c.if-is_ascii_alphabetic.false, ne_eqb c.args.first 58 c.if-first-eq58.false)

use borrow.Author.Rules.{rules}
use Rattle.frames.proofs.Puts.{put_nothing}
use Rattle.text.proofs.Facts.{facts_all, facts_more}
use Rattle.text.proofs.put_facts.Goals as goal

pub loop-k-init : goal.loop-k-init
loop-k-init c = (search rules, search rules, put_nothing _ _)

pub loop-k-preserved : goal.loop-k-preserved
loop-k-preserved c = let l = c.loop-k in
    (search rules, search rules, facts_more c.args.out.now l.k l.invariant.2 c.put_fact-next.ensures.put)

pub returns : goal.returns
returns c = let start = c.args in
    let l = c.loop-k in
    facts_all start.out.now l.k start.n l.invariant.2 (search rules)

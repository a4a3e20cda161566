use Rattle.satisfaction.proofs.Ranges.{opened_filled}
use Rattle.satisfaction.proofs.open_ranges.Goals as goal

pub returns : goal.returns
returns c = opened_filled c.requires (c.fill.ensures.after (λ y e. e))

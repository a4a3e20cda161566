use Rattle.std.proofs.Common.{rules, ◌≡◌, ◌+◌, ◌*◌, ◌%◌, ℕ}
use Rattle.std.specs.List.{fold}
use mathlib.Core.Path.{◌∙◌}
use Rattle.tokens.proofs.Classes.{print_folded}
use Rattle.tokens.proofs.print.Goals as goal

pub returns : goal.returns
returns c = let e : c.fold.result ≡ fold (λ (h b : ℕ). ((h * 31) % 4294967296 + b) % 4294967296) 0 c.args.name.now = search rules in e ∙ print_folded c.args.name.now

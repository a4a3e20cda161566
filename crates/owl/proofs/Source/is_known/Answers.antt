use Rattle.owl.proofs.Noting.{looks_declared}
use Rattle.owl.proofs.Source.is_known.Goals as goal

pub returns-in-Declares : goal.returns-in-Declares
returns-in-Declares c = rw c.in-Declares.is (looks_declared c.args.self.now.text.now _ _ c.in-Declares.field-0)

use Rattle.carriers.proofs.Links.{link_made}
use Rattle.carriers.proofs.link.Goals as goal

pub returns : goal.returns
returns c =
    link_made _ _ _ (rw c.place.ensures at c.word-next.ensures) c.slot_of.ensures c.slot_of-2.ensures c.lower-slot.ensures
    c.place-2.ensures c.place-3.ensures c.place-4.ensures

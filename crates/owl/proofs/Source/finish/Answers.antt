use borrow.Author.Rules.{rules}
use mathlib.Core.Path.{◌∙◌, refl, sym}
use Rattle.owl.proofs.Looking.{sizes_small}
use Rattle.owl.proofs.Others.{many_sets}
use Rattle.owl.proofs.Whole.{not_sound, refused}
use Rattle.owl.proofs.Source.finish.Goals as goal

pub slice_bounds-are_sound-end : goal.slice_bounds-are_sound-end
slice_bounds-are_sound-end c = refl

pub slice_bounds-are_sound-end-2 : goal.slice_bounds-are_sound-end-2
slice_bounds-are_sound-end-2 c = refl

pub returns-then-not-are_sound : goal.returns-then-not-are_sound
returns-then-not-are_sound c =
    let s = c.args.self.now in
    refused _ _ _ refl (not_sound s.ready s.short c.are_sound.ensures.value c.if-not-are_sound.true)

pub find_others-many_roles-requires : goal.find_others-many_roles-requires
find_others-many_roles-requires c = (sizes_small c.args.self.now.ready).1

pub find_others-many_features-requires : goal.find_others-many_features-requires
find_others-many_features-requires c = (sizes_small c.args.self.now.ready).2

pub write-requires : goal.write-requires
write-requires c =
    let found = c.are_sound.ensures in
    let yes = c.if-not-are_sound.false in
    let sound = sym found.value ∙ yes in (
      sound,
      many_sets c.args.self.now.ready sound (found.noted yes) (search rules) (search rules) c.find_others-many_roles.ensures c.find_others-many_features.ensures,
    )

pub returns : goal.returns
returns c = c.write.ensures

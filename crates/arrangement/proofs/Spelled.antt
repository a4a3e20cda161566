-- A policy's possible terms in normal form, arranged as the roles of one individual, are the items of its spelling.
use mathlib.Core.Bool.{true}
use mathlib.Core.Path.{◌∙◌, ◌≡◌, ap, subst}
use Rattle.arrangement.proofs.Arranging.{arranged_roles, roles_have_runs, sorted_all}
use Rattle.arrangement.proofs.Comparing.{HasRun}
use Rattle.arrangement.specs.Insertion.{arranged}
use Rattle.arrangement.specs.Runs.{Fronted, items_below, policy_items, runs_of}
use Rattle.meaning.specs.Lists.{All, filter}
use Rattle.meaning.specs.NormalForm.{possible}
use Rattle.meaning.specs.Policy.{Policy}
use Rattle.meaning.specs.Vocabulary.{Vocabulary}
use Rattle.spelling.proofs.Arranging.{forest, forest_sorted}
use Rattle.spelling.specs.Spelling.{reaches, roles_of, spelled}
use Rattle.theory.proofs.Rules.{map_all}

pub arranged_spelled : (K : Vocabulary) (P : Policy) → arranged (items_below 0 (forest K (filter (possible K) P))) ≡ policy_items (spelled K P)
arranged_spelled K P = arranged_roles (forest K (filter (possible K) P)) ∙ ap (runs_of 0) (forest_sorted K P)

pub spelled_fronted : (K : Vocabulary) (P : Policy) → All (Fronted true) (spelled K P)
spelled_fronted K P =
    let roles = roles_of (forest K (filter (possible K) P)) in
    map_all (reaches 0) (spelled K P) (subst (All HasRun) (forest_sorted K P) (sorted_all roles (roles_have_runs (forest K (filter (possible K) P)))))

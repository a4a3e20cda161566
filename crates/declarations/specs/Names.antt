-- SPECIFICATION 3.4, the names: declarations, anywhere in the text, number the names of each sort in order.
use Rattle.std.specs.Prelude.{ℕ, Bool, ◌&&◌, cond, false, not, true, List, [], map, eqb, leb, length}
use Rattle.meaning.specs.Limits.{most_classes, most_features, most_roles}
use Rattle.meaning.specs.Lists.{all, flat_map}
use Rattle.meaning.specs.Records.{is_name}
use Rattle.name_table.specs.Numbers.{number_of, repeats}
use Rattle.statements.specs.Forms.{Sort, Statement, Use, class, declares, feature, role, states}
use Rattle.tokens.specs.Tokens.{Token}

abbrev pub same_sort : Sort → Sort → Bool
same_sort class class = true
same_sort class role = false
same_sort class feature = false
same_sort role class = false
same_sort role role = true
same_sort role feature = false
same_sort feature class = false
same_sort feature role = false
same_sort feature feature = true

-- the names declared in a sort, in text order
abbrev pub declared_by : Sort → Statement → List Token
declared_by s (declares t us) = let names = map (λ (u : Use). u.token) us in cond (same_sort s t) names []
declared_by s (states k us) = []

abbrev pub declared : Sort → List Statement → List Token
declared s l = flat_map (declared_by s) l

-- the number of a name in the sort that its place needs; 0 for none
abbrev pub number_in : List Statement → Use → ℕ
number_in l u = number_of (declared u.sort l) u.token

-- the names that a statement needs: an axiom its own, a declaration none
abbrev pub needed : Statement → List Use
needed (declares s us) = []
needed (states k us) = us

abbrev pub is_known : List Statement → Statement → Bool
is_known l x = all (λ (u : Use). not (eqb (number_in l u) 0)) (needed x)

-- the counts are a vocabulary's (SPECIFICATION 3.1)
abbrev pub counted : ℕ → ℕ → ℕ → Bool
counted N R F = is_name most_classes N && (leb R most_roles && leb F most_features)

-- no name is declared twice in a sort, and each that is needed is declared
abbrev pub sound_names : List Statement → Bool
sound_names l =
    not (repeats (declared class l))
    && (not (repeats (declared role l)) && (not (repeats (declared feature l)) && all (is_known l) l))

unfoldable pub declared_well : List Statement → Bool
declared_well l = counted (length (declared class l)) (length (declared role l)) (length (declared feature l)) && sound_names l

-- How many records there can be: a word holds every link.
use Prim.Native.Nat.{◌*◌, ◌+◌, ◌-◌, ◌<◌, ◌≤◌, suc, zero, ℕ}
use mathlib.Core.Bool.{Bool, cond, false, true}
use mathlib.Core.List.{List, [], ◌++◌, ◌∷◌}
use mathlib.Core.Path.{◌∙◌, ◌≡◌, ap}
use native.Mathlib.Omega.{arith}
use lib.Dec.{eqb, ltb}
use lib.ListN.{drop, length, length-append, length-map, length-take}
use Rattle.countermodel.specs.Facts.{edge_facts, edges_from, facts_at, facts_from, member_facts, record_count, value_fact, value_facts}
use Rattle.layout.specs.Combination.{chosen_from, pieces_from, pieces_of}
use Rattle.layout.specs.Places.{individual_place}
use Rattle.layout.specs.Tables.{Standing, holder_at, parent_at, piece_at, role_at, set_at}
use Rattle.layout.specs.declared.Tables.{Tables}
use Rattle.meaning.specs.Countermodel.{insert_pair, pair_before, pairs, same_pair}
use Rattle.meaning.specs.Intervals.{Constraint}
use Rattle.meaning.specs.Limits.{most_classes}
use Rattle.meaning.specs.Model.{edge, member}
use Rattle.words.proofs.Laws.{members_few}
use Rattle.words.specs.Members.{members}
use Rattle.words.specs.Rows.{class_words}

insert_few : (s : Constraint) (l : List Constraint) → length (insert_pair s l) ≤ suc (length l)
insert_few s [] = omega arith
insert_few s (t ∷ l) = go (same_pair s t) (pair_before s t) (insert_few s l)
  where
    go : (p q : Bool) → length (insert_pair s l) ≤ suc (length l) →
        length (cond p (t ∷ l) (cond q (s ∷ (t ∷ l)) (t ∷ insert_pair s l))) ≤ suc (suc (length l))
    go true q h = omega arith
    go false true h = omega arith
    go false false h = omega arith

pairs_few : (l : List Constraint) → length (pairs l) ≤ length l
pairs_few [] = omega arith
pairs_few (s ∷ l) = omega (arith, insert_few s (pairs l), pairs_few l)

pieces_few : (w : List ℕ) (x left m : ℕ) → length (pieces_from w x left m) ≤ left
unfolding chosen_from
pieces_few w x zero m = omega arith
pieces_few w x (suc left) m = go (eqb (holder_at w m) x) (pieces_few w x left (suc m))
  where
    go : (b : Bool) → length (pieces_from w x left (suc m)) ≤ left →
        length (cond b (piece_at w m ∷ pieces_from w x left (suc m)) (pieces_from w x left (suc m))) ≤ suc left
    go true h = omega arith
    go false h = omega arith

members_length : (w : List ℕ) (i : ℕ) → length (member_facts w i) ≡ length (members (set_at w i))
unfolding member_facts
members_length w i = length-map (members (set_at w i)) (λ c. member c (i + 1))

members_most : (w : List ℕ) (i : ℕ) → length (members (set_at w i)) ≤ most_classes
members_most w i = omega (arith, members_few (set_at w i), length-take class_words (drop (individual_place i + 2) w))

pub values_most : (w : List ℕ) (n x : ℕ) → length (value_facts w n x) ≤ n
unfolding value_facts
values_most w n x = omega (arith, length-map (pairs (pieces_of w n x)) (value_fact x), pairs_few (pieces_of w n x), pieces_few w x n 0)

edges_few : (w : List ℕ) (x left j : ℕ) → length (edges_from w x left j) ≤ left
unfolding edges_from
edges_few w x zero j = omega arith
edges_few w x (suc left) j = go (ltb (parent_at w j) x) (eqb (parent_at w j) x) (edges_few w x left (suc j))
  where
    go : (p q : Bool) → length (edges_from w x left (suc j)) ≤ left →
        length (cond p [] (cond q (edge (role_at w j) x (suc j) ∷ edges_from w x left (suc j)) (edges_from w x left (suc j)))) ≤ suc left
    go true q h = omega arith
    go false true h = omega arith
    go false false h = omega arith

pub edges_most : (w : List ℕ) (n x : ℕ) → length (edge_facts w n x) ≤ n
edges_most w n x = omega (arith, edges_few w x (n - x) x)

module _ (w : List ℕ) (t : Tables) where
  pub row_length : (i : ℕ) →
      length (facts_at w t i) ≡ length (member_facts w i) + length (value_facts w t.constraints (i + 1)) + length (edge_facts w t.individuals (i + 1))
  unfolding facts_at
  row_length i = simp length-append (omega arith)

  -- what `count_row` adds up
  pub row_counted : (i : ℕ) {p n q v r e : ℕ} {ws : List ℕ} → p ≡ i → ws ≡ set_at w p → n ≡ length (members ws) → q ≡ n →
      v ≡ length (value_facts w t.constraints (i + 1)) → r ≡ t.individuals → e ≡ length (edge_facts w r (i + 1)) → q + v + e ≡ length (facts_at w t i)
  row_counted i {ws = ws} a b d f g h k =
      let classes : length (members ws) ≡ length (members (set_at w i)) = rw (b, a) in
      let edges = ap (λ (n : ℕ). length (edge_facts w n (i + 1))) h in
      omega (arith, row_length i, members_length w i)

  module _ (stand : Standing w t) where
    pub row_most : (i : ℕ) → length (facts_at w t i) ≤ 1280
    row_most i =
        omega (arith, row_length i, members_length w i, members_most w i, values_most w t.constraints (i + 1), edges_most w t.individuals (i + 1))

    facts_most : (left i : ℕ) → length (facts_from w t left i) ≤ 1280 * left
    unfolding facts_from
    facts_most zero i = omega arith
    facts_most (suc left) i = simp length-append (omega (arith, row_most i, facts_most left (suc i)))

    pub records_most : record_count w t ≤ 655360
    records_most = omega (arith, facts_most t.individuals 0)

-- ---- row by row

module _ (w : List ℕ) (t : Tables) (n i : ℕ) where
  pub rows_more : i < n → facts_from w t (n - i) i ≡ facts_at w t i ++ facts_from w t (n - (i + 1)) (i + 1)
  unfolding facts_from
  rows_more h =
      let rows : n - i ≡ suc (n - (i + 1)) = omega arith in
      let next : suc i ≡ i + 1 = omega arith in
      rw (rows, next)

  pub rows_length : i < n → length (facts_from w t (n - i) i) ≡ length (facts_at w t i) + length (facts_from w t (n - (i + 1)) (i + 1))
  rows_length h = ap length (rows_more h) ∙ length-append (facts_at w t i) (facts_from w t (n - (i + 1)) (i + 1))

  pub rows_end : n ≤ i → facts_from w t (n - i) i ≡ []
  unfolding facts_from
  rows_end h = let e : n - i ≡ 0 = omega arith in rw e

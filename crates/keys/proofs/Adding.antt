-- One key more among keys that rise, and keys after keys.
use Prim.Native.Nat.{◌+◌, ◌-◌, ◌<◌, ◌≤◌, suc, zero, ℕ}
use mathlib.Core.List.{List, [], ◌++◌, ◌∷◌, append_assoc, append-nil}
use mathlib.Core.Path.{◌∙◌, ◌≡◌, ap, refl, sym}
use native.Mathlib.Omega.{arith}
use lib.Arith.{lt_of_le-ne}
use lib.ListN.{drop, get_or, length, length-append, length-set, length-take, set, take}
use lib.Seq.{get_or-take, take-take}
use Rattle.std.proofs.lemmas.List.{take_at}
use Rattle.std.specs.List.{copy_within}
use borrow.Author.Tests.{eq-eqb, le-ltb, lt-ltb, ne_eqb}
use Rattle.meaning.specs.Splitting.{Sorted, insert, insert_all}
use Rattle.keys.proofs.Ranking.{smaller}
use Rattle.keys.specs.Keys.{Gathered, Ranked}
use Rattle.theory.proofs.Points.{inserts_sorted}

-- ---- keys after keys

inserts_append : (a b l : List ℕ) → insert_all (a ++ b) l ≡ insert_all b (insert_all a l)
inserts_append [] b l = refl
inserts_append (x ∷ a) b l = inserts_append a b (insert x l)

pub gathered_none : (n : ℕ) (e : List ℕ) → Gathered [] n e e n
gathered_none n e = record { same = refl; long = omega arith; keys = λ ks h. rw (append-nil ks) h }

pub gathered_then : {a b : List ℕ} {n m r : ℕ} {e e' e'' : List ℕ} → Gathered a n e e' m → Gathered b m e' e'' r → Gathered (a ++ b) n e e'' r
gathered_then {a} {b} p h = record {
  same = h.same ∙ p.same;
  long = rw length-append (omega (arith, h.long, p.long));
  keys = λ ks k. rw (← append_assoc ks a b) (h.keys (ks ++ a) (p.keys ks k));
}

pub gathered_two : {a b k l n m r : ℕ} {e e' e'' : List ℕ} → k ≡ a → l ≡ b → Gathered (k ∷ []) n e e' m → Gathered (l ∷ []) m e' e'' r →
    Gathered (a ∷ (b ∷ [])) n e e'' r
gathered_two ek el p h = rw (← ek, ← el) (gathered_then p h)

-- ---- one key

-- where it goes, or where it stands
insert_new : (key : ℕ) (l : List ℕ) (r : ℕ) → r ≤ length l → ((j : ℕ) → j < r → get_or l j 0 < key) → (r < length l → key < get_or l r 0) →
    take r l ++ (key ∷ drop r l) ≡ insert key l
insert_new key [] zero w b a = refl
insert_new key [] (suc r) w b a = absurd (omega arith)
insert_new key (x ∷ l) zero w b a = rw (lt-ltb key x (a (omega arith)))
insert_new key (x ∷ l) (suc r) w b a =
    let h = b 0 (omega arith) in
    rw (le-ltb key x (omega arith), ne_eqb key x (λ e. omega arith))
    (ap (λ m. x ∷ m) (insert_new key l r (omega arith) (λ j i. b (suc j) (omega arith)) (λ i. a (omega arith))))

insert_old : (key : ℕ) (l : List ℕ) (r : ℕ) → r < length l → ((j : ℕ) → j < r → get_or l j 0 < key) → get_or l r 0 ≡ key → l ≡ insert key l
insert_old key [] r w b a = absurd (omega arith)
insert_old key (x ∷ l) zero w b a = rw (le-ltb key x (omega arith), eq-eqb key x (sym a))
insert_old key (x ∷ l) (suc r) w b a =
    let h = b 0 (omega arith) in
    rw (le-ltb key x (omega arith), ne_eqb key x (λ e. omega arith))
    (ap (λ m. x ∷ m) (insert_old key l r (omega arith) (λ j i. b (suc j) (omega arith)) a))

gathered_one : {key n r : ℕ} {e e' : List ℕ} → length e' ≡ length e → r ≤ n + 1 → (Sorted (take n e) → take r e' ≡ insert key (take n e)) →
    Gathered (key ∷ []) n e e' r
gathered_one {key} {n} {e = e} s l f = record {
  same = s;
  long = l;
  keys = λ ks h. f (rw h (inserts_sorted ks [] tt)) ∙ (ap (insert key) h ∙ sym (inserts_append ks (key ∷ []) []));
}

-- the keys from the place on stand one place further, and the new one there
roomed : (key : ℕ) (e rest : List ℕ) (r n m : ℕ) → r + m ≡ n → n < length e →
    take (suc n) (set ((take (suc r) e ++ take m (drop r e)) ++ rest) r key) ≡ take r e ++ (key ∷ drop r (take n e))
roomed key [] rest r n m w l = absurd (omega arith)
roomed key (x ∷ e) rest zero n m w l =
    let z : m ≡ n = omega arith in
    rw z (ap (λ (l : List ℕ). key ∷ l) (take_at (take n (x ∷ e)) rest n (length-take n (x ∷ e) ∙ omega arith)))
roomed key (x ∷ e) rest (suc r) zero m w l = absurd (omega arith)
roomed key (x ∷ e) rest (suc r) (suc n) m w l = ap (λ (l : List ℕ). x ∷ l) (roomed key e rest r n m (omega arith) (omega arith))

module _ {e : List ℕ} {n key r : ℕ} (b : n < length e) (k : Ranked e n key r) where
  low : Sorted (take n e) → (j : ℕ) → j < r → get_or (take n e) j 0 < key
  low s j h = let w = k.within in rw (get_or-take n e j 0 (omega arith)) (smaller s (omega arith) k j h)

  all : length (take n e) ≡ n
  all = length-take n e ∙ omega arith

  pub key_stands : r < n → get_or e r 0 ≡ key → Gathered (key ∷ []) n e e n
  key_stands h i =
      gathered_one refl (omega arith) (λ s. insert_old key (take n e) r (rw all h) (low s) (rw (get_or-take n e r 0 h) i))

  added : {e' : List ℕ} → length e' ≡ length e → (r < n → get_or e r 0 ≡ key → ⊥) → e' ≡ copy_within e r n (r + 1) →
      Gathered (key ∷ []) n e (set e' r key) (n + 1)
  added {e'} same h z =
      let y : n + 1 ≡ suc n = omega arith in
      let x : r + 1 ≡ suc r = omega arith in
      let w : r + (n - r) ≡ n = omega (arith, k.within) in
      let old = rw x at z in
      let new : Sorted (take n e) → take r e ++ (key ∷ drop r (take n e)) ≡ insert key (take n e) =
      λ s. rw (← take-take r n e k.within) (insert_new key (take n e) r (rw all k.within) (low s) next) in
      gathered_one (length-set e' r key ∙ same) (omega arith) (λ s. rw (y, old) (roomed key e (drop (suc r + (n - r)) e) r n (n - r) w b ∙ new s))
    where
      next : r < length (take n e) → key < get_or (take n e) r 0
      next i =
          let l : r < n = omega (arith, all) in
          rw (get_or-take n e r 0 l) (lt_of_le-ne (k.at l) (λ z. h l (sym z)))

  pub added_before : {e' : List ℕ} → length e' ≡ length e → (get_or e r 0 ≡ key → ⊥) → e' ≡ copy_within e r n (r + 1) →
      Gathered (key ∷ []) n e (set e' r key) (n + 1)
  added_before same h = added same (λ l. h)

  pub added_last : {e' : List ℕ} → length e' ≡ length e → n ≤ r → e' ≡ copy_within e r n (r + 1) → Gathered (key ∷ []) n e (set e' r key) (n + 1)
  added_last same h = added same (λ l z. omega arith)

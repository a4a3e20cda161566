-- The operation: 45, 23, the words of the load. Assumes nothing.
use Rattle.std.specs.Prelude.{Err, Ok}
use Prim.Native.Nat.{◌*◌, ◌+◌, ◌-◌, ◌<◌, ◌≤◌, ℕ}
use mathlib.Core.Bool.{Bool, not, true, false}
use mathlib.Core.List.{List, append_assoc}
use mathlib.Core.Path.{◌∙◌, ◌≡◌, ap, sym}
use lib.ListN.{length}
use native.Mathlib.Nat.{zero-add}
use native.Mathlib.Omega.{arith}
use borrow.Author.Tests.{le-leb, lt-leb, not-false, not-true}
use Rattle.frames.proofs.Puts.{put_as, put_then}
use Rattle.meaning.specs.Answers.{result, wrote}
use Rattle.meaning.specs.Limits.{most_classes}
use Rattle.meaning.specs.Operations.{output_after}
use Rattle.meaning.specs.PolicyWords.{policy_words}
use Rattle.meaning.specs.Records.{Name}
use Rattle.meaning.specs.declared.refusals.Refusal.TheVariants as refusal
use Rattle.rehearsal.proofs.Seeds.{advance_add, load_length, policy_size, vocabulary_size_lem}
use Rattle.rehearsal.specs.Drawing.{Drawn, Drawable, load_size}
use Rattle.rehearsal.specs.Load.{RehearsePost, advance_by, counted, first_part, is_load, load, load_policy, load_refusal, most_seed, most_terms}
use Rattle.rehearsal.specs.Load.{rehearse, second_part, vocabulary_part}
use Rattle.rehearsal.specs.declared.Cursor.{Cursor}
use Rattle.theory.proofs.Links.{bounds}

module _ (s N m : ℕ) (o : List ℕ) {t : Bool} (e : t ≡ is_load s N m) where
  -- 45
  pub out_of_range : not t ≡ true → RehearsePost s N m o o (Err refusal.Load)
  unfolding rehearse load_refusal output_after
  out_of_range h = let f : is_load s N m ≡ false = sym e ∙ not-true t h in record { answer = rw f; output = rw f }

  module _ (h : not t ≡ false) where
    is_load_lem : is_load s N m ≡ true
    is_load_lem = sym e ∙ not-false t h

    pub in_range : Name most_seed s × Name most_classes N × Name most_terms m
    in_range = let u = simp bounds at is_load_lem in (u.0, u.1.0, u.1.1)

    module _ {n : ℕ} (size : n ≡ load_size N m) where
      long : length (load s N m) ≡ n
      long = load_length s N m in_range.1.0 ∙ sym size

      -- 23
      pub too_short : length o < n → RehearsePost s N m o o (Err refusal.Output)
      unfolding rehearse load_refusal output_after
      too_short l =
          let d = lt-leb (length (load s N m)) (length o) (omega (arith, long)) in
          record { answer = rw (is_load_lem, d); output = rw (is_load_lem, d) }

      module _ (l : n ≤ length o) where
        -- the words
        pub filled : {o' : List ℕ} → o' ≡ output_after (load s N m) o → RehearsePost s N m o o' (Ok n)
        unfolding rehearse load_refusal
        filled q =
            let d = le-leb (length (load s N m)) (length o) (omega (arith, long)) in
            record { answer = rw (is_load_lem, d) (ap (λ (i : ℕ). result (wrote i)) (sym long)); output = rw (is_load_lem, d) q }

        -- ---- part after part

        pub first_room : Name most_classes N × (1 + 4 * (N + 1) ≤ length o)
        first_room = (in_range.1, omega arith)

        module _ {o₁ : List ℕ} {c : Cursor} (a : Drawn o (record { at = 0; seed = s }) (counted (vocabulary_part s N)) (advance_by (N - 1) s) o₁ c) where
          second_place : c.at ≡ 1 + 4 * (N + 1)
          second_place = omega (arith, a.words.place, vocabulary_size_lem s N in_range.1.0)

          pub second_room : Drawable o₁ c (1 + 6 * (3 * m + 1)) N m
          second_room = record { long = omega (arith, second_place, a.words.size); classes = in_range.1; terms = in_range.2 }

          module _ {o₂ : List ℕ} {d : Cursor} (b : Drawn o₁ c (counted (policy_words (load_policy c.seed N m))) (advance_by (3 * m) c.seed) o₂ d) where
            third_place : d.at ≡ 2 + 4 * (N + 1) + 6 * (3 * m + 1)
            third_place = omega (arith, second_place, b.words.place, policy_size c.seed N m)

            pub third_room : Drawable o₂ d (1 + 6 * (3 * m + 1)) N m
            third_room = record { long = omega (arith, third_place, a.words.size, b.words.size); classes = in_range.1; terms = in_range.2 }

            pub load_put : {o₃ : List ℕ} {r : Cursor} → Drawn o₂ d (counted (policy_words (load_policy d.seed N m))) (advance_by (3 * m) d.seed) o₃ r →
                RehearsePost s N m o o₃ (Ok n)
            unfolding output_after load
            load_put f =
                let runs : d.seed ≡ advance_by (N - 1 + 3 * m) s = b.seed ∙ ap (advance_by (3 * m)) a.seed ∙ sym (advance_add (N - 1) (3 * m) s) in
                let v = counted (vocabulary_part s N) in
                let p = counted (first_part s N m) in
                let q = counted (second_part s N m) in
                let first = put_as (ap (λ (x : ℕ). counted (policy_words (load_policy x N m))) a.seed) b.words in
                let second = put_as (ap (λ (x : ℕ). counted (policy_words (load_policy x N m))) runs) f.words in
                let all = put_as (append_assoc v p q) (put_then (put_then a.words first) second) in
                filled (all.text ∙ rw zero-add)

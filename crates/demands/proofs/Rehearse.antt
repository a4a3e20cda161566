-- Demand 1 of Rehearse, and what it promises, as theorems about its contract.
use Rattle.demands.proofs.Refusals.{refused_answer, answer_refused}
use Rattle.meaning.specs.declared.refusals.Refusal.{Refusal}
use Rattle.std.specs.Prelude.{Ok, Result}
use Prim.Native.Nat.{suc, zero, ℕ}
use mathlib.Core.Bool.{Bool, cond, false, true}
use mathlib.Core.List.{List, [], ◌∷◌}
use mathlib.Core.Logic.{◌↔◌}
use mathlib.Core.Path.{◌∙◌, ◌≡◌, ap, refl, sym}
use lib.Dec.{leb}
use lib.ListN.{length, take}
use lib.Seq.{take_at}
use native.Mathlib.Omega.{arith}
use Rattle.demands.proofs.Afterwards.{writes_first}
use Rattle.demands.proofs.Orders.{Follows, answering, follows_here, follows_on, refused_iff}
use Rattle.demands.proofs.Verdicts.{answered}
use Rattle.demands.specs.Enough.{Long}
use Rattle.demands.specs.Refusals.{FirstRefusal, rehearse_order, RefusedWith}
use Rattle.demands.specs.Slices.{WritesFirst}
use Rattle.meaning.specs.Answers.{accepted, filling_answer, result, wrote}
use Rattle.meaning.specs.Containment.{Decision, contained, escapes, resolve}
use Rattle.meaning.specs.Limits.{output_size, work_size}
use Rattle.meaning.specs.Lists.{cons, nil}
use Rattle.meaning.specs.Operations.{AcceptedInput, compliance, input_refusal, output_after, read_policy, read_second_policy, read_vocabulary, refuses, unless}
use Rattle.meaning.specs.Program.{bytes_of, next_part, part_at, printed, program}
use Rattle.meaning.specs.Promises.{IsRefusal}
use Rattle.rehearsal.proofs.Decided.{HasRoom}
use Rattle.rehearsal.proofs.Promises.{load_read, rehearse_accepted, rehearse_parts, rehearse_piped, rehearse_short, rehearse_uncrowded}
use Rattle.rehearsal.proofs.Promises.{rehearse_unrefused}
use Rattle.rehearsal.specs.Load.{RehearsePost, ThreeParts, first_part, load, load_first, load_refusal, load_second, load_vocabulary, rehearse, second_part}
use Rattle.rehearsal.specs.Load.{vocabulary_part}
use Rattle.theory.proofs.Refusals.{FillingFits, filling_fits}

-- ---- the order of refusals

rehearse_follows : (s N m o : ℕ) → Follows (rehearse_order s N m o) (rehearse s N m o).answer
unfolding rehearse
rehearse_follows s N m o = go (load_refusal s N m) (leb (length (load s N m)) o)
  where
    go : (n : ℕ) (b : Bool) →
        Follows (n ∷ cond b 0 23 ∷ []) (unless refuses n (cond b (record { answer = result (wrote (length (load s N m))); words = load s N m }) (refuses 23))).answer
    go (suc n) b = follows_here n
    go zero false = follows_on (follows_here 22)
    go zero true = answering (cons refl (cons refl nil))

accepted_all : {v p q : List ℕ} → AcceptedInput v p q → input_refusal v p q ≡ 0
unfolding input_refusal
accepted_all a = rw (a.vocabulary, a.first_policy, a.second_policy)

rehearse_fits : (s N m o : ℕ) → FillingFits o (rehearse s N m o)
unfolding rehearse
rehearse_fits s N m o = filling_fits (load_refusal s N m) o (load s N m)

-- ---- of the contract

module _ {s N m : ℕ} {o o' : List ℕ} {r : Result ℕ Refusal} (c : RehearsePost s N m o o' r) where
  -- it refuses n exactly when n is the first refusal in its order
  pub rehearse_refused_iff : {n : ℕ} → (RefusedWith r n) ↔ FirstRefusal n (rehearse_order s N m (length o))
  rehearse_refused_iff =
      let h = refused_iff (rehearse_follows s N m (length o)) in
      (λ e. h.0 (sym c.answer ∙ refused_answer wrote r e), λ f. answer_refused wrote r (c.answer ∙ h.1 f))

  -- a refusal leaves the output
  pub rehearse_refused_silent : {n : ℕ} → RefusedWith r n → o' ≡ o
  unfolding output_after
  rehearse_refused_silent e = c.output ∙ rw ((rehearse_fits s N m (length o)).none _ (sym c.answer ∙ refused_answer wrote r e))

  module _ {n : ℕ} (e : r ≡ Ok n) where
    told : (rehearse s N m (length o)).answer ≡ result (wrote n)
    told = sym c.answer ∙ ap filling_answer e

    -- n words are written at the front of the output, and what follows is as it was
    pub rehearse_output : WritesFirst n o o'
    rehearse_output = let h = (rehearse_fits s N m (length o)).some n told in writes_first _ h.0 h.1 c.output

    first_words : take n o' ≡ (rehearse s N m (length o)).words
    unfolding output_after
    first_words = let h = (rehearse_fits s N m (length o)).some n told in ap (take n) c.output ∙ take_at _ _ n (sym h.0)

    -- by the rule for the program's input they are the load's three parts, and nothing follows them
    pub rehearse_written_parts : ThreeParts (take n o') (vocabulary_part s N) (first_part s N m) (second_part s N m)
    rehearse_written_parts = rw first_words (rehearse_parts s N m (length o) n told)

    -- the readers accept all three
    pub rehearse_written_accepted : (read_vocabulary (part_at (take n o') 0) ≡ result accepted)
        × (read_policy (part_at (take n o') 0) (part_at (take n o') (next_part (take n o') 0)) ≡ result accepted)
        × (read_second_policy (part_at (take n o') 0) (part_at (take n o') (next_part (take n o') (next_part (take n o') 0))) ≡ result accepted)
    rehearse_written_accepted =
        let t = rehearse_written_parts in
        rw (t.first, t.second, t.third) (rehearse_accepted s N m (length o) n told)

    -- as bytes they are an input that the program takes for these three parts
    pub rehearse_program : program (bytes_of (take n o')) ≡
        printed (compliance (vocabulary_part s N) (first_part s N m) (second_part s N m) work_size output_size)
    rehearse_program = ap (λ (ws : List ℕ). program (bytes_of ws)) first_words ∙ rehearse_piped s N m (length o) n told

    -- and on which it gives a verdict: a load is never refused
    pub rehearse_decided : IsRefusal (compliance (vocabulary_part s N) (first_part s N m) (second_part s N m) work_size output_size).answer → ⊥
    rehearse_decided =
        let a = rehearse_unrefused s N m (length o) n told in
        let x = load_read s N m in
        answered (vocabulary_part s N) (first_part s N m) (second_part s N m) work_size output_size (record {
          within = record {
            accepted = accepted_all a;
            full = omega arith;
            free = rw (x.0, x.1, x.2) (rehearse_uncrowded s N m (length o) n told);
          };
          long = rw (x.0, x.1, x.2) (enough (resolve (load_vocabulary s N) (load_first s N m) (load_second s N m)) (rehearse_short s N m (length o) n told));
        })
      where
        enough : (d : Decision) → HasRoom (load_vocabulary s N) d → Long (load_vocabulary s N) output_size d (Unit {0})
        enough contained h = tt
        enough (escapes i k u) h = omega arith

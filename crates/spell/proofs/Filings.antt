-- What the tables hold, in order, is too long, does not fit, or is written.
use Rattle.std.specs.Prelude.{Err, Ok}
use Prim.Native.Nat.{◌*◌, ◌+◌, ◌-◌, ◌<◌, ◌≤◌, ℕ}
use mathlib.Core.Bool.{Bool, ◌||◌, cond, false, true}
use mathlib.Core.List.{List}
use mathlib.Core.Path.{◌∙◌, ◌≡◌, ap, refl, subst, sym}
use lib.Dec.{T, leb, ltb}
use lib.ListN.{drop, get_or, length, length-drop, length-take, take}
use native.Mathlib.Omega.{arith}
use borrow.Author.Tests.{le-leb, lt-leb, ltb-false}
use Rattle.arrangement.specs.Listing.{Arrangeable, Arranged}
use Rattle.arrangement.specs.Runs.{policy_items}
use Rattle.arrangement.specs.Steps.{Depths, Listable}
use Rattle.entries.specs.Entries.{Item, items_in, items_of}
use Rattle.entries.proofs.Runs.{items_behind, items_front}
use Rattle.frames.proofs.Work.{outputs_none}
use Rattle.layout.specs.declared.Tables.{Tables}
use Rattle.meaning.specs.Answers.{FillingResult, result, wrote}
use Rattle.meaning.specs.Limits.{most_records}
use Rattle.meaning.specs.Operations.{Outcome, output_after, refuses}
use Rattle.meaning.specs.Policy.{Policy}
use Rattle.meaning.specs.PolicyWords.{policy_words}
use Rattle.meaning.specs.declared.refusals.Refusal.TheVariants as refusal
use Rattle.spelling.specs.Operation.{filed}
use Rattle.spelling.specs.Spelling.{too_long}
use Rattle.spell.specs.Filing.{Filed, HoldsItems, Listed}
use Rattle.writing.proofs.Spelled.{items_too_long, items_words}
use Rattle.writing.proofs.Whole.{words_count}
use Rattle.writing.specs.Written.{Ordered, Writable, are_too_long, item_words, records_in}

module _ {w : List ℕ} {t : Tables} (g : Listed w t) where
  pub filing_listable : (ds : List ℕ) → most_records < length ds → Listable w t.individuals ds
  filing_listable ds h = record { rows = (let f = g.few in omega arith, g.long); before = g.before; room = (let f = g.few in omega arith) }

  pub filing_arrangeable : (o : List ℕ) → ((i : ℕ) → get_or o i 0 ≡ 0) → length o ≡ most_records → Arrangeable w t o
  filing_arrangeable o z e = record {
    items = record { long = g.long; known = λ i. let e = z i in omega arith };
    room = (let f = g.few in omega arith);
    few = omega arith;
  }

  module _ {ds o o' : List ℕ} {top : ℕ} (whole : length o' ≡ most_records) (a : Arranged w ds t o o' top) where
    -- the part of the order that has the entries
    abbrev pub ranged : List ℕ
    ranged = take (most_records - top) (drop top o')

    pub filing_ordered : Ordered w ranged
    filing_ordered = record {
      items = items_front (items_behind (record { long = g.long; known = a.known }) top) (most_records - top);
      few = (let e = length-take (most_records - top) (drop top o') in let f = length-drop top o' in omega arith);
    }

    -- what is not too long is few records
    pub filing_writable : {b : Bool} {n : ℕ} (out : List ℕ) → b ≡ are_too_long (items_of w ds ranged) → b ≡ false →
        ((ds : List ℕ) → n ≡ 6 * (records_in (items_of w ds ranged) + 1)) → n ≤ length out → Writable w ds ranged out
    unfolding are_too_long
    filing_writable out e f s k = record {
      ordered = filing_ordered;
      long = (let z = s ds in omega arith);
      few = ltb-false most_records (records_in (items_of w ds ranged)) (go (ltb most_records (records_in (items_of w ds ranged))) _ (sym e ∙ f));
    }
      where
        go : (x y : Bool) → x || y ≡ false → x ≡ false
        go true y e = absurd (let z : T false = subst T e tt in z)
        go false y e = refl

    module _ (d : Depths w t.individuals ds) {P : Policy} (h : HoldsItems w t P) where
      items : items_of w ds ranged ≡ policy_items P
      items = ap (λ (n : ℕ). items_in w ds o' top n) (sym whole) ∙ a.items ∙ h.items ds d

      long_told : {b : Bool} → b ≡ are_too_long (items_of w ds ranged) → b ≡ too_long P
      long_told e = e ∙ ap are_too_long items ∙ items_too_long P h.fronted

      words_told : {n : ℕ} → ((ds : List ℕ) → n ≡ 6 * (records_in (items_of w ds ranged) + 1)) → n ≡ length (policy_words P)
      words_told e =
          e ds ∙ ap (λ (l : List Item). 6 * (records_in l + 1)) items
          ∙ sym (words_count (policy_items P)) ∙ ap length (items_words P h.fronted)

      -- by what was found to be so
      abbrev told : Bool → Bool → Outcome FillingResult
      told long fits = cond long (refuses 43) (cond fits (record { answer = result (wrote (length (policy_words P))); words = policy_words P }) (refuses 23))

      pub filing_long : {b : Bool} (out : List ℕ) → b ≡ are_too_long (items_of w ds ranged) → b ≡ true → Filed P out out (Err refusal.Spelling)
      filing_long out e f =
          let l : filed P (length out) ≡ refuses 43 = ap (λ (c : Bool). told c (leb (length (policy_words P)) (length out))) (sym (long_told e) ∙ f) in
          record { answer = sym (ap (λ (x : Outcome FillingResult). x.answer) l); output = outputs_none out ∙ ap (λ (x : Outcome FillingResult). output_after x.words out) (sym l) }

      module _ {b : Bool} (e : b ≡ are_too_long (items_of w ds ranged)) (f : b ≡ false) {n : ℕ} (s : (ds : List ℕ) → n ≡ 6 * (records_in (items_of w ds ranged) + 1)) where
        not_long : too_long P ≡ false
        not_long = sym (long_told e) ∙ f

        pub filing_short : (out : List ℕ) → length out < n → Filed P out out (Err refusal.Output)
        filing_short out k =
            let short = lt-leb (length (policy_words P)) (length out) (let z = words_told s in omega arith) in
            let l : filed P (length out) ≡ refuses 23 =
            ap (λ (c : Bool). told c (leb (length (policy_words P)) (length out))) not_long ∙ ap (told false) short in
            record { answer = sym (ap (λ (x : Outcome FillingResult). x.answer) l); output = outputs_none out ∙ ap (λ (x : Outcome FillingResult). output_after x.words out) (sym l) }

        pub filing_written : (out out' : List ℕ) → n ≤ length out → out' ≡ output_after (item_words (items_of w ds ranged)) out → Filed P out out' (Ok n)
        filing_written out out' k i =
            let fits = le-leb (length (policy_words P)) (length out) (let z = words_told s in omega arith) in
            let l : filed P (length out) ≡ record { answer = result (wrote (length (policy_words P))); words = policy_words P } =
            ap (λ (c : Bool). told c (leb (length (policy_words P)) (length out))) not_long ∙ ap (told false) fits in
            record {
              answer = ap (λ (m : ℕ). result (wrote m)) (words_told s) ∙ sym (ap (λ (x : Outcome FillingResult). x.answer) l);
              output = i ∙ ap (λ (ws : List ℕ). output_after ws out) (ap item_words items ∙ items_words P h.fronted ∙ sym (ap (λ (x : Outcome FillingResult). x.words) l));
            }

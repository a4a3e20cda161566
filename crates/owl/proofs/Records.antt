-- The header, and three runs of records behind it: the axioms, the roles and the features that have many values.
use Prim.Native.Nat.{◌+◌, ◌<◌, ◌^◌, suc, ℕ}
use mathlib.Core.List.{List, [], ◌++◌, ◌∷◌, map}
use mathlib.Core.Path.{◌∙◌, ◌≡◌, ap, refl}
use lib.ListN.{length, length-append, length-map}
use native.Mathlib.Omega.{arith}
use Rattle.declarations.specs.declared.Counts.{Counts}
use Rattle.frames.specs.Rows.{put_at}
use Rattle.meaning.specs.Operations.{output_after}
use Rattle.meaning.specs.Vocabulary.{Axiom, axiom_words, many_feature, many_role, vocabulary_words}
use Rattle.owl.proofs.Looking.{class_size, feature_size, role_size}
use Rattle.owl.specs.Owl.{axioms_in, many_in, vocabulary_in}
use Rattle.owl.specs.Passes.{Many, Ready, axioms, naming, statements_of}
use Rattle.records.proofs.Writing.{headed_written, link_last, room_same, three_written}
use Rattle.records.specs.Written.{RoomFor, Written, link_at, linked_words, recorded}
use Rattle.theory.proofs.VocabularyWords.{axiom_length}
use Rattle.words.specs.Members.{members}
use Rattle.words.specs.Sets.{capacity}

-- names as records are axioms that name them
module _ (kind : ℕ) (many : ℕ → Axiom) (same : (x next : ℕ) → axiom_words (many x) next ≡ kind ∷ (x ∷ (0 ∷ (next ∷ [])))) where
  names_linked : (last k : ℕ) (l : List ℕ) → linked_words (naming kind).words last k l ≡ linked_words axiom_words last k (map many l)
  names_linked last k [] = refl
  names_linked last k (x ∷ l) = rw (same x (link_at last k), names_linked last (suc k) l)

  names_written : {last k r : ℕ} (l : List ℕ) {o o' : List ℕ} → Written (naming kind) last k l o o' r → Written axioms last k (map many l) o o' r
  unfolding recorded
  names_written {last} {k} l {o} w =
      record {
        words = w.words ∙ rw (names_linked last k l);
        count = rw (length-map l many) w.count;
        same = w.same;
      }

module _ {text roles features : List ℕ} (m : Many text roles features) where
  parts : (vocabulary_in (statements_of text)).axioms ≡ axioms_in (statements_of text) ++ (map many_role (members roles) ++ map many_feature (members features))
  unfolding vocabulary_in many_in
  parts = rw (m.same_roles, m.same_features)

  pub all_size : length (vocabulary_in (statements_of text)).axioms ≡ length (axioms_in (statements_of text)) + length (members roles) + length (members features)
  all_size =
      rw (
        parts,
        length-append (axioms_in (statements_of text)) (map many_role (members roles) ++ map many_feature (members features)),
        length-append (map many_role (members roles)) (map many_feature (members features)),
        length-map (members roles) many_role,
        length-map (members features) many_feature,
      )
      (omega arith)

  module _ {last : ℕ} {o : List ℕ} (room : RoomFor 4 last 1 (vocabulary_in (statements_of text)).axioms o) {o₁ : List ℕ} (long : length o₁ ≡ length o) where
    pub axioms_room : RoomFor 4 last 1 (axioms_in (statements_of text)) o₁
    axioms_room = record { room = room_same long room.room; within = omega (arith, room.within, all_size) }

    module _ {o₂ : List ℕ} {k : ℕ} (a : Written axioms last 1 (axioms_in (statements_of text)) o₁ o₂ k) where
      pub roles_room : (capacity roles < 2 ^ 32) × RoomFor 4 last k (members roles) o₂
      roles_room =
          (omega (arith, m.role_words), record { room = room_same (a.same ∙ long) room.room; within = omega (arith, room.within, all_size, a.count) })

      module _ {kind : ℕ} {o₃ : List ℕ} {n : ℕ} (b : Written (naming kind) last k (members roles) o₂ o₃ n) where
        pub features_room : (capacity features < 2 ^ 32) × RoomFor 4 last n (members features) o₃
        features_room =
            (omega (arith, m.feature_words), record { room = room_same (b.same ∙ a.same ∙ long) room.room; within = omega (arith, room.within, all_size, a.count, b.count) })

        pub all_long : {other : ℕ} {o₄ : List ℕ} {r : ℕ} → Written (naming other) last n (members features) o₃ o₄ r → length o₄ ≡ length o
        all_long d = d.same ∙ b.same ∙ a.same ∙ long

      module _ {o₃ o₄ : List ℕ} {n r : ℕ} (b : Written (naming 6) last k (members roles) o₂ o₃ n)
          (d : Written (naming 7) last n (members features) o₃ o₄ r) where
        all_recorded : o₄ ≡ recorded axioms last 1 (vocabulary_in (statements_of text)).axioms o₁
        all_recorded =
            let here : RoomFor 4 last 1 (vocabulary_in (statements_of text)).axioms o₁ = record { room = room_same long room.room; within = room.within } in
            (three_written axiom_length parts here a (names_written 6 many_role (λ x next. refl) (members roles) b)
            (names_written 7 many_feature (λ x next. refl) (members features) d)).words

        pub all_words : {table : List ℕ} {c : Counts} → Ready text table c → last ≡ length (vocabulary_in (statements_of text)).axioms →
            o₁ ≡ put_at o 0 (c.classes ∷ (c.roles ∷ (c.features ∷ (link_at last 0 ∷ [])))) → o₄ ≡ output_after (vocabulary_words (vocabulary_in (statements_of text))) o
        unfolding vocabulary_words vocabulary_in
        all_words {c = c} w e p =
            let K = vocabulary_in (statements_of text) in
            let header = c.classes ∷ (c.roles ∷ (c.features ∷ (link_at last 0 ∷ []))) in
            all_recorded ∙ ap (recorded axioms last 1 K.axioms) p ∙ headed_written axioms header last K.axioms o refl e (omega (arith, room.room.long))
            ∙ rw (link_last axioms.words last 0 K.axioms (omega arith), class_size w, role_size w, feature_size w)

-- Records written one after another into an output, the number of the last one known.
use Rattle.std.specs.Prelude.{◌*◌, ◌+◌, ◌<◌, ◌^◌, ◌≤◌, suc, ℕ, cond, List, [], ◌++◌, ◌∷◌, ◌≡◌, eqb, length}
use Rattle.frames.specs.Rows.{put_at}

-- how records are written: how many words each has, and which, with its link
pub record Format (A : Type 0) : Type 0 where
  pub width : ℕ
  pub words : A → ℕ → List ℕ

abbrev pub Wide : {A : Type 0} → Format A → Type 0
Wide {A} f = (x : A) (next : ℕ) → length (f.words x next) ≡ f.width

-- the header and so many records have room in the output, and a word holds each link
pub record Room (width last : ℕ) (o : List ℕ) : Type 0 where
  pub long : width * (last + 1) ≤ length o
  pub few : last < 2 ^ 32

-- room for the items at the records from k on, and none of them is after the last
pub record RoomFor {A : Type 0} (width last k : ℕ) (l : List A) (o : List ℕ) : Type 0 where
  pub room : Room width last o
  pub within : k + length l ≤ last + 1

-- record k's link
abbrev pub link_at : ℕ → ℕ → ℕ
link_at last k = cond (eqb k last) 0 (k + 1)

abbrev pub linked_words : {A : Type 0} → (A → ℕ → List ℕ) → ℕ → ℕ → List A → List ℕ
linked_words words last k [] = []
linked_words words last k (x ∷ l) = words x (link_at last k) ++ linked_words words last (suc k) l

-- the output with the items at the records from k on
unfoldable pub recorded : {A : Type 0} → Format A → ℕ → ℕ → List A → List ℕ → List ℕ
recorded f last k l o = put_at o (f.width * k) (linked_words f.words last k l)

-- the items stand at the records from k on, in the place of what stood there, and r is the record after them
pub record Written {A : Type 0} (f : Format A) (last k : ℕ) (l : List A) (o o' : List ℕ) (r : ℕ) : Type 0 where
  pub words : o' ≡ recorded f last k l o
  pub count : r ≡ k + length l
  pub same : length o' ≡ length o

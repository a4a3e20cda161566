-- A chain of records, whatever their width: what stands along it, and what each of its records is known to be.
use Rattle.std.specs.Prelude.{ℕ, List, [], ◌∷◌, ◌≡◌}
use Rattle.meaning.specs.Records.{Name, Onward}

-- records that are chained: the last one's number, a record's next, what stands where a chain ends, what does from a record on, by what
-- does from the next one on, and what a record is known to be
pub record Links (S : Type 0) : Type 1 where
  pub last : ℕ
  pub next : ℕ → ℕ
  pub none : S
  pub put : ℕ → S → S
  pub Sound : ℕ → Type 0

-- from record k on this stands along the chain, and each record on it is sound
pub data Along {S : Type 0} (c : Links S) : ℕ → S → Type 0 where
  along_end : {k : ℕ} → k ≡ 0 → Along c k c.none
  along_more : {k : ℕ} {l : S} → Name c.last k → Onward c.last k (c.next k) → c.Sound k → Along c (c.next k) l →
      Along c k (c.put k l)

-- a list, an item of it for each record
abbrev pub listed : {A : Type 0} → ℕ → (ℕ → ℕ) → (ℕ → A) → (ℕ → Type 0) → Links (List A)
listed last next item Sound = record { last = last; next = next; none = []; put = λ k l. item k ∷ l; Sound = Sound }

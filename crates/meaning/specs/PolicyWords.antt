-- The words that are written for a policy: its records numbered in walk order.
use Rattle.std.specs.Prelude.{◌+◌, suc, ℕ, List, [], ◌∷◌}
use Rattle.meaning.specs.Accepted.{count}
use Rattle.meaning.specs.Policy.{Chain, Policy, class, end, impossible, interval, some}
use Rattle.meaning.specs.Records.{link_to}

-- the link to a chain that is written from record k on
abbrev pub chain_link : ℕ → Chain → ℕ
chain_link k end = 0
chain_link k (class a next) = k
chain_link k (impossible next) = k
chain_link k (some r child next) = k
chain_link k (interval f lo hi next) = k

-- a record's words, in front of others
abbrev pub record_words : ℕ → ℕ → ℕ → ℕ → ℕ → ℕ → List ℕ → List ℕ
record_words kind a lo hi child next rest = kind ∷ (a ∷ (lo ∷ (hi ∷ (child ∷ (next ∷ rest)))))

-- the records of a chain from record k on, in front of other words: a record, then its child chain, then its next
abbrev pub chain_words : ℕ → Chain → List ℕ → List ℕ
chain_words k end rest = rest
chain_words k (class a next) rest = record_words 1 a 0 0 0 (chain_link (suc k) next) (chain_words (suc k) next rest)
chain_words k (impossible next) rest = record_words 2 0 0 0 0 (chain_link (suc k) next) (chain_words (suc k) next rest)
chain_words k (some r child next) rest =
    record_words 3 r 0 0 (chain_link (suc k) child) (chain_link (suc k + count child) next)
    (chain_words (suc k) child (chain_words (suc k + count child) next rest))
chain_words k (interval f lo hi next) rest = record_words 4 f lo hi 0 (chain_link (suc k) next) (chain_words (suc k) next rest)

abbrev pub term_words : ℕ → Policy → List ℕ
term_words k [] = []
term_words k (c ∷ P) =
    record_words 5 0 0 0 (chain_link (suc k) c) (link_to (suc k + count c) P) (chain_words (suc k) c (term_words (suc k + count c) P))

unfoldable pub policy_words : Policy → List ℕ
policy_words P = record_words (link_to 1 P) 0 0 0 0 0 (term_words 1 P)

-- The buffers that the program lends: for the input's words, the work and the output.
use Rattle.std.specs.Prelude.{◌*◌, ◌≤◌, ℕ, List, ◌≡◌, length}
use Rattle.meaning.specs.Limits.{most_bytes, output_size, work_size}

abbrev pub Buffers : List ℕ → List ℕ → List ℕ → Type 0
Buffers words work out = (most_bytes ≤ 4 * length words) × (length work ≡ work_size) × (length out ≡ output_size)

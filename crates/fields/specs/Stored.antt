-- The biases and weights that follow a record's fixed part.
-- Assumes nothing.
use Rattle.std.specs.Prelude.{ℕ, zero, suc, ◌+◌, ◌*◌, List, [], ◌∷◌}
use Rattle.fields.specs.Faults.{first, first_fault, bias_fault, cut_fault}
use Rattle.fields.specs.Bytes.{i32_at}

-- the biases in order, from a place
unfoldable pub bias_faults : List ℕ → ℕ → ℕ → ℕ
bias_faults s at zero = 0
bias_faults s at (suc n) = first (bias_fault (i32_at s at)) (bias_faults s (at + 4) n)

-- how many bytes the biases and the weights of n outputs take, w weights each
unfoldable pub stored_len : ℕ → ℕ → ℕ
stored_len n w = 4 * n + n * w

-- they are present, both, and then each bias is in its range
unfoldable pub stored_fault : List ℕ → ℕ → ℕ → ℕ → ℕ
stored_fault s at n w = first_fault (cut_fault s at (stored_len n w) ∷ bias_faults s at n ∷ [])

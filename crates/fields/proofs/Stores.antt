-- The biases and weights that follow a record's fixed part.
-- Assumes nothing.
use Prim.Native.Nat.{ℕ, ◌+◌, ◌*◌, ◌^◌, ◌≤◌, ◌<◌}
use mathlib.Core.Path.{◌≡◌}
use mathlib.Core.List.{List}
use native.Mathlib.Omega.{arith}
use lib.IntN.{nat_abs}
use lib.ListN.{length}
use Rattle.fields.specs.Bytes.{i32_at}
use Rattle.fields.specs.Faults.{cut_fault}
use Rattle.fields.specs.Stored.{bias_faults, stored_len, stored_fault}
use Rattle.fields.proofs.Tests.{first_both, cut_there}
use Rattle.fields.proofs.Biases.{biases_in}

pub stored_there : (s : List ℕ) (at n w : ℕ) → at ≤ length s → cut_fault s at (stored_len n w) ≡ 0 → at + 4 * n ≤ length s
unfolding stored_len
stored_there s at n w a p = omega (arith, cut_there s at (4 * n + n * w) a p)

-- what stands at a place: n biases in their range, and w weights for each
pub record Stored (s : List ℕ) (at n w : ℕ) : Type 0 where
  pub there : at + stored_len n w ≤ length s
  pub biases : (f : ℕ) → f < n → nat_abs (i32_at s (at + 4 * f)) ≤ 2 ^ 30

pub stored_in : (s : List ℕ) (at n w : ℕ) → at ≤ length s → stored_fault s at n w ≡ 0 → Stored s at n w
unfolding stored_fault
stored_in s at n w a p =
    let q = first_both (cut_fault s at (stored_len n w)) (bias_faults s at n) p in
    record { there = cut_there s at (stored_len n w) a q.0; biases = biases_in s at n q.1 }

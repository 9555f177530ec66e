-- What it is to be held between two bytes.
-- Assumes nothing.
use Prim.Native.Nat.{ℕ, ◌≤◌}
use native.Mathlib.Omega.{arith}
use lib.IntN.{ℤ, pos, negsuc}
use Rattle.numbers.specs.Finish.{held}

-- what a number gives lies between the two
pub held-within : (x : ℤ) (low top : ℕ) → low ≤ top → (low ≤ held x low top) × (held x low top ≤ top)
held-within (pos n) low top l = omega arith
held-within (negsuc n) low top l = omega arith

-- The sizes of an add's numbers, which all fit 32 bits.
-- Assumes nothing.
use Prim.Native.Nat.{ℕ, ◌*◌, ◌^◌, ◌<◌, ◌≤◌}
use native.Mathlib.Omega.{arith}
use lib.IntN.{ℤ, pos, nat_abs, ◌+ℤ◌, ◌-ℤ◌, ◌*ℤ◌}
use mir.Syntax.{w32}
use mir.Val.{SFits}
use Rattle.numbers.specs.Addition.{offset, summed}
use Rattle.numbers.proofs.Whole.{itself, nat, plus, less, times, size, small_fits}
use Rattle.numbers.proofs.Rescaled.{rescaled_small}

module _ (q z m n : ℕ) (hq : q ≤ 255) (hz : z ≤ 255) (hm : m < 2 ^ 31) where
  -- a rescaled offset is within 255 × 2^20 of zero
  pub offset-small : nat_abs (offset q z m n) ≤ 255 * 2 ^ 20
  offset-small =
      omega (arith, rescaled_small ((pos q -ℤ pos z) *ℤ pos (2 ^ 20)) m n hm, size (times (less (nat q) (nat z)) (nat (2 ^ 20))))

  -- a rescaled offset fits 32 bits
  pub offset-fits : SFits w32 (offset q z m n)
  offset-fits = small_fits w32 _ (omega (arith, offset-small))

-- two numbers within 2^28 of zero, as two rescaled offsets are
module _ (x y : ℤ) (hx : nat_abs x ≤ 2 ^ 28) (hy : nat_abs y ≤ 2 ^ 28) where
  -- their sum is within 2^29
  pub sum-small : nat_abs (x +ℤ y) ≤ 2 ^ 29
  sum-small = omega (arith, size (plus (itself x) (itself y)), size (itself x), size (itself y))

  -- their sum fits 32 bits
  pub sum_fits : SFits w32 (x +ℤ y)
  sum_fits = small_fits w32 _ (omega (arith, sum-small))

  -- their sum rescaled is within 2^29
  pub summed-small : (m n : ℕ) → m < 2 ^ 31 → nat_abs (summed x y m n) ≤ 2 ^ 29
  summed-small m n hm = omega (arith, sum-small, rescaled_small (x +ℤ y) m n hm)

  -- their sum rescaled fits 32 bits
  pub summed-fits : (m n : ℕ) → m < 2 ^ 31 → SFits w32 (summed x y m n)
  summed-fits m n hm = small_fits w32 _ (omega (arith, summed-small m n hm))

-- The biases: the fault of one and of all in order, and what a 0 says.
-- Assumes nothing.
use Prim.Native.Nat.{ℕ, zero, suc, ◌+◌, ◌-◌, ◌*◌, ◌^◌, ◌≤◌, ◌<◌}
use mathlib.Core.Path.{◌≡◌, sym, subst}
use mathlib.Core.List.{List}
use native.Mathlib.Omega.{arith}
use native.Mathlib.Numerals.{sub-one}
use borrow.Author.Tests.{leb-true}
use lib.Dec.{leb}
use lib.IntN.{ℤ, nat_abs}
use Rattle.fields.specs.Bytes.{i32_at}
use Rattle.fields.specs.Faults.{first, bias_fault}
use Rattle.fields.specs.Stored.{bias_faults}
use Rattle.fields.proofs.Tests.{unless-none, first_both}

pub bias_in : (b : ℤ) → bias_fault b ≡ 0 → nat_abs b ≤ 2 ^ 30
unfolding bias_fault
bias_in b p = leb-true (nat_abs b) (2 ^ 30) (unless-none (leb (nat_abs b) (2 ^ 30)) 1 p)

-- one bias, and those after it
bias_step :
    (s : List ℕ) (at n : ℕ) →
    0 < n →
    bias_faults s at n ≡ first (bias_fault (i32_at s at)) (bias_faults s (at + 4) (n - 1))
unfolding bias_faults
bias_step s at zero p = omega arith
bias_step s at (suc n) p = rw sub-one

-- the bias f of count, and those after it
pub bias_rest :
    (s : List ℕ) (from f count : ℕ) →
    f < count →
    bias_faults s (from + 4 * f) (count - f) ≡ first (bias_fault (i32_at s (from + 4 * f))) (bias_faults s (from + 4 * (f + 1)) (count - (f + 1)))
bias_rest s from f count p =
    let e : from + 4 * f + 4 ≡ from + 4 * (f + 1) = omega arith in
    let k : count - f - 1 ≡ count - (f + 1) = omega arith in
    rw (sym e, sym k) (bias_step s (from + 4 * f) (count - f) (omega arith))

-- with no fault each bias is in its range
pub biases_in :
    (s : List ℕ) (at n : ℕ) →
    bias_faults s at n ≡ 0 →
    (f : ℕ) →
    f < n →
    nat_abs (i32_at s (at + 4 * f)) ≤ 2 ^ 30
unfolding bias_faults
biases_in s at zero p f h = absurd (omega arith)
biases_in s at (suc n) p zero h =
    subst (λ (k : ℕ). nat_abs (i32_at s k) ≤ 2 ^ 30) (omega arith) (bias_in (i32_at s at) (first_both _ _ p).0)
biases_in s at (suc n) p (suc f) h =
    subst (λ (k : ℕ). nat_abs (i32_at s k) ≤ 2 ^ 30) (omega arith)
    (biases_in s (at + 4) n (first_both _ _ p).1 f (omega arith))

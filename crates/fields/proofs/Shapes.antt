-- Shapes and sizes of tensors.
-- Assumes nothing.
use Prim.Native.Nat.{ℕ, ◌+◌, ◌*◌, ◌≤◌}
use mathlib.Core.Path.{◌≡◌, refl}
use mathlib.Core.Bool.{Bool, true, false, cond}
use native.Mathlib.Omega.{arith}
use native.Mathlib.Nat.{le_trans, mul-le-mul_left, mul-le-mul_right}
use borrow.Author.Tests.{leb-true, eqb-true}
use lib.Dec.{leb, eqb}
use Rattle.fields.specs.Faults.{unless}
use Rattle.fields.specs.Shape.{bytes_of, size_fault, same_shape}
use Rattle.fields.specs.Asked.{SmallShape, GoodShape}
use Rattle.fields.specs.declared.shape.Shape.{Shape}
use Rattle.fields.proofs.Tests.{cond_none, unless-none}

-- a product of two numbers with bounds
pub mul_most : (a b m n : ℕ) → a ≤ m → b ≤ n → a * b ≤ m * n
mul_most a b m n p q = le_trans (mul-le-mul_left a q) (mul-le-mul_right n p)

-- no fault of its size: the tensor's bytes and all bytes so far are within their limits
pub size_in : (s : Shape) (total : ℕ) → size_fault s total ≡ 0 → (bytes_of s ≤ 16384) × (total + bytes_of s ≤ 65536)
unfolding size_fault
size_in s total p =
    let q = cond_none (leb (bytes_of s) 16384) (unless (leb (total + bytes_of s) 65536) 3) 2 p in
    (leb-true _ _ q.0, leb-true _ _ (unless-none (leb (total + bytes_of s) 65536) 2 q.1))

-- the size of a tensor that the format takes can be worked out
pub small : {s : Shape} → GoodShape s → SmallShape s
small g = record { rows-small = omega arith; columns-small = omega arith; channels-small = omega arith }

-- a shape with few bytes has few of each
pub good_shape : (s : Shape) → 1 ≤ s.rows → 1 ≤ s.columns → 1 ≤ s.channels → s.channels ≤ 256 → bytes_of s ≤ 16384 → GoodShape s
unfolding bytes_of
good_shape s a b d few h =
    let rc = mul-le-mul_left s.rows b in
    let cr = mul-le-mul_right s.columns a in
    let e = mul-le-mul_left (s.rows * s.columns) d in
    let g : 1 ≤ s.rows * s.columns = omega arith in
    let f = mul-le-mul_right s.channels g in
    record {
      rows-some = a;
      columns-some = b;
      channels-some = d;
      rows_few = omega arith;
      columns-few = omega arith;
      channels-few = few;
      bytes_few = h;
    }

both_true : (t u : Bool) → cond t u false ≡ true → (t ≡ true) × (u ≡ true)
both_true true u p = (refl, p)
both_true false true p = (p, refl)
both_true false false p = (p, p)

-- shapes that the test finds the same are equal
pub same_equal : (a b : Shape) → same_shape a b ≡ true → a ≡ b
unfolding same_shape
same_equal a b p =
    let rows = both_true (eqb a.rows b.rows) _ p in
    let rest = both_true (eqb a.columns b.columns) _ rows.1 in
    let r = eqb-true _ _ rows.0 in
    let c = eqb-true _ _ rest.0 in
    let h = eqb-true _ _ rest.1 in
    λ k. record { rows = r k; columns = c k; channels = h k }

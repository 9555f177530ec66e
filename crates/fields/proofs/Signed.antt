-- Numbers that the file's bytes make: how large they are, and the signed ones.
-- Assumes nothing.
use Prim.Native.Nat.{ℕ, suc, ◌-◌, ◌^◌, ◌≤◌, ◌<◌}
use mathlib.Core.Path.{◌≡◌, sym, ap, ◌∙◌}
use native.Mathlib.Omega.{arith}
use borrow.Author.Tests.{lt-ltb, le-ltb}
use lib.IntN.{pos, negsuc, nat_abs}
use native.Mathlib.Decide.{dec_lt}
use mir.Syntax.{w32}
use mir.Val.{to_z}
use mir.ValLaws.{to_z_pos}
use Rattle.numbers.proofs.Whole.{◌≐◌⊖◌, nat, again, less, equal, size}
use Rattle.fields.specs.Bytes.{signed}

-- from 2^31 on a number stands for the one 2^32 below it
pub signed_low : (x : ℕ) → x < 2 ^ 31 → signed x ≡ pos x
unfolding signed
signed_low x p = simp (lt-ltb x (2 ^ 31) p)

pub signed_high : (x : ℕ) → 2 ^ 31 ≤ x → signed x ≐ x ⊖ 2 ^ 32
unfolding signed
signed_high x p = simp (le-ltb x (2 ^ 31) p) (again x (2 ^ 32) (less (nat x) (nat (2 ^ 32))) (omega arith))

pub size_low : (x : ℕ) → x < 2 ^ 31 → nat_abs (signed x) ≡ x
size_low x p = ap nat_abs (signed_low x p) ∙ omega (arith, size (nat x))

pub size_high : (x : ℕ) → 2 ^ 31 ≤ x → x ≤ 2 ^ 32 → nat_abs (signed x) ≡ 2 ^ 32 - x
size_high x p q = omega (arith, size (signed_high x p))

-- the machine's number of the same 32 bits
pub signed_bits : (x : ℕ) → x < 2 ^ 32 → to_z w32 x ≡ signed x
signed_bits x p = by_sign (dec_lt x (2 ^ 31)) where
  by_sign : Dec (x < 2 ^ 31) → to_z w32 x ≡ signed x
  by_sign (yes h) = to_z_pos w32 x h ∙ sym (signed_low x h)
  by_sign (no h) =
      let below : negsuc (2 ^ 32 - suc x) ≐ x ⊖ 2 ^ 32 = record { is = omega arith } in
      simp (le-ltb x (2 ^ 31) (omega arith)) (equal below (signed_high x (omega arith)) (omega arith))

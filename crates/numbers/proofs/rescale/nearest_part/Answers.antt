-- `numbers::rescale::nearest_part` meets its contract: each number is the one that `Shifted` has, and the last is the nearest whole.
use mathlib.Core.Path.{◌≡◌, refl, ◌∙◌, subst⁻¹}
use mathlib.Core.Bool.{Bool}
use Prim.Native.Nat.{ℕ, ◌-◌, ◌*◌, ◌/◌, ◌%◌, ◌^◌, ◌<◌, ◌≤◌}
use native.Mathlib.Omega.{arith}
use borrow.Author.Rules.{sfits_of}
use lib.Dec.{lit<}
use lib.IntN.{ℤ, pos, ◌+ℤ◌}
use lib.Pow.{pow_pos, pow_mono, shl_exact}
use lib.Signed.{lt_z, shr_z}
use mir.Syntax.{w32}
use mir.Val.{SFits, to_z, of_z}
use mir.ValLaws.{to_z-of_z, to_z_pos}
use Rattle.numbers.specs.Rescale.{floor, nearest}
use Rattle.numbers.proofs.Whole.{flag}
use Rattle.numbers.proofs.Rescaled.{nearest-fits}
use Rattle.numbers.proofs.Shifted.{rest, rest_few, most, floor-fits, nearest_shifted}
use Rattle.numbers.proofs.rescale.nearest_part.Goals as goal

-- 2^shift as the machine makes it
step : (c : goal.After-from-2) → 1 * 2 ^ c.args.shift % 2 ^ 32 ≡ 2 ^ c.args.shift
step c = omega (arith, shl_exact {a = 1} 1 c.args.shift 32 (lit< tt) (omega (arith, c.requires)))

bound : (c : goal.After-from-2) → (0 < 2 ^ c.args.shift) × (2 ^ c.args.shift ≤ 2 ^ 31)
bound c = (pow_pos c.args.shift, pow_mono {j = 31} (omega (arith, c.requires)))

given : (c : goal.After-from-2) → to_z w32 (of_z w32 c.args.z) ≡ c.args.z
given c = to_z-of_z w32 c.args.z c.ranges.z

abbrev mask : goal.After-from-2 → ℕ
mask c = 1 * 2 ^ c.args.shift % 2 ^ 32 - 1

-- whether z is below zero
abbrev below : goal.After-from-2 → Bool
below c = lt_z c.args.z (pos 0)

-- the largest rest that adds nothing
abbrev limit : goal.After-from-2 → ℤ
limit c = to_z w32 (of_z w32 (shr_z (to_z w32 (mask c)) 2)) +ℤ to_z w32 (of_z w32 c.from.result)

limit_is : (c : goal.After-from-2) → limit c ≡ pos (most (below c) c.args.shift)
limit_is c =
    let d = 2 ^ c.args.shift in
    rw (
      step c,
      to_z_pos w32 (d - 1) (omega (arith, bound c)),
      to_z_pos w32 ((d - 1) / 2) (omega (arith, bound c)),
      to_z-of_z w32 c.from.result (sfits_of c.from.type_inv),
      c.from.ensures,
      given c,
    ) refl

limit-fits : (c : goal.After-from-2) → SFits w32 (limit c)
limit-fits c = subst⁻¹ (SFits w32) (limit_is c) (record { sfits = omega (arith, bound c, (flag (below c)).1) })

-- the floor, and one more where the rest is above
abbrev sum : goal.After-from-2 → ℤ
sum c = to_z w32 (of_z w32 (shr_z (to_z w32 (of_z w32 c.args.z)) (2 ^ c.args.shift))) +ℤ to_z w32 (of_z w32 c.from-2.result)

sum_is : (c : goal.After-from-2) → sum c ≡ nearest c.args.z (2 ^ c.args.shift)
sum_is c =
    let n = c.args.shift in
    let z = c.args.z in
    rw (
      to_z-of_z w32 c.from-2.result (sfits_of c.from-2.type_inv),
      c.from-2.ensures,
      to_z-of_z w32 (limit c) (limit-fits c),
      limit_is c,
      step c,
      given c,
      to_z-of_z w32 (floor z (2 ^ n)) (floor-fits z n c.ranges.z),
      to_z_pos w32 (rest z n) (omega (arith, rest_few z n, bound c)),
    ) (nearest_shifted z n (omega (arith, c.requires)) c.ranges.z)

pub overflow_add-result : goal.overflow_add-result
overflow_add-result c = subst⁻¹ (SFits w32) (sum_is c) (nearest-fits w32 c.args.z (2 ^ c.args.shift) (bound c).0 c.ranges.z)

pub returns : goal.returns
returns c = to_z-of_z w32 (sum c) (overflow_add-result c) ∙ sum_is c

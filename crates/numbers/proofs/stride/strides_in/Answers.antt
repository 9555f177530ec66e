-- `numbers::stride::strides_in` meets its contract: for each stride the shift leaves the quotient.
use mathlib.Core.Path.{◌≡◌, ap, ◌∙◌}
use Prim.Native.Nat.{ℕ, zero, suc, ◌+◌, ◌*◌, ◌-◌, ◌/◌, ◌^◌, ◌≤◌, ◌<◌}
use native.Mathlib.Omega.{arith}
use Rattle.numbers.proofs.stride.strides_in.Goals as goal

-- for the four strides: a short length times 2^17 / stride rounded up, over 2^17, is the length over the stride
by-inverse : (length s : ℕ) → length < 2 ^ 15 → 0 < s → s ≤ 4 → length * ((2 ^ 17 + s - 1) / s) / 2 ^ 17 ≡ length / s
by-inverse l zero h p q = absurd (omega arith)
by-inverse l (suc zero) h p q = omega arith
by-inverse l (suc (suc zero)) h p q = omega arith
by-inverse l (suc (suc (suc zero))) h p q = omega arith
by-inverse l (suc (suc (suc (suc zero)))) h p q = omega arith
by-inverse l (suc (suc (suc (suc (suc s))))) h p q = absurd (omega arith)

pub returns : goal.returns
returns c =
    ap (λ k. c.args.length * k / 2 ^ 17) c.inverse.ensures ∙
    by-inverse c.args.length c.args.stride c.requires.0 c.requires.1 c.requires.2

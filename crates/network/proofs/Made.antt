-- A tensor that a layer makes: what is told of it by its number.
-- Assumes nothing.
use Prim.Native.Nat.{ℕ, suc, ◌-◌}
use mathlib.Core.Path.{◌≡◌, ap}
use native.Mathlib.Omega.{arith}

-- layer t − 1 makes tensor t
pub made_by : {A : Type 0} (f : ℕ → A) (t : ℕ) → (t ≡ 0 → ⊥) → f (suc (t - 1)) ≡ f t
made_by f t h = ap f (omega arith)

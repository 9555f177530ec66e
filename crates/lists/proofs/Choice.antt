-- What `every` and `some` say of the numbers below their bound.
-- Assumes nothing.
use Prim.Native.Nat.{ℕ, zero, suc, ◌<◌}
use mathlib.Core.Path.{◌≡◌, refl}
use mathlib.Core.Bool.{Bool, true, false, ◌&&◌, ◌||◌, and-eq-true_iff, false≢true}
use native.Mathlib.Omega.{arith}
use native.Mathlib.Decide.{ℕ_discrete}
use Rattle.lists.specs.Choice.{every, some}

or_either : (P : Type 0) (a b : Bool) → (a ≡ true → P) → (b ≡ true → P) → a || b ≡ true → P
or_either P true b f g h = f refl
or_either P false b f g h = g h

or_right : (a b : Bool) → b ≡ true → a || b ≡ true
or_right true b h = refl
or_right false b h = h

and_no : (a b : Bool) → b ≡ false → a && b ≡ false
and_no true b h = h
and_no false b h = refl

module _ (p : ℕ → Bool) where
  pub every-at : (n : ℕ) → every n p ≡ true → (t : ℕ) → t < n → p t ≡ true
  unfolding every
  every-at zero h t k = absurd (omega arith)
  every-at (suc n) h t k =
      let w = (and-eq-true_iff (every n p) (p n)).0 h in
      elim (ℕ_discrete t n) [ yes e ↦ rw e w.1 | no e ↦ every-at n w.0 t (omega arith) ]

  pub every_more : (n : ℕ) → every n p ≡ true → p n ≡ true → every (suc n) p ≡ true
  unfolding every
  every_more n h k = rw (h, k)

  pub every-all : (n : ℕ) → ((t : ℕ) → t < n → p t ≡ true) → every n p ≡ true
  unfolding every
  every-all zero h = refl
  every-all (suc n) h = every_more n (every-all n (λ t k. h t (omega arith))) (h n (omega arith))

  pub every-not : (n t : ℕ) → t < n → p t ≡ false → every n p ≡ false
  unfolding every
  every-not zero t k h = absurd (omega arith)
  every-not (suc n) t k h =
      elim (ℕ_discrete t n) [ yes e ↦ and_no (every n p) (p n) (rw e at h) | no e ↦ rw (every-not n t (omega arith) h) ]

  pub some_at : (n : ℕ) → some n p ≡ true → (t : ℕ) × (t < n) × (p t ≡ true)
  unfolding some
  some_at zero h = absurd (false≢true h)
  some_at (suc n) h =
      or_either ((t : ℕ) × (t < suc n) × (p t ≡ true)) (some n p) (p n)
      (λ e.
      let w = some_at n e in
      (w.0, omega arith, w.2))
      (λ e. (n, omega arith, e))
      h

  pub at_some : (n t : ℕ) → t < n → p t ≡ true → some n p ≡ true
  unfolding some
  at_some zero t k h = absurd (omega arith)
  at_some (suc n) t k h =
      elim (ℕ_discrete t n) [ yes e ↦ or_right (some n p) (p n) (rw e at h) | no e ↦ rw (at_some n t (omega arith) h) ]

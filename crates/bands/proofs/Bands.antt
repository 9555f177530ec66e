-- Bands: what one holds, the smallest that covers two, and the smallest that covers the rows that a test picks.
-- Assumes nothing.
use Prim.Native.Nat.{ℕ, zero, suc, ◌≤◌, ◌<◌, ◌-◌, min, max}
use mathlib.Core.Path.{◌≡◌, refl}
use mathlib.Core.Logic.{◌⊎◌, inl, inr}
use mathlib.Core.Bool.{Bool, true, false}
use native.Mathlib.Omega.{arith}
use native.Mathlib.Decide.{ℕ_discrete}
use Rattle.std.proofs.lemmas.Bool.Decides.{nat_tests}
use Rattle.bands.specs.declared.band.Band.{Band}
use Rattle.bands.specs.Band.{band, none, in_band, cover, span, In}
use Rattle.bands.specs.Within.{Inside, Empty}

-- ---- the rows of a band

pub dec_in : (i : ℕ) (b : Band) → Dec (In i b)
dec_in i b = grind arith

-- a row from first on that is not in the band is past it
pub past : (i : ℕ) (b : Band) → (In i b → ⊥) → b.first ≤ i → b.end ≤ i
past i b w h = grind arith

-- the test of a row
pub in_test : (i : ℕ) (b : Band) → In i b → in_band b i ≡ true
in_test i b w = grind (arith, nat_tests)

pub test_in : (i : ℕ) (b : Band) → in_band b i ≡ true → In i b
test_in i b h = grind (arith, nat_tests)

pub out_test : (i : ℕ) (b : Band) → (In i b → ⊥) → in_band b i ≡ false
out_test i b w = grind (arith, nat_tests)

-- a band as it is written: empty is 0,0
abbrev pub Canon : Band → Type 0
Canon b = (b.first < b.end) ⊎ (b ≡ none)

-- two bands so written that hold the same rows are one
pub canon_once : (a b : Band) → Canon a → Canon b → Inside a b → Inside b a → a ≡ b
canon_once a b h k p q = grind (arith, p a.first, p (a.end - 1), q b.first, q (b.end - 1))

-- ---- the smallest band covering two

-- by the two tests of cover
pub cover_cases : (P : Band → Type 0) (a b : Band)
    → (Empty a → P b)
    → (a.first < a.end → Empty b → P a)
    → (a.first < a.end → b.first < b.end → P (band (min a.first b.first) (max a.end b.end)))
    → P (cover a b)
unfolding cover
cover_cases P a b p q r = grind (arith, nat_tests, p, q, r)

pub cover_left : (a b : Band) → Inside a (cover a b)
cover_left a b i w = cover_cases (In i) a b (λ h. omega arith) (λ h k. w) (λ h k. omega arith)

pub cover_right : (a b : Band) → Inside b (cover a b)
cover_right a b i w = cover_cases (In i) a b (λ h. w) (λ h k. omega arith) (λ h k. omega arith)

-- no band that covers both is smaller
pub cover_least : (a b c : Band) → Inside a c → Inside b c → Inside (cover a b) c
cover_least a b c ha hb =
    cover_cases (λ x. Inside x c) a b (λ h. hb) (λ h k. ha)
    (λ h k i w. grind (arith, ha a.first, ha (a.end - 1), hb b.first, hb (b.end - 1)))

pub cover_canon : (a b : Band) → Canon a → Canon b → Canon (cover a b)
cover_canon a b p q = cover_cases Canon a b (λ _. q) (λ _ _. p) (λ h k. inl (omega arith))

pub cover_below : (n : ℕ) (a b : Band) → a.end ≤ n → b.end ≤ n → (cover a b).end ≤ n
cover_below n a b p q = cover_cases (λ x. x.end ≤ n) a b (λ _. q) (λ _ _. p) (λ _ _. omega arith)

-- ---- the smallest band covering the rows below n that a test picks

module _ (p : ℕ → Bool) where
  pub span-in : (n i : ℕ) → i < n → p i ≡ true → In i (span n p)
  unfolding span
  span-in zero i h e = omega arith
  span-in (suc n) i h e =
      elim (ℕ_discrete i n) [
        | yes x ↦ cover_right _ _ i (grind arith)
        | no x ↦ cover_left _ _ i (span-in n i (omega arith) e)
      ]

  pub span-least : (n : ℕ) (c : Band) → ((i : ℕ) → i < n → p i ≡ true → In i c) → Inside (span n p) c
  unfolding span
  span-least zero c h = λ i w. omega arith
  span-least (suc n) c h = cover_least _ _ c (span-least n c (λ i k. h i (omega arith))) (λ i w. grind (arith, h n))

  pub span-canon : (n : ℕ) → Canon (span n p)
  unfolding span
  span-canon zero = inr refl
  span-canon (suc n) = cover_canon _ _ (span-canon n) (grind arith)

  pub span_below : (n : ℕ) → (span n p).end ≤ n
  unfolding span
  span_below zero = omega arith
  span_below (suc n) = cover_below (suc n) _ _ (omega (arith, span_below n)) (grind arith)

-- Single faults: what makes each, what a 0 says, and the first of two.
-- Assumes nothing.
use Prim.Native.Nat.{ℕ, zero, suc, ◌+◌, ◌-◌, ◌≤◌, ◌<◌}
use mathlib.Core.Path.{◌≡◌, refl, sym, ◌∙◌, ap}
use mathlib.Core.Bool.{Bool, true, false, cond, ◌&&◌}
use mathlib.Core.List.{List}
use native.Mathlib.Omega.{arith}
use borrow.Author.Tests.{le-leb, lt-leb, leb-true, ltb-true}
use lib.Dec.{leb, ltb}
use lib.ListN.{length}
use Rattle.fields.specs.Faults.{unless, first, within, clamp_fault, padding_fault, cut_fault}

-- a number in a range, below it and above it
pub inside : (low high x : ℕ) → low ≤ x → x ≤ high → 0 ≡ within low high x
unfolding within
inside low high x p q = simp (le-leb low x p, le-leb x high q)

pub under : (low high x : ℕ) → x < low → 2 ≡ within low high x
unfolding within
under low high x p = simp (lt-leb low x p)

pub over : (low high x : ℕ) → low ≤ x → high < x → 2 ≡ within low high x
unfolding within
over low high x p q = simp (le-leb low x p, lt-leb x high q)

-- the first of two
pub first-none : (a b : ℕ) → a ≡ 0 → first a b ≡ b
unfolding first
first-none a b p = rw p

pub first_some : (a b : ℕ) → (a ≡ 0 → ⊥) → first a b ≡ a
unfolding first
first_some zero b p = absurd (p refl)
first_some (suc n) b p = refl

pub first_both : (a b : ℕ) → first a b ≡ 0 → (a ≡ 0) × (b ≡ 0)
unfolding first
first_both zero b p = (refl, p)
first_both (suc n) b p = omega arith

pub first_zero : (a : ℕ) → first a 0 ≡ a
unfolding first
first_zero zero = refl
first_zero (suc n) = refl

pub first_assoc : (a b c : ℕ) → first (first a b) c ≡ first a (first b c)
unfolding first
first_assoc zero b c = refl
first_assoc (suc n) b c = refl

-- a fault is met, and nothing after it counts; or none is, and the rest decides
pub met : (r a b : ℕ) → r ≡ a → (r ≡ 0 → ⊥) → r ≡ first a b
met r a b e p = sym (first_some r b p) ∙ ap (λ (x : ℕ). first x b) e

pub passed : (r a b x : ℕ) → r ≡ a → r ≡ 0 → x ≡ b → x ≡ first a b
passed r a b x e p h = h ∙ sym (first-none a b (sym e ∙ p))

-- two tests that both hold
pub and_both : (a b : Bool) → a && b ≡ true → (a ≡ true) × (b ≡ true)
and_both true b e = (refl, e)
and_both false true e = (e, refl)
and_both false false e = (e, e)

-- a test that left no fault
pub cond_none : (t : Bool) (a n : ℕ) → cond t a (suc n) ≡ 0 → (t ≡ true) × (a ≡ 0)
cond_none true a n p = (refl, p)
cond_none false a n p = absurd (omega arith)

pub unless-none : (t : Bool) (n : ℕ) → unless t (suc n) ≡ 0 → t ≡ true
unless-none t n p = (cond_none t 0 n p).0

pub within_in : (low high x : ℕ) → within low high x ≡ 0 → (low ≤ x) × (x ≤ high)
unfolding within
within_in low high x p =
    let q = cond_none (leb low x) (unless (leb x high) 2) 1 p in
    (leb-true low x q.0, leb-true x high (unless-none (leb x high) 1 q.1))

pub clamp_in : (low high : ℕ) → clamp_fault low high ≡ 0 → low ≤ high
unfolding clamp_fault
clamp_in low high p = leb-true low high (unless-none (leb low high) 1 p)

pub padding_in : (p height width : ℕ) → padding_fault p height width ≡ 0 → (p < height) × (p < width)
unfolding padding_fault
padding_in p height width h =
    let q = cond_none (ltb p height) (unless (ltb p width) 2) 1 h in
    (ltb-true p height q.0, ltb-true p width (unless-none (ltb p width) 1 q.1))

pub cut_there : (s : List ℕ) (at n : ℕ) → at ≤ length s → cut_fault s at n ≡ 0 → at + n ≤ length s
unfolding cut_fault
cut_there s at n a p =
    let q : n ≤ length s - at = leb-true n (length s - at) (unless-none (leb n (length s - at)) 0 p) in
    omega arith

pub there_cut : (s : List ℕ) (at n : ℕ) → at + n ≤ length s → cut_fault s at n ≡ 0
unfolding cut_fault
there_cut s at n h = simp (le-leb n (length s - at) (omega arith))

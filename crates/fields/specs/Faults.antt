-- Single faults: 0, or a refusal number.
-- Assumes nothing.
use Rattle.std.specs.Prelude.{ℕ, zero, suc, ◌-◌, ◌^◌, Bool, cond, List, [], ◌∷◌, ltb, leb, eqb, ℤ, nat_abs, length}

-- 0 where the test holds, else the number
abbrev pub unless : Bool → ℕ → ℕ
unless t n = cond t 0 n

-- the first of two
unfoldable pub first : ℕ → ℕ → ℕ
first zero b = b
first (suc a) b = suc a

-- the first fault met
abbrev pub first_fault : List ℕ → ℕ
first_fault [] = 0
first_fault (x ∷ []) = x
first_fault (x ∷ y ∷ ys) = first x (first_fault (y ∷ ys))

-- a field from low to high
unfoldable pub within : ℕ → ℕ → ℕ → ℕ
within low high x = cond (leb low x) (unless (leb x high) 2) 2

-- a shift is 0 to 31
abbrev pub shift_fault : ℕ → ℕ
shift_fault n = within 0 31 n

-- multipliers are 2^30 to 2^31 − 1
abbrev pub multiplier_fault : ℕ → ℕ
multiplier_fault m = within 1073741824 2147483647 m

-- biases are −2^30 to 2^30
unfoldable pub bias_fault : ℤ → ℕ
bias_fault b = unless (leb (nat_abs b) (2 ^ 30)) 2

-- low ≤ high
unfoldable pub clamp_fault : ℕ → ℕ → ℕ
clamp_fault low high = unless (leb low high) 2

-- at most the smaller kernel side less 1
unfoldable pub padding_fault : ℕ → ℕ → ℕ → ℕ
padding_fault p height width = cond (ltb p height) (unless (ltb p width) 2) 2

-- a spare is 0
unfoldable pub spare_fault : ℕ → ℕ
spare_fault x = unless (eqb x 0) 1

-- n bytes stand at a place
unfoldable pub cut_fault : List ℕ → ℕ → ℕ → ℕ
cut_fault s at n = unless (leb n (length s - at)) 1

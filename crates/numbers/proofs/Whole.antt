-- Whole numbers as differences of two natural numbers: `z ≐ a ⊖ b` says that z is a − b.
-- Each operation has a law that gives such a difference for its result, and `equal`, `size`, `fits` and the like turn what is
-- to be shown of a whole number into facts of natural numbers, which `omega arith` proves.
-- Assumes nothing.
use mathlib.Core.Path.{◌≡◌, refl, ap, subst⁻¹}
use mathlib.Core.Bool.{Bool, true, false, not, cond}
use Prim.Native.Nat.{ℕ, zero, suc, ◌+◌, ◌*◌, ◌-◌, ◌/◌, ◌^◌, ◌<◌, ◌≤◌}
use native.Mathlib.Nat.{mod-lt, div-add-mod', add-mul-div_right, lt_of_mul-lt-mul_right}
use native.Mathlib.Omega.{arith}
use lib.Dec.{T, ltb, ltb→lt, nltb→le}
use lib.IntN.{ℤ, pos, negsuc, neg_ℤ, nat_abs, sub_ℕ, ◌+ℤ◌, ◌-ℤ◌, ◌*ℤ◌}
use lib.Signed.{shr_z}
use mir.Syntax.{Width, w32, w64}
use mir.Val.{SFits, bool_byte, hbits, of_z, to_z}
use mir.ValLaws.{to_z-of_z, to_z_pos}

-- z is `up z` less `down z`, and one of the two is 0
abbrev pub up : ℤ → ℕ
up (pos n) = n
up (negsuc n) = 0

abbrev pub down : ℤ → ℕ
down (pos n) = 0
down (negsuc n) = suc n

infix 4 ◌≐◌⊖◌
pub record ◌≐◌⊖◌ (z : ℤ) (a b : ℕ) : Type 0 where
  pub is : a + down z ≡ up z + b

-- ---- the numbers to start from

-- a number by its own two parts
pub itself : (z : ℤ) → z ≐ up z ⊖ down z
itself z = record { is = refl }

-- a natural number
pub nat : (n : ℕ) → pos n ≐ n ⊖ 0
nat n = record { is = refl }

-- the difference of two natural numbers
pub difference : (a b : ℕ) → sub_ℕ a b ≐ a ⊖ b
difference a b = go (ltb a b) (λ t. ltb→lt a b t) (λ t. nltb→le a b t)
  where
    go : (t : Bool) → (T t → a < b) → (T (not t) → b ≤ a) → cond t (negsuc (b - suc a)) (pos (a - b)) ≐ a ⊖ b
    go true f g = let h : a < b = f tt in record { is = omega arith }
    go false f g = let h : b ≤ a = g tt in record { is = omega arith }

-- ---- the operations

-- the opposite
pub negated : {x : ℤ} {a b : ℕ} → x ≐ a ⊖ b → neg_ℤ x ≐ b ⊖ a
negated {x = pos zero} h = record { is = omega arith }
negated {x = pos (suc n)} h = record { is = omega arith }
negated {x = negsuc n} h = record { is = omega arith }

-- the same number by another difference
pub again : {x : ℤ} {a b : ℕ} (c d : ℕ) → x ≐ a ⊖ b → a + d ≡ c + b → x ≐ c ⊖ d
again c d h e = record { is = omega arith }

-- the sum
pub plus : {x y : ℤ} {a b c d : ℕ} → x ≐ a ⊖ b → y ≐ c ⊖ d → x +ℤ y ≐ a + c ⊖ b + d
plus {x = pos m} {y = pos n} h k = record { is = omega arith }
plus {x = pos m} {y = negsuc n} h k = record { is = omega (arith, difference m (suc n)) }
plus {x = negsuc m} {y = pos n} h k = record { is = omega (arith, difference n (suc m)) }
plus {x = negsuc m} {y = negsuc n} h k = record { is = omega arith }

-- the difference
pub less : {x y : ℤ} {a b c d : ℕ} → x ≐ a ⊖ b → y ≐ c ⊖ d → x -ℤ y ≐ a + d ⊖ b + c
less h k = plus h (negated k)

-- the product, by the numbers' own parts
own : (x y : ℤ) → x *ℤ y ≐ up x * up y + down x * down y ⊖ up x * down y + down x * up y
own (pos m) (pos n) = record { is = omega arith }
own (pos m) (negsuc n) = record { is = omega (arith, negated (nat (m * suc n))) }
own (negsuc m) (pos n) = record { is = omega (arith, negated (nat (suc m * n))) }
own (negsuc m) (negsuc n) = record { is = omega arith }

-- the product, by any differences
pub times : {x y : ℤ} {a b c d : ℕ} → x ≐ a ⊖ b → y ≐ c ⊖ d → x *ℤ y ≐ a * c + b * d ⊖ a * d + b * c
times {x} {y} {a} {b} {c} {d} h k =
    record {
      is =
          omega (
            arith,
            own x y,
            ap (λ n. n * c) h.is,
            ap (λ n. n * d) h.is,
            ap (λ n. up x * n) k.is,
            ap (λ n. down x * n) k.is,
          );
    }

-- ---- what a difference tells

-- two numbers are equal where their differences are
pub equal : {x y : ℤ} {a b c d : ℕ} → x ≐ a ⊖ b → y ≐ c ⊖ d → a + d ≡ c + b → x ≡ y
equal {x = pos m} {y = pos n} h k e = ap pos (omega arith)
equal {x = pos m} {y = negsuc n} h k e = absurd (omega arith)
equal {x = negsuc m} {y = pos n} h k e = absurd (omega arith)
equal {x = negsuc m} {y = negsuc n} h k e = ap negsuc (omega arith)

-- the size, by the number's own parts
pub parts : (z : ℤ) → nat_abs z ≡ up z + down z
parts (pos n) = omega arith
parts (negsuc n) = omega arith

-- the size, by any difference
pub size : {x : ℤ} {a b : ℕ} → x ≐ a ⊖ b → nat_abs x ≡ (a - b) + (b - a)
size {x = pos m} h = omega arith
size {x = negsuc m} h = omega arith

-- a number between −2^h and 2^h fits a width of h + 1 bits
pub fits : (w : Width) {x : ℤ} {a b : ℕ} → x ≐ a ⊖ b → a < b + 2 ^ hbits w → b ≤ a + 2 ^ hbits w → SFits w x
fits w {x = pos m} h p q = record { sfits = omega arith }
fits w {x = negsuc m} h p q = record { sfits = omega arith }

-- a number that is small enough, by its size
pub small_fits : (w : Width) (z : ℤ) → nat_abs z < 2 ^ hbits w → SFits w z
small_fits w z p = fits w (itself z) (omega (arith, parts z)) (omega (arith, parts z))

-- the parts of a number that fits
pub range : (w : Width) (z : ℤ) → SFits w z → (up z < 2 ^ hbits w) × (down z ≤ 2 ^ hbits w)
range w (pos n) h = (h.sfits, omega arith)
range w (negsuc n) h = (omega (arith, h.sfits), h.sfits)

-- ---- division that rounds down

-- floor((a − m × d) / d) is floor(a / d) − m
pub floored : {x : ℤ} {a : ℕ} (m d : ℕ) → 0 < d → x ≐ a ⊖ m * d → shr_z x d ≐ a / d ⊖ m
floored {x = pos n} {a} m d p h =
    let e : a ≡ n + m * d = omega arith in
    record { is = omega (arith, ap (λ k. k / d) e, add-mul-div_right n m p) }
floored {x = negsuc n} {a} m d p h =
    let more : a / d + n / d < m = lt_of_mul-lt-mul_right d (omega (arith, div-add-mod' a d, div-add-mod' n d)) in
    let fewer : m < a / d + n / d + 2 =
    lt_of_mul-lt-mul_right d (omega (arith, div-add-mod' a d, div-add-mod' n d, mod-lt a p, mod-lt n p)) in
    record { is = omega arith }

-- q = floor(z / d): q × d ≤ z
pub floor_low : (z : ℤ) (d : ℕ) → 0 < d → up (shr_z z d) * d + down z ≤ up z + down (shr_z z d) * d
floor_low (pos n) d p = omega (arith, div-add-mod' n d)
floor_low (negsuc n) d p = omega (arith, div-add-mod' n d, mod-lt n p)

-- q = floor(z / d): z < q × d + d
pub floor-high : (z : ℤ) (d : ℕ) → 0 < d → up z + down (shr_z z d) * d < up (shr_z z d) * d + d + down z
floor-high (pos n) d p = omega (arith, div-add-mod' n d, mod-lt n p)
floor-high (negsuc n) d p = omega (arith, div-add-mod' n d, mod-lt n p)

-- ---- the machine's signed numbers

-- a number that fits is read back from its bits
pub kept : (w : Width) {x : ℤ} {a b : ℕ} → SFits w x → x ≐ a ⊖ b → to_z w (of_z w x) ≐ a ⊖ b
kept w {x} {a} {b} f h = subst⁻¹ (λ z. z ≐ a ⊖ b) (to_z-of_z w x f) h

-- an unsigned number that is cast to a signed type
pub unsigned : (w : Width) (n : ℕ) → n < 2 ^ hbits w → to_z w n ≐ n ⊖ 0
unsigned w n p = subst⁻¹ (λ z. z ≐ n ⊖ 0) (to_z_pos w n p) (nat n)

-- a test that is cast to a signed type
pub flag : (t : Bool) → (to_z w32 (bool_byte t) ≡ pos (bool_byte t)) × (bool_byte t ≤ 1)
flag true = (refl, omega arith)
flag false = (refl, omega arith)

-- an i32 that is cast to an i64 fits
pub widens : (z : ℤ) → SFits w32 z → SFits w64 (to_z w32 (of_z w32 z))
widens z f = fits w64 (kept w32 f (itself z)) (omega (arith, range w32 z f)) (omega (arith, range w32 z f))

-- an i32 that is cast to an i64 stays the same number
pub wide : (z : ℤ) → SFits w32 z → to_z w64 (of_z w64 (to_z w32 (of_z w32 z))) ≐ up z ⊖ down z
wide z f = kept w64 (widens z f) (kept w32 f (itself z))

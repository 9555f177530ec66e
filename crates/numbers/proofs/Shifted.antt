-- The second rounding as the code makes it: by a shift and the rest that the shift leaves.
-- Assumes nothing.
use mathlib.Core.Path.{◌≡◌, refl, sym, ap, ◌∙◌}
use mathlib.Core.Bool.{Bool, true, false}
use Prim.Native.Nat.{ℕ, zero, suc, ◌+◌, ◌*◌, ◌-◌, ◌/◌, ◌%◌, ◌^◌, ◌<◌, ◌≤◌, zero-le}
use native.Mathlib.Nat.{mod-lt, div-add-mod', lt_of_mul-lt-mul_right}
use native.Mathlib.Omega.{arith}
use borrow.Author.Tests.{ltb-true, ltb-false, le-ltb}
use lib.Bits.{bit_and, and_mask, mask_lt}
use lib.Dec.{ltb}
use lib.IntN.{ℤ, pos, negsuc, ◌+ℤ◌}
use lib.Pow.{pow_pos, pow-add, low}
use lib.Signed.{lt_z, mag_shr}
use mir.Syntax.{w32}
use mir.Val.{SFits, of_z, bool_byte}
use Rattle.numbers.specs.Rescale.{floor, half_up, nearest}
use Rattle.numbers.proofs.Whole.{up, down, ◌≐◌⊖◌, itself, nat, plus, equal}
use Rattle.numbers.proofs.Rescaled.{half_low, half_high, nearest_below}

-- ---- the rest

-- the rest that a shift by n leaves of z: its low n bits
abbrev pub rest : ℤ → ℕ → ℕ
rest z n = bit_and (of_z w32 z) (2 ^ n - 1)

pub rest_few : (z : ℤ) (n : ℕ) → rest z n < 2 ^ n
rest_few z n = mask_lt (of_z w32 z) n

-- z is its floor × 2^n and the rest
rest_is : (z : ℤ) (n : ℕ) → n ≤ 32 → SFits w32 z → z ≐ up (floor z (2 ^ n)) * 2 ^ n + rest z n ⊖ down (floor z (2 ^ n)) * 2 ^ n
rest_is (pos a) n p f = record { is = omega (arith, and_mask a n, div-add-mod' a (2 ^ n)) }
rest_is (negsuc a) n p f =
    let d = 2 ^ n in
    let q = a / d in
    let all : 32 - n + n ≡ 32 = omega arith in
    let whole : 2 ^ (32 - n) * d ≡ 2 ^ 32 = sym (pow-add 2 (32 - n) n) ∙ ap (λ k. 2 ^ k) all in
    let below : q < 2 ^ (32 - n) = lt_of_mul-lt-mul_right d (omega (arith, div-add-mod' a d, f.sfits)) in
    let top = 2 ^ (32 - n) - 1 - q in
    let sum : top + 1 + q ≡ 2 ^ (32 - n) = omega arith in
    let end = d - 1 - a % d in
    let few : end < d = omega (arith, pow_pos n) in
    let bits : 2 ^ 32 - suc a ≡ top * d + end = omega (arith, ap (λ k. k * d) sum, div-add-mod' a d, mod-lt a (pow_pos n)) in
    record {
      is =
          omega (arith, and_mask (2 ^ 32 - suc a) n, ap (λ k. k % d) bits, low top n few, div-add-mod' a d, mod-lt a (pow_pos n));
    }

-- the floor fits
pub floor-fits : (z : ℤ) (n : ℕ) → SFits w32 z → SFits w32 (floor z (2 ^ n))
floor-fits z n f = record { sfits = omega (arith, mag_shr z (2 ^ n), f.sfits) }

-- ---- the nearest whole

-- no other number lies so near
half_is : (a d k : ℕ) → 0 < d → 2 * (k * d) ≤ 2 * a + d → 2 * a + d < 2 * (k * d) + 2 * d → k ≡ half_up a d
half_is a d k p l h =
    let above : k < half_up a d + 1 = lt_of_mul-lt-mul_right d (omega (arith, half_high a d p)) in
    let below : half_up a d < k + 1 = lt_of_mul-lt-mul_right d (omega (arith, half_low a d p)) in
    omega arith

-- the largest rest that adds nothing: below half of 2^n, and at most half for a z below zero
abbrev pub most : Bool → ℕ → ℕ
most below n = (2 ^ n - 1) / 2 + bool_byte below

-- for a z below zero: a rest past it is more than half
most_above : (n r : ℕ) → r < 2 ^ n → most true n < r → 2 ^ n < 2 * r
most_above zero r h p = absurd (omega arith)
most_above (suc n) r h p = omega (arith, pow-add 2 1 n)

-- and any other is at most half
most_below : (n r : ℕ) → r < 2 ^ n → r ≤ most true n → 2 * r ≤ 2 ^ n
most_below zero r h p = omega arith
most_below (suc n) r h p = omega (arith, pow-add 2 1 n)

-- whether the rest is above
abbrev pub above : Bool → ℤ → ℕ → Bool
above below z n = ltb (most below n) (rest z n)

is_above : (b : Bool) (z : ℤ) (n : ℕ) → above b z n ≡ true → most b n < rest z n
is_above b z n e = ltb-true _ _ e

not_above : (b : Bool) (z : ℤ) (n : ℕ) → above b z n ≡ false → rest z n ≤ most b n
not_above b z n e = ltb-false _ _ e

-- z / 2^n to the nearest whole is its floor, and one more where the rest is above
pub nearest_shifted :
    (z : ℤ) (n : ℕ) →
    n ≤ 32 →
    SFits w32 z →
    floor z (2 ^ n) +ℤ pos (bool_byte (above (lt_z z (pos 0)) z n)) ≡ nearest z (2 ^ n)
nearest_shifted (pos a) n p f = go (above (ltb a 0) (pos a) n) refl
  where
    d : ℕ
    d = 2 ^ n

    parts : pos a ≐ a / d * d + rest (pos a) n ⊖ 0 * d
    parts = rest_is (pos a) n p f

    go : (t : Bool) → above (ltb a 0) (pos a) n ≡ t → pos (a / d) +ℤ pos (bool_byte t) ≡ nearest (pos a) d
    go true e =
        let more = is_above (ltb a 0) (pos a) n e in
        ap pos (half_is a d (a / d + 1) (pow_pos n) (omega (arith, parts)) (omega (arith, parts, rest_few (pos a) n)))
    go false e =
        let few = not_above (ltb a 0) (pos a) n e in
        let not-below = ap bool_byte (le-ltb a 0 zero-le) in
        ap pos (half_is a d (a / d + 0) (pow_pos n) (omega (arith, parts)) (omega (arith, parts, pow_pos n)))
nearest_shifted (negsuc a) n p f = go (above true (negsuc a) n) refl
  where
    d : ℕ
    d = 2 ^ n

    r : ℕ
    r = rest (negsuc a) n

    parts : negsuc a ≐ 0 * d + rest (negsuc a) n ⊖ suc (a / d) * d
    parts = rest_is (negsuc a) n p f

    go : (t : Bool) → above true (negsuc a) n ≡ t → negsuc (a / d) +ℤ pos (bool_byte t) ≡ nearest (negsuc a) d
    go true e =
        let more = most_above n r (rest_few (negsuc a) n) (is_above true (negsuc a) n e) in
        let k : a / d ≡ half_up (suc a) d =
        half_is (suc a) d (a / d) (pow_pos n) (omega (arith, parts, rest_few (negsuc a) n)) (omega (arith, parts)) in
        equal (plus (itself (negsuc (a / d))) (nat 1)) (nearest_below (negsuc a) d (omega arith)) (omega arith)
    go false e =
        let few = most_below n r (rest_few (negsuc a) n) (not_above true (negsuc a) n e) in
        let k : suc (a / d) ≡ half_up (suc a) d =
        half_is (suc a) d (suc (a / d)) (pow_pos n) (omega (arith, parts)) (omega (arith, parts, pow_pos n)) in
        equal (plus (itself (negsuc (a / d))) (nat 0)) (nearest_below (negsuc a) d (omega arith)) (omega arith)

-- What rescaling gives, over whole numbers: each rounding by itself, and the two together for every shift.
-- Assumes nothing.
use mathlib.Core.Path.{◌≡◌, refl, ap, ◌∙◌}
use Prim.Native.Nat.{ℕ, zero, suc, ◌+◌, ◌*◌, ◌/◌, ◌^◌, ◌<◌, ◌≤◌}
use native.Mathlib.Nat.{mod-lt, div-add-mod', mul-div_cancel, mul-le-mul_left, lt_of_mul-lt-mul_right}
use native.Mathlib.Omega.{arith}
use lib.Dec.{lit<}
use lib.IntN.{ℤ, pos, negsuc, neg_ℤ, nat_abs, ◌+ℤ◌, ◌-ℤ◌, ◌*ℤ◌}
use lib.Pow.{pow_pos, pow-add}
use mir.Syntax.{Width}
use mir.Val.{SFits}
use Rattle.numbers.specs.Rescale.{floor, half_up, nearest, high, rescaled, slack}
use Rattle.numbers.proofs.Whole.{up, down, ◌≐◌⊖◌, itself, nat, again, negated, plus, less, times, equal, parts, size, fits, range, floored, floor_low, floor-high}

-- ---- the first rounding

-- h is within a half of a × m / 2^31
pub high-within : (a : ℤ) (m : ℕ) → 2 * nat_abs (high a m *ℤ pos (2 ^ 31) -ℤ a *ℤ pos m) ≤ 2 ^ 31
high-within a m =
    let e = a *ℤ pos m in
    omega (
      arith,
      size (less (times (itself (high a m)) (nat (2 ^ 31))) (itself e)),
      plus (itself e) (nat (2 ^ 30)),
      floor_low (e +ℤ pos (2 ^ 30)) (2 ^ 31) (lit< tt),
      floor-high (e +ℤ pos (2 ^ 30)) (2 ^ 31) (lit< tt),
    )

-- where a × m / 2^31 is k and a half, h is k + 1, for a k of either sign
pub half_goes_up :
    (a : ℤ) (m : ℕ) (k : ℤ) →
    a *ℤ pos m ≡ (pos 2 *ℤ k +ℤ pos 1) *ℤ pos (2 ^ 30) →
    high a m ≡ k +ℤ pos 1
half_goes_up a m k e =
    let next = plus (itself k) (nat 1) in
    let sum = plus (times (plus (times (nat 2) (itself k)) (nat 1)) (nat (2 ^ 30))) (nat (2 ^ 30)) in
    let whole = floored (down k) (2 ^ 31) (lit< tt) (again ((up k + 1) * 2 ^ 31) _ sum (omega arith)) in
    ap (λ x. floor (x +ℤ pos (2 ^ 30)) (2 ^ 31)) e ∙ equal whole next (omega arith)

-- ---- the second rounding

-- k = half_up a d: 2kd ≤ 2a + d
pub half_low : (a d : ℕ) → 0 < d → 2 * (half_up a d * d) ≤ 2 * a + d
half_low a d p = omega (arith, div-add-mod' (2 * a + d) (2 * d))

-- k = half_up a d: 2a + d < 2kd + 2d
pub half_high : (a d : ℕ) → 0 < d → 2 * a + d < 2 * (half_up a d * d) + 2 * d
half_high a d p =
    let two : 0 < 2 * d = omega arith in
    omega (arith, div-add-mod' (2 * a + d) (2 * d), mod-lt (2 * a + d) two)

-- half_up a d is no larger than a
pub half_small : (a d : ℕ) → 0 < d → half_up a d ≤ a
half_small a d p =
    let below : half_up a d < a + 1 = lt_of_mul-lt-mul_right (2 * d) (omega (arith, half_low a d p, mul-le-mul_left a p)) in
    omega arith

-- the nearest whole, where z is not negative
pub nearest_above : (z : ℤ) (d : ℕ) → down z ≤ up z → nearest z d ≐ half_up (nat_abs z) d ⊖ 0
nearest_above (pos a) d e = nat _
nearest_above (negsuc a) d e = absurd (omega arith)

-- the nearest whole, where z is negative
pub nearest_below : (z : ℤ) (d : ℕ) → up z < down z → nearest z d ≐ 0 ⊖ half_up (nat_abs z) d
nearest_below (pos a) d e = absurd (omega arith)
nearest_below (negsuc a) d e = negated (nat _)

-- the nearest whole is within a half of z / d
pub nearest-within : (z : ℤ) (d : ℕ) → 0 < d → 2 * nat_abs (nearest z d *ℤ pos d -ℤ z) ≤ d
nearest-within (pos a) d p =
    let r = nearest_above (pos a) d (omega arith) in
    omega (arith, size (less (times r (nat d)) (itself (pos a))), half_low a d p, half_high a d p)
nearest-within (negsuc a) d p =
    let r = nearest_below (negsuc a) d (omega arith) in
    omega (arith, size (less (times r (nat d)) (itself (negsuc a))), half_low (suc a) d p, half_high (suc a) d p)

-- k and a half goes to k + 1
half_at : (k d : ℕ) → 0 < d → half_up ((2 * k + 1) * d) (2 * d) ≡ k + 1
half_at k d p =
    let four : 0 < 2 * (2 * d) = omega arith in
    let sum : 2 * ((2 * k + 1) * d) + 2 * d ≡ (k + 1) * (2 * (2 * d)) = omega arith in
    ap (λ x. x / (2 * (2 * d))) sum ∙ mul-div_cancel (k + 1) four

-- a half goes away from zero, where the number is above zero
pub half_goes_away : (k d : ℕ) → 0 < d → nearest (pos ((2 * k + 1) * d)) (2 * d) ≡ pos (k + 1)
half_goes_away k d p = ap pos (half_at k d p)

-- the nearest whole of −a / d
minus : (a d : ℕ) → 0 < a → nearest (neg_ℤ (pos a)) d ≡ neg_ℤ (pos (half_up a d))
minus zero d p = absurd (omega arith)
minus (suc a) d p = refl

-- a half goes away from zero, where the number is below zero
pub half_goes_away_below :
    (k d : ℕ) →
    0 < d →
    nearest (neg_ℤ (pos ((2 * k + 1) * d))) (2 * d) ≡ neg_ℤ (pos (k + 1))
half_goes_away_below k d p = minus ((2 * k + 1) * d) (2 * d) (omega arith) ∙ ap (λ r. neg_ℤ (pos r)) (half_at k d p)

-- ---- the two together

-- z / 1 to the nearest whole is z
nearest_one : (z : ℤ) → nearest z 1 ≡ z
nearest_one (pos a) = let e : half_up a 1 ≡ a = omega arith in ap pos e
nearest_one (negsuc a) = let e : half_up (suc a) 1 ≡ suc a = omega arith in ap (λ k. neg_ℤ (pos k)) e

-- both cases in one: the second rounding by 2^0 changes nothing
pub rescaled_as : (a : ℤ) (m n : ℕ) → nearest (high a m) (2 ^ n) ≡ rescaled a m n
rescaled_as a m zero = nearest_one (high a m)
rescaled_as a m (suc n) = refl

module _ (a : ℤ) (m : ℕ) where
  -- what a second rounding adds to the distance, where twice the difference between r × d and h is at most e
  apart :
      (r : ℤ) (d e : ℕ) →
      2 * nat_abs (r *ℤ pos d -ℤ high a m) ≤ e →
      2 * nat_abs (r *ℤ pos (2 ^ 31 * d) -ℤ a *ℤ pos m) ≤ 2 ^ 31 * e + 2 ^ 31
  apart r d e p =
      omega (
        arith,
        size (less (times (itself r) (nat (2 ^ 31 * d))) (itself (a *ℤ pos m))),
        size (less (times (itself r) (nat d)) (itself (high a m))),
        size (less (times (itself (high a m)) (nat (2 ^ 31))) (itself (a *ℤ pos m))),
        high-within a m,
      )

  -- twice the difference between r × 2^(31+n) and a × m, for every shift n
  pub distance : (n : ℕ) → 2 * nat_abs (rescaled a m n *ℤ pos (2 ^ (31 + n)) -ℤ a *ℤ pos m) ≤ slack n
  distance zero = high-within a m
  distance (suc n) =
      let step = 2 ^ suc n in
      rw (pow-add 2 31 (suc n)) (apart (rescaled a m (suc n)) step step (nearest-within (high a m) step (pow_pos (suc n))))

-- ---- the sizes

-- h lies between zero and a
high_between : (a : ℤ) (m : ℕ) → m < 2 ^ 31 → (up (high a m) ≤ up a) × (down (high a m) ≤ down a)
high_between a m p =
    let h = high a m in
    omega (
      arith,
      size (less (times (itself h) (nat (2 ^ 31))) (times (itself a) (nat m))),
      high-within a m,
      parts a,
      size (itself a),
      parts h,
      size (itself h),
      mul-le-mul_left (up a) p,
      mul-le-mul_left (down a) p,
    )

-- the nearest whole lies between zero and z
nearest_between : (z : ℤ) (d : ℕ) → 0 < d → (up (nearest z d) ≤ up z) × (down (nearest z d) ≤ down z)
nearest_between (pos a) d p = (half_small a d p, omega arith)
nearest_between (negsuc a) d p =
    let r = nearest (negsuc a) d in
    omega (arith, half_small (suc a) d p, nearest_below (negsuc a) d (omega arith), parts r, size (itself r))

-- the rescaled number lies between zero and the total
pub rescaled_between :
    (a : ℤ) (m n : ℕ) →
    m < 2 ^ 31 →
    (up (rescaled a m n) ≤ up a) × (down (rescaled a m n) ≤ down a)
rescaled_between a m zero p = high_between a m p
rescaled_between a m (suc n) p =
    omega (arith, high_between a m p, nearest_between (high a m) (2 ^ suc n) (pow_pos (suc n)))

-- rescaling never enlarges
pub rescaled_small : (a : ℤ) (m n : ℕ) → m < 2 ^ 31 → nat_abs (rescaled a m n) ≤ nat_abs a
rescaled_small a m n p = omega (arith, parts a, parts (rescaled a m n), rescaled_between a m n p)

-- the nearest whole fits where z does
pub nearest-fits : (w : Width) (z : ℤ) (d : ℕ) → 0 < d → SFits w z → SFits w (nearest z d)
nearest-fits w z d p f =
    let between = nearest_between z d p in
    fits w (itself (nearest z d)) (omega (arith, range w z f)) (omega (arith, range w z f))

-- The total of two lists of bytes: its bound, and that with the true sum of the weights it is the bias and Σ(q − Z)(w − V).
-- Assumes nothing.
use mathlib.Core.Path.{◌≡◌, ap}
use mathlib.Core.List.{List, [], ◌∷◌}
use Prim.Native.Nat.{ℕ, suc, ◌+◌, ◌*◌, ◌-◌, ◌^◌, ◌≤◌}
use native.Mathlib.Nat.{mul-le-mul_left, mul-le-mul_right, add-sub_of_le}
use native.Mathlib.Omega.{arith}
use lib.IntN.{ℤ, nat_abs, ◌+ℤ◌}
use lib.Dec.{lit≤}
use lib.ListN.{length, get_or}
use mir.Syntax.{w32}
use mir.Val.{SFits}
use Rattle.numbers.specs.Asked.{TermsFit}
use Rattle.numbers.specs.Total.{total_from, total_of, sum, dot, centred}
use Rattle.numbers.proofs.Whole.{up, down, ◌≐◌⊖◌, itself, nat, again, plus, less, times, equal, size, small_fits}

-- the total as a difference
pub total_is : (b : ℤ) (qw q t n z v : ℕ) → total_from b qw q t n z v ≐ up b + qw + n * z * v ⊖ down b + v * q + z * t
total_is b qw q t n z v =
    again _ _ (plus (less (less (plus (itself b) (nat qw)) (nat (v * q))) (nat (z * t))) (nat (n * z * v))) (omega arith)

-- Σ(q − Z)(w − V) as a difference
centred_is :
    (z v : ℕ) (q w : List ℕ) →
    length q ≡ length w →
    centred z v q w ≐ dot q w + length q * z * v ⊖ v * sum q + z * sum w
centred_is z v [] [] e = record { is = omega arith }
centred_is z v [] (w ∷ ws) e = absurd (omega arith)
centred_is z v (q ∷ qs) [] e = absurd (omega arith)
centred_is z v (q ∷ qs) (w ∷ ws) e =
    let rest = centred_is z v qs ws (omega arith) in
    again _ _ (plus (times (less (nat q) (nat z)) (less (nat w) (nat v))) rest) (omega arith)

-- with the true sum of the weights the total is b + Σ(q − Z)(w − V)
pub true_sum :
    (b : ℤ) (q w : List ℕ) (z v : ℕ) →
    length q ≡ length w →
    total_of b q w (sum w) z v ≡ b +ℤ centred z v q w
true_sum b q w z v e =
    equal (total_is b (dot q w) (sum q) (sum w) (length q) z v) (plus (itself b) (centred_is z v q w e)) (omega arith)

-- ---- the bound

-- q(w − v) ≤ 255(255 − v), by the complements: 255·255 + qv = qw + 255v + q(255 − w) + (255 − q)(255 − v)
product_bound : (q w v : ℕ) → q ≤ 255 → w ≤ 255 → v ≤ 255 → q * w + 255 * v ≤ v * q + 65025
product_bound q w v hq hw hv =
    omega (
      arith,
      mul-le-mul_left q hw,
      ap (λ k. k * v) (add-sub_of_le hq),
      ap (λ k. (255 - q) * k) (add-sub_of_le hv),
      add-sub_of_le hq,
    )

module _ (v : ℕ) (hv : v ≤ 255) where
  -- Σq(w − v) ≤ 255(255 − v)n
  dot-high :
      (q w : List ℕ) →
      length q ≡ length w →
      ((i : ℕ) → get_or q i 0 ≤ 255) →
      ((i : ℕ) → get_or w i 0 ≤ 255) →
      dot q w + 255 * (length q * v) ≤ v * sum q + 65025 * length q
  dot-high [] [] e bq bw = omega arith
  dot-high [] (w ∷ ws) e bq bw = absurd (omega arith)
  dot-high (q ∷ qs) [] e bq bw = absurd (omega arith)
  dot-high (q ∷ qs) (w ∷ ws) e bq bw =
      omega (arith, product_bound q w v (bq 0) (bw 0) hv, dot-high qs ws (omega arith) (λ i. bq (suc i)) (λ i. bw (suc i)))

  -- vΣq ≤ 255nv
  sum-high : (q : List ℕ) → ((i : ℕ) → get_or q i 0 ≤ 255) → v * sum q ≤ 255 * (length q * v)
  sum-high [] bq = omega arith
  sum-high (q ∷ qs) bq = omega (arith, mul-le-mul_left v (bq 0), sum-high qs (λ i. bq (suc i)))

-- the numbers of an output: at most 16,384 input bytes and as many weights, and a bias within 2^30 of zero
module _
    (b : ℤ)
    (q w : List ℕ)
    (t z v : ℕ)
    (hb : nat_abs b ≤ 2 ^ 30)
    (e : length q ≡ length w)
    (hn : length q ≤ 16384)
    (bq : (i : ℕ) → get_or q i 0 ≤ 255)
    (bw : (i : ℕ) → get_or w i 0 ≤ 255)
    (ht : t ≤ 255 * length q)
    (hz : z ≤ 255)
    (hv : v ≤ 255) where
  -- the total is within 65,025 × 16,384 + 2^30 of zero
  pub within : nat_abs (total_of b q w t z v) ≤ 2139111424
  within =
      omega (
        arith,
        size (total_is b (dot q w) (sum q) t (length q) z v),
        size (itself b),
        dot-high v hv q w e bq bw,
        sum-high v hv q bq,
        mul-le-mul_right (length q * v) hz,
        mul-le-mul_left z ht,
        mul-le-mul_left (length q) (product_bound z 255 v hz (lit≤ tt) hv),
      )

  -- the total fits 32 bits
  pub total-fits : SFits w32 (total_of b q w t z v)
  total-fits = small_fits w32 _ (omega (arith, within))

-- the sums of two lists of at most 16,384 bytes are what the function `total` asks for
pub sums :
    (q w : List ℕ) (t : ℕ) →
    length q ≡ length w →
    length q ≤ 16384 →
    ((i : ℕ) → get_or q i 0 ≤ 255) →
    ((i : ℕ) → get_or w i 0 ≤ 255) →
    t ≤ 255 * length q →
    TermsFit (dot q w) (sum q) t (length q)
sums q w t e hn bq bw ht =
    record {
      few = hn;
      products = omega (arith, dot-high 0 (lit≤ tt) q w e bq bw);
      bytes = omega (arith, sum-high 1 (lit≤ tt) q bq);
      stored = ht;
    }

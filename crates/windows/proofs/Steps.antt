-- Σqw as the code takes it: pair after pair, and block after block.
-- Assumes nothing.
use mathlib.Core.Path.{◌≡◌, refl, sym}
use mathlib.Core.Logic.{◌⊎◌, inl, inr}
use mathlib.Core.List.{List, [], ◌∷◌}
use Prim.Native.Nat.{ℕ, zero, suc, ◌+◌, ◌*◌, ◌/◌, ◌≤◌}
use native.Mathlib.Nat.{mul-le-mul, zero-mul, div-add-mod'}
use native.Mathlib.Omega.{arith}
use lib.ListN.{length, take, drop, get_or, length-drop}
use lib.Seq.{drop-drop}
use Rattle.std.specs.Prelude.{sum_by}
use Rattle.std.specs.List.{zip}
use Rattle.std.specs.Simd.{first_chunks}
use Rattle.std.proofs.lemmas.List.Sums.{sum_by-cons}
use Rattle.numbers.specs.Total.{dot}

-- the product of two bytes
pub byte_product : {x y : ℕ} → x ≤ 255 → y ≤ 255 → x * y ≤ 65025
byte_product hx hy = mul-le-mul {n₂ = 255} {m₂ = 255} hx hy

-- Σqw as std sums a list of pairs
pub dot_is : (q w : List ℕ) → dot q w ≡ sum_by (λ p. p.0 * p.1) (zip q w)
dot_is [] [] = refl
dot_is [] (y ∷ w) = refl
dot_is (x ∷ q) [] = refl
dot_is (x ∷ q) (y ∷ w) = rw (dot_is q w) (sym (sum_by-cons (λ p. p.0 * p.1) (x, y) (zip q w)))

-- Σqw of bytes is at most 65025 for each pair
pub dot_most : (q w : List ℕ) → ((i : ℕ) → get_or q i 0 ≤ 255) → ((i : ℕ) → get_or w i 0 ≤ 255) → dot q w ≤ 65025 * length q
dot_most [] [] h g = omega arith
dot_most [] (y ∷ w) h g = omega arith
dot_most (x ∷ q) [] h g = omega arith
dot_most (x ∷ q) (y ∷ w) h g = omega (arith, byte_product (h 0) (g 0), dot_most q w (λ i. h (suc i)) (λ i. g (suc i)))

-- Σqw of blocks
abbrev pub dots_of : List (List ℕ) → List (List ℕ) → ℕ
dots_of q w = sum_by (λ p. dot p.0 p.1) (zip q w)

-- of one block more
pub dots_step :
    {q w q' w' : List (List ℕ)} {x y : List ℕ} →
    q ≡ x ∷ q' →
    w ≡ y ∷ w' →
    dots_of q w ≡ dot x y + dots_of q' w'
dots_step {q' = q'} {w' = w'} {x = x} {y = y} e f = rw (e, f) (sum_by-cons (λ p. dot p.0 p.1) (x, y) (zip q' w'))

-- of no more blocks
pub dots_end : (q w : List (List ℕ)) → (q ≡ []) ⊎ (w ≡ []) → dots_of q w ≡ 0
dots_end q w (inl e) = rw e refl
dots_end [] w (inr e) = refl
dots_end (x ∷ q) w (inr e) = rw e refl

-- Σqw of the first n pairs and of the others
dot_split :
    (n : ℕ) (q w : List ℕ) →
    n ≤ length q →
    n ≤ length w →
    dot q w ≡ dot (take n q) (take n w) + dot (drop n q) (drop n w)
dot_split zero q w h g = omega arith
dot_split (suc n) [] w h g = absurd (omega arith)
dot_split (suc n) (x ∷ q) [] h g = absurd (omega arith)
dot_split (suc n) (x ∷ q) (y ∷ w) h g = omega (arith, dot_split n q w (omega arith) (omega arith))

-- Σqw of the first k blocks of n, and of the pairs after them
dot_chunks :
    (n k : ℕ) (q w : List ℕ) →
    k * n ≤ length q →
    k * n ≤ length w →
    dots_of (first_chunks n k q) (first_chunks n k w) + dot (drop (k * n) q) (drop (k * n) w) ≡ dot q w
dot_chunks n zero q w h g = rw zero-mul (omega arith)
dot_chunks n (suc k) q w h g =
    let e : suc k * n ≡ n + k * n = omega arith in
    let rest = dot_chunks n k (drop n q) (drop n w) (rw length-drop (omega arith)) (rw length-drop (omega arith)) in
    rw (e, ← (drop-drop (k * n) n q), ← (drop-drop (k * n) n w))
    (omega (
      arith,
      rest,
      dot_split n q w (omega arith) (omega arith),
      dots_step {q' = first_chunks n k (drop n q)} {w' = first_chunks n k (drop n w)} {x = take n q} {y = take n w} refl refl,
    ))

-- Σqw of the whole blocks of n, and of the pairs after them, as a call cuts them
pub dot_blocks :
    (n : ℕ) (q w : List ℕ) {qs ws : List (List ℕ)} {q' w' : List ℕ} →
    length q ≡ length w →
    qs ≡ first_chunks n (length q / n) q →
    q' ≡ drop (length q / n * n) q →
    ws ≡ first_chunks n (length w / n) w →
    w' ≡ drop (length w / n * n) w →
    (dots_of qs ws + dot q' w' ≡ dot q w) × (length q' ≡ length w')
dot_blocks n q w e e₁ e₂ e₃ e₄ =
    let few : length w / n * n ≤ length w = omega (arith, div-add-mod' (length w) n) in
    (rw (e₁, e₂, e₃, e₄, e) (dot_chunks n (length w / n) q w (omega arith) few), rw (e₂, e₄, length-drop (length q / n * n) q, length-drop (length w / n * n) w, e) refl)

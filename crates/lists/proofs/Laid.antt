-- A loop that writes side by side: k of n parts are laid into a list, from a place.
-- Assumes nothing.
use mathlib.Core.Path.{◌≡◌, refl, sym, ap, ◌∙◌}
use mathlib.Core.List.{List, [], ◌∷◌}
use Prim.Native.Nat.{ℕ, zero, suc, ◌+◌, ◌*◌, ◌-◌, ◌≤◌, ◌<◌}
use native.Mathlib.Nat.{add-zero, zero-add, mul-one, mul-le-mul_right}
use native.Mathlib.Omega.{arith}
use native.Mathlib.Decide.{ℕ_discrete}
use lib.ListN.{length, get_or, set, replicate, length-set, length-replicate, get_or-append}
use lib.Seq.{get_or-take, get_or-drop, get_or_at, take_all, drop-cons}
use Rattle.lists.specs.Lists.{pasted, joined, part}
use Rattle.lists.specs.Asked.{Apart}
use Rattle.lists.proofs.Pasted.{part_length, part_apart, apart_within, pasted_nil, pasted_whole, joined_length, ones_length, joined_more, joined-set, joined_done, joined-part, joined_fill}

-- an element of a part
pub part_at : {A : Type 0} (d : List A) (z : A) (at n i : ℕ) → i < n → get_or (part d at n) i z ≡ get_or d (at + i) z
part_at d z at n i h = rw (get_or-take, get_or-drop)

-- d' is d with the first k of the parts from `at`
pub record Laid {A : Type 0} (n : ℕ) (f : ℕ → List A) (d : List A) (at : ℕ) (d' : List A) (k : ℕ) : Type 0 where
  pub few : k ≤ n
  pub is : d' ≡ pasted d at (joined k f)
  pub same : length d' ≡ length d

-- room for one more of n parts of m elements, from a place
pub room : (k n m at : ℕ) {a all : ℕ} → a ≡ at + k * m → k < n → at + n * m ≤ all → a + m ≤ all
room k n m at e h r = omega (arith, e, mul-le-mul_right {m = k + 1} {n = n} m (omega arith))

module _ {A : Type 0} (n : ℕ) (f : ℕ → List A) (d : List A) (at : ℕ) where
  -- before the first turn
  pub laid_none : Laid n f d at d 0
  unfolding joined
  laid_none = record { few = omega arith; is = sym (pasted_nil d at); same = refl }

  -- a turn that writes the next part
  pub laid_more :
      (m k : ℕ) {a : ℕ} {d₁ d₂ : List A} →
      ((i : ℕ) → length (f i) ≡ m) →
      at ≤ length d →
      k < n →
      a ≡ at + k * m →
      Laid n f d at d₁ k →
      d₂ ≡ pasted d₁ a (f k) →
      length d₂ ≡ length d₁ →
      Laid n f d at d₂ (k + 1)
  laid_more m k hm h g ea l e same = record {
    few = omega arith;
    is = joined_more d at k m f hm h ea l.is e;
    same = same ∙ l.same;
  }

  -- after the last turn
  pub laid_done : {k : ℕ} {d₁ : List A} → Laid n f d at d₁ k → n ≤ k → d₁ ≡ pasted d at (joined n f)
  laid_done l h = joined_done d at f (omega (arith, l.few)) l.is

  -- what stands apart from all of the parts is as it was
  pub laid-apart :
      (m from j : ℕ) {k : ℕ} {d₁ : List A} →
      ((i : ℕ) → length (f i) ≡ m) →
      Apart from j at (n * m) →
      at ≤ length d →
      Laid n f d at d₁ k →
      part d₁ from j ≡ part d from j
  laid-apart m from j {k} hm a g l =
      let laid = mul-le-mul_right {m = k} {n = n} m l.few in
      ap (λ r. part r from j) l.is ∙
      part_apart d (joined k f) at from j
      (apart_within j (n * m) j (length (joined k f)) a (omega arith) (omega (arith, joined_length k m f hm)) (omega arith) (omega arith)) g

  -- an element that stands apart from all of the elements that are laid is as it was
  pub laid-at :
      (z : A) (x : ℕ) {k : ℕ} {d₁ : List A} →
      ((i : ℕ) → length (f i) ≡ 1) →
      Apart x 1 at n →
      at ≤ length d →
      Laid n f d at d₁ k →
      get_or d₁ x z ≡ get_or d x z
  laid-at z x {d₁ = d₁} hm a g l =
      sym (first_of d₁ x) ∙ ap (λ r. get_or r 0 z) (laid-apart 1 x 1 hm (rw mul-one a) g l) ∙ first_of d x
    where
      first_of : (r : List A) (i : ℕ) → get_or (part r i 1) 0 z ≡ get_or r i z
      first_of r i = part_at r z i 1 0 (omega arith) ∙ rw add-zero

-- a turn that stores the next element
pub laid_store : {A : Type 0}
    (n : ℕ) (v : ℕ → A) (d : List A) (at k : ℕ) {x : A} {d₁ : List A} →
    at + n ≤ length d →
    k < n →
    Laid n (λ i. v i ∷ []) d at d₁ k →
    x ≡ v k →
    Laid n (λ i. v i ∷ []) d at (set d₁ (at + k) x) (k + 1)
laid_store n v d at k {x} {d₁} h g l e = record {
  few = omega arith;
  is = joined-set d at k v (omega arith) l.is e;
  same = length-set d₁ (at + k) x ∙ l.same;
}

-- the same, of a loop that fills an array
pub laid_array_store : {A : Type 0}
    (n : ℕ) (v : ℕ → A) (z : A) (k : ℕ) {x : A} {d₁ : List A} →
    k < n →
    Laid n (λ i. v i ∷ []) (replicate n z) 0 d₁ k →
    x ≡ v k →
    Laid n (λ i. v i ∷ []) (replicate n z) 0 (set d₁ k x) (k + 1)
laid_array_store n v z k {x} {d₁} g l e =
    rw (zero-add k) at (laid_store n v (replicate n z) 0 k (omega (arith, length-replicate n z)) g l e)

-- a part as the code cuts it, from a up to a + n
pub cut_is : {A : Type 0} (d : List A) (a n : ℕ) → part d a (a + n - a) ≡ part d a n
cut_is d a n = let e : a + n - a ≡ n = omega arith in rw e

pub cut_length : {A : Type 0} (d : List A) (a n : ℕ) → a + n ≤ length d → length (part d a (a + n - a)) ≡ n
cut_length d a n h = ap length (cut_is d a n) ∙ part_length d a n h

-- ---- what a loop has laid at its end

-- one element of those that are laid
pub joined_at : {A : Type 0} (n : ℕ) (f : ℕ → A) (z : A) (t : ℕ) → t < n → get_or (joined n (λ i. f i ∷ [])) t z ≡ f t
unfolding joined
joined_at zero f z t h = absurd (omega arith)
joined_at (suc n) f z t h =
    let l = ones_length n f in
    elim (ℕ_discrete t n) [
      | yes e ↦ rw e (get_or_at (joined n (λ i. f i ∷ [])) (f n) [] z n l)
      | no e ↦ get_or-append (joined n (λ i. f i ∷ [])) (f n ∷ []) z t (omega arith) ∙ joined_at n f z t (omega arith)
    ]

-- an array that the loop fills from its first element to its last
pub laid_array : {A : Type 0}
    (n : ℕ) (v : ℕ → A) (z : A) {k : ℕ} {d : List A} →
    Laid n (λ i. v i ∷ []) (replicate n z) 0 d k →
    n ≤ k →
    d ≡ joined n (λ i. v i ∷ [])
laid_array n v z l h =
    laid_done n (λ i. v i ∷ []) (replicate n z) 0 l h ∙
    pasted_whole (replicate n z) (joined n (λ i. v i ∷ [])) (ones_length n v ∙ sym (length-replicate n z))

-- all elements of a list, one after another
pub joined_all : {A : Type 0} (s : List A) (z : A) → joined (length s) (λ i. get_or s i z ∷ []) ≡ s
joined_all s z =
    joined-part (length s) 1 0 s (λ i. get_or s i z ∷ []) (λ i h. one i h)
    ∙ rw mul-one (take_all (length s) s (omega arith))
  where
    one : (i : ℕ) → i < length s → get_or s i z ∷ [] ≡ part s (0 + i * 1) 1
    one i h = rw (zero-add, mul-one, drop-cons s i z h) refl

-- one element n times
pub joined_one : {A : Type 0} (n : ℕ) (z : A) → joined n (λ i. z ∷ []) ≡ replicate n z
joined_one n z = joined_fill n 1 z (λ i. z ∷ []) (λ i h. refl) ∙ ap (λ k. replicate k z) (mul-one n)

-- Laws of `part`, `Apart`, `pasted` and `joined`: what a loop that writes has written, and what it left as it was.
-- Assumes nothing.
use mathlib.Core.Path.{◌≡◌, refl, sym, ap, ◌∙◌}
use mathlib.Core.Logic.{inl, inr}
use mathlib.Core.List.{List, [], ◌∷◌, ◌++◌, append_assoc, append-nil}
use Prim.Native.Nat.{ℕ, zero, suc, ◌+◌, ◌*◌, ◌-◌, ◌≤◌, ◌<◌}
use native.Mathlib.Nat.{add-zero, zero-add, add-suc, add_assoc, add-sub_of_le, zero-mul, suc-mul, mul-one}
use native.Mathlib.Numerals.{add-one}
use native.Mathlib.Omega.{arith}
use lib.ListN.{length, take, drop, set, replicate, length-append, length-take, length-drop, take-append-drop, drop_of_length-le, replicate-append-replicate}
use lib.Seq.{set_split, take_at, drop_at, take-take, drop-drop, take-add}
use Rattle.lists.specs.Lists.{pasted, joined, part}
use Rattle.lists.specs.Asked.{Apart}

-- ---- a part of a list

-- a part within the list has its length
pub part_length : {A : Type 0} (d : List A) (at n : ℕ) → at + n ≤ length d → length (part d at n) ≡ n
part_length d at n h = rw (length-take, length-drop) (omega arith)

-- a part of the first n elements
part-take : {A : Type 0} (d : List A) (n from m : ℕ) → from + m ≤ n → part (take n d) from m ≡ part d from m
part-take d n zero m h = take-take m n d (omega arith)
part-take d zero (suc from) m h = absurd (omega arith)
part-take [] (suc n) (suc from) m h = refl
part-take (x ∷ d) (suc n) (suc from) m h = part-take d n from m (omega arith)

-- a part of a part
pub part-part : {A : Type 0} (d : List A) (at n from m : ℕ) → from + m ≤ n → part (part d at n) from m ≡ part d (at + from) m
part-part d at n from m h = part-take (drop at d) n from m h ∙ ap (take m) (drop-drop from at d)

-- ---- places that lie apart

-- stretches within two that lie apart lie apart
pub apart_within :
    (k n k' n' : ℕ) {from at from' at' : ℕ} →
    Apart from k at n →
    at ≤ at' →
    at' + n' ≤ at + n →
    from ≤ from' →
    from' + k' ≤ from + k →
    Apart from' k' at' n'
apart_within k n k' n' (inl h) a b c d = inl (omega arith)
apart_within k n k' n' (inr h) a b c d = inr (omega arith)

-- ---- a list with a part pasted in

-- nothing is pasted
pub pasted_nil : {A : Type 0} (d : List A) (at : ℕ) → pasted d at [] ≡ d
unfolding pasted
pasted_nil d at = simp (add-zero, append-nil, take-append-drop)

-- all of the list is pasted over
pub pasted_whole : {A : Type 0} (d s : List A) → length s ≡ length d → pasted d 0 s ≡ s
unfolding pasted
pasted_whole d s e = rw (zero-add, drop_of_length-le d {i = length s} (omega arith)) (append-nil s)

-- the length stays
pub pasted_length : {A : Type 0} (d : List A) (at : ℕ) (s : List A) → at + length s ≤ length d → length (pasted d at s) ≡ length d
unfolding pasted
pasted_length d at s h = simp (length-append, length-take, length-drop) (omega arith)

-- the front of the list, up to where the pasted part ends
front_length : {A : Type 0} (d : List A) (at : ℕ) (s : List A) → at ≤ length d → length (take at d ++ s) ≡ at + length s
front_length d at s h = simp (length-append, length-take) (omega arith)

-- the end of the list, from where the pasted part ends
pasted_end : {A : Type 0}
    (d : List A) (at : ℕ) (s : List A) →
    at ≤ length d →
    drop (at + length s) (pasted d at s) ≡ drop (at + length s) d
unfolding pasted
pasted_end d at s h = drop_at (take at d ++ s) _ (at + length s) (front_length d at s h)

-- a part that ends before what is pasted is as it was
pub part_before : {A : Type 0}
    (d s : List A) (at from n : ℕ) →
    from + n ≤ at →
    at ≤ length d →
    part (pasted d at s) from n ≡ part d from n
unfolding pasted
part_before d s at from n h g =
    let front = take_at (take at d) (s ++ drop (at + length s) d) at (rw length-take (omega arith)) in
    rw append_assoc
    (sym (part-take _ at from n h) ∙ ap (λ r. part r from n) front ∙ part-take d at from n h)

-- a part that starts after what is pasted is as it was
pub part-after : {A : Type 0}
    (d s : List A) (at from n : ℕ) →
    at + length s ≤ from →
    at ≤ length d →
    part (pasted d at s) from n ≡ part d from n
part-after d s at from n h g =
    let m = at + length s in
    let rest = drop-drop (from - m) m in
    ap (take n) (rw (← (add-sub_of_le h), ← (rest (pasted d at s)), pasted_end d at s g) (rest d))

-- a part that lies apart from what is pasted is as it was
pub part_apart : {A : Type 0}
    (d s : List A) (at from n : ℕ) →
    Apart from n at (length s) →
    at ≤ length d →
    part (pasted d at s) from n ≡ part d from n
part_apart d s at from n (inl h) g = part_before d s at from n h g
part_apart d s at from n (inr h) g = part-after d s at from n h g

-- the part that is pasted
pub part-pasted : {A : Type 0} (d s : List A) (at n : ℕ) → length s ≡ n → at ≤ length d → part (pasted d at s) at n ≡ s
unfolding pasted
part-pasted d s at n e g =
    let rest = drop_at (take at d) (s ++ drop (at + length s) d) at (rw length-take (omega arith)) in
    rw (append_assoc, rest) (take_at s _ n e)

-- a part pasted after a part
pub pasted-pasted : {A : Type 0}
    (d : List A) (at : ℕ) (s t : List A) →
    at ≤ length d →
    pasted (pasted d at s) (at + length s) t ≡ pasted d at (s ++ t)
unfolding pasted
pasted-pasted d at s t h =
    let m = at + length s in
    rw (
      take_at (take at d ++ s) (drop m d) m (front_length d at s h),
      ← (drop-drop (length t) m (pasted d at s)),
      pasted_end d at s h,
    )
    (simp (drop-drop, length-append, append_assoc, add_assoc))

-- the same, with the first part's length as the code has it
pub pasted_more : {A : Type 0}
    (d : List A) (at n : ℕ) (s t : List A) →
    length s ≡ n →
    at ≤ length d →
    pasted (pasted d at s) (at + n) t ≡ pasted d at (s ++ t)
pasted_more d at n s t e h = rw (← e) (pasted-pasted d at s t h)

-- a store
pub pasted_one : {A : Type 0} (d : List A) (at : ℕ) (v : A) → at < length d → set d at v ≡ pasted d at (v ∷ [])
unfolding pasted
pasted_one d at v h = rw (add-one, set_split d at v) (simp append_assoc)

-- a store right after a part
pub pasted-set : {A : Type 0}
    (d : List A) (at n : ℕ) (v : A) (s : List A) →
    length s ≡ n →
    at + n < length d →
    set (pasted d at s) (at + n) v ≡ pasted d at (s ++ (v ∷ []))
pasted-set d at n v s e h =
    pasted_one (pasted d at s) (at + n) v (rw (pasted_length d at s (omega arith)) h) ∙
    pasted_more d at n s (v ∷ []) e (omega arith)

-- ---- parts joined

-- one part more
pub joined_step : {A : Type 0} (n : ℕ) (f : ℕ → List A) → joined (n + 1) f ≡ joined n f ++ f n
unfolding joined
joined_step n f = rw add-one

-- parts of one length
pub joined_length : {A : Type 0} (n k : ℕ) (f : ℕ → List A) → ((i : ℕ) → length (f i) ≡ k) → length (joined n f) ≡ n * k
unfolding joined
joined_length zero k f h = omega arith
joined_length (suc n) k f h = rw length-append (omega (arith, joined_length n k f h, h n))

-- parts of one element
pub ones_length : {A : Type 0} (n : ℕ) (v : ℕ → A) → length (joined n (λ i. v i ∷ [])) ≡ n
ones_length n v = joined_length n 1 (λ i. v i ∷ []) (λ i. refl) ∙ mul-one n

-- the same parts
pub joined_same : {A : Type 0} (n : ℕ) {f g : ℕ → List A} → ((i : ℕ) → i < n → f i ≡ g i) → joined n f ≡ joined n g
unfolding joined
joined_same zero h = refl
joined_same (suc n) h = cc (joined_same n (λ i k. h i (omega arith)), h n (omega arith))

-- one part
pub joined_only : {A : Type 0} (n : ℕ) (f : ℕ → List A) → n ≡ 1 → joined n f ≡ f 0
unfolding joined
joined_only n f e = rw e

-- the first m parts and the rest
pub joined-add : {A : Type 0} (m n : ℕ) (f : ℕ → List A) → joined (m + n) f ≡ joined m f ++ joined n (λ b. f (m + b))
unfolding joined
joined-add m zero f = simp (add-zero, append-nil)
joined-add m (suc n) f = rw (add-suc, joined-add m n f) (simp append_assoc)

-- parts that are all one byte
pub joined_fill : {A : Type 0}
    (m k : ℕ) (z : A) (f : ℕ → List A) →
    ((b : ℕ) → b < m → f b ≡ replicate k z) →
    joined m f ≡ replicate (m * k) z
unfolding joined
joined_fill zero k z f h = simp zero-mul
joined_fill (suc m) k z f h =
    rw (joined_fill m k z f (λ b g. h b (omega arith)), h m (omega arith), replicate-append-replicate, suc-mul)

-- parts that lie side by side in one list
pub joined-part : {A : Type 0}
    (m k base : ℕ) (t : List A) (f : ℕ → List A) →
    ((b : ℕ) → b < m → f b ≡ part t (base + b * k) k) →
    joined m f ≡ part t base (m * k)
unfolding joined
joined-part zero k base t f h = simp zero-mul
joined-part (suc m) k base t f h =
    rw (joined-part m k base t f (λ b g. h b (omega arith)), h m (omega arith), suc-mul, take-add, drop-drop)

-- a loop that writes a part each turn: d₁ is d with the first a parts, and d₂ has one more
pub joined_more : {A : Type 0}
    (d : List A) (base a k : ℕ) (f : ℕ → List A) {at : ℕ} {d₁ d₂ : List A} →
    ((i : ℕ) → length (f i) ≡ k) →
    base ≤ length d →
    at ≡ base + a * k →
    d₁ ≡ pasted d base (joined a f) →
    d₂ ≡ pasted d₁ at (f a) →
    d₂ ≡ pasted d base (joined (a + 1) f)
joined_more d base a k f hk hd ea e₁ e₂ =
    rw (e₂, e₁, ea, joined_step, pasted_more d base (a * k) (joined a f) (f a) (joined_length a k f hk) hd)

-- such a loop at its end
pub joined_done : {A : Type 0}
    (d : List A) (base : ℕ) (f : ℕ → List A) {d₁ : List A} {a n : ℕ} →
    a ≡ n →
    d₁ ≡ pasted d base (joined a f) →
    d₁ ≡ pasted d base (joined n f)
joined_done d base f h e = e ∙ ap (λ (k : ℕ). pasted d base (joined k f)) h

-- a loop that stores an element each turn
pub joined-set : {A : Type 0}
    (d : List A) (base a : ℕ) (v : ℕ → A) {x : A} {d₁ : List A} →
    base + a < length d →
    d₁ ≡ pasted d base (joined a (λ i. v i ∷ [])) →
    x ≡ v a →
    set d₁ (base + a) x ≡ pasted d base (joined (a + 1) (λ i. v i ∷ []))
joined-set d base a v h e ex =
    rw (e, ex, joined_step, pasted-set d base a (v a) (joined a (λ i. v i ∷ [])) (ones_length a v) h)

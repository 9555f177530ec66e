-- A loop that writes each element of a part of a list.
-- Assumes nothing.
use mathlib.Core.Path.{◌≡◌, sym, ap, ◌∙◌}
use mathlib.Core.List.{List, [], ◌∷◌, ◌++◌, append_assoc}
use Prim.Native.Nat.{ℕ, ◌+◌, ◌-◌, ◌≤◌, ◌<◌}
use native.Mathlib.Nat.{zero-add}
use native.Mathlib.Omega.{arith}
use lib.ListN.{length, get_or, take, drop, take-append-drop}
use lib.Seq.{drop-drop, take-take}
use Rattle.std.proofs.lemmas.List.{drop-take}
use Rattle.lists.specs.Lists.{pasted, joined, part}
use Rattle.lists.proofs.Pasted.{joined_same, ones_length}
use Rattle.lists.proofs.Laid.{cut_length, joined_all}

-- the elements that the loop has written, put back where the part was, from at up to at + n
pub filled : {A : Type 0}
    (d : List A) (z : A) (at n : ℕ) (v : ℕ → A) (items : List A) →
    at + n ≤ length d →
    length items ≡ length (part d at (at + n - at)) →
    ((k : ℕ) → k < length items → get_or items k z ≡ v k) →
    take at d ++ (items ++ drop (at + n - at) (drop at d)) ≡ pasted d at (joined n (λ k. v k ∷ []))
unfolding pasted
filled {A} d z at n v items h e w =
    let long : length items ≡ n = e ∙ cut_length d at n h in
    let all : items ≡ joined n (λ k. v k ∷ []) =
    sym (joined_all items z) ∙ joined_same (length items) (λ k g. ap (λ (x : A). x ∷ []) (w k g)) ∙ ap (λ (m : ℕ). joined m (λ k. v k ∷ [])) long in
    let m : at + n - at ≡ n = omega arith in
    rw (ones_length n v, ← all, m, drop-drop, append_assoc)

-- what is pasted into the rest of a list, from at on, and into the front of it, up to at
pub pasted_rest : {A : Type 0} (d : List A) (at : ℕ) (s : List A) → take at d ++ pasted (drop at d) 0 s ≡ pasted d at s
unfolding pasted
pasted_rest d at s = simp (zero-add, drop-drop, append_assoc)

pub pasted_front : {A : Type 0} (d : List A) (m at : ℕ) (s : List A) → at + length s ≤ m → pasted (take m d) at s ++ drop m d ≡ pasted d at s
unfolding pasted
pasted_front d m at s h =
    let n = at + length s in
    let j = m - n in
    let e : m ≡ n + j = omega arith in
    let g : at ≤ n + j = omega arith in
    let whole = ap (λ t. take at d ++ s ++ t) (take-append-drop j (drop n d)) in
    rw (e, take-take at (n + j) d g, drop-take n j d, ← (drop-drop j n d)) (append_assoc (take at d ++ s) (take j (drop n d)) (drop j (drop n d)) ∙ whole)

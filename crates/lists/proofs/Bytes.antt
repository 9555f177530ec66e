-- Lists whose elements are all bytes, at most 255, as what is made of such lists is.
-- Assumes nothing.
use mathlib.Core.List.{List, [], ◌∷◌, ◌++◌}
use Prim.Native.Nat.{ℕ, zero, suc, ◌+◌, ◌≤◌, ◌<◌}
use native.Mathlib.Omega.{arith}
use lib.ListN.{length, take, drop, get_or, replicate}
use lib.Seq.{get_or-drop}
use Rattle.lists.specs.Lists.{pasted, joined}

abbrev pub Bytes : List ℕ → Type 0
Bytes l = (i : ℕ) → get_or l i 0 ≤ 255

-- no elements
pub bytes_nil : Bytes []
bytes_nil i = omega arith

-- the first n elements
pub bytes_take : (n : ℕ) (l : List ℕ) → Bytes l → Bytes (take n l)
bytes_take zero l h i = omega arith
bytes_take (suc n) [] h i = omega arith
bytes_take (suc n) (x ∷ l) h zero = h 0
bytes_take (suc n) (x ∷ l) h (suc i) = bytes_take n l (λ j. h (suc j)) i

-- the elements from n
pub bytes_drop : (n : ℕ) (l : List ℕ) → Bytes l → Bytes (drop n l)
bytes_drop n l h i = rw get_or-drop (h (n + i))

-- two lists
pub bytes_append : (l m : List ℕ) → Bytes l → Bytes m → Bytes (l ++ m)
bytes_append [] m h g i = g i
bytes_append (x ∷ l) m h g zero = h 0
bytes_append (x ∷ l) m h g (suc i) = bytes_append l m (λ j. h (suc j)) g i

-- one byte n times
pub bytes_replicate : (n z : ℕ) → z ≤ 255 → Bytes (replicate n z)
bytes_replicate zero z h i = omega arith
bytes_replicate (suc n) z h zero = h
bytes_replicate (suc n) z h (suc i) = bytes_replicate n z h i

-- parts joined
pub bytes_joined : (n : ℕ) (f : ℕ → List ℕ) → ((i : ℕ) → i < n → Bytes (f i)) → Bytes (joined n f)
unfolding joined
bytes_joined zero f h = bytes_nil
bytes_joined (suc n) f h = bytes_append (joined n f) (f n) (bytes_joined n f (λ i k. h i (omega arith))) (h n (omega arith))

-- parts of one byte
pub bytes_ones : (n : ℕ) (v : ℕ → ℕ) → ((i : ℕ) → i < n → v i ≤ 255) → Bytes (joined n (λ i. v i ∷ []))
bytes_ones n v h = bytes_joined n _ (λ i k. bytes_replicate 1 (v i) (h i k))

-- a list with a part pasted in
pub bytes_pasted : (d : List ℕ) (at : ℕ) (s : List ℕ) → Bytes d → Bytes s → Bytes (pasted d at s)
unfolding pasted
bytes_pasted d at s h g =
    bytes_append (take at d ++ s) (drop (at + length s) d) (bytes_append (take at d) s (bytes_take at d h) g) (bytes_drop (at + length s) d h)

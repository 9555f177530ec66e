-- Lists that are written a part at a time.
-- Assumes nothing.
use Rattle.std.specs.Prelude.{ℕ, zero, suc, ◌+◌, List, [], ◌++◌, length, take, drop}

-- d with s in it from place at
unfoldable pub pasted : {A : Type 0} → List A → ℕ → List A → List A
pasted d at s = take at d ++ s ++ drop (at + length s) d

-- f 0 ++ f 1 ++ .. ++ f (n − 1)
unfoldable pub joined : {A : Type 0} → ℕ → (ℕ → List A) → List A
joined zero f = []
joined (suc n) f = joined n f ++ f n

-- n elements of d from place at
abbrev pub part : {A : Type 0} → List A → ℕ → ℕ → List A
part d at n = take n (drop at d)

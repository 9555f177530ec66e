-- The total of an output.
-- Assumes nothing.
use Rattle.std.specs.Prelude.{ℕ, ◌+◌, ◌*◌, List, [], ◌∷◌, ℤ, pos, ◌+ℤ◌, ◌-ℤ◌, ◌*ℤ◌, length}

-- Σq
abbrev pub sum : List ℕ → ℕ
sum [] = 0
sum (x ∷ xs) = x + sum xs

-- Σqw
abbrev pub dot : List ℕ → List ℕ → ℕ
dot [] [] = 0
dot [] (w ∷ ws) = 0
dot (q ∷ qs) [] = 0
dot (q ∷ qs) (w ∷ ws) = q * w + dot qs ws

-- b + Σqw − VΣq − ZT + NZV, of the sums
abbrev pub total_from : ℤ → ℕ → ℕ → ℕ → ℕ → ℕ → ℕ → ℤ
total_from b qw q t n z v = b +ℤ pos qw -ℤ pos (v * q) -ℤ pos (z * t) +ℤ pos (n * z * v)

-- the total of the input bytes q and the weights w, with the bias b, the stored sum T and the zero-points Z and V
abbrev pub total_of : ℤ → List ℕ → List ℕ → ℕ → ℕ → ℕ → ℤ
total_of b q w t z v = total_from b (dot q w) (sum q) t (length q) z v

-- Σ(q − Z)(w − V)
abbrev pub centred : ℕ → ℕ → List ℕ → List ℕ → ℤ
centred z v [] [] = pos 0
centred z v [] (w ∷ ws) = pos 0
centred z v (q ∷ qs) [] = pos 0
centred z v (q ∷ qs) (w ∷ ws) = (pos q -ℤ pos z) *ℤ (pos w -ℤ pos v) +ℤ centred z v qs ws

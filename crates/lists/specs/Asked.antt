-- What is asked of the places of two parts. No promise of a call rests on it.
-- Assumes nothing.
use Rattle.std.specs.Prelude.{ℕ, ◌+◌, ◌≤◌, ◌⊎◌}

-- k places from one, and n from another, have none in common
abbrev pub Apart : ℕ → ℕ → ℕ → ℕ → Type 0
Apart from k at n = (from + k ≤ at) ⊎ (at + n ≤ from)

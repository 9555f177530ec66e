-- Shapes and sizes of tensors.
-- Assumes nothing.
use Rattle.std.specs.Prelude.{ℕ, ◌+◌, ◌*◌, Bool, false, cond, leb, eqb}
use Rattle.numbers.specs.Limits.{tensor_most, area_most}
use Rattle.fields.specs.Faults.{unless}
use Rattle.fields.specs.declared.shape.Shape.{Shape}

unfoldable pub bytes_of : Shape → ℕ
bytes_of s = s.rows * s.columns * s.channels

-- the bytes of a row
abbrev pub row_bytes : Shape → ℕ
row_bytes s = s.columns * s.channels

-- one tensor has at most 16,384 bytes, all tensors so far, with this one, at most 65,536
unfoldable pub size_fault : Shape → ℕ → ℕ
size_fault s total = cond (leb (bytes_of s) tensor_most) (unless (leb (total + bytes_of s) area_most) 3) 3

unfoldable pub same_shape : Shape → Shape → Bool
same_shape a b = cond (eqb a.rows b.rows) (cond (eqb a.columns b.columns) (eqb a.channels b.channels) false) false

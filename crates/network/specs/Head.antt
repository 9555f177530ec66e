-- The head.
-- Assumes nothing.
use Rattle.std.specs.Prelude.{ℕ, List, [], ◌∷◌}
use Rattle.fields.specs.Faults.{unless, first_fault, within, spare_fault, cut_fault}
use Rattle.fields.specs.Bytes.{byte_at, u16_at}
use Rattle.records.specs.Mark.{is_mark}
use Rattle.fields.specs.Shape.{size_fault}
use Rattle.fields.specs.declared.shape.Shape.{Shape}

-- rows, columns and channels
unfoldable pub picture_at : List ℕ → Shape
picture_at s = record { rows = u16_at s 2; columns = u16_at s 4; channels = byte_at s 6 }

unfoldable pub head_mark : List ℕ → ℕ
head_mark s = unless (is_mark s 0 0x4E 0x48) 1

-- present, mark, spare, fields in file order, shape
unfoldable pub head_fault : List ℕ → ℕ
head_fault s = first_fault (
    cut_fault s 0 10 ∷
    head_mark s ∷
    spare_fault (byte_at s 9) ∷
    within 1 256 (u16_at s 2) ∷
    within 1 256 (u16_at s 4) ∷
    within 1 64 (byte_at s 6) ∷
    within 1 16 (byte_at s 8) ∷
    size_fault (picture_at s) 0 ∷ [])

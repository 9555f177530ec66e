-- The full record.
-- Assumes nothing.
use Rattle.std.specs.Prelude.{ℕ, ◌+◌, List, [], ◌∷◌}
use Rattle.fields.specs.Faults.{first_fault, within}
use Rattle.fields.specs.Bytes.{u16_at}
use Rattle.fields.specs.declared.shape.Shape.{Shape}
use Rattle.records.specs.Weighing.{weighing_at, weighing_fields}
use Rattle.records.specs.declared.full.Full.{Full}

-- the parameters of the record at a place
abbrev pub full_at : List ℕ → ℕ → Full
full_at s at = record {
  outputs = u16_at s (at + 2);
  weighing = weighing_at s (at + 4) (at + 10);
}

-- the fields in file order
abbrev pub full_fields : Full → ℕ
full_fields f = first_fault (
    within 1 256 f.outputs ∷
    weighing_fields f.weighing ∷ [])

-- 1 row, 1 column and a channel per output
abbrev pub full_output : Full → Shape
full_output f = record { rows = 1; columns = 1; channels = f.outputs }

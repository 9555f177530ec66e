-- The convolution record.
-- Assumes nothing.
use Rattle.std.specs.Prelude.{ℕ, ◌+◌, List, [], ◌∷◌}
use Rattle.fields.specs.Faults.{first_fault, within}
use Rattle.fields.specs.Bytes.{byte_at}
use Rattle.records.specs.Frame.{frame_fields}
use Rattle.records.specs.Weighing.{weighing_at, weighing_fields}
use Rattle.records.specs.declared.conv.Conv.{Conv}

-- zero throughout
abbrev pub blank_conv : Conv
blank_conv = record {
  filters = 0;
  frame = record { height = 0; width = 0; stride = 0; padding = 0 };
  weighing = record { v = 0; zero = 0; low = 0; high = 0; scale = record { multiplier = 0; shift = 0 } };
}

-- the parameters of the record at a place
abbrev pub conv_at : List ℕ → ℕ → Conv
conv_at s at = record {
  filters = byte_at s (at + 2);
  frame = record {
    height = byte_at s (at + 3);
    width = byte_at s (at + 4);
    stride = byte_at s (at + 5);
    padding = byte_at s (at + 6);
  };
  weighing = weighing_at s (at + 7) (at + 12);
}

-- the fields in file order
abbrev pub conv_fields : Conv → ℕ
conv_fields c = first_fault (
    within 1 64 c.filters ∷
    frame_fields c.frame ∷
    weighing_fields c.weighing ∷ [])

-- What a convolution and a full layer have in common: the weight zero-point v, the output zero-point, the clamp, and the scale.
-- Assumes nothing.
use Rattle.std.specs.Prelude.{ℕ, ◌+◌, List, [], ◌∷◌}
use Rattle.fields.specs.Faults.{first_fault, shift_fault, multiplier_fault, clamp_fault}
use Rattle.fields.specs.Bytes.{byte_at, u32_at}
use Rattle.records.specs.declared.weighing.Weighing.{Weighing}

-- the fields that stand from a place on, and the multiplier at its own
abbrev pub weighing_at : List ℕ → ℕ → ℕ → Weighing
weighing_at s from multiplier = record {
  v = byte_at s from;
  zero = byte_at s (from + 1);
  low = byte_at s (from + 2);
  high = byte_at s (from + 3);
  scale = record { multiplier = u32_at s multiplier; shift = byte_at s (from + 4) };
}

-- the fields in file order
abbrev pub weighing_fields : Weighing → ℕ
weighing_fields w = first_fault (
    clamp_fault w.low w.high ∷
    shift_fault w.scale.shift ∷
    multiplier_fault w.scale.multiplier ∷ [])

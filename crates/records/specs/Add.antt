-- The add record.
-- Assumes nothing.
use Rattle.std.specs.Prelude.{ℕ, ◌+◌, List, [], ◌∷◌}
use Rattle.fields.specs.Faults.{first_fault, shift_fault, multiplier_fault, clamp_fault}
use Rattle.fields.specs.Bytes.{byte_at, u32_at}
use Rattle.records.specs.declared.add.Add.{Add}

-- the parameters of the record at a place
abbrev pub add_at : List ℕ → ℕ → Add
add_at s at = record {
  other = byte_at s (at + 2);
  zero = byte_at s (at + 3);
  low = byte_at s (at + 4);
  high = byte_at s (at + 5);
  first = record { multiplier = u32_at s (at + 6); shift = byte_at s (at + 18) };
  second = record { multiplier = u32_at s (at + 10); shift = byte_at s (at + 19) };
  third = record { multiplier = u32_at s (at + 14); shift = byte_at s (at + 20) };
}

-- the fields in file order
abbrev pub add_fields : Add → ℕ
add_fields a = first_fault (
    clamp_fault a.low a.high ∷
    multiplier_fault a.first.multiplier ∷
    multiplier_fault a.second.multiplier ∷
    multiplier_fault a.third.multiplier ∷
    shift_fault a.first.shift ∷
    shift_fault a.second.shift ∷
    shift_fault a.third.shift ∷ [])

-- The two-byte mark before each record, and the table by it.
-- Assumes nothing.
use Rattle.std.specs.Prelude.{ℕ, ◌+◌, ◌-◌, List, Bool, false, cond, length, ltb, eqb}
use Rattle.fields.specs.Bytes.{byte_at}
use Rattle.records.specs.declared.mark.Mark.{Mark}
use Rattle.records.specs.declared.mark.Mark.TheVariants.{CV, FU, AD, Other}

-- the two bytes a, b stand at a place
unfoldable pub is_mark : List ℕ → ℕ → ℕ → ℕ → Bool
is_mark s at a b = cond (eqb (byte_at s at) a) (eqb (byte_at s (at + 1)) b) false

-- the mark at a place, Other where it is cut or unknown
unfoldable pub mark_at : List ℕ → ℕ → Mark
mark_at s at =
    cond (ltb (length s - at) 2) Other
    (cond (is_mark s at 0x43 0x56) CV
    (cond (is_mark s at 0x46 0x55) FU
    (cond (is_mark s at 0x41 0x44) AD
    Other)))

-- how many bytes of a record stand before its biases
abbrev pub fixed_len : Mark → ℕ
fixed_len CV = 16
fixed_len FU = 14
fixed_len AD = 22
fixed_len Other = 2

-- how many first bytes a replacement shares: bytes 0–6 of a convolution, 0–3 of a full layer, 0–2 of an add
abbrev pub agreeing : Mark → ℕ
agreeing CV = 7
agreeing FU = 4
agreeing AD = 3
agreeing Other = 2

-- Numbers as the file holds them, little-endian. Past the file's end there is 0, which no test lets count.
-- Assumes nothing.
use Rattle.std.specs.Prelude.{ℕ, ◌+◌, ◌*◌, ◌^◌, cond, List, ltb, ℤ, pos, ◌-ℤ◌, get_or}

-- the byte at a place
abbrev pub byte_at : List ℕ → ℕ → ℕ
byte_at s at = get_or s at 0

abbrev pub u16_at : List ℕ → ℕ → ℕ
u16_at s at = byte_at s at + 256 * byte_at s (at + 1)

abbrev pub u32_at : List ℕ → ℕ → ℕ
u32_at s at = byte_at s at + 256 * byte_at s (at + 1) + 65536 * byte_at s (at + 2) + 16777216 * byte_at s (at + 3)

-- the signed number whose four bytes make x
unfoldable pub signed : ℕ → ℤ
signed x = cond (ltb x (2 ^ 31)) (pos x) (pos x -ℤ pos (2 ^ 32))

abbrev pub i32_at : List ℕ → ℕ → ℤ
i32_at s at = signed (u32_at s at)

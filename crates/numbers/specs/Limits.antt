-- The limits of document 01 on what a network holds.
-- Assumes nothing.
use Rattle.std.specs.Prelude.{ℕ}

-- the bytes of a network file
abbrev pub file_most : ℕ
file_most = 65536

-- the bytes of all tensors
abbrev pub area_most : ℕ
area_most = 65536

-- the bytes of one tensor, so the terms of an output too
abbrev pub tensor_most : ℕ
tensor_most = 16384

-- Files with the number that each is refused with, 0 for one that is taken, by computing. P11 and P12 are in the table of `facts`.
-- Assumes nothing.
use Prim.Native.Nat.{ℕ}
use mathlib.Core.Path.{◌≡◌, refl}
use mathlib.Core.List.{List, [], ◌∷◌, ◌++◌, map}
use lib.ListN.{set, take, drop, replicate}
use Rattle.fields.specs.Bytes.{signed}
use Rattle.fields.specs.Faults.{first, within, bias_fault, clamp_fault, padding_fault, spare_fault, cut_fault}
use Rattle.records.specs.Mark.{is_mark, mark_at}
use Rattle.fields.specs.Shape.{bytes_of, size_fault, same_shape}
use Rattle.fields.specs.Stored.{bias_faults, stored_len, stored_fault}
use Rattle.records.specs.Frame.{fits, frame_output}
use Rattle.records.specs.Reader.{own_fault, suit_fault, answer, read_as}
use Rattle.network.specs.Network.{layer_of}
use Rattle.network.specs.Head.{picture_at, head_mark, head_fault}
use Rattle.network.specs.Decode.{read_layer, stopped, started, start_of, pushed, step_of, steps_of, end_fault, decoded_as, decode_of}
use Rattle.network.specs.Replace.{agree, replace_fault}

-- ---- records

abbrev conv : List ℕ
conv = 0x43 ∷ 0x56 ∷ 1 ∷ 1 ∷ 1 ∷ 1 ∷ 0 ∷ 0 ∷ 0 ∷ 0 ∷ 0xFF ∷ 0 ∷ 0 ∷ 0 ∷ 0 ∷ 0x40 ∷ 0 ∷ 0 ∷ 0 ∷ 0 ∷ 1 ∷ []

abbrev full : List ℕ
full = 0x46 ∷ 0x55 ∷ 1 ∷ 0 ∷ 0 ∷ 0 ∷ 0 ∷ 0xFF ∷ 0 ∷ 0 ∷ 0 ∷ 0 ∷ 0 ∷ 0x40 ∷ 0 ∷ 0 ∷ 0 ∷ 0 ∷ 1 ∷ []

-- of tensor 0
abbrev add : List ℕ
add = 0x41 ∷ 0x44 ∷ 0 ∷ 0 ∷ 0 ∷ 0xFF ∷ 0 ∷ 0 ∷ 0 ∷ 0x40 ∷ 0 ∷ 0 ∷ 0 ∷ 0x40 ∷ 0 ∷ 0 ∷ 0 ∷ 0x40 ∷ 0 ∷ 0 ∷ 0 ∷ 0 ∷ []

-- ---- files

-- network K
abbrev pub k : List ℕ
k = 0x4E ∷ 0x48 ∷ 3 ∷ 0 ∷ 1 ∷ 0 ∷ 1 ∷ 10 ∷ 1 ∷ 0 ∷
    0x43 ∷ 0x56 ∷ 1 ∷ 3 ∷ 3 ∷ 1 ∷ 1 ∷ 0 ∷ 0 ∷ 0 ∷ 0xFF ∷ 0 ∷ 0 ∷ 0 ∷ 0 ∷ 0x40 ∷
    0 ∷ 0 ∷ 0 ∷ 0 ∷ 1 ∷ 1 ∷ 1 ∷ 1 ∷ 1 ∷ 1 ∷ 1 ∷ 1 ∷ 1 ∷ []

-- the head of one layer over a picture of one byte, of n layers over one of 128 × 128 bytes, and of 256 × 256, which is too big
abbrev tiny : List ℕ
tiny = 0x4E ∷ 0x48 ∷ 1 ∷ 0 ∷ 1 ∷ 0 ∷ 1 ∷ 0 ∷ 1 ∷ 0 ∷ []

abbrev wide : ℕ → List ℕ
wide n = 0x4E ∷ 0x48 ∷ 128 ∷ 0 ∷ 128 ∷ 0 ∷ 1 ∷ 0 ∷ n ∷ 0 ∷ []

abbrev huge : List ℕ
huge = 0x4E ∷ 0x48 ∷ 0 ∷ 1 ∷ 0 ∷ 1 ∷ 1 ∷ 0 ∷ 1 ∷ 0 ∷ []

-- K with the bias 2^30 + 1; and with a kernel that is too big for its picture
abbrev biased : List ℕ
biased = set (set k 26 1) 29 0x40

abbrev kernel : List ℕ
kernel = set (set (set k 13 7) 14 7) 16 0

-- ---- the table

abbrev pub cases : List (List ℕ × ℕ)
cases =
    -- the bias 2^30, −2^30, −2^30 − 1
    (set k 29 0x40, 0) ∷
    (set k 29 0xC0, 0) ∷
    (set (set (set (set k 26 0xFF) 27 0xFF) 28 0xFF) 29 0xBF, 2) ∷
    -- a byte more; a layer more, or fewer, than the head says
    (k ++ (0 ∷ []), 1) ∷
    (k ++ add, 1) ∷
    (set k 8 2, 1) ∷
    -- the other kinds; an add of the tensor just before it, of one that is not there yet, and of one of another shape
    (tiny ++ full, 0) ∷
    (tiny ++ add, 0) ∷
    (set k 8 2 ++ set add 2 1, 0) ∷
    (set k 8 2 ++ set add 2 2, 3) ∷
    (set (set k 8 2) 16 2 ++ add, 3) ∷
    -- the length decides before all else: neither file has a mark
    (replicate 65536 0, 1) ∷
    (replicate 65537 0, 3) ∷
    -- the head: cut or of another mark, and rows 0; a spare, and rows 0; 0 layers, and too big; too big, and no layer follows
    ([], 1) ∷
    (take 9 (set tiny 2 0), 1) ∷
    (set (set tiny 0 0) 2 0, 1) ∷
    (set (set tiny 9 1) 2 0, 1) ∷
    (set tiny 2 0, 2) ∷
    (set huge 8 0, 2) ∷
    (huge, 3) ∷
    -- a fixed part that is cut, or of another mark, before a field
    (take 25 (set k 12 0), 1) ∷
    (set (set k 10 0) 12 0, 1) ∷
    (set k 12 0, 2) ∷
    -- a spare before a field
    (tiny ++ set (set full 9 1) 2 0, 1) ∷
    (tiny ++ set full 2 0, 2) ∷
    (tiny ++ set (set add 21 1) 9 0, 1) ∷
    -- a field before the shape
    (set kernel 15 5, 2) ∷
    (kernel, 3) ∷
    (tiny ++ set (set add 2 1) 9 0, 2) ∷
    (tiny ++ set add 2 1, 3) ∷
    -- the shape before biases and weights that are not there
    (take 26 kernel, 3) ∷
    -- these before a bias
    (take 38 biased, 1) ∷
    -- a bias before the bytes that follow, and before the next record
    (biased ++ (0 ∷ []), 2) ∷
    (set biased 8 2, 2) ∷
    -- one tensor of 32,768 bytes, before its biases; all tensors of 65,536, and of more, before a bias and before the next record
    (wide 1 ++ set (take 16 conv) 2 2, 3) ∷
    (wide 3 ++ add ++ add ++ add, 0) ∷
    (wide 4 ++ add ++ add ++ add ++ add, 3) ∷
    (wide 5 ++ add ++ add ++ add ++ set conv 19 0x7F, 3) ∷ []

-- a record that is to replace the one of a file's first layer
abbrev pub replacements : List (List ℕ × List ℕ × ℕ)
replacements =
    -- the record in place; another length; the last byte that must agree, and the first that need not; a field; a bias
    (k, drop 10 k, 0) ∷
    (k, take 28 (drop 10 k), 9) ∷
    (k, drop 10 k ++ (0 ∷ []), 9) ∷
    (k, set (drop 10 k) 6 2, 9) ∷
    (k, set (drop 10 k) 7 2, 0) ∷
    (k, set (drop 10 k) 11 32, 9) ∷
    (k, drop 10 biased, 9) ∷
    (tiny ++ full, set full 3 1, 9) ∷
    (tiny ++ full, set full 4 1, 0) ∷
    (tiny ++ full, set full 9 1, 9) ∷
    (tiny ++ add, set add 2 1, 9) ∷
    (tiny ++ add, set add 3 1, 0) ∷
    (tiny ++ add, set add 21 1, 9) ∷ []

pub refused :
    (map (λ c. (decode_of c.0).fault) cases ≡ map (λ c. c.1) cases) ×
    (map (λ c. replace_fault c.0 (layer_of (decode_of c.0).network 0) c.1) replacements ≡ map (λ c. c.2) replacements)
unfolding signed first within bias_fault clamp_fault padding_fault spare_fault cut_fault is_mark mark_at bytes_of size_fault same_shape bias_faults stored_len stored_fault fits frame_output own_fault suit_fault answer read_as picture_at head_mark head_fault read_layer stopped started start_of pushed step_of steps_of end_fault decoded_as decode_of agree replace_fault
refused = (refl, refl)

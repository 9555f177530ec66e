-- Every field of the head and of each record at both ends of its range, and just beyond them, by computing; and a file of just 65,536 bytes.
-- Assumes nothing.
use Prim.Native.Nat.{ℕ, ◌+◌, ◌*◌}
use mathlib.Core.Path.{◌≡◌, refl}
use mathlib.Core.List.{List, [], ◌∷◌, ◌++◌, map}
use lib.ListN.{set, length, replicate}
use Rattle.fields.specs.Bytes.{signed}
use Rattle.fields.specs.Faults.{first, within, bias_fault, clamp_fault, padding_fault, spare_fault, cut_fault}
use Rattle.fields.specs.Shape.{bytes_of, size_fault, same_shape}
use Rattle.fields.specs.Stored.{bias_faults, stored_len, stored_fault}
use Rattle.records.specs.Mark.{is_mark, mark_at}
use Rattle.records.specs.Frame.{fits, frame_output}
use Rattle.records.specs.Reader.{own_fault, suit_fault, answer, read_as}
use Rattle.network.specs.Head.{picture_at, head_mark, head_fault}
use Rattle.network.specs.Decode.{read_layer, stopped, started, start_of, pushed, step_of, steps_of, end_fault, decoded_as, decode_of}

-- ---- files

-- the head of n layers over a picture of so many rows and columns
abbrev head : ℕ → ℕ → ℕ → List ℕ
head n rows columns = 0x4E ∷ 0x48 ∷ rows ∷ 0 ∷ columns ∷ 0 ∷ 1 ∷ 0 ∷ n ∷ 0 ∷ []

-- a convolution of f filters with that kernel, all weights 1
abbrev conv : ℕ → ℕ → ℕ → List ℕ
conv f rows columns =
    0x43 ∷ 0x56 ∷ f ∷ rows ∷ columns ∷ 1 ∷ 0 ∷ 0 ∷ 0 ∷ 0 ∷ 0xFF ∷ 0 ∷ 0 ∷ 0 ∷ 0 ∷ 0x40 ∷
    (replicate (4 * f) 0 ++ replicate (f * (rows * columns)) 1)

-- a full layer of low + 256 × up outputs, over w bytes
abbrev full : ℕ → ℕ → ℕ → List ℕ
full low up w =
    0x46 ∷ 0x55 ∷ low ∷ up ∷ 0 ∷ 0 ∷ 0 ∷ 0xFF ∷ 0 ∷ 0 ∷ 0 ∷ 0 ∷ 0 ∷ 0x40 ∷
    (replicate (4 * low + 1024 * up) 0 ++ replicate (low * w + 256 * up * w) 1)

-- of tensor 0
abbrev add : List ℕ
add = 0x41 ∷ 0x44 ∷ 0 ∷ 0 ∷ 0 ∷ 0xFF ∷ 0 ∷ 0 ∷ 0 ∷ 0x40 ∷ 0 ∷ 0 ∷ 0 ∷ 0x40 ∷ 0 ∷ 0 ∷ 0 ∷ 0x40 ∷ 0 ∷ 0 ∷ 0 ∷ 0 ∷ []

abbrev adds : ℕ → List ℕ
adds n = head n 1 1 ++ (add ++ add ++ add ++ add ++ add ++ add ++ add ++ add ++ add ++ add ++ add ++ add ++ add ++ add ++ add ++ add)

abbrev one_add : List ℕ
one_add = head 1 1 1 ++ add

abbrev one_conv : List ℕ
one_conv = head 1 7 7 ++ conv 1 1 1

abbrev one_full : List ℕ
one_full = head 1 1 1 ++ full 1 0 1

-- ---- the table: a file, and the number that it is refused with, 0 where it is taken

-- a byte of a file at each of some values
abbrev each : List ℕ → ℕ → List ℕ → ℕ → List (List ℕ × ℕ)
each file at values number = map (λ v. (set file at v, number)) values

-- two bytes: the lower, the upper
abbrev pair : List ℕ → ℕ → List (ℕ × ℕ) → ℕ → List (List ℕ × ℕ)
pair file at values number = map (λ v. (set (set file at v.0) (1 + at) v.1, number)) values

-- low and high of a clamp
abbrev clamps : List ℕ → ℕ → List (List ℕ × ℕ)
clamps file at = pair file at ((0, 0) ∷ (0, 255) ∷ (255, 255) ∷ []) 0 ++ pair file at ((1, 0) ∷ (255, 254) ∷ []) 2

-- a shift from 0 to 31
abbrev shifts : List ℕ → ℕ → List (List ℕ × ℕ)
shifts file at = each file at (0 ∷ 31 ∷ []) 0 ++ each file at (32 ∷ 255 ∷ []) 2

-- a multiplier from 2^30 to 2^31 − 1
abbrev multipliers : List ℕ → ℕ → List (List ℕ × ℕ)
multipliers file at =
    (file, 0) ∷
    (set (set (set (set file at 255) (1 + at) 255) (2 + at) 255) (3 + at) 0x7F, 0) ∷
    (set (set (set (set file at 255) (1 + at) 255) (2 + at) 255) (3 + at) 0x3F, 2) ∷
    (set file (3 + at) 0x80, 2) ∷ []

-- any byte will do
abbrev any : List ℕ → ℕ → List (List ℕ × ℕ)
any file at = each file at (0 ∷ 255 ∷ []) 0

-- only 0 will do
abbrev spare : List ℕ → ℕ → List (List ℕ × ℕ)
spare file at = each file at (1 ∷ 255 ∷ []) 1

-- rows, columns, channels, zero-point, layers, spare
abbrev pub heads : List (List ℕ × ℕ)
heads =
    pair one_add 2 ((1, 0) ∷ (0, 1) ∷ []) 0 ++ pair one_add 2 ((0, 0) ∷ (1, 1) ∷ []) 2 ++
    pair one_add 4 ((1, 0) ∷ (0, 1) ∷ []) 0 ++ pair one_add 4 ((0, 0) ∷ (1, 1) ∷ []) 2 ++
    each one_add 6 (1 ∷ 64 ∷ []) 0 ++ each one_add 6 (0 ∷ 65 ∷ []) 2 ++
    any one_add 7 ++
    (one_add, 0) ∷ (adds 16, 0) ∷ (set one_add 8 0, 2) ∷ (adds 17, 2) ∷ spare one_add 9

-- filters, kernel rows and columns, stride, padding, weight and output zero-point, clamp, shift, multiplier
abbrev pub convs : List (List ℕ × ℕ)
convs =
    (one_conv, 0) ∷ (head 1 7 7 ++ conv 64 1 1, 0) ∷ (set one_conv 12 0, 2) ∷ (head 1 7 7 ++ conv 65 1 1, 2) ∷
    (head 1 7 7 ++ conv 1 7 1, 0) ∷ (set one_conv 13 0, 2) ∷ (head 1 7 7 ++ conv 1 8 1, 2) ∷
    (head 1 7 7 ++ conv 1 1 7, 0) ∷ (set one_conv 14 0, 2) ∷ (head 1 7 7 ++ conv 1 1 8, 2) ∷
    (each one_conv 15 (1 ∷ 4 ∷ []) 0 ++ each one_conv 15 (0 ∷ 5 ∷ []) 2 ++
    each (head 1 7 7 ++ conv 1 7 2) 16 (0 ∷ 1 ∷ []) 0 ++ each (head 1 7 7 ++ conv 1 7 2) 16 (2 ∷ []) 2 ++
    each (head 1 7 7 ++ conv 1 2 7) 16 (0 ∷ 1 ∷ []) 0 ++ each (head 1 7 7 ++ conv 1 2 7) 16 (2 ∷ []) 2 ++
    any one_conv 17 ++ any one_conv 18 ++ clamps one_conv 19 ++ shifts one_conv 21 ++ multipliers one_conv 22)

-- outputs, weight and output zero-point, clamp, shift, spare, multiplier
abbrev pub fulls : List (List ℕ × ℕ)
fulls =
    (one_full, 0) ∷ (head 1 1 1 ++ full 0 1 1, 0) ∷ (set one_full 12 0, 2) ∷ (head 1 1 1 ++ full 1 1 1, 2) ∷
    (any one_full 14 ++ any one_full 15 ++ clamps one_full 16 ++ shifts one_full 18 ++ spare one_full 19 ++ multipliers one_full 20)

-- output zero-point, clamp, three multipliers, three shifts, spare
abbrev pub additions : List (List ℕ × ℕ)
additions =
    any one_add 13 ++ clamps one_add 14 ++ multipliers one_add 16 ++ multipliers one_add 20 ++ multipliers one_add 24 ++
    shifts one_add 28 ++ shifts one_add 29 ++ shifts one_add 30 ++ spare one_add 31

-- a full layer of 19 outputs over 41 × 84 bytes makes a file of the longest length
abbrev pub longest : List ℕ
longest = head 1 41 84 ++ full 19 0 3444

pub ends :
    (map (λ c. (decode_of c.0).fault) (heads ++ convs ++ fulls ++ additions) ≡ map (λ c. c.1) (heads ++ convs ++ fulls ++ additions)) ×
    (length longest ≡ 65536) × ((decode_of longest).fault ≡ 0) × ((decode_of (longest ++ (0 ∷ []))).fault ≡ 3)
unfolding signed first within bias_fault clamp_fault padding_fault spare_fault cut_fault is_mark mark_at bytes_of size_fault same_shape bias_faults stored_len stored_fault fits frame_output own_fault suit_fault answer read_as picture_at head_mark head_fault read_layer stopped started start_of pushed step_of steps_of end_fault decoded_as decode_of
ends = (refl, refl, refl, refl)

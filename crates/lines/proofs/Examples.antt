-- Examples of the listing, by computation, and the file that is too long.
-- Assumes nothing.
use mathlib.Core.Path.{◌≡◌, refl}
use mathlib.Core.List.{List, [], ◌∷◌}
use Prim.Native.Nat.{ℕ, ◌<◌}
use borrow.Author.Tests.{lt-leb}
use lib.ListN.{length, take}
use Rattle.fields.specs.Faults.{first, within, spare_fault, cut_fault, clamp_fault, padding_fault, bias_fault}
use Rattle.fields.specs.Bytes.{signed}
use Rattle.records.specs.Mark.{is_mark, mark_at}
use Rattle.fields.specs.Shape.{bytes_of, size_fault}
use Rattle.fields.specs.Stored.{bias_faults, stored_len, stored_fault}
use Rattle.records.specs.Frame.{fits, frame_output}
use Rattle.records.specs.Reader.{own_fault, suit_fault, answer, read_as}
use Rattle.lists.specs.Lists.{joined}
use Rattle.network.specs.Head.{picture_at, head_mark, head_fault}
use Rattle.network.specs.Decode.{read_layer, stopped, started, start_of, pushed, step_of, steps_of, end_fault, decoded_as, decode_of}
use Rattle.lines.specs.Listing.{decimal_to, line_of, refused_line, listing_of}

-- network K
abbrev k : List ℕ
k =
    0x4E ∷ 0x48 ∷ 3 ∷ 0 ∷ 1 ∷ 0 ∷ 1 ∷ 10 ∷ 1 ∷ 0 ∷
    0x43 ∷ 0x56 ∷ 1 ∷ 3 ∷ 3 ∷ 1 ∷ 1 ∷ 0 ∷ 0 ∷ 0 ∷ 0xFF ∷ 0 ∷ 0 ∷ 0 ∷ 0 ∷ 0x40 ∷
    0 ∷ 0 ∷ 0 ∷ 0 ∷
    1 ∷ 1 ∷ 1 ∷ 1 ∷ 1 ∷ 1 ∷ 1 ∷ 1 ∷ 1 ∷ []

-- "tensor kind rows columns channels bytes sums", "0 picture 3 1 1 3 0", "1 conv 3 1 1 3 1", each with a newline
abbrev text : List ℕ
text =
    0x74 ∷ 0x65 ∷ 0x6E ∷ 0x73 ∷ 0x6F ∷ 0x72 ∷ 0x20 ∷ 0x6B ∷ 0x69 ∷ 0x6E ∷ 0x64 ∷ 0x20 ∷ 0x72 ∷ 0x6F ∷ 0x77 ∷ 0x73 ∷ 0x20 ∷
    0x63 ∷ 0x6F ∷ 0x6C ∷ 0x75 ∷ 0x6D ∷ 0x6E ∷ 0x73 ∷ 0x20 ∷ 0x63 ∷ 0x68 ∷ 0x61 ∷ 0x6E ∷ 0x6E ∷ 0x65 ∷ 0x6C ∷ 0x73 ∷ 0x20 ∷
    0x62 ∷ 0x79 ∷ 0x74 ∷ 0x65 ∷ 0x73 ∷ 0x20 ∷ 0x73 ∷ 0x75 ∷ 0x6D ∷ 0x73 ∷ 0x0A ∷
    0x30 ∷ 0x20 ∷ 0x70 ∷ 0x69 ∷ 0x63 ∷ 0x74 ∷ 0x75 ∷ 0x72 ∷ 0x65 ∷ 0x20 ∷
    0x33 ∷ 0x20 ∷ 0x31 ∷ 0x20 ∷ 0x31 ∷ 0x20 ∷ 0x33 ∷ 0x20 ∷ 0x30 ∷ 0x0A ∷
    0x31 ∷ 0x20 ∷ 0x63 ∷ 0x6F ∷ 0x6E ∷ 0x76 ∷ 0x20 ∷
    0x33 ∷ 0x20 ∷ 0x31 ∷ 0x20 ∷ 0x31 ∷ 0x20 ∷ 0x33 ∷ 0x20 ∷ 0x31 ∷ 0x0A ∷ []

-- "refused 1" and a newline
abbrev refused_one : List ℕ
refused_one = 0x72 ∷ 0x65 ∷ 0x66 ∷ 0x75 ∷ 0x73 ∷ 0x65 ∷ 0x64 ∷ 0x20 ∷ 0x31 ∷ 0x0A ∷ []

-- network K, and K less its last byte
pub listings : (listing_of k ≡ text) × (listing_of (take 38 k) ≡ refused_one)
unfolding listing_of line_of decimal_to joined decode_of decoded_as end_fault steps_of step_of pushed start_of started stopped read_layer head_fault head_mark picture_at own_fault fits frame_output suit_fault read_as answer stored_fault stored_len bias_faults size_fault bytes_of mark_at is_mark signed bias_fault padding_fault clamp_fault cut_fault spare_fault within first
listings = (refl, refl)

-- an empty file
pub listing_empty : listing_of [] ≡ refused_one
unfolding listing_of decimal_to decode_of decoded_as steps_of start_of started stopped head_fault cut_fault first
listing_empty = refl

-- a file that is too long
pub listing_long : (s : List ℕ) → 65536 < length s → listing_of s ≡ refused_line 3
unfolding listing_of decode_of decoded_as
listing_long s h = rw (lt-leb _ _ h)

-- The sizes of a network, as statements: they are what the calls ask of their buffers, and no call changes them. The proofs stand in
-- proofs/Sizes.antt.
-- Assumes nothing.
use Rattle.std.specs.Prelude.{ℕ, ◌≤◌, ◌≡◌, List, length}
use Rattle.network.specs.Decode.{decode_of}
use Rattle.checks.specs.Tests.{rows_fault, slice_fault}
use Rattle.clew.specs.Sizes.{sizes_of}
use Rattle.clew.specs.Calls.{load_of}
use Rattle.facts.specs.History.{System, Call, after}

-- of a file that is taken
pub record SizesAsked (file : List ℕ) : Type 0 where
  -- a load is accepted where the store has room for the sums and the area for the tensors, and nowhere else
  pub accepted : (sums area : List ℕ) → (sizes_of file).sums ≤ length sums → (sizes_of file).area ≤ length area → (load_of file sums area).0.number ≡ 0
  pub needed : (sums area : List ℕ) → (load_of file sums area).0.number ≡ 0 → ((sizes_of file).sums ≤ length sums) × ((sizes_of file).area ≤ length area)
  -- all rows of the picture are so many bytes, and the slice of a reading is so long
  pub picture : rows_fault (decode_of file).network 0 (decode_of file).network.picture.rows (sizes_of file).picture ≡ 0
  pub reading : (len : ℕ) → slice_fault (decode_of file).network len ≡ 0 → len ≡ (sizes_of file).reading
  pub taken : slice_fault (decode_of file).network (sizes_of file).reading ≡ 0

abbrev pub SizesSuffice : Type 0
SizesSuffice = (file : List ℕ) → (sizes_of file).number ≡ 0 → SizesAsked file

-- buffers that were large enough stay so: no call changes the sizes
abbrev pub SizesStay : Type 0
SizesStay = (c : Call) (s : System) → sizes_of (after c s).file ≡ sizes_of s.file

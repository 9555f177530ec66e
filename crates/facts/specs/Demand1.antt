-- Demand 1, as statements: what a refused call leaves, which numbers a call may give, and that the tests decide in the table's order. The calls
-- are total functions, so each answers every input. The proofs stand in proofs/Demand1.antt.
-- Assumes nothing.
use Rattle.std.specs.Prelude.{ℕ, ◌-◌, ◌≤◌, ◌≡◌, ◌≢◌, ◌⊎◌, List, [], ◌∷◌, length}
use Rattle.fields.specs.Faults.{first_fault, cut_fault}
use Rattle.fields.specs.Shape.{size_fault}
use Rattle.fields.specs.declared.shape.Shape.{Shape}
use Rattle.records.specs.Mark.{fixed_len}
use Rattle.records.specs.Layer.{output_shape}
use Rattle.records.specs.Reader.{own_fault, suit_fault, layer_with, stored_after, number_of, read_as}
use Rattle.records.specs.declared.mark.Mark.{Mark}
use Rattle.records.specs.declared.layer.Kind.{Kind}
use Rattle.records.specs.declared.reader.Before.{Before}
use Rattle.network.specs.Network.{layer_of}
use Rattle.network.specs.Decode.{decode_of}
use Rattle.network.specs.Replace.{replace_fault}
use Rattle.network.specs.declared.net.Network.{Network}
use Rattle.bands.specs.State.{all_stale, state_fault}
use Rattle.bands.specs.declared.state.State.{State}
use Rattle.checks.specs.Tensors.{tensors_of}
use Rattle.checks.specs.Tests.{room_fault, sums_fault, rows_fault, layer_fault, slice_fault, stale_fault}
use Rattle.clew.specs.Sizes.{sizes_of}
use Rattle.clew.specs.Calls.{outcome, load_of, change_of, replace_of, update_of, read_of}
use Rattle.clew.specs.declared.outcome.Outcome.{Outcome}

-- a refusal: count 0, the state s, the buffer as it was
abbrev pub Refusal : Outcome × List ℕ → State → List ℕ → Type 0
Refusal x s buffer = x.0.number ≢ 0 → x ≡ (outcome x.0.number 0 s, buffer)

-- a refused load hands back the all-stale state, any other call the state that it got; the sizes of a refused file are 0
pub record RefusalsChangeNothing : Type 0 where
  pub sizes : (file : List ℕ) → (sizes_of file).number ≢ 0
      → sizes_of file ≡ record { number = (sizes_of file).number; picture = 0; sums = 0; area = 0; reading = 0 }
  pub load : (file sums area : List ℕ) → Refusal (load_of file sums area) all_stale sums
  pub change : (file sums area : List ℕ) (s : State) (first count : ℕ) (rows : List ℕ) → Refusal (change_of file sums area s first count rows) s area
  pub replace : (file sums area : List ℕ) (s : State) (k : ℕ) (r : List ℕ) → (replace_of file sums area s k r).0.number ≢ 0
      → replace_of file sums area s k r ≡ (outcome (replace_of file sums area s k r).0.number 0 s, file, sums)
  pub update : (file sums area : List ℕ) (s : State) → Refusal (update_of file sums area s) s area
  pub read : (file sums area : List ℕ) (s : State) (out : List ℕ) → Refusal (read_of file sums area s out) s out

-- tests 1 to 3, 4, 5 and 6, and a call's own
abbrev pub tests_with : List ℕ → List ℕ → List ℕ → State → List ℕ → ℕ
tests_with file sums area s own = first_fault (
    (decode_of file).fault ∷
    room_fault (decode_of file).network (length sums) (length area) ∷
    state_fault s (tensors_of (decode_of file).network) ∷
    sums_fault (decode_of file).network sums ∷ own)

-- the number is the first fault of the call's tests, in the table's order
pub record TestsInOrder : Type 0 where
  pub sizes : (file : List ℕ) → (sizes_of file).number ≡ (decode_of file).fault
  pub load : (file sums area : List ℕ)
      → (load_of file sums area).0.number ≡ first_fault ((decode_of file).fault ∷ room_fault (decode_of file).network (length sums) (length area) ∷ [])
  pub change : (file sums area : List ℕ) (s : State) (first count : ℕ) (rows : List ℕ)
      → (change_of file sums area s first count rows).0.number ≡ tests_with file sums area s (rows_fault (decode_of file).network first count (length rows) ∷ [])
  pub replace : (file sums area : List ℕ) (s : State) (k : ℕ) (r : List ℕ)
      → (replace_of file sums area s k r).0.number
      ≡ tests_with file sums area s (layer_fault (decode_of file).network k ∷ replace_fault file (layer_of (decode_of file).network (k - 1)) r ∷ [])
  pub update : (file sums area : List ℕ) (s : State) → (update_of file sums area s).0.number ≡ tests_with file sums area s []
  pub read : (file sums area : List ℕ) (s : State) (out : List ℕ)
      → (read_of file sums area s out).0.number ≡ tests_with file sums area s (slice_fault (decode_of file).network (length out) ∷ stale_fault s ∷ [])

-- and so is that of one record: mark and fixed part present; spare and fields; shape; biases and weights present, biases in order
abbrev pub RecordsInOrder : Type 0
RecordsInOrder = (m : Mark) (k : Kind) (s : List ℕ) (at : ℕ) (b : Before) (other : Shape)
    → number_of (read_as m k s at b other) ≡ first_fault (
    cut_fault s at (fixed_len m) ∷
    own_fault m s at ∷
    suit_fault k b other ∷
    size_fault (output_shape k b.input) b.area ∷
    stored_after s (layer_with m k at b) ∷ [])

-- every call but load refuses the all-stale state, for every network and every buffer
pub record AllStaleRefused : Type 0 where
  pub change : (file sums area : List ℕ) (first count : ℕ) (rows : List ℕ) → (change_of file sums area all_stale first count rows).0.number ≢ 0
  pub replace : (file sums area : List ℕ) (k : ℕ) (r : List ℕ) → (replace_of file sums area all_stale k r).0.number ≢ 0
  pub update : (file sums area : List ℕ) → (update_of file sums area all_stale).0.number ≢ 0
  pub read : (file sums area : List ℕ) (out : List ℕ) → (read_of file sums area all_stale out).0.number ≢ 0

-- a test finds no fault, or gives its own number
abbrev pub Gives : ℕ → ℕ → Type 0
Gives k fault = (fault ≡ 0) ⊎ (fault ≡ k)

pub record OwnNumbers : Type 0 where
  pub file : (file : List ℕ) → (decode_of file).fault ≤ 3
  pub room : (n : Network) (sums area : ℕ) → Gives 4 (room_fault n sums area)
  pub state : (s : State) (n : Network) → Gives 5 (state_fault s (tensors_of n))
  pub sums : (n : Network) (sums : List ℕ) → Gives 6 (sums_fault n sums)
  pub rows : (n : Network) (first count len : ℕ) → Gives 7 (rows_fault n first count len)
  pub layer : (n : Network) (k : ℕ) → Gives 7 (layer_fault n k)
  pub slice : (n : Network) (len : ℕ) → Gives 7 (slice_fault n len)
  pub stale : (s : State) → Gives 8 (stale_fault s)
  pub replacement : (file r : List ℕ) (n : Network) (m : ℕ) → Gives 9 (replace_fault file (layer_of n m) r)

-- so the number is one of those that the call may give
pub record Numbers : Type 0 where
  pub sizes : (file : List ℕ) → (sizes_of file).number ≤ 3
  pub load : (file sums area : List ℕ) → (load_of file sums area).0.number ≤ 4
  pub change : (file sums area : List ℕ) (s : State) (first count : ℕ) (rows : List ℕ) → (change_of file sums area s first count rows).0.number ≤ 7
  pub replace : (file sums area : List ℕ) (s : State) (k : ℕ) (r : List ℕ)
      → ((replace_of file sums area s k r).0.number ≤ 7) ⊎ ((replace_of file sums area s k r).0.number ≡ 9)
  pub update : (file sums area : List ℕ) (s : State) → (update_of file sums area s).0.number ≤ 6
  pub read : (file sums area : List ℕ) (s : State) (out : List ℕ) → (read_of file sums area s out).0.number ≤ 8

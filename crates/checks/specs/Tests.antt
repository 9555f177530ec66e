-- The tests of the calls, in the order of the table: 0, or the refusal number.
-- Assumes nothing.
use Rattle.std.specs.Prelude.{ℕ, ◌+◌, ◌*◌, Bool, ◌&&◌, List, [], ◌∷◌, leb, eqb, length, get_or}
use Rattle.fields.specs.Faults.{unless, first_fault}
use Rattle.fields.specs.Shape.{bytes_of, row_bytes}
use Rattle.records.specs.Layer.{sums_of, terms_of}
use Rattle.records.specs.declared.layer.Layer.{Layer}
use Rattle.network.specs.Network.{layer_of, tensor_of}
use Rattle.network.specs.Decode.{decode_of}
use Rattle.network.specs.declared.net.Network.{Network}
use Rattle.lists.specs.Choice.{every}
use Rattle.bands.specs.State.{state_fault, clean}
use Rattle.bands.specs.declared.state.State.{State}
use Rattle.checks.specs.Tensors.{tensors_of}

-- test 4: sum store or area shorter than needed
unfoldable pub room_fault : Network → ℕ → ℕ → ℕ
room_fault n sums area = unless (leb n.store sums && leb n.area area) 4

-- no stored sum of a layer is above 255N
unfoldable pub layer_sums_fit : Layer → List ℕ → Bool
layer_sums_fit y sums = every (sums_of y.kind) (λ f. leb (get_or sums (y.sums + f) 0) (255 * terms_of y.kind y.input))

-- test 6
unfoldable pub sums_fault : Network → List ℕ → ℕ
sums_fault n sums = unless (every n.count (λ m. layer_sums_fit (layer_of n m) sums)) 6

-- load tests 1 to 4
unfoldable pub load_fault : List ℕ → ℕ → ℕ → ℕ
load_fault file sums area = first_fault ((decode_of file).fault ∷ room_fault (decode_of file).network sums area ∷ [])

-- the others test 1 to 6, in this order
unfoldable pub call_fault : List ℕ → List ℕ → ℕ → State → ℕ
call_fault file sums area s = first_fault (
    (decode_of file).fault ∷
    room_fault (decode_of file).network (length sums) area ∷
    state_fault s (tensors_of (decode_of file).network) ∷
    sums_fault (decode_of file).network sums ∷ [])

-- test 7 of change rows: no rows, or rows beyond the picture, or rows of the wrong length
unfoldable pub rows_fault : Network → ℕ → ℕ → ℕ → ℕ
rows_fault n first count len =
    unless (leb 1 count && leb (first + count) n.picture.rows && eqb len (count * row_bytes n.picture)) 7

-- test 7 of replace layer: layer number not 1..n
unfoldable pub layer_fault : Network → ℕ → ℕ
layer_fault n k = unless (leb 1 k && leb k n.count) 7

-- test 7 of read: a reading slice of the wrong length
unfoldable pub slice_fault : Network → ℕ → ℕ
slice_fault n len = unless (eqb len (bytes_of (tensor_of n n.count))) 7

-- test 8: a reading while any band is not empty
unfoldable pub stale_fault : State → ℕ
stale_fault s = unless (clean s) 8

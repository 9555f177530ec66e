-- The five calls that are lent buffers. Each gives the outcome and every lent buffer that it may write, of the values at entry: a refusal
-- reports count 0, hands back the state that it got (load: the all-stale state), and leaves every buffer as it was.
-- Assumes nothing.
use Rattle.std.specs.Prelude.{ℕ, zero, suc, ◌+◌, ◌-◌, ◌*◌, List, [], ◌∷◌, length}
use Rattle.fields.specs.Faults.{first_fault}
use Rattle.records.specs.declared.layer.Layer.{Layer}
use Rattle.network.specs.Network.{layer_of}
use Rattle.network.specs.Decode.{decode_of}
use Rattle.network.specs.Replace.{replace_fault}
use Rattle.network.specs.declared.net.Network.{Network}
use Rattle.lists.specs.Lists.{pasted}
use Rattle.fields.specs.Shape.{row_bytes}
use Rattle.layers.specs.Sums.{layer_sums}
use Rattle.bands.specs.State.{all_stale, all_empty, loaded, changed, replaced}
use Rattle.bands.specs.declared.state.State.{State}
use Rattle.checks.specs.Tensors.{tensors_of}
use Rattle.checks.specs.Tests.{load_fault, call_fault, rows_fault, layer_fault, slice_fault, stale_fault}
use Rattle.updates.specs.Recompute.{network_sums, tensor_in, updated_to, count_to}
use Rattle.clew.specs.declared.outcome.Outcome.{Outcome}

abbrev pub outcome : ℕ → ℕ → State → Outcome
outcome number count s = record { number = number; count = count; state = s }

-- load: fills the sums; area unchanged; every existing tensor's band covers all its rows, the others are empty
abbrev pub load_by : ℕ → Network → List ℕ → List ℕ → Outcome × List ℕ
load_by zero n file sums = (outcome 0 0 (loaded (tensors_of n)), pasted sums 0 (network_sums n file))
load_by (suc fault) n file sums = (outcome (suc fault) 0 all_stale, sums)

unfoldable pub load_of : List ℕ → List ℕ → List ℕ → Outcome × List ℕ
load_of file sums area = load_by (load_fault file (length sums) (length area)) (decode_of file).network file sums

-- change rows: writes picture rows; band 0 becomes the smallest band covering the old one and the new rows
abbrev pub change_by : ℕ → Network → List ℕ → State → ℕ → ℕ → List ℕ → Outcome × List ℕ
change_by zero n area s first count rows = (outcome 0 0 (changed s first (first + count)), pasted area (first * row_bytes n.picture) rows)
change_by (suc fault) n area s first count rows = (outcome (suc fault) 0 s, area)

unfoldable pub change_of : List ℕ → List ℕ → List ℕ → State → ℕ → ℕ → List ℕ → Outcome × List ℕ
change_of file sums area s first count rows =
    change_by (first_fault (call_fault file sums (length area) s ∷ rows_fault (decode_of file).network first count (length rows) ∷ []))
    (decode_of file).network area s first count rows

-- replace layer k: writes the new record over the old one, and its sums; band k covers the whole tensor
abbrev pub replace_by : ℕ → Layer → List ℕ → List ℕ → State → ℕ → List ℕ → Outcome × List ℕ × List ℕ
replace_by zero y file sums s k r =
    (outcome 0 0 (replaced s k y.output.rows), pasted file y.start r, pasted sums y.sums (layer_sums y (pasted file y.start r)))
replace_by (suc fault) y file sums s k r = (outcome (suc fault) 0 s, file, sums)

unfoldable pub replace_of : List ℕ → List ℕ → List ℕ → State → ℕ → List ℕ → Outcome × List ℕ × List ℕ
replace_of file sums area s k r =
    replace_by
    (first_fault (call_fault file sums (length area) s ∷ layer_fault (decode_of file).network k ∷ replace_fault file (layer_of (decode_of file).network (k - 1)) r ∷ []))
    (layer_of (decode_of file).network (k - 1)) file sums s k r

-- update: exactly the rows of the grown bands recomputed from rows and sums stored; all bands empty; the count of the bytes recomputed
abbrev pub update_by : ℕ → Network → List ℕ → List ℕ → List ℕ → State → Outcome × List ℕ
update_by zero n file sums area s = (outcome 0 (count_to n s n.count) all_empty, updated_to n file sums s n.count area)
update_by (suc fault) n file sums area s = (outcome (suc fault) 0 s, area)

unfoldable pub update_of : List ℕ → List ℕ → List ℕ → State → Outcome × List ℕ
update_of file sums area s = update_by (call_fault file sums (length area) s) (decode_of file).network file sums area s

-- read: copies the last tensor to a slice lent for it
abbrev pub read_by : ℕ → Network → List ℕ → State → List ℕ → Outcome × List ℕ
read_by zero n area s out = (outcome 0 0 s, tensor_in n area n.count)
read_by (suc fault) n area s out = (outcome (suc fault) 0 s, out)

unfoldable pub read_of : List ℕ → List ℕ → List ℕ → State → List ℕ → Outcome × List ℕ
read_of file sums area s out =
    read_by (first_fault (call_fault file sums (length area) s ∷ slice_fault (decode_of file).network (length out) ∷ stale_fault s ∷ []))
    (decode_of file).network area s out

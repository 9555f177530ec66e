-- Every call keeps file and area of bytes: what a layer makes is held between low and high, which are bytes of the file.
-- Assumes nothing.
use Prim.Native.Nat.{ℕ, zero, suc, ◌-◌, ◌≤◌}
use mathlib.Core.Path.{◌≡◌, refl}
use mathlib.Core.List.{List}
use native.Mathlib.Omega.{arith}
use lib.IntN.{ℤ, pos, ◌+ℤ◌}
use lib.ListN.{length}
use Rattle.numbers.specs.Rescale.{rescaled}
use Rattle.numbers.specs.Addition.{offset, summed}
use Rattle.numbers.specs.Finish.{finished}
use Rattle.numbers.proofs.Finished.{held-within}
use Rattle.lists.proofs.Bytes.{Bytes, bytes_joined, bytes_ones, bytes_pasted}
use Rattle.fields.specs.Faults.{first}
use Rattle.records.specs.Asked.{WeighingOk, AddOk, KindOk}
use Rattle.records.specs.declared.weighing.Weighing.{Weighing}
use Rattle.records.specs.declared.add.Add.{Add as AddParams}
use Rattle.records.specs.declared.layer.Kind.{Kind}
use Rattle.records.specs.declared.layer.Kind.TheVariants.{Conv, Full, Add}
use Rattle.records.specs.declared.layer.Layer.{Layer}
use Rattle.network.specs.Network.{layer_of}
use Rattle.network.specs.Decode.{decode_of}
use Rattle.network.specs.Replace.{replace_fault}
use Rattle.network.specs.Taken.{Taken}
use Rattle.network.specs.declared.net.Network.{Network}
use Rattle.network.proofs.Bounds.{ByteHighs, kind-highs}
use Rattle.layers.specs.Outputs.{total_at, byte_by, output_of, outputs_of}
use Rattle.layers.specs.Conv.{conv_row}
use Rattle.layers.specs.Add.{add_byte, add_row}
use Rattle.layers.specs.Row.{row_by}
use Rattle.layers.specs.declared.outputs.Outputs.{Outputs}
use Rattle.bands.specs.declared.state.State.{State}
use Rattle.checks.specs.Tests.{call_fault, rows_fault, layer_fault}
use Rattle.checks.proofs.Passed.{call_passed}
use Rattle.updates.specs.Recompute.{redone, updated_to}
use Rattle.clew.specs.Calls.{change_by, change_of, replace_by, replace_of, update_by, update_of}
use Rattle.facts.specs.Demand2.{BytesKept, BytesThroughout}
use Rattle.facts.specs.History.{network_of, change, replace, update, read, begin, then, written}

-- ---- what a layer makes

-- a number that is finished
finished_byte : (r : ℤ) (z low top : ℕ) → low ≤ top → top ≤ 255 → finished r z low top ≤ 255
finished_byte r z low top h few = omega (arith, held-within (r +ℤ pos z) low top h)

-- the byte that a total gives, and that of an add
total_byte : (w : Weighing) (a : ℤ) → WeighingOk w → w.high ≤ 255 → byte_by w a ≤ 255
total_byte w a ok few = finished_byte (rescaled a w.scale.multiplier w.scale.shift) w.zero w.low w.high ok.clamp few

sum_byte : (a : AddParams) (z z' q q' : ℕ) → AddOk a → a.high ≤ 255 → add_byte a z z' q q' ≤ 255
unfolding add_byte
sum_byte a z z' q q' ok few =
    let first = offset q z a.first.multiplier a.first.shift in
    let second = offset q' z' a.second.multiplier a.second.shift in
    finished_byte (summed first second a.third.multiplier a.third.shift) a.zero a.low a.high ok.clamp few

-- the outputs at a window
outputs_bytes : (o : Outputs) (file sums q : List ℕ) → WeighingOk o.weighing → o.weighing.high ≤ 255 → Bytes (outputs_of o file sums q)
unfolding outputs_of output_of
outputs_bytes o file sums q ok few = bytes_ones o.count _ (λ f h. total_byte o.weighing (total_at o file sums q f) ok few)

-- a row
row_bytes_lem :
    (k : Kind) (y : Layer) (z z' : ℕ) (file sums t t' : List ℕ) (i : ℕ)
    → KindOk k
    → ByteHighs k
    → Bytes (row_by k y z z' file sums t t' i)
unfolding conv_row add_row
row_bytes_lem (Conv c) y z z' file sums t t' i ok few = bytes_joined y.output.columns _ (λ j h. outputs_bytes _ file sums _ ok.weighing few)
row_bytes_lem (Full f) y z z' file sums t t' i ok few = outputs_bytes _ file sums t ok.weighing few
row_bytes_lem (Add a) y z z' file sums t t' i ok few = bytes_ones _ _ (λ k h. sum_byte a z z' _ _ ok few)

-- the area after the first m layers of an update
updated_bytes :
    (file : List ℕ) (n : Network) (t : Taken file n) (sums : List ℕ) (s : State) (area : List ℕ)
    → Bytes file
    → Bytes area
    → (m : ℕ)
    → m ≤ n.count
    → Bytes (updated_to n file sums s m area)
unfolding updated_to redone
updated_bytes file n t sums s area bf ba zero h = ba
updated_bytes file n t sums s area bf ba (suc m) h =
    bytes_pasted (updated_to n file sums s m area) _ _ (updated_bytes file n t sums s area bf ba m (omega arith))
    (bytes_joined _ _ (λ k g. row_bytes_lem (layer_of n m).kind (layer_of n m) _ _ file sums _ _ _ (t.layers m h).kind.ok (kind-highs file bf n t m h)))

-- ---- each call, accepted or refused

-- changed rows
change_bytes :
    (fault : ℕ) (n : Network) (area : List ℕ) (s : State) (from count : ℕ) (rows : List ℕ)
    → Bytes area
    → Bytes rows
    → Bytes (change_by fault n area s from count rows).1
change_bytes zero n area s from count rows ba br = bytes_pasted area _ rows ba br
change_bytes (suc fault) n area s from count rows ba br = ba

-- a layer replaced
replace_bytes :
    (fault : ℕ) (y : Layer) (file sums : List ℕ) (s : State) (k : ℕ) (r : List ℕ)
    → Bytes file
    → Bytes r
    → Bytes (replace_by fault y file sums s k r).1
replace_bytes zero y file sums s k r bf br = bytes_pasted file y.start r bf br
replace_bytes (suc fault) y file sums s k r bf br = bf

-- an update
update_bytes :
    (fault : ℕ) (file sums area : List ℕ) (s : State)
    → call_fault file sums (length area) s ≡ fault
    → Bytes file
    → Bytes area
    → Bytes (update_by fault (decode_of file).network file sums area s).1
update_bytes zero file sums area s e bf ba =
    updated_bytes file _ (call_passed file sums (length area) s e).load.taken sums s area bf ba _ (omega arith)
update_bytes (suc fault) file sums area s e bf ba = ba

pub bytes_kept : BytesKept
unfolding change_of replace_of update_of
bytes_kept (change from count rows) s given bf ba =
    let n = network_of s in
    let fault = call_fault s.file s.sums (length s.area) s.state in
    (bf, change_bytes (first fault (rows_fault n from count (length rows))) n s.area s.state from count rows ba given)
bytes_kept (replace k r) s given bf ba =
    let n = network_of s in
    let y = layer_of n (k - 1) in
    let fault = call_fault s.file s.sums (length s.area) s.state in
    (replace_bytes (first fault (first (layer_fault n k) (replace_fault s.file y r))) y s.file s.sums s.state k r bf given, ba)
bytes_kept update s given bf ba = (bf, update_bytes _ s.file s.sums s.area s.state refl bf ba)
bytes_kept (read out) s given bf ba = (bf, ba)

pub bytes_throughout : BytesThroughout
bytes_throughout s (begin k) g = g
bytes_throughout s (then c {s = s'} r) g = let b = bytes_throughout s' r g.0 in bytes_kept c s' g.1 b.0 b.1
bytes_throughout s (written area {s = s'} r e l) g = ((bytes_throughout s' r g.0).0, g.1)

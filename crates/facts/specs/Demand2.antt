-- Demand 2, as statements: each recomputed byte is the one that the published integer scheme gives, no total leaves signed 32 bits, and how far
-- a rescaled number is from the exact product. The proofs stand in proofs/Demand2.antt, proofs/Bytes.antt and proofs/Direct.antt.
-- Assumes nothing.
use Rattle.std.specs.Prelude.{ℕ, suc, ◌+◌, ◌*◌, ◌^◌, ◌≤◌, ◌<◌, ◌≡◌, List, [], ◌∷◌, ℤ, pos, nat_abs, ◌+ℤ◌, ◌-ℤ◌, ◌*ℤ◌, length, get_or}
use Rattle.numbers.specs.Total.{centred}
use Rattle.numbers.specs.Rescale.{rescaled, slack}
use Rattle.numbers.specs.Addition.{offset}
use Rattle.lists.specs.Lists.{joined, part}
use Rattle.windows.specs.Window.{window_of}
use Rattle.fields.specs.Bytes.{i32_at}
use Rattle.fields.specs.Shape.{row_bytes}
use Rattle.records.specs.Layer.{sums_of}
use Rattle.records.specs.declared.layer.Kind.{Kind}
use Rattle.records.specs.declared.layer.Kind.TheVariants.{Conv, Full, Add}
use Rattle.records.specs.declared.layer.Layer.{Layer}
use Rattle.network.specs.Network.{layer_of, zero_of}
use Rattle.network.specs.Decode.{decode_of}
use Rattle.network.specs.declared.net.Network.{Network}
use Rattle.layers.specs.Outputs.{weights_of, total_at, byte_by}
use Rattle.layers.specs.Conv.{window_for, conv_outputs}
use Rattle.layers.specs.Full.{full_outputs}
use Rattle.layers.specs.Add.{add_row}
use Rattle.layers.specs.Sums.{layer_sums}
use Rattle.layers.specs.declared.outputs.Outputs.{Outputs}
use Rattle.bands.specs.Band.{In}
use Rattle.bands.specs.declared.state.State.{State}
use Rattle.checks.specs.Tensors.{link_of}
use Rattle.checks.specs.Tests.{call_fault}
use Rattle.updates.specs.Recompute.{network_sums, tensor_in, row_in, row_from, grown_band_of}
use Rattle.clew.specs.Calls.{update_of}
use Rattle.facts.specs.History.{System, Call, after, Reached}
use Rattle.facts.specs.History.Call.{change, replace, update, read}
use Rattle.facts.specs.History.Reached.{begin, then, written}

-- output f at a window q: the direct sum of offset products plus bias. No stored sum stands in it
abbrev pub direct_total : Outputs → List ℕ → List ℕ → ℕ → ℤ
direct_total o file q f = i32_at file (o.biases + 4 * f) +ℤ centred o.z o.weighing.v q (weights_of file o.weights (length q) f)

-- its byte: that number rescaled and finished
abbrev pub direct_byte : Outputs → List ℕ → List ℕ → ℕ → ℕ
direct_byte o file q f = byte_by o.weighing (direct_total o file q f)

abbrev pub direct_outputs : Outputs → List ℕ → List ℕ → List ℕ
direct_outputs o file q = joined o.count (λ f. direct_byte o file q f ∷ [])

-- row i of a layer; an add has no weights
abbrev pub direct_by : Kind → Layer → ℕ → ℕ → List ℕ → List ℕ → List ℕ → ℕ → List ℕ
direct_by (Conv c) y z z' file t t' i =
    joined y.output.columns (λ j. direct_outputs (conv_outputs y c z) file (window_of (window_for y.input c.frame z) t (i * c.frame.stride) (j * c.frame.stride)))
direct_by (Full f) y z z' file t t' i = direct_outputs (full_outputs y f z) file t
direct_by (Add a) y z z' file t t' i = add_row a z z' (row_bytes y.output) t t' i

-- row i of layer m, from the rows stored in the area
abbrev pub direct_from : Network → List ℕ → ℕ → List ℕ → ℕ → List ℕ
direct_from n file m area i =
    direct_by (layer_of n m).kind (layer_of n m) (zero_of n m) (zero_of n (link_of n m).other) file
    (tensor_in n area m) (tensor_in n area (link_of n m).other) i

-- the store holds the true sums of layer m
abbrev pub TrueSums : Network → List ℕ → List ℕ → ℕ → Type 0
TrueSums n file sums m = part sums (layer_of n m).sums (sums_of (layer_of n m).kind) ≡ layer_sums (layer_of n m) file

-- a call that passes tests 1 to 6, with true weight sums: each row is the direct one
abbrev pub DirectRows : Type 0
DirectRows = (file sums area : List ℕ) (s : State) → call_fault file sums (length area) s ≡ 0
    → (m i : ℕ) → m < (decode_of file).network.count → TrueSums (decode_of file).network file sums m
    → row_from (decode_of file).network file sums m area i ≡ direct_from (decode_of file).network file m area i

-- a list of bytes
abbrev pub AllBytes : List ℕ → Type 0
AllBytes l = (i : ℕ) → get_or l i 0 ≤ 255

-- every total of a layer, with any sums that test 6 lets pass: of output f at any window, or of an add's bytes q and q'
abbrev pub TotalsBy : Kind → Layer → ℕ → ℕ → List ℕ → List ℕ → List ℕ → Type 0
TotalsBy (Conv c) y z z' file sums t =
    (i j f : ℕ) → f < c.filters → nat_abs (total_at (conv_outputs y c z) file sums (window_of (window_for y.input c.frame z) t i j) f) ≤ 2139111424
TotalsBy (Full g) y z z' file sums t = (f : ℕ) → f < g.outputs → nat_abs (total_at (full_outputs y g z) file sums t f) ≤ 2139111424
TotalsBy (Add a) y z z' file sums t =
    (q q' : ℕ) → q ≤ 255 → q' ≤ 255
    → (nat_abs ((pos q -ℤ pos z) *ℤ pos (2 ^ 20)) ≤ 2 ^ 28)
    × (nat_abs ((pos q' -ℤ pos z') *ℤ pos (2 ^ 20)) ≤ 2 ^ 28)
    × (nat_abs (offset q z a.first.multiplier a.first.shift +ℤ offset q' z' a.second.multiplier a.second.shift) ≤ 2 ^ 29)

-- no total of a call that passes tests 1 to 6 leaves signed 32 bits, whatever the area holds
abbrev pub TotalsFit : Type 0
TotalsFit = (file sums area : List ℕ) (s : State) → AllBytes file → AllBytes area → call_fault file sums (length area) s ≡ 0
    → (m : ℕ) → m < (decode_of file).network.count
    → TotalsBy (layer_of (decode_of file).network m).kind (layer_of (decode_of file).network m)
    (zero_of (decode_of file).network m) (zero_of (decode_of file).network (link_of (decode_of file).network m).other) file sums
    (tensor_in (decode_of file).network area m)

-- with true weight sums every total of a layer is the direct sum: of output f at any window. An add has no weights
abbrev pub DirectTotals : Kind → Layer → ℕ → List ℕ → List ℕ → List ℕ → Type 0
DirectTotals (Conv c) y z file sums t =
    (i j f : ℕ) → f < c.filters
    → total_at (conv_outputs y c z) file sums (window_of (window_for y.input c.frame z) t i j) f
    ≡ direct_total (conv_outputs y c z) file (window_of (window_for y.input c.frame z) t i j) f
DirectTotals (Full g) y z file sums t = (f : ℕ) → f < g.outputs → total_at (full_outputs y g z) file sums t f ≡ direct_total (full_outputs y g z) file t f
DirectTotals (Add a) y z file sums t = Unit {0}

-- layer m in the area that an update from the bands of s leaves
pub record DirectLayer (n : Network) (file sums : List ℕ) (s : State) (area : List ℕ) (m : ℕ) : Type 0 where
  -- each recomputed row is the direct one
  pub rows : (i : ℕ) → In i (grown_band_of n s (suc m)) → row_in n area (suc m) i ≡ direct_from n file m area i
  -- each total is the direct sum plus bias
  pub totals : DirectTotals (layer_of n m).kind (layer_of n m) (zero_of n m) file sums (tensor_in n area m)
  -- and leaves signed 32 bits nowhere
  pub fit : TotalsBy (layer_of n m).kind (layer_of n m) (zero_of n m) (zero_of n (link_of n m).other) file sums (tensor_in n area m)

-- demand 2 of the call: an accepted update with true weight sums
abbrev pub DirectUpdates : Type 0
DirectUpdates = (file sums area : List ℕ) (s : State) → AllBytes file → AllBytes area → (update_of file sums area s).0.number ≡ 0
    → part sums 0 (decode_of file).network.store ≡ network_sums (decode_of file).network file
    → (m : ℕ) → m < (decode_of file).network.count → DirectLayer (decode_of file).network file sums s (update_of file sums area s).1 m

-- what a call is given is of bytes
abbrev pub BytesGiven : Call → Type 0
BytesGiven (change first count rows) = AllBytes rows
BytesGiven (replace k r) = AllBytes r
BytesGiven update = Unit {0}
BytesGiven (read out) = Unit {0}

-- every call keeps file and area of bytes
abbrev pub BytesKept : Type 0
BytesKept = (c : Call) (s : System) → BytesGiven c → AllBytes s.file → AllBytes s.area → AllBytes (after c s).file × AllBytes (after c s).area

-- all that a history is given is of bytes: what it begins with, what each call is given, and what the caller writes
abbrev pub HistoryBytes : {s : System} → Reached s → Type 0
HistoryBytes (begin {s} k) = AllBytes s.file × AllBytes s.area
HistoryBytes (then c r) = HistoryBytes r × BytesGiven c
HistoryBytes (written area r e l) = HistoryBytes r × AllBytes area

-- then file and area are of bytes throughout
abbrev pub BytesThroughout : Type 0
BytesThroughout = (s : System) (r : Reached s) → HistoryBytes r → AllBytes s.file × AllBytes s.area

-- twice the distance from the exact product, times 2^(31+n): at most 2^31 if n is 0, otherwise 2^(31+n) + 2^31
abbrev pub Distances : Type 0
Distances = (a : ℤ) (m n : ℕ) → 2 * nat_abs (rescaled a m n *ℤ pos (2 ^ (31 + n)) -ℤ a *ℤ pos m) ≤ slack n

-- Demand 2: with true weight sums each row is the direct one and each total the direct sum, no total leaves signed 32 bits, and how far a
-- rescaled number is from the exact product.
-- Assumes nothing.
use Prim.Native.Nat.{ℕ, ◌+◌, ◌*◌, ◌^◌, ◌≤◌, ◌<◌}
use mathlib.Core.Path.{◌≡◌, refl, sym, ◌∙◌, ap}
use mathlib.Core.List.{List, [], ◌∷◌}
use native.Mathlib.Nat.{mul-le-mul_right}
use native.Mathlib.Omega.{arith}
use lib.IntN.{pos, nat_abs, ◌-ℤ◌, ◌*ℤ◌}
use lib.ListN.{length, get_or}
use Rattle.numbers.specs.Total.{sum}
use Rattle.numbers.specs.Addition.{offset}
use Rattle.numbers.proofs.Whole.{nat, less, times, size}
use Rattle.numbers.proofs.Rescaled.{distance}
use Rattle.numbers.proofs.Added.{offset-small, sum-small}
use Rattle.fields.specs.Shape.{bytes_of}
use Rattle.records.specs.Layer.{sums_of, terms_of, weights_at}
use Rattle.records.specs.declared.layer.Kind.{Kind}
use Rattle.records.specs.declared.layer.Kind.TheVariants.{Conv, Full, Add}
use Rattle.records.specs.declared.conv.Conv.{Conv as ConvParams}
use Rattle.records.specs.declared.layer.Layer.{Layer}
use Rattle.numbers.specs.declared.rescale.Scale.{Scale}
use Rattle.windows.specs.Window.{window_of}
use Rattle.lists.proofs.Bytes.{Bytes, bytes_take, bytes_drop}
use Rattle.lists.proofs.Pasted.{part_length, joined_same}
use Rattle.windows.proofs.Windows.{window-length, window-bytes}
use Rattle.network.specs.Network.{layer_of, tensor_of, place_of, zero_of}
use Rattle.network.specs.Decode.{decode_of}
use Rattle.network.specs.declared.net.Network.{Network}
use Rattle.network.proofs.Bounds.{ByteZeros, kind-zeros, zeros-few}
use Rattle.layers.specs.Outputs.{weights_of, total_at, outputs_of}
use Rattle.layers.specs.Asked.{OutputsReady, KindReady, Ready}
use Rattle.layers.specs.Conv.{window_for, conv_outputs, conv_row}
use Rattle.layers.specs.Full.{full_outputs}
use Rattle.layers.specs.Row.{tensor_at, row_by}
use Rattle.layers.specs.declared.outputs.Outputs.{Outputs}
use Rattle.layers.proofs.Convs.{size_is}
use Rattle.layers.proofs.Direct.{total-direct, output-direct, sum_true, total-within}
use Rattle.layers.proofs.Totals.{ready_any}
use Rattle.bands.specs.declared.state.State.{State}
use Rattle.checks.specs.Tensors.{link_of}
use Rattle.checks.specs.Tests.{call_fault}
use Rattle.checks.proofs.Links.{link-ok}
use Rattle.updates.specs.Asked.{CanRecompute}
use Rattle.updates.proofs.Ready.{layer-ready}
use Rattle.clew.proofs.Entered.{entered}
use Rattle.facts.specs.Demand2.{direct_total, direct_outputs, direct_by, TrueSums, DirectRows, DirectTotals, TotalsBy, TotalsFit, Distances}

-- ---- the outputs at a window q of n bytes, with the true sums of their weights

module _
    (o : Outputs)
    (file sums q : List ℕ)
    (n : ℕ)
    (e : length q ≡ n)
    (r : OutputsReady o n file sums)
    (s : (f : ℕ) → f < o.count → get_or sums (o.sums + f) 0 ≡ sum (weights_of file o.weights n f)) where
  -- the weights of each stand in the file
  standing : (f : ℕ) → f < o.count → o.weights + (f + 1) * length q ≤ length file
  standing f h = rw e (omega (arith, r.weights-in, mul-le-mul_right {m = f + 1} {n = o.count} n (omega arith)))

  -- and its stored sum is theirs
  stored : (f : ℕ) → f < o.count → get_or sums (o.sums + f) 0 ≡ sum (weights_of file o.weights (length q) f)
  stored f h = rw e (s f h)

  -- so each total is the direct one
  total-at : (f : ℕ) → f < o.count → total_at o file sums q f ≡ direct_total o file q f
  total-at f h = total-direct o file sums q (length q) f refl (standing f h) (stored f h)

  -- and so is each byte
  outputs-direct : outputs_of o file sums q ≡ direct_outputs o file q
  unfolding outputs_of
  outputs-direct =
      joined_same o.count (λ f h. ap (λ x. x ∷ []) (output-direct o file sums q (length q) f refl (standing f h) (stored f h)))

-- ---- a layer that is ready

-- the window of a convolution, over a tensor of its input's size
conv_window :
    (y : Layer) (c : ConvParams) (z : ℕ) (t : List ℕ) (i j : ℕ)
    → length t ≡ bytes_of y.input
    → length (window_of (window_for y.input c.frame z) t i j) ≡ terms_of (Conv c) y.input
conv_window y c z t i j e = window-length (window_for y.input c.frame z) t i j (e ∙ sym (size_is y c z refl))

-- each stored sum of a layer is that of its weights
abbrev TrueStored : Kind → Layer → List ℕ → List ℕ → Type 0
TrueStored k y file sums = (f : ℕ) → f < sums_of k → get_or sums (y.sums + f) 0 ≡ sum (weights_of file (weights_at y) (terms_of k y.input) f)

-- a row, with true sums, from a tensor of the input's size
direct_by_lem :
    (k : Kind) (y : Layer) (z z' : ℕ) (file sums t t' : List ℕ) (i : ℕ)
    → KindReady k y file sums
    → length t ≡ bytes_of y.input
    → TrueStored k y file sums
    → row_by k y z z' file sums t t' i ≡ direct_by k y z z' file t t' i
unfolding conv_row
direct_by_lem (Conv c) y z z' file sums t t' i r e s =
    joined_same y.output.columns (λ j h.
    outputs-direct (conv_outputs y c z) file sums _ _ (conv_window y c z t _ _ e) (ready_any (conv_outputs y c 0) z _ r.outputs) s)
direct_by_lem (Full f) y z z' file sums t t' i r e s =
    outputs-direct (full_outputs y f z) file sums t _ e (ready_any (full_outputs y f 0) z _ r.outputs) s
direct_by_lem (Add a) y z z' file sums t t' i r e s = refl

-- and all totals
direct_totals_by :
    (k : Kind) (y : Layer) (z : ℕ) (file sums t : List ℕ)
    → KindReady k y file sums
    → length t ≡ bytes_of y.input
    → TrueStored k y file sums
    → DirectTotals k y z file sums t
direct_totals_by (Conv c) y z file sums t r e s = λ i j.
    total-at (conv_outputs y c z) file sums (window_of (window_for y.input c.frame z) t i j) _
    (conv_window y c z t i j e) (ready_any (conv_outputs y c 0) z _ r.outputs) s
direct_totals_by (Full g) y z file sums t r e s =
    total-at (full_outputs y g z) file sums t _ e (ready_any (full_outputs y g 0) z _ r.outputs) s
direct_totals_by (Add a) y z file sums t r e s = tt

-- what an add works with, before it is rescaled
scaled_small : (q z : ℕ) → q ≤ 255 → z ≤ 255 → nat_abs ((pos q -ℤ pos z) *ℤ pos (2 ^ 20)) ≤ 2 ^ 28
scaled_small q z hq hz = omega (arith, size (times (less (nat q) (nat z)) (nat (2 ^ 20))))

-- and after it is
offset_most : (q z : ℕ) (x : Scale) → q ≤ 255 → z ≤ 255 → x.multiplier ≤ 2147483647 → nat_abs (offset q z x.multiplier x.shift) ≤ 2 ^ 28
offset_most q z x hq hz hm = omega (arith, offset-small q z x.multiplier x.shift hq hz (omega arith))

-- the totals, from a tensor of bytes
totals_by :
    (k : Kind) (y : Layer) (z z' : ℕ) (file sums t : List ℕ)
    → ByteZeros k
    → KindReady k y file sums
    → Bytes file
    → Bytes t
    → length t ≡ bytes_of y.input
    → z ≤ 255
    → z' ≤ 255
    → TotalsBy k y z z' file sums t
totals_by (Conv c) y z z' file sums t zeros r bf bt e hz hz' = λ i j f h.
    total-within (conv_outputs y c z) file sums (window_of (window_for y.input c.frame z) t i j) _ f (ready_any (conv_outputs y c 0) z _ r.outputs) h
    (conv_window y c z t i j e) (window-bytes (window_for y.input c.frame z) t i j bt hz) bf hz zeros.0
totals_by (Full g) y z z' file sums t zeros r bf bt e hz hz' = λ f h.
    total-within (full_outputs y g z) file sums t _ f (ready_any (full_outputs y g 0) z _ r.outputs) h e bt bf hz zeros.0
totals_by (Add a) y z z' file sums t zeros r bf bt e hz hz' = λ q q' hq hq'. (
  scaled_small q z hq hz,
  scaled_small q' z' hq' hz',
  sum-small (offset q z a.first.multiplier a.first.shift) (offset q' z' a.second.multiplier a.second.shift)
      (offset_most q z a.first hq hz r.ok.first.multiplier-few)
      (offset_most q' z' a.second hq' hz' r.ok.second.multiplier-few),
)

-- ---- a call that passes tests 1 to 6, and a layer of its network

-- what recomputing rests on
pub can_recompute :
    (file sums : List ℕ) (room : ℕ) (s : State)
    → call_fault file sums room s ≡ 0
    → CanRecompute file (decode_of file).network sums room
can_recompute file sums room s p = (entered file sums room s (refl, refl) p).can

module _ (file sums area : List ℕ) (s : State) (p : call_fault file sums (length area) s ≡ 0) (m : ℕ) (h : m < (decode_of file).network.count) where
  -- the network that the file holds
  abbrev net : Network
  net = (decode_of file).network

  can : CanRecompute file net sums (length area)
  can = can_recompute file sums (length area) s p

  -- the layer is ready for its rows
  ready : Ready (layer_of net m) file sums net.area (place_of net m) (place_of net (link_of net m).other)
  ready = layer-ready file net sums (length area) m can h

  -- the tensor that it reads, which stands in the area whole and is of bytes where the area is
  abbrev input : List ℕ
  input = tensor_at area (place_of net m) (tensor_of net m)

  input-length : length input ≡ bytes_of (layer_of net m).input
  input-length =
      let e = ap bytes_of (can.taken.layers m h).input in
      part_length area (place_of net m) (bytes_of (tensor_of net m)) (omega (arith, ready.first.input-in, can.area_in, e)) ∙ sym e

  input-bytes : Bytes area → Bytes input
  input-bytes b = bytes_take (bytes_of (tensor_of net m)) _ (bytes_drop (place_of net m) area b)

  -- with the true sums of the layer each total is the direct sum plus bias
  pub totals-direct : TrueSums net file sums m → DirectTotals (layer_of net m).kind (layer_of net m) (zero_of net m) file sums input
  totals-direct true-sums =
      direct_totals_by (layer_of net m).kind (layer_of net m) (zero_of net m) file sums input ready.kind input-length
      (sum_true (layer_of net m) file sums true-sums)

pub direct_rows : DirectRows
direct_rows file sums area s p m i h true-sums =
    let y = layer_of (decode_of file).network m in
    direct_by_lem y.kind y _ _ file sums _ _ i (ready file sums area s p m h).kind (input-length file sums area s p m h) (sum_true y file sums true-sums)

pub totals_fit : TotalsFit
totals_fit file sums area s bf ba p m h =
    let n = (decode_of file).network in
    let t = (can_recompute file sums (length area) s p).taken in
    totals_by (layer_of n m).kind (layer_of n m) (zero_of n m) (zero_of n (link_of n m).other) file sums _
    (kind-zeros file bf n t m h)
    (ready file sums area s p m h).kind
    bf
    (input-bytes file sums area s p m h ba)
    (input-length file sums area s p m h)
    (zeros-few file bf n t m (omega arith))
    (zeros-few file bf n t (link_of n m).other (omega (arith, (link-ok file n t m h).other-before)))

pub distances : Distances
distances a m n = distance a m n

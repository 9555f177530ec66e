-- A layer of a network that can be recomputed is ready for its rows.
-- Assumes nothing.
use Prim.Native.Nat.{ℕ, suc, ◌+◌, ◌≤◌, ◌<◌}
use mathlib.Core.Path.{◌≡◌, refl, ap, subst}
use mathlib.Core.List.{List}
use mathlib.Core.Logic.{inl}
use native.Mathlib.Omega.{arith}
use Rattle.fields.specs.Shape.{bytes_of}
use Rattle.fields.specs.Stored.{stored_len}
use Rattle.records.specs.Layer.{sums_of, terms_of, output_shape, other_of}
use Rattle.records.specs.Asked.{WeighingOk, KindOk, KindFits}
use Rattle.records.specs.declared.weighing.Weighing.{Weighing}
use Rattle.records.specs.declared.layer.Kind.{Kind}
use Rattle.records.specs.declared.layer.Kind.TheVariants.{Conv, Full, Add}
use Rattle.records.specs.declared.layer.Layer.{Layer}
use Rattle.network.specs.Network.{layer_of, tensor_of, place_of}
use Rattle.network.specs.Taken.{KindTaken, Taken}
use Rattle.network.specs.declared.net.Network.{Network}
use Rattle.network.proofs.Bounds.{sums_few, terms-few}
use Rattle.network.proofs.Places.{tensors-apart}
use Rattle.layers.specs.Asked.{OutputsReady, KindReady, Placed, Ready}
use Rattle.layers.specs.Outputs.{outputs_for}
use Rattle.layers.proofs.Lengths.{ShapedBy}
use Rattle.checks.specs.Tensors.{link_by, link_of}
use Rattle.checks.proofs.Rows.{input-good}
use Rattle.checks.proofs.Sums.{sums-passed}
use Rattle.updates.specs.Asked.{CanRecompute}

-- outputs that are ready with any parameters in their ranges are so with the layer's own
kind_ready :
    (k : Kind) (y : Layer) (file sums : List ℕ) →
    KindOk k →
    KindFits k y.input →
    y.output ≡ output_shape k y.input →
    ((w : Weighing) → WeighingOk w → OutputsReady (outputs_for y (sums_of k) w 0) (terms_of k y.input) file sums) →
    KindReady k y file sums
kind_ready (Conv c) y file sums ok fit output outputs =
    record { ok = ok; fits = fit; output = output; outputs = outputs c.weighing ok.weighing }
kind_ready (Full f) y file sums ok fit output outputs = record { ok = ok; output = output; outputs = outputs f.weighing ok.weighing }
kind_ready (Add a) y file sums ok fit output outputs = record { ok = ok; output = output }

-- the other tensor of a link is the one that the layer reads
link_other : (k : Kind) (y : Layer) (m : ℕ) → other_of k m ≡ (link_by k y m).other
link_other (Conv c) y m = refl
link_other (Full f) y m = refl
link_other (Add a) y m = refl

-- a second input, or the first where there is one, has the shape of the first
pub other_shape_lem :
    (file : List ℕ) (n : Network) (m : ℕ) (y : Layer) →
    KindTaken file n m y →
    ((link_by y.kind y m).other ≤ m) × (tensor_of n (link_by y.kind y m).other ≡ y.input)
other_shape_lem file n m y t =
    subst (λ (j : ℕ). (j ≤ m) × (tensor_of n j ≡ y.input)) (link_other y.kind y m) (t.other-there, t.other_shape_lem)

module _ (file : List ℕ) (n : Network) (t : Taken file n) (m : ℕ) (h : m < n.count) where
  pub layer-shaped : ShapedBy (layer_of n m).kind (layer_of n m)
  layer-shaped = (t.layers m h).kind.output

  -- both inputs end before the layer's own tensor begins
  pub input-before : place_of n m + bytes_of (layer_of n m).input ≤ (layer_of n m).place
  input-before = omega (arith, (t.layers m h).place, ap bytes_of (t.layers m h).input)

  pub other-before : place_of n (link_of n m).other + bytes_of (layer_of n m).input ≤ (layer_of n m).place
  other-before =
      let y = t.layers m h in
      let o = other_shape_lem file n m (layer_of n m) y.kind in
      omega (arith, tensors-apart file n t (link_of n m).other (suc m) (omega (arith, o.0)) h, ap bytes_of o.1)

module _ (file : List ℕ) (n : Network) (sums : List ℕ) (room m : ℕ) (r : CanRecompute file n sums room) (h : m < n.count) where
  -- the biases and weights of a layer stand in the file, and its sums in the store within their bounds
  outputs-ready :
      (w : Weighing) →
      WeighingOk w →
      let y = layer_of n m in
      OutputsReady (outputs_for y (sums_of y.kind) w 0) (terms_of y.kind y.input) file sums
  unfolding stored_len
  outputs-ready w ok =
      let t = r.taken in
      let y = t.layers m h in
      record {
        count-few = sums_few file n t m h;
        terms-few = terms-few file n t m h;
        file-few = t.file-few;
        biases_in = omega (arith, y.record-in);
        weights-in = omega (arith, y.record-in);
        biases-small = y.biases;
        sums-in = omega (arith, y.sums-end, r.sums-in);
        sums-small = λ f g. sums-passed n sums r.sums-fit m f h g;
        weighing = ok;
      }

  -- in the bytes of the area that the tensors take
  pub layer-ready : Ready (layer_of n m) file sums n.area (place_of n m) (place_of n (link_of n m).other)
  layer-ready =
      let t = r.taken in
      let y = t.layers m h in
      let placed : (from : ℕ) → from + bytes_of (layer_of n m).input ≤ (layer_of n m).place → Placed (layer_of n m) n.area from =
      λ from b. record {
        input = input-good file n t m h;
        output = t.shapes (suc m) h;
        input-in = omega (arith, y.place_end);
        apart = inl b;
        within = y.place_end;
      } in
      record {
        first = placed (place_of n m) (input-before file n t m h);
        second = placed (place_of n (link_of n m).other) (other-before file n t m h);
        few = omega (arith, t.area-few);
        kind = kind_ready (layer_of n m).kind (layer_of n m) file sums y.kind.ok y.kind.fits y.kind.output outputs-ready;
      }

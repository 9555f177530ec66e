-- How the layers hang on their inputs: what a network that is taken ensures of its links.
-- Assumes nothing.
use Prim.Native.Nat.{ℕ, suc, ◌+◌, ◌-◌, ◌*◌, ◌/◌, ◌≤◌, ◌<◌}
use mathlib.Core.Path.{◌≡◌, refl, sym, ◌∙◌, ap, subst}
use mathlib.Core.List.{List}
use native.Mathlib.Omega.{arith}
use Rattle.fields.specs.Asked.{GoodShape}
use Rattle.fields.specs.declared.shape.Shape.{Shape}
use Rattle.records.specs.Frame.{frame_output}
use Rattle.records.specs.Asked.{FrameOk, FrameFits, KindOk, KindFits}
use Rattle.records.specs.Layer.{output_shape, other_of}
use Rattle.records.specs.declared.frame.Frame.{Frame}
use Rattle.records.specs.declared.layer.Kind.{Kind}
use Rattle.records.specs.declared.layer.Kind.TheVariants.{Conv, Full, Add}
use Rattle.records.specs.declared.layer.Layer.{Layer}
use Rattle.network.specs.Network.{layer_of, tensor_of}
use Rattle.network.specs.Taken.{LayerTaken, Taken}
use Rattle.network.specs.declared.net.Network.{Network}
use Rattle.bands.specs.declared.reach.Link.{Link}
use Rattle.bands.proofs.Reached.{row_starts}
use Rattle.checks.specs.Tensors.{link_by, link_of}
use Rattle.checks.proofs.Rows.{input-good}

-- the link of a layer that is of kind k
pub link_at : (n : Network) (m : ℕ) (y : Layer) (k : Kind) → y ≡ layer_of n m → y.kind ≡ k → link_by k y m ≡ link_of n m
link_at n m y k e h = ap (λ (x : Kind). link_by x y m) (sym h) ∙ ap (λ (x : Layer). link_by x.kind x m) e

-- what the bands need of the link of layer m
pub record LinkOk (n : Network) (m : ℕ) (y : Link) : Type 0 where
  pub other-before : y.other ≤ m
  pub other-rows : (tensor_of n y.other).rows ≡ (tensor_of n m).rows
  pub before-few : y.before ≤ 256
  pub before-less : y.before < y.kernel
  pub kernel-some : 0 < y.kernel
  pub stride-some : 0 < y.stride
  pub stride_few : y.stride ≤ 4
  pub rows_are : y.rows ≡ (tensor_of n (suc m)).rows
  -- no window starts past the input's last row
  pub starts : (i : ℕ) → i < y.rows → i * y.stride < (tensor_of n m).rows + y.before

-- no window of a frame that fits starts past the input's last row
frame_starts :
    (f : Frame) (i : Shape) (channels rows : ℕ) →
    FrameOk f →
    FrameFits f i →
    rows ≡ (frame_output f i channels).rows →
    (r : ℕ) →
    r < rows →
    r * f.stride < i.rows + f.padding
unfolding frame_output
frame_starts f i channels rows ok fit e r h =
    let p = f.padding in
    let padded : i.rows + 2 * p - f.height ≡ i.rows + p + p - f.height = omega arith in
    row_starts p p f.height f.stride i.rows r ok.stride-some ok.padding-rows
    (omega (arith, fit.rows_fit))
    (subst (λ (k : ℕ). r < k) (e ∙ ap (λ (k : ℕ). k / f.stride + 1) padded) h)

module _ (s : List ℕ) (n : Network) (m : ℕ) (l : LayerTaken s n m (layer_of n m)) (good : GoodShape (layer_of n m).input) where
  input-rows : (layer_of n m).input.rows ≡ (tensor_of n m).rows
  input-rows = ap (λ (x : Shape). x.rows) l.input

  -- a layer without padding or strides, that makes at most as many rows as it reads
  plain :
      (other kernel : ℕ) →
      other ≤ m →
      (tensor_of n other).rows ≡ (tensor_of n m).rows →
      0 < kernel →
      (layer_of n m).output.rows ≤ (layer_of n m).input.rows →
      LinkOk n m (record { other = other; before = 0; kernel = kernel; stride = 1; rows = (layer_of n m).output.rows })
  plain other kernel there same some few = record {
    other-before = there;
    other-rows = same;
    before-few = omega arith;
    before-less = some;
    kernel-some = some;
    stride-some = omega arith;
    stride_few = omega arith;
    rows_are = refl;
    starts = λ i h. omega (arith, input-rows);
  }

  link-by :
      (k : Kind) →
      KindOk k →
      KindFits k (layer_of n m).input →
      (layer_of n m).output ≡ output_shape k (layer_of n m).input →
      other_of k m ≤ m →
      tensor_of n (other_of k m) ≡ (layer_of n m).input →
      LinkOk n m (link_by k (layer_of n m) m)
  link-by (Conv c) ok fit made there same = record {
    other-before = omega arith;
    other-rows = refl;
    before-few = omega (arith, ok.frame.padding-rows, ok.frame.height-few);
    before-less = ok.frame.padding-rows;
    kernel-some = ok.frame.height-some;
    stride-some = ok.frame.stride-some;
    stride_few = ok.frame.stride_few;
    rows_are = refl;
    starts = λ i h.
        omega (
          arith,
          frame_starts c.frame (layer_of n m).input c.filters _ ok.frame fit (ap (λ (x : Shape). x.rows) made) i h,
          input-rows,
        );
  }
  link-by (Full f) ok fit made there same =
      plain m (layer_of n m).input.rows (omega arith) refl good.rows-some
      (omega (arith, ap (λ (x : Shape). x.rows) made, good.rows-some))
  link-by (Add a) ok fit made there same =
      plain a.other 1 there (ap (λ (x : Shape). x.rows) same ∙ input-rows) (omega arith)
      (omega (arith, ap (λ (x : Shape). x.rows) made))

module _ (s : List ℕ) (n : Network) (t : Taken s n) where
  pub link-ok : (m : ℕ) → m < n.count → LinkOk n m (link_of n m)
  link-ok m h =
      let k = (t.layers m h).kind in
      link-by s n m (t.layers m h) (input-good s n t m h) (layer_of n m).kind k.ok k.fits k.output k.other-there k.other_shape_lem

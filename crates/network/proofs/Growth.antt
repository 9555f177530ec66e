-- A network that is read so far, and one layer more.
-- Assumes nothing.
use Prim.Native.Nat.{ℕ, zero, suc, ◌+◌, ◌*◌, ◌≤◌, ◌<◌}
use mathlib.Core.Path.{◌≡◌, refl, sym, ◌∙◌, ap, subst⁻¹}
use mathlib.Core.List.{List}
use native.Mathlib.Omega.{arith}
use borrow.Author.Count.{below_more}
use lib.ListN.{length}
use lib.Seq.{get_or-set_same, get_or-set_other}
use Rattle.fields.specs.Shape.{bytes_of}
use Rattle.fields.specs.Asked.{GoodShape}
use Rattle.records.specs.Layer.{sums_of, other_of, record_len}
use Rattle.records.specs.declared.layer.Layer.{Layer}
use Rattle.network.specs.Network.{blank_layer, layer_of, tensor_of, place_of}
use Rattle.network.specs.Decode.{pushed}
use Rattle.network.specs.Taken.{KindTaken, LayerTaken}
use Rattle.network.specs.declared.net.Network.{Network}
use Rattle.network.specs.Decode.{Progress}
use Rattle.network.proofs.Marked.{Grown}

-- where the record of layer m begins, by the one before it
abbrev pub end_of : Network → ℕ → ℕ
end_of n zero = 10
end_of n (suc m) = (layer_of n m).start + record_len (layer_of n m)

-- where the sums of layer m begin, by the one before it
abbrev pub sums_before : Network → ℕ → ℕ
sums_before n zero = 0
sums_before n (suc m) = (layer_of n m).sums + sums_of (layer_of n m).kind

-- what holds of the first `made` layers, the next record beginning at `at`
pub record Sofar (s : List ℕ) (n : Network) (made at : ℕ) : Type 0 where
  pub at_in : at ≤ length s
  pub at-is : at ≡ end_of n made
  pub area-is : n.area ≡ place_of n made + bytes_of (tensor_of n made)
  pub area-few : n.area ≤ 65536
  pub store_is : n.store ≡ sums_before n made
  pub store-few : n.store ≤ 256 * made
  pub shapes : (t : ℕ) → t < made + 1 → GoodShape (tensor_of n t)
  pub layers : (m : ℕ) → m < made → LayerTaken s n m (layer_of n m)
  pub starts : (m : ℕ) → m < made → (layer_of n m).start ≡ end_of n m
  pub sums : (m : ℕ) → m < made → (layer_of n m).sums ≡ sums_before n m

-- n' is n with the layer l after its first `made`
pub record Extends (n n' : Network) (made : ℕ) (l : Layer) : Type 0 where
  pub picture : n'.picture ≡ n.picture
  pub before : (m : ℕ) → m < made → layer_of n' m ≡ layer_of n m
  pub new : layer_of n' made ≡ l
  pub area : n'.area ≡ n.area + bytes_of l.output
  pub store : n'.store ≡ n.store + sums_of l.kind

pub pushed_extends :
    (p : Progress) (l : Layer) (next : ℕ) →
    p.made < length p.network.layers →
    Extends p.network (pushed p l next).network p.made l
unfolding pushed
pushed_extends p l next h = record {
  picture = refl;
  before = λ m q. get_or-set_other p.network.layers p.made m l blank_layer (λ e. omega arith);
  new = get_or-set_same p.network.layers p.made l blank_layer h;
  area = refl;
  store = refl;
}

module _ (s : List ℕ) (n n' : Network) (made : ℕ) (l : Layer) (e : Extends n n' made l) where
  -- what is known of the tensors and the layers before stays
  tensor-same : (t : ℕ) → t ≤ made → tensor_of n' t ≡ tensor_of n t
  tensor-same zero h = e.picture
  tensor-same (suc m) h = ap (λ (y : Layer). y.output) (e.before m h)

  place_same : (t : ℕ) → t ≤ made → place_of n' t ≡ place_of n t
  place_same zero h = refl
  place_same (suc m) h = ap (λ (y : Layer). y.place) (e.before m h)

  end_same : (t : ℕ) → t ≤ made → end_of n' t ≡ end_of n t
  end_same zero h = refl
  end_same (suc m) h = ap (λ (y : Layer). y.start + record_len y) (e.before m h)

  sums_same : (t : ℕ) → t ≤ made → sums_before n' t ≡ sums_before n t
  sums_same zero h = refl
  sums_same (suc m) h = ap (λ (y : Layer). y.sums + sums_of y.kind) (e.before m h)

  kind-kept : (m : ℕ) (y : Layer) → m ≤ made → KindTaken s n m y → KindTaken s n' m y
  kind-kept m y h t = record {
    read = t.read;
    ok = t.ok;
    fits = t.fits;
    output = t.output;
    other-there = t.other-there;
    other_shape_lem = tensor-same (other_of y.kind m) (omega (arith, t.other-there)) ∙ t.other_shape_lem;
  }

  layer-kept : (m : ℕ) (y : Layer) → m ≤ made → LayerTaken s n m y → LayerTaken s n' m y
  layer-kept m y h t = record {
    input = t.input ∙ sym (tensor-same m h);
    kind = kind-kept m y h t.kind;
    record-in = t.record-in;
    biases = t.biases;
    place = t.place ∙ sym (place-and-bytes m h);
    place_end = omega (arith, t.place_end, e.area);
    sums-end = omega (arith, t.sums-end, e.store);
  } where
    place-and-bytes : (m : ℕ) → m ≤ made → place_of n' m + bytes_of (tensor_of n' m) ≡ place_of n m + bytes_of (tensor_of n m)
    place-and-bytes m h = rw (place_same m h, tensor-same m h)

  module _ (at next : ℕ) (r : Sofar s n made at) (g : Grown s n made at l next) where
    layer-new : LayerTaken s n' made l
    layer-new = record {
      input = g.input ∙ sym (tensor-same made (omega arith));
      kind = kind-kept made l (omega arith) g.kind;
      record-in = omega (arith, g.start, g.next-is, g.next-in);
      biases = g.biases;
      place = rw (place_same made (omega arith), tensor-same made (omega arith)) (g.place ∙ r.area-is);
      place_end = omega (arith, g.place, e.area);
      sums-end = omega (arith, g.sums, e.store);
    }

    pub sofar-more : Sofar s n' (suc made) next
    sofar-more = record {
      at_in = g.next-in;
      at-is = omega (arith, ap (λ (y : Layer). y.start + record_len y) e.new, g.start, g.next-is);
      area-is = omega (arith, ap (λ (y : Layer). y.place + bytes_of y.output) e.new, g.place, e.area);
      area-few = omega (arith, g.area-few, e.area);
      store_is = omega (arith, ap (λ (y : Layer). y.sums + sums_of y.kind) e.new, g.sums, e.store);
      store-few = omega (arith, g.sums_few, r.store-few, e.store);
      shapes = λ t q. below_more (λ (k : ℕ). GoodShape (tensor_of n' k)) (suc made)
          (λ k h. subst⁻¹ GoodShape (tensor-same k (omega arith)) (r.shapes k (omega arith)))
          (subst⁻¹ (λ (y : Layer). GoodShape y.output) e.new g.output_good) t q;
      layers = λ m q. below_more (λ (k : ℕ). LayerTaken s n' k (layer_of n' k)) made
          (λ k h. rw (e.before k h) (layer-kept k (layer_of n k) (omega arith) (r.layers k h)))
          (rw e.new layer-new) m (omega arith);
      starts = λ m q. below_more (λ (k : ℕ). (layer_of n' k).start ≡ end_of n' k) made
          (λ k h. rw (e.before k h, end_same k (omega arith)) (r.starts k h))
          (rw (e.new, end_same made (omega arith)) (g.start ∙ r.at-is)) m (omega arith);
      sums = λ m q. below_more (λ (k : ℕ). (layer_of n' k).sums ≡ sums_before n' k) made
          (λ k h. rw (e.before k h, sums_same k (omega arith)) (r.sums k h))
          (rw (e.new, sums_same made (omega arith)) (g.sums ∙ r.store_is)) m (omega arith);
    }

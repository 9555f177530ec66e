-- The record of the next layer, as it is taken.
-- Assumes nothing.
use Prim.Native.Nat.{ℕ, ◌+◌, ◌*◌, ◌^◌, ◌≤◌, ◌<◌}
use mathlib.Core.Path.{◌≡◌, refl, sym, ◌∙◌, ap, subst⁻¹}
use mathlib.Core.List.{List}
use native.Mathlib.Omega.{arith}
use native.Mathlib.Nat.{min-eq_left}
use lib.IntN.{nat_abs}
use lib.ListN.{length}
use Rattle.fields.specs.Bytes.{i32_at}
use Rattle.fields.specs.Shape.{bytes_of}
use Rattle.fields.specs.Asked.{GoodShape}
use Rattle.records.specs.Mark.{mark_at}
use Rattle.records.specs.Layer.{sums_of, other_of, biases_at, record_len}
use Rattle.records.specs.Reader.{kind_at, suit_fault}
use Rattle.records.specs.declared.layer.Kind.{Kind}
use Rattle.records.specs.declared.layer.Kind.TheVariants.{Conv, Full, Add}
use Rattle.records.specs.declared.layer.Layer.{Layer}
use Rattle.records.specs.Reader.{Found}
use Rattle.records.proofs.Ranges.{own_ok, suits_fit, add_suits}
use Rattle.records.proofs.Answers.{Answered, answered_map, answered_found, passes-left}
use Rattle.network.specs.Network.{tensor_of}
use Rattle.network.specs.Decode.{before_of, other_shape, read_layer}
use Rattle.network.specs.Taken.{KindTaken}
use Rattle.network.specs.declared.net.Network.{Network}
use Rattle.network.proofs.Passing.{FoundAt, read_found}

-- a record that is taken, as layer `made` of a network that has as many layers
pub record Grown (s : List ℕ) (n : Network) (made at : ℕ) (l : Layer) (next : ℕ) : Type 0 where
  pub start : l.start ≡ at
  pub place : l.place ≡ n.area
  pub sums : l.sums ≡ n.store
  pub input : l.input ≡ tensor_of n made
  pub kind : KindTaken s n made l
  pub next-is : next ≡ at + record_len l
  pub next-in : next ≤ length s
  pub biases : (f : ℕ) → f < sums_of l.kind → nat_abs (i32_at s (biases_at l + 4 * f)) ≤ 2 ^ 30
  pub output_good : GoodShape l.output
  pub area-few : n.area + bytes_of l.output ≤ 65536
  pub sums_few : sums_of l.kind ≤ 256

-- the other tensor that a layer reads is there, and of the shape of its input
other_suits :
    (n : Network) (made : ℕ) (k : Kind) →
    suit_fault k (before_of n made) (other_shape n k made) ≡ 0 →
    (other_of k made ≤ made) × (tensor_of n (other_of k made) ≡ tensor_of n made)
other_suits n made (Conv c) h = (omega arith, refl)
other_suits n made (Full f) h = (omega arith, refl)
other_suits n made (Add a) h =
    let p = add_suits a (before_of n made) (other_shape n (Add a) made) h in
    (p.0, sym (ap (tensor_of n) (min-eq_left p.0)) ∙ p.1)

module _ (s : List ℕ) (at : ℕ) (n : Network) (made : ℕ) (h : at ≤ length s) (g : GoodShape (tensor_of n made)) where
  as-grown : (l : Layer) (next : ℕ) → FoundAt s at n made l next → Grown s n made at l next
  as-grown l next f =
      let m = mark_at s at in
      let k = kind_at m s at in
      let b = before_of n made in
      let p = f.passes in
      let left = passes-left m k s at b (other_shape n k made) h refl g p in
      let other = other_suits n made k p.suit in
      let next-is = f.next-is ∙ ap (λ (y : Layer). at + record_len y) f.layer in
      subst⁻¹ (λ (y : Layer). Grown s n made at y next) f.layer
      (record {
        start = refl;
        place = refl;
        sums = refl;
        input = refl;
        kind = record {
          read = refl;
          ok = own_ok m s at p.own;
          fits = suits_fit k b (other_shape n k made) p.suit;
          output = refl;
          other-there = other.0;
          other_shape_lem = other.1;
        };
        next-is = next-is;
        next-in = omega (arith, next-is, left.next-in);
        biases = left.biases;
        output_good = left.output_good;
        area-few = left.area-few;
        sums_few = left.sums_few;
      })

  pub read-grown : Answered (Grown s n made at) (read_layer s at n made)
  read-grown = answered_map (FoundAt s at n made) (Grown s n made at) (read_layer s at n made) as-grown (read_found s at n made)

  pub found-grown : (l : Layer) (next : ℕ) → Found l next ≡ read_layer s at n made → Grown s n made at l next
  found-grown l next e = answered_found (Grown s n made at) (read_layer s at n made) l next e read-grown

-- How large the numbers of a network are that a file holds.
-- Assumes nothing.
use Prim.Native.Nat.{ℕ, zero, suc, ◌+◌, ◌*◌, ◌≤◌, ◌<◌}
use mathlib.Core.Path.{ap, subst⁻¹}
use mathlib.Core.List.{List}
use native.Mathlib.Omega.{arith}
use lib.ListN.{get_or}
use Rattle.fields.specs.Shape.{bytes_of}
use Rattle.fields.specs.declared.shape.Shape.{Shape}
use Rattle.fields.proofs.Shapes.{mul_most}
use Rattle.records.specs.Layer.{sums_of, terms_of}
use Rattle.records.specs.Asked.{KindOk}
use Rattle.records.specs.Weighing.{weighing_at}
use Rattle.records.specs.Reader.{kind_at}
use Rattle.records.specs.declared.weighing.Weighing.{Weighing}
use Rattle.records.specs.declared.layer.Kind.{Kind}
use Rattle.records.specs.declared.layer.Kind.TheVariants.{Conv, Full, Add}
use Rattle.records.specs.declared.mark.Mark.{Mark}
use Rattle.records.specs.declared.mark.Mark.TheVariants.{CV, FU, AD, Other}
use Rattle.records.proofs.Ranges.{sums_few as sums_by}
use Rattle.network.specs.Network.{layer_of, zero_by, zero_of}
use Rattle.network.specs.Taken.{Taken}
use Rattle.network.specs.declared.net.Network.{Network}

-- N is at most 7 × 7 × 256, or the bytes of the input
terms_by : (k : Kind) (i : Shape) → KindOk k → i.channels ≤ 256 → bytes_of i ≤ 16384 → terms_of k i ≤ 16384
terms_by (Conv c) i ok h b =
    let f = c.frame in
    let window = mul_most f.height f.width 7 7 ok.frame.height-few ok.frame.width_few in
    omega (arith, mul_most (f.height * f.width) i.channels 49 256 (omega (arith, window)) h)
terms_by (Full f) i ok h b = b
terms_by (Add a) i ok h b = omega arith

module _ (s : List ℕ) (n : Network) (t : Taken s n) where
  pub sums_few : (m : ℕ) → m < n.count → sums_of (layer_of n m).kind ≤ 256
  sums_few m h = sums_by (layer_of n m).kind (t.layers m h).kind.ok

  pub terms-few : (m : ℕ) → m < n.count → terms_of (layer_of n m).kind (layer_of n m).input ≤ 16384
  terms-few m h =
      let y = t.layers m h in
      let good = t.shapes m (omega arith) in
      terms_by (layer_of n m).kind (layer_of n m).input y.kind.ok
      (omega (arith, ap (λ (x : Shape). x.channels) y.input, good.channels-few))
      (omega (arith, ap bytes_of y.input, good.bytes_few))

-- zero-points that are bytes: that of the weights, and that of what the layer makes
abbrev WeighingZeros : Weighing → Type 0
WeighingZeros w = (w.v ≤ 255) × (w.zero ≤ 255)

abbrev pub ByteZeros : Kind → Type 0
ByteZeros (Conv c) = WeighingZeros c.weighing
ByteZeros (Full f) = WeighingZeros f.weighing
ByteZeros (Add a) = a.zero ≤ 255

zero_by_lem : (k : Kind) (z : ℕ) → ByteZeros k → zero_by k z ≤ 255
zero_by_lem (Conv c) z h = h.1
zero_by_lem (Full f) z h = h.1
zero_by_lem (Add a) z h = h

-- a clamp whose high end is a byte
abbrev pub ByteHighs : Kind → Type 0
ByteHighs (Conv c) = c.weighing.high ≤ 255
ByteHighs (Full f) = f.weighing.high ≤ 255
ByteHighs (Add a) = a.high ≤ 255

-- a file of bytes has them
module _ (s : List ℕ) (bytes : (i : ℕ) → get_or s i 0 ≤ 255) where
  weighing-zeros : (from multiplier : ℕ) → WeighingZeros (weighing_at s from multiplier)
  weighing-zeros from multiplier = (bytes from, bytes (from + 1))

  byte-zeros : (m : Mark) (at : ℕ) → ByteZeros (kind_at m s at)
  byte-zeros CV at = weighing-zeros (at + 7) (at + 12)
  byte-zeros FU at = weighing-zeros (at + 4) (at + 10)
  byte-zeros AD at = bytes (at + 3)
  byte-zeros Other at = (omega arith, omega arith)

  pub kind-zeros : (n : Network) → Taken s n → (m : ℕ) → m < n.count → ByteZeros (layer_of n m).kind
  kind-zeros n t m h =
      subst⁻¹ ByteZeros (t.layers m h).kind.read (byte-zeros (layer_of n m).mark (layer_of n m).start)

  -- every tensor's zero-point is a byte
  pub zeros-few : (n : Network) → Taken s n → (u : ℕ) → u ≤ n.count → zero_of n u ≤ 255
  zeros-few n t zero h = omega (arith, t.zero_is, bytes 7)
  zeros-few n t (suc m) h = zero_by_lem (layer_of n m).kind (zero_of n m) (kind-zeros n t m h)

  byte-highs : (m : Mark) (at : ℕ) → ByteHighs (kind_at m s at)
  byte-highs CV at = bytes (at + 7 + 3)
  byte-highs FU at = bytes (at + 4 + 3)
  byte-highs AD at = bytes (at + 5)
  byte-highs Other at = omega arith

  -- the high end of every layer's clamp is a byte
  pub kind-highs : (n : Network) → Taken s n → (m : ℕ) → m < n.count → ByteHighs (layer_of n m).kind
  kind-highs n t m h =
      subst⁻¹ ByteHighs (t.layers m h).kind.read (byte-highs (layer_of n m).mark (layer_of n m).start)

-- What a call copies fits where it goes.
-- Assumes nothing.
use Prim.Native.Nat.{ℕ, suc, ◌+◌, ◌-◌, ◌*◌, ◌≤◌, ◌<◌}
use mathlib.Core.Path.{◌≡◌, refl, sym, ◌∙◌}
use mathlib.Core.List.{List}
use native.Mathlib.Nat.{mul-le-mul_right}
use native.Mathlib.Omega.{arith}
use lib.ListN.{length}
use Rattle.fields.specs.Faults.{first as earlier}
use Rattle.fields.specs.Shape.{bytes_of, row_bytes}
use Rattle.fields.specs.Asked.{GoodShape}
use Rattle.records.specs.Layer.{sums_of, terms_of, weights_at, record_len}
use Rattle.records.specs.declared.layer.Layer.{Layer}
use Rattle.fields.proofs.Shapes.{mul_most}
use Rattle.fields.proofs.Tests.{first_both}
use Rattle.network.specs.Decode.{decode_of}
use Rattle.network.specs.Network.{layer_of, tensor_of, place_of}
use Rattle.network.specs.declared.net.Network.{Network}
use Rattle.network.specs.Replace.{replace_fault}
use Rattle.network.proofs.Bounds.{terms-few}
use Rattle.network.proofs.Kindred.{replace_fit}
use Rattle.network.proofs.Places.{tensors-in}
use Rattle.bands.specs.declared.state.State.{State}
use Rattle.checks.specs.Tests.{call_fault, rows_fault, layer_fault, slice_fault, stale_fault}
use Rattle.checks.proofs.Passed.{rows_passed, layer_passed, slice_passed}
use Rattle.checks.proofs.Rows.{input-good}
use Rattle.updates.specs.Asked.{CanRecompute}
use Rattle.updates.proofs.Fills.{weights-in}
use Rattle.clew.proofs.Entered.{passed_on}

-- rows of the picture, in the area
pub record RowsFit (n : Network) (first count len room : ℕ) : Type 0 where
  pub row-few : row_bytes n.picture ≤ 16384
  pub end-few : first + count ≤ 256
  pub start-few : first * row_bytes n.picture ≤ 4194304
  pub inside : first * row_bytes n.picture + len ≤ room

pub rows_fit :
    {file sums : List ℕ} {n : Network} {room : ℕ} (first count len : ℕ) {fault : ℕ} →
    CanRecompute file n sums room →
    fault ≡ rows_fault n first count len →
    fault ≡ 0 →
    RowsFit n first count len room
unfolding bytes_of
rows_fit {file} {sums} {n} {room} first count len c e h =
    let t = c.taken in
    let p = rows_passed n first count len (sym e ∙ h) in
    let w = row_bytes n.picture in
    let few = mul_most n.picture.columns n.picture.channels 256 64 t.picture-columns t.picture-channels in
    let end : first + count ≤ 256 = omega (arith, p.1, t.picture-rows) in
    record {
      row-few = few;
      end-few = end;
      start-few = mul_most first w 256 16384 (omega arith) few;
      inside = omega (
        arith,
        p.2,
        mul-le-mul_right {m = first + count} {n = n.picture.rows} w p.1,
        tensors-in file n t 0 (omega arith),
        c.area_in,
      );
    }

-- the same, where all tests of a change hold
pub change_fits :
    (file sums : List ℕ) (room : ℕ) (s : State) {n : Network} (first count len : ℕ) →
    0 ≡ earlier (call_fault file sums room s) (rows_fault (decode_of file).network first count len) →
    n ≡ (decode_of file).network →
    RowsFit n first count len room
change_fits file sums room s first count len e k =
    let o = passed_on file sums room s e k in
    rows_fit first count len o.0.can refl (rw k o.1)

-- the last tensor, out of the area
pub slice_fits :
    {file sums : List ℕ} {n : Network} {room from : ℕ} (len : ℕ) →
    CanRecompute file n sums room →
    slice_fault n len ≡ 0 →
    from ≡ place_of n n.count →
    (from + len ≤ room) × (from + len ≤ 65536)
slice_fits {file} {sums} {n} len c h place =
    let t = c.taken in
    let p = slice_passed n len h in
    let q = tensors-in file n t n.count (omega arith) in
    (omega (arith, c.area_in), omega (arith, t.area-few))

-- the same, where all tests of a reading hold
pub read_fits :
    (file sums : List ℕ) (room : ℕ) (s : State) {n : Network} {from : ℕ} (len : ℕ) →
    0 ≡ earlier (call_fault file sums room s) (earlier (slice_fault (decode_of file).network len) (stale_fault s)) →
    n ≡ (decode_of file).network →
    from ≡ place_of n n.count →
    (len ≡ bytes_of (tensor_of n n.count)) × (from + len ≤ room) × (from + len ≤ 65536)
read_fits file sums room s {n} len e k place =
    let o = passed_on file sums room s e k in
    let h : slice_fault n len ≡ 0 = rw k (first_both _ _ o.1).0 in
    let fits = slice_fits len o.0.can h place in
    (slice_passed n len h, fits.0, fits.1)

-- a layer of the network, by its number from 1
pub layer_there : (n : Network) (k : ℕ) {fault : ℕ} → fault ≡ layer_fault n k → fault ≡ 0 → (1 ≤ k) × (k - 1 < n.count)
layer_there n k e h = let p = layer_passed n k (sym e ∙ h) in (p.0, omega arith)

module _ {file sums : List ℕ} {n : Network} {room m : ℕ} {y : Layer} (c : CanRecompute file n sums room) (h : m < n.count) (e : y ≡ layer_of n m) where
  pub record-there : GoodShape y.input × (y.start + record_len y ≤ length file)
  record-there = rw e (input-good file n c.taken m h, (c.taken.layers m h).record-in)

  -- a record for it, over its own
  pub record-fits : (r : List ℕ) {fault : ℕ} → fault ≡ replace_fault file y r → fault ≡ 0 → y.start + length r ≤ length file
  record-fits r f z = omega (arith, (replace_fit file y r (sym f ∙ z)).0, record-there.1)

  -- its weights and its sums, in a file of that length
  pub sums-fit :
      (d : List ℕ) →
      length d ≡ length file →
      GoodShape y.input ×
      (((weights_at y + sums_of y.kind * terms_of y.kind y.input ≤ length d) × (length d ≤ 65536)) ×
      ((terms_of y.kind y.input ≤ 16384) ×
      (y.sums + sums_of y.kind ≤ length sums)))
  sums-fit d g =
      let t = c.taken in
      rw (e, g) (
        input-good file n t m h,
        ((weights-in file n t m h, t.file-few), (terms-few file n t m h, omega (arith, (t.layers m h).sums-end, c.sums-in))),
      )

  pub output-few : y.output.rows ≤ 16384
  output-few = rw e (c.taken.shapes (suc m) h).rows_few

-- a layer whose record passes all tests: what its replacement needs
pub record LayerFits (file sums new : List ℕ) (k : ℕ) (y : Layer) : Type 0 where
  pub number-few : k < 17
  pub start : y.start + length new ≤ length file
  pub good : GoodShape y.input
  pub weights : weights_at y + sums_of y.kind * terms_of y.kind y.input ≤ length file
  pub file-few : length file ≤ 65536
  pub terms-few : terms_of y.kind y.input ≤ 16384
  pub room : y.sums + sums_of y.kind ≤ length sums
  pub output : y.output.rows ≤ 16384

pub layer_fits :
    (file sums : List ℕ) (room : ℕ) (s : State) (k : ℕ) (new : List ℕ) {y : Layer} →
    0 ≡ earlier (call_fault file sums room s)
    (earlier (layer_fault (decode_of file).network k) (replace_fault file (layer_of (decode_of file).network (k - 1)) new)) →
    y ≡ layer_of (decode_of file).network (k - 1) →
    LayerFits file sums new k y
layer_fits file sums room s k new e h =
    let o = passed_on file sums room s e refl in
    let p = first_both _ _ o.1 in
    let there = layer_there _ k (sym p.0) refl in
    let fit = sums-fit o.0.can there.1 h file refl in
    record {
      number-few = omega (arith, there, o.0.can.taken.count-few);
      start = record-fits o.0.can there.1 h new refl (rw h p.1);
      good = fit.0;
      weights = fit.1.0.0;
      file-few = fit.1.0.1;
      terms-few = fit.1.1.0;
      room = fit.1.1.1;
      output = output-few o.0.can there.1 h;
    }

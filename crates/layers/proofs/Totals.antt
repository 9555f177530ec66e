-- The total of an output by the numbers as the code has them, and the outputs at one window.
-- Assumes nothing.
use mathlib.Core.Path.{◌≡◌}
use mathlib.Core.List.{List}
use Prim.Native.Nat.{ℕ, ◌+◌, ◌*◌, ◌^◌, ◌≤◌}
use lib.IntN.{ℤ, nat_abs}
use lib.ListN.{length, get_or}
use Rattle.numbers.specs.Asked.{TermsFit}
use Rattle.numbers.specs.Total.{sum, dot, total_from, total_of}
use Rattle.numbers.proofs.Totals.{sums, within}
use Rattle.fields.specs.Bytes.{i32_at}
use Rattle.lists.proofs.Bytes.{Bytes}
use Rattle.layers.specs.Outputs.{weights_of, byte_by, output_of}
use Rattle.layers.specs.Asked.{OutputsReady}
use Rattle.layers.specs.declared.outputs.Outputs.{Outputs}

module _ (b : ℤ) (q w : List ℕ) (t z v : ℕ) {b' : ℤ} {products bytes : ℕ} (eb : b' ≡ b) (ep : products ≡ dot q w) (es : bytes ≡ sum q) where
  -- what the function `total` gives
  pub total_is : total_from b' products bytes t (length q) z v ≡ total_of b q w t z v
  total_is = rw (eb, ep, es)

  -- what the function `total` requires
  pub total-ready :
      nat_abs b ≤ 2 ^ 30 →
      length q ≡ length w →
      length q ≤ 16384 →
      Bytes q →
      Bytes w →
      t ≤ 255 * length q →
      z ≤ 255 →
      v ≤ 255 →
      TermsFit products bytes t (length q) × (nat_abs (total_from b' products bytes t (length q) z v) ≤ 2139111424)
  total-ready hb e hn bq bw ht hz hv =
      rw (eb, ep, es) (sums q w t e hn bq bw ht, within b q w t z v hb e hn bq bw ht hz hv)

-- what the file and the store must hold is the same for every zero-point of the input
pub ready_any : (o : Outputs) (z n : ℕ) {file sums : List ℕ} → OutputsReady o n file sums → OutputsReady (record {
  count = o.count;
  biases = o.biases;
  weights = o.weights;
  sums = o.sums;
  z = z;
  weighing = o.weighing;
}) n file sums
ready_any o z n r = record {
  count-few = r.count-few;
  terms-few = r.terms-few;
  file-few = r.file-few;
  biases_in = r.biases_in;
  weights-in = r.weights-in;
  biases-small = r.biases-small;
  sums-in = r.sums-in;
  sums-small = r.sums-small;
  weighing = r.weighing;
}

module _ (o : Outputs) (file sums q : List ℕ) where
  -- an output of the bias and the weights that the code finds
  pub output-is :
      (f : ℕ) {b : ℤ} {w : List ℕ} {r : ℕ} →
      b ≡ i32_at file (o.biases + 4 * f) →
      w ≡ weights_of file o.weights (length q) f →
      r ≡ byte_by o.weighing (total_of b q w (get_or sums (o.sums + f) 0) o.z o.weighing.v) →
      r ≡ output_of o file sums q f
  unfolding output_of
  output-is f eb ew er = rw (er, eb, ew)

-- Demand 2: an output with the true sum of its weights is the direct formula, in which no stored sum stands; and the bound of
-- every total, with any stored sum that test 6 lets pass.
-- Assumes nothing.
use mathlib.Core.Path.{◌≡◌, sym, ap, ◌∙◌}
use mathlib.Core.List.{List}
use Prim.Native.Nat.{ℕ, ◌+◌, ◌*◌, ◌≤◌, ◌<◌}
use native.Mathlib.Nat.{mul-le-mul_right}
use native.Mathlib.Omega.{arith}
use lib.IntN.{ℤ, nat_abs, ◌+ℤ◌}
use lib.ListN.{length, get_or, drop}
use lib.Seq.{get_or-take, get_or-drop}
use mir.Syntax.{w32}
use mir.Val.{SFits}
use Rattle.numbers.specs.Total.{sum, centred, total_of}
use Rattle.numbers.proofs.Totals.{true_sum, within}
use Rattle.numbers.proofs.Whole.{small_fits}
use Rattle.fields.specs.Bytes.{i32_at}
use Rattle.records.specs.Layer.{sums_of}
use Rattle.records.specs.declared.layer.Layer.{Layer}
use Rattle.lists.specs.Lists.{part}
use Rattle.lists.proofs.Bytes.{Bytes, bytes_take, bytes_drop}
use Rattle.lists.proofs.Pasted.{part_length}
use Rattle.lists.proofs.Laid.{joined_at}
use Rattle.layers.specs.Outputs.{weights_of, total_at, byte_by, output_of}
use Rattle.layers.specs.Asked.{OutputsReady}
use Rattle.layers.specs.Sums.{weight_sum, layer_sums}
use Rattle.layers.specs.declared.outputs.Outputs.{Outputs}

-- the n weights of output f, where they stand in the file
pub weights_length :
    (file : List ℕ) (at n f : ℕ) →
    at + (f + 1) * n ≤ length file →
    length (weights_of file at n f) ≡ n
weights_length file at n f h = part_length file (at + f * n) n (omega arith)

-- ---- output f, at a window q of n bytes, where its weights stand in the file and its stored sum is the true one

module _
    (o : Outputs)
    (file sums q : List ℕ)
    (n f : ℕ)
    (e : length q ≡ n)
    (h : o.weights + (f + 1) * n ≤ length file)
    (s : get_or sums (o.sums + f) 0 ≡ sum (weights_of file o.weights n f)) where
  -- the total is the bias and Σ(q − Z)(w − V)
  pub total-direct :
      total_at o file sums q f ≡
      i32_at file (o.biases + 4 * f) +ℤ centred o.z o.weighing.v q (weights_of file o.weights n f)
  total-direct =
      let v = o.weighing.v in
      let b : ℤ = i32_at file (o.biases + 4 * f) in
      let w : List ℕ = weights_of file o.weights n f in
      ap (λ k. total_of b q (weights_of file o.weights k f) (get_or sums (o.sums + f) 0) o.z v) e ∙
      ap (λ t. total_of b q w t o.z v) s ∙
      true_sum b q w o.z v (e ∙ sym (weights_length file o.weights n f h))

  -- and the byte is that number rescaled and finished
  pub output-direct :
      output_of o file sums q f ≡
      byte_by o.weighing (i32_at file (o.biases + 4 * f) +ℤ centred o.z o.weighing.v q (weights_of file o.weights n f))
  unfolding output_of
  output-direct = rw total-direct

-- ---- the store, where it holds the true sums of a layer

-- each output's is the sum of its weights
pub sum_true :
    (y : Layer) (file sums : List ℕ) →
    part sums y.sums (sums_of y.kind) ≡ layer_sums y file →
    (f : ℕ) →
    f < sums_of y.kind →
    get_or sums (y.sums + f) 0 ≡ weight_sum y file f
unfolding layer_sums
sum_true y file sums e f h =
    sym (get_or-take (sums_of y.kind) (drop y.sums sums) f 0 h ∙ get_or-drop y.sums sums f 0) ∙
    ap (λ (d : List ℕ). get_or d f 0) e ∙
    joined_at (sums_of y.kind) (weight_sum y file) 0 f h

-- ---- the bound: output f, at a window q of n bytes, with any sum from 0 to 255n

module _
    (o : Outputs)
    (file sums q : List ℕ)
    (n f : ℕ)
    (r : OutputsReady o n file sums)
    (hf : f < o.count)
    (e : length q ≡ n)
    (bq : Bytes q)
    (bf : Bytes file)
    (hz : o.z ≤ 255)
    (hv : o.weighing.v ≤ 255) where
  -- the total is within 65,025 × 16,384 + 2^30 of zero
  pub total-within : nat_abs (total_at o file sums q f) ≤ 2139111424
  total-within =
      let w : List ℕ = weights_of file o.weights (length q) f in
      let standing : o.weights + (f + 1) * n ≤ length file =
      omega (arith, r.weights-in, mul-le-mul_right {m = f + 1} {n = o.count} n (omega arith)) in
      let same : length q ≡ length w = rw e (sym (weights_length file o.weights n f standing)) in
      let bw : Bytes w = bytes_take (length q) _ (bytes_drop (o.weights + f * length q) file bf) in
      let b : ℤ = i32_at file (o.biases + 4 * f) in
      let t : ℕ = get_or sums (o.sums + f) 0 in
      let ht : t ≤ 255 * length q = rw e (r.sums-small f hf) in
      within b q w t o.z o.weighing.v (r.biases-small f hf) same (rw e r.terms-few) bq bw ht hz hv

  -- so it fits 32 bits, signed
  pub total-signed : SFits w32 (total_at o file sums q f)
  total-signed = small_fits w32 _ (omega (arith, total-within))

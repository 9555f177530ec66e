-- The rows of a tensor, and those that a layer of each kind makes.
-- Assumes nothing.
use mathlib.Core.Path.{◌≡◌, ap, ap₂, ◌∙◌}
use mathlib.Core.List.{List, [], ◌∷◌}
use Prim.Native.Nat.{ℕ, ◌+◌, ◌-◌, ◌*◌, ◌≤◌, ◌<◌}
use native.Mathlib.Nat.{mul-le-mul_right}
use native.Mathlib.Omega.{arith}
use lib.ListN.{length, get_or}
use Rattle.fields.specs.Shape.{bytes_of, row_bytes}
use Rattle.records.specs.Frame.{frame_output}
use Rattle.records.specs.Full.{full_output}
use Rattle.fields.specs.declared.shape.Shape.{Shape}
use Rattle.records.specs.declared.conv.Conv.{Conv}
use Rattle.records.specs.declared.full.Full.{Full}
use Rattle.records.specs.declared.add.Add.{Add}
use Rattle.records.specs.declared.layer.Layer.{Layer}
use Rattle.lists.specs.Lists.{pasted, joined, part}
use Rattle.lists.proofs.Pasted.{apart_within, joined_same}
use Rattle.layers.specs.Add.{add_byte, add_row}
use Rattle.layers.specs.Row.{tensor_at, row_of}
use Rattle.layers.specs.Asked.{ConvReady, Placed, Ready}
use Rattle.lists.proofs.Laid.{Laid, part_at, laid_more, laid-apart}
use Rattle.layers.proofs.Lengths.{ready_shaped, row_length}

-- k rows from row i stand within their tensor
pub rows_in : (s : Shape) (i k : ℕ) → i + k ≤ s.rows → i * row_bytes s + k * row_bytes s ≤ bytes_of s
unfolding bytes_of
rows_in s i k h = omega (arith, mul-le-mul_right {m = i + k} {n = s.rows} (row_bytes s) h)

-- and so does one
pub row_in : (s : Shape) (i : ℕ) → i < s.rows → i * row_bytes s + row_bytes s ≤ bytes_of s
row_in s i h = omega (arith, rows_in s i 1 (omega arith))

-- a convolution's output has a channel for each filter
pub filters_are : (y : Layer) (c : Conv) {file sums : List ℕ} → ConvReady y c file sums → y.output.channels ≡ c.filters
unfolding frame_output
filters_are y c r = ap (λ (s : Shape). s.channels) r.output

module _ (y : Layer) (z z' : ℕ) (file sums : List ℕ) (from other : ℕ) where
  -- row i of the tensors that stand in an area
  abbrev pub row_from : List ℕ → ℕ → List ℕ
  row_from area i = row_of y z z' file sums (tensor_at area from y.input) (tensor_at area other y.input) i

  -- one more row, of the tensors that stand in the area apart from it
  pub rows-turn :
      (area : List ℕ) (first end i : ℕ) {area₁ area₂ : List ℕ} →
      Ready y file sums (length area) from other →
      first ≤ i →
      i < end →
      end ≤ y.output.rows →
      Laid (end - first) (λ k. row_from area (first + k)) area (y.place + first * row_bytes y.output) area₁ (i - first) →
      area₂ ≡ pasted area₁ (y.place + i * row_bytes y.output) (row_from area₁ i) →
      length area₂ ≡ length area₁ →
      Laid (end - first) (λ k. row_from area (first + k)) area (y.place + first * row_bytes y.output) area₂ (i + 1 - first)
  rows-turn area first end i {area₁} {area₂} r hf hi he l e same =
      let w = row_bytes y.output in
      let at = y.place + first * w in
      let n = bytes_of y.input in
      let rows = rows_in y.output first (end - first) (omega arith) in
      let inside : at ≤ length area = omega (arith, r.first.within) in
      let steps : i + 1 - first ≡ i - first + 1 = omega arith in
      let row : first + (i - first) ≡ i = omega arith in
      let place : y.place + i * w ≡ at + (i - first) * w = omega (arith, ap (λ (k : ℕ). k * w) row) in
      let long : (k : ℕ) → length (row_from area (first + k)) ≡ w =
      λ k. row_length y z z' file sums _ _ _ (ready_shaped y file sums r.kind) in
      let kept : (p : ℕ) → Placed y (length area) p → tensor_at area₁ p y.input ≡ tensor_at area p y.input =
      λ p q.
      laid-apart (end - first) _ area at w p n long
      (apart_within n (bytes_of y.output) n ((end - first) * w) q.apart (omega arith) (omega arith) (omega arith) (omega arith)) inside l in
      rw steps
      (laid_more (end - first) _ area at w (i - first) long inside (omega arith) place l
      (e ∙ cc (kept from r.first, kept other r.second, row)) same)

-- a full layer's output has a byte for each of its outputs
pub full_bytes : (s : Shape) (f : Full) → s ≡ full_output f → bytes_of s ≡ f.outputs
unfolding bytes_of
full_bytes s f e = ap bytes_of e ∙ omega arith

-- row i of an add of two tensors of `size` bytes that stand in one area, laid from its place
pub add_done :
    (a : Add) (z z' : ℕ) (area : List ℕ) (from other place size i w : ℕ) {first second at : ℕ} {area' : List ℕ} →
    first ≡ from + i * w →
    second ≡ other + i * w →
    at ≡ place + i * w →
    i * w + w ≤ size →
    area' ≡ pasted area at (joined w (λ k. add_byte a z z' (get_or area (first + k) 0) (get_or area (second + k) 0) ∷ [])) →
    area' ≡ pasted area (place + i * w) (add_row a z z' w (part area from size) (part area other size) i)
unfolding add_row
add_done a z z' area from other place size i w ef es ea h e =
    rw (e, ea) (ap (pasted area (place + i * w)) (joined_same w (λ k g. ap₂ (λ (q r : ℕ). add_byte a z z' q r ∷ []) (byte from k ef g) (byte other k es g))))
  where
    byte : (from k : ℕ) {at : ℕ} → at ≡ from + i * w → k < w → get_or area (at + k) 0 ≡ get_or (part area from size) (i * w + k) 0
    byte from k e g =
        let there : from + (i * w + k) ≡ from + i * w + k = omega arith in
        rw (part_at area 0 from size (i * w + k) (omega arith), there, e)

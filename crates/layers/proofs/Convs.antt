-- A convolution: its window, the places of its output, and its rows.
-- Assumes nothing.
use mathlib.Core.Path.{◌≡◌, refl, sym, ap, ap₂, ◌∙◌}
use mathlib.Core.List.{List}
use Prim.Native.Nat.{ℕ, ◌+◌, ◌-◌, ◌*◌, ◌/◌, ◌≤◌, ◌<◌}
use native.Mathlib.Nat.{mul-le-mul_right, div-add-mod'}
use native.Mathlib.Omega.{arith}
use lib.ListN.{length, take}
use Rattle.fields.specs.Shape.{bytes_of, row_bytes}
use Rattle.fields.specs.Asked.{GoodShape}
use Rattle.records.specs.Frame.{frame_output}
use Rattle.fields.specs.declared.shape.Shape.{Shape}
use Rattle.records.specs.declared.conv.Conv.{Conv}
use Rattle.records.specs.declared.layer.Layer.{Layer}
use Rattle.fields.proofs.Shapes.{mul_most}
use Rattle.lists.specs.Lists.{pasted, joined, part}
use Rattle.lists.specs.Asked.{Apart}
use Rattle.windows.specs.Asked.{SmallWindow, size_of, window_bytes}
use Rattle.windows.specs.Window.{window_of}
use Rattle.windows.specs.declared.window.Window.{Window}
use Rattle.lists.proofs.Pasted.{part_length, part-part, part-pasted, apart_within, joined_same}
use Rattle.windows.proofs.Windows.{window-length, window-plain}
use Rattle.layers.specs.Asked.{OutputsReady, ConvReady}
use Rattle.layers.specs.Outputs.{outputs_of}
use Rattle.layers.specs.Conv.{window_for, conv_outputs, conv_row}
use Rattle.layers.specs.Row.{tensor_at}
use Rattle.layers.specs.declared.outputs.Outputs.{Outputs}
use Rattle.lists.proofs.Laid.{Laid, room, laid_more, laid-apart, cut_is}
use Rattle.layers.proofs.Rows.{row_in}
use Rattle.layers.proofs.Lengths.{outputs_length}
use Rattle.layers.proofs.Totals.{ready_any}

-- ---- a window that is gathered

-- the cells of a kernel
pub taps_few : (w : Window) → SmallWindow w → w.height * w.width ≤ 49
taps_few w s = mul_most w.height w.width 7 7 s.height s.width

-- the patch that is made of the part of the area begins with the window of the tensor that stands there
pub patch_is :
    (w : Window) (area d : List ℕ) (from p q : ℕ) {patch : List ℕ} →
    from + size_of w ≤ length area →
    patch ≡ pasted d 0 (window_of w (part area from (from + size_of w - from)) p q) →
    take (window_bytes w) patch ≡ window_of w (part area from (size_of w)) p q
patch_is w area d from p q h e =
    let t = part area from (size_of w) in
    rw (e, cut_is area from (size_of w))
    (part-pasted d (window_of w t p q) 0 (window_bytes w) (window-length w t p q (part_length area from (size_of w) h)) (omega arith))

-- ---- the places of a row

-- a place of a side of the output begins within the padded side of the input
stride_in : (j n x s : ℕ) → n ≡ x / s + 1 → j < n → j * s ≤ x
stride_in j n x s e h = omega (arith, div-add-mod' x s, mul-le-mul_right {m = j} {n = x / s} s (omega arith))

-- a side of the output of a kernel of one cell, with stride 1, is the input's
plain_side : (n p k s : ℕ) → 1 ≤ n → p < k → k ≡ 1 → s ≡ 1 → (n + 2 * p - k) / s + 1 ≡ n
plain_side n p k s h g ek es = rw es (omega arith)

-- the window's tensor is the input
pub size_is : (y : Layer) (c : Conv) (z : ℕ) {w : Window} → w ≡ window_for y.input c.frame z → size_of w ≡ bytes_of y.input
unfolding bytes_of
size_is y c z e = ap size_of e

module _ (y : Layer) (c : Conv) {file sums : List ℕ} (r : ConvReady y c file sums) where
  -- the sides of its output
  rows_are : y.output.rows ≡ (y.input.rows + 2 * c.frame.padding - c.frame.height) / c.frame.stride + 1
  unfolding frame_output
  rows_are = ap (λ (s : Shape). s.rows) r.output

  columns-are : y.output.columns ≡ (y.input.columns + 2 * c.frame.padding - c.frame.width) / c.frame.stride + 1
  unfolding frame_output
  columns-are = ap (λ (s : Shape). s.columns) r.output

  -- a window of one cell has a term for each channel
  pub plain_ready : (z : ℕ) {o : Outputs} → c.frame.height ≡ 1 → c.frame.width ≡ 1 → o ≡ conv_outputs y c z → OutputsReady o y.input.channels file sums
  plain_ready z eh ew eo =
      let n : c.frame.height * c.frame.width * y.input.channels ≡ y.input.channels = rw (eh, ew) (omega arith) in
      rw (eo, ← n) (ready_any (conv_outputs y c 0) z _ r.outputs)

  module _ (g : GoodShape y.input) where
    -- where the windows of row i and of column j begin
    pub row_at : (i : ℕ) → i < y.output.rows → i * c.frame.stride ≤ 131072
    row_at i h = omega (arith, stride_in i _ _ c.frame.stride rows_are h)

    pub column-at : (j : ℕ) → j < y.output.columns → j * c.frame.stride ≤ y.input.columns + c.frame.padding
    column-at j h = omega (arith, stride_in j _ _ c.frame.stride columns-are h)

    -- a kernel of one cell with stride 1 keeps both sides
    pub plain_rows : c.frame.height ≡ 1 → c.frame.stride ≡ 1 → y.output.rows ≡ y.input.rows
    plain_rows eh es = rows_are ∙ plain_side y.input.rows c.frame.padding c.frame.height c.frame.stride g.rows-some r.ok.frame.padding-rows eh es

    pub plain-columns : c.frame.width ≡ 1 → c.frame.stride ≡ 1 → y.output.columns ≡ y.input.columns
    plain-columns ew es = columns-are ∙ plain_side y.input.columns c.frame.padding c.frame.width c.frame.stride g.columns-some r.ok.frame.padding-columns ew es

    -- the window's numbers are in their bounds
    window-sound : (z : ℕ) → SmallWindow (window_for y.input c.frame z)
    unfolding bytes_of
    window-sound z = record {
      rows = g.rows_few;
      columns = g.columns-few;
      channels-some = g.channels-some;
      channels = g.channels-few;
      size = g.bytes_few;
      height = r.ok.frame.height-few;
      width = r.ok.frame.width_few;
      top = omega (arith, r.ok.frame.padding-rows);
      left = omega (arith, r.ok.frame.padding-columns);
    }

    -- what the function `conv_place` requires at place j of row i
    pub place-ready :
        (z i j from at : ℕ) {w : Window} {o : Outputs} {size patch : ℕ} →
        w ≡ window_for y.input c.frame z →
        o ≡ conv_outputs y c z →
        i < y.output.rows →
        j < y.output.columns →
        from + bytes_of y.input ≤ size →
        at + o.count ≤ size →
        12544 ≤ patch →
        SmallWindow w ×
        OutputsReady o (window_bytes w) file sums ×
        (from + size_of w ≤ size) ×
        (at + o.count ≤ size) ×
        (j * c.frame.stride ≤ w.columns + w.left) ×
        (i * c.frame.stride ≤ 131072) ×
        (window_bytes w ≤ patch)
    unfolding bytes_of
    place-ready z i j from at ew eo hi hj hf hr hp =
        let sound = window-sound z in
        let taps = taps_few (window_for y.input c.frame z) sound in
        let terms : window_bytes (window_for y.input c.frame z) ≤ 12544 = mul_most (c.frame.height * c.frame.width) y.input.channels 49 256 taps g.channels-few in (
          rw ew sound,
          rw (eo, ew) (ready_any (conv_outputs y c 0) z _ r.outputs),
          rw ew hf,
          hr,
          rw ew (column-at j hj),
          row_at i hi,
          rw ew (omega arith),
        )

-- one more place of a row, of the tensor that stands in the area apart from it
pub place_turn :
    (w : Window) (o : Outputs) (file sums area : List ℕ) (n from at p s j : ℕ) {area₁ area₂ : List ℕ} →
    Apart from (size_of w) at (n * o.count) →
    at ≤ length area →
    j < n →
    Laid n (λ k. outputs_of o file sums (window_of w (part area from (size_of w)) p (k * s))) area at area₁ j →
    area₂ ≡ pasted area₁ (at + j * o.count) (outputs_of o file sums (window_of w (part area₁ from (size_of w)) p (j * s))) →
    length area₂ ≡ length area₁ →
    Laid n (λ k. outputs_of o file sums (window_of w (part area from (size_of w)) p (k * s))) area at area₂ (j + 1)
place_turn w o file sums area n from at p s j {area₁} hf ha hj l e =
    laid_more n _ area at o.count j (λ k. outputs_length o file sums _) ha hj refl l
    (e ∙ ap (λ (t : List ℕ). pasted area₁ (at + j * o.count) (outputs_of o file sums (window_of w t p (j * s))))
    (laid-apart n _ area at o.count from (size_of w) (λ k. outputs_length o file sums _) hf ha l))

-- the same, of a window that stands in the area as it is, one of n windows of m bytes
pub plain_turn :
    (o : Outputs) (file sums area : List ℕ) (n m from at j : ℕ) {area₁ area₂ : List ℕ} →
    Apart from (n * m) at (n * o.count) →
    at ≤ length area →
    j < n →
    Laid n (λ k. outputs_of o file sums (part area (from + k * m) m)) area at area₁ j →
    area₂ ≡ pasted area₁ (at + j * o.count) (outputs_of o file sums (part area₁ (from + j * m) m)) →
    length area₂ ≡ length area₁ →
    Laid n (λ k. outputs_of o file sums (part area (from + k * m) m)) area at area₂ (j + 1)
plain_turn o file sums area n m from at j {area₁} hf ha hj l e =
    let all = n * o.count in
    let window : Apart (from + j * m) m at all =
    apart_within (n * m) all m all hf (omega arith) (omega arith) (omega arith) (room j n m from refl hj (omega arith)) in
    laid_more n _ area at o.count j (λ k. outputs_length o file sums _) ha hj refl l
    (e ∙ ap (λ (t : List ℕ). pasted area₁ (at + j * o.count) (outputs_of o file sums t))
    (laid-apart n _ area at o.count (from + j * m) m (λ k. outputs_length o file sums _) window ha l))

module _ (y : Layer) (c : Conv) (z : ℕ) (file sums area : List ℕ) (from i : ℕ) where
  -- the row whose places are gathered
  pub conv-done :
      {w : Window} {o : Outputs} {at : ℕ} {area' : List ℕ} →
      w ≡ window_for y.input c.frame z →
      o ≡ conv_outputs y c z →
      at ≡ y.place + i * row_bytes y.output →
      area' ≡ pasted area at (joined y.output.columns (λ k. outputs_of o file sums (window_of w (part area from (size_of w)) (i * c.frame.stride) (k * c.frame.stride)))) →
      area' ≡ pasted area (y.place + i * row_bytes y.output) (conv_row y c z file sums (tensor_at area from y.input) i)
  unfolding conv_row bytes_of
  conv-done ew eo ea e = e ∙ rw (ea, eo, ew)

  -- the row of a kernel of one cell with stride 1
  pub plain_done :
      {o : Outputs} {start at : ℕ} {area' : List ℕ} →
      ConvReady y c file sums →
      GoodShape y.input →
      i < y.output.rows →
      (c.frame.height ≡ 1) × (c.frame.width ≡ 1) × (c.frame.stride ≡ 1) →
      o ≡ conv_outputs y c z →
      start ≡ from + i * row_bytes y.input →
      at ≡ y.place + i * row_bytes y.output →
      area' ≡ pasted area at (joined y.output.columns (λ k. outputs_of o file sums (part area (start + k * y.input.channels) y.input.channels))) →
      area' ≡ pasted area (y.place + i * row_bytes y.output) (conv_row y c z file sums (tensor_at area from y.input) i)
  unfolding conv_row bytes_of
  plain_done {o} {start} r g hi (eh, ew, es) eo ef ea e =
      let outputs : Outputs → List ℕ → List ℕ = λ u q. outputs_of u file sums q in
      rw (e, ea) (ap (pasted area (y.place + i * row_bytes y.output)) (joined_same y.output.columns (λ k h. ap₂ outputs eo (place k h))))
    where
      place :
          (k : ℕ) →
          k < y.output.columns →
          part area (start + k * y.input.channels) y.input.channels ≡
          window_of (window_for y.input c.frame z) (tensor_at area from y.input) (i * c.frame.stride) (k * c.frame.stride)
      place k h =
          let column_in : k < y.input.columns = rw (plain-columns y c r g ew es) at h in
          let n = y.input.channels in
          let cell = (i * y.input.columns + k) * n in
          let input : i < y.input.rows = rw (plain_rows y c r g eh es) at hi in
          let inside : cell + n ≤ bytes_of y.input =
          omega (arith, row_in y.input i input, mul-le-mul_right {m = k + 1} {n = y.input.columns} n (omega arith)) in
          let there : start + k * n ≡ from + cell = omega (arith, ef) in
          let row : i * c.frame.stride ≡ i = rw es (omega arith) in
          let column : k * c.frame.stride ≡ k = rw es (omega arith) in
          let none : c.frame.padding ≡ 0 = omega (arith, r.ok.frame.padding-rows) in
          rw (there, row, column, window-plain (window_for y.input c.frame z) (tensor_at area from y.input) i k eh ew none none input column_in)
          (sym (part-part area from (bytes_of y.input) cell n inside))

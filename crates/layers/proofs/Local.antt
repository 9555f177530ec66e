-- What a row depends on: the layer's parameters, its inputs' zero-points, its record, its stored sums, and the rows of its
-- inputs that it sees.
-- Assumes nothing.
use mathlib.Core.Path.{◌≡◌, refl, sym, ap, ◌∙◌}
use mathlib.Core.List.{List, [], ◌∷◌}
use Prim.Native.Nat.{ℕ, ◌+◌, ◌*◌, ◌-◌, ◌≤◌, ◌<◌}
use native.Mathlib.Nat.{add-sub_of_le, mul-le-mul_right, zero-add}
use native.Mathlib.Omega.{arith}
use lib.ListN.{length, get_or, drop}
use lib.Seq.{get_or-take, get_or-drop, take_all}
use Rattle.numbers.specs.Total.{sum}
use Rattle.fields.specs.Bytes.{i32_at}
use Rattle.fields.specs.Shape.{bytes_of, row_bytes}
use Rattle.fields.specs.Stored.{stored_len}
use Rattle.records.specs.Mark.{fixed_len}
use Rattle.records.specs.Layer.{sums_of, terms_of, biases_at, weights_at, record_len}
use Rattle.fields.specs.declared.shape.Shape.{Shape}
use Rattle.records.specs.declared.weighing.Weighing.{Weighing}
use Rattle.records.specs.declared.conv.Conv.{Conv as ConvParams}
use Rattle.records.specs.declared.full.Full.{Full as FullParams}
use Rattle.records.specs.declared.add.Add.{Add as AddParams}
use Rattle.records.specs.declared.layer.Kind.{Kind}
use Rattle.records.specs.declared.layer.Kind.TheVariants.{Conv, Full, Add}
use Rattle.records.specs.declared.layer.Layer.{Layer}
use Rattle.lists.specs.Lists.{part}
use Rattle.windows.specs.Window.{window_of}
use Rattle.windows.specs.declared.window.Window.{Window}
use Rattle.lists.proofs.Pasted.{part-part, joined_same, joined-part}
use Rattle.windows.proofs.Windows.{window-length, window_local}
use Rattle.layers.specs.Outputs.{outputs_for, weights_of, output_of, outputs_of}
use Rattle.layers.specs.Conv.{window_for, conv_outputs, conv_row}
use Rattle.layers.specs.Full.{full_outputs, full_row}
use Rattle.layers.specs.Add.{add_row}
use Rattle.layers.specs.Row.{row_by, row_of}
use Rattle.layers.specs.Sums.{layer_sums}
use Rattle.layers.proofs.Lengths.{ShapedBy}

-- ---- lists with the same n elements from place at

abbrev pub SamePart : List ℕ → List ℕ → ℕ → ℕ → Type 0
SamePart a b at n = part a at n ≡ part b at n

module _ (a b : List ℕ) (at n : ℕ) (e : SamePart a b at n) where
  -- a part inside that part is the same
  pub part-inside : (p m : ℕ) → at ≤ p → p + m ≤ at + n → SamePart a b p m
  part-inside p m h g =
      let inner : (d : List ℕ) → part (part d at n) (p - at) m ≡ part d p m =
      λ d. part-part d at n (p - at) m (omega arith) ∙ ap (λ (k : ℕ). part d k m) (add-sub_of_le h) in
      sym (inner a) ∙ ap (λ (d : List ℕ). part d (p - at) m) e ∙ inner b

  -- an element of it is
  pub at-inside : (p : ℕ) → at ≤ p → p < at + n → get_or a p 0 ≡ get_or b p 0
  at-inside p h g =
      let inner : (d : List ℕ) → get_or (part d at n) (p - at) 0 ≡ get_or d p 0 =
      λ d.
      get_or-take n (drop at d) (p - at) 0 (omega arith) ∙
      get_or-drop at d (p - at) 0 ∙
      ap (λ (k : ℕ). get_or d k 0) (add-sub_of_le h) in
      sym (inner a) ∙ ap (λ (d : List ℕ). get_or d (p - at) 0) e ∙ inner b

  -- a number of four bytes of it is
  pub i32-inside : (p : ℕ) → at ≤ p → p + 4 ≤ at + n → i32_at a p ≡ i32_at b p
  i32-inside p h g =
      cc (
        at-inside p h (omega arith),
        at-inside (p + 1) (omega arith) (omega arith),
        at-inside (p + 2) (omega arith) (omega arith),
        at-inside (p + 3) (omega arith) (omega arith),
      )

-- m rows of w elements that are the same one by one are the same as a whole
pub whole_by_rows :
    (a b : List ℕ) (at w m : ℕ) →
    ((r : ℕ) → r < m → SamePart a b (at + r * w) w) →
    SamePart a b at (m * w)
whole_by_rows a b at w m h =
    let rows : ℕ → List ℕ = λ r. part a (at + r * w) w in
    sym (joined-part m w at a rows (λ r g. refl)) ∙ joined-part m w at b rows h

-- ---- a record: its fixed part, then count biases, then n weights for each

module _
    (file file' : List ℕ)
    (start fixed count n : ℕ)
    (e : SamePart file file' start (fixed + stored_len count n))
    (f : ℕ)
    (h : f < count) where
  stored-bias : i32_at file (start + fixed + 4 * f) ≡ i32_at file' (start + fixed + 4 * f)
  unfolding stored_len
  stored-bias = i32-inside file file' start (fixed + stored_len count n) e _ (omega arith) (omega arith)

  stored-weights : weights_of file (start + fixed + 4 * count) n f ≡ weights_of file' (start + fixed + 4 * count) n f
  unfolding stored_len
  stored-weights =
      part-inside file file' start (fixed + stored_len count n) e (start + fixed + 4 * count + f * n) n (omega arith)
      (omega (arith, mul-le-mul_right {m = f + 1} {n = count} n (omega arith)))

-- two files have the same record of a layer
abbrev pub SameRecord : Layer → List ℕ → List ℕ → Type 0
SameRecord y file file' = SamePart file file' y.start (record_len y)

-- two stores have the same sums of a layer
abbrev pub SameSums : Layer → List ℕ → List ℕ → Type 0
SameSums y sums sums' = SamePart sums sums' y.sums (sums_of y.kind)

module _ (y : Layer) (file file' : List ℕ) (e : SameRecord y file file') where
  -- a bias lies inside the record
  pub bias-local :
      (f : ℕ) →
      f < sums_of y.kind →
      i32_at file (biases_at y + 4 * f) ≡ i32_at file' (biases_at y + 4 * f)
  bias-local =
      stored-bias file file' y.start (fixed_len y.mark) (sums_of y.kind) (terms_of y.kind y.input) e

  -- the weights of an output do
  pub weights-local :
      (f : ℕ) →
      f < sums_of y.kind →
      weights_of file (weights_at y) (terms_of y.kind y.input) f ≡
      weights_of file' (weights_at y) (terms_of y.kind y.input) f
  weights-local =
      stored-weights file file' y.start (fixed_len y.mark) (sums_of y.kind) (terms_of y.kind y.input) e

  -- so the true sums are the same where the record is
  pub sums-local : layer_sums y file ≡ layer_sums y file'
  unfolding layer_sums
  sums-local = joined_same (sums_of y.kind) (λ f h. ap (λ (w : List ℕ). sum w ∷ []) (weights-local f h))

-- ---- the rows that a row sees

-- row r of a tensor of a shape
abbrev pub row_part : List ℕ → ℕ → Shape → List ℕ
row_part t r s = part t (r * row_bytes s) (row_bytes s)

-- tensors of one shape with the same rows are the same
pub tensor_by_rows :
    (t u : List ℕ) (s : Shape) →
    length t ≡ bytes_of s →
    length u ≡ bytes_of s →
    ((r : ℕ) → r < s.rows → row_part t r s ≡ row_part u r s) →
    t ≡ u
unfolding bytes_of
tensor_by_rows t u s e e' h =
    let n : ℕ = s.rows * row_bytes s in
    sym (take_all n t (omega arith)) ∙
    whole_by_rows t u 0 (row_bytes s) s.rows (λ r g. rw zero-add (h r g)) ∙
    take_all n u (omega arith)

-- the window of row i, the input's rows i × stride − before up to i × stride − before + kernel − 1, holds row r
abbrev pub InWindow : ℕ → ℕ → ℕ → ℕ → ℕ → Type 0
InWindow before kernel stride i r = (i * stride ≤ r + before) × (r + before < i * stride + kernel)

-- row i of a layer sees row r of an input: a full layer's one row sees all, an add's row i sees row i
abbrev pub sees_by : Kind → Layer → ℕ → ℕ → Type 0
sees_by (Conv c) y i r = InWindow c.frame.padding c.frame.height c.frame.stride i r
sees_by (Full f) y i r = InWindow 0 y.input.rows 1 i r
sees_by (Add a) y i r = InWindow 0 1 1 i r

-- two tensors have the same rows where row i sees them
abbrev pub SameRows : Kind → Layer → ℕ → List ℕ → List ℕ → Type 0
SameRows k y i t u = (r : ℕ) → sees_by k y i r → r < y.input.rows → row_part t r y.input ≡ row_part u r y.input

-- ---- a row

-- the outputs of a layer of kind k at a window q that has its terms
outputs_local :
    (y : Layer) (k : Kind) (w : Weighing) (z : ℕ) (file file' sums sums' q : List ℕ) →
    y.kind ≡ k →
    length q ≡ terms_of k y.input →
    SameRecord y file file' →
    SameSums y sums sums' →
    let o = outputs_for y (sums_of k) w z in
    outputs_of o file sums q ≡ outputs_of o file' sums' q
unfolding outputs_of output_of
outputs_local y k w z file file' sums sums' q x l e s =
    joined_same (sums_of k) (λ f h.
    let g : f < sums_of y.kind = rw x h in
    cc (
      bias-local y file file' e f g,
      weights-local y file file' e f g,
      at-inside sums sums' y.sums (sums_of y.kind) s (y.sums + f) (omega arith) (omega arith),
    ))

conv_local :
    (y : Layer) (c : ConvParams) (z : ℕ) (file file' sums sums' t u : List ℕ) (i : ℕ) →
    length t ≡ bytes_of y.input →
    y.kind ≡ Conv c →
    SameRecord y file file' →
    SameSums y sums sums' →
    SameRows (Conv c) y i t u →
    conv_row y c z file sums t i ≡ conv_row y c z file' sums' u i
unfolding conv_row bytes_of
conv_local y c z file file' sums sums' t u i l k e s h =
    let w : Window = window_for y.input c.frame z in
    let p : ℕ = i * c.frame.stride in
    joined_same y.output.columns (λ j g.
    let q : ℕ = j * c.frame.stride in
    outputs_local y (Conv c) c.weighing z file file' sums sums' (window_of w t p q) k (window-length w t p q l) e s ∙
    ap (outputs_of (conv_outputs y c z) file' sums') (window_local w t u p q (λ r a b k. h r (a, b) k)))

full_local :
    (y : Layer) (f : FullParams) (z : ℕ) (file file' sums sums' t u : List ℕ) →
    length t ≡ bytes_of y.input →
    length u ≡ bytes_of y.input →
    y.kind ≡ Full f →
    SameRecord y file file' →
    SameSums y sums sums' →
    ((r : ℕ) → r < y.input.rows → row_part t r y.input ≡ row_part u r y.input) →
    full_row y f z file sums t ≡ full_row y f z file' sums' u
full_local y f z file file' sums sums' t u l l' k e s h =
    outputs_local y (Full f) f.weighing z file file' sums sums' t k l e s ∙
    ap (outputs_of (full_outputs y f z) file' sums') (tensor_by_rows t u y.input l l' h)

add_local :
    (a : AddParams) (z z' w : ℕ) (t u t' u' : List ℕ) (i : ℕ) →
    SamePart t u (i * w) w →
    SamePart t' u' (i * w) w →
    add_row a z z' w t t' i ≡ add_row a z z' w u u' i
unfolding add_row
add_local a z z' w t u t' u' i e e' =
    joined_same w (λ k h.
    cc (
      at-inside t u (i * w) w e (i * w + k) (omega arith) (omega arith),
      at-inside t' u' (i * w) w e' (i * w + k) (omega arith) (omega arith),
    ))

local_by :
    (k : Kind) (y : Layer) (z z' : ℕ) (file file' sums sums' t u t' u' : List ℕ) (i : ℕ) →
    y.kind ≡ k →
    ShapedBy k y →
    i < y.output.rows →
    length t ≡ bytes_of y.input →
    length u ≡ bytes_of y.input →
    SameRecord y file file' →
    SameSums y sums sums' →
    SameRows k y i t u →
    SameRows k y i t' u' →
    row_by k y z z' file sums t t' i ≡ row_by k y z z' file' sums' u u' i
local_by (Conv c) y z z' file file' sums sums' t u t' u' i x p hi l l' e s h h' =
    conv_local y c z file file' sums sums' t u i l x e s h
local_by (Full f) y z z' file file' sums sums' t u t' u' i x p hi l l' e s h h' =
    let first : i < 1 = rw p at hi in
    full_local y f z file file' sums sums' t u l l' x e s (λ r g. h r (omega arith, omega arith) g)
local_by (Add a) y z z' file file' sums sums' t u t' u' i x p hi l l' e s h h' =
    let inside : i < y.input.rows = rw p at hi in
    let seen : InWindow 0 1 1 i i = (omega arith, omega arith) in
    rw p (add_local a z z' (row_bytes y.input) t u t' u' i (h i seen inside) (h' i seen inside))

-- a row is the same where the layer's record, its stored sums and the rows that it sees are
pub row_local :
    (y : Layer) (z z' : ℕ) (file file' sums sums' t u t' u' : List ℕ) (i : ℕ) →
    ShapedBy y.kind y →
    i < y.output.rows →
    length t ≡ bytes_of y.input →
    length u ≡ bytes_of y.input →
    SameRecord y file file' →
    SameSums y sums sums' →
    SameRows y.kind y i t u →
    SameRows y.kind y i t' u' →
    row_of y z z' file sums t t' i ≡ row_of y z z' file' sums' u u' i
row_local y z z' file file' sums sums' t u t' u' i = local_by y.kind y z z' file file' sums sums' t u t' u' i refl

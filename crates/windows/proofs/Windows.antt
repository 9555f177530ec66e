-- Laws of `cell_of`, `strip_of` and `window_of`: their lengths, their bytes, and what of the tensor they depend on.
-- Assumes nothing.
use mathlib.Core.Path.{◌≡◌, refl, sym, ap, ◌∙◌}
use mathlib.Core.List.{List, ◌++◌}
use mathlib.Core.Bool.{Bool, true, false, ◌&&◌, and-false, false≢true}
use Prim.Native.Nat.{ℕ, ◌+◌, ◌*◌, ◌-◌, ◌≤◌, ◌<◌, min}
use native.Mathlib.Nat.{mul-le-mul_right, add_assoc}
use native.Mathlib.Omega.{arith}
use lib.ListN.{length, replicate, length-replicate, length-append}
use borrow.Author.Tests.{leb-true, ltb-true, lt-ltb, le-ltb, le-leb, lt-leb}
use Rattle.lists.specs.Lists.{pasted, joined, part}
use Rattle.windows.specs.Asked.{SmallWindow, Lies, stop_of, size_of, window_bytes}
use Rattle.windows.specs.Window.{is_real, cell_of, strip_of, window_of}
use Rattle.windows.specs.declared.window.Window.{Window}
use Rattle.windows.specs.declared.window.Strip.{Strip}
use Rattle.lists.proofs.Bytes.{Bytes, bytes_take, bytes_drop, bytes_replicate, bytes_joined}
use Rattle.lists.proofs.Pasted.{part_length, part-part, pasted_more, joined_length, joined_same, joined_only, joined-add, joined_fill, joined-part}

-- ---- the places of a padded side

module _ (k n p : ℕ) where
  -- a place in the padding before the side
  pub side_before : p < k → is_real k n p ≡ false
  side_before h = rw (lt-leb k p h)

  -- a place after the side
  pub side_after : n ≤ p - k → is_real k n p ≡ false
  side_after h = rw (le-ltb (p - k) n h, and-false)

  -- a real place
  pub side-in : k ≤ p → p - k < n → is_real k n p ≡ true
  side-in h g = rw (le-leb k p h, lt-ltb (p - k) n g)

  -- what a place's being real says
  pub side-real : is_real k n p ≡ true → (k ≤ p) × (p - k < n)
  side-real e = let b = both _ _ e in (leb-true k p b.0, ltb-true (p - k) n b.1)
    where
      both : (x y : Bool) → x && y ≡ true → (x ≡ true) × (y ≡ true)
      both true y h = (refl, h)
      both false y h = absurd (false≢true h)

-- ---- a cell

module _ (w : Window) (p q : ℕ) where
  -- where the bytes of a real cell start in the tensor
  abbrev pub cell_at : ℕ
  cell_at = ((p - w.top) * w.columns + (q - w.left)) * w.channels

  -- a cell in a row of padding
  pub cell-off-row :
      (t : List ℕ) →
      is_real w.top w.rows p ≡ false →
      cell_of w t p q ≡ replicate w.channels w.zero
  unfolding cell_of
  cell-off-row t e = rw e

  -- a cell in a column of padding
  pub cell-off-column :
      (t : List ℕ) →
      is_real w.left w.columns q ≡ false →
      cell_of w t p q ≡ replicate w.channels w.zero
  unfolding cell_of
  cell-off-column t e = rw (e, and-false)

  -- a real cell
  pub cell_in :
      (t : List ℕ) →
      is_real w.top w.rows p ≡ true →
      is_real w.left w.columns q ≡ true →
      cell_of w t p q ≡ part t cell_at w.channels
  unfolding cell_of
  cell_in t e f = rw (e, f)

-- a cell is one of the padding, or a real one
pub data Cell (w : Window) (p q : ℕ) : Type 0 where
  padding : ((t : List ℕ) → cell_of w t p q ≡ replicate w.channels w.zero) → Cell w p q
  real :
      (w.top ≤ p) × (p - w.top < w.rows) →
      (w.left ≤ q) × (q - w.left < w.columns) →
      ((t : List ℕ) → cell_of w t p q ≡ part t (cell_at w p q) w.channels) →
      Cell w p q

-- which of the two a cell is, whatever the tensor
pub cell : (w : Window) (p q : ℕ) → Cell w p q
cell w p q = go (is_real w.top w.rows p) (is_real w.left w.columns q) refl refl
  where
    go : (a b : Bool) → is_real w.top w.rows p ≡ a → is_real w.left w.columns q ≡ b → Cell w p q
    go false b e f = padding (λ t. cell-off-row w p q t e)
    go true false e f = padding (λ t. cell-off-column w p q t f)
    go true true e f =
        real (side-real w.top w.rows p e) (side-real w.left w.columns q f) (λ t. cell_in w p q t e f)

-- the bytes of a real cell stand within the tensor
cell_within :
    (rows columns channels r c : ℕ) →
    r < rows →
    c < columns →
    (r * columns + c) * channels + channels ≤ rows * columns * channels
cell_within rows columns channels r c hr hc =
    let h : r * columns + c + 1 ≤ rows * columns =
    omega (arith, mul-le-mul_right {m = r + 1} {n = rows} columns (omega arith)) in
    omega (arith, mul-le-mul_right channels h)

module _ (w : Window) (t : List ℕ) (p q : ℕ) where
  -- a cell has a byte for each channel
  pub cell-length : length t ≡ size_of w → length (cell_of w t p q) ≡ w.channels
  cell-length e =
      elim (cell w p q) [
        | padding f ↦ rw (f t) (length-replicate _ _)
        | real (hp, hr) (hq, hc) f ↦
            let within = cell_within w.rows w.columns w.channels (p - w.top) (q - w.left) hr hc in
            rw (f t) (part_length t (cell_at w p q) w.channels (rw e within))
      ]

  -- the cell of a tensor of bytes is of bytes
  pub cell-bytes : Bytes t → w.zero ≤ 255 → Bytes (cell_of w t p q)
  cell-bytes h z =
      elim (cell w p q) [
        | padding f ↦ rw (f t) (bytes_replicate w.channels w.zero z)
        | real a b f ↦ rw (f t) (bytes_take w.channels _ (bytes_drop (cell_at w p q) t h))
      ]

-- a real cell is a part of its row
row_part_lem :
    (t : List ℕ) (columns channels r c : ℕ) →
    c < columns →
    part (part t (r * (columns * channels)) (columns * channels)) (c * channels) channels ≡
    part t ((r * columns + c) * channels) channels
row_part_lem t columns channels r c h =
    let e : r * (columns * channels) + c * channels ≡ (r * columns + c) * channels = omega arith in
    let within = mul-le-mul_right {m = c + 1} {n = columns} channels (omega arith) in
    part-part t (r * (columns * channels)) (columns * channels) (c * channels) channels (omega arith) ∙
    ap (λ (k : ℕ). part t k channels) e

-- the tensors t and t' have the same row r
abbrev pub SameRow : Window → List ℕ → List ℕ → ℕ → Type 0
SameRow w t t' r =
    let n = w.columns * w.channels in
    part t (r * n) n ≡ part t' (r * n) n

-- a cell depends on its row alone
pub cell_local :
    (w : Window) (t t' : List ℕ) (p q : ℕ) →
    ((r : ℕ) → p ≡ r + w.top → r < w.rows → SameRow w t t' r) →
    cell_of w t p q ≡ cell_of w t' p q
cell_local w t t' p q h =
    elim (cell w p q) [
      | padding f ↦ f t ∙ sym (f t')
      | real (hp, hr) (hq, hc) f ↦
          let at : (d : List ℕ) → _ = λ d. row_part_lem d w.columns w.channels (p - w.top) (q - w.left) hc in
          cc (f t, f t', at t, at t', h (p - w.top) (omega arith) hr)
    ]

-- ---- a row of a window

-- The next three are over bare numbers, where `omega` may split at each difference: of a row from column q, with k columns of
-- padding before the tensor's c, the columns before `first` are padding and those from `stop` are past the tensor.

-- a column from `first` up to `stop` is a real one
in_columns :
    (k q c n first stop b : ℕ) →
    first ≡ k - q →
    stop ≡ min n (c + k - q) →
    b < stop - first →
    q + (first + b) - k < c
in_columns k q c n first stop b ef es h = omega arith

-- which one it is
same_column : (k q first b : ℕ) → first ≡ k - q → q + (first + b) - k ≡ q - k + b
same_column k q first b ef = omega arith

-- a column from `stop` is past the tensor
past_columns :
    (k q c n first stop b : ℕ) →
    first ≡ k - q →
    stop ≡ min n (c + k - q) →
    first ≤ stop →
    b < n - stop →
    c ≤ q + (first + (stop - first) + b) - k
past_columns k q c n first stop b ef es hs h = omega arith

module _ (w : Window) (t : List ℕ) (p q : ℕ) where
  -- a row of padding
  pub strip-off : is_real w.top w.rows p ≡ false → strip_of w t p q ≡ replicate (w.width * w.channels) w.zero
  unfolding strip_of
  strip-off e = joined_fill w.width w.channels w.zero _ (λ b g. cell-off-row w p (q + b) t e)

  -- a row has a cell for each column
  pub strip-length : length t ≡ size_of w → length (strip_of w t p q) ≡ w.width * w.channels
  unfolding strip_of
  strip-length e = joined_length w.width w.channels _ (λ b. cell-length w t p (q + b) e)

  -- a row that meets the tensor: the cells before it, then those up to stop in it, then the others
  pub strip-in :
      (first stop : ℕ) →
      is_real w.top w.rows p ≡ true →
      q ≤ w.columns + w.left →
      w.left ≤ w.width →
      first ≡ w.left - q →
      stop ≡ stop_of w q →
      replicate (first * w.channels) w.zero ++
      part t (cell_at w p q) ((stop - first) * w.channels) ++
      replicate ((w.width - stop) * w.channels) w.zero ≡
      strip_of w t p q
  unfolding strip_of
  strip-in first stop hp hq hl ef es =
      let f : ℕ → List ℕ = λ b. cell_of w t p (q + b) in
      let n : ℕ = stop - first in
      let rest : ℕ = w.width - stop in
      let before : (b : ℕ) → b < first → f b ≡ replicate w.channels w.zero =
      λ b g. cell-off-column w p (q + b) t (side_before w.left w.columns (q + b) (omega arith)) in
      let within : (b : ℕ) → b < n → f (first + b) ≡ part t (cell_at w p q + b * w.channels) w.channels =
      λ b g.
      let in_row = in_columns w.left q w.columns w.width first stop b ef es g in
      cell_in w p (q + (first + b)) t hp (side-in w.left w.columns _ (omega arith) in_row) ∙
      ap (λ (k : ℕ). part t k w.channels) (shift b (same_column w.left q first b ef)) in
      let after : (b : ℕ) → b < rest → f (first + n + b) ≡ replicate w.channels w.zero =
      λ b g.
      let past = past_columns w.left q w.columns w.width first stop b ef es (omega arith) g in
      cell-off-column w p (q + (first + n + b)) t (side_after w.left w.columns _ past) in
      let e : w.width ≡ first + n + rest = omega arith in
      sym
      (ap (λ (k : ℕ). joined k f) e ∙ joined-add (first + n) rest f ∙
      ap (λ (u : List ℕ). u ++ joined rest (λ b. f (first + n + b))) (joined-add first n f) ∙
      cc (
        joined_fill first w.channels w.zero f before,
        joined-part n w.channels (cell_at w p q) t (λ b. f (first + b)) within,
        joined_fill rest w.channels w.zero (λ b. f (first + n + b)) after,
      ))
    where
      shift :
          (b : ℕ) →
          q + (first + b) - w.left ≡ q - w.left + b →
          cell_at w p (q + (first + b)) ≡ cell_at w p q + b * w.channels
      shift b h = rw h (omega arith)

-- ---- the numbers of a strip

-- a strip ends within the tensor
strip_within :
    (rows columns channels r k q n : ℕ) →
    r < rows →
    q ≤ columns + k →
    (r * columns + (q - k)) * channels + (min n (columns + k - q) - (k - q)) * channels ≤ rows * columns * channels
strip_within rows columns channels r k q n hr hq =
    let h : r * columns + (q - k) + (min n (columns + k - q) - (k - q)) ≤ rows * columns =
    omega (arith, mul-le-mul_right {m = r + 1} {n = rows} columns (omega arith)) in
    omega (arith, mul-le-mul_right channels h)

-- the lead, the part in the tensor and the tail make a row
strip_whole :
    (channels k q n columns from : ℕ) →
    k ≤ n →
    (k - q) * channels + (from + (min n (columns + k - q) - (k - q)) * channels) + (n - min n (columns + k - q)) * channels ≡
    n * channels + from
strip_whole channels k q n columns from hk =
    let e : k - q + (min n (columns + k - q) - (k - q)) + (n - min n (columns + k - q)) ≡ n = omega arith in
    whole (k - q) (min n (columns + k - q) - (k - q)) (n - min n (columns + k - q)) ∙ ap (λ (m : ℕ). m * channels + from) e
  where
    whole : (u v z : ℕ) → u * channels + (from + v * channels) + z * channels ≡ (u + v + z) * channels + from
    whole u v z = omega arith

-- a strip, from what the code computes
pub strip_made :
    (w : Window) (r q : ℕ) {first stop skip : ℕ} →
    SmallWindow w →
    r < w.rows →
    q ≤ w.columns + w.left →
    first ≡ w.left - q →
    stop ≡ stop_of w q →
    skip ≡ q - w.left →
    Lies w r q
    (record {
      lead = first * w.channels;
      from = (r * w.columns + skip) * w.channels;
      to = (r * w.columns + skip) * w.channels + (stop - first) * w.channels;
      tail = (w.width - stop) * w.channels;
    })
strip_made w r q s hr hq e₁ e₂ e₃ =
    rw (e₁, e₂, e₃)
    (record {
      lead = refl;
      start = refl;
      part = refl;
      within = strip_within w.rows w.columns w.channels r w.left q w.width hr hq;
      tail = refl;
      whole = strip_whole w.channels w.left q w.width w.columns _ s.left;
    })

-- the one store of a row of padding
pub strip_filled :
    (w : Window) (t d : List ℕ) (at p q : ℕ) {d₁ : List ℕ} →
    is_real w.top w.rows p ≡ false →
    d₁ ≡ pasted d at (replicate (w.width * w.channels) w.zero) →
    d₁ ≡ pasted d at (strip_of w t p q)
strip_filled w t d at p q h e = cc (strip-off w t p q h)

-- the three stores of a row that meets the tensor
pub strip_stored :
    (w : Window) (t d : List ℕ) (at p q : ℕ) (k : Strip) →
    SmallWindow w →
    length t ≡ size_of w →
    q ≤ w.columns + w.left →
    at ≤ length d →
    w.top ≤ p →
    p - w.top < w.rows →
    Lies w (p - w.top) q k →
    {d₁ d₂ d₃ : List ℕ} →
    d₁ ≡ pasted d at (replicate k.lead w.zero) →
    d₂ ≡ pasted d₁ (at + k.lead) (part t k.from (k.to - k.from)) →
    d₃ ≡ pasted d₂ (at + k.lead + (k.to - k.from)) (replicate k.tail w.zero) →
    d₃ ≡ pasted d at (strip_of w t p q)
strip_stored w t d at p q k s e hq ha hp hr u e₁ e₂ e₃ =
    let n : ℕ = k.to - k.from in
    let a : List ℕ = replicate k.lead w.zero in
    let b : List ℕ = part t k.from n in
    let z : List ℕ = replicate k.tail w.zero in
    let size : n ≡ (stop_of w q - (w.left - q)) * w.channels = omega (arith, u.part) in
    let la : length a ≡ k.lead = length-replicate _ _ in
    let lb : length b ≡ n = part_length t k.from n (omega (arith, u.part, u.within)) in
    let lab : length (a ++ b) ≡ k.lead + n = length-append a b ∙ cc (la, lb) in
    let strip = strip-in w t p q (w.left - q) (stop_of w q) (side-in w.top w.rows p hp hr) hq s.left refl refl in
    rw (e₃, e₂, e₁, pasted_more d at k.lead a b la ha, add_assoc, pasted_more d at (k.lead + n) (a ++ b) z lab ha)
    (cc (strip, size, u.lead, u.start, u.tail))

-- ---- a window

-- there is room for one more row of a window
pub row_room : (h n k a : ℕ) → a < h → a * (n * k) + n * k ≤ h * n * k
row_room h n k a g = omega (arith, mul-le-mul_right {m = a + 1} {n = h} (n * k) (omega arith))

module _ (w : Window) (t : List ℕ) (p q : ℕ) where
  -- a window has a byte for each term of its sum
  pub window-length : length t ≡ size_of w → length (window_of w t p q) ≡ window_bytes w
  unfolding window_of
  window-length e =
      joined_length w.height (w.width * w.channels) _ (λ a. strip-length w t (p + a) q e) ∙ omega arith

  -- the window of a tensor of bytes is of bytes
  pub window-bytes : Bytes t → w.zero ≤ 255 → Bytes (window_of w t p q)
  unfolding window_of strip_of
  window-bytes h z =
      bytes_joined w.height _ (λ a g. bytes_joined w.width _ (λ b g'. cell-bytes w t (p + a) (q + b) h z))

  -- a window of one cell, with no padding, is that cell of the tensor
  pub window-plain :
      w.height ≡ 1 →
      w.width ≡ 1 →
      w.top ≡ 0 →
      w.left ≡ 0 →
      p < w.rows →
      q < w.columns →
      window_of w t p q ≡ part t ((p * w.columns + q) * w.channels) w.channels
  unfolding window_of strip_of
  window-plain eh ew et el hp hq =
      let ep : p + 0 - w.top ≡ p = omega arith in
      let eq : q + 0 - w.left ≡ q = omega arith in
      let row = side-in w.top w.rows (p + 0) (omega arith) (omega arith) in
      let column = side-in w.left w.columns (q + 0) (omega arith) (omega arith) in
      joined_only w.height _ eh ∙ joined_only w.width _ ew ∙ cell_in w (p + 0) (q + 0) t row column ∙ cc

-- a window depends on its real rows alone
pub window_local :
    (w : Window) (t t' : List ℕ) (p q : ℕ) →
    ((r : ℕ) → p ≤ r + w.top → r + w.top < p + w.height → r < w.rows → SameRow w t t' r) →
    window_of w t p q ≡ window_of w t' p q
unfolding window_of strip_of
window_local w t t' p q h =
    joined_same w.height (λ a g.
    joined_same w.width (λ b g'.
    cell_local w t t' (p + a) (q + b) (λ r e k. h r (omega arith) (omega arith) k)))

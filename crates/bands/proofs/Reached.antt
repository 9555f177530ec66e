-- The rows of a windowed layer that a band of its input reaches: the band of the document's rule holds them and is the smallest that does,
-- two divisions give it, and what it is for a full layer and for an add.
-- Assumes nothing.
use Prim.Native.Nat.{ℕ, suc, ◌≤◌, ◌<◌, ◌+◌, ◌-◌, ◌*◌, ◌/◌, min, max}
use mathlib.Core.Path.{◌≡◌, refl}
use mathlib.Core.Logic.{inr}
use mathlib.Core.Bool.{true, cond}
use native.Mathlib.Nat.{div-lt_iff_lt-mul, le-div_iff_mul-le}
use native.Mathlib.Omega.{arith}
use lib.Dec.{ltb}
use Rattle.std.proofs.lemmas.Bool.Decides.{nat_tests}
use Rattle.bands.specs.declared.band.Band.{Band}
use Rattle.bands.specs.declared.reach.Link.{Link}
use Rattle.bands.specs.Band.{band, none, In}
use Rattle.bands.specs.Within.{Inside, Empty, Sees, Hit}
use Rattle.bands.specs.Reach.{in_band_at, is_reached, reached_band}
use Rattle.lists.proofs.Choice.{some_at, at_some}
use Rattle.bands.proofs.Bands.{Canon, canon_once, span-in, span-least, span-canon, span_below}

-- ---- the rule

module _ (b : Band) (y : Link) where
  -- the test says that the window holds a row of the band
  pub test-hit : (i : ℕ) → is_reached b y i ≡ true → Hit b y i
  unfolding is_reached
  test-hit i h =
      let w = some_at (λ a. in_band_at b y.before (i * y.stride + a)) y.kernel h in
      (i * y.stride + w.0 - y.before, grind (arith, nat_tests), grind (arith, nat_tests))

  pub hit-test : (i : ℕ) → Hit b y i → is_reached b y i ≡ true
  unfolding is_reached
  hit-test i (r, w, x) = at_some (λ a. in_band_at b y.before (i * y.stride + a)) y.kernel (r + y.before - i * y.stride) (omega arith) (grind (arith, nat_tests))

  -- every row that the band reaches is in the reached band
  pub reached-in : (i : ℕ) → i < y.rows → Hit b y i → In i (reached_band b y)
  unfolding reached_band
  reached-in i hi h = span-in (is_reached b y) y.rows i hi (hit-test i h)

  -- and no band that covers them is smaller
  pub reached-least : (c : Band) → ((i : ℕ) → i < y.rows → Hit b y i → In i c) → Inside (reached_band b y) c
  unfolding reached_band
  reached-least c h = span-least (is_reached b y) y.rows c (λ i hi e. h i hi (test-hit i e))

  pub reached-canon : Canon (reached_band b y)
  unfolding reached_band
  reached-canon = span-canon (is_reached b y) y.rows

  pub reached-within : (reached_band b y).end ≤ y.rows
  unfolding reached_band
  reached-within = span_below (is_reached b y) y.rows

  -- an empty band reaches nothing
  pub reached-empty : Empty b → reached_band b y ≡ none
  reached-empty e = canon_once (reached_band b y) none reached-canon (inr refl) (reached-least none (λ i hi h. omega arith)) (λ i w. omega arith)

-- ---- the formula of the code

abbrev pub or_none : ℕ → ℕ → Band
or_none f e = cond (ltb f e) (band f e) none

-- where the formula's band begins and ends, by two floor divisions
abbrev pub from_row : Band → Link → ℕ
from_row b y = (b.first + y.before + y.stride - y.kernel) / y.stride

abbrev pub to_row : Band → Link → ℕ
to_row b y = min y.rows ((b.end + y.before - 1) / y.stride + 1)

-- none where the band is empty, or reaches no row
unfoldable pub divided : Band → Link → Band
divided b y = cond (ltb b.first b.end) (or_none (from_row b y) (to_row b y)) none

module _ (b : Band) (y : Link) (hk : 0 < y.kernel) (hs : 0 < y.stride) where
  divided-canon : Canon (divided b y)
  unfolding divided
  divided-canon = grind (arith, nat_tests)

  divided-in : (i : ℕ) → i < y.rows → Hit b y i → In i (divided b y)
  unfolding divided
  divided-in i hi h =
      let lo : from_row b y < suc i = (div-lt_iff_lt-mul hs).1 (omega arith) in
      let up : i ≤ (b.end + y.before - 1) / y.stride = (le-div_iff_mul-le hs).1 (omega arith) in
      grind (arith, nat_tests)

  -- what the formula's band holds
  shown : (i : ℕ) → In i (divided b y) → (b.first < b.end) × (from_row b y ≤ i) × (i < to_row b y)
  unfolding divided
  shown i w = grind (arith, nat_tests)

  in-divided : (i : ℕ) → In i (divided b y) → (i < y.rows) × Hit b y i
  in-divided i w =
      let v = shown i w in
      let lo : b.first + y.before + y.stride - y.kernel < suc i * y.stride = (div-lt_iff_lt-mul hs).0 (omega arith) in
      let up : i * y.stride ≤ b.end + y.before - 1 = (le-div_iff_mul-le hs).0 (omega arith) in
      (omega arith, (max b.first (i * y.stride - y.before), omega arith, omega arith))

  -- the formula gives the band of the rule
  pub reached-divided : reached_band b y ≡ divided b y
  reached-divided =
      canon_once (reached_band b y) (divided b y) (reached-canon b y) divided-canon (reached-least b y (divided b y) divided-in)
      (λ i w.
      let x = in-divided i w in
      reached-in b y i x.0 x.1)

  -- so the reached band holds only rows that are reached
  pub in-reached : (i : ℕ) → In i (reached_band b y) → (i < y.rows) × Hit b y i
  in-reached i w = in-divided i (rw reached-divided at w)

-- what the code's answers rest on
pub ruleset reaches = (reached-divided, nat_tests)

-- ---- every window holds a real row

-- of an input of that many rows, where the padding above it is below the kernel's rows and no window starts past its last row
pub window_real : (y : Link) (rows i : ℕ) → y.before < y.kernel → 0 < rows → i * y.stride < rows + y.before → (r : ℕ) × Sees y i r × (r < rows)
window_real y rows i hp hr hi = (i * y.stride - y.before, omega arith, omega arith)

-- as none does: the number of a layer's rows is the floor division of the padded side less the kernel, plus one
pub row_starts : (before after kernel stride rows i : ℕ) → 0 < stride → after < kernel → kernel ≤ rows + before + after
    → i < (rows + before + after - kernel) / stride + 1 → i * stride < rows + before
row_starts before after kernel stride rows i hs ha hk hi =
    let h : i * stride ≤ rows + before + after - kernel = (le-div_iff_mul-le hs).0 (omega arith) in
    omega arith

-- so a band that covers a whole input reaches every row
pub whole_reaches : (b : Band) (y : Link) (rows : ℕ) → y.before < y.kernel → 0 < rows → Inside (band 0 rows) b
    → ((i : ℕ) → i < y.rows → i * y.stride < rows + y.before) → Inside (band 0 y.rows) (reached_band b y)
whole_reaches b y rows hp hr h s i w =
    let x = window_real y rows i hp hr (s i w.1) in
    reached-in b y i w.1 (x.0, h x.0 (omega arith), x.1)

-- ---- a full layer and an add

abbrev pub full_link : ℕ → ℕ → Link
full_link other rows = record { other = other; before = 0; kernel = rows; stride = 1; rows = 1 }

abbrev pub add_link : ℕ → ℕ → Link
add_link other rows = record { other = other; before = 0; kernel = 1; stride = 1; rows = rows }

-- a full layer's row is reached if the band, which lies within the input's rows, is not empty
pub full_reach : (b : Band) (other rows : ℕ) → b.end ≤ rows → reached_band b (full_link other rows) ≡ cond (ltb b.first b.end) (band 0 1) none
full_reach b other rows h =
    canon_once _ _ (reached-canon b (full_link other rows)) (grind (arith, nat_tests))
    (reached-least b (full_link other rows) _ (λ i hi w. grind (arith, nat_tests)))
    (λ i w. reached-in b (full_link other rows) i (grind (arith, nat_tests)) (b.first, grind (arith, nat_tests), grind (arith, nat_tests)))

-- an add's row i is reached if row i is in the band
pub add_reach : (b : Band) (other rows : ℕ) → Canon b → b.end ≤ rows → reached_band b (add_link other rows) ≡ b
add_reach b other rows c h =
    canon_once _ b (reached-canon b (add_link other rows)) c
    (reached-least b (add_link other rows) b (λ i hi w. omega arith))
    (λ i w. reached-in b (add_link other rows) i (omega arith) (i, w, omega arith))

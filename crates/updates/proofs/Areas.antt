-- What an update leaves as it was: the area's length, the picture, and what stands past the tensors.
-- Assumes nothing.
use Prim.Native.Nat.{ℕ, zero, suc, ◌+◌, ◌-◌, ◌*◌, ◌≤◌, ◌<◌}
use mathlib.Core.Path.{◌≡◌, refl, sym, ◌∙◌, ap}
use mathlib.Core.Logic.{inl, inr}
use mathlib.Core.List.{List, ◌++◌}
use native.Mathlib.Nat.{zero-add}
use native.Mathlib.Omega.{arith}
use lib.ListN.{length, take, drop}
use Rattle.fields.specs.Shape.{bytes_of, row_bytes}
use Rattle.network.specs.Network.{layer_of, tensor_of, place_of, zero_of}
use Rattle.network.specs.Taken.{Taken}
use Rattle.network.specs.declared.net.Network.{Network}
use Rattle.network.proofs.Places.{tensors-apart, tensors-in}
use Rattle.lists.specs.Lists.{pasted, joined, part}
use Rattle.lists.specs.Asked.{Apart}
use Rattle.lists.proofs.Pasted.{apart_within, part_apart, part-part, pasted_length, joined_length}
use Rattle.layers.specs.Row.{row_of, tensor_at}
use Rattle.layers.proofs.Filled.{pasted_front}
use Rattle.layers.proofs.Lengths.{row_length}
use Rattle.layers.proofs.Rows.{rows_in}
use Rattle.bands.specs.declared.band.Band.{Band}
use Rattle.bands.specs.declared.state.State.{State}
use Rattle.checks.specs.Tensors.{link_of}
use Rattle.updates.specs.Recompute.{tensor_in, row_from, redone, grown_band_of, updated_to}
use Rattle.updates.specs.Asked.{BandsWithin}
use Rattle.updates.proofs.Fairs.{Fits, grown-fair}
use Rattle.updates.proofs.Ready.{other_shape_lem, layer-shaped, input-before, other-before}

module _ (file : List ℕ) (n : Network) (sums : List ℕ) (t : Taken file n) where
  -- the rows of a band of layer m
  pub rows-length :
      (m first k : ℕ) (area : List ℕ) →
      m < n.count →
      length (joined k (λ i. row_from n file sums m area (first + i))) ≡ k * row_bytes (tensor_of n (suc m))
  rows-length m first k area h = joined_length k _ _ (λ i. row_length (layer_of n m) _ _ file sums _ _ _ (layer-shaped file n t m h))

  module _ (m : ℕ) (b : Band) (area : List ℕ) (h : m < n.count) (f : Fits (tensor_of n (suc m)).rows b) (room : n.area ≤ length area) where
    -- where layer m's rows are written, and how many bytes
    abbrev at : ℕ
    at = place_of n (suc m) + b.first * row_bytes (tensor_of n (suc m))

    abbrev rows : List ℕ
    rows = joined (b.end - b.first) (λ k. row_from n file sums m area (b.first + k))

    rows_end : at + length rows ≤ place_of n (suc m) + bytes_of (tensor_of n (suc m))
    rows_end = omega (arith, rows-length m b.first (b.end - b.first) area h, rows_in (tensor_of n (suc m)) b.first (b.end - b.first) (omega arith))

    rows-room : at + length rows ≤ length area
    rows-room = omega (arith, rows_end, tensors-in file n t (suc m) h)

    pub redone-length : length (redone n file sums m b area) ≡ length area
    unfolding redone
    redone-length = pasted_length area at rows rows-room

    -- what lies apart from the layer's tensor is as it was
    pub redone-apart :
        (from k : ℕ) →
        Apart from k (place_of n (suc m)) (bytes_of (tensor_of n (suc m))) →
        part (redone n file sums m b area) from k ≡ part area from k
    unfolding redone
    redone-apart from k g =
        part_apart area rows at from k
        (apart_within k (bytes_of (tensor_of n (suc m))) k (length rows) g (omega arith) (omega (arith, rows_end)) (omega arith) (omega arith))
        (omega (arith, rows-room))

    -- the same written into the bytes of the area that the tensors take
    pub front-redone :
        pasted (take n.area area) at
        (joined (b.end - b.first)
        (λ k.
        row_of (layer_of n m) (zero_of n m) (zero_of n (link_of n m).other) file sums
        (tensor_at (take n.area area) (place_of n m) (layer_of n m).input)
        (tensor_at (take n.area area) (place_of n (link_of n m).other) (layer_of n m).input)
        (b.first + k))) ++
        drop n.area area ≡
        redone n file sums m b area
    unfolding redone
    front-redone =
        let y = t.layers m h in
        let tensor : (u : ℕ) → place_of n u + bytes_of (layer_of n m).input ≤ n.area → (layer_of n m).input ≡ tensor_of n u →
        tensor_at (take n.area area) (place_of n u) (layer_of n m).input ≡ tensor_in n area u =
        λ u g e.
        part-part area 0 n.area (place_of n u) (bytes_of (layer_of n m).input) g ∙
        ap (λ (p : ℕ). tensor_at area p (layer_of n m).input) (zero-add (place_of n u)) ∙
        ap (tensor_at area (place_of n u)) e in
        let o = other_shape_lem file n m (layer_of n m) y.kind in
        let first = tensor m (omega (arith, input-before file n t m h, y.place_end)) y.input in
        let second = tensor (link_of n m).other (omega (arith, other-before file n t m h, y.place_end)) (sym o.1) in
        rw (first, second)
        (pasted_front area n.area at rows (omega (arith, rows_end, tensors-in file n t (suc m) h)))

  module _ (s : State) (area : List ℕ) (f : BandsWithin n s) (room : n.area ≤ length area) where
    grown-fits : (m : ℕ) → m < n.count → Fits (tensor_of n (suc m)).rows (grown_band_of n s (suc m))
    grown-fits m h = grown-fair file n t s (suc m) h f (suc m) h

    -- the area after the first m layers
    pub updated-length : (m : ℕ) → m ≤ n.count → length (updated_to n file sums s m area) ≡ length area
    unfolding updated_to
    updated-length zero h = refl
    updated-length (suc m) h =
        let before = updated-length m (omega arith) in
        redone-length m (grown_band_of n s (suc m)) (updated_to n file sums s m area) h (grown-fits m h) (omega (arith, before)) ∙ before

    -- the picture, and what stands past the tensors, is as it was
    pub updated-before :
        (m from k : ℕ) →
        m ≤ n.count →
        from + k ≤ place_of n 1 →
        part (updated_to n file sums s m area) from k ≡ part area from k
    unfolding updated_to
    updated-before zero from k h g = refl
    updated-before (suc m) from k h g =
        redone-apart m (grown_band_of n s (suc m)) (updated_to n file sums s m area) h (grown-fits m h)
        (omega (arith, updated-length m (omega arith))) from k (inl (omega (arith, first-least m h))) ∙
        updated-before m from k (omega arith) g
      where
        first-least : (m : ℕ) → m < n.count → place_of n 1 ≤ place_of n (suc m)
        first-least zero h = omega arith
        first-least (suc m) h = omega (arith, tensors-apart file n t 1 (suc (suc m)) (omega arith) h)

    pub updated-beyond :
        (m from k : ℕ) →
        m ≤ n.count →
        n.area ≤ from →
        part (updated_to n file sums s m area) from k ≡ part area from k
    unfolding updated_to
    updated-beyond zero from k h g = refl
    updated-beyond (suc m) from k h g =
        redone-apart m (grown_band_of n s (suc m)) (updated_to n file sums s m area) h (grown-fits m h)
        (omega (arith, updated-length m (omega arith))) from k (inr (omega (arith, tensors-in file n t (suc m) h))) ∙
        updated-beyond m from k (omega arith) g

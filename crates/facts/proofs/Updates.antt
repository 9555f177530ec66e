-- What the model recomputes over the bytes of an area and the grown bands is what an update does.
-- Assumes nothing.
use Prim.Native.Nat.{ℕ, zero, suc, ◌+◌, ◌-◌, ◌*◌, ◌≤◌, ◌<◌}
use mathlib.Core.Path.{◌≡◌, refl, sym, ◌∙◌, ap, ap₂}
use mathlib.Core.List.{List}
use native.Mathlib.Nat.{mul-le-mul_right}
use native.Mathlib.Omega.{arith}
use lib.ListN.{length}
use Rattle.fields.specs.Shape.{bytes_of, row_bytes}
use Rattle.fields.specs.declared.shape.Shape.{Shape}
use Rattle.records.specs.declared.layer.Layer.{Layer}
use Rattle.network.specs.Network.{layer_of, tensor_of, place_of, zero_of}
use Rattle.network.specs.Taken.{Taken}
use Rattle.network.specs.declared.net.Network.{Network}
use Rattle.network.proofs.Places.{tensors-in}
use Rattle.lists.specs.Lists.{pasted, joined}
use Rattle.lists.proofs.Pasted.{pasted_nil, pasted_length, pasted_more}
use Rattle.layers.specs.Row.{row_of}
use Rattle.bands.specs.declared.band.Band.{Band}
use Rattle.bands.specs.declared.reach.Link.{Link}
use Rattle.bands.specs.declared.state.State.{State}
use Rattle.bands.specs.State.{band_of}
use Rattle.bands.specs.Grow.{grow_one, grown}
use Rattle.histories.specs.Model.{Bands}
use Rattle.histories.specs.Kept.{grown_of}
use Rattle.histories.specs.Area.{view, redo_row, redo_rows, redo_area}
use Rattle.histories.proofs.Area.{sets_pasted, row-then, length-redo}
use Rattle.histories.proofs.Grown.{grown-is}
use Rattle.histories.specs.Chain.{rows_in}
use Rattle.checks.specs.Tensors.{link_of}
use Rattle.facts.proofs.Chains.{chain_of, chain_rows}
use Rattle.updates.specs.Recompute.{tensor_in, row_from, redone, grown_band_of, updated_to}
use Rattle.updates.specs.Asked.{BandsWithin}
use Rattle.updates.proofs.Areas.{rows-length}
use Rattle.updates.proofs.Fairs.{Fits, grown-fair}
use Rattle.updates.proofs.Ready.{other_shape_lem}
use Rattle.facts.proofs.Model.{Alike, Present, net_of, tensor_from, par_of, row_with, model, layout}
use Rattle.facts.proofs.Tensors.{rows-bytes, tensor-there}
use Rattle.facts.proofs.Laws.{there, input-is, model-laws, model-laid, model-room}

-- a tensor ends within the area
tensor_in_lem : {n : Network} → Present n → (t : ℕ) → t ≤ n.count → place_of n t + bytes_of (tensor_of n t) ≤ n.area
tensor_in_lem p t h =
    omega (
      arith,
      tensors-in p.file (net_of p) p.taken t (omega (arith, p.alike.count)),
      p.alike.places t,
      ap bytes_of (p.alike.tensors t),
      p.alike.area,
    )

module _ (n : Network) (p : Present n) (area : List ℕ) where
  -- the rows of a tensor, as the model views them, make the tensor in the area
  seen :
      (m t : ℕ) →
      t ≤ n.count →
      tensor_of n t ≡ tensor_of n m →
      n.area ≤ length area →
      tensor_from (tensor_of n m) (view (layout n) area t) ≡ tensor_in (net_of p) area t
  seen m t h e room =
      rw (p.alike.places t, p.alike.tensors t, ← e)
      (tensor-there (tensor_of n t) area (place_of n t) (omega (arith, tensor_in_lem p t h)))

  -- the model's row of what stands in the area is the layer's
  pub row_is :
      (m i : ℕ) →
      n.area ≤ length area →
      m < n.count →
      row_with n p m (view (layout n) area) i ≡ row_from (net_of p) p.file p.sums m area i
  row_is m i room h =
      let net = net_of p in
      let y = p.taken.layers m (there p m h) in
      let j = (link_of n m).other in
      let el = p.alike.links m h in
      let o = other_shape_lem p.file net m (layer_of net m) y.kind in
      let before : j ≤ m = rw el at o.0 in
      let same : tensor_of n j ≡ tensor_of n m = sym (p.alike.tensors j) ∙ rw el at o.1 ∙ input-is p m h in
      ap₂ (λ (t u : List ℕ). row_of (layer_of net m) (zero_of net m) (zero_of net j) p.file p.sums t u i)
      (seen m m (omega arith) refl room) (seen m j (omega arith) same room) ∙
      ap
      (λ (l : Link).
      row_of (layer_of net m) (zero_of net m) (zero_of net l.other) p.file p.sums (tensor_in net area m) (tensor_in net area l.other) i)
      (sym el)

module _ (file : List ℕ) (n : Network) (taken : Taken file n) (p : Present n) where
  module _ (m : ℕ) (area : List ℕ) (h : m < n.count) (room : n.area ≤ length area) where
    abbrev width : ℕ
    width = row_bytes (tensor_of n (suc m))

    abbrev row : ℕ → List ℕ
    row i = row_from (net_of p) p.file p.sums m area i

    -- k rows from row f on stand within the area
    rows-room : (f k : ℕ) → f + k ≤ (tensor_of n (suc m)).rows → place_of n (suc m) + f * width + k * width ≤ length area
    rows-room f k g = omega (arith, mul-le-mul_right {m = f + k} width g, rows-bytes (tensor_of n (suc m)), tensor_in_lem p (suc m) h)

    rows_long : (f k : ℕ) → length (joined k (λ i. row (f + i))) ≡ k * width
    rows_long f k =
        rows-length p.file (net_of p) p.sums p.taken m f k area (there p m h) ∙
        ap (λ (x : Shape). k * row_bytes x) (p.alike.tensors (suc m))

    -- rows recomputed one after another are those rows pasted in
    rows_are :
        (f k : ℕ) →
        f + k ≤ (tensor_of n (suc m)).rows →
        redo_rows (model n) (layout n) p m f k area ≡ pasted area (place_of n (suc m) + f * width) (joined k (λ i. row (f + i)))
    unfolding redo_rows redo_row joined
    rows_are f zero g = sym (pasted_nil area _)
    rows_are f (suc k) g =
        let base = place_of n (suc m) + f * width in
        let d = redo_rows (model n) (layout n) p m f k area in
        let rows = joined k (λ i. row (f + i)) in
        let law = model-laws file n taken in
        let laid = model-laid file n taken in
        let inside : f + k < rows_in (chain_of n) (suc m) = omega (arith, chain_rows n (suc m)) in
        let before : d ≡ pasted area base rows = rows_are f k (omega arith) in
        let same : length d ≡ length area =
        ap length before ∙ pasted_length area base rows (omega (arith, rows_long f k, rows-room f k (omega arith))) in
        let then = row-then (model n) (layout n) law laid p m f h area (model-room file n taken (length area) room) k (f + k) (omega arith) inside in
        let place : place_of n (suc m) + (f + k) * width ≡ base + k * width = omega arith in
        let fits : base + k * width + width ≤ length d = omega (arith, same, rows-room f (suc k) g) in
        rw place
        (sets_pasted d (base + k * width) (row_with n p m (view (layout n) d) (f + k)) (omega (arith, fits, laid.wide p m (f + k) (view (layout n) d) h inside)) ∙
        rw (then, row_is n p area m (f + k) room h, before)
        (pasted_more area base (k * width) rows (row (f + k)) (rows_long f k) (omega (arith, same, fits))))

    -- the model's rows of a band are the layer's, pasted in
    pub redone-is :
        (b : Band) →
        Fits (tensor_of n (suc m)).rows b →
        redo_rows (model n) (layout n) p m b.first (b.end - b.first) area ≡ redone (net_of p) p.file p.sums m b area
    unfolding redone
    redone-is b f =
        rows_are b.first (b.end - b.first) (omega arith) ∙
        ap₂ (λ (at : ℕ) (x : Shape). pasted area (at + b.first * row_bytes x) (joined (b.end - b.first) (λ i. row (b.first + i))))
        (sym (p.alike.places (suc m))) (sym (p.alike.tensors (suc m)))

-- ---- an update

-- bands grow alike over networks alike
pub grown_alike : (n n' : Network) → Alike n n' → (s : State) (m : ℕ) → m ≤ n.count → grown s (link_of n) m ≡ grown s (link_of n') m
unfolding grown
grown_alike n n' a s zero h = refl
grown_alike n n' a s (suc m) h =
    ap₂ (λ (x : State) (y : Link). grow_one x y m) (grown_alike n n' a s m (omega arith)) (sym (a.links m h))

-- the bands that the model grows are an update's
pub model_grown :
    (n : Network) (s : State) (t : ℕ) → n.count < length s.bands → t ≤ n.count → grown_of (model n) (band_of s) t ≡ grown_band_of n s t
model_grown n s t few h =
    sym
    (grown-is (List ℕ) (Present n) (Layer × List ℕ × List ℕ) ℕ (chain_of n) (par_of n) (λ q. zero_of (net_of q)) (row_with n) s few t t h (omega arith))

-- what the model recomputes over the grown bands is an update's
pub update_over :
    (file : List ℕ) (n : Network) → Taken file n → (p : Present n) (s : State) (area : List ℕ) → BandsWithin n s → n.area ≤ length area →
    (C : Bands) →
    ((t : ℕ) → t ≤ n.count → C t ≡ grown_band_of n s t) →
    (m : ℕ) →
    m ≤ n.count →
    redo_area (model n) (layout n) p C m area ≡ updated_to (net_of p) p.file p.sums s m area
unfolding redo_area updated_to
update_over file n taken p s area fair room C e zero h = refl
update_over file n taken p s area fair room C e (suc m) h =
    let like : grown_band_of n s (suc m) ≡ grown_band_of (net_of p) s (suc m) =
    ap (λ (x : State). band_of x (suc m)) (grown_alike n (net_of p) p.alike s (suc m) h) in
    redone-is file n taken p m (redo_area (model n) (layout n) p C m area) h (omega (arith, length-redo (model n) (layout n) p C m area)) (C (suc m))
    (rw (e (suc m) h) (grown-fair file n taken s (suc m) h fair (suc m) h)) ∙
    ap₂ (redone (net_of p) p.file p.sums m) (e (suc m) h ∙ like) (update_over file n taken p s area fair room C e m (omega arith))

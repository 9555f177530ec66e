-- One layer's step and the loop over the layers, over the values that the code has.
-- Assumes nothing.
use Prim.Native.Nat.{ℕ, suc, ◌+◌, ◌-◌, ◌*◌, ◌≤◌, ◌<◌}
use mathlib.Core.Path.{◌≡◌, refl, sym, ◌∙◌, ap}
use mathlib.Core.List.{List, ◌++◌}
use native.Mathlib.Nat.{mul-le-mul_right}
use native.Mathlib.Numerals.{add-one}
use native.Mathlib.Omega.{arith}
use lib.ListN.{length, take, drop, length-take}
use Rattle.fields.specs.Shape.{bytes_of, row_bytes}
use Rattle.records.specs.declared.layer.Layer.{Layer}
use Rattle.network.specs.Network.{layer_of, tensor_of, place_of, zero_of}
use Rattle.network.specs.declared.net.Network.{Network}
use Rattle.lists.specs.Lists.{pasted, joined}
use Rattle.layers.specs.Row.{row_of, tensor_at}
use Rattle.layers.specs.Asked.{Ready}
use Rattle.bands.specs.State.{band_of}
use Rattle.bands.specs.Grow.{grow_one, grown}
use Rattle.bands.specs.declared.band.Band.{Band}
use Rattle.bands.specs.declared.reach.Link.{Link}
use Rattle.bands.specs.declared.state.State.{State}
use Rattle.checks.specs.Tensors.{link_of}
use Rattle.checks.proofs.Links.{link-ok}
use Rattle.checks.proofs.Rows.{input-good}
use Rattle.updates.specs.Recompute.{redone, updated_to, bytes_in, count_to}
use Rattle.updates.specs.Asked.{BandsWithin, CanRecompute}
use Rattle.updates.proofs.Areas.{front-redone}
use Rattle.updates.proofs.Counts.{bytes_in_lem, count-in}
use Rattle.updates.proofs.Fairs.{Fits, step-fair, grown-fair}
use Rattle.updates.proofs.Ready.{layer-ready}

module _ {file : List ℕ} {n : Network} {sums : List ℕ} (area : List ℕ) (m : ℕ) (can : CanRecompute file n sums (length area)) (h : m < n.count) where
  -- what the link's code needs
  pub link-needs : (m < 16) × ((layer_of n m).input.rows ≤ 16384) × ((layer_of n m).output.rows ≤ 16384)
  link-needs =
      let t = can.taken in
      (omega (arith, t.count-few), (input-good file n t m h).rows_few, (t.shapes (suc m) h).rows_few)

  -- what the growth's code needs
  pub grow-needs :
      (s : State) {link : Link} →
      BandsWithin n s →
      link ≡ link_of n m →
      ((m < 16) × (link.other ≤ m) × ((band_of s m).end ≤ 16384) × ((band_of s link.other).end ≤ 16384)) ×
      ((link.before ≤ 256) × (0 < link.kernel) × (0 < link.stride) × (link.stride ≤ 4))
  grow-needs s f e =
      let t = can.taken in
      let y = link-ok file n t m h in
      let small : (u : ℕ) → u ≤ n.count → (band_of s u).end ≤ 16384 = λ u g. omega (arith, (f u g).1, (t.shapes u g).rows_few) in
      rw e (
        (omega (arith, t.count-few), y.other-before, small m (omega arith), small (link_of n m).other (omega (arith, y.other-before))),
        (y.before-few, y.kernel-some, y.stride-some, y.stride_few),
      )

  -- the bytes of the area that the tensors take, as the code cuts them
  pub front-size : length (take n.area area) ≡ n.area
  front-size = rw length-take (omega (arith, can.area_in))

  -- rows of the layer's tensor have few bytes
  pub few-rows : {y : Layer} (k : ℕ) → y ≡ layer_of n m → k ≤ y.output.rows → k * row_bytes y.output ≤ 16384
  unfolding bytes_of
  few-rows k ey e =
      let g = can.taken.shapes (suc m) h in
      let x = (layer_of n m).output in
      let within : k ≤ x.rows = rw ey at e in
      rw ey (omega (arith, g.bytes_few, mul-le-mul_right {m = k} {n = x.rows} (row_bytes x) within))

  pub few-row : {y : Layer} → y ≡ layer_of n m → row_bytes y.output ≤ 16384
  few-row ey = omega (arith, few-rows 1 ey (rw ey (can.taken.shapes (suc m) h).rows-some))

  -- the rows' code has its layer
  pub ready-now :
      {y : Layer} {link : Link} {from other : ℕ} →
      y ≡ layer_of n m →
      link ≡ link_of n m →
      from ≡ place_of n m →
      other ≡ place_of n link.other →
      Ready y file sums (length (take n.area area)) from other
  ready-now ey el ef eo = rw (ey, front-size, ef, eo, el) (layer-ready file n sums (length area) m can h)

  module _
      (s : State)
      {state : State}
      {link : Link}
      {b : Band}
      (f : BandsWithin n s)
      (el : link ≡ link_of n m)
      (es : state ≡ grow_one s link m)
      (eb : b ≡ band_of state (m + 1)) where
    -- the state and the band as the definitions have them
    pub state-now : state ≡ grow_one s (link_of n m) m
    state-now = es ∙ ap (λ (x : Link). grow_one s x m) el

    band-now : b ≡ band_of state (suc m)
    band-now = eb ∙ ap (band_of state) (add-one m)

    pub band-fits : {y : Layer} → y ≡ layer_of n m → Fits y.output.rows b
    band-fits ey = rw (ey, band-now, state-now) (step-fair file n can.taken s m h f (suc m) h)

    -- the bytes of the band
    pub count-now :
        {y : Layer} →
        y ≡ layer_of n m →
        (b.end - b.first) * row_bytes y.output ≡ bytes_in (band_of state (suc m)) (tensor_of n (suc m)).rows (row_bytes (tensor_of n (suc m)))
    count-now ey =
        let inside = (band-fits refl).1 in
        ap (λ (x : Layer). (b.end - b.first) * row_bytes x.output) ey ∙
        sym (bytes_in_lem b (tensor_of n (suc m)).rows (row_bytes (tensor_of n (suc m))) inside) ∙
        ap (λ (x : Band). bytes_in x (tensor_of n (suc m)).rows (row_bytes (tensor_of n (suc m)))) band-now

    -- and its rows
    pub area-now :
        {y : Layer} {z z' from other : ℕ} {front : List ℕ} →
        y ≡ layer_of n m →
        z ≡ zero_of n m →
        z' ≡ zero_of n link.other →
        from ≡ place_of n m →
        other ≡ place_of n link.other →
        front ≡
        pasted (take n.area area) (y.place + b.first * row_bytes y.output)
        (joined (b.end - b.first)
        (λ k.
        row_of y z z' file sums (tensor_at (take n.area area) from y.input) (tensor_at (take n.area area) other y.input) (b.first + k))) →
        front ++ drop n.area area ≡ redone n file sums m (band_of state (suc m)) area
    area-now ey ez ez' ef eo e =
        rw (e, ey, ez, ez', ef, eo, el)
        (front-redone file n sums can.taken m b area h (band-fits refl) can.area_in ∙
        ap (λ (x : Band). redone n file sums m x area) band-now)

    -- the same of the rows from first up to end, where these are the band's
    pub rows-now :
        {y : Layer} {z z' from other first end : ℕ} {front : List ℕ} →
        y ≡ layer_of n m →
        z ≡ zero_of n m →
        z' ≡ zero_of n link.other →
        from ≡ place_of n m →
        other ≡ place_of n link.other →
        front ≡
        pasted (take n.area area) (y.place + first * row_bytes y.output)
        (joined (end - first)
        (λ k.
        row_of y z z' file sums (tensor_at (take n.area area) from y.input) (tensor_at (take n.area area) other y.input) (first + k))) →
        first ≡ b.first →
        end ≡ b.end →
        front ++ drop n.area area ≡ redone n file sums m (band_of state (suc m)) area
    rows-now ey ez ez' ef eo e first-is end-is = area-now ey ez ez' ef eo (rw (first-is, end-is) at e)

-- ---- the loop over the layers

-- the first m layers are recomputed
pub record Sofar (file : List ℕ) (n : Network) (sums : List ℕ) (s : State) (before area : List ℕ) (state : State) (count m : ℕ) : Type 0 where
  pub few : m ≤ n.count
  pub state-is : state ≡ grown s (link_of n) m
  pub count-is : count ≡ count_to n s m
  pub area-is : area ≡ updated_to n file sums s m before
  pub same : length area ≡ length before

module _ {file : List ℕ} {n : Network} {sums : List ℕ} (s : State) (before : List ℕ) where
  pub turns-none : Sofar file n sums s before before s 0 0
  unfolding grown count_to updated_to
  turns-none = record { few = omega arith; state-is = refl; count-is = refl; area-is = refl; same = refl }

  -- what a layer's step needs
  pub step-needs :
      {area : List ℕ} {state : State} {count m : ℕ} →
      CanRecompute file n sums (length before) →
      BandsWithin n s →
      Sofar file n sums s before area state count m →
      CanRecompute file n sums (length area) × BandsWithin n state
  step-needs {m = m} can f v =
      (rw v.same can, rw v.state-is (grown-fair file n can.taken s m v.few f))

  module _
      (m : ℕ)
      {area : List ℕ}
      {state state' : State}
      {count k : ℕ}
      (v : Sofar file n sums s before area state count m)
      (es : state' ≡ grow_one state (link_of n m) m)
      (ek : k ≡ bytes_in (band_of state' (suc m)) (tensor_of n (suc m)).rows (row_bytes (tensor_of n (suc m)))) where
    next-state : state' ≡ grown s (link_of n) (suc m)
    unfolding grown
    next-state = es ∙ ap (λ (x : State). grow_one x (link_of n m) m) v.state-is

    next-count : count + k ≡ count_to n s (suc m)
    unfolding count_to
    next-count = rw (v.count-is, ek, next-state)

    -- the count stays small
    pub turn-count : CanRecompute file n sums (length before) → m < n.count → count + k ≤ 65536
    turn-count can h = omega (arith, next-count, count-in file n can.taken s (suc m) h)

    -- a turn that recomputes the next layer
    pub turns_more :
        {area' : List ℕ} →
        m < n.count →
        area' ≡ redone n file sums m (band_of state' (suc m)) area →
        length area' ≡ length area →
        Sofar file n sums s before area' state' (count + k) (m + 1)
    unfolding updated_to
    turns_more h ea same =
        rw (add-one m)
        (record {
          few = h;
          state-is = next-state;
          count-is = next-count;
          area-is = rw (ea, next-state, v.area-is);
          same = same ∙ v.same;
        })

  pub turns-done :
      {area : List ℕ} {state : State} {count m : ℕ} →
      Sofar file n sums s before area state count m →
      n.count ≤ m →
      (count ≡ count_to n s n.count) × (area ≡ updated_to n file sums s n.count before)
  turns-done {m = m} v h =
      let all : m ≡ n.count = omega (arith, v.few) in
      (v.count-is ∙ ap (count_to n s) all, v.area-is ∙ ap (λ (j : ℕ). updated_to n file sums s j before) all)

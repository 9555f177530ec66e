-- What a history may begin from, each call keeps: by the model of the network before it, which that after it is like.
-- Assumes nothing.
use Prim.Native.Nat.{ℕ, zero, suc, ◌+◌, ◌-◌, ◌*◌, ◌≤◌, ◌<◌}
use mathlib.Core.Path.{◌≡◌, refl, sym, ◌∙◌, ap, ap₂}
use mathlib.Core.List.{List, [], ◌∷◌}
use native.Mathlib.Nat.{zero-add, mul-le-mul_right}
use native.Mathlib.Omega.{arith}
use lib.ListN.{length, length-set, length-replicate}
use lib.Seq.{sets}
use Rattle.fields.specs.Faults.{first_fault}
use Rattle.fields.specs.Shape.{row_bytes}
use Rattle.fields.specs.declared.shape.Shape.{Shape}
use Rattle.fields.proofs.Tests.{first_both}
use Rattle.network.specs.Network.{layer_of}
use Rattle.network.specs.Decode.{decode_of}
use Rattle.network.specs.Replace.{replace_fault}
use Rattle.network.specs.Taken.{Taken}
use Rattle.network.specs.declared.net.Network.{Network}
use Rattle.network.proofs.Taken.{taken}
use Rattle.lists.specs.Lists.{pasted, part}
use Rattle.lists.proofs.Pasted.{pasted_length, ones_length}
use Rattle.layers.proofs.Local.{SameRecord, SameSums}
use Rattle.bands.specs.declared.state.State.{State}
use Rattle.bands.specs.Band.{none}
use Rattle.bands.specs.State.{band_of, loaded}
use Rattle.histories.specs.Model.{Laws}
use Rattle.histories.specs.Kept.{grown_of, Kept}
use Rattle.histories.specs.Area.{row_place, SideBySide, redo_area}
use Rattle.histories.specs.Calls.{AreaSys, Tells, Fit}
use Rattle.histories.proofs.Calls.{sys, passed-within, loaded-keeps, replacing-keeps, changing-keeps, updating-keeps}
use Rattle.histories.proofs.Area.{sets_pasted, length-redo}
use Rattle.checks.specs.Tensors.{tensors_of}
use Rattle.checks.specs.Tests.{call_fault, rows_fault, layer_fault, slice_fault, stale_fault}
use Rattle.checks.proofs.Rows.{rows_at}
use Rattle.facts.proofs.Chains.{chain_rows}
use Rattle.checks.proofs.Passed.{LoadPassed, CallPassed, call_passed, rows_passed, layer_passed}
use Rattle.updates.specs.Recompute.{network_sums, grown_band_of}
use Rattle.updates.proofs.Fills.{network-sums-length}
use Rattle.clew.specs.Calls.{load_by, change_of, change_by, replace_of, replace_by, update_of, update_by, read_of, read_by}
use Rattle.facts.specs.History.{System, network_of, after_load, with_area, with_file, with_state, Call, after, RowsKept, Keeps, Reached}
use Rattle.facts.specs.History.Call.{change, replace, update, read}
use Rattle.facts.specs.History.Reached.{begin, then, written}
use Rattle.facts.proofs.Model.{Alike, Present, net_of, par_of, model, layout}
use Rattle.facts.proofs.Laws.{model-laws, model-laid, model-room}
use Rattle.facts.proofs.Updates.{row_is, grown_alike, model_grown, update_over}
use Rattle.facts.proofs.Alike.{alike_same, rewritten_file, nine-kindred, exchanged}
use Rattle.facts.proofs.Exact.{passed-bands}
use Rattle.facts.proofs.Stored.{true-each, true-all, true-filled, others-kept, refilled-length, true-again}

-- a system as the bands' calls hold it
abbrev held_of : (n : Network) (s : System) → Taken s.file (network_of s) → Alike n (network_of s) → AreaSys (model n) (layout n)
held_of n s t a = record { net = record { file = s.file; sums = s.sums; taken = t; alike = a }; area = s.area; state = s.state }

-- the fault of tests 1 to 6
abbrev pub fault_of : System → ℕ
fault_of s = call_fault s.file s.sums (length s.area) s.state

-- what is known where there is none
abbrev Passed : System → Type 0
Passed s = CallPassed s.file s.sums (length s.area) s.state

-- tests 1 to 6 leave that
pub passed : (s : System) → fault_of s ≡ 0 → Passed s
passed s = call_passed s.file s.sums (length s.area) s.state

-- the fault of a reading
abbrev pub read_fault : System → List ℕ → ℕ
read_fault s out = first_fault (fault_of s ∷ slice_fault (network_of s) (length out) ∷ stale_fault s.state ∷ [])

-- layer i has the same parameters where it is decoded the same, from the same record, and has the same sums
par_same :
    (n : Network) (p q : Present n) (i : ℕ) →
    layer_of (net_of p) i ≡ layer_of (net_of q) i →
    SameRecord (layer_of (net_of q) i) p.file q.file →
    SameSums (layer_of (net_of q) i) p.sums q.sums →
    par_of n p i ≡ par_of n q i
par_same n p q i e a b = rw e (λ t. (layer_of (net_of q) i, a t, b t))

-- the rows that a network tells the bands
tells : (file : List ℕ) (n : Network) → Taken file n → Tells (model n) (layout n) (tensors_of n)
tells file n t = record { count = refl; rows = λ u h. rows_at n u (omega (arith, t.count-few)) ∙ sym (chain_rows n u) }

-- what the model of a network n keeps, a system with a network like n keeps
module _
    (n : Network)
    (s : System)
    (t : Taken s.file (network_of s))
    (a : Alike n (network_of s))
    (room : (network_of s).area ≤ length s.area)
    (bands : length s.state.bands ≡ 17) where
  -- the grown bands are the same
  grown-same : (m : ℕ) → m < n.count → grown_band_of (network_of s) s.state (suc m) ≡ grown_of (model n) (band_of s.state) (suc m)
  grown-same m h =
      sym
      (model_grown n s.state (suc m) (omega (arith, t.count-few, a.count)) h ∙
      ap (λ (x : State). band_of x (suc m)) (grown_alike n (network_of s) a s.state (suc m) h))

  rows-kept : Kept (model n) (sys (model n) (layout n) (held_of n s t a)) → RowsKept s
  unfolding Kept
  rows-kept k m i h g w =
      let there : m < n.count = omega (arith, a.count) in
      ap₂ (λ (at : ℕ) (x : Shape). part s.area (at + i * row_bytes x) (row_bytes x)) (a.places (suc m)) (a.tensors (suc m)) ∙
      k m i there (omega (arith, chain_rows n (suc m), ap (λ (x : Shape). x.rows) (a.tensors (suc m)))) (λ v. w (rw (grown-same m there) v)) ∙
      row_is n (held_of n s t a).net s.area m i (omega (arith, a.area)) there

-- every row is stale in the state of a load, whatever the area holds
loaded_rows :
    (s : System) →
    Taken s.file (network_of s) →
    (network_of s).area ≤ length s.area →
    length s.state.bands ≡ 17 →
    s.state ≡ loaded (tensors_of (network_of s)) →
    RowsKept s
loaded_rows s t room bands e =
    let n = network_of s in
    let a = alike_same n in
    rows-kept n s t a room bands
    (loaded-keeps (model n) (layout n) (model-laws s.file n t) (held_of n s t a) (tensors_of n) (omega (arith, t.count-few)) (tells s.file n t) e)

module _ (s : System) (k : Keeps s) where
  abbrev n : Network
  n = network_of s

  abbrev begun : Taken s.file n
  begun = taken s.file k.taken

  abbrev held : AreaSys (model n) (layout n)
  held = held_of n s begun (alike_same n)

  abbrev law : Laws (model n)
  law = model-laws s.file n begun

  abbrev laid : SideBySide (model n) (layout n)
  laid = model-laid s.file n begun

  -- the model keeps what the system does
  model-keeps : Kept (model n) (sys (model n) (layout n) held)
  unfolding Kept
  model-keeps m i h g w =
      k.rows m i h (omega (arith, chain_rows n (suc m))) (λ v. w (rw (grown-same n s begun (alike_same n) k.area_in k.bands m h) at v)) ∙
      sym (row_is n held.net s.area m i k.area_in h)

  -- what tests 1 to 6 leave, for the bands
  fit_passed : Passed s → Fit (model n) (layout n) held
  fit_passed c = record {
    few = omega (arith, begun.count-few);
    room = model-room s.file n begun (length s.area) k.area_in;
    all = k.bands;
    within =
        passed-within (model n) (layout n) held (tensors_of n) (omega (arith, begun.count-few)) (tells s.file n begun) c.state;
  }

  -- rows that test 7 lets pass are changed
  change-done :
      (from count : ℕ) (rows : List ℕ) →
      Passed s →
      rows_fault n from count (length rows) ≡ 0 →
      Keeps (with_area s (change_by 0 n s.area s.state from count rows))
  change-done from count rows c seven =
      let q = rows_passed n from count (length rows) seven in
      let w = row_bytes n.picture in
      let s' = with_area s (change_by 0 n s.area s.state from count rows) in
      let fits : from * w + length rows ≤ length s.area =
      omega (arith, q.2, mul-le-mul_right w q.1, model-room s.file n begun (length s.area) k.area_in 0 (omega arith)) in
      let area : pasted s.area (from * w) rows ≡ sets s.area (row_place (layout n) 0 from) rows =
      sym (sets_pasted s.area (from * w) rows fits) ∙ ap (λ (i : ℕ). sets s.area i rows) (sym (zero-add (from * w))) in
      let room : n.area ≤ length s'.area = omega (arith, k.area_in, pasted_length s.area (from * w) rows fits) in
      let bands : length s'.state.bands ≡ 17 = length-set s.state.bands 0 _ ∙ k.bands in
      record {
        taken = k.taken;
        store_in = k.store_in;
        area_in = room;
        bands = bands;
        sums = k.sums;
        rows =
            rows-kept n s' begun (alike_same n) room bands
            (changing-keeps (model n) (layout n) law laid from count rows held (held_of n s' begun (alike_same n)) (record {
              fit = fit_passed c;
              inside = q.1;
              right = q.2;
              net = refl;
              area = area;
              state = refl;
            }) model-keeps);
      }

  -- an update recomputes the rows of the grown bands
  update-done :
      Passed s →
      Keeps (with_area s (update_by 0 n s.file s.sums s.area s.state))
  update-done c =
      let grown = grown_of (model n) (band_of s.state) in
      let s' = with_area s (update_by 0 n s.file s.sums s.area s.state) in
      let fair = passed-bands s.file s.sums (length s.area) s.state c in
      let area : s'.area ≡ redo_area (model n) (layout n) held.net grown n.count s.area =
      sym
      (update_over s.file n begun held.net s.state s.area fair k.area_in grown
      (λ t h. model_grown n s.state t (omega (arith, k.bands, begun.count-few)) h) n.count (omega arith)) in
      let room : n.area ≤ length s'.area =
      omega (arith, k.area_in, ap length area, length-redo (model n) (layout n) held.net grown n.count s.area) in
      let bands : length s'.state.bands ≡ 17 = length-replicate 17 none in
      record {
        taken = k.taken;
        store_in = k.store_in;
        area_in = room;
        bands = bands;
        sums = k.sums;
        rows =
            rows-kept n s' begun (alike_same n) room bands
            (updating-keeps (model n) (layout n) law laid held (held_of n s' begun (alike_same n))
            (record { fit = fit_passed c; net = refl; area = area; state = refl }) model-keeps);
      }

  -- a record that test 9 lets pass replaces that of layer m, counted from 0
  replace-done :
      (j m : ℕ) (r : List ℕ) →
      j ≡ suc m →
      Passed s →
      m < n.count →
      replace_fault s.file (layer_of n m) r ≡ 0 →
      Keeps (with_file s (replace_by 0 (layer_of n m) s.file s.sums s.state j r))
  replace-done j m r e c few nine =
      let x = exchanged s.file m r k.taken few nine in
      let s' = with_file s (replace_by 0 (layer_of n m) s.file s.sums s.state j r) in
      let file = rewritten_file s.file m r in
      let anew = taken file x.fault in
      let held' = held_of n s' anew x.alike in
      let room : (network_of s').area ≤ length s.area = omega (arith, k.area_in, x.alike.area) in
      let bands : length s'.state.bands ≡ 17 = length-set s.state.bands j _ ∙ k.bands in
      record {
        taken = x.fault;
        store_in = omega (arith, k.store_in, refilled-length s.file n begun m few file s.sums k.store_in, x.alike.store);
        area_in = room;
        bands = bands;
        sums =
            true-all file (network_of s') anew s'.sums (λ i h.
            true-again s.file m r (network_of s') x begun few (nine-kindred s.file m r k.taken few nine)
            s.sums k.store_in (true-each s.file n begun s.sums k.sums) i (omega (arith, x.alike.count)));
        rows =
            rows-kept n s' anew x.alike room bands
            (replacing-keeps (model n) (layout n) law m held held' (record {
              fit = fit_passed c;
              layer = few;
              others = λ i h d.
                  par_same n held'.net held.net i (x.others i d) (x.records i h d)
                  (others-kept s.file n begun m few file s.sums k.store_in i h d);
              head = x.head;
              area = refl;
              state = rw (e, chain_rows n (suc m));
            }) model-keeps);
      }

  -- ---- each of the four calls, accepted or refused

  -- changed rows
  keeps-change : (from count : ℕ) (rows : List ℕ) → Keeps (after (change from count rows) s)
  unfolding change_of
  keeps-change from count rows = go _ refl
    where
      go :
          (f : ℕ) →
          first_fault (fault_of s ∷ rows_fault (network_of s) from count (length rows) ∷ []) ≡ f →
          Keeps (with_area s (change_by f (network_of s) s.area s.state from count rows))
      go zero e =
          let q = first_both _ _ e in
          change-done from count rows (passed s q.0) q.1
      go (suc f) e = k

  -- an update
  keeps-update : Keeps (after update s)
  unfolding update_of
  keeps-update = go _ refl
    where
      go :
          (f : ℕ) →
          fault_of s ≡ f →
          Keeps (with_area s (update_by f (network_of s) s.file s.sums s.area s.state))
      go zero e = update-done (passed s e)
      go (suc f) e = k

  -- a layer replaced
  keeps-replace : (j : ℕ) (r : List ℕ) → Keeps (after (replace j r) s)
  unfolding replace_of
  keeps-replace j r = go _ refl
    where
      go :
          (f : ℕ) →
          first_fault (
          fault_of s ∷
          layer_fault (network_of s) j ∷
          replace_fault s.file (layer_of (network_of s) (j - 1)) r ∷
          []) ≡ f →
          Keeps (with_file s (replace_by f (layer_of (network_of s) (j - 1)) s.file s.sums s.state j r))
      go zero e =
          let q = first_both _ _ e in
          let p = first_both _ _ q.1 in
          let l = layer_passed (network_of s) j p.0 in
          replace-done j (j - 1) r (omega arith) (passed s q.0) (omega arith) p.1
      go (suc f) e = k

  -- a reading, which leaves the system as it was
  keeps-read : (out : List ℕ) → Keeps (after (read out) s)
  unfolding read_of
  keeps-read out = go (read_fault s out)
    where
      go : (f : ℕ) → Keeps (with_state s (read_by f (network_of s) s.area s.state out))
      go zero = k
      go (suc f) = k

  -- any of them
  keeps-after : (c : Call) → Keeps (after c s)
  keeps-after (change from count rows) = keeps-change from count rows
  keeps-after (replace j r) = keeps-replace j r
  keeps-after update = keeps-update
  keeps-after (read out) = keeps-read out

  -- while every row is stale the area may be written: it is as if loaded then
  keeps-written :
      (area : List ℕ) →
      s.state ≡ loaded (tensors_of n) →
      length area ≡ length s.area →
      Keeps (record { file = s.file; sums = s.sums; area = area; state = s.state })
  keeps-written area e same =
      let room : n.area ≤ length area = omega (arith, k.area_in) in
      record {
        taken = k.taken;
        store_in = k.store_in;
        area_in = room;
        bands = k.bands;
        sums = k.sums;
        rows = loaded_rows (record { file = s.file; sums = s.sums; area = area; state = s.state }) begun room k.bands e;
      }

-- a load keeps it from the start
pub keeps_load :
    (file sums area : List ℕ) →
    LoadPassed file (length sums) (length area) →
    Keeps (after_load file area (load_by 0 (decode_of file).network file sums))
unfolding loaded
keeps_load file sums area p =
    let n = (decode_of file).network in
    record {
      taken = p.fault;
      store_in =
          omega (arith, p.store_in, pasted_length sums 0 (network_sums n file) (omega (arith, p.store_in, network-sums-length file n p.taken)));
      area_in = p.area_in;
      bands = ones_length 17 _;
      sums = true-filled file n p.taken sums;
      rows = loaded_rows (after_load file area (load_by 0 n file sums)) p.taken p.area_in (ones_length 17 _) refl;
    }

-- every history keeps what it began from
pub kept : (s : System) → Reached s → Keeps s
kept s (begin k) = k
kept s (then c {s = b} h) = keeps-after b (kept b h) c
kept s (written area {s = b} h e same) = keeps-written b (kept b h) area e same

-- An accepted update rewrites exactly the rows of the grown bands, over an area with any contents.
-- Assumes nothing.
use Prim.Native.Nat.{ℕ, zero, suc, ◌≤◌}
use mathlib.Core.Path.{◌≡◌, refl, sym, ◌∙◌}
use mathlib.Core.List.{List}
use native.Mathlib.Omega.{arith}
use lib.ListN.{length, drop, length-drop}
use lib.Seq.{take_all}
use Rattle.fields.specs.Shape.{bytes_of}
use Rattle.network.specs.Network.{tensor_of}
use Rattle.network.specs.Decode.{decode_of}
use Rattle.network.specs.declared.net.Network.{Network}
use Rattle.bands.specs.declared.state.State.{State}
use Rattle.histories.specs.Kept.{Recomputed}
use Rattle.histories.specs.Area.{view}
use Rattle.histories.proofs.Area.{area-redone}
use Rattle.checks.specs.Tests.{call_fault}
use Rattle.facts.proofs.Chains.{chain_rows}
use Rattle.checks.proofs.Passed.{CallPassed, call_passed}
use Rattle.checks.proofs.Rows.{bands-fair}
use Rattle.updates.specs.Recompute.{grown_band_of, updated_to}
use Rattle.updates.specs.Asked.{BandsWithin}
use Rattle.updates.proofs.Areas.{updated-length, updated-before, updated-beyond}
use Rattle.updates.proofs.Fairs.{Fits, grown-fair}
use Rattle.clew.specs.Calls.{update_by, update_of}
use Rattle.facts.specs.Demand3.{Rewritten, ExactUpdates}
use Rattle.facts.proofs.Model.{Present, model, layout}
use Rattle.facts.proofs.Alike.{alike_same}
use Rattle.facts.proofs.Laws.{model-laws, model-laid, model-room}
use Rattle.facts.proofs.Updates.{row_is, update_over}

-- an update is accepted where tests 1 to 6 pass
pub update_passed : (file sums area : List ℕ) (s : State) → (update_of file sums area s).0.number ≡ 0 → call_fault file sums (length area) s ≡ 0
unfolding update_of
update_passed file sums area s = by-fault (call_fault file sums (length area) s)
  where
    by-fault : (k : ℕ) → (update_by k (decode_of file).network file sums area s).0.number ≡ 0 → k ≡ 0
    by-fault zero e = refl
    by-fault (suc k) e = e

module _ (file sums : List ℕ) (k : ℕ) (s : State) (c : CallPassed file sums k s) where
  -- the file and the sums, as the model has them
  abbrev pub present_of : Present (decode_of file).network
  present_of = record {
    file = file;
    sums = sums;
    taken = c.load.taken;
    alike = alike_same (decode_of file).network;
  }

  -- the bands lie within the tensors
  pub passed-bands : BandsWithin (decode_of file).network s
  passed-bands t h =
      let f = bands-fair file (decode_of file).network c.load.taken s c.state t h in
      (f.order, f.within)

module _ (file sums area : List ℕ) (s : State) (c : CallPassed file sums (length area) s) where
  abbrev n : Network
  n = (decode_of file).network

  abbrev p : Present n
  p = present_of file sums (length area) s c

  -- the area after the update
  abbrev next : List ℕ
  next = updated_to n file sums s n.count area

  abbrev fair : BandsWithin n s
  fair = passed-bands file sums (length area) s c

  -- a grown band lies within its tensor
  grown-fits : (t : ℕ) → t ≤ n.count → Fits (tensor_of n t).rows (grown_band_of n s t)
  grown-fits t h = grown-fair file n c.load.taken s t h fair t h

  -- the update is what the model recomputes over the grown bands
  after : Recomputed (model n) p (grown_band_of n s) (view (layout n) area) (view (layout n) next)
  after =
      let t = c.load.taken in
      let room = c.load.area_in in
      rw (update_over file n t p s area fair room (grown_band_of n s) (λ u h. refl) n.count (omega arith)) at
      (area-redone (model n) (layout n) (model-laws file n t) (model-laid file n t) p (grown_band_of n s) area (model-room file n t (length area) room)
      (λ u h i w. (omega arith, omega (arith, w, grown-fits u h, chain_rows n u))))

  -- exactly their rows are rewritten
  rewritten : Rewritten n file sums s area next
  rewritten =
      let t = c.load.taken in
      let room = c.load.area_in in
      let size = updated-length file n sums t s area fair room n.count (omega arith) in
      record {
        size = size;
        within = λ m h. (grown-fits (suc m) h).1;
        inside = λ m i h w. after.redone m i h (omega (arith, w, grown-fits (suc m) h, chain_rows n (suc m))) w ∙ row_is n p next m i (omega (arith, size)) h;
        outside = λ m i h g w. after.kept m i h (omega (arith, chain_rows n (suc m))) w;
        picture =
            updated-before file n sums t s area fair room n.count 0 (bytes_of n.picture) (omega arith)
            (omega (arith, (t.layers 0 (omega (arith, t.count-some))).place));
        beyond =
            let all = updated-beyond file n sums t s area fair room n.count n.area (length area) (omega arith) (omega arith) in
            let short : (d : List ℕ) → length d ≡ length area → length (drop n.area d) ≤ length area = λ d e. rw length-drop (omega arith) in
            sym (take_all (length area) (drop n.area next) (short next size)) ∙ all ∙
            take_all (length area) (drop n.area area) (short area refl);
      }

-- demand 3, of an update: exactly the rows of the grown bands are rewritten, and the count is the bytes in them
pub exact_updates : ExactUpdates
unfolding update_of
exact_updates file sums area s e =
    let none = update_passed file sums area s e in
    let c = call_passed file sums (length area) s none in
    rw none (rewritten file sums area s c, refl)

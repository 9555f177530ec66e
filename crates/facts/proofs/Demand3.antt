-- Demand 3: a load begins a history, after any history each tensor of a clean state and each accepted reading is that of a fresh run, and the
-- sums are the present ones.
-- Assumes nothing.
use Prim.Native.Nat.{ℕ, zero, suc}
use mathlib.Core.Path.{◌≡◌, refl, sym, ◌∙◌, ap₂}
use native.Mathlib.Omega.{arith}
use lib.ListN.{length}
use Rattle.fields.proofs.Tests.{first_both}
use Rattle.network.specs.Decode.{decode_of}
use Rattle.checks.specs.Tests.{load_fault}
use Rattle.checks.proofs.Passed.{load_passed, stale_passed}
use Rattle.clew.specs.Calls.{load_of, load_by, read_of, read_by}
use Rattle.facts.specs.Fresh.{fresh_reading}
use Rattle.facts.specs.History.{network_of, picture_of, after_load, Keeps}
use Rattle.facts.specs.Demand3.{LoadsBegin, FreshTensors, FreshReadings, SameReadings, PresentSums}
use Rattle.facts.proofs.Clean.{passed_clear, grown-clear}
use Rattle.facts.proofs.Fresh.{all-fresh}
use Rattle.facts.proofs.Steps.{passed, read_fault, keeps_load, kept}

-- an accepted load begins a history
pub loads_begin : LoadsBegin
unfolding load_of
loads_begin file sums area = go _ refl
  where
    go :
        (f : ℕ) →
        load_fault file (length sums) (length area) ≡ f →
        (load_by f (decode_of file).network file sums).0.number ≡ 0 →
        Keeps (after_load file area (load_by f (decode_of file).network file sums))
    go zero e h = keeps_load file sums area (load_passed file (length sums) (length area) e)
    go (suc f) e h = absurd (omega arith)

-- all weight sums are the present ones
pub present_sums : PresentSums
present_sums s h = (kept s h).sums

-- no band of a clean state has a row, so each row is what its layer makes
pub fresh_tensors : FreshTensors
fresh_tensors s h f c t g =
    let n = network_of s in
    let k = kept s h in
    let p = passed s f in
    let taken = p.load.taken in
    let clear = passed_clear s.file s.sums (length s.area) s.state p c in
    all-fresh s.file n taken s.sums s.area k.area_in k.sums
    (λ m i hm hi. k.rows m i hm hi (λ w.
    let none = grown-clear s.file n taken s.state (suc m) hm clear (suc m) hm in
    omega (arith, rw none at w)))
    t t g (omega arith)

-- each accepted reading is the last tensor of a fresh run
pub fresh_readings : FreshReadings
unfolding read_of
fresh_readings s out h = go (read_fault s out) refl
  where
    go :
        (f : ℕ) →
        read_fault s out ≡ f →
        (read_by f (network_of s) s.area s.state out).0.number ≡ 0 →
        (read_by f (network_of s) s.area s.state out).1 ≡ fresh_reading s.file (picture_of s)
    go zero e z =
        let q = first_both _ _ e in
        let p = first_both _ _ q.1 in
        fresh_tensors s h q.0 (stale_passed s.state p.1) (network_of s).count (omega arith)
    go (suc f) e z = absurd (omega arith)

-- so the same network and picture give the same reading
pub same_readings : SameReadings
same_readings s s' out out' h h' e p z z' =
    fresh_readings s out h z ∙ ap₂ fresh_reading e p ∙ sym (fresh_readings s' out' h' z')

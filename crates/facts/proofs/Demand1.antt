-- Demand 1: a refused call changes nothing, the tests decide in the table's order, and each gives its own number.
-- Assumes nothing.
use Prim.Native.Nat.{ℕ, zero, suc, ◌+◌, ◌-◌, ◌≤◌}
use mathlib.Core.Path.{◌≡◌, refl, sym, ◌∙◌, ap}
use mathlib.Core.Logic.{◌≢◌, ◌⊎◌, inl, inr}
use mathlib.Core.Bool.{Bool, true, false}
use mathlib.Core.List.{List}
use native.Mathlib.Omega.{arith}
use lib.ListN.{length}
use Rattle.fields.specs.Faults.{unless, first}
use Rattle.fields.proofs.Tests.{first_assoc, first_both, first-none}
use Rattle.records.specs.Layer.{record_len}
use Rattle.records.specs.Reader.{layer_with, answer, number_of, read_as}
use Rattle.network.specs.Network.{layer_of}
use Rattle.network.specs.Decode.{decode_of}
use Rattle.network.specs.Replace.{replace_fault}
use Rattle.network.specs.declared.net.Network.{Network}
use Rattle.bands.specs.State.{all_stale, state_fault}
use Rattle.bands.specs.declared.state.State.{State}
use Rattle.bands.proofs.States.{stale_refused}
use Rattle.checks.specs.Tensors.{tensors_of}
use Rattle.checks.specs.Tests.{room_fault, sums_fault, load_fault, call_fault, rows_fault, layer_fault, slice_fault, stale_fault}
use Rattle.checks.proofs.Passed.{call_is, call_passed}
use Rattle.clew.specs.Sizes.{sizes_by, sizes_of}
use Rattle.clew.specs.Calls.{outcome, load_by, load_of, change_by, change_of, replace_by, replace_of, update_by, update_of, read_by, read_of}
use Rattle.clew.specs.declared.outcome.Outcome.{Outcome}
use Rattle.clew.specs.declared.outcome.Sizes.{Sizes}
use Rattle.facts.specs.Demand1.{RefusalsChangeNothing, TestsInOrder, RecordsInOrder, AllStaleRefused, Gives, OwnNumbers, Numbers}
use Rattle.facts.proofs.Numbered.{first_most, file_most_lem}

-- ---- the answer x of a call to the fault k: its number is k, and where that is not 0 it is the refusal with that number

record Answered {A : Type 0} (number : A → ℕ) (refusal : ℕ → A) (x : A) (k : ℕ) : Type 0 where
  number_is : number x ≡ k
  refusal_is : number x ≢ 0 → x ≡ refusal (number x)

-- a call that is accepted at the fault 0, and at any other gives the refusal with that number
answered :
    {A : Type 0} {number : A → ℕ} {refusal : ℕ → A} (answer : ℕ → A)
    → number (answer 0) ≡ 0
    → ((k : ℕ) → answer (suc k) ≡ refusal (suc k))
    → ((k : ℕ) → number (refusal k) ≡ k)
    → (k : ℕ)
    → Answered number refusal (answer k) k
answered answer accepted refused told zero = record { number_is = accepted; refusal_is = λ h. absurd (h accepted) }
answered {number = number} {refusal = refusal} answer accepted refused told (suc k) =
    let e = ap number (refused k) ∙ told (suc k) in
    record { number_is = e; refusal_is = λ h. refused k ∙ ap refusal (sym e) }

-- a call that may write one buffer
abbrev One : State → List ℕ → Outcome × List ℕ → ℕ → Type 0
One s buffer x k = Answered (λ (y : Outcome × List ℕ). y.0.number) (λ j. (outcome j 0 s, buffer)) x k

-- the five calls
load_answered : (file sums area : List ℕ) → One all_stale sums (load_of file sums area) (load_fault file (length sums) (length area))
unfolding load_of
load_answered file sums area = answered (λ k. load_by k (decode_of file).network file sums) refl (λ k. refl) (λ k. refl) _

module _ (file sums area : List ℕ) (s : State) where
  -- the network that the file holds
  abbrev n : Network
  n = (decode_of file).network

  -- the fault of tests 1 to 6
  abbrev one-to-six : ℕ
  one-to-six = call_fault file sums (length area) s

  change-answered :
      (f c : ℕ) (rows : List ℕ)
      → One s area (change_of file sums area s f c rows) (first one-to-six (rows_fault n f c (length rows)))
  unfolding change_of
  change-answered f c rows = answered (λ k. change_by k n area s f c rows) refl (λ k. refl) (λ k. refl) _

  replace-answered :
      (m : ℕ) (r : List ℕ)
      → Answered (λ (y : Outcome × List ℕ × List ℕ). y.0.number) (λ j. (outcome j 0 s, file, sums)) (replace_of file sums area s m r)
      (first one-to-six (first (layer_fault n m) (replace_fault file (layer_of n (m - 1)) r)))
  unfolding replace_of
  replace-answered m r = answered (λ k. replace_by k (layer_of n (m - 1)) file sums s m r) refl (λ k. refl) (λ k. refl) _

  update-answered : One s area (update_of file sums area s) one-to-six
  unfolding update_of
  update-answered = answered (λ k. update_by k n file sums area s) refl (λ k. refl) (λ k. refl) _

  read-answered :
      (out : List ℕ)
      → One s out (read_of file sums area s out) (first one-to-six (first (slice_fault n (length out)) (stale_fault s)))
  unfolding read_of
  read-answered out = answered (λ k. read_by k n area s out) refl (λ k. refl) (λ k. refl) _

-- and the sizes
sizes_answered : (file : List ℕ)
    → Answered (λ (y : Sizes). y.number) (λ j. record { number = j; picture = 0; sums = 0; area = 0; reading = 0 }) (sizes_of file) (decode_of file).fault
unfolding sizes_of
sizes_answered file = answered (λ k. sizes_by k (decode_of file).network) refl (λ k. refl) (λ k. refl) _

pub refusals_change_nothing : RefusalsChangeNothing
refusals_change_nothing = record {
  sizes = λ file. (sizes_answered file).refusal_is;
  load = λ file sums area. (load_answered file sums area).refusal_is;
  change = λ file sums area s first count rows. (change-answered file sums area s first count rows).refusal_is;
  replace = λ file sums area s k r. (replace-answered file sums area s k r).refusal_is;
  update = λ file sums area s. (update-answered file sums area s).refusal_is;
  read = λ file sums area s out. (read-answered file sums area s out).refusal_is;
}

-- ---- the order

-- tests 1 to 6, and then one more fault
in_order : (a b c d e : ℕ) → first (first a (first b (first c d))) e ≡ first a (first b (first c (first d e)))
in_order a b c d e = simp first_assoc

pub tests_in_order : TestsInOrder
unfolding load_fault call_fault
tests_in_order = record {
  sizes = λ file. (sizes_answered file).number_is;
  load = λ file sums area. (load_answered file sums area).number_is;
  change = λ file sums area s first count rows. (change-answered file sums area s first count rows).number_is ∙ in_order _ _ _ _ _;
  replace = λ file sums area s k r. (replace-answered file sums area s k r).number_is ∙ in_order _ _ _ _ _;
  update = λ file sums area s. (update-answered file sums area s).number_is;
  read = λ file sums area s out. (read-answered file sums area s out).number_is ∙ in_order _ _ _ _ _;
}

-- the number of one record
pub records_in_order : RecordsInOrder
unfolding read_as answer
records_in_order m k s at b other = numbered _
  where
    numbered : (fault : ℕ) → number_of (answer fault (layer_with m k at b) (at + record_len (layer_with m k at b))) ≡ fault
    numbered zero = refl
    numbered (suc fault) = refl

-- ---- the all-stale state

-- tests 1 to 6 find a fault, and so does whatever is tested after them
stale_fault_lem : (file sums : List ℕ) (area after : ℕ) → first (call_fault file sums area all_stale) after ≢ 0
stale_fault_lem file sums area after h =
    let p = call_passed file sums area all_stale (first_both _ _ h).0 in
    absurd (omega (arith, p.state, stale_refused (tensors_of (decode_of file).network)))

pub all_stale_refused : AllStaleRefused
all_stale_refused = record {
  change = λ file sums area f c rows h. stale_fault_lem file sums (length area) _ (sym (change-answered file sums area all_stale f c rows).number_is ∙ h);
  replace = λ file sums area k r h. stale_fault_lem file sums (length area) _ (sym (replace-answered file sums area all_stale k r).number_is ∙ h);
  update = λ file sums area h. stale_fault_lem file sums (length area) 0 (first-none _ 0 (sym (update-answered file sums area all_stale).number_is ∙ h));
  read = λ file sums area out h. stale_fault_lem file sums (length area) _ (sym (read-answered file sums area all_stale out).number_is ∙ h);
}

-- ---- the numbers

-- a test that gives the number k where it fails
gives : (t : Bool) (k : ℕ) → Gives k (unless t k)
gives true k = inl refl
gives false k = inr refl

pub own_numbers : OwnNumbers
unfolding room_fault state_fault sums_fault rows_fault layer_fault slice_fault stale_fault replace_fault
own_numbers = record {
  file = file_most_lem;
  room = λ n sums area. search gives;
  state = λ s n. search gives;
  sums = λ n sums. search gives;
  rows = λ n first count len. search gives;
  layer = λ n k. search gives;
  slice = λ n len. search gives;
  stale = λ s. search gives;
  replacement = λ file r n m. search gives;
}

-- a test's own number bounds what it gives
own_most : {k fault : ℕ} (top : ℕ) → Gives k fault → k ≤ top → fault ≤ top
own_most top (inl e) h = omega arith
own_most top (inr e) h = omega arith

-- the first of two, of which the second may be 9
first_nine : {a b : ℕ} → a ≤ 7 → Gives 9 b → (first a b ≤ 7) ⊎ (first a b ≡ 9)
unfolding first
first_nine {a = zero} h (inl e) = inl (omega arith)
first_nine {a = zero} h (inr e) = inr e
first_nine {a = suc a} h g = inl h

-- tests 1 to 4
load_most : (file : List ℕ) (sums area : ℕ) → load_fault file sums area ≤ 4
unfolding load_fault
load_most file sums area =
    first_most (omega (arith, own_numbers.file file)) (own_most 4 (own_numbers.room (decode_of file).network sums area) (omega arith))

-- tests 1 to 6, and so any number above
call_most : (file sums : List ℕ) (area : ℕ) (s : State) (top : ℕ) → 6 ≤ top → call_fault file sums area s ≤ top
call_most file sums area s top h =
    let n = (decode_of file).network in
    rw (call_is file sums area s)
    (first_most (omega (arith, load_most file (length sums) area))
    (first_most (own_most top (own_numbers.state s n) (omega arith)) (own_most top (own_numbers.sums n sums) h)))

pub numbers : Numbers
numbers = record {
  sizes = λ file. rw (sizes_answered file).number_is (file_most_lem file);
  load = λ file sums area. rw (load_answered file sums area).number_is (load_most file (length sums) (length area));
  change = λ file sums area s f c rows.
      rw (change-answered file sums area s f c rows).number_is
      (first_most (call_most file sums (length area) s 7 (omega arith)) (own_most 7 (own_numbers.rows _ f c _) (omega arith)));
  replace = λ file sums area s k r.
      rw ((replace-answered file sums area s k r).number_is, ← first_assoc)
      (first_nine (first_most (call_most file sums (length area) s 7 (omega arith)) (own_most 7 (own_numbers.layer _ k) (omega arith)))
      (own_numbers.replacement file r (decode_of file).network (k - 1)));
  update = λ file sums area s. rw (update-answered file sums area s).number_is (call_most file sums (length area) s 6 (omega arith));
  read = λ file sums area s out.
      rw (read-answered file sums area s out).number_is
      (first_most (call_most file sums (length area) s 8 (omega arith))
      (first_most (own_most 8 (own_numbers.slice _ _) (omega arith)) (own_most 8 (own_numbers.stale s) (omega arith))));
}

-- What is known where a test passes.
-- Assumes nothing.
use Prim.Native.Nat.{ℕ, ◌+◌, ◌*◌, ◌≤◌}
use mathlib.Core.Path.{◌≡◌, sym}
use mathlib.Core.Bool.{true, ◌&&◌, and-eq-true_iff}
use mathlib.Core.List.{List}
use borrow.Author.Tests.{leb-true, eqb-true}
use lib.Dec.{leb, eqb}
use lib.ListN.{length}
use Rattle.fields.specs.Faults.{first}
use Rattle.fields.specs.Shape.{bytes_of, row_bytes}
use Rattle.fields.proofs.Tests.{unless-none, first_both, first_assoc}
use Rattle.network.specs.Network.{tensor_of}
use Rattle.network.specs.Decode.{decode_of}
use Rattle.network.specs.Taken.{Taken}
use Rattle.network.specs.declared.net.Network.{Network}
use Rattle.network.proofs.Taken.{taken}
use Rattle.bands.specs.State.{state_fault, clean}
use Rattle.bands.specs.declared.state.State.{State}
use Rattle.checks.specs.Tensors.{tensors_of}
use Rattle.checks.specs.Tests.{room_fault, sums_fault, load_fault, call_fault, rows_fault, layer_fault, slice_fault, stale_fault}
use Rattle.checks.proofs.Pairs.{both_none}

-- tests 1 to 4
pub record LoadPassed (file : List ℕ) (sums area : ℕ) : Type 0 where
  pub fault : (decode_of file).fault ≡ 0
  pub taken : Taken file (decode_of file).network
  pub store_in : (decode_of file).network.store ≤ sums
  pub area_in : (decode_of file).network.area ≤ area

pub load_passed : (file : List ℕ) (sums area : ℕ) → load_fault file sums area ≡ 0 → LoadPassed file sums area
unfolding load_fault room_fault
load_passed file sums area p =
    let n = (decode_of file).network in
    let q = first_both _ _ p in
    let room = both_none (leb n.store sums) (leb n.area area) 3 q.1 in
    record { fault = q.0; taken = taken file q.0; store_in = leb-true _ _ room.0; area_in = leb-true _ _ room.1 }

-- tests 1 to 6 are 1 to 4, and then 5 and 6
pub call_is :
    (file sums : List ℕ) (area : ℕ) (s : State) →
    call_fault file sums area s ≡
    first (load_fault file (length sums) area)
    (first (state_fault s (tensors_of (decode_of file).network)) (sums_fault (decode_of file).network sums))
unfolding call_fault load_fault
call_is file sums area s = sym (first_assoc _ _ _)

pub record CallPassed (file sums : List ℕ) (area : ℕ) (s : State) : Type 0 where
  pub load : LoadPassed file (length sums) area
  pub state : state_fault s (tensors_of (decode_of file).network) ≡ 0
  pub sums-fit : sums_fault (decode_of file).network sums ≡ 0

pub call_passed :
    (file sums : List ℕ) (area : ℕ) (s : State) →
    call_fault file sums area s ≡ 0 →
    CallPassed file sums area s
call_passed file sums area s p =
    let q = first_both _ _ (rw (call_is file sums area s) at p) in
    let r = first_both _ _ q.1 in
    record { load = load_passed file (length sums) area q.0; state = r.0; sums-fit = r.1 }

-- test 7
pub rows_passed :
    (n : Network) (first count len : ℕ) →
    rows_fault n first count len ≡ 0 →
    (1 ≤ count) × (first + count ≤ n.picture.rows) × (len ≡ count * row_bytes n.picture)
unfolding rows_fault
rows_passed n first count len p =
    let q = both_none (leb 1 count && leb (first + count) n.picture.rows) _ 6 p in
    let r = (and-eq-true_iff (leb 1 count) (leb (first + count) n.picture.rows)).0 q.0 in
    (leb-true _ _ r.0, leb-true _ _ r.1, eqb-true _ _ q.1)

pub layer_passed : (n : Network) (k : ℕ) → layer_fault n k ≡ 0 → (1 ≤ k) × (k ≤ n.count)
unfolding layer_fault
layer_passed n k p =
    let q = both_none (leb 1 k) (leb k n.count) 6 p in
    (leb-true _ _ q.0, leb-true _ _ q.1)

pub slice_passed : (n : Network) (len : ℕ) → slice_fault n len ≡ 0 → len ≡ bytes_of (tensor_of n n.count)
unfolding slice_fault
slice_passed n len p = eqb-true _ _ (unless-none (eqb len (bytes_of (tensor_of n n.count))) 6 p)

-- test 8
pub stale_passed : (s : State) → stale_fault s ≡ 0 → clean s ≡ true
unfolding stale_fault
stale_passed s p = unless-none (clean s) 7 p

-- An accepted update from a clean state counts nothing and changes no byte.
-- Assumes nothing.
use Prim.Native.Nat.{ℕ, zero, suc, ◌≤◌, ◌<◌}
use mathlib.Core.Path.{◌≡◌, refl}
use mathlib.Core.Bool.{true}
use mathlib.Core.List.{List}
use native.Mathlib.Omega.{arith}
use lib.ListN.{length}
use Rattle.fields.specs.Shape.{row_bytes}
use Rattle.network.specs.Network.{tensor_of}
use Rattle.network.specs.Decode.{decode_of}
use Rattle.network.specs.Taken.{Taken}
use Rattle.network.specs.declared.net.Network.{Network}
use Rattle.lists.specs.Lists.{joined}
use Rattle.lists.proofs.Pasted.{pasted_nil}
use Rattle.bands.specs.Band.{none, cover}
use Rattle.bands.specs.State.{band_of, clean}
use Rattle.bands.specs.Grow.{grown_band, grow_one, grown}
use Rattle.bands.specs.declared.state.State.{State}
use Rattle.bands.proofs.Reached.{reached-empty}
use Rattle.bands.proofs.States.{with_each, clean-none}
use Rattle.checks.specs.Tensors.{tensors_of, link_of}
use Rattle.checks.proofs.Links.{link-ok}
use Rattle.checks.proofs.Passed.{CallPassed, call_passed}
use Rattle.updates.specs.Recompute.{redone, updated_to, count_to}
use Rattle.updates.proofs.Counts.{bytes_in_lem}
use Rattle.clew.specs.Calls.{update_of}
use Rattle.facts.specs.Demand3.{CleanUpdates}
use Rattle.facts.proofs.Exact.{update_passed}

-- the band of every tensor of the network is 0,0
abbrev pub Clear : Network → State → Type 0
Clear n s = (t : ℕ) → t ≤ n.count → band_of s t ≡ none

-- a clean state that passed tests 1 to 6 has no other
pub passed_clear :
    (file sums : List ℕ) (room : ℕ) (s : State) → CallPassed file sums room s → clean s ≡ true → Clear (decode_of file).network s
passed_clear file sums room s p z t h = clean-none s (tensors_of (decode_of file).network) p.state z t (omega (arith, p.load.taken.count-few))

-- no row of a band 0,0 is recomputed
redone-none : (n : Network) (file sums : List ℕ) (m : ℕ) (area : List ℕ) → redone n file sums m none area ≡ area
unfolding redone joined
redone-none n file sums m area = pasted_nil area _

module _ (file : List ℕ) (n : Network) (k : Taken file n) where
  -- one layer's step grows nothing
  step_clear : (s : State) (m : ℕ) → m < n.count → Clear n s → Clear n (grow_one s (link_of n m) m)
  unfolding grow_one cover
  step_clear s m h c t ht =
      let y = link_of n m in
      let other = c y.other (omega (arith, (link-ok file n k m h).other-before)) in
      let own : grown_band s y m ≡ none = rw (c (suc m) h, c m (omega arith), other, reached-empty none y (omega arith)) in
      with_each (λ u b. b ≡ none) s (suc m) (grown_band s y m) own t (c t ht)

  -- nor do the first m layers' steps
  pub grown-clear : (s : State) (m : ℕ) → m ≤ n.count → Clear n s → Clear n (grown s (link_of n) m)
  unfolding grown
  grown-clear s zero h c = c
  grown-clear s (suc m) h c = step_clear (grown s (link_of n) m) m h (grown-clear s m (omega arith) c)

  module _ (s : State) (c : Clear n s) where
    -- the area after the first m layers is as it was
    updated-clear : (sums area : List ℕ) (m : ℕ) → m ≤ n.count → updated_to n file sums s m area ≡ area
    unfolding updated_to
    updated-clear sums area zero h = refl
    updated-clear sums area (suc m) h =
        rw (grown-clear s (suc m) h c (suc m) h, updated-clear sums area m (omega arith)) (redone-none n file sums m area)

    -- and no byte of them is counted
    count-clear : (m : ℕ) → m ≤ n.count → count_to n s m ≡ 0
    unfolding count_to
    count-clear zero h = refl
    count-clear (suc m) h =
        rw (grown-clear s (suc m) h c (suc m) h, count-clear m (omega arith))
        (omega (arith, bytes_in_lem none (tensor_of n (suc m)).rows (row_bytes (tensor_of n (suc m))) (omega arith)))

-- a clean state's update counts 0 and leaves every byte as it was
pub clean_updates : CleanUpdates
unfolding update_of
clean_updates file sums area s e z =
    let n = (decode_of file).network in
    let fine = update_passed file sums area s e in
    let p = call_passed file sums (length area) s fine in
    let k = p.load.taken in
    let c = passed_clear file sums (length area) s p z in
    rw (fine, updated-clear file n k s c sums area n.count (omega arith), count-clear file n k s c n.count (omega arith))

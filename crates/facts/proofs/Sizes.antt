-- The sizes of a network are what the calls ask of their buffers, and no call changes them.
-- Assumes nothing.
use Prim.Native.Nat.{ℕ, zero, suc, ◌+◌, ◌-◌, ◌*◌, ◌≤◌}
use mathlib.Core.Path.{◌≡◌, refl, sym, ◌∙◌, ap}
use mathlib.Core.List.{List, [], ◌∷◌}
use native.Mathlib.Omega.{arith}
use lib.ListN.{length}
use borrow.Author.Tests.{le-leb, eq-eqb}
use Rattle.fields.specs.Faults.{first_fault}
use Rattle.fields.specs.Shape.{bytes_of, row_bytes}
use Rattle.fields.proofs.Tests.{first_both, first-none}
use Rattle.network.specs.Network.{layer_of, tensor_of}
use Rattle.network.specs.Decode.{decode_of}
use Rattle.network.specs.Replace.{replace_fault}
use Rattle.network.specs.declared.net.Network.{Network}
use Rattle.network.proofs.Taken.{taken}
use Rattle.checks.specs.Tests.{room_fault, load_fault, rows_fault, layer_fault, slice_fault}
use Rattle.checks.proofs.Passed.{load_passed, layer_passed, slice_passed}
use Rattle.clew.specs.Sizes.{sizes_by, sizes_of}
use Rattle.clew.specs.Calls.{load_of, replace_of, replace_by}
use Rattle.clew.proofs.Sized.{sizes_taken}
use Rattle.facts.specs.History.{System, network_of, with_file, after}
use Rattle.facts.specs.History.Call.{change, replace, update, read}
use Rattle.facts.specs.Sizes.{SizesAsked, SizesSuffice, SizesStay}
use Rattle.facts.proofs.Alike.{exchanged}
use Rattle.facts.proofs.Demand1.{tests_in_order}
use Rattle.facts.proofs.Model.{Alike}
use Rattle.facts.proofs.Steps.{fault_of, passed}
use Rattle.facts.proofs.Tensors.{rows-bytes}

-- ---- what the calls ask

module _ (file : List ℕ) (e : (decode_of file).fault ≡ 0) where
  -- the network that the file holds
  abbrev net : Network
  net = (decode_of file).network

  -- test 4 passes where there is room
  room-there : (sums area : ℕ) → net.store ≤ sums → net.area ≤ area → room_fault net sums area ≡ 0
  unfolding room_fault
  room-there sums area p q = rw (le-leb _ _ p, le-leb _ _ q)

  accepted : (sums area : List ℕ) → net.store ≤ length sums → net.area ≤ length area → (load_of file sums area).0.number ≡ 0
  accepted sums area p q =
      tests_in_order.load file sums area ∙ first-none (decode_of file).fault _ e ∙ room-there (length sums) (length area) p q

  needed : (sums area : List ℕ) → (load_of file sums area).0.number ≡ 0 → (net.store ≤ length sums) × (net.area ≤ length area)
  unfolding load_fault
  needed sums area h =
      let p = load_passed file (length sums) (length area) (sym (tests_in_order.load file sums area) ∙ h) in
      (p.store_in, p.area_in)

  -- test 7 of change rows, of the whole picture
  whole : rows_fault net 0 net.picture.rows (bytes_of net.picture) ≡ 0
  unfolding rows_fault
  whole =
      let rows = net.picture.rows in
      let some : 1 ≤ rows = ((taken file e).shapes 0 (omega arith)).rows-some in
      let all : 0 + rows ≤ rows = omega arith in
      let same : bytes_of net.picture ≡ rows * row_bytes net.picture = sym (rows-bytes net.picture) in
      rw (le-leb _ _ some, le-leb _ _ all, same, eq-eqb (rows * row_bytes net.picture) _ refl)

  -- and of read, of the last tensor
  last : slice_fault net (bytes_of (tensor_of net net.count)) ≡ 0
  unfolding slice_fault
  last = rw (eq-eqb (bytes_of (tensor_of net net.count)) _ refl)

  asked : SizesAsked file
  asked =
      let z = sizes_taken file refl e in
      record {
        accepted = λ sums area p q. accepted sums area (rw z at p) (rw z at q);
        needed = λ sums area h. rw z (needed sums area h);
        picture = rw z whole;
        reading = λ len h. rw z (slice_passed net len h);
        taken = rw z last;
      }

pub sizes_suffice : SizesSuffice
sizes_suffice file e = asked file (sym (tests_in_order.sizes file) ∙ e)

-- ---- no call changes them

-- networks that are alike have the same sizes
alike_sizes : (n n' : Network) → Alike n n' → sizes_by 0 n' ≡ sizes_by 0 n
alike_sizes n n' a =
    let last : tensor_of n' n'.count ≡ tensor_of n n.count = a.tensors n'.count ∙ ap (tensor_of n) a.count in
    rw (last, a.tensors 0, a.store, a.area)

replaced_sizes : (s : System) (j : ℕ) (r : List ℕ) → sizes_of (after (replace j r) s).file ≡ sizes_of s.file
unfolding replace_of
replaced_sizes s j r = go _ refl
  where
    go :
        (f : ℕ) →
        first_fault (fault_of s ∷ layer_fault (network_of s) j ∷ replace_fault s.file (layer_of (network_of s) (j - 1)) r ∷ []) ≡ f →
        sizes_of (with_file s (replace_by f (layer_of (network_of s) (j - 1)) s.file s.sums s.state j r)).file ≡ sizes_of s.file
    go zero e =
        let q = first_both _ _ e in
        let p = first_both _ _ q.1 in
        let l = layer_passed (network_of s) j p.0 in
        let fault = (passed s q.0).load.fault in
        let x = exchanged s.file (j - 1) r fault (omega arith) p.1 in
        sizes_taken _ refl x.fault ∙ alike_sizes _ _ x.alike ∙ sym (sizes_taken s.file refl fault)
    go (suc f) e = refl

pub sizes_stay : SizesStay
sizes_stay (change first count rows) s = refl
sizes_stay (replace k r) s = replaced_sizes s k r
sizes_stay update s = refl
sizes_stay (read out) s = refl

-- Where every row is what its layer makes of the rows and sums stored, and the sums are the true ones, each tensor is that of a fresh run.
-- Assumes nothing.
use Prim.Native.Nat.{ℕ, zero, suc, ◌≤◌, ◌<◌}
use mathlib.Core.Path.{◌≡◌, refl, sym, ◌∙◌, ap, ap₂}
use mathlib.Core.List.{List, [], ◌∷◌}
use native.Mathlib.Omega.{arith}
use native.Mathlib.Decide.{ℕ_discrete}
use lib.ListN.{length, get_or, length-append, get_or-append}
use lib.Seq.{get_or_at, take_all}
use Rattle.fields.specs.Shape.{bytes_of, row_bytes}
use Rattle.network.specs.Network.{layer_of, tensor_of, place_of, zero_of}
use Rattle.network.specs.Taken.{Taken}
use Rattle.network.specs.declared.net.Network.{Network}
use Rattle.network.proofs.Places.{tensors-in}
use Rattle.lists.specs.Lists.{joined, part}
use Rattle.lists.proofs.Pasted.{part_length, joined_same, joined-part}
use Rattle.layers.specs.Row.{row_of}
use Rattle.layers.proofs.Local.{row_local}
use Rattle.checks.specs.Tensors.{link_of}
use Rattle.checks.proofs.Links.{link-ok}
use Rattle.updates.specs.Recompute.{network_sums, tensor_in, row_in, row_from}
use Rattle.updates.proofs.Fills.{network-sums-length}
use Rattle.updates.proofs.Ready.{layer-shaped}
use Rattle.facts.specs.Fresh.{fresh_layer, fresh_to}
use Rattle.facts.proofs.Tensors.{rows-bytes}
use Rattle.facts.proofs.Stored.{true-each}

-- the picture and m tensors
fresh_length : (n : Network) (file sums picture : List ℕ) (m : ℕ) → length (fresh_to n file sums picture m) ≡ suc m
unfolding fresh_to
fresh_length n file sums picture zero = refl
fresh_length n file sums picture (suc m) =
    length-append (fresh_to n file sums picture m) _ ∙ omega (arith, fresh_length n file sums picture m)

-- the rows that stand in an area make the tensor that stands there
rows_make : (n : Network) (area : List ℕ) (t : ℕ) → joined (tensor_of n t).rows (row_in n area t) ≡ tensor_in n area t
rows_make n area t =
    joined-part (tensor_of n t).rows (row_bytes (tensor_of n t)) (place_of n t) area (row_in n area t) (λ i h. refl) ∙
    ap (part area (place_of n t)) (rows-bytes (tensor_of n t))

module _
    (file : List ℕ)
    (n : Network)
    (taken : Taken file n)
    (sums area : List ℕ)
    (room : n.area ≤ length area)
    (stored : part sums 0 n.store ≡ network_sums n file) where
  -- a row is the one that the true sums give
  true-row :
      (m i : ℕ) →
      m < n.count →
      i < (tensor_of n (suc m)).rows →
      row_from n file sums m area i ≡ row_from n file (network_sums n file) m area i
  true-row m i h g =
      let all = network_sums n file in
      let alone = take_all n.store all (omega (arith, network-sums-length file n taken)) in
      let input : length (tensor_in n area m) ≡ bytes_of (layer_of n m).input =
      part_length area (place_of n m) _ (omega (arith, tensors-in file n taken m (omega arith))) ∙ ap bytes_of (sym (taken.layers m h).input) in
      row_local (layer_of n m) _ _ file file sums all _ _ _ _ i (layer-shaped file n taken m h) g input input refl
      (true-each file n taken sums stored m h ∙ sym (true-each file n taken all alone m h)) (λ r w k. refl) (λ r w k. refl)

  -- each tensor is that of a fresh run over the picture, layer after layer
  pub all-fresh :
      ((m i : ℕ) → m < n.count → i < (tensor_of n (suc m)).rows → row_in n area (suc m) i ≡ row_from n file sums m area i) →
      (m t : ℕ) →
      m ≤ n.count →
      t ≤ m →
      tensor_in n area t ≡ get_or (fresh_to n file (network_sums n file) (tensor_in n area 0) m) t []
  unfolding fresh_to
  all-fresh made zero t h g = let e : t ≡ 0 = omega arith in rw e
  all-fresh made (suc m) t h g =
      let all = network_sums n file in
      let before = fresh_to n file all (tensor_in n area 0) m in
      let long = fresh_length n file all (tensor_in n area 0) m in
      let next = fresh_layer n file all m before in
      let j = (link_of n m).other in
      elim (ℕ_discrete t (suc m)) [
        | yes e ↦ rw e
            (sym (rows_make n area (suc m)) ∙
            joined_same (tensor_of n (suc m)).rows (λ i k.
            made m i h k ∙ true-row m i h k ∙
            ap₂ (λ (x y : List ℕ). row_of (layer_of n m) (zero_of n m) (zero_of n j) file all x y i)
            (all-fresh made m m (omega arith) (omega arith)) (all-fresh made m j (omega arith) (link-ok file n taken m h).other-before)) ∙
            sym (get_or_at before next [] [] (suc m) long))
        | no e ↦ all-fresh made m t (omega arith) (omega arith) ∙ sym (get_or-append before (next ∷ []) [] t (omega arith))
      ]

-- The store holds the true sums: a load fills it with them, and a replacement keeps it so.
-- Assumes nothing.
use Prim.Native.Nat.{ℕ, zero, suc, ◌≤◌, ◌<◌}
use mathlib.Core.Path.{◌≡◌, refl, sym, ◌∙◌, ap, subst⁻¹}
use mathlib.Core.Logic.{◌≢◌}
use mathlib.Core.List.{List}
use native.Mathlib.Nat.{zero-add}
use native.Mathlib.Omega.{arith}
use native.Mathlib.Decide.{ℕ_discrete, dec_lt}
use lib.ListN.{length, length-append}
use lib.Seq.{take-add}
use Rattle.records.specs.Layer.{sums_of}
use Rattle.records.specs.declared.layer.Layer.{Layer}
use Rattle.records.specs.declared.layer.Kind.{Kind}
use Rattle.network.specs.Network.{layer_of}
use Rattle.network.specs.Decode.{decode_of}
use Rattle.network.specs.Taken.{Taken}
use Rattle.network.specs.declared.net.Network.{Network}
use Rattle.network.proofs.Places.{sums_apart, sums-in}
use Rattle.records.specs.Reader.{kind_at}
use Rattle.network.proofs.Kindred.{layer_as, Kindred, kindred-sums, kindred-terms}
use Rattle.lists.specs.Lists.{pasted, joined, part}
use Rattle.lists.proofs.Pasted.{part-part, part-pasted, pasted_length, part_before, part-after}
use Rattle.layers.specs.Sums.{layer_sums}
use Rattle.layers.proofs.Local.{SameSums, sums-local}
use Rattle.layers.proofs.Lengths.{sums_length}
use Rattle.updates.specs.Recompute.{network_sums}
use Rattle.updates.proofs.Fills.{sums_to, sums-begin, network-sums-length}
use Rattle.facts.specs.Demand2.{TrueSums}
use Rattle.facts.proofs.Tensors.{piece}
use Rattle.facts.proofs.Alike.{rewritten_file, Exchanged}

-- a list that has each piece where it stands has all of them at its front
pub pieces : (d : List ℕ) (f : ℕ → List ℕ) (n : ℕ) → ((m : ℕ) → m < n → part d (length (joined m f)) (length (f m)) ≡ f m)
    → part d 0 (length (joined n f)) ≡ joined n f
unfolding joined
pieces d f zero h = refl
pieces d f (suc n) h =
    rw (length-append, take-add, pieces d f n (λ m g. h m (omega arith)), h n (omega arith))

-- ---- the sums of a network

module _ (file : List ℕ) (n : Network) (t : Taken file n) where
  -- where a layer's sums stand among all of them is where they stand in the store
  placed :
      (d : List ℕ) (m : ℕ) →
      m < n.count →
      part d (length (sums_to n file m)) (length (layer_sums (layer_of n m) file)) ≡ part d (layer_of n m).sums (sums_of (layer_of n m).kind)
  placed d m h = rw (sums-begin file n t m h, sums_length (layer_of n m) file)

  module _ (sums : List ℕ) where
    -- a store with all the true sums has those of each layer
    pub true-each : part sums 0 n.store ≡ network_sums n file → (m : ℕ) → m < n.count → TrueSums n file sums m
    true-each e m h =
        let y = layer_of n m in
        ap (λ (k : ℕ). part sums k (sums_of y.kind)) (sym (zero-add y.sums)) ∙
        sym (part-part sums 0 n.store y.sums (sums_of y.kind) (sums-in file n t m h)) ∙
        ap (λ (d : List ℕ). part d y.sums (sums_of y.kind)) e ∙
        sym (placed (network_sums n file) m h) ∙
        piece (λ k. layer_sums (layer_of n k) file) n.count m h

    -- and the other way round
    pub true-all : ((m : ℕ) → m < n.count → TrueSums n file sums m) → part sums 0 n.store ≡ network_sums n file
    true-all each =
        ap (part sums 0) (sym (network-sums-length file n t)) ∙
        pieces sums (λ k. layer_sums (layer_of n k) file) n.count (λ m h. placed sums m h ∙ each m h)

  -- a load fills them in
  pub true-filled : (sums : List ℕ) → part (pasted sums 0 (network_sums n file)) 0 n.store ≡ network_sums n file
  true-filled sums = part-pasted sums (network_sums n file) 0 n.store (network-sums-length file n t) (omega arith)

-- ---- a replacement

-- a layer with kindred parameters has the same true sums
pub sums_kindred : (y : Layer) (κ : Kind) (file : List ℕ) → Kindred y.kind κ → layer_sums (layer_as y κ) file ≡ layer_sums y file
unfolding layer_sums
sums_kindred y κ file h = rw (kindred-sums y.kind κ h, kindred-terms y.kind κ h y.input)

-- a store has the true sums of a layer
abbrev TrueOf : List ℕ → List ℕ → Layer → Type 0
TrueOf file sums y = part sums y.sums (sums_of y.kind) ≡ layer_sums y file

-- the store with the true sums of layer k of the file t, whose network was n
abbrev pub refilled : Network → ℕ → List ℕ → List ℕ → List ℕ
refilled n k t sums = pasted sums (layer_of n k).sums (layer_sums (layer_of n k) t)

module _ (s : List ℕ) (n : Network) (t : Taken s n) (k : ℕ) (few : k < n.count) (file sums : List ℕ) (room : n.store ≤ length sums) where
  -- the sums of every other layer stay
  pub others-kept : (m : ℕ) → m < n.count → m ≢ k → SameSums (layer_of n m) (refilled n k file sums) sums
  others-kept m h e =
      let y = layer_of n k in
      let x = layer_of n m in
      let here = sums-in s n t k few in
      elim (dec_lt m k) [
        | yes b ↦ part_before sums (layer_sums y file) y.sums x.sums (sums_of x.kind) (sums_apart s n t m k b few) (omega arith)
        | no b ↦
            part-after sums (layer_sums y file) y.sums x.sums (sums_of x.kind)
            (omega (arith, sums_length y file, sums_apart s n t k m (omega arith) h)) (omega arith)
      ]

  -- the store is as long as it was
  pub refilled-length : length (refilled n k file sums) ≡ length sums
  refilled-length =
      pasted_length sums (layer_of n k).sums (layer_sums (layer_of n k) file)
      (omega (arith, sums_length (layer_of n k) file, sums-in s n t k few))

module _
    (s : List ℕ)
    (k : ℕ)
    (r : List ℕ)
    (n' : Network)
    (x : Exchanged s k r n')
    (t : Taken s (decode_of s).network)
    (few : k < (decode_of s).network.count)
    (like : Kindred (layer_of (decode_of s).network k).kind (kind_at (layer_of (decode_of s).network k).mark r 0))
    (sums : List ℕ)
    (room : (decode_of s).network.store ≤ length sums)
    (each : (m : ℕ) → m < (decode_of s).network.count → TrueSums (decode_of s).network s sums m) where
  -- the store has the true sums of each layer again
  pub true-again :
      (m : ℕ) →
      m < (decode_of s).network.count →
      TrueSums n' (rewritten_file s k r) (refilled (decode_of s).network k (rewritten_file s k r) sums) m
  true-again m h =
      let n = (decode_of s).network in
      let y = layer_of n k in
      let file = rewritten_file s k r in
      elim (ℕ_discrete m k) [
        | yes e ↦
            rw e
            (subst⁻¹ (TrueOf file (refilled n k file sums)) x.layer
            (part-pasted sums (layer_sums y file) y.sums _ (sums_length y file ∙ sym (kindred-sums y.kind (kind_at y.mark r 0) like)) (omega (arith, sums-in s n t k few)) ∙
            sym (sums_kindred y _ file like)))
        | no e ↦
            subst⁻¹ (TrueOf file (refilled n k file sums)) (x.others m e)
            (others-kept s n t k few file sums room m h e ∙ each m h ∙ sym (sums-local (layer_of n m) file s (x.records m h e)))
      ]

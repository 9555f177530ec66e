-- A replacement that test 9 lets pass: what the file then holds, and that its network is like the one before.
-- Assumes nothing.
use Prim.Native.Nat.{ℕ, zero, suc, ◌<◌}
use mathlib.Core.Path.{◌≡◌, refl, ◌∙◌, ap, subst⁻¹}
use mathlib.Core.Logic.{◌≢◌}
use mathlib.Core.List.{List}
use native.Mathlib.Omega.{arith}
use native.Mathlib.Decide.{ℕ_discrete, dec_lt}
use lib.ListN.{length}
use Rattle.records.specs.Layer.{record_len}
use Rattle.records.specs.Reader.{kind_at}
use Rattle.records.specs.declared.layer.Kind.{Kind}
use Rattle.records.specs.declared.layer.Kind.TheVariants.{Conv, Full, Add}
use Rattle.records.specs.declared.layer.Layer.{Layer}
use Rattle.network.specs.Network.{layer_of, place_of}
use Rattle.network.specs.Decode.{decode_of}
use Rattle.network.specs.Replace.{replace_fault}
use Rattle.network.specs.declared.net.Network.{Network}
use Rattle.network.specs.Decode.{Decoded}
use Rattle.network.proofs.Taken.{taken}
use Rattle.network.proofs.Places.{records-apart, records-in}
use Rattle.network.proofs.Kindred.{bare, Kindred, kindred_same, layer_as, replace_fit, fit_kindred}
use Rattle.network.proofs.Reread.{with_kind, with-field, with-tensor, with-here, with-others, replaced_decodes}
use Rattle.lists.specs.Lists.{pasted}
use Rattle.lists.proofs.Pasted.{part_before, part-after}
use Rattle.layers.proofs.Local.{SameRecord}
use Rattle.checks.specs.Tensors.{link_by}
use Rattle.facts.proofs.Model.{Alike}

-- a network is like itself
pub alike_same : (n : Network) → Alike n n
alike_same n = record { count = refl; area = refl; store = refl; tensors = λ t. refl; places = λ t. refl; links = λ m h. refl }

-- a layer hangs on its inputs as before where its new parameters are kindred to the old ones
link_kindred : (y : Layer) (κ : Kind) (m : ℕ) → Kindred y.kind κ → link_by κ (layer_as y κ) m ≡ link_by y.kind y m
link_kindred y κ m = kindred_same (λ x. link_by x (layer_as y x) m) by_kind y.kind κ where
  by_kind : (x : Kind) → link_by (bare x) (layer_as y (bare x)) m ≡ link_by x (layer_as y x) m
  by_kind (Conv c) = refl
  by_kind (Full f) = refl
  by_kind (Add a) = refl

-- a network is like the one with such parameters at one layer
pub alike_with :
    (n : Network) (k : ℕ) (κ : Kind) →
    k < length n.layers →
    Kindred (layer_of n k).kind κ →
    Alike n (with_kind n k κ)
alike_with n k κ few like = record {
  count = refl;
  area = refl;
  store = refl;
  tensors = with-tensor n k κ;
  places = places;
  links = λ m h.
      elim (ℕ_discrete m k) [
        | yes e ↦ rw e (ap (λ (y : Layer). link_by y.kind y k) (with-here n k κ few) ∙ link_kindred (layer_of n k) κ k like)
        | no e ↦ ap (λ (y : Layer). link_by y.kind y m) (with-others n k κ m e)
      ];
}
  where
    places : (t : ℕ) → place_of (with_kind n k κ) t ≡ place_of n t
    places zero = refl
    places (suc m) = with-field n k κ (λ (y : Layer). y.place) refl m

-- the file with the record r written over that of layer k
abbrev pub rewritten_file : List ℕ → ℕ → List ℕ → List ℕ
rewritten_file s k r = pasted s (layer_of (decode_of s).network k).start r

-- what a replacement that passes leaves of the network of the file s
pub record Exchanged (s : List ℕ) (k : ℕ) (r : List ℕ) (n' : Network) : Type 0 where
  pub fault : (decode_of (rewritten_file s k r)).fault ≡ 0
  pub alike : Alike (decode_of s).network n'
  pub head : n'.zero ≡ (decode_of s).network.zero
  pub layer : layer_of n' k ≡ layer_as (layer_of (decode_of s).network k) (kind_at (layer_of (decode_of s).network k).mark r 0)
  pub others : (m : ℕ) → m ≢ k → layer_of n' m ≡ layer_of (decode_of s).network m
  pub records : (m : ℕ) → m < (decode_of s).network.count → m ≢ k → SameRecord (layer_of (decode_of s).network m) (rewritten_file s k r) s

module _
    (s : List ℕ)
    (k : ℕ)
    (r : List ℕ)
    (good : (decode_of s).fault ≡ 0)
    (few : k < (decode_of s).network.count)
    (fault : replace_fault s (layer_of (decode_of s).network k) r ≡ 0) where
  -- the new record is as long as the old one, and its parameters are kindred
  nine-long : length r ≡ record_len (layer_of (decode_of s).network k)
  nine-long = (replace_fit s (layer_of (decode_of s).network k) r fault).0

  pub nine-kindred : Kindred (layer_of (decode_of s).network k).kind (kind_at (layer_of (decode_of s).network k).mark r 0)
  nine-kindred =
      let y = layer_of (decode_of s).network k in
      fit_kindred s y r 0 ((taken s good).layers k few).kind.read (replace_fit s y r fault).1

  -- the file with it is taken, and its network has other parameters at layer k
  read_again :
      decode_of (rewritten_file s k r) ≡
      record { fault = 0; network = with_kind (decode_of s).network k (kind_at (layer_of (decode_of s).network k).mark r 0) }
  unfolding pasted
  read_again = replaced_decodes s k r good few fault

  -- every other record stands as it was
  others-stand : (m : ℕ) → m < (decode_of s).network.count → m ≢ k → SameRecord (layer_of (decode_of s).network m) (rewritten_file s k r) s
  others-stand m h e =
      let n = (decode_of s).network in
      let t = taken s good in
      let here = records-in s n t k few in
      elim (dec_lt m k) [
        | yes b ↦ part_before s r (layer_of n k).start (layer_of n m).start (record_len (layer_of n m)) (records-apart s n t m k b few) (omega arith)
        | no b ↦
            part-after s r (layer_of n k).start (layer_of n m).start (record_len (layer_of n m))
            (omega (arith, nine-long, records-apart s n t k m (omega arith) h)) (omega arith)
      ]

  -- all that is left of the network
  pub exchanged : Exchanged s k r (decode_of (rewritten_file s k r)).network
  exchanged =
      let n = (decode_of s).network in
      let κ = kind_at (layer_of n k).mark r 0 in
      let e : (decode_of (rewritten_file s k r)).network ≡ with_kind n k κ = ap (λ (d : Decoded). d.network) read_again in
      let sixteen : k < length n.layers = omega (arith, (taken s good).sixteen, (taken s good).count-few) in
      subst⁻¹ (Exchanged s k r) e
      (record {
        fault = ap (λ (d : Decoded). d.fault) read_again;
        alike = alike_with n k κ sixteen nine-kindred;
        head = refl;
        layer = with-here n k κ sixteen;
        others = with-others n k κ;
        records = others-stand;
      })

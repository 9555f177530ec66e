-- The sums of the layers stand one after another, so layer after layer fills the front of the store with all of them.
-- Assumes nothing.
use Prim.Native.Nat.{ℕ, zero, suc, ◌+◌, ◌-◌, ◌*◌, ◌≤◌, ◌<◌}
use mathlib.Core.Path.{◌≡◌, refl, sym, ◌∙◌}
use mathlib.Core.List.{List}
use native.Mathlib.Omega.{arith}
use lib.ListN.{length, length-append}
use Rattle.fields.specs.Stored.{stored_len}
use Rattle.records.specs.Layer.{sums_of, terms_of, weights_at}
use Rattle.records.specs.declared.layer.Layer.{Layer}
use Rattle.network.specs.Network.{layer_of}
use Rattle.network.specs.Taken.{Taken}
use Rattle.network.specs.declared.net.Network.{Network}
use Rattle.lists.specs.Lists.{pasted, joined}
use Rattle.lists.proofs.Pasted.{pasted_nil, pasted_more, joined_step, joined_done}
use Rattle.layers.specs.Sums.{layer_sums}
use Rattle.layers.proofs.Lengths.{sums_length}
use Rattle.updates.specs.Recompute.{network_sums}

-- the sums of the first m layers
abbrev pub sums_to : Network → List ℕ → ℕ → List ℕ
sums_to n file m = joined m (λ k. layer_sums (layer_of n k) file)

module _ (file : List ℕ) (n : Network) (t : Taken file n) where
  -- the sums of one layer more
  next-length : (m : ℕ) → length (sums_to n file (suc m)) ≡ length (sums_to n file m) + sums_of (layer_of n m).kind
  unfolding joined
  next-length m = length-append (sums_to n file m) _ ∙ omega (arith, sums_length (layer_of n m) file)

  -- a layer's sums begin where those before it end
  pub sums-begin : (m : ℕ) → m < n.count → length (sums_to n file m) ≡ (layer_of n m).sums
  unfolding joined
  sums-begin zero h = sym t.first-sums
  sums-begin (suc m) h = omega (arith, next-length m, sums-begin m (omega arith), t.next-sums m h)

  -- and all of them take what the network says
  pub network-sums-length : length (network_sums n file) ≡ n.store
  network-sums-length = go n.count refl
    where
      go : (k : ℕ) → n.count ≡ k → length (sums_to n file n.count) ≡ n.store
      go zero e = absurd (omega (arith, t.count-some))
      go (suc m) e =
          let last : n.count - 1 ≡ m = omega arith in
          let h : m < n.count = omega arith in
          rw e (omega (arith, next-length m, sums-begin m h, rw last at t.store-end))

  -- a layer's weights stand in the file
  pub weights-in :
      (m : ℕ) →
      m < n.count →
      weights_at (layer_of n m) + sums_of (layer_of n m).kind * terms_of (layer_of n m).kind (layer_of n m).input ≤ length file
  unfolding stored_len
  weights-in m h = omega (arith, (t.layers m h).record-in)

-- the sums of the first m layers are filled in
pub record Filled (n : Network) (file before sums : List ℕ) (m : ℕ) : Type 0 where
  pub few : m ≤ n.count
  pub is : sums ≡ pasted before 0 (sums_to n file m)
  pub same : length sums ≡ length before

module _ (n : Network) (file before : List ℕ) where
  pub fill_none : Filled n file before before 0
  unfolding joined
  fill_none = record { few = omega arith; is = sym (pasted_nil before 0); same = refl }

  -- a turn that fills in the next layer's
  pub fill-turn :
      (m : ℕ) (y : Layer) {d d' : List ℕ} →
      Taken file n →
      m < n.count →
      Filled n file before d m →
      y ≡ layer_of n m →
      d' ≡ pasted d y.sums (layer_sums y file) →
      length d' ≡ length d →
      Filled n file before d' (m + 1)
  fill-turn m y {d} {d'} t h v ey e same = record {
    few = omega arith;
    is =
        let at : (layer_of n m).sums ≡ 0 + (layer_of n m).sums = omega arith in
        rw (e, ey, v.is, at, joined_step)
        (pasted_more before 0 (layer_of n m).sums (sums_to n file m) (layer_sums (layer_of n m) file) (sums-begin file n t m h) (omega arith));
    same = same ∙ v.same;
  }

  pub fill_done : (m : ℕ) {d : List ℕ} → Filled n file before d m → n.count ≤ m → d ≡ pasted before 0 (network_sums n file)
  fill_done m v h = joined_done before 0 (λ k. layer_sums (layer_of n k) file) (omega (arith, v.few)) v.is

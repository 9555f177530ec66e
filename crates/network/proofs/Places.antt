-- Where the tensors, the records and the sums of a network stand: one after another, and within what holds them.
-- Assumes nothing.
use Prim.Native.Nat.{ℕ, zero, suc, ◌+◌, ◌≤◌, ◌<◌}
use mathlib.Core.Path.{◌≡◌}
use mathlib.Core.List.{List}
use native.Mathlib.Omega.{arith}
use native.Mathlib.Decide.{dec_lt}
use lib.ListN.{length}
use Rattle.fields.specs.Shape.{bytes_of}
use Rattle.records.specs.Layer.{sums_of, record_len}
use Rattle.network.specs.Network.{layer_of, tensor_of, place_of}
use Rattle.network.specs.Taken.{Taken}
use Rattle.network.specs.declared.net.Network.{Network}

-- pieces of which each begins where the one before it ends
module _ (from size : ℕ → ℕ) (count : ℕ) (next : (m : ℕ) → suc m < count → from (suc m) ≡ from m + size m) where
  -- the earlier one ends before the later one begins
  apart : (m k : ℕ) → m < k → k < count → from m + size m ≤ from k
  apart m zero h g = absurd (omega arith)
  apart m (suc k) h g = by_place (dec_lt m k) (λ p. apart m k p (omega arith)) where
    by_place : Dec (m < k) → (m < k → from m + size m ≤ from k) → from m + size m ≤ from (suc k)
    by_place (yes p) before = omega (arith, before p, next k g)
    by_place (no p) before = let e : k ≡ m = omega arith in rw e (omega (arith, next m (rw e at g)))

module _ (s : List ℕ) (n : Network) (t : Taken s n) where
  tensor-next : (m : ℕ) → suc m < suc n.count → place_of n (suc m) ≡ place_of n m + bytes_of (tensor_of n m)
  tensor-next m h = (t.layers m (omega arith)).place

  -- tensors do not overlap
  pub tensors-apart : (u v : ℕ) → u < v → v ≤ n.count → place_of n u + bytes_of (tensor_of n u) ≤ place_of n v
  tensors-apart u v h g = apart (place_of n) (λ k. bytes_of (tensor_of n k)) (suc n.count) tensor-next u v h (omega arith)

  -- and end within the area
  pub tensors-in : (u : ℕ) → u ≤ n.count → place_of n u + bytes_of (tensor_of n u) ≤ n.area
  tensors-in u h = by_place (dec_lt u n.count) where
    by_place : Dec (u < n.count) → place_of n u + bytes_of (tensor_of n u) ≤ n.area
    by_place (yes p) = omega (arith, tensors-apart u n.count p (omega arith), t.area-end)
    by_place (no p) = let e : u ≡ n.count = omega arith in rw e (omega (arith, t.area-end))

  -- records do not overlap; each ends within the file, and begins after the head
  pub records-apart :
      (m k : ℕ) →
      m < k →
      k < n.count →
      (layer_of n m).start + record_len (layer_of n m) ≤ (layer_of n k).start
  records-apart m k h g =
      apart (λ i. (layer_of n i).start) (λ i. record_len (layer_of n i)) n.count t.next_start m k h g

  pub records-in : (m : ℕ) → m < n.count → (layer_of n m).start + record_len (layer_of n m) ≤ length s
  records-in m h = (t.layers m h).record-in

  -- the sums of layers do not overlap, and end within the store
  pub sums_apart :
      (m k : ℕ) →
      m < k →
      k < n.count →
      (layer_of n m).sums + sums_of (layer_of n m).kind ≤ (layer_of n k).sums
  sums_apart m k h g =
      apart (λ i. (layer_of n i).sums) (λ i. sums_of (layer_of n i).kind) n.count t.next-sums m k h g

  pub sums-in : (m : ℕ) → m < n.count → (layer_of n m).sums + sums_of (layer_of n m).kind ≤ n.store
  sums-in m h = (t.layers m h).sums-end

-- How many bytes an update recomputes.
-- Assumes nothing.
use Prim.Native.Nat.{ℕ, zero, suc, ◌+◌, ◌-◌, ◌*◌, ◌≤◌, min}
use mathlib.Core.Path.{◌≡◌, ◌∙◌, ap}
use mathlib.Core.List.{List}
use native.Mathlib.Nat.{mul-le-mul_right}
use native.Mathlib.Omega.{arith}
use native.Mathlib.Decide.{dec_le, dec_lt}
use Rattle.fields.specs.Shape.{bytes_of, row_bytes}
use Rattle.fields.specs.declared.shape.Shape.{Shape}
use Rattle.network.specs.Network.{tensor_of, place_of}
use Rattle.network.specs.Taken.{Taken}
use Rattle.network.specs.declared.net.Network.{Network}
use Rattle.network.proofs.Places.{tensors-in}
use Rattle.bands.specs.Band.{In}
use Rattle.bands.specs.declared.band.Band.{Band}
use Rattle.bands.specs.declared.state.State.{State}
use Rattle.bands.proofs.Bands.{dec_in, in_test, out_test}
use Rattle.updates.specs.Recompute.{grown_band_of, bytes_in, count_to}

-- of the first k rows those from first up to end
bytes_below : (b : Band) (k w : ℕ) → bytes_in b k w ≡ (min k b.end - b.first) * w
unfolding bytes_in
bytes_below b zero w = let none : min 0 b.end - b.first ≡ 0 = omega arith in rw none (omega arith)
bytes_below b (suc k) w =
    elim (dec_in k b) [
      | yes h ↦
          let more : min (suc k) b.end - b.first ≡ suc (min k b.end - b.first) = omega arith in
          rw (in_test k b h, bytes_below b k w, more) (omega arith)
      | no h ↦
          let same : min (suc k) b.end - b.first ≡ min k b.end - b.first = outside k b h in
          rw (out_test k b h, bytes_below b k w, same) (omega arith)
    ]
  where
    outside : (k : ℕ) (b : Band) → (In k b → ⊥) → min (suc k) b.end - b.first ≡ min k b.end - b.first
    outside k b h =
        elim (dec_le b.first k) [
          | yes p ↦ elim (dec_lt k b.end) [ yes q ↦ absurd (h (p, q)) | no q ↦ omega arith ]
          | no p ↦ omega arith
        ]

-- the bytes of a band within its tensor
pub bytes_in_lem : (b : Band) (rows w : ℕ) → b.end ≤ rows → bytes_in b rows w ≡ (b.end - b.first) * w
bytes_in_lem b rows w h = let least : min rows b.end ≡ b.end = omega arith in bytes_below b rows w ∙ ap (λ (k : ℕ). (k - b.first) * w) least

-- are no more than the tensor's
pub bytes_few : (b : Band) (x : Shape) → bytes_in b x.rows (row_bytes x) ≤ bytes_of x
unfolding bytes_of
bytes_few b x =
    let w = row_bytes x in
    omega (arith, bytes_below b x.rows w, mul-le-mul_right {m = min x.rows b.end - b.first} {n = x.rows} w (omega arith))

module _ (file : List ℕ) (n : Network) (t : Taken file n) (s : State) where
  -- no more bytes are recomputed than the tensors have
  pub count-few : (m : ℕ) → m ≤ n.count → count_to n s m ≤ place_of n m + bytes_of (tensor_of n m)
  unfolding count_to
  count-few zero h = omega arith
  count-few (suc m) h =
      omega (arith, count-few m (omega arith), (t.layers m h).place, bytes_few (grown_band_of n s (suc m)) (tensor_of n (suc m)))

  pub count-in : (m : ℕ) → m ≤ n.count → count_to n s m ≤ 65536
  count-in m h = omega (arith, count-few m h, tensors-in file n t m h, t.area-few)

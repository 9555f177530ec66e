-- The grown bands of a state are those of the model.
-- Assumes nothing.
use Prim.Native.Nat.{ℕ, zero, suc, ◌≤◌, ◌<◌}
use mathlib.Core.Path.{◌≡◌, refl, sym, ap, ◌∙◌, fun_ext}
use native.Mathlib.Omega.{arith}
use native.Mathlib.Decide.{ℕ_discrete}
use lib.ListN.{length}
use lib.Seq.{get_or-set_same, get_or-set_other}
use Rattle.bands.specs.declared.band.Band.{Band}
use Rattle.bands.specs.declared.state.State.{State}
use Rattle.bands.specs.Band.{none}
use Rattle.bands.specs.State.{band_of, with_band}
use Rattle.bands.specs.Grow.{grown_band, grow_one, grown}
use Rattle.histories.specs.Kept.{put, grow_step, grow_to, grown_of}
use Rattle.histories.specs.Chain.{Chain, windowed}
use Rattle.bands.proofs.Grow.{length_grow}
use Rattle.histories.proofs.Kept.{put_same, put_other, grow-keeps}

-- a store to the state is one to the bands
bands_set : (s : State) (k : ℕ) (b : Band) → k < length s.bands → band_of (with_band s k b) ≡ put (band_of s) k b
bands_set s k b hk = fun_ext (λ t.
    elim (ℕ_discrete t k) [
      | yes e ↦ rw e (get_or-set_same s.bands k b none hk ∙ sym (put_same (band_of s) k b))
      | no e ↦ get_or-set_other s.bands k t b none e ∙ sym (put_other (band_of s) k b t e)
    ])

module _ (Row Net Par Zp : Type 0) (G : Chain) (par : Net → ℕ → Par) (zp : Net → ℕ → Zp) (row_of : Net → ℕ → (ℕ → ℕ → Row) → ℕ → Row)
    (s : State) (room : G.n < length s.bands) where
  pub grow-is : (m : ℕ) → m ≤ G.n → band_of (grown s G.links m) ≡ grow_to (windowed Row Net Par Zp G par zp row_of) m (band_of s)
  unfolding grown grow_one grow_to grow_step
  grow-is zero hm = refl
  grow-is (suc m) hm =
      let g = grown s G.links m in
      bands_set g (suc m) (grown_band g (G.links m) m) (omega (arith, length_grow s G.links m))
      ∙ ap (grow_step (windowed Row Net Par Zp G par zp row_of) m) (grow-is m (omega arith))

  -- once the layers up to it are done, a tensor has its grown band
  pub grown-is : (m t : ℕ) → m ≤ G.n → t ≤ m → band_of (grown s G.links m) t ≡ grown_of (windowed Row Net Par Zp G par zp row_of) (band_of s) t
  grown-is m t hm ht = ap (λ f. f t) (grow-is m hm) ∙ grow-keeps (windowed Row Net Par Zp G par zp row_of) m t (band_of s) ht

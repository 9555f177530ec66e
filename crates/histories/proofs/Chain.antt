-- Layers that are all windowed keep the laws of the model, given that their rows are local.
-- Assumes nothing.
use Prim.Native.Nat.{ℕ, suc, ◌<◌}
use mathlib.Core.Path.{refl}
use mathlib.Core.Logic.{inl, inr, ⊎_elim}
use native.Mathlib.Omega.{arith}
use Rattle.bands.specs.Within.{Sees}
use Rattle.histories.specs.Model.{Laws}
use Rattle.histories.specs.Chain.{Chain, rows_in, SoundChain, windowed, Local}
use Rattle.bands.proofs.Bands.{cover_left, cover_right, cover_least}
use Rattle.bands.proofs.Reached.{reached-in, reached-least, window_real}

module _ (Row Net Par Zp : Type 0) (G : Chain) (par : Net → ℕ → Par) (zp : Net → ℕ → Zp) (row_of : Net → ℕ → (ℕ → ℕ → Row) → ℕ → Row) where
  pub windowed-laws : SoundChain G → Local Row Net Par Zp G par zp row_of → Laws (windowed Row Net Par Zp G par zp row_of)
  windowed-laws s l = record {
    other-before = s.other-before;
    reads_before = λ m i t r hm hi x. ⊎_elim (λ e. omega arith) (λ e. omega (arith, s.other-before m hm)) x.0;
    reads_first = λ m i hm hi.
        let w = real m i hm hi in
        (w.0, (inl refl, w.1), w.2);
    reads_other = λ m i hm hi.
        let w = real m i hm hi in
        (w.0, (inr refl, w.1), omega (arith, w.2, s.other-rows m hm));
    reach-covers = λ m i t r B hm hi x w. ⊎_elim
        (λ e. cover_left _ _ i (reached-in (B m) (G.links m) i hi (r, rw e at w, x.1)))
        (λ e. cover_right _ _ i (reached-in (B (G.links m).other) (G.links m) i hi (r, rw e at w, x.1)))
        x.0;
    reach-least = λ m B c hm h. cover_least _ _ c
        (reached-least (B m) (G.links m) c (λ i hi w. h i m w.0 hi (inl refl, w.2) w.1))
        (reached-least (B (G.links m).other) (G.links m) c (λ i hi w. h i (G.links m).other w.0 hi (inr refl, w.2) w.1));
    row_local = l.row_local;
    zp-local = l.zp-local;
  }
    where
      real : (m i : ℕ) → m < G.n → i < rows_in G (suc m) → (r : ℕ) × Sees (G.links m) i r × (r < rows_in G m)
      real m i hm hi = window_real (G.links m) (rows_in G m) i (s.before-less m hm) (s.some-rows m (omega arith)) (s.starts m i hm hi)

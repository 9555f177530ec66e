-- A load has, and each call on the bytes of the area keeps, what the model's steps keep.
-- Assumes nothing.
use Prim.Native.Nat.{ℕ, suc, ◌≤◌, ◌<◌, ◌+◌, ◌*◌}
use mathlib.Core.Path.{◌≡◌, ap, ◌∙◌}
use mathlib.Core.Logic.{inl, inr}
use mathlib.Core.List.{List}
use native.Mathlib.Nat.{mul-le-mul_right}
use native.Mathlib.Omega.{arith}
use native.Mathlib.Decide.{dec_lt}
use lib.ListN.{length, get_or-replicate}
use lib.Seq.{get_or-set_same, get_or-set_other}
use borrow.Author.Tests.{le-leb}
use Rattle.lists.specs.Asked.{Apart}
use Rattle.bands.specs.declared.state.Tensors.{Tensors}
use Rattle.bands.specs.Band.{none, band, In}
use Rattle.bands.specs.State.{band_of, state_fault, loaded}
use Rattle.histories.specs.Model.{Model, Laws}
use Rattle.histories.specs.Kept.{grown_of, whole, Sys, Kept}
use Rattle.histories.specs.Area.{Layout, row_place, view, SideBySide}
use Rattle.histories.specs.Calls.{AreaSys, Tells, Changing, Replacing, Updating}
use Rattle.bands.proofs.Bands.{past}
use Rattle.bands.proofs.States.{passed-fair, loaded_at}
use Rattle.histories.proofs.Kept.{grown-within, kept-load, kept-change, kept-replace, kept-update}
use Rattle.histories.proofs.Area.{area-redone, part_sets, row_end}

module _ (L : Model (List ℕ)) (Y : Layout) where
  abbrev pub sys : AreaSys L Y → Sys L
  sys s = record { net = s.net; store = view Y s.area; bands = band_of s.state }

  -- a state that passed test 5 has its bands within the tensors
  pub passed-within : (s : AreaSys L Y) (n : Tensors) → L.n < 17 → Tells L Y n → state_fault s.state n ≡ 0
      → (t : ℕ) → t ≤ L.n → (band_of s.state t).end ≤ L.rows t
  passed-within s n few told h t ht = rw (told.rows t ht) at (passed-fair s.state n h t (omega arith) (omega (arith, told.count))).within

  module _ (law : Laws L) where
    -- the bands that a load leaves are whole
    pub loaded-keeps : (s : AreaSys L Y) (n : Tensors) → L.n < 17 → Tells L Y n → s.state ≡ loaded n → Kept L (sys s)
    loaded-keeps s n few told e =
        kept-load L law (sys s) (λ t ht.
        ap (λ z. band_of z t) e ∙ loaded_at n t (omega arith) ∙ rw (le-leb t n.count (omega (arith, told.count)), told.rows t ht))

    pub replacing-keeps : (k : ℕ) (s s' : AreaSys L Y) → Replacing L Y k s s' → Kept L (sys s) → Kept L (sys s')
    replacing-keeps k s s' c = kept-replace L law k (sys s) (sys s') (record {
      others = c.others;
      head = c.head;
      store = λ t i ht hi. ap (λ A. view Y A t i) c.area;
      band-k = ap (λ z. band_of z (suc k)) c.state
          ∙ get_or-set_same s.state.bands (suc k) (whole L (suc k)) none (omega (arith, c.fit.all, c.fit.few, c.layer));
      within = c.fit.within (suc k) c.layer;
      bands = λ t ht e. ap (λ z. band_of z t) c.state ∙ get_or-set_other s.state.bands (suc k) t (whole L (suc k)) none e;
    })

    module _ (laid : SideBySide L Y) where
      pub changing-keeps : (first count : ℕ) (bytes : List ℕ) (s s' : AreaSys L Y)
          → Changing L Y first count bytes s s' → Kept L (sys s) → Kept L (sys s')
      changing-keeps first count bytes s s' c = kept-change L law first (first + count) (sys s) (sys s') (record {
        net = c.net;
        outside = λ i hi w. ap (λ A. view Y A 0 i) c.area
            ∙ part_sets s.area bytes (row_place Y 0 first) (row_place Y 0 i) (Y.width 0) fits (aside i w);
        layers = λ m i hm hi. ap (λ A. view Y A (suc m) i) c.area
            ∙ part_sets s.area bytes (row_place Y 0 first) (row_place Y (suc m) i) (Y.width (suc m)) fits
            (inr (omega (arith, in-picture, laid.after 0 (suc m) (omega arith) hm)));
        band-0 = ap (λ z. band_of z 0) c.state ∙ get_or-set_same s.state.bands 0 _ none (omega (arith, c.fit.all));
        bands = λ m hm. ap (λ z. band_of z (suc m)) c.state ∙ get_or-set_other s.state.bands 0 (suc m) _ none (omega arith);
      })
        where
          in-picture : row_place Y 0 first + length bytes ≤ Y.off 0 + L.rows 0 * Y.width 0
          in-picture = omega (arith, c.right, mul-le-mul_right (Y.width 0) c.inside)

          fits : row_place Y 0 first + length bytes ≤ length s.area
          fits = omega (arith, in-picture, c.fit.room 0 (omega arith))

          aside : (i : ℕ) → (In i (band first (first + count)) → ⊥) → Apart (row_place Y 0 i) (Y.width 0) (row_place Y 0 first) (length bytes)
          aside i w =
              elim (dec_lt i first) [
                | yes h ↦ inl (row_end Y 0 i first h)
                | no h ↦ inr (omega (arith, c.right, mul-le-mul_right (Y.width 0) (past i (band first (first + count)) w (omega arith))))
              ]

      pub updating-keeps : (s s' : AreaSys L Y) → Updating L Y s s' → Kept L (sys s) → Kept L (sys s')
      updating-keeps s s' c = kept-update L law (sys s) (sys s') (record {
        net = c.net;
        store = rw c.area (area-redone L Y law laid s.net (grown_of L (band_of s.state)) s.area c.fit.room
            (grown-within L law (band_of s.state) (λ t ht i w. omega (arith, c.fit.within t ht))));
        bands = λ t ht. ap (λ z. band_of z t) c.state ∙ get_or-replicate 17 t none none (omega (arith, c.fit.few));
      })

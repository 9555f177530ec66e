-- The rows that an update of the list of bytes leaves are those that the model recomputes.
-- Assumes nothing.
use Prim.Native.Nat.{ℕ, zero, suc, ◌≤◌, ◌<◌, ◌+◌, ◌-◌, ◌*◌}
use mathlib.Core.Path.{◌≡◌, refl, sym, ap, ◌∙◌}
use mathlib.Core.Logic.{inl, inr}
use mathlib.Core.List.{List}
use native.Mathlib.Nat.{mul-le-mul_right}
use native.Mathlib.Omega.{arith}
use native.Mathlib.Decide.{ℕ_discrete, dec_lt}
use lib.ListN.{length}
use lib.Seq.{sets, sets-eq, length-sets}
use Rattle.lists.specs.Lists.{pasted, part}
use Rattle.lists.specs.Asked.{Apart}
use Rattle.bands.specs.declared.band.Band.{Band}
use Rattle.bands.specs.Band.{band, In}
use Rattle.bands.specs.Within.{Inside}
use Rattle.histories.specs.Model.{Bands, Model, Laws}
use Rattle.histories.specs.Kept.{redo, redo_to, whole, Recomputed}
use Rattle.histories.specs.Area.{Layout, row_place, view, SideBySide, Room, redo_row, redo_rows, redo_area}
use Rattle.lists.proofs.Pasted.{part_apart, part-pasted}
use Rattle.bands.proofs.Bands.{dec_in}
use Rattle.histories.proofs.Kept.{put_other, redo-meets, redo-in, redo-out, redo-later, recomputed-like}

-- ---- stores side by side

-- they are a part pasted in
pub sets_pasted : (d : List ℕ) (at : ℕ) (s : List ℕ) → at + length s ≤ length d → sets d at s ≡ pasted d at s
unfolding pasted
sets_pasted d at s h = sets-eq s d at h

-- a part that lies apart from them is as it was
pub part_sets : (d s : List ℕ) (at from n : ℕ) → at + length s ≤ length d → Apart from n at (length s) → part (sets d at s) from n ≡ part d from n
part_sets d s at from n h a = ap (λ l. part l from n) (sets_pasted d at s h) ∙ part_apart d s at from n a (omega arith)

-- ---- where the rows lie

pub row_end : (Y : Layout) (t i k : ℕ) → i < k → row_place Y t i + Y.width t ≤ Y.off t + k * Y.width t
row_end Y t i k h = omega (arith, mul-le-mul_right (Y.width t) h)

-- ---- an update

module _ (L : Model (List ℕ)) (Y : Layout) where
  length-row : (N : L.Net) (m i : ℕ) (A : List ℕ) → length (redo_row L Y N m i A) ≡ length A
  unfolding redo_row
  length-row N m i A = length-sets A (row_place Y (suc m) i) (L.row_of N m (view Y A) i)

  length-rows : (N : L.Net) (m f k : ℕ) (A : List ℕ) → length (redo_rows L Y N m f k A) ≡ length A
  unfolding redo_rows
  length-rows N m f zero A = refl
  length-rows N m f (suc k) A = length-row N m (f + k) (redo_rows L Y N m f k A) ∙ length-rows N m f k A

  pub length-redo : (N : L.Net) (C : Bands) (m : ℕ) (A : List ℕ) → length (redo_area L Y N C m A) ≡ length A
  unfolding redo_area
  length-redo N C zero A = refl
  length-redo N C (suc m) A = length-rows N m _ _ (redo_area L Y N C m A) ∙ length-redo N C m A

  module _ (law : Laws L) (laid : SideBySide L Y) where
    -- two rows do not overlap
    rows_apart : (t i u j : ℕ) → t ≤ L.n → u ≤ L.n → i < L.rows t → j < L.rows u → (t ≡ u → i ≡ j → ⊥)
        → Apart (row_place Y t i) (Y.width t) (row_place Y u j) (Y.width u)
    rows_apart t i u j ht hu hi hj ne =
        elim (dec_lt t u) [
          | yes h ↦ inl (omega (arith, row_end Y t i (L.rows t) hi, laid.after t u h hu))
          | no h ↦ elim (dec_lt u t) [
            | yes k ↦ inr (omega (arith, row_end Y u j (L.rows u) hj, laid.after u t k ht))
            | no k ↦
                let e : t ≡ u = omega arith in
                elim (dec_lt i j) [
                  | yes a ↦ inl (rw e (row_end Y u i j a))
                  | no a ↦ elim (dec_lt j i) [
                    | yes b ↦ inr (rw e (row_end Y u j i b))
                    | no b ↦ absurd (ne e (omega arith))
                  ]
                ]
          ]
        ]

    module _ (N : L.Net) (m i : ℕ) (hm : m < L.n) (hi : i < L.rows (suc m)) (A : List ℕ) (room : Room L Y (length A)) where
      row_fits : row_place Y (suc m) i + length (L.row_of N m (view Y A) i) ≤ length A
      row_fits = omega (arith, laid.wide N m i (view Y A) hm hi, row_end Y (suc m) i (L.rows (suc m)) hi, room (suc m) hm)

      redo-there : view Y (redo_row L Y N m i A) (suc m) i ≡ L.row_of N m (view Y A) i
      unfolding redo_row
      redo-there =
          ap (λ l. view Y l (suc m) i) (sets_pasted A (row_place Y (suc m) i) _ row_fits)
          ∙ part-pasted A _ (row_place Y (suc m) i) (Y.width (suc m)) (laid.wide N m i (view Y A) hm hi) (omega (arith, row_fits))

      redo-elsewhere : (t j : ℕ) → t ≤ L.n → j < L.rows t → (t ≡ suc m → j ≡ i → ⊥) → view Y (redo_row L Y N m i A) t j ≡ view Y A t j
      unfolding redo_row
      redo-elsewhere t j ht hj ne =
          part_sets A (L.row_of N m (view Y A) i) (row_place Y (suc m) i) (row_place Y t j) (Y.width t) row_fits
          (rw (laid.wide N m i (view Y A) hm hi) (rows_apart t j (suc m) i ht hm hj hi ne))

    module _ (N : L.Net) (m f : ℕ) (hm : m < L.n) (A : List ℕ) (room : Room L Y (length A)) where
      room-rows : (k : ℕ) → Room L Y (length (redo_rows L Y N m f k A))
      room-rows k = rw (length-rows N m f k A) room

      -- after k rows: all others are as they were
      rows_out : (k : ℕ) → f + k ≤ L.rows (suc m) → (t j : ℕ) → t ≤ L.n → j < L.rows t → (t ≡ suc m → In j (band f (f + k)) → ⊥)
          → view Y (redo_rows L Y N m f k A) t j ≡ view Y A t j
      unfolding redo_rows
      rows_out zero hk t j ht hj ne = refl
      rows_out (suc k) hk t j ht hj ne =
          redo-elsewhere N m (f + k) hm (omega arith) (redo_rows L Y N m f k A) (room-rows k) t j ht hj (λ e h. ne e (omega arith))
          ∙ rows_out k (omega arith) t j ht hj (λ e h. ne e (omega arith))

      -- layer m's row from what is stored then is its row from what was stored at first
      pub row-then : (k i : ℕ) → f + k ≤ L.rows (suc m) → i < L.rows (suc m)
          → L.row_of N m (view Y (redo_rows L Y N m f k A)) i ≡ L.row_of N m (view Y A) i
      row-then k i hk hi =
          law.row_local N N (view Y (redo_rows L Y N m f k A)) (view Y A) m i hm hi refl refl refl
          (λ t r x hr.
          let ht : t ≤ m = law.reads_before m i t r hm hi x in
          rows_out k hk t r (omega arith) hr (λ e h. omega arith))

      -- and these are recomputed
      rows_in : (k : ℕ) → f + k ≤ L.rows (suc m) → (i : ℕ) → In i (band f (f + k))
          → view Y (redo_rows L Y N m f k A) (suc m) i ≡ L.row_of N m (view Y A) i
      unfolding redo_rows
      rows_in zero hk i w = absurd (omega arith)
      rows_in (suc k) hk i w =
          elim (ℕ_discrete i (f + k)) [
            | yes e ↦ rw e (redo-there N m (f + k) hm (omega arith) (redo_rows L Y N m f k A) (room-rows k) ∙ row-then k (f + k) (omega arith) (omega arith))
            | no e ↦
                redo-elsewhere N m (f + k) hm (omega arith) (redo_rows L Y N m f k A) (room-rows k) (suc m) i hm (omega arith) (λ _ h. e h)
                ∙ rows_in k (omega arith) i (omega arith)
          ]

    -- one layer at a band that lies within its tensor
    module _ (N : L.Net) (m : ℕ) (b : Band) (hm : m < L.n) (hb : Inside b (whole L (suc m))) (A : List ℕ) (room : Room L Y (length A)) where
      After : List ℕ
      After = redo_rows L Y N m b.first (b.end - b.first) A

      layer-in : (i : ℕ) → In i b → view Y After (suc m) i ≡ L.row_of N m (view Y A) i
      unfolding After
      layer-in i w = rows_in N m b.first hm A room (b.end - b.first) (omega (arith, hb (b.end - 1) (omega arith))) i (omega arith)

      layer-out : (t j : ℕ) → t ≤ L.n → j < L.rows t → (t ≡ suc m → In j b → ⊥) → view Y After t j ≡ view Y A t j
      unfolding After redo_rows
      layer-out t j ht hj ne =
          elim (dec_lt b.first b.end) [
            | yes h ↦ rows_out N m b.first hm A room (b.end - b.first) (omega (arith, hb (b.end - 1) (omega arith))) t j ht hj (λ e w. ne e (omega arith))
            | no h ↦
                let z : b.end - b.first ≡ 0 = omega arith in
                ap (λ k. view Y (redo_rows L Y N m b.first k A) t j) z
          ]

    -- the rows of the list are those that the model recomputes, layer for layer
    module _ (N : L.Net) (C : Bands) (A : List ℕ) (room : Room L Y (length A)) (hC : (t : ℕ) → t ≤ L.n → Inside (C t) (whole L t)) where
      room-redo : (m : ℕ) → Room L Y (length (redo_area L Y N C m A))
      room-redo m = rw (length-redo N C m A) room

      pub area-redo : (M : ℕ) → M ≤ L.n → (t i : ℕ) → t ≤ L.n → i < L.rows t → view Y (redo_area L Y N C M A) t i ≡ redo_to L N C M (view Y A) t i
      unfolding redo_area redo_to redo After
      area-redo zero hM t i ht hi = refl
      area-redo (suc M) hM t i ht hi =
          elim (ℕ_discrete t (suc M)) [
            | yes e ↦
                let hi' : i < L.rows (suc M) = rw e at hi in
                rw e
                (elim (dec_in i (C (suc M))) [
                  | yes w ↦ layer-in N M (C (suc M)) hM (hC (suc M) hM) (redo_area L Y N C M A) (room-redo M) i w
                      ∙ law.row_local N N (view Y (redo_area L Y N C M A)) (redo_to L N C M (view Y A)) M i hM hi' refl refl refl
                      (λ t r x hr.
                      let ht : t ≤ M = law.reads_before M i t r hM hi' x in
                      area-redo M (omega arith) t r (omega arith) hr)
                      ∙ sym (redo-in L law N C (view Y A) M i w)
                  | no w ↦ layer-out N M (C (suc M)) hM (hC (suc M) hM) (redo_area L Y N C M A) (room-redo M) (suc M) i hM hi' (λ _ v. w v)
                      ∙ area-redo M (omega arith) (suc M) i hM hi'
                      ∙ ap (λ g. g i) (redo-later L law N C (view Y A) M (suc M) (omega arith))
                      ∙ sym (redo-out L law N C (view Y A) M i w)
                ])
            | no e ↦ layer-out N M (C (suc M)) hM (hC (suc M) hM) (redo_area L Y N C M A) (room-redo M) t i ht hi (λ h v. e h)
                ∙ area-redo M (omega arith) t i ht hi
                ∙ sym (ap (λ (g : ℕ → List ℕ). g i) (put_other (redo_to L N C M (view Y A)) (suc M) _ t e))
          ]

      -- so the list holds the rows in the bands recomputed, and the others as they were
      pub area-redone : Recomputed L N C (view Y A) (view Y (redo_area L Y N C L.n A))
      area-redone =
          recomputed-like L law N C (view Y A) (redo_to L N C L.n (view Y A)) (view Y (redo_area L Y N C L.n A))
          (redo-meets L law N C (view Y A)) (area-redo L.n (omega arith))

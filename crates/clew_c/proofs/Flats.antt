-- The 34 numbers, written two by two.
-- Assumes nothing.
use Prim.Native.Nat.{ℕ, suc, ◌+◌, ◌*◌, ◌≤◌, ◌<◌}
use mathlib.Core.Path.{◌≡◌, refl, ap, ◌∙◌}
use mathlib.Core.List.{List, [], ◌∷◌}
use native.Mathlib.Omega.{arith}
use lib.ListN.{length, get_or, set, replicate, length-set, length-replicate}
use lib.Seq.{take_all, drop-cons}
use Rattle.lists.specs.Lists.{pasted, part}
use Rattle.lists.proofs.Pasted.{pasted_one, pasted-set, pasted_whole, joined_length, joined-part}
use Rattle.lists.proofs.Laid.{Laid, laid_more, laid_done, joined_at}
use Rattle.bands.specs.Band.{band, none}
use Rattle.bands.specs.State.{band_of}
use Rattle.bands.specs.declared.state.State.{State}
use Rattle.clew_c.specs.Flat.{flat, state_of}

-- the numbers of the band of tensor t
abbrev pub pair : State → ℕ → List ℕ
pair s t = (band_of s t).first ∷ (band_of s t).end ∷ []

-- ---- the loop that writes them

-- the numbers of the first t bands stand in an array of 34
abbrev pub Written : State → List ℕ → ℕ → Type 0
Written s l t = Laid 17 (pair s) (replicate 34 0) 0 l t

-- two numbers stored one after another
two_stored : (l : List ℕ) (i a b : ℕ) → i + 1 < length l → set (set l i a) (i + 1) b ≡ pasted l i (a ∷ b ∷ [])
two_stored l i a b h = ap (λ d. set d (i + 1) b) (pasted_one l i a (omega arith)) ∙ pasted-set l i 1 b (a ∷ []) refl h

pub written_more : (s : State) (l : List ℕ) (t : ℕ) → t < 17 → Written s l t
    → Written s (set (set l (2 * t) (band_of s t).first) (2 * t + 1) (band_of s t).end) (t + 1)
written_more s l t h w =
    laid_more 17 (pair s) (replicate 34 0) 0 2 t (λ i. refl) (omega arith) h (omega arith) w
    (two_stored l (2 * t) _ _ (omega (arith, w.same, length-replicate {A = ℕ} 34 0)))
    (length-set (set l (2 * t) _) (2 * t + 1) _ ∙ length-set l (2 * t) _)

pub written_all : (s : State) {l : List ℕ} {t : ℕ} → Written s l t → 17 ≤ t → l ≡ flat s
written_all s w h =
    laid_done 17 (pair s) (replicate 34 0) 0 w h
    ∙ pasted_whole (replicate 34 0) (flat s) (joined_length 17 2 (pair s) (λ i. refl))

-- ---- 34 numbers handed in as a state and handed back are the same ones

pub flat_state : (l : List ℕ) → length l ≡ 34 → flat (state_of l) ≡ l
unfolding state_of
flat_state l e =
    joined-part 17 2 0 l (pair (state_of l)) two ∙ take_all 34 l (omega arith)
  where
    two : (t : ℕ) → t < 17 → pair (state_of l) t ≡ part l (0 + t * 2) 2
    two t h =
        let at : 0 + t * 2 ≡ 2 * t = omega arith in
        let next : 2 * t + 1 ≡ suc (2 * t) = omega arith in
        rw (joined_at 17 (λ u. band (get_or l (2 * u) 0) (get_or l (2 * u + 1) 0)) none t h, at, next, drop-cons l (2 * t) 0 (omega arith), drop-cons l (suc (2 * t)) 0 (omega arith)) refl

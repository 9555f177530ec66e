-- What a recomputation of the rows in bands leaves, and that a load has and each call keeps what `Kept` of specs/Kept.antt says.
-- Assumes nothing.
use mathlib.Core.Bool.{cond}
use Prim.Native.Nat.{ℕ, zero, suc, ◌≤◌, ◌<◌}
use mathlib.Core.Path.{◌≡◌, refl, sym, ap, ◌∙◌}
use mathlib.Core.Logic.{◌⊎◌, inl, inr, ◌≢◌}
use native.Mathlib.Omega.{arith}
use native.Mathlib.Decide.{ℕ_discrete}
use borrow.Author.Tests.{eq-eqb, ne_eqb}
use Rattle.bands.specs.declared.band.Band.{Band}
use Rattle.bands.specs.Band.{in_band, cover, In}
use Rattle.bands.specs.Within.{Inside}
use Rattle.histories.specs.Model.{Bands, Model, Laws}
use Rattle.histories.specs.Kept.{put, Store, grow_step, grow_to, grown_of, redo, redo_to, whole, Recomputed, Sys, ChangeStep, ReplaceStep, UpdateStep, Kept}
use Rattle.bands.proofs.Bands.{dec_in, in_test, out_test, cover_left, cover_right, cover_least}

pub put_same : {A : Type 0} (f : ℕ → A) (k : ℕ) (v : A) → put f k v k ≡ v
unfolding put
put_same f k v = rw (eq-eqb k k refl)

pub put_other : {A : Type 0} (f : ℕ → A) (k : ℕ) (v : A) (t : ℕ) → t ≢ k → put f k v t ≡ f t
unfolding put
put_other f k v t h = rw (ne_eqb t k h)

module _ {Row : Type 0} (L : Model Row) where
  -- ---- the grown bands

  grow-later : (m t : ℕ) (B : Bands) → m < t → grow_to L m B t ≡ B t
  unfolding grow_to grow_step
  grow-later zero t B h = refl
  grow-later (suc m) t B h = put_other _ _ _ t (omega arith) ∙ grow-later m t B (omega arith)

  pub grow-keeps : (m t : ℕ) (B : Bands) → t ≤ m → grow_to L m B t ≡ grown_of L B t
  unfolding grow_to grow_step grown_of
  grow-keeps zero t B h = let e : t ≡ 0 = omega arith in rw e refl
  grow-keeps (suc m) t B h =
      elim (ℕ_discrete t (suc m)) [ yes e ↦ rw e refl | no e ↦ put_other _ _ _ t e ∙ grow-keeps m t B (omega arith) ]

  pub grown-suc : (m : ℕ) (B : Bands) → grown_of L B (suc m) ≡ cover (B (suc m)) (L.reach m (grow_to L m B))
  unfolding grow_to grow_step grown_of
  grown-suc m B = put_same _ (suc m) _ ∙ ap (λ b. cover b (L.reach m (grow_to L m B))) (grow-later m (suc m) B (omega arith))

  -- layer m has the parameters that it had, and its inputs the zero-points
  abbrev SamePars : Sys L → Sys L → ℕ → Type 0
  SamePars s s' m =
      (L.par s.net m ≡ L.par s'.net m)
      × (L.zp s.net m ≡ L.zp s'.net m)
      × (L.zp s.net (L.other m) ≡ L.zp s'.net (L.other m))

module _ {Row : Type 0} (L : Model Row) (law : Laws L) where
  -- a grown band holds the band that it grew from
  own : (t : ℕ) (B : Bands) → Inside (B t) (grown_of L B t)
  unfolding grow_to grown_of
  own zero B i w = w
  own (suc m) B i w = rw (grown-suc L m B) (cover_left _ _ i w)

  -- and the rows that the inputs' grown bands reach
  reached : (m i t r : ℕ) (B : Bands) → m < L.n → i < L.rows (suc m) → L.Reads m i t r → In r (grown_of L B t) → In i (grown_of L B (suc m))
  reached m i t r B hm hi x w =
      rw (grown-suc L m B)
      (cover_right _ _ i
      (law.reach-covers m i t r (grow_to L m B) hm hi x (rw (grow-keeps L m t B (law.reads_before m i t r hm hi x)) w)))

  -- and no band that holds these is smaller
  least : (m : ℕ) (B : Bands) (c : Band) → m < L.n → Inside (B (suc m)) c
      → ((i t r : ℕ) → i < L.rows (suc m) → L.Reads m i t r → In r (grown_of L B t) → In i c)
      → Inside (grown_of L B (suc m)) c
  least m B c hm ho hr =
      rw (grown-suc L m B)
      (cover_least _ _ c ho
      (law.reach-least m (grow_to L m B) c hm
      (λ i t r hi x w. hr i t r hi x (rw (grow-keeps L m t B (law.reads_before m i t r hm hi x)) at w))))

  -- wider bands grow to wider bands
  grown-wider : (M : ℕ) → M ≤ L.n → (B B' : Bands) → ((t : ℕ) → t ≤ L.n → Inside (B t) (B' t))
      → (t : ℕ) → t ≤ M → Inside (grown_of L B t) (grown_of L B' t)
  unfolding grown_of grow_to
  grown-wider zero hM B B' h t ht = let e : t ≡ 0 = omega arith in rw e (h 0 (omega arith))
  grown-wider (suc M) hM B B' h t ht =
      elim (ℕ_discrete t (suc M)) [
        | yes e ↦ rw e
            (least M B (grown_of L B' (suc M)) hM
            (λ i w. own (suc M) B' i (h (suc M) hM i w))
            (λ i t r hi x w.
            reached M i t r B' hM hi x
            (grown-wider M (omega arith) B B' h t (law.reads_before M i t r hM hi x) r w)))
        | no e ↦ grown-wider M (omega arith) B B' h t (omega arith)
      ]

  -- bands within the tensors grow to bands within them
  pub grown-within : (B : Bands) → ((t : ℕ) → t ≤ L.n → Inside (B t) (whole L t)) → (t : ℕ) → t ≤ L.n → Inside (grown_of L B t) (whole L t)
  unfolding grown_of grow_to
  grown-within B h zero ht = h zero ht
  grown-within B h (suc m) ht = least m B (whole L (suc m)) ht (h (suc m) ht) (λ i t r hi x w. omega arith)

  -- ---- the rows in bands, recomputed

  module _ (N : L.Net) (C : Bands) (S : Store L) where
    pub redo-later : (m t : ℕ) → m < t → redo_to L N C m S t ≡ S t
    unfolding redo_to redo
    redo-later zero t h = refl
    redo-later (suc m) t h = put_other _ _ _ t (omega arith) ∙ redo-later m t (omega arith)

    -- tensor t is done once the layers up to it are
    pub redo-keeps : (m t : ℕ) → t ≤ m → redo_to L N C m S t ≡ redo_to L N C t S t
    unfolding redo_to redo
    redo-keeps zero t h = let e : t ≡ 0 = omega arith in rw e refl
    redo-keeps (suc m) t h =
        elim (ℕ_discrete t (suc m)) [ yes e ↦ rw e refl | no e ↦ put_other _ _ _ t e ∙ redo-keeps m t (omega arith) ]

    -- layer m's row, from what is stored once the layers below are done, is its row from what is stored at the end
    row-at-end : (m i : ℕ) → m < L.n → i < L.rows (suc m) → L.row_of N m (redo_to L N C m S) i ≡ L.row_of N m (redo_to L N C L.n S) i
    row-at-end m i hm hi =
        law.row_local N N (redo_to L N C m S) (redo_to L N C L.n S) m i hm hi refl refl refl
        (λ t r x hr.
        let ht : t ≤ m = law.reads_before m i t r hm hi x in
        ap (λ f. f r) (redo-keeps m t ht ∙ sym (redo-keeps L.n t (omega arith))))

    redo-at : (m i : ℕ)
        → redo_to L N C (suc m) S (suc m) i ≡ cond (in_band (C (suc m)) i) (L.row_of N m (redo_to L N C m S) i) (redo_to L N C m S (suc m) i)
    unfolding redo_to redo
    redo-at m i = ap (λ (f : ℕ → Row). f i) (put_same (redo_to L N C m S) (suc m) _)

    pub redo-in : (m i : ℕ) → In i (C (suc m)) → redo_to L N C (suc m) S (suc m) i ≡ L.row_of N m (redo_to L N C m S) i
    redo-in m i w = redo-at m i ∙ rw (in_test i (C (suc m)) w)

    pub redo-out : (m i : ℕ) → (In i (C (suc m)) → ⊥) → redo_to L N C (suc m) S (suc m) i ≡ S (suc m) i
    redo-out m i w = redo-at m i ∙ rw (out_test i (C (suc m)) w) (ap (λ f. f i) (redo-later m (suc m) (omega arith)))

    pub redo-meets : Recomputed L N C S (redo_to L N C L.n S)
    unfolding redo_to
    redo-meets = record {
      picture = λ i hi. ap (λ f. f i) (redo-keeps L.n 0 (omega arith));
      redone = λ m i hm hi w. ap (λ f. f i) (redo-keeps L.n (suc m) hm) ∙ redo-in m i w ∙ row-at-end m i hm hi;
      kept = λ m i hm hi w. ap (λ f. f i) (redo-keeps L.n (suc m) hm) ∙ redo-out m i w;
    }

  -- rows that agree with recomputed ones are recomputed
  pub recomputed-like : (N : L.Net) (C : Bands) (S S₁ S₂ : Store L) → Recomputed L N C S S₁
      → ((t i : ℕ) → t ≤ L.n → i < L.rows t → S₂ t i ≡ S₁ t i) → Recomputed L N C S S₂
  recomputed-like N C S S₁ S₂ x e = record {
    picture = λ i hi. e 0 i (omega arith) hi ∙ x.picture i hi;
    redone = λ m i hm hi w. e (suc m) i hm hi ∙ x.redone m i hm hi w
        ∙ law.row_local N N S₁ S₂ m i hm hi refl refl refl
        (λ t r z hr.
        let ht : t ≤ m = law.reads_before m i t r hm hi z in
        sym (e t r (omega arith) hr));
    kept = λ m i hm hi w. e (suc m) i hm hi ∙ x.kept m i hm hi w;
  }

  -- ---- what each call keeps

  -- A step that recomputes nothing: bands that only widen, rows outside the new grown bands as they were, and outside them the same
  -- parameters and zero-points.
  still : (s s' : Sys L)
      → ((t : ℕ) → t ≤ L.n → Inside (s.bands t) (s'.bands t))
      → ((t i : ℕ) → t ≤ L.n → i < L.rows t → (In i (grown_of L s'.bands t) → ⊥) → s.store t i ≡ s'.store t i)
      → ((m i : ℕ) → m < L.n → i < L.rows (suc m) → (In i (grown_of L s'.bands (suc m)) → ⊥) → SamePars L s s' m)
      → Kept L s → Kept L s'
  unfolding Kept
  still s s' wider same pars k m i hm hi w =
      let p = pars m i hm hi w in
      sym (same (suc m) i hm hi w)
      ∙ k m i hm hi (λ v. w (grown-wider L.n (omega arith) s.bands s'.bands wider (suc m) hm i v))
      ∙ law.row_local s.net s'.net s.store s'.store m i hm hi p.0 p.1 p.2
      (λ t r x hr.
      let ht : t ≤ m = law.reads_before m i t r hm hi x in
      same t r (omega arith) hr (λ v. w (reached m i t r s'.bands hm hi x v)))

  pub kept-change : (a e : ℕ) (s s' : Sys L) → ChangeStep L a e s s' → Kept L s → Kept L s'
  kept-change a e s s' c =
      still s s' wider same
      (λ m i hm hi w. (ap (λ N. L.par N m) (sym c.net), ap (λ N. L.zp N m) (sym c.net), ap (λ N. L.zp N (L.other m)) (sym c.net)))
    where
      wider : (t : ℕ) → t ≤ L.n → Inside (s.bands t) (s'.bands t)
      wider zero ht i w = rw c.band-0 (cover_left _ _ i w)
      wider (suc m) ht i w = rw (c.bands m ht) w

      same : (t i : ℕ) → t ≤ L.n → i < L.rows t → (In i (grown_of L s'.bands t) → ⊥) → s.store t i ≡ s'.store t i
      same zero i ht hi w = sym (c.outside i hi (λ v. w (own 0 s'.bands i (rw c.band-0 (cover_right _ _ i v)))))
      same (suc m) i ht hi w = sym (c.layers m i ht hi)

  -- tensor t is stale in every row
  Stale : Bands → ℕ → Type 0
  Stale B t = (i : ℕ) → i < L.rows t → In i (grown_of L B t)

  -- a layer with a whole stale input is whole stale itself
  stale-first : (B : Bands) (m : ℕ) → m < L.n → Stale B m → Stale B (suc m)
  unfolding Stale
  stale-first B m hm h i hi =
      let x = law.reads_first m i hm hi in
      reached m i m x.0 B hm hi x.1 (h x.0 x.2)

  stale-other : (B : Bands) (m : ℕ) → m < L.n → Stale B (L.other m) → Stale B (suc m)
  unfolding Stale
  stale-other B m hm h i hi =
      let x = law.reads_other m i hm hi in
      reached m i (L.other m) x.0 B hm hi x.1 (h x.0 x.2)

  -- after a replacement a tensor has the zero-point that it had, or is whole stale
  module _ (k : ℕ) (s s' : Sys L) (c : ReplaceStep L k s s') where
    stale-k : Stale s'.bands (suc k)
    unfolding Stale
    stale-k i hi = own (suc k) s'.bands i (rw c.band-k (omega arith))

    Told : ℕ → Type 0
    Told t = (L.zp s.net t ≡ L.zp s'.net t) ⊎ Stale s'.bands t

    told-suc : (m : ℕ) → m < L.n → m ≢ k → Told m → Told (L.other m) → Told (suc m)
    unfolding Told
    told-suc m hm e (inl p) (inl q) = inl (law.zp-local s.net s'.net m hm (sym (c.others m hm e)) p q)
    told-suc m hm e (inl p) (inr q) = inr (stale-other s'.bands m hm q)
    told-suc m hm e (inr p) (inl q) = inr (stale-first s'.bands m hm p)
    told-suc m hm e (inr p) (inr q) = inr (stale-first s'.bands m hm p)

    told : (M : ℕ) → M ≤ L.n → (t : ℕ) → t ≤ M → Told t
    unfolding Told
    told zero hM t ht = let e : t ≡ 0 = omega arith in rw e (inl (sym c.head))
    told (suc M) hM t ht =
        elim (ℕ_discrete t (suc M)) [
          | yes e ↦ rw e
              (elim (ℕ_discrete M k) [
                | yes f ↦ rw f (inr stale-k)
                | no f ↦ told-suc M hM f (told M (omega arith) M (omega arith)) (told M (omega arith) (L.other M) (law.other-before M hM))
              ])
          | no e ↦ told M (omega arith) t (omega arith)
        ]

    pub kept-replace : Kept L s → Kept L s'
    unfolding Stale Told
    kept-replace = still s s' wider (λ t i ht hi w. sym (c.store t i ht hi)) pars
      where
        wider : (t : ℕ) → t ≤ L.n → Inside (s.bands t) (s'.bands t)
        wider t ht i w =
            elim (ℕ_discrete t (suc k)) [
              | yes e ↦ let w' : In i (s.bands (suc k)) = rw e at w in rw (e, c.band-k) (omega (arith, c.within))
              | no e ↦ rw (c.bands t ht e) w
            ]

        calm : (t : ℕ) → (Stale s'.bands t → ⊥) → Told t → L.zp s.net t ≡ L.zp s'.net t
        calm t no_stale (inl p) = p
        calm t no_stale (inr q) = absurd (no_stale q)

        pars : (m i : ℕ) → m < L.n → i < L.rows (suc m) → (In i (grown_of L s'.bands (suc m)) → ⊥) → SamePars L s s' m
        pars m i hm hi w =
            let off : Stale s'.bands (suc m) → ⊥ = λ h. w (h i hi) in
            let away : m ≢ k = λ e. off (rw e stale-k) in (
              sym (c.others m hm away),
              calm m (λ h. off (stale-first s'.bands m hm h)) (told L.n (omega arith) m (omega arith)),
              calm (L.other m) (λ h. off (stale-other s'.bands m hm h))
                  (told L.n (omega arith) (L.other m) (omega (arith, law.other-before m hm))),
            )

  -- after an update every row is what its layer makes of the stored rows
  all_made : (s s' : Sys L) → UpdateStep L s s' → Kept L s
      → (m i : ℕ) → m < L.n → i < L.rows (suc m) → s'.store (suc m) i ≡ L.row_of s.net m s'.store i
  unfolding Kept
  all_made s s' u k m i hm hi =
      elim (dec_in i (grown_of L s.bands (suc m))) [
        | yes w ↦ u.store.redone m i hm hi w
        | no w ↦ u.store.kept m i hm hi w ∙ k m i hm hi w
            ∙ law.row_local s.net s.net s.store s'.store m i hm hi refl refl refl
            (λ t r x hr. same t r (law.reads_before m i t r hm hi x) hr (λ v. w (reached m i t r s.bands hm hi x v)))
      ]
    where
      same : (t r : ℕ) → t ≤ m → r < L.rows t → (In r (grown_of L s.bands t) → ⊥) → s.store t r ≡ s'.store t r
      same zero r ht hr w = sym (u.store.picture r hr)
      same (suc t) r ht hr w = sym (u.store.kept t r (omega arith) hr w)

  pub kept-update : (s s' : Sys L) → UpdateStep L s s' → Kept L s → Kept L s'
  unfolding Kept
  kept-update s s' u k m i hm hi w = all_made s s' u k m i hm hi ∙ ap (λ N. L.row_of N m s'.store i) (sym u.net)

  -- bands that are all whole leave no row to say it of
  pub kept-load : (s : Sys L) → ((t : ℕ) → t ≤ L.n → s.bands t ≡ whole L t) → Kept L s
  unfolding Kept
  kept-load s h m i hm hi w = absurd (w (own (suc m) s.bands i (rw (h (suc m) hm) (omega arith))))

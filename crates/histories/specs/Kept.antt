-- What is kept over a chain of layers: what the stale bands grow to, what an update and each other call do, and what all of them keep.
-- Assumes nothing.
use Rattle.std.specs.Prelude.{cond, ℕ, zero, suc, ◌≤◌, ◌<◌, ◌≡◌, ◌≢◌, eqb}
use Rattle.bands.specs.declared.band.Band.{Band}
use Rattle.bands.specs.Band.{none, band, in_band, cover, In}
use Rattle.histories.specs.Model.{Bands, Model}

-- f with v at k
unfoldable pub put : {A : Type 0} → (ℕ → A) → ℕ → A → ℕ → A
put f k v t = cond (eqb t k) v (f t)

module _ {Row : Type 0} (L : Model Row) where
  abbrev pub Store : Type 0
  Store = ℕ → ℕ → Row

  -- one layer's step: its band grows
  unfoldable pub grow_step : ℕ → Bands → Bands
  grow_step m G = put G (suc m) (cover (G (suc m)) (L.reach m G))

  -- the first m layers' bands grown, in layer order
  unfoldable pub grow_to : ℕ → Bands → Bands
  grow_to zero B = B
  grow_to (suc m) B = grow_step m (grow_to m B)

  -- the grown band of tensor t
  unfoldable pub grown_of : Bands → Bands
  grown_of B t = grow_to t B t

  -- one layer's step: the rows in its band are recomputed from what is stored
  unfoldable pub redo : L.Net → ℕ → Band → Store → Store
  redo N m b S = put S (suc m) (λ i. cond (in_band b i) (L.row_of N m S i) (S (suc m) i))

  -- the first m layers, in order, each at the rows of its band
  unfoldable pub redo_to : L.Net → Bands → ℕ → Store → Store
  redo_to N C zero S = S
  redo_to N C (suc m) S = redo N m (C (suc m)) (redo_to N C m S)

  abbrev pub whole : Bands
  whole t = band 0 (L.rows t)

  -- S' is S with exactly the rows in the bands C of the layers recomputed, each from what S' holds
  pub record Recomputed (N : L.Net) (C : Bands) (S S' : Store) : Type 0 where
    pub picture : (i : ℕ) → i < L.rows 0 → S' 0 i ≡ S 0 i
    pub redone : (m i : ℕ) → m < L.n → i < L.rows (suc m) → In i (C (suc m)) → S' (suc m) i ≡ L.row_of N m S' i
    pub kept : (m i : ℕ) → m < L.n → i < L.rows (suc m) → (In i (C (suc m)) → ⊥) → S' (suc m) i ≡ S (suc m) i

  -- what a call leaves: the network, the tensors, the stale bands
  pub record Sys : Type 0 where
    pub net : L.Net
    pub store : Store
    pub bands : Bands

  -- the rows from a up to e of the picture are written
  pub record ChangeStep (a e : ℕ) (s s' : Sys) : Type 0 where
    pub net : s'.net ≡ s.net
    pub outside : (i : ℕ) → i < L.rows 0 → (In i (band a e) → ⊥) → s'.store 0 i ≡ s.store 0 i
    pub layers : (m i : ℕ) → m < L.n → i < L.rows (suc m) → s'.store (suc m) i ≡ s.store (suc m) i
    pub band-0 : s'.bands 0 ≡ cover (s.bands 0) (band a e)
    pub bands : (m : ℕ) → m < L.n → s'.bands (suc m) ≡ s.bands (suc m)

  -- layer k has new parameters
  pub record ReplaceStep (k : ℕ) (s s' : Sys) : Type 0 where
    pub others : (m : ℕ) → m < L.n → m ≢ k → L.par s'.net m ≡ L.par s.net m
    pub head : L.zp s'.net 0 ≡ L.zp s.net 0
    pub store : (t i : ℕ) → t ≤ L.n → i < L.rows t → s'.store t i ≡ s.store t i
    pub band-k : s'.bands (suc k) ≡ whole (suc k)
    pub within : (s.bands (suc k)).end ≤ L.rows (suc k)
    pub bands : (t : ℕ) → t ≤ L.n → t ≢ suc k → s'.bands t ≡ s.bands t

  pub record UpdateStep (s s' : Sys) : Type 0 where
    pub net : s'.net ≡ s.net
    pub store : Recomputed s.net (grown_of s.bands) s.store s'.store
    pub bands : (t : ℕ) → t ≤ L.n → s'.bands t ≡ none

  -- what a load begins with and each call keeps: each row outside the grown bands is what its layer makes of the stored rows
  unfoldable pub Kept : Sys → Type 0
  Kept s = (m i : ℕ) → m < L.n → i < L.rows (suc m) → (In i (grown_of s.bands (suc m)) → ⊥)
      → s.store (suc m) i ≡ L.row_of s.net m s.store i

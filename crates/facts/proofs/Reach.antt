-- Which rows an update works again: those that document 01's sentence for each kind names, and the rows between them.
-- Assumes nothing.
use Prim.Native.Nat.{ℕ, zero, suc, ◌-◌, ◌≤◌, ◌<◌, min, max}
use mathlib.Core.Path.{◌≡◌, refl, ◌∙◌, ap}
use mathlib.Core.Logic.{◌⊎◌, inl, inr}
use mathlib.Core.List.{List}
use native.Mathlib.Omega.{arith}
use native.Mathlib.Decide.{ℕ_discrete, dec_le}
use lib.ListN.{length}
use lib.Seq.{get_or-set_same, get_or-set_other}
use Rattle.fields.specs.declared.shape.Shape.{Shape}
use Rattle.records.specs.Layer.{output_shape, other_of}
use Rattle.records.specs.declared.layer.Kind.{Kind}
use Rattle.records.specs.declared.layer.Kind.TheVariants.{Conv, Full, Add}
use Rattle.records.specs.declared.layer.Layer.{Layer}
use Rattle.network.specs.Network.{layer_of, tensor_of}
use Rattle.network.specs.Decode.{decode_of}
use Rattle.network.specs.Taken.{Taken}
use Rattle.network.specs.declared.net.Network.{Network}
use Rattle.network.proofs.Taken.{taken}
use Rattle.bands.specs.Band.{band, none, cover, In}
use Rattle.bands.specs.Within.{Hit}
use Rattle.bands.specs.State.{band_of}
use Rattle.bands.specs.Reach.{reached_band}
use Rattle.bands.specs.Grow.{grown_band, grow_one, grown}
use Rattle.bands.specs.declared.band.Band.{Band}
use Rattle.bands.specs.declared.reach.Link.{Link}
use Rattle.bands.specs.declared.state.State.{State}
use Rattle.bands.proofs.Bands.{cover_cases, cover_left, cover_right}
use Rattle.bands.proofs.Reached.{reached-in, in-reached}
use Rattle.bands.proofs.Grow.{length_grow}
use Rattle.bands.proofs.States.{with_each}
use Rattle.checks.specs.Tensors.{link_by, link_of}
use Rattle.checks.proofs.Links.{link-ok}
use Rattle.checks.proofs.Passed.{CallPassed, call_passed}
use Rattle.updates.specs.Recompute.{grown_band_of}
use Rattle.updates.specs.Asked.{BandsWithin}
use Rattle.updates.proofs.Fairs.{grown-fair}
use Rattle.clew.specs.Calls.{update_of}
use Rattle.facts.specs.Demand3.{Reaches, ExactReach, Must, Between, OnlyWhereItMust}
use Rattle.facts.proofs.Exact.{update_passed, passed-bands}

-- ---- the reached rows

-- the window of a layer's row holds a row of the band exactly where document 01's sentence for the kind says so
hit_reaches : (k : Kind) (y : Layer) (m : ℕ) (b : Band) (i : ℕ) → Hit b (link_by k y m) i → Reaches k b i
hit_reaches (Conv c) y m b i (r, w, x) = (r, w, x.0, x.1)
hit_reaches (Full f) y m b i (r, w, x) = (r, w)
hit_reaches (Add a) y m b i (r, w, x) = let e : r ≡ i = omega arith in rw (← e) w

reaches_hit :
    (k : Kind) (y : Layer) (m : ℕ) (b : Band) (i : ℕ) →
    y.output ≡ output_shape k y.input →
    b.end ≤ y.input.rows →
    i < y.output.rows →
    Reaches k b i →
    Hit b (link_by k y m) i
reaches_hit (Conv c) y m b i made few h (r, w, p, q) = (r, w, (p, q))
reaches_hit (Full f) y m b i made few h (r, w) =
    let one : y.output.rows ≡ 1 = ap (λ (x : Shape). x.rows) made in
    (r, w, omega (arith, one))
reaches_hit (Add a) y m b i made few h w = (i, w, omega arith)

module _ (file : List ℕ) (n : Network) (t : Taken file n) (m : ℕ) (h : m < n.count) where
  in_reach : (b : Band) (i : ℕ) → In i (reached_band b (link_of n m)) → (i < (tensor_of n (suc m)).rows) × Reaches (layer_of n m).kind b i
  in_reach b i w =
      let l = link-ok file n t m h in
      let x = in-reached b (link_of n m) l.kernel-some l.stride-some i w in
      (omega (arith, l.rows_are, x.0), hit_reaches (layer_of n m).kind (layer_of n m) m b i x.1)

  reach-in :
      (b : Band) (i : ℕ) →
      b.end ≤ (tensor_of n m).rows →
      i < (tensor_of n (suc m)).rows →
      Reaches (layer_of n m).kind b i →
      In i (reached_band b (link_of n m))
  reach-in b i few g w =
      let y = t.layers m h in
      let input : (layer_of n m).input.rows ≡ (tensor_of n m).rows = ap (λ (x : Shape). x.rows) y.input in
      reached-in b (link_of n m) i (omega (arith, (link-ok file n t m h).rows_are))
      (reaches_hit (layer_of n m).kind (layer_of n m) m b i y.kind.output (omega (arith, input)) g w)

-- demand 3, of the bands: the reached rows of a layer are exactly those of document 01's sentence
pub exact_reach : ExactReach
exact_reach file fine m h b few i =
    let n = (decode_of file).network in
    let t = taken file fine in
    (in_reach file n t m h b i, λ x. reach-in file n t m h b i few x.0 x.1)

-- ---- the grown bands

-- a link's other tensor is the one that the layer reads
other_is : (k : Kind) (y : Layer) (m : ℕ) → (link_by k y m).other ≡ other_of k m
other_is (Conv c) y m = refl
other_is (Full f) y m = refl
other_is (Add a) y m = refl

-- a tensor's band stays while layers that do not make it are done
grown_stays :
    (s : State) (links : ℕ → Link) (k m t : ℕ) →
    k ≤ m →
    ((u : ℕ) → k < u → u ≤ m → t ≡ u → ⊥) →
    band_of (grown s links m) t ≡ band_of (grown s links k) t
unfolding grown grow_one
grown_stays s links k zero t h away = let e : k ≡ 0 = omega arith in rw e
grown_stays s links k (suc m) t h away =
    elim (ℕ_discrete k (suc m)) [
      | yes e ↦ rw e
      | no e ↦
          let g = grown s links m in
          get_or-set_other g.bands (suc m) t (grown_band g (links m) m) none (away (suc m) (omega arith) (omega arith)) ∙
          grown_stays s links k m t (omega arith) (λ u p q. away u p (omega arith))
    ]

at_row : (P : ℕ → Type 0) (i : ℕ) → P i → Between P i
at_row P i x = ((i, omega arith, x), (i, omega arith, x))

-- where each row of two bands does, each row of the band that covers them does
cover_between :
    (P : ℕ → Type 0) (a b : Band) →
    ((i : ℕ) → In i a → Between P i) →
    ((i : ℕ) → In i b → Between P i) →
    (i : ℕ) →
    In i (cover a b) →
    Between P i
cover_between P a b p q = cover_cases (λ x. (i : ℕ) → In i x → Between P i) a b (λ _. q) (λ _ _. p) both
  where
    both : a.first < a.end → b.first < b.end → (i : ℕ) → In i (band (min a.first b.first) (max a.end b.end)) → Between P i
    both h k i w = (
      elim (dec_le a.first i) [
        | yes l ↦ let x = (p a.first (omega arith)).0 in (x.0, omega (arith, x.1), x.2)
        | no l ↦ let x = (q b.first (omega arith)).0 in (x.0, omega (arith, x.1), x.2)
      ],
      elim (dec_le i (a.end - 1)) [
        | yes l ↦ let x = (p (a.end - 1) (omega arith)).1 in (x.0, omega (arith, x.1), x.2)
        | no l ↦ let x = (q (b.end - 1) (omega arith)).1 in (x.0, omega (arith, x.1), x.2)
      ],
    )

module _ (file : List ℕ) (n : Network) (t : Taken file n) (s : State) (fair : BandsWithin n s) (m : ℕ) (h : m < n.count) where
  -- the state in which layer m's band grows
  abbrev g : State
  g = grown s (link_of n) m

  abbrev kind : Kind
  kind = (layer_of n m).kind

  -- the layer's own band is not grown yet, and that of its other input is
  own-band : band_of g (suc m) ≡ band_of s (suc m)
  unfolding grown
  own-band = grown_stays s (link_of n) 0 m (suc m) (omega arith) (λ u p q e. omega arith)

  other-band : band_of g (link_of n m).other ≡ grown_band_of n s (other_of kind m)
  other-band =
      grown_stays s (link_of n) (link_of n m).other m (link_of n m).other (link-ok file n t m h).other-before (λ u p q e. omega arith) ∙
      ap (grown_band_of n s) (other_is kind (layer_of n m) m)

  own-between : (i : ℕ) → In i (band_of g (suc m)) → Between (Must n s m) i
  own-between i w =
      let v : In i (band_of s (suc m)) = rw own-band at w in
      at_row (Must n s m) i (omega (arith, v, fair (suc m) h), inl v)

  -- each row of the band that the layer's step stores lies between rows that must
  step-between : (i : ℕ) → In i (grown_band g (link_of n m) m) → Between (Must n s m) i
  step-between =
      cover_between (Must n s m) _ _ own-between
      (cover_between (Must n s m) _ _
      (λ i w.
      let x = in_reach file n t m h (band_of g m) i w in
      at_row (Must n s m) i (x.0, inr (inl x.1)))
      (λ i w.
      let x = in_reach file n t m h (band_of g (link_of n m).other) i w in
      at_row (Must n s m) i (x.0, inr (inr (rw other-band at x.1)))))

  -- and so does each row of the layer's grown band
  grown-between : (i : ℕ) → In i (grown_band_of n s (suc m)) → Between (Must n s m) i
  unfolding grown grow_one
  grown-between =
      with_each (λ _ b. (i : ℕ) → In i b → Between (Must n s m) i) g (suc m) (grown_band g (link_of n m) m) step-between (suc m)
      own-between

  -- each row that must is in it
  must-in : suc m < length s.bands → (i : ℕ) → Must n s m i → In i (grown_band_of n s (suc m))
  unfolding grown grow_one
  must-in room i (few, w) =
      rw (get_or-set_same g.bands (suc m) (grown_band g (link_of n m) m) none (omega (arith, length_grow s (link_of n) m)))
      (by-case w)
    where
      within : (u : ℕ) → u ≤ m → (band_of g u).end ≤ (tensor_of n u).rows
      within u q = (grown-fair file n t s m (omega arith) fair u (omega arith)).1

      by-case : (In i (band_of s (suc m)) ⊎ (Reaches kind (grown_band_of n s m) i ⊎ Reaches kind (grown_band_of n s (other_of kind m)) i)) → In i (grown_band g (link_of n m) m)
      by-case (inl v) = cover_left _ _ i (rw own-band v)
      by-case (inr (inl v)) = cover_right _ _ i (cover_left _ _ i (reach-in file n t m h (band_of g m) i (within m (omega arith)) few v))
      by-case (inr (inr v)) =
          let l = link-ok file n t m h in
          cover_right _ _ i (cover_right _ _ i
          (reach-in file n t m h (band_of g (link_of n m).other) i (omega (arith, within _ l.other-before, l.other-rows)) few (rw other-band v)))

  -- and so is each row between two that must, since a band has no gap
  between_in : suc m < length s.bands → (i : ℕ) → Between (Must n s m) i → In i (grown_band_of n s (suc m))
  between_in room i ((a, p, x), (z, q, y)) = omega (arith, must-in room a x, must-in room z y)

-- demand 3, of an update
module _ (file sums area : List ℕ) (s : State) (e : (update_of file sums area s).0.number ≡ 0) (m i : ℕ) (h : m < (decode_of file).network.count) where
  abbrev passed : CallPassed file sums (length area) s
  passed = call_passed file sums (length area) s (update_passed file sums area s e)

  abbrev fair : BandsWithin (decode_of file).network s
  fair = passed-bands file sums (length area) s passed

  -- a row is recomputed only where it must, or where it lies between two rows that must
  pub only-between : In i (grown_band_of (decode_of file).network s (suc m)) → Between (Must (decode_of file).network s m) i
  only-between = grown-between file (decode_of file).network passed.load.taken s fair m h i

  -- and everywhere there, where the state has its 17 bands: in a shorter list a grown band past the end has no place
  pub all-between : length s.bands ≡ 17 → Between (Must (decode_of file).network s m) i → In i (grown_band_of (decode_of file).network s (suc m))
  all-between all =
      between_in file (decode_of file).network passed.load.taken s fair m h (omega (arith, all, passed.load.taken.count-few)) i

pub only_where_it_must : OnlyWhereItMust
only_where_it_must file sums area s all e m i h = (only-between file sums area s e m i h, all-between file sums area s e m i h all)

-- The bands of an update stay within the tensors as they grow.
-- Assumes nothing.
use Prim.Native.Nat.{ℕ, zero, suc, ◌≤◌, ◌<◌}
use mathlib.Core.Path.{◌≡◌}
use mathlib.Core.List.{List}
use native.Mathlib.Omega.{arith}
use Rattle.network.specs.Network.{tensor_of}
use Rattle.network.specs.Taken.{Taken}
use Rattle.network.specs.declared.net.Network.{Network}
use Rattle.bands.specs.Band.{cover}
use Rattle.bands.specs.State.{band_of}
use Rattle.bands.specs.Reach.{reached_band}
use Rattle.bands.specs.Grow.{grown_band, grow_one, grown}
use Rattle.bands.specs.declared.band.Band.{Band}
use Rattle.bands.specs.declared.reach.Link.{Link}
use Rattle.bands.specs.declared.state.State.{State}
use Rattle.bands.proofs.Bands.{cover_cases}
use Rattle.bands.proofs.Reached.{reached-within, reached-canon}
use Rattle.bands.proofs.States.{canon_fair, with_each}
use Rattle.checks.specs.Tensors.{link_of}
use Rattle.checks.proofs.Links.{link-ok}
use Rattle.updates.specs.Asked.{BandsWithin}

-- a band within a tensor of that many rows
abbrev pub Fits : ℕ → Band → Type 0
Fits rows b = (b.first ≤ b.end) × (b.end ≤ rows)

cover-fits : (rows : ℕ) (a b : Band) → Fits rows a → Fits rows b → Fits rows (cover a b)
cover-fits rows a b p q = cover_cases (Fits rows) a b (λ _. q) (λ _ _. p) (λ _ _. omega arith)

reached_fits : (rows : ℕ) (b : Band) (y : Link) → y.rows ≡ rows → Fits rows (reached_band b y)
reached_fits rows b y e =
    let f = canon_fair y.rows (reached_band b y) (reached-within b y) (reached-canon b y) in
    (f.order, omega (arith, f.within))

module _ (file : List ℕ) (n : Network) (t : Taken file n) where
  -- one layer's step
  pub step-fair : (s : State) (m : ℕ) → m < n.count → BandsWithin n s → BandsWithin n (grow_one s (link_of n m) m)
  unfolding grow_one
  step-fair s m h f u hu =
      let y = link_of n m in
      let rows = (tensor_of n (suc m)).rows in
      let one : (b : Band) → Fits rows (reached_band b y) = λ b. reached_fits rows b y (link-ok file n t m h).rows_are in
      let own = cover-fits rows (band_of s (suc m)) _ (f (suc m) h) (cover-fits rows _ _ (one (band_of s m)) (one (band_of s y.other))) in
      with_each (λ v b. Fits (tensor_of n v).rows b) s (suc m) (grown_band s y m) own u (f u hu)

  -- the first m layers' steps
  pub grown-fair : (s : State) (m : ℕ) → m ≤ n.count → BandsWithin n s → BandsWithin n (grown s (link_of n) m)
  unfolding grown
  grown-fair s zero h f = f
  grown-fair s (suc m) h f = step-fair (grown s (link_of n) m) m h (grown-fair s m (omega arith) f)

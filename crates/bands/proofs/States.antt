-- The state: what test 5 says, that it refuses the all-stale state, that each call leaves a state that passes it, and what a clean state is.
-- Assumes nothing.
use Prim.Native.Nat.{ℕ, ◌≤◌, ◌<◌}
use mathlib.Core.Path.{◌≡◌, refl}
use mathlib.Core.Logic.{inl, inr}
use mathlib.Core.Bool.{true, false, cond}
use native.Mathlib.Omega.{arith}
use lib.Dec.{leb}
use lib.ListN.{get_or-replicate}
use lib.Seq.{get_or-set_same, get_or-set_other, set_out}
use borrow.Author.Tests.{le-leb}
use Rattle.std.proofs.lemmas.Bool.Decides.{nat_tests}
use Rattle.bands.specs.declared.band.Band.{Band}
use Rattle.bands.specs.declared.state.State.{State}
use Rattle.bands.specs.declared.state.Tensors.{Tensors}
use Rattle.lists.specs.Choice.{every}
use Rattle.bands.specs.Band.{band, none, is_empty, cover}
use Rattle.bands.specs.State.{band_of, rows_of, with_band, all_stale, all_empty, fair_at, state_fault, clean, loaded, changed, replaced}
use Rattle.lists.proofs.Choice.{every-at, every-all, every-not}
use Rattle.lists.proofs.Laid.{joined_at}
use Rattle.bands.proofs.Bands.{Canon, cover_below, cover_canon}

-- ---- test 5

-- of a tensor that the network has
pub record IsFair (rows : ℕ) (b : Band) : Type 0 where
  pub order : b.first ≤ b.end
  pub within : b.end ≤ rows
  pub canon : Canon b

pub canon_fair : (rows : ℕ) (b : Band) → b.end ≤ rows → Canon b → IsFair rows b
canon_fair rows b h c = record { order = grind arith; within = h; canon = c }

pub cover-fair : (rows : ℕ) (a b : Band) → IsFair rows a → IsFair rows b → IsFair rows (cover a b)
cover-fair rows a b p q = canon_fair rows (cover a b) (cover_below rows a b p.within q.within) (cover_canon a b p.canon q.canon)

pub whole_fair : (rows : ℕ) → IsFair rows (band 0 rows)
whole_fair rows = canon_fair rows (band 0 rows) (omega arith) (grind arith)

-- the test passes where each tensor's does
every_passed : (s : State) (n : Tensors) → state_fault s n ≡ 0 → every 17 (fair_at s n) ≡ true
unfolding state_fault
every_passed s n h = grind arith

module _ (s : State) (n : Tensors) where
  pub passed-fair : state_fault s n ≡ 0 → (t : ℕ) → t < 17 → t ≤ n.count → IsFair (rows_of n t) (band_of s t)
  passed-fair h t ht hc =
      let e = every-at (fair_at s n) 17 (every_passed s n h) t ht in
      record { order = grind (arith, nat_tests); within = grind (arith, nat_tests); canon = grind (arith, nat_tests) }

  pub passed-absent : state_fault s n ≡ 0 → (t : ℕ) → t < 17 → n.count < t → band_of s t ≡ none
  passed-absent h t ht hc =
      let e = every-at (fair_at s n) 17 (every_passed s n h) t ht in
      grind (arith, nat_tests)

  -- and it refuses nothing else
  pub passes : ((t : ℕ) → t < 17 → t ≤ n.count → IsFair (rows_of n t) (band_of s t)) → ((t : ℕ) → t < 17 → n.count < t → band_of s t ≡ none) → state_fault s n ≡ 0
  unfolding state_fault
  passes f a = rw (every-all (fair_at s n) 17 (λ t ht. grind (arith, nat_tests, f t ht, a t ht)))

  pub refused : (t : ℕ) → t < 17 → fair_at s n t ≡ false → state_fault s n ≡ 5
  unfolding state_fault
  refused t ht h = rw (every-not (fair_at s n) 17 t ht h)

-- every network's: at tensor 0, whether or not the network has it
pub stale_refused : (n : Tensors) → state_fault all_stale n ≡ 5
stale_refused n = refused all_stale n 0 (omega arith) (grind (arith, nat_tests))

-- ---- what a load leaves

-- the band of tensor t
abbrev pub loaded_band : Tensors → ℕ → Band
loaded_band n t = cond (leb t n.count) (band 0 (rows_of n t)) none

pub loaded_at : (n : Tensors) (t : ℕ) → t < 17 → band_of (loaded n) t ≡ loaded_band n t
unfolding loaded
loaded_at n t h = joined_at 17 (loaded_band n) none t h

-- ---- each call leaves a state that passes

-- what holds of the stored band and of each other band holds of each band then
pub with_each : (P : ℕ → Band → Type 0) (s : State) (k : ℕ) (b : Band) → P k b → (t : ℕ) → P t (band_of s t) → P t (band_of (with_band s k b) t)
with_each P s k b hb t h = grind (arith, get_or-set_same s.bands k b none, get_or-set_other s.bands k t b none, set_out s.bands k b, hb, h)

pub empty_passes : (n : Tensors) → state_fault all_empty n ≡ 0
empty_passes n =
    passes all_empty n (λ t ht _. rw (get_or-replicate 17 t none none ht) (canon_fair _ none (omega arith) (inr refl)))
    (λ t ht _. get_or-replicate 17 t none none ht)

pub loaded_passes : (n : Tensors) → state_fault (loaded n) n ≡ 0
loaded_passes n =
    passes (loaded n) n (λ t ht h. rw (loaded_at n t ht, le-leb t n.count h) (whole_fair (rows_of n t)))
    (λ t ht h. grind (arith, nat_tests, loaded_at n t ht))

-- where a band that passes is stored
stored_passes : (s : State) (n : Tensors) (k : ℕ) (b : Band) → state_fault s n ≡ 0 → k ≤ n.count → IsFair (rows_of n k) b → state_fault (with_band s k b) n ≡ 0
stored_passes s n k b h hk hb =
    passes (with_band s k b) n
    (λ t ht hc. with_each (λ t x. t < 17 → t ≤ n.count → IsFair (rows_of n t) x) s k b (λ _ _. hb) t (passed-fair s n h t) ht hc)
    (λ t ht hc. with_each (λ t x. t < 17 → n.count < t → x ≡ none) s k b (λ _ c. absurd (omega arith)) t (passed-absent s n h t) ht hc)

pub changed_passes : (s : State) (n : Tensors) (first end : ℕ) → state_fault s n ≡ 0 → first < end → end ≤ rows_of n 0 → state_fault (changed s first end) n ≡ 0
changed_passes s n first end h p q =
    stored_passes s n 0 (cover (band_of s 0) (band first end)) h (omega arith)
    (cover-fair _ _ _ (passed-fair s n h 0 (omega arith) (omega arith)) (canon_fair _ (band first end) q (inl p)))

pub replaced_passes : (s : State) (n : Tensors) (k : ℕ) → state_fault s n ≡ 0 → k ≤ n.count → state_fault (replaced s k (rows_of n k)) n ≡ 0
replaced_passes s n k h hk = stored_passes s n k (band 0 (rows_of n k)) h hk (whole_fair (rows_of n k))

-- ---- a clean state

-- that passed test 5 has the band 0,0 everywhere
pub clean-none : (s : State) (n : Tensors) → state_fault s n ≡ 0 → clean s ≡ true → (t : ℕ) → t < 17 → band_of s t ≡ none
unfolding clean
clean-none s n h c t ht =
    let e = every-at (λ k. is_empty (band_of s k)) 17 c t ht in
    grind (arith, nat_tests, passed-fair s n h t ht, passed-absent s n h t ht)

-- How many bands the grown state has.
-- Assumes nothing.
use Prim.Native.Nat.{ℕ, zero, suc}
use mathlib.Core.Path.{◌≡◌, refl}
use lib.ListN.{length, length-set}
use Rattle.bands.specs.declared.state.State.{State}
use Rattle.bands.specs.declared.reach.Link.{Link}
use Rattle.bands.specs.Grow.{grow_one, grown}

pub length_grow : (s : State) (links : ℕ → Link) (m : ℕ) → length (grown s links m).bands ≡ length s.bands
unfolding grown grow_one
length_grow s links zero = refl
length_grow s links (suc m) = simp length-set (length_grow s links m)

-- What `all` answers over a list is `every` over its places.
-- Assumes nothing.
use Prim.Native.Nat.{ℕ, zero, suc, ◌≤◌, ◌<◌}
use mathlib.Core.Path.{◌≡◌, refl, ap, sym, ◌∙◌}
use mathlib.Core.List.{List}
use mathlib.Core.Bool.{Bool}
use native.Mathlib.Omega.{arith}
use native.Mathlib.Numerals.{add-one}
use lib.ListN.{length, get_or, take}
use lib.Seq.{take_all}
use Rattle.std.specs.List.{list_all}
use Rattle.std.proofs.lemmas.List.Folds.{list_all_more}
use Rattle.lists.specs.Choice.{every}

module _ {X : Type 0} (p : X → Bool) (q : ℕ → Bool) (xs : List X) (d : X) (same : (t : ℕ) → t < length xs → p (get_or xs t d) ≡ q t) where
  -- of the first elements
  all_first : (n : ℕ) → n ≤ length xs → list_all p (take n xs) ≡ every n q
  unfolding every
  all_first zero h = refl
  all_first (suc n) h =
      rw add-one at (list_all_more p xs n d (omega arith)) ∙ rw (all_first n (omega arith), same n (omega arith))

  pub all_every : (n : ℕ) → length xs ≡ n → list_all p xs ≡ every n q
  all_every n h = ap (list_all p) (sym (take_all n xs (omega arith))) ∙ all_first n (omega arith)

-- A fault of two tests.
-- Assumes nothing.
use Prim.Native.Nat.{ℕ, suc, ◌≤◌, ◌<◌}
use mathlib.Core.Path.{◌≡◌}
use mathlib.Core.Bool.{Bool, true, ◌&&◌, and-eq-true_iff}
use borrow.Author.Tests.{le-leb, lt-leb}
use lib.Dec.{leb}
use Rattle.fields.specs.Faults.{unless}
use Rattle.fields.proofs.Tests.{unless-none}

-- of two comparisons: both hold, or one does not
module _ (a b c d k : ℕ) where
  pub both_hold : a ≤ b → c ≤ d → 0 ≡ unless (leb a b && leb c d) k
  both_hold p q = rw (le-leb a b p, le-leb c d q)

  pub first-fails : b < a → k ≡ unless (leb a b && leb c d) k
  first-fails p = rw (lt-leb a b p)

  pub second-fails : a ≤ b → d < c → k ≡ unless (leb a b && leb c d) k
  second-fails p q = rw (le-leb a b p, lt-leb c d q)

-- what no fault says of any two
pub both_none : (a b : Bool) (k : ℕ) → unless (a && b) (suc k) ≡ 0 → (a ≡ true) × (b ≡ true)
both_none a b k p = (and-eq-true_iff a b).0 (unless-none (a && b) k p)

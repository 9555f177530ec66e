-- What a call of the library comes to as numbers.
-- Assumes nothing.
use Prim.Native.Nat.{ℕ}
use mathlib.Core.Path.{◌≡◌, ap}
use mathlib.Core.List.{List}
use Rattle.clew.specs.declared.outcome.Outcome.{Outcome}
use Rattle.clew_c.specs.Flat.{flat, told, replace_told, update_told, read_told}

module _ {o : Outcome} {numbers : List ℕ} (f : numbers ≡ flat o.state) where
  pub told_is : {x : Outcome × List ℕ} {d : List ℕ} → (o, d) ≡ x → (o.number, d, numbers) ≡ told x
  told_is e = rw f (ap told e)

  pub replaced-is : {x : Outcome × List ℕ × List ℕ} {d e : List ℕ} → (o, d, e) ≡ x → (o.number, d, e, numbers) ≡ replace_told x
  replaced-is e = rw f (ap replace_told e)

  pub updated-is : {x : Outcome × List ℕ} {d : List ℕ} → (o, d) ≡ x → (o.number, d, numbers, o.count) ≡ update_told x
  updated-is e = rw f (ap update_told e)

pub read_is : {x : Outcome × List ℕ} {o : Outcome} {d : List ℕ} → (o, d) ≡ x → (o.number, d) ≡ read_told x
read_is e = ap read_told e

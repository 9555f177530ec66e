-- What the contracts settle: of each call, two outcomes that its promise allows are equal. The proofs stand in proofs/Settled.antt.
-- Assumes nothing.
use Rattle.std.specs.Prelude.{ℕ, ◌≡◌, List}
use Rattle.bands.specs.declared.state.State.{State}
use Rattle.clew.specs.Sizes.{sizes_of}
use Rattle.clew.specs.Calls.{load_of, change_of, replace_of, update_of, read_of}
use Rattle.clew.specs.declared.outcome.Outcome.{Outcome}
use Rattle.clew.specs.declared.outcome.Sizes.{Sizes}

-- a promise that at most one answer keeps
abbrev pub Settles : {A : Type 0} → (A → Type 0) → Type 0
Settles {A = A} promise = (x y : A) → promise x → promise y → x ≡ y

pub record Settled : Type 0 where
  pub sizes : (file : List ℕ) → Settles (λ (x : Sizes). x ≡ sizes_of file)
  pub load : (file sums area : List ℕ) → Settles (λ (x : Outcome × List ℕ). x ≡ load_of file sums area)
  pub change : (file sums area : List ℕ) (s : State) (first count : ℕ) (rows : List ℕ)
      → Settles (λ (x : Outcome × List ℕ). x ≡ change_of file sums area s first count rows)
  pub replace : (file sums area : List ℕ) (s : State) (k : ℕ) (r : List ℕ)
      → Settles (λ (x : Outcome × List ℕ × List ℕ). x ≡ replace_of file sums area s k r)
  pub update : (file sums area : List ℕ) (s : State) → Settles (λ (x : Outcome × List ℕ). x ≡ update_of file sums area s)
  pub read : (file sums area : List ℕ) (s : State) (out : List ℕ) → Settles (λ (x : Outcome × List ℕ). x ≡ read_of file sums area s out)

-- A refusal's number is never 0, so the first of it and of what follows is that number; after a test that held what follows decides.
-- Assumes nothing.
use Rattle.std.proofs.Common.{ℕ, ◌≡◌, refl, arith}
use Rattle.fields.specs.Faults.{first}
use Rattle.refusals.specs.Refusal.{refusal_number}
use Rattle.refusals.specs.declared.refusal.Refusal.{Refusal}
use Rattle.refusals.specs.declared.refusal.Refusal.TheVariants.{Malformed, OutOfRange, Unfit, NoRoom, BadBands, BadSums, BadArguments, Stale, BadRecord}

pub first_number : (e : Refusal) (b : ℕ) → first (refusal_number e) b ≡ refusal_number e
unfolding first
first_number Malformed b = refl
first_number OutOfRange b = refl
first_number Unfit b = refl
first_number NoRoom b = refl
first_number BadBands b = refl
first_number BadSums b = refl
first_number BadArguments b = refl
first_number Stale b = refl
first_number BadRecord b = refl

pub first_passed : (b : ℕ) → first 0 b ≡ b
unfolding first
first_passed b = refl

-- with these the tests of a function that makes them one after another are the definition's list
pub ruleset in_order = (first_number, first_passed)

-- a refusal has a number
pub number_some : (e : Refusal) → refusal_number e ≡ 0 → ⊥
number_some Malformed h = omega arith
number_some OutOfRange h = omega arith
number_some Unfit h = omega arith
number_some NoRoom h = omega arith
number_some BadBands h = omega arith
number_some BadSums h = omega arith
number_some BadArguments h = omega arith
number_some Stale h = omega arith
number_some BadRecord h = omega arith

-- The number of a refusal, and of the answer of a test: 0 where it holds.
-- Assumes nothing.
use Rattle.std.specs.Prelude.{ℕ, ◌≡◌, ◌<◌, ◌⊎◌, Result, Ok, Err, MatchResult}
use Rattle.refusals.specs.declared.refusal.Refusal.{Refusal}
use Rattle.refusals.specs.declared.refusal.Refusal.TheVariants.{Malformed, OutOfRange, Unfit, NoRoom, BadBands, BadSums, BadArguments, Stale, BadRecord}
use Rattle.refusals.specs.declared.refusal.NoRefusal.{NoRefusal}

-- the number by which callers know it
abbrev pub refusal_number : Refusal → ℕ
refusal_number Malformed = 1
refusal_number OutOfRange = 2
refusal_number Unfit = 3
refusal_number NoRoom = 4
refusal_number BadBands = 5
refusal_number BadSums = 6
refusal_number BadArguments = 7
refusal_number Stale = 8
refusal_number BadRecord = 9

-- a number is that of the refusal
abbrev pub HasNumber : Refusal → ℕ → Type 0
HasNumber refusal n = n ≡ refusal_number refusal

-- 0, or the number of the refusal
abbrev pub fault_of : {A : Type 0} → Result A Refusal → ℕ
fault_of (Ok x) = 0
fault_of (Err refusal) = refusal_number refusal

-- the refusal with this number, or an error with a number that none has
abbrev pub Numbers : ℕ → Result Refusal NoRefusal → Type 0
Numbers n r = MatchResult r (λ refusal. refusal_number refusal ≡ n) (λ e. (e.0 ≡ n) × ((n ≡ 0) ⊎ (9 < n)))

-- What the code's reader of a record answers, as the definition has it. No promise of a call rests on it.
-- Assumes nothing.
use Rattle.std.specs.Prelude.{ℕ, Result, Ok, Err}
use Rattle.refusals.specs.Refusal.{refusal_number}
use Rattle.refusals.specs.declared.refusal.Refusal.{Refusal}
use Rattle.records.specs.Reader.{Read, Refused, Found}
use Rattle.records.specs.declared.layer.Layer.{Layer}

-- the layer and where the next record begins, or the refusal
abbrev pub read_of : Result (Layer × ℕ) Refusal → Read
read_of (Ok found) = Found found.0 found.1
read_of (Err refusal) = Refused (refusal_number refusal)

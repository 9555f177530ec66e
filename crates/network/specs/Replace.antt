-- Test 9: a record that is to replace the one of a layer in place.
-- Assumes nothing.
use Rattle.std.specs.Prelude.{ℕ, zero, suc, ◌+◌, Bool, true, ◌&&◌, List, eqb, length}
use Rattle.fields.specs.Faults.{unless}
use Rattle.fields.specs.Bytes.{byte_at}
use Rattle.records.specs.Mark.{agreeing}
use Rattle.records.specs.Layer.{sums_of, record_len}
use Rattle.records.specs.Reader.{record_fault}
use Rattle.records.specs.declared.layer.Layer.{Layer}

-- the first n bytes of the record r are those of the file s from `at`
unfoldable pub agree : List ℕ → ℕ → List ℕ → ℕ → Bool
agree s at r zero = true
agree s at r (suc n) = agree s at r n && eqb (byte_at s (at + n)) (byte_at r n)

-- 9 where the replacement differs in length or in the bytes that must agree, or has a field, bias or spare out of range
unfoldable pub replace_fault : List ℕ → Layer → List ℕ → ℕ
replace_fault s y r =
    unless (eqb (length r) (record_len y) && agree s y.start r (agreeing y.mark) && eqb (record_fault y.mark r (sums_of y.kind)) 0) 9

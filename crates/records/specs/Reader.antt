-- One record read: its own faults, the faults of its shape, and what is stored after its fixed part. The first fault met decides.
-- Assumes nothing.
use Rattle.std.specs.Prelude.{ℕ, zero, suc, ◌+◌, ◌&&◌, List, [], ◌∷◌, leb}
use Rattle.fields.specs.Bytes.{byte_at}
use Rattle.fields.specs.Faults.{unless, first_fault, spare_fault, cut_fault}
use Rattle.fields.specs.Shape.{size_fault, same_shape}
use Rattle.fields.specs.Stored.{bias_faults, stored_fault}
use Rattle.fields.specs.declared.shape.Shape.{Shape}
use Rattle.records.specs.Mark.{fixed_len}
use Rattle.records.specs.Frame.{fits}
use Rattle.records.specs.Conv.{blank_conv, conv_at, conv_fields}
use Rattle.records.specs.Full.{full_at, full_fields}
use Rattle.records.specs.Add.{add_at, add_fields}
use Rattle.records.specs.Layer.{sums_of, terms_of, output_shape, biases_at, record_len}
use Rattle.records.specs.declared.layer.Kind.{Kind}
use Rattle.records.specs.declared.layer.Kind.TheVariants.{Conv, Full, Add}
use Rattle.records.specs.declared.layer.Layer.{Layer}
use Rattle.records.specs.declared.mark.Mark.{Mark}
use Rattle.records.specs.declared.mark.Mark.TheVariants.{CV, FU, AD, Other}
use Rattle.records.specs.declared.reader.Before.{Before}

-- the parameters that the record at a place holds, by its mark; an unknown mark is refused, whatever stands here
abbrev pub kind_at : Mark → List ℕ → ℕ → Kind
kind_at CV s at = Conv (conv_at s at)
kind_at FU s at = Full (full_at s at)
kind_at AD s at = Add (add_at s at)
kind_at Other s at = Conv blank_conv

-- a record's own faults: the mark is unknown; a spare, then the fields in file order
unfoldable pub own_fault : Mark → List ℕ → ℕ → ℕ
own_fault CV s at = conv_fields (conv_at s at)
own_fault FU s at = first_fault (spare_fault (byte_at s (at + 9)) ∷ full_fields (full_at s at) ∷ [])
own_fault AD s at = first_fault (spare_fault (byte_at s (at + 21)) ∷ add_fields (add_at s at) ∷ [])
own_fault Other s at = 1

-- the input does not suit the layer: a padded side is below the kernel's, or tensor j is not there yet or of another shape
unfoldable pub suit_fault : Kind → Before → Shape → ℕ
suit_fault (Conv c) b other = unless (fits c.frame b.input) 3
suit_fault (Full f) b other = 0
suit_fault (Add a) b other = unless (leb a.other b.made && same_shape other b.input) 3

-- the layer whose record begins at a place, after what stands before it
abbrev pub layer_with : Mark → Kind → ℕ → Before → Layer
layer_with m k at b = record { mark = m; kind = k; input = b.input; output = output_shape k b.input; start = at; place = b.area; sums = b.store }

-- what is stored after the fixed part: biases and weights present, biases in order
abbrev pub stored_after : List ℕ → Layer → ℕ
stored_after s y = stored_fault s (biases_at y) (sums_of y.kind) (terms_of y.kind y.input)

-- what reading a layer's record finds: the refusal number, or the layer and where the next record begins
pub data Read : Type 0 where
  Refused : ℕ → Read
  Found : Layer → ℕ → Read

-- the layer and where the next record begins, unless there is a fault
unfoldable pub answer : ℕ → Layer → ℕ → Read
answer zero layer next = Found layer next
answer (suc fault) layer next = Refused (suc fault)

-- the number that a reading of a record gives
abbrev pub number_of : Read → ℕ
number_of (Refused fault) = fault
number_of (Found layer next) = 0

-- mark and fixed part present; its own faults; its shape, which suits and is not too big; what is stored. `other` is the shape of the other
-- tensor that it reads
unfoldable pub read_as : Mark → Kind → List ℕ → ℕ → Before → Shape → Read
read_as m k s at b other = answer
    (first_fault (
    cut_fault s at (fixed_len m) ∷
    own_fault m s at ∷
    suit_fault k b other ∷
    size_fault (output_shape k b.input) b.area ∷
    stored_after s (layer_with m k at b) ∷ []))
    (layer_with m k at b)
    (at + record_len (layer_with m k at b))

-- a field, bias or spare of the record r, which begins at its first byte and has n biases, out of range: test 9 looks at these alone
abbrev pub record_fault : Mark → List ℕ → ℕ → ℕ
record_fault m r n = first_fault (own_fault m r 0 ∷ bias_faults r (fixed_len m) n ∷ [])

-- The whole file: its length, the head, the layers in order, and that nothing follows.
-- Assumes nothing.
use Rattle.std.specs.Prelude.{ℕ, zero, suc, ◌+◌, min, cond, List, [], ◌∷◌, leb, eqb, length}
use Rattle.numbers.specs.Limits.{file_most}
use Rattle.fields.specs.Faults.{unless, first_fault}
use Rattle.fields.specs.Bytes.{byte_at}
use Rattle.fields.specs.Shape.{bytes_of}
use Rattle.fields.specs.declared.shape.Shape.{Shape}
use Rattle.records.specs.Mark.{mark_at}
use Rattle.records.specs.Layer.{other_of}
use Rattle.records.specs.Reader.{kind_at, read_as}
use Rattle.records.specs.declared.layer.Kind.{Kind}
use Rattle.records.specs.declared.layer.Layer.{Layer}
use Rattle.records.specs.declared.mark.Mark.{Mark}
use Rattle.records.specs.declared.reader.Before.{Before}
use Rattle.records.specs.Reader.{Read}
use Rattle.records.specs.Reader.{Refused, Found}
use Rattle.network.specs.Network.{blank_shape, empty_network, with_layer, tensor_of}
use Rattle.network.specs.Head.{picture_at, head_fault}
use Rattle.network.specs.declared.net.Network.{Network}

-- what stands before the record of layer made + 1, which reads tensor made
abbrev pub before_of : Network → ℕ → Before
before_of n made = record { input = tensor_of n made; made = made; area = n.area; store = n.store }

-- the shape of the other tensor that it reads. One that is not there yet is refused by its number, so it does not matter which shape stands
-- for it then
abbrev pub other_shape : Network → Kind → ℕ → Shape
other_shape n k made = tensor_of n (min (other_of k made) made)

-- its record, by its mark
abbrev pub read_marked : Mark → List ℕ → ℕ → Network → ℕ → Read
read_marked m s at n made = read_as m (kind_at m s at) s at (before_of n made) (other_shape n (kind_at m s at) made)

unfoldable pub read_layer : List ℕ → ℕ → Network → ℕ → Read
read_layer s at n made = read_marked (mark_at s at) s at n made

-- a file read so far: the fault met, or 0 with where the next record begins, how many layers there are, and the network of these
pub record Progress : Type 0 where
  pub fault : ℕ
  pub at : ℕ
  pub made : ℕ
  pub network : Network

-- the answer: fault 0 with the network, or the number of the first fault met with a network of no layer
pub record Decoded : Type 0 where
  pub fault : ℕ
  pub network : Network

-- a refusal: the number, and no network
unfoldable pub stopped : ℕ → Progress
stopped n = record { fault = n; at = 0; made = 0; network = empty_network blank_shape 0 0 0 }

unfoldable pub started : ℕ → Shape → ℕ → ℕ → Progress
started zero picture z count = record { fault = 0; at = 10; made = 0; network = empty_network picture z count (bytes_of picture) }
started (suc fault) picture z count = stopped (suc fault)

unfoldable pub start_of : List ℕ → Progress
start_of s = started (head_fault s) (picture_at s) (byte_at s 7) (byte_at s 8)

-- one more layer
unfoldable pub pushed : Progress → Layer → ℕ → Progress
pushed p l next = record {
  fault = 0;
  at = next;
  made = p.made + 1;
  network = with_layer p.network p.made l;
}

abbrev pub step_read : Progress → Read → Progress
step_read p (Refused n) = stopped n
step_read p (Found l next) = pushed p l next

-- the next layer's record, unless the file is refused already
abbrev pub step_from : ℕ → List ℕ → Progress → Progress
step_from zero s p = step_read p (read_layer s p.at p.network p.made)
step_from (suc n) s p = p

unfoldable pub step_of : List ℕ → Progress → Progress
step_of s p = step_from p.fault s p

-- n layers more
unfoldable pub steps_of : List ℕ → ℕ → Progress → Progress
steps_of s zero p = p
steps_of s (suc n) p = steps_of s n (step_of s p)

-- nothing follows the last layer
unfoldable pub end_fault : List ℕ → ℕ → ℕ
end_fault s at = unless (eqb at (length s)) 1

unfoldable pub decoded_as : ℕ → Progress → Decoded
decoded_as zero p = record { fault = 0; network = p.network }
decoded_as (suc n) p = record { fault = suc n; network = empty_network blank_shape 0 0 0 }

abbrev pub finish_of : List ℕ → Progress → Decoded
finish_of s p = decoded_as (first_fault (p.fault ∷ end_fault s p.at ∷ [])) p

abbrev pub whole_of : List ℕ → Progress → Decoded
whole_of s p = finish_of s (steps_of s p.network.count p)

-- file length is tested first, then records in order, trailing bytes last
unfoldable pub decode_of : List ℕ → Decoded
decode_of s = cond (leb (length s) file_most) (whole_of s (start_of s)) (decoded_as 3 (stopped 3))

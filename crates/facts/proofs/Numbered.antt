-- Tests 1 to 3 give no number above 3: each test of a file gives 0, 1, 2 or 3, and the first of such numbers is one.
-- Assumes nothing.
use Prim.Native.Nat.{ℕ, zero, suc, ◌+◌, ◌≤◌}
use mathlib.Core.Bool.{Bool, true, false, cond}
use mathlib.Core.List.{List}
use native.Mathlib.Bridge.{le_by_compare, IsLe}
use native.Mathlib.Omega.{arith}
use lib.Dec.{leb}
use lib.ListN.{length}
use Rattle.fields.specs.Bytes.{byte_at}
use Rattle.fields.specs.Faults.{first, within, bias_fault, clamp_fault, padding_fault, spare_fault, cut_fault}
use Rattle.fields.specs.Shape.{size_fault}
use Rattle.fields.specs.Stored.{bias_faults, stored_fault}
use Rattle.fields.specs.declared.shape.Shape.{Shape}
use Rattle.records.specs.Reader.{own_fault, suit_fault, answer, read_as}
use Rattle.records.specs.declared.layer.Kind.{Kind}
use Rattle.records.specs.declared.layer.Kind.TheVariants.{Conv, Full, Add}
use Rattle.records.specs.declared.layer.Layer.{Layer}
use Rattle.records.specs.declared.mark.Mark.{Mark}
use Rattle.records.specs.declared.mark.Mark.TheVariants.{CV, FU, AD, Other}
use Rattle.records.specs.declared.reader.Before.{Before}
use Rattle.records.specs.Reader.{Read}
use Rattle.records.specs.Reader.{Refused, Found}
use Rattle.network.specs.Head.{picture_at, head_mark, head_fault}
use Rattle.network.specs.Decode.{read_layer, stopped, started, start_of, pushed, step_read, step_from, step_of, steps_of, end_fault, decoded_as, whole_of, decode_of}
use Rattle.network.specs.declared.net.Network.{Network}
use Rattle.network.specs.Decode.{Progress}

-- the first of two numbers is one of them
pub first_most : {a b k : ℕ} → a ≤ k → b ≤ k → first a b ≤ k
unfolding first
first_most {a = zero} p q = q
first_most {a = suc a} p q = p

-- and so is the number of a branch
cond_most : {a b k : ℕ} (t : Bool) → a ≤ k → b ≤ k → cond t a b ≤ k
cond_most true p q = p
cond_most false p q = q

-- what bounds a fault that is made of tests and numerals
ruleset most = (first_most, cond_most, le_by_compare)

-- ---- the tests

-- the head
head_most : (s : List ℕ) → head_fault s ≤ 3
unfolding IsLe head_fault head_mark cut_fault spare_fault within size_fault
head_most s = search most depth 20

-- bytes that follow the last layer
end_most : (s : List ℕ) (at : ℕ) → end_fault s at ≤ 3
unfolding IsLe end_fault
end_most s at = search most

-- a layer's biases
biases_most : (s : List ℕ) (at n : ℕ) → bias_faults s at n ≤ 3
unfolding IsLe bias_faults bias_fault
biases_most s at zero = omega arith
biases_most s at (suc n) = search (most, biases_most s (at + 4) n)

-- ---- a record's reader

-- a refusal's number is at most 3
abbrev Most : Read → Type 0
Most (Refused k) = k ≤ 3
Most (Found y next) = 0 ≤ 3

-- an answer to a fault
answer_most : (k : ℕ) (y : Layer) (next : ℕ) → k ≤ 3 → Most (answer k y next)
unfolding answer
answer_most zero y next h = omega arith
answer_most (suc k) y next h = h

-- a record's own faults
own_most : (m : Mark) (s : List ℕ) (at : ℕ) → own_fault m s at ≤ 3
unfolding IsLe own_fault spare_fault within clamp_fault padding_fault
own_most CV s at = search most depth 20
own_most FU s at = search most depth 20
own_most AD s at = search most depth 20
own_most Other s at = omega arith

-- an input that does not suit it
suit_most : (k : Kind) (b : Before) (other : Shape) → suit_fault k b other ≤ 3
unfolding IsLe suit_fault
suit_most (Conv c) b other = search most
suit_most (Full f) b other = omega arith
suit_most (Add a) b other = search most

-- the next record
layer_most : (s : List ℕ) (at : ℕ) (n : Network) (made : ℕ) → Most (read_layer s at n made)
unfolding IsLe read_layer read_as stored_fault cut_fault size_fault
layer_most s at n made = answer_most _ _ _ (search (most, own_most, suit_most, biases_most) depth 20)

-- ---- the file

-- after the head
start_most : (s : List ℕ) → (start_of s).fault ≤ 3
unfolding start_of started stopped
start_most s = at-fault (head_fault s) (head_most s) where
  at-fault : (k : ℕ) → k ≤ 3 → (started k (picture_at s) (byte_at s 7) (byte_at s 8)).fault ≤ 3
  at-fault zero h = h
  at-fault (suc k) h = h

-- after one more layer
step_most : (s : List ℕ) (p : Progress) → p.fault ≤ 3 → (step_of s p).fault ≤ 3
unfolding step_of stopped pushed
step_most s p h = from p.fault where
  after : (r : Read) → Most r → (step_read p r).fault ≤ 3
  after (Refused k) g = g
  after (Found y next) g = g

  from : (k : ℕ) → (step_from k s p).fault ≤ 3
  from zero = after (read_layer s p.at p.network p.made) (layer_most s _ _ _)
  from (suc k) = h

-- after n layers more
steps_most : (s : List ℕ) (n : ℕ) (p : Progress) → p.fault ≤ 3 → (steps_of s n p).fault ≤ 3
unfolding steps_of
steps_most s zero p h = h
steps_most s (suc n) p h = steps_most s n (step_of s p) (step_most s p h)

-- what is decoded
decoded_most : (k : ℕ) (p : Progress) → k ≤ 3 → (decoded_as k p).fault ≤ 3
unfolding decoded_as
decoded_most zero p h = omega arith
decoded_most (suc k) p h = h

-- tests 1 to 3 of any file
pub file_most_lem : (s : List ℕ) → (decode_of s).fault ≤ 3
unfolding decode_of
file_most_lem s = by_length (leb (length s) 65536) where
  by_length : (b : Bool) → (cond b (whole_of s (start_of s)) (decoded_as 3 (stopped 3))).fault ≤ 3
  by_length true = decoded_most _ _ (first_most (steps_most s _ (start_of s) (start_most s)) (end_most s _))
  by_length false = decoded_most 3 _ (omega arith)

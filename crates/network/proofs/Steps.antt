-- A file that is taken: its layers, one found after another, and its end.
-- Assumes nothing.
use Prim.Native.Nat.{ℕ, zero, suc, ◌+◌, ◌≤◌, ◌<◌}
use mathlib.Core.Path.{◌≡◌, refl, sym, ◌∙◌, ap, subst, subst⁻¹}
use mathlib.Core.Bool.{Bool, true, false, cond}
use mathlib.Core.List.{List}
use native.Mathlib.Omega.{arith}
use borrow.Author.Tests.{leb-true}
use lib.Dec.{leb}
use lib.ListN.{length, length-set}
use lib.Seq.{get_or-set_same, get_or-set_other}
use Rattle.fields.specs.Faults.{first}
use Rattle.records.specs.declared.layer.Layer.{Layer}
use Rattle.records.specs.Reader.{Read}
use Rattle.records.specs.Reader.{Refused, Found}
use Rattle.records.proofs.Answers.{Answered}
use Rattle.network.specs.Network.{blank_layer, layer_of}
use Rattle.network.specs.Decode.{read_layer, start_of, stopped, pushed, step_read, step_from, step_of, steps_of, end_fault, decoded_as, whole_of, decode_of}
use Rattle.network.specs.Decode.{Progress}
use Rattle.network.proofs.Passing.{FoundAt, read_found, found_at}
use Rattle.network.proofs.Layers.{step_next, loop_ends}

-- n layers are found, from p on, and lead to q
pub data Steps (s : List ℕ) : ℕ → Progress → Progress → Type 0 where
  here : {p : Progress} → Steps s zero p p
  more :
      {n : ℕ} {p q : Progress} (l : Layer) (next : ℕ) →
      read_layer s p.at p.network p.made ≡ Found l next →
      Steps s n (pushed p l next) q →
      Steps s (suc n) p q

-- the steps of a file that is not refused are such
pub steps_of_lem : (s : List ℕ) (n : ℕ) (p : Progress) → (steps_of s n p).fault ≡ 0 → (p.fault ≡ 0) × Steps s n p (steps_of s n p)
unfolding steps_of step_of stopped
steps_of_lem s zero p h = (h, here)
steps_of_lem s (suc n) p h = from p.fault refl (steps_of_lem s n (step_of s p) h) where
  after :
      (r : Read) →
      read_layer s p.at p.network p.made ≡ r →
      Answered (FoundAt s p.at p.network p.made) r →
      (q : Progress) →
      ((step_read p r).fault ≡ 0) × Steps s n (step_read p r) q →
      Steps s (suc n) p q
  after (Refused m) e a q b = absurd (omega arith)
  after (Found l next) e a q b = more l next e b.1

  from :
      (k : ℕ) →
      p.fault ≡ k →
      ((step_from k s p).fault ≡ 0) × Steps s n (step_from k s p) (steps_of s n (step_of s p)) →
      (p.fault ≡ 0) × Steps s (suc n) p (steps_of s n (step_of s p))
  from zero e b = (e, after (read_layer s p.at p.network p.made) refl (read_found s p.at p.network p.made) _ b)
  from (suc k) e b = absurd (omega arith)

-- and such are its steps
pub of_steps : {s : List ℕ} {n : ℕ} {p q : Progress} → Steps s n p q → p.fault ≡ 0 → steps_of s n p ≡ q
unfolding steps_of pushed
of_steps here h = refl
of_steps {s} (more {n} {p} l next e r) h = ap (steps_of s n) (sym (step_next s p (Found l next) h (sym e))) ∙ of_steps r refl

-- the number of layers stays
pub kept_count : {s : List ℕ} {n : ℕ} {p q : Progress} → Steps s n p q → q.network.count ≡ p.network.count
unfolding pushed
kept_count here = refl
kept_count (more l next e r) = kept_count r

-- a layer that is found already stays
pub kept_layer :
    {s : List ℕ} {n : ℕ} {p q : Progress} →
    Steps s n p q →
    (k : ℕ) →
    k < p.made →
    layer_of q.network k ≡ layer_of p.network k
unfolding pushed
kept_layer here k h = refl
kept_layer (more {p = p} l next e r) k h =
    kept_layer r k (omega arith) ∙ get_or-set_other p.network.layers p.made k l blank_layer (λ x. omega arith)

-- and so does the next one, once it is found
pub next_layer :
    {s : List ℕ} {n : ℕ} (p : Progress) {q : Progress} (l : Layer) (next : ℕ) →
    Steps s n (pushed p l next) q →
    p.made < length p.network.layers →
    layer_of q.network p.made ≡ l
unfolding pushed
next_layer p l next r h = kept_layer r p.made (omega arith) ∙ get_or-set_same p.network.layers p.made l blank_layer h

-- the record of layer k, still to be found, begins no earlier than the next one
pub later_start :
    {s : List ℕ} {n : ℕ} {p q : Progress} →
    Steps s n p q →
    (k i : ℕ) →
    i < n →
    p.made + i ≡ k →
    k < length p.network.layers →
    p.at ≤ (layer_of q.network k).start
unfolding pushed
later_start here k i b x h = absurd (omega arith)
later_start {s} (more {p = p} {q = q} l next e r) k zero b x h =
    let y : p.made ≡ k = omega arith in
    let z = subst (λ (j : ℕ). layer_of q.network j ≡ l) y (next_layer p l next r (omega arith)) in
    omega (arith, ap (λ (a : Layer). a.start) (z ∙ (found_at s _ _ _ l next e).layer))
later_start {s} (more {p = p} l next e r) k (suc i) b x h =
    omega (
      arith,
      (found_at s _ _ _ l next e).next-is,
      later_start r k i (omega arith) (omega arith) (subst⁻¹ (λ (j : ℕ). k < j) (length-set p.network.layers p.made l) h),
    )

-- ---- the whole file

-- where the steps over the layers end
abbrev pub at_end : List ℕ → Progress
at_end s = steps_of s (start_of s).network.count (start_of s)

-- a file that is taken is short enough, and its steps end with no fault at the file's end
pub taken_end : (s : List ℕ) → (decode_of s).fault ≡ 0 → (length s ≤ 65536) × (first (at_end s).fault (end_fault s (at_end s).at) ≡ 0)
unfolding decode_of decoded_as
taken_end s = by_length (leb (length s) 65536) refl where
  by-fault : (k : ℕ) → (decoded_as k (at_end s)).fault ≡ 0 → k ≡ 0
  by-fault zero h = refl
  by-fault (suc k) h = h

  by_length :
      (b : Bool) →
      leb (length s) 65536 ≡ b →
      (cond b (whole_of s (start_of s)) (decoded_as 3 (stopped 3))).fault ≡ 0 →
      (length s ≤ 65536) × (first (at_end s).fault (end_fault s (at_end s).at) ≡ 0)
  by_length true e h = (leb-true _ _ e, by-fault _ h)
  by_length false e h = absurd (omega arith)

-- and a file of which that holds is taken, with the network at the end
pub end_taken :
    (s : List ℕ) (q : Progress) →
    length s ≤ 65536 →
    at_end s ≡ q →
    first q.fault (end_fault s q.at) ≡ 0 →
    decode_of s ≡ record { fault = 0; network = q.network }
unfolding steps_of decoded_as
end_taken s q small ran fine =
    sym (loop_ends s q (start_of s) 0 (end_fault s q.at) 0 _ small refl (omega arith) (sym ran) refl (sym fine) refl)

-- What a record's reader answers.
-- Assumes nothing.
use Prim.Native.Nat.{ℕ, zero, suc, ◌+◌, ◌*◌, ◌^◌, ◌≤◌, ◌<◌}
use mathlib.Core.Path.{◌≡◌, refl, ◌∙◌, ap, subst⁻¹}
use mathlib.Core.List.{List}
use native.Mathlib.Omega.{arith}
use lib.IntN.{nat_abs}
use lib.ListN.{length}
use Rattle.fields.specs.Bytes.{i32_at}
use Rattle.fields.specs.Faults.{first, cut_fault}
use Rattle.fields.specs.Shape.{bytes_of, size_fault}
use Rattle.fields.specs.Asked.{GoodShape}
use Rattle.fields.specs.declared.shape.Shape.{Shape}
use Rattle.fields.proofs.Tests.{first_both, first-none, cut_there, there_cut}
use Rattle.fields.proofs.Shapes.{size_in}
use Rattle.fields.proofs.Stores.{stored_in}
use Rattle.records.specs.Mark.{fixed_len}
use Rattle.records.specs.Layer.{sums_of, terms_of, output_shape, record_len}
use Rattle.records.specs.Asked.{KindOk}
use Rattle.records.specs.Reader.{kind_at, own_fault, suit_fault, stored_after, layer_with, Read, Refused, Found, answer, read_as}
use Rattle.records.specs.declared.layer.Kind.{Kind}
use Rattle.records.specs.declared.layer.Layer.{Layer}
use Rattle.records.specs.declared.mark.Mark.{Mark}
use Rattle.records.specs.declared.reader.Before.{Before}
use Rattle.refusals.specs.Refusal.{refusal_number}
use Rattle.refusals.specs.declared.refusal.Refusal.{Refusal}
use Rattle.refusals.specs.declared.refusal.Refusal.TheVariants.{Malformed, OutOfRange, Unfit, NoRoom, BadBands, BadSums, BadArguments, Stale, BadRecord}
use Rattle.records.proofs.Ranges.{own_ok, sums_few, output_good}

pub answer_found : (f : ℕ) (l : Layer) (n : ℕ) → f ≡ 0 → answer f l n ≡ Found l n
unfolding answer
answer_found f l n p = rw p

-- a refusal's number answers itself
pub answer_number : (e : Refusal) (l : Layer) (n : ℕ) → answer (refusal_number e) l n ≡ Refused (refusal_number e)
unfolding answer
answer_number Malformed l n = refl
answer_number OutOfRange l n = refl
answer_number Unfit l n = refl
answer_number NoRoom l n = refl
answer_number BadBands l n = refl
answer_number BadSums l n = refl
answer_number BadArguments l n = refl
answer_number Stale l n = refl
answer_number BadRecord l n = refl

pub answer_none : (l : Layer) (n : ℕ) → answer 0 l n ≡ Found l n
unfolding answer
answer_none l n = refl

pub ruleset answered = (answer_number, answer_none)

-- of a record whose fixed part is there and in its ranges the other tests decide
pub read_fit :
    (m : Mark) (k : Kind) (s : List ℕ) (at : ℕ) (b : Before) (other : Shape) →
    at + fixed_len m ≤ length s →
    own_fault m s at ≡ 0 →
    read_as m k s at b other ≡
    answer
    (first (suit_fault k b other) (first (size_fault (output_shape k b.input) b.area) (stored_after s (layer_with m k at b))))
    (layer_with m k at b)
    (at + record_len (layer_with m k at b))
unfolding read_as
read_fit m k s at b other h o =
    ap (λ f. answer f (layer_with m k at b) (at + record_len (layer_with m k at b)))
    (first-none _ _ (there_cut _ _ _ h) ∙ first-none _ _ o)

-- what holds of the layer and of the next record's place, where the record is not refused
abbrev pub Answered : (Layer → ℕ → Type 0) → Read → Type 0
Answered P (Refused n) = 1 ≤ n
Answered P (Found l next) = P l next

answer_ok :
    (P : Layer → ℕ → Type 0) (f : ℕ) (l : Layer) (next : ℕ) →
    (f ≡ 0 → P l next) →
    Answered P (answer f l next)
unfolding answer
answer_ok P zero l next h = h refl
answer_ok P (suc f) l next h = omega arith

pub answered_map :
    (P Q : Layer → ℕ → Type 0) (r : Read) →
    ((l : Layer) (next : ℕ) → P l next → Q l next) →
    Answered P r →
    Answered Q r
answered_map P Q (Refused n) f h = h
answered_map P Q (Found l next) f h = f l next h

pub answered_found :
    (P : Layer → ℕ → Type 0) (r : Read) (l : Layer) (next : ℕ) →
    Found l next ≡ r →
    Answered P r →
    P l next
answered_found P r l next e h = subst⁻¹ (Answered P) e h

-- ---- a record that passes

module _ (m : Mark) (k : Kind) (s : List ℕ) (at : ℕ) (b : Before) (other : Shape) where
  -- the tests that it passes
  pub record Passes : Type 0 where
    pub there : cut_fault s at (fixed_len m) ≡ 0
    pub own : own_fault m s at ≡ 0
    pub suit : suit_fault k b other ≡ 0
    pub size : size_fault (output_shape k b.input) b.area ≡ 0
    pub stored : stored_after s (layer_with m k at b) ≡ 0

  -- what is found is the layer of its kind, and the next record follows
  pub record FoundAs (l : Layer) (next : ℕ) : Type 0 where
    pub passes : Passes
    pub layer : l ≡ layer_with m k at b
    pub next-is : next ≡ at + record_len l

  -- a record is refused by a number that is not 0, or it passes
  pub read-passes : Answered FoundAs (read_as m k s at b other)
  unfolding read_as
  read-passes = answer_ok FoundAs _ _ _ (λ p.
      let a = first_both _ _ p in
      let c = first_both _ _ a.1 in
      let d = first_both _ _ c.1 in
      let e = first_both _ _ d.1 in
      record { passes = record { there = a.0; own = c.0; suit = d.0; size = e.0; stored = e.1 }; layer = refl; next-is = refl })

  -- one that is found passes
  pub found_as : (l : Layer) (next : ℕ) → Found l next ≡ read_as m k s at b other → FoundAs l next
  found_as l next e = answered_found FoundAs (read_as m k s at b other) l next e read-passes

  -- and one that passes is found
  pub passes-found : Passes → read_as m k s at b other ≡ Found (layer_with m k at b) (at + record_len (layer_with m k at b))
  unfolding read_as
  passes-found p =
      answer_found _ _ _ (first-none _ _ p.there ∙ first-none _ _ p.own ∙ first-none _ _ p.suit ∙ first-none _ _ p.size ∙ p.stored)

  -- what it leaves: where the next record begins, what is stored, and the shape of what the layer makes
  pub record Left : Type 0 where
    pub next-in : at + record_len (layer_with m k at b) ≤ length s
    pub biases : (f : ℕ) → f < sums_of k → nat_abs (i32_at s (at + fixed_len m + 4 * f)) ≤ 2 ^ 30
    pub output_good : GoodShape (output_shape k b.input)
    pub area-few : b.area + bytes_of (output_shape k b.input) ≤ 65536
    pub sums_few : sums_of k ≤ 256

  pub passes-left : at ≤ length s → k ≡ kind_at m s at → GoodShape b.input → Passes → Left
  passes-left h e g p =
      let there = cut_there s at (fixed_len m) h p.there in
      let stored = stored_in s (at + fixed_len m) (sums_of k) (terms_of k b.input) there p.stored in
      let size = size_in (output_shape k b.input) b.area p.size in
      let ok : KindOk k = rw e (own_ok m s at p.own) in
      record {
        next-in = omega (arith, stored.there);
        biases = stored.biases;
        output_good = output_good k b.input ok g size.0;
        area-few = size.1;
        sums_few = sums_few k ok;
      }

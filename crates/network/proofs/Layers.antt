-- The steps over the layers: what holds at each of them, and the loop that makes it.
-- Assumes nothing.
use Prim.Native.Nat.{ℕ, zero, suc, ◌+◌, ◌-◌, ◌≤◌, ◌<◌}
use mathlib.Core.Path.{◌≡◌, refl, sym, ◌∙◌, ap, subst, subst⁻¹}
use mathlib.Core.List.{List}
use Rattle.std.specs.Prelude.{Ok, Err}
use native.Mathlib.Omega.{arith}
use native.Mathlib.Numerals.{add-one, sub-one}
use mathlib.Core.Bool.{Bool, true, false}
use borrow.Author.Tests.{le-leb, leb-true}
use lib.Dec.{leb}
use lib.ListN.{length, length-set, length-replicate}
use Rattle.fields.specs.Faults.{unless, first}
use Rattle.fields.specs.Bytes.{byte_at}
use Rattle.fields.specs.Shape.{bytes_of}
use Rattle.fields.specs.Asked.{GoodShape}
use Rattle.refusals.specs.Refusal.{refusal_number}
use Rattle.refusals.specs.declared.refusal.Refusal.{Refusal}
use Rattle.refusals.specs.declared.refusal.Refusal.TheVariants.{Malformed, OutOfRange, Unfit, NoRoom, BadBands, BadSums, BadArguments, Stale, BadRecord}
use Rattle.fields.specs.declared.shape.Shape.{Shape}
use Rattle.records.specs.declared.layer.Layer.{Layer}
use Rattle.records.specs.Reader.{Read}
use Rattle.records.specs.Reader.{Refused, Found}
use Rattle.fields.proofs.Refusals.{number_some}
use Rattle.fields.proofs.Tests.{first_both, first_some, first-none, unless-none, within_in, cut_there}
use Rattle.fields.proofs.Shapes.{size_in, good_shape}
use Rattle.records.proofs.Answers.{Answered}
use Rattle.network.specs.Network.{blank_shape, blank_layer, empty_network, with_layer, tensor_of}
use Rattle.network.specs.Head.{picture_at, head_fault}
use Rattle.network.specs.Asked.{Next, CanStep}
use Rattle.network.specs.Decode.{Progress, Decoded, read_layer, stopped, started, start_of, pushed, step_read, step_from, step_of, steps_of, end_fault, decoded_as, finish_of, whole_of, decode_of}
use Rattle.network.specs.Answer.{decoded_to}
use Rattle.network.specs.declared.net.Network.{Network}
use Rattle.network.proofs.Marked.{Grown, read-grown}
use Rattle.network.proofs.Growth.{Sofar, pushed_extends, sofar-more}

-- what holds of a file read so far, with `left` layers to come
pub record Ready (s : List ℕ) (left : ℕ) (p : Progress) : Type 0 where
  pub left-all : p.made + left ≡ p.network.count
  pub count-some : 1 ≤ p.network.count
  pub count-few : p.network.count ≤ 16
  pub sixteen : length p.network.layers ≡ 16
  pub zero_is : p.network.zero ≡ byte_at s 7
  pub picture-rows : p.network.picture.rows ≤ 256
  pub picture-columns : p.network.picture.columns ≤ 256
  pub picture-channels : p.network.picture.channels ≤ 64
  pub sofar : Sofar s p.network p.made p.at

-- unless it is refused
abbrev pub Fine : List ℕ → ℕ → Progress → Type 0
Fine s left p = p.fault ≡ 0 → Ready s left p

-- ---- one layer more

pushed_ready :
    (s : List ℕ) (left : ℕ) (p : Progress) (l : Layer) (next : ℕ) →
    0 < left →
    Ready s left p →
    Grown s p.network p.made p.at l next →
    Ready s (left - 1) (pushed p l next)
unfolding pushed
pushed_ready s left p l next h r g =
    let e = pushed_extends p l next (omega arith) in
    let more = sofar-more s p.network (pushed p l next).network p.made l e p.at next r.sofar g in
    record {
      left-all = omega arith;
      count-some = r.count-some;
      count-few = r.count-few;
      sixteen = length-set p.network.layers p.made l ∙ r.sixteen;
      zero_is = r.zero_is;
      picture-rows = r.picture-rows;
      picture-columns = r.picture-columns;
      picture-channels = r.picture-channels;
      sofar = subst⁻¹ (λ (k : ℕ). Sofar s (pushed p l next).network k next) (add-one p.made) more;
    }

step_fine : (s : List ℕ) (left : ℕ) (p : Progress) → 0 < left → Fine s left p → Fine s (left - 1) (step_of s p)
unfolding step_of stopped pushed
step_fine s left p h f = from p.fault refl where
  after : (r : Read) → Ready s left p → Answered (Grown s p.network p.made p.at) r → Fine s (left - 1) (step_read p r)
  after (Refused m) r k e = absurd (omega arith)
  after (Found l next) r k e = pushed_ready s left p l next h r k

  from : (k : ℕ) → p.fault ≡ k → Fine s (left - 1) (step_from k s p)
  from zero e =
      let r = f e in
      after (read_layer s p.at p.network p.made) r
      (read-grown s p.at p.network p.made r.sofar.at_in (r.sofar.shapes p.made (omega arith)))
  from (suc k) e = λ e'. absurd (omega arith)

-- the layers that are left, after one
steps_next : (s : List ℕ) (left : ℕ) (p : Progress) → 0 < left → steps_of s left p ≡ steps_of s (left - 1) (step_of s p)
unfolding steps_of
steps_next s zero p h = absurd (omega arith)
steps_next s (suc left) p h = rw sub-one

steps_none : (s : List ℕ) (left : ℕ) (p x : Progress) → left ≤ 0 → steps_of s left p ≡ x → p ≡ x
unfolding steps_of
steps_none s zero p x h e = e
steps_none s (suc left) p x h e = absurd (omega arith)

pub steps_fine : (s : List ℕ) (left : ℕ) (p : Progress) → Fine s left p → Fine s 0 (steps_of s left p)
unfolding steps_of
steps_fine s zero p f = f
steps_fine s (suc left) p f =
    steps_fine s left (step_of s p)
    (subst (λ (k : ℕ). Fine s k (step_of s p)) (sub-one (suc left)) (step_fine s (suc left) p (omega arith) f))

-- ---- the head

picture_only : (n : Network) (t : ℕ) → t < 0 + 1 → GoodShape n.picture → GoodShape (tensor_of n t)
picture_only n zero h g = g
picture_only n (suc m) h g = absurd (omega arith)

started_fine :
    (s : List ℕ) (k : ℕ) →
    head_fault s ≡ k →
    Fine s (started k (picture_at s) (byte_at s 7) (byte_at s 8)).network.count (started k (picture_at s) (byte_at s 7) (byte_at s 8))
unfolding started head_fault picture_at stopped
started_fine s zero p e =
    let a = first_both _ _ p in
    let m = first_both _ _ a.1 in
    let b = first_both _ _ (first_both _ _ m.1).1 in
    let d = first_both _ _ b.1 in
    let f = first_both _ _ d.1 in
    let g = first_both _ _ f.1 in
    let size = size_in (picture_at s) 0 g.1 in
    let count = within_in 1 16 (byte_at s 8) g.0 in
    let rows = within_in 1 256 _ b.0 in
    let columns = within_in 1 256 _ d.0 in
    let channels = within_in 1 64 _ f.0 in
    let good = good_shape (picture_at s) rows.0 columns.0 channels.0 (omega (arith, channels.1)) size.0 in
    let n = empty_network (picture_at s) (byte_at s 7) (byte_at s 8) (bytes_of (picture_at s)) in
    record {
      left-all = omega arith;
      count-some = count.0;
      count-few = count.1;
      sixteen = length-replicate 16 blank_layer;
      zero_is = refl;
      picture-rows = rows.1;
      picture-columns = columns.1;
      picture-channels = channels.1;
      sofar = record {
        at_in = cut_there s 0 10 (omega arith) a.0;
        at-is = refl;
        area-is = omega arith;
        area-few = omega (arith, size.0);
        store_is = refl;
        store-few = omega arith;
        shapes = λ t h. picture_only n t h good;
        layers = λ m h. absurd (omega arith);
        starts = λ m h. absurd (omega arith);
        sums = λ m h. absurd (omega arith);
      };
    }
started_fine s (suc k) p e = absurd (omega arith)

pub start_fine : (s : List ℕ) → Fine s (start_of s).network.count (start_of s)
unfolding start_of
start_fine s = started_fine s (head_fault s) refl

-- ---- what the functions need

pub step_next :
    (s : List ℕ) (p : Progress) (r : Read) →
    p.fault ≡ 0 →
    r ≡ read_layer s p.at p.network p.made →
    step_read p r ≡ step_of s p
unfolding step_of
step_next s p r h e = ap (step_read p) e ∙ ap (λ (k : ℕ). step_from k s p) (sym h)

pub head_there : (s : List ℕ) → head_fault s ≡ 0 → 10 ≤ length s
unfolding head_fault
head_there s p = cut_there s 0 10 (omega arith) (first_both _ _ p).0

-- a file of which so many layers are read, the next record beginning at `at`
abbrev pub going : ℕ → ℕ → Network → Progress
going at made n = record { fault = 0; at = at; made = made; network = n }

-- a head that is refused begins nothing
pub started_number : (e : Refusal) (picture : Shape) (z count : ℕ) → started (refusal_number e) picture z count ≡ stopped (refusal_number e)
unfolding started
started_number Malformed picture z count = refl
started_number OutOfRange picture z count = refl
started_number Unfit picture z count = refl
started_number NoRoom picture z count = refl
started_number BadBands picture z count = refl
started_number BadSums picture z count = refl
started_number BadArguments picture z count = refl
started_number Stale picture z count = refl
started_number BadRecord picture z count = refl

pub started_none : (picture : Shape) (z count : ℕ) → started 0 picture z count ≡ going 10 0 (empty_network picture z count (bytes_of picture))
unfolding started
started_none picture z count = refl

pub fine_next : (s : List ℕ) (left : ℕ) (p : Progress) → 0 < left → Fine s left p → CanStep s p
fine_next s left p h f e =
    let r = f e in
    record {
      at_in = r.sofar.at_in;
      made-few = omega arith;
      area-few = r.sofar.area-few;
      store-few = omega (arith, r.sofar.store-few);
      last-good = r.sofar.shapes p.made (omega arith);
    }

pub decoded_refused :
    (f : ℕ) (p : Progress) (n : Network) →
    n ≡ empty_network blank_shape 0 0 0 →
    (f ≡ 0 → ⊥) →
    record { fault = f; network = n } ≡ decoded_as f p
unfolding decoded_as
decoded_refused zero p n e h = absurd (h refl)
decoded_refused (suc f) p n e h = simp e

-- the loop
pub loop_starts : (s : List ℕ) (p : Progress) → p ≡ start_of s → Fine s p.network.count p
loop_starts s p e = subst⁻¹ (λ (q : Progress). Fine s q.network.count q) e (start_fine s)

pub loop_turns :
    (s : List ℕ) (left : ℕ) (p q x : Progress) →
    0 < left →
    q ≡ step_of s p →
    steps_of s left p ≡ x →
    Fine s left p →
    (steps_of s (left - 1) q ≡ x) × Fine s (left - 1) q
loop_turns s left p q x h e r f =
    subst⁻¹ (λ (y : Progress). (steps_of s (left - 1) y ≡ x) × Fine s (left - 1) y) e
    (sym (steps_next s left p h) ∙ r, step_fine s left p h f)

pub loop_ends :
    (s : List ℕ) (p p₀ : Progress) (left e f : ℕ) (r : Decoded) →
    length s ≤ 65536 →
    p₀ ≡ start_of s →
    left ≤ 0 →
    steps_of s left p ≡ steps_of s p₀.network.count p₀ →
    e ≡ end_fault s p.at →
    f ≡ first p.fault e →
    r ≡ decoded_as f p →
    r ≡ decode_of s
unfolding decode_of
loop_ends s p p₀ left e f r small start none ran he hf hr =
    hr ∙ ap (λ (k : ℕ). decoded_as k p) (hf ∙ ap (first p.fault) he)
    ∙ ap (finish_of s) (steps_none s left p _ none ran)
    ∙ ap (whole_of s) start
    ∙ simp (le-leb (length s) 65536 small)

-- ---- the code's loop

-- and of so many in all: the layers that are left, read from here, give what all of them give from the head
pub record Going (s : List ℕ) (count made at : ℕ) (n : Network) : Type 0 where
  pub same : steps_of s (count - made) (going at made n) ≡ steps_of s (start_of s).network.count (start_of s)
  pub ready : Ready s (count - made) (going at made n)

pub going_starts : (s : List ℕ) (n : Network) → going 10 0 n ≡ start_of s → Going s n.count 0 10 n
going_starts s n e =
    let all : n.count - 0 ≡ n.count = omega arith in
    record {
      same = rw all (ap (λ (q : Progress). steps_of s q.network.count q) e);
      ready = rw all (loop_starts s (going 10 0 n) e refl);
    }

pub going_turns :
    (s : List ℕ) (count made at : ℕ) (n : Network) (l : Layer) (next : ℕ) →
    made < count →
    Found l next ≡ read_layer s at n made →
    Going s count made at n →
    Going s count (made + 1) next (with_layer n made l)
unfolding pushed
going_turns s count made at n l next h e g =
    let one : count - made - 1 ≡ count - (made + 1) = omega arith in
    let t = loop_turns s (count - made) (going at made n) (pushed (going at made n) l next) _ (omega arith) (step_next s (going at made n) (Found l next) refl e) g.same (λ _. g.ready) in
    record { same = rw one at t.0; ready = rw one at (t.1 refl) }

-- the next record can be read
pub going_next : (s : List ℕ) (count made at : ℕ) (n : Network) → made < count → Going s count made at n → Next s (going at made n)
going_next s count made at n h g = fine_next s (count - made) (going at made n) (omega arith) (λ _. g.ready) refl

-- a refusal stays
steps_stopped : (s : List ℕ) (n k : ℕ) → (k ≡ 0 → ⊥) → steps_of s n (stopped k) ≡ stopped k
unfolding steps_of step_of stopped
steps_stopped s zero k h = refl
steps_stopped s (suc n) zero h = absurd (h refl)
steps_stopped s (suc n) (suc k) h = steps_stopped s n (suc k) h

-- a file whose steps end in a refusal is refused
stopped_decodes :
    (s : List ℕ) (e : Refusal) →
    length s ≤ 65536 →
    stopped (refusal_number e) ≡ steps_of s (start_of s).network.count (start_of s) →
    decode_of s ≡ decoded_to (Err e)
unfolding steps_of stopped
stopped_decodes s e small ran =
    let k = refusal_number e in
    sym
    (loop_ends s (stopped k) (start_of s) 0 (end_fault s 0) k (decoded_to (Err e)) small refl (omega arith) ran refl
    (sym (first_some k (end_fault s 0) (number_some e)))
    (decoded_refused k (stopped k) (empty_network blank_shape 0 0 0) refl (number_some e)))

-- by its head
pub head_refuses : (s : List ℕ) (e : Refusal) → length s ≤ 65536 → stopped (refusal_number e) ≡ start_of s → decode_of s ≡ decoded_to (Err e)
unfolding steps_of stopped
head_refuses s e small h = stopped_decodes s e small (ap (λ (q : Progress). steps_of s q.network.count q) h)

-- by the next record
pub going_refuses :
    (s : List ℕ) (count made at : ℕ) (n : Network) (e : Refusal) →
    length s ≤ 65536 →
    made < count →
    Refused (refusal_number e) ≡ read_layer s at n made →
    Going s count made at n →
    decode_of s ≡ decoded_to (Err e)
going_refuses s count made at n e small h r g =
    let k = refusal_number e in
    stopped_decodes s e small
    (sym (steps_stopped s (count - made - 1) k (number_some e))
    ∙ ap (steps_of s (count - made - 1)) (step_next s (going at made n) (Refused k) refl r)
    ∙ sym (steps_next s (count - made) (going at made n) (omega arith))
    ∙ g.same)

going_ends :
    (s : List ℕ) (count made at f : ℕ) (n : Network) (r : Decoded) →
    length s ≤ 65536 →
    count ≤ made →
    f ≡ end_fault s at →
    r ≡ decoded_as f (going at made n) →
    Going s count made at n →
    r ≡ decode_of s
going_ends s count made at f n r small h e hr g =
    loop_ends s (going at made n) (start_of s) (count - made) f f r small refl (omega arith) g.same e (sym (first-none 0 f refl)) hr

-- by what follows the last layer
pub end_refuses :
    (s : List ℕ) (count made at : ℕ) (n : Network) (e : Refusal) →
    length s ≤ 65536 →
    count ≤ made →
    refusal_number e ≡ end_fault s at →
    Going s count made at n →
    decode_of s ≡ decoded_to (Err e)
end_refuses s count made at n e small h k g =
    sym
    (going_ends s count made at (refusal_number e) n (decoded_to (Err e)) small h k
    (decoded_refused (refusal_number e) (going at made n) (empty_network blank_shape 0 0 0) refl (number_some e)) g)

-- or it is taken
pub going_taken :
    (s : List ℕ) (count made at : ℕ) (n : Network) →
    length s ≤ 65536 →
    count ≤ made →
    0 ≡ end_fault s at →
    Going s count made at n →
    decode_of s ≡ decoded_to (Ok n)
unfolding decoded_as
going_taken s count made at n small h k g = sym (going_ends s count made at 0 n (decoded_to (Ok n)) small h k refl g)

-- a file that is too long is refused for that alone
pub too_long : (s : List ℕ) (e : Refusal) → refusal_number e ≡ unless (leb (length s) 65536) 3 → decode_of s ≡ decoded_to (Err e)
unfolding decode_of decoded_as
too_long s e h = by_length (leb (length s) 65536) refl where
  by_length : (b : Bool) → leb (length s) 65536 ≡ b → decode_of s ≡ decoded_to (Err e)
  by_length true p = absurd (number_some e (h ∙ ap (λ b. unless b 3) p))
  by_length false p = let k : refusal_number e ≡ 3 = h ∙ ap (λ b. unless b 3) p in simp (p, k)

pub short : (s : List ℕ) → 0 ≡ unless (leb (length s) 65536) 3 → length s ≤ 65536
short s e = leb-true _ _ (unless-none _ 2 (sym e))

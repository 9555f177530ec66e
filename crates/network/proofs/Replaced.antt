-- A record that is to replace the one of a layer: the bytes that must agree, and test 9 by its three parts.
-- Assumes nothing.
use Prim.Native.Nat.{ℕ, zero, suc, ◌+◌, ◌*◌, ◌≤◌, ◌<◌}
use mathlib.Core.Path.{◌≡◌, refl, sym, ◌∙◌, ap}
use mathlib.Core.Bool.{Bool, true, false, ◌&&◌}
use mathlib.Core.List.{List, [], ◌∷◌, ◌++◌}
use native.Mathlib.Omega.{arith}
use Rattle.std.proofs.Math.Bool.{and_assoc, and-true}
use Rattle.std.proofs.Math.Seq.{take-suc}
use Rattle.std.proofs.lemmas.List.{get_or-drop, length-take, length-drop}
use lib.Pointwise.{pointwise}
use Rattle.std.specs.Prelude.{Result, Ok, Err}
use Rattle.std.specs.Result.{is_ok}
use borrow.Author.Tests.{eqb-true}
use lib.Dec.{eqb}
use lib.ListN.{length, take, drop, get_or}
use Rattle.refusals.specs.Refusal.{fault_of}
use Rattle.refusals.specs.declared.refusal.Refusal.{Refusal}
use Rattle.refusals.specs.declared.refusal.Refusal.TheVariants.{Malformed, OutOfRange, Unfit, NoRoom, BadBands, BadSums, BadArguments, Stale, BadRecord}
use Rattle.fields.specs.Faults.{unless, first}
use Rattle.fields.proofs.Tests.{unless-none}
use Rattle.fields.specs.Bytes.{byte_at}
use Rattle.fields.specs.Stored.{stored_len}
use Rattle.records.specs.Mark.{fixed_len, agreeing}
use Rattle.records.specs.Layer.{sums_of, record_len}
use Rattle.records.specs.Reader.{record_fault}
use Rattle.records.specs.declared.layer.Layer.{Layer}
use Rattle.records.specs.declared.mark.Mark.{Mark}
use Rattle.records.specs.declared.mark.Mark.TheVariants.{CV, FU, AD, Other}
use Rattle.network.specs.Replace.{agree, replace_fault}

-- two lists of bytes compared, with one byte more each
pointwise_push :
    (xs ys : List ℕ) (x y : ℕ) →
    length xs ≡ length ys →
    pointwise eqb (xs ++ x ∷ []) (ys ++ y ∷ []) ≡ (pointwise eqb xs ys && eqb x y)
pointwise_push [] [] x y h = and-true (eqb x y)
pointwise_push [] (b ∷ ys) x y h = absurd (omega arith)
pointwise_push (a ∷ xs) [] x y h = absurd (omega arith)
pointwise_push (a ∷ xs) (b ∷ ys) x y h =
    ap (λ t. eqb a b && t) (pointwise_push xs ys x y (omega arith)) ∙ sym (and_assoc (eqb a b) (pointwise eqb xs ys) (eqb x y))

-- bytes that agree are those that std finds equal
pub agree_bytes :
    (s : List ℕ) (at : ℕ) (r : List ℕ) (n : ℕ) →
    at + n ≤ length s →
    n ≤ length r →
    pointwise eqb (take n (drop at s)) (take n r) ≡ agree s at r n
unfolding agree
agree_bytes s at r zero h k = refl
agree_bytes s at r (suc n) h k =
    let long : length (take n (drop at s)) ≡ length (take n r) =
    omega (arith, length-take n (drop at s), length-drop at s, length-take n r) in
    let here : n < length (drop at s) = omega (arith, length-drop at s) in
    rw (take-suc (drop at s) n 0 here, take-suc r n 0 k)
    (pointwise_push (take n (drop at s)) (take n r) (get_or (drop at s) n 0) (get_or r n 0) long
    ∙ ap (λ x. pointwise eqb (take n (drop at s)) (take n r) && eqb x (get_or r n 0)) (get_or-drop at s n 0)
    ∙ ap (λ t. t && eqb (byte_at s (at + n)) (byte_at r n)) (agree_bytes s at r n (omega arith) (omega arith)))

-- the mark is among the bytes that must agree, and these, and the fixed part with the biases, are within the record
pub agreeing_in : (m : Mark) (n w : ℕ) → (2 ≤ agreeing m) × (agreeing m ≤ fixed_len m + stored_len n w)
agreeing_in CV n w = omega arith
agreeing_in FU n w = omega arith
agreeing_in AD n w = omega arith
agreeing_in Other n w = omega arith

pub biases_in_record : (m : Mark) (n w : ℕ) → fixed_len m + 4 * n ≤ fixed_len m + stored_len n w
unfolding stored_len
biases_in_record m n w = omega arith

-- the three parts of the test, one after another
pub replace_parts :
    (s : List ℕ) (y : Layer) (r : List ℕ) →
    replace_fault s y r ≡
    first (unless (eqb (length r) (record_len y)) 9)
    (first (unless (agree s y.start r (agreeing y.mark)) 9) (unless (eqb (record_fault y.mark r (sums_of y.kind)) 0) 9))
unfolding replace_fault first
replace_parts s y r = by_tests (eqb (length r) (record_len y)) (agree s y.start r (agreeing y.mark)) _ where
  by_tests : (a b c : Bool) → unless (a && b && c) 9 ≡ first (unless a 9) (first (unless b 9) (unless c 9))
  by_tests true true c = refl
  by_tests true false c = refl
  by_tests false b c = refl

-- a test that holds left no fault
pub ok_none : (r : Result Unit Refusal) → is_ok r ≡ eqb (fault_of r) 0
ok_none (Ok x) = refl
ok_none (Err Malformed) = refl
ok_none (Err OutOfRange) = refl
ok_none (Err Unfit) = refl
ok_none (Err NoRoom) = refl
ok_none (Err BadBands) = refl
ok_none (Err BadSums) = refl
ok_none (Err BadArguments) = refl
ok_none (Err Stale) = refl
ok_none (Err BadRecord) = refl

-- the length of a record that passes the first
pub as_long : (a b : ℕ) → 0 ≡ unless (eqb a b) 9 → a ≡ b
as_long a b h = eqb-true a b (unless-none (eqb a b) 8 (sym h))

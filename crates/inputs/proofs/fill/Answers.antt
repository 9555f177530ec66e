use Rattle.std.proofs.Common.{◌≡◌, ℕ, ◌+◌, ◌≤◌, List, ◌++◌, length, take, sym, ap, ◌∙◌, subst, arith, rules, length-take-le}
use Rattle.std.proofs.Math.Seq.{take-append-add}
use Rattle.std.proofs.lemmas.List.{take-append-le}
use Rattle.std.specs.Io.KnownBytes.{Consumes}
use Rattle.std.proofs.KnownBytes.{Consumes-trans}
use Rattle.inputs.proofs.fill.Goals as goal

-- the front of a buffer into whose part from a on ys was read
front : (a n : ℕ) (xs ys zs : List ℕ) → a ≤ length xs → n ≤ length ys → take (a + n) (take a xs ++ (ys ++ zs)) ≡ take a xs ++ take n ys
front a n xs ys zs p q =
    ap (λ k. take (k + n) (take a xs ++ (ys ++ zs))) (sym (length-take-le a xs p)) ∙ take-append-add (take a xs) (ys ++ zs) n
    ∙ ap (λ l. take a xs ++ l) (take-append-le n ys zs q)

pub loop-done-preserved : goal.loop-done-preserved
loop-done-preserved g c =
    let a = c.loop-done.done in
    let xs = c.loop-done.buf in
    let n = c.in_ok-n.n in
    record {
      same = search rules;
      few = search rules;
      fits = search rules;
      given =
          subst (Consumes _ _) (sym (front a n xs c.read.new.buf _ (omega arith) c.in_ok-n.ensures.bound.0))
          (Consumes-trans _ _ _ _ _ c.loop-done.invariant.given c.in_ok-n.ensures.bytes.0);
    }

-- The file with a record written over: what stays of it, and the record itself.
-- Assumes nothing.
use Prim.Native.Nat.{ℕ, ◌+◌, ◌-◌, ◌≤◌, ◌<◌}
use mathlib.Core.Path.{◌≡◌, sym, ◌∙◌, ap}
use mathlib.Core.List.{List, ◌++◌}
use native.Mathlib.Omega.{arith}
use lib.ListN.{length, take, drop, length-append, length-drop, get_or-append}
use lib.Seq.{length-take-le, get_or-take, get_or-drop, get_or-append-add}
use Rattle.fields.specs.Bytes.{byte_at}

-- the file s with the record r written over from `at`
abbrev pub rewritten : List ℕ → ℕ → List ℕ → List ℕ
rewritten s at r = take at s ++ r ++ drop (at + length r) s

-- the n bytes of t from `at` are those of u from q
abbrev pub Same : List ℕ → ℕ → List ℕ → ℕ → ℕ → Type 0
Same t at u q n = (i : ℕ) → i < n → byte_at t (at + i) ≡ byte_at u (q + i)

module _ (s : List ℕ) (at : ℕ) (r : List ℕ) (h : at + length r ≤ length s) where
  -- how long the file is before the record, and with it
  front : length (take at s) ≡ at
  front = length-take-le at s (omega arith)

  upto : length (take at s ++ r) ≡ at + length r
  upto = length-append (take at s) r ∙ ap (λ (k : ℕ). k + length r) front

  -- the file is as long as it was
  pub rewritten-length : length (rewritten s at r) ≡ length s
  rewritten-length = simp (length-append, length-drop) (omega (arith, front))

  -- a byte before the record, one of it, and one after it
  pub byte-before : (i : ℕ) → i < at → byte_at (rewritten s at r) i ≡ byte_at s i
  byte-before i p =
      get_or-append (take at s ++ r) _ 0 i (omega (arith, upto))
      ∙ get_or-append (take at s) r 0 i (omega (arith, front))
      ∙ get_or-take at s i 0 p

  pub byte-within : (i : ℕ) → i < length r → byte_at (rewritten s at r) (at + i) ≡ byte_at r i
  byte-within i p =
      get_or-append (take at s ++ r) _ 0 (at + i) (omega (arith, upto))
      ∙ ap (λ (k : ℕ). byte_at (take at s ++ r) (k + i)) (sym front)
      ∙ get_or-append-add (take at s) r i 0

  pub byte-after : (i : ℕ) → at + length r ≤ i → byte_at (rewritten s at r) i ≡ byte_at s i
  byte-after i p =
      let j = i - (at + length r) in
      let e : i ≡ at + length r + j = omega arith in
      ap (byte_at (rewritten s at r)) e
      ∙ ap (λ (k : ℕ). byte_at (rewritten s at r) (k + j)) (sym upto)
      ∙ get_or-append-add (take at s ++ r) _ j 0
      ∙ get_or-drop (at + length r) s j 0
      ∙ ap (byte_at s) (sym e)

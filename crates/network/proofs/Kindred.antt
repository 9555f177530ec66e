-- Two records of one mark that agree in their first bytes: what they have in common, and test 9 by its parts.
-- Assumes nothing.
use Prim.Native.Nat.{ℕ, zero, suc, ◌+◌, ◌-◌, ◌*◌, ◌≤◌, ◌<◌}
use mathlib.Core.Path.{◌≡◌, refl, sym, ◌∙◌, ap, subst}
use mathlib.Core.Bool.{true}
use mathlib.Core.List.{List}
use native.Mathlib.Nat.{add-zero, add_assoc}
use native.Mathlib.Omega.{arith}
use borrow.Author.Count.{below_more}
use borrow.Author.Tests.{eqb-true}
use lib.ListN.{length}
use Rattle.fields.specs.Bytes.{byte_at, u16_at, u32_at}
use Rattle.fields.specs.Stored.{bias_faults}
use Rattle.fields.specs.declared.shape.Shape.{Shape}
use Rattle.fields.proofs.Tests.{first_both, and_both, unless-none}
use Rattle.records.specs.Mark.{is_mark, mark_at, fixed_len, agreeing}
use Rattle.records.specs.Weighing.{weighing_at}
use Rattle.records.specs.Conv.{blank_conv}
use Rattle.records.specs.Layer.{sums_of, terms_of, output_shape, other_of, record_len}
use Rattle.records.specs.Reader.{kind_at, own_fault, suit_fault}
use Rattle.records.specs.declared.layer.Kind.{Kind}
use Rattle.records.specs.declared.layer.Kind.TheVariants.{Conv, Full, Add}
use Rattle.records.specs.declared.layer.Layer.{Layer}
use Rattle.records.specs.declared.mark.Mark.{Mark}
use Rattle.records.specs.declared.mark.Mark.TheVariants.{CV, FU, AD, Other}
use Rattle.records.specs.declared.reader.Before.{Before}
use Rattle.network.specs.Replace.{agree, replace_fault}
use Rattle.network.proofs.Rewritten.{Same}

-- ---- the same bytes make the same numbers

module _ (t : List ℕ) (at : ℕ) (u : List ℕ) (q n : ℕ) (e : Same t at u q n) where
  -- byte i from byte f on
  same_after : (f i : ℕ) → f + i < n → byte_at t (at + f + i) ≡ byte_at u (q + f + i)
  same_after f i h = rw (add_assoc at f i, add_assoc q f i) (e (f + i) h)

  -- the same mark, where as many bytes are left
  pub same-mark : 2 ≤ n → length t - at ≡ length u - q → mark_at t at ≡ mark_at u q
  unfolding mark_at is_mark
  same-mark h l = cc (e 0 (omega arith), add-zero at, add-zero q, e 1 (omega arith))

  -- the same numbers of two and of four bytes, from byte f
  same-u16 : (f : ℕ) → f + 2 ≤ n → u16_at t (at + f) ≡ u16_at u (q + f)
  same-u16 f h = cc (e f (omega arith), same_after f 1 (omega arith))

  same-u32 : (f : ℕ) → f + 4 ≤ n → u32_at t (at + f) ≡ u32_at u (q + f)
  same-u32 f h = cc (e f (omega arith), same_after f 1 (omega arith), same_after f 2 (omega arith), same_after f 3 (omega arith))

  -- the same parameters
  same-weighing : (f g : ℕ) → f + 5 ≤ n → g + 4 ≤ n → weighing_at t (at + f) (at + g) ≡ weighing_at u (q + f) (q + g)
  same-weighing f g h k = cc (
    e f (omega arith),
    same_after f 1 (omega arith),
    same_after f 2 (omega arith),
    same_after f 3 (omega arith),
    same_after f 4 (omega arith),
    same-u32 g k,
  )

  pub same_kind : (m : Mark) → fixed_len m ≤ n → kind_at m t at ≡ kind_at m u q
  same_kind CV h = cc (
    e 2 (omega arith),
    e 3 (omega arith),
    e 4 (omega arith),
    e 5 (omega arith),
    e 6 (omega arith),
    same-weighing 7 12 (omega arith) (omega arith),
  )
  same_kind FU h = cc (same-u16 2 (omega arith), same-weighing 4 10 (omega arith) (omega arith))
  same_kind AD h = cc (
    e 2 (omega arith),
    e 3 (omega arith),
    e 4 (omega arith),
    e 5 (omega arith),
    same-u32 6 (omega arith),
    same-u32 10 (omega arith),
    same-u32 14 (omega arith),
    e 18 (omega arith),
    e 19 (omega arith),
    e 20 (omega arith),
  )
  same_kind Other h = refl

  -- the same fault of a record's own
  pub same-own : (m : Mark) → fixed_len m ≤ n → own_fault m t at ≡ own_fault m u q
  unfolding own_fault
  same-own CV h = cc (same_kind CV h)
  same-own FU h = cc (same_kind FU h, e 9 (omega arith))
  same-own AD h = cc (same_kind AD h, e 21 (omega arith))
  same-own Other h = refl

  -- the same faults of k biases from byte f
  pub same-biases : (f k : ℕ) → f + 4 * k ≤ n → bias_faults t (at + f) k ≡ bias_faults u (q + f) k
  unfolding bias_faults
  same-biases f zero h = refl
  same-biases f (suc k) h = cc (same-u32 f (omega arith), same-biases (f + 4) k (omega arith), add_assoc at f 4, add_assoc q f 4)

-- ---- what two records of one mark have in common

-- parameters without what a replacement may change: what is left is filters and frame, outputs, or the other tensor
abbrev pub bare : Kind → Kind
bare (Conv c) = Conv (record { filters = c.filters; frame = c.frame; weighing = blank_conv.weighing })
bare (Full f) = Full (record { outputs = f.outputs; weighing = blank_conv.weighing })
bare (Add a) =
    let none = blank_conv.weighing.scale in
    Add (record { other = a.other; zero = 0; low = 0; high = 0; first = none; second = none; third = none })

-- two kinds that differ at most in what a replacement may change
abbrev pub Kindred : Kind → Kind → Type 0
Kindred k κ = bare κ ≡ bare k

-- what does not look at that is the same of both
pub kindred_same : {A : Type 0} (f : Kind → A) → ((k : Kind) → f (bare k) ≡ f k) → (k κ : Kind) → Kindred k κ → f κ ≡ f k
kindred_same f b k κ h = sym (b κ) ∙ ap f h ∙ b k

-- so the number of sums, the terms, the shape that is made, the other tensor and what suits the layer are
module _ (k κ : Kind) (h : Kindred k κ) where
  pub kindred-sums : sums_of κ ≡ sums_of k
  kindred-sums = kindred_same sums_of by_kind k κ h where
    by_kind : (x : Kind) → sums_of (bare x) ≡ sums_of x
    by_kind (Conv c) = refl
    by_kind (Full f) = refl
    by_kind (Add a) = refl

  pub kindred-terms : (i : Shape) → terms_of κ i ≡ terms_of k i
  kindred-terms i = kindred_same (λ x. terms_of x i) by_kind k κ h where
    by_kind : (x : Kind) → terms_of (bare x) i ≡ terms_of x i
    by_kind (Conv c) = refl
    by_kind (Full f) = refl
    by_kind (Add a) = refl

  pub kindred-output : (i : Shape) → output_shape κ i ≡ output_shape k i
  kindred-output i = kindred_same (λ x. output_shape x i) by_kind k κ h where
    by_kind : (x : Kind) → output_shape (bare x) i ≡ output_shape x i
    by_kind (Conv c) = refl
    by_kind (Full f) = refl
    by_kind (Add a) = refl

  pub kindred-other : (m : ℕ) → other_of κ m ≡ other_of k m
  kindred-other m = kindred_same (λ x. other_of x m) by_kind k κ h where
    by_kind : (x : Kind) → other_of (bare x) m ≡ other_of x m
    by_kind (Conv c) = refl
    by_kind (Full f) = refl
    by_kind (Add a) = refl

  pub kindred-suit : (b : Before) (other : Shape) → suit_fault κ b other ≡ suit_fault k b other
  unfolding suit_fault
  kindred-suit b other = kindred_same (λ x. suit_fault x b other) by_kind k κ h where
    by_kind : (x : Kind) → suit_fault (bare x) b other ≡ suit_fault x b other
    by_kind (Conv c) = refl
    by_kind (Full f) = refl
    by_kind (Add a) = refl

-- records that agree in the bytes that must are of kindred kinds
pub agree_kindred : (m : Mark) (s : List ℕ) (at : ℕ) (u : List ℕ) (q : ℕ) → Same s at u q (agreeing m) → Kindred (kind_at m s at) (kind_at m u q)
agree_kindred CV s at u q h = cc (h 2 (omega arith), h 3 (omega arith), h 4 (omega arith), h 5 (omega arith), h 6 (omega arith))
agree_kindred FU s at u q h = cc (same-u16 s at u q 4 h 2 (omega arith))
agree_kindred AD s at u q h = cc (h 2 (omega arith))
agree_kindred Other s at u q h = refl

-- a layer with other parameters
abbrev pub layer_as : Layer → Kind → Layer
layer_as y κ = record { mark = y.mark; input = y.input; output = y.output; kind = κ; start = y.start; place = y.place; sums = y.sums }

-- its record is as long as it was
pub length_stays : (y : Layer) (κ : Kind) → Kindred y.kind κ → record_len (layer_as y κ) ≡ record_len y
length_stays y κ h = cc (kindred-sums y.kind κ h, kindred-terms y.kind κ h y.input)

-- ---- test 9

-- the record at the place q of u may stand for that of the layer y in the file s
pub record Fit (s : List ℕ) (y : Layer) (u : List ℕ) (q : ℕ) : Type 0 where
  pub agreed : Same s y.start u q (agreeing y.mark)
  pub own : own_fault y.mark u q ≡ 0
  pub biases : bias_faults u (q + fixed_len y.mark) (sums_of y.kind) ≡ 0

-- the bytes that the test compares are the same
agree_same : (s : List ℕ) (at : ℕ) (r : List ℕ) (n : ℕ) → agree s at r n ≡ true → Same s at r 0 n
unfolding agree
agree_same s at r zero h i p = absurd (omega arith)
agree_same s at r (suc n) h i p =
    let b = and_both (agree s at r n) _ h in
    below_more (λ (k : ℕ). byte_at s (at + k) ≡ byte_at r (0 + k)) n (agree_same s at r n b.0)
    (eqb-true _ _ b.1 ∙ ap (byte_at r) (omega arith)) i (omega arith)

-- a replacement that passes has the record's length and may stand for it
pub replace_fit : (s : List ℕ) (y : Layer) (r : List ℕ) → replace_fault s y r ≡ 0 → (length r ≡ record_len y) × Fit s y r 0
unfolding replace_fault
replace_fit s y r h =
    let a = and_both _ _ (unless-none _ 8 h) in
    let b = and_both _ _ a.0 in
    let f = first_both _ _ (eqb-true _ _ a.1) in (
      eqb-true _ _ b.0,
      record {
        agreed = agree_same s y.start r _ b.1;
        own = f.0;
        biases = subst (λ (k : ℕ). bias_faults r k (sums_of y.kind) ≡ 0) (omega arith) f.1;
      },
    )

-- and its parameters are kindred to those in place, where these were read from the file
pub fit_kindred :
    (s : List ℕ) (y : Layer) (u : List ℕ) (q : ℕ) →
    y.kind ≡ kind_at y.mark s y.start →
    Fit s y u q →
    Kindred y.kind (kind_at y.mark u q)
fit_kindred s y u q e f = agree_kindred y.mark s y.start u q f.agreed ∙ ap bare (sym e)

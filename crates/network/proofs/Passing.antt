-- A record that is read as the next layer's: the tests that it passes, and that another in its place passes them too.
-- Assumes nothing.
use Prim.Native.Nat.{ℕ, ◌+◌, ◌-◌, ◌≤◌, min}
use mathlib.Core.Path.{◌≡◌, refl, sym, ◌∙◌, ap, subst}
use mathlib.Core.List.{List}
use native.Mathlib.Omega.{arith}
use lib.ListN.{length}
use Rattle.fields.specs.Faults.{cut_fault}
use Rattle.fields.specs.Shape.{size_fault}
use Rattle.fields.specs.Stored.{stored_fault}
use Rattle.fields.specs.declared.shape.Shape.{Shape}
use Rattle.fields.proofs.Tests.{first_both, first-none}
use Rattle.records.specs.Mark.{mark_at, fixed_len}
use Rattle.records.specs.Layer.{sums_of, terms_of, record_len}
use Rattle.records.specs.Reader.{kind_at, suit_fault, layer_with}
use Rattle.records.specs.declared.layer.Kind.{Kind}
use Rattle.records.specs.declared.layer.Layer.{Layer}
use Rattle.records.specs.declared.mark.Mark.{Mark}
use Rattle.records.specs.Reader.{Found}
use Rattle.records.proofs.Answers.{Answered, Passes, FoundAs, read-passes, found_as, passes-found}
use Rattle.network.specs.Network.{tensor_of}
use Rattle.network.specs.Decode.{before_of, other_shape, read_layer}
use Rattle.network.specs.declared.net.Network.{Network}
use Rattle.network.proofs.Replaced.{agreeing_in, biases_in_record}
use Rattle.network.proofs.Rewritten.{Same}
use Rattle.network.proofs.Kindred.{Kindred, kindred-sums, kindred-terms, kindred-output, kindred-other, kindred-suit, Fit, fit_kindred, layer_as, length_stays, same-mark, same_kind, same-own, same-biases}

-- what is found at a place, as layer m of a network with so many
abbrev pub FoundAt : List ℕ → ℕ → Network → ℕ → Layer → ℕ → Type 0
FoundAt s at n m =
    FoundAs (mark_at s at) (kind_at (mark_at s at) s at) s at (before_of n m) (other_shape n (kind_at (mark_at s at) s at) m)

module _ (s : List ℕ) (at : ℕ) (n : Network) (m : ℕ) where
  -- a record is refused by a number that is not 0, or it passes
  pub read_found : Answered (FoundAt s at n m) (read_layer s at n m)
  unfolding read_layer
  read_found = read-passes _ _ s at _ _

  -- one that is found passes
  pub found_at : (l : Layer) (next : ℕ) → read_layer s at n m ≡ Found l next → FoundAt s at n m l next
  unfolding read_layer
  found_at l next e = found_as _ _ s at _ _ l next (sym e)

  -- the parameters of the layer are read from its record
  pub found-read : (l : Layer) (next : ℕ) → FoundAt s at n m l next → l.kind ≡ kind_at l.mark s l.start
  found-read l next f = cc f.layer

-- ---- another record in its place

-- t is as long as s
module _ (s t : List ℕ) (long : length t ≡ length s) (at : ℕ) (n : Network) (m : ℕ) where
  -- the same stretches are there
  cut-same : (a b : ℕ) → cut_fault t a b ≡ cut_fault s a b
  unfolding cut_fault
  cut-same a b = cc

  -- one that may stand for a record that passes, passes where it stands in its place
  passes-again :
      (u : List ℕ) (q : ℕ) (w : Mark) (k κ : Kind) →
      Passes w k s at (before_of n m) (other_shape n k m) →
      Kindred k κ →
      κ ≡ kind_at w u q →
      Fit s (layer_with w k at (before_of n m)) u q →
      Same t at u q (record_len (layer_with w k at (before_of n m))) →
      Passes w κ t at (before_of n m) (other_shape n κ m)
  unfolding stored_fault
  passes-again u q w k κ p g r f e =
      let i = tensor_of n m in
      let len = record_len (layer_with w k at (before_of n m)) in
      let b = biases_in_record w (sums_of k) (terms_of k i) in
      let fixed : fixed_len w ≤ len = omega arith in
      record {
        there = cut-same at (fixed_len w) ∙ p.there;
        own = same-own t at u q len e w fixed ∙ f.own;
        suit =
            ap (λ (x : ℕ). suit_fault κ (before_of n m) (tensor_of n (min x m))) (kindred-other k κ g m)
            ∙ kindred-suit k κ g (before_of n m) (other_shape n k m) ∙ p.suit;
        size = ap (λ (x : Shape). size_fault x n.area) (kindred-output k κ g i) ∙ p.size;
        stored = rw (kindred-sums k κ g, kindred-terms k κ g i)
            (first-none _ _ (cut-same (at + fixed_len w) _ ∙ (first_both _ _ p.stored).0)
            ∙ same-biases t at u q len e (fixed_len w) (sums_of k) b ∙ f.biases);
      }

  -- so where a layer was found, the layer with the other parameters is
  pub found-again :
      (u : List ℕ) (q : ℕ) (l : Layer) (next : ℕ) →
      read_layer s at n m ≡ Found l next →
      Fit s l u q →
      Same t at u q (record_len l) →
      read_layer t at n m ≡ Found (layer_as l (kind_at l.mark u q)) next
  unfolding read_layer
  found-again u q l next h f e =
      let d = found_at s at n m l next h in
      let w = mark_at s at in
      let k = kind_at w s at in
      let κ = kind_at w u q in
      let y = layer_with w k at (before_of n m) in
      let f' = subst (λ (x : Layer). Fit s x u q) d.layer f in
      let e' = subst (λ (x : Layer). Same t at u q (record_len x)) d.layer e in
      let g = fit_kindred s y u q refl f' in
      let len = record_len y in
      let a = agreeing_in w (sums_of k) (terms_of k (tensor_of n m)) in
      let mark : mark_at t at ≡ w =
      same-mark t at s at 2 (λ i b. e' i (omega arith) ∙ sym (f'.agreed i (omega arith))) (omega arith) (ap (λ (x : ℕ). x - at) long) in
      let kind : kind_at w t at ≡ κ = same_kind t at u q len e' w (omega arith) in
      rw (mark, kind)
      (passes-found w κ t at (before_of n m) (other_shape n κ m) (passes-again u q w k κ d.passes g refl f' e')
      ∙ cc (d.layer, d.next-is, kindred-output k κ g (tensor_of n m), length_stays y κ g))

  -- and where the bytes of the record are the same, the same layer is
  pub found-same :
      (l : Layer) (next : ℕ) →
      read_layer s at n m ≡ Found l next →
      Same t at s at (record_len l) →
      read_layer t at n m ≡ Found l next
  unfolding stored_fault
  found-same l next h e =
      let d = found_at s at n m l next h in
      let y = layer_with (mark_at s at) (kind_at (mark_at s at) s at) at (before_of n m) in
      let fit : Fit s y s at = record { agreed = λ i b. refl; own = d.passes.own; biases = (first_both _ _ d.passes.stored).1 } in
      found-again s at l next h (subst (λ (x : Layer). Fit s x s at) (sym d.layer) fit) e
      ∙ ap (λ (x : Kind). Found (layer_as l x) next) (cc d.layer)

-- A file in which a record was replaced is read again: the same network, but for the parameters of that layer.
-- Assumes nothing.
use Prim.Native.Nat.{ℕ, zero, suc, ◌+◌, ◌≤◌, ◌<◌, min}
use mathlib.Core.Path.{◌≡◌, refl, sym, ◌∙◌, ap, subst, subst⁻¹}
use mathlib.Core.List.{List}
use native.Mathlib.Omega.{arith}
use lib.ListN.{length, set, get_or, length-set, get_or-map}
use lib.Seq.{get_or-set_same, get_or-set_other, set-set, set_comm, map-set_same}
use Rattle.fields.specs.Bytes.{byte_at}
use Rattle.fields.specs.Faults.{first, cut_fault}
use Rattle.records.specs.Mark.{is_mark, mark_at}
use Rattle.records.specs.Reader.{kind_at}
use Rattle.records.specs.Layer.{sums_of, other_of, record_len}
use Rattle.records.specs.declared.layer.Kind.{Kind}
use Rattle.records.specs.declared.layer.Layer.{Layer}
use Rattle.records.specs.Reader.{Found}
use Rattle.fields.proofs.Tests.{first_both}
use Rattle.network.specs.Network.{blank_layer, layer_of, tensor_of}
use Rattle.network.specs.Head.{picture_at, head_mark, head_fault}
use Rattle.network.specs.Decode.{read_layer, pushed, steps_of, start_of, end_fault, decode_of}
use Rattle.network.specs.Replace.{replace_fault}
use Rattle.network.specs.declared.net.Network.{Network}
use Rattle.network.specs.Decode.{Progress}
use Rattle.network.specs.Decode.{Decoded}
use Rattle.network.proofs.Layers.{start_fine}
use Rattle.network.proofs.Taken.{taken}
use Rattle.network.proofs.Rewritten.{rewritten, rewritten-length, byte-before, byte-within, byte-after, Same}
use Rattle.network.proofs.Kindred.{kindred-sums, layer_as, Fit, fit_kindred, replace_fit}
use Rattle.network.proofs.Passing.{found_at, found-read, found-again, found-same}
use Rattle.network.proofs.Steps.{Steps, here, more, steps_of_lem, of_steps, kept_count, next_layer, later_start, at_end, taken_end, end_taken}

-- the network with other parameters at layer k
abbrev pub with_kind : Network → ℕ → Kind → Network
with_kind n k κ = record {
  picture = n.picture;
  zero = n.zero;
  count = n.count;
  layers = set n.layers k (layer_as (layer_of n k) κ);
  area = n.area;
  store = n.store;
}

-- a file read so far, with other parameters at layer k
abbrev with_kind_at : Progress → ℕ → Kind → Progress
with_kind_at p k κ = record { fault = p.fault; at = p.at; made = p.made; network = with_kind p.network k κ }

module _ (n : Network) (k : ℕ) (κ : Kind) where
  -- what of a layer does not depend on its parameters stays, for every layer
  pub with-field :
      {A : Type 0} (f : Layer → A) →
      f (layer_as (layer_of n k) κ) ≡ f (layer_of n k) →
      (m : ℕ) →
      f (layer_of (with_kind n k κ) m) ≡ f (layer_of n m)
  with-field {A} f e m =
      sym (get_or-map f (with_kind n k κ).layers m blank_layer)
      ∙ ap (λ (x : List A). get_or x m (f blank_layer)) (map-set_same f n.layers k _ blank_layer e)
      ∙ get_or-map f n.layers m blank_layer

  -- layer k has the other parameters, and every other layer is as it was
  pub with-here : k < length n.layers → layer_of (with_kind n k κ) k ≡ layer_as (layer_of n k) κ
  with-here h = get_or-set_same n.layers k _ blank_layer h

  pub with-others : (m : ℕ) → (m ≡ k → ⊥) → layer_of (with_kind n k κ) m ≡ layer_of n m
  with-others m h = get_or-set_other n.layers k m _ blank_layer h

  -- so the tensors are of the same shapes
  pub with-tensor : (t : ℕ) → tensor_of (with_kind n k κ) t ≡ tensor_of n t
  with-tensor zero = refl
  with-tensor (suc m) = with-field (λ (y : Layer). y.output) refl m

  -- so a record is read as before
  with_read : (s : List ℕ) (at m : ℕ) → read_layer s at (with_kind n k κ) m ≡ read_layer s at n m
  unfolding read_layer
  with_read s at m = cc (with-tensor m, with-tensor (min (other_of (kind_at (mark_at s at) s at) m) m))

module _ (p : Progress) (l : Layer) (next k : ℕ) (κ : Kind) where
  -- a layer found after layer k, which has other parameters
  pushed-after : k < p.made → pushed (with_kind_at p k κ) l next ≡ with_kind_at (pushed p l next) k κ
  unfolding pushed
  pushed-after h =
      let ls = p.network.layers in
      cc (
        set_comm ls k p.made (layer_as (layer_of p.network k) κ) l (λ e. omega arith),
        get_or-set_other ls p.made k l blank_layer (λ e. omega arith),
      )

  -- layer k itself, found with other parameters
  pushed_at :
      p.made ≡ k →
      k < length p.network.layers →
      sums_of κ ≡ sums_of l.kind →
      pushed p (layer_as l κ) next ≡ with_kind_at (pushed p l next) k κ
  unfolding pushed
  pushed_at e h x =
      let ls = p.network.layers in
      cc (get_or-set_same ls k l blank_layer h, set-set ls k l (layer_as l κ))

-- t has the bytes of s from a place on: the layers found from there on are found again
module _ (s t : List ℕ) (long : length t ≡ length s) (from : ℕ) (same : (i : ℕ) → from ≤ i → byte_at t i ≡ byte_at s i) (k : ℕ) (κ : Kind) where
  steps-after : {n : ℕ} {p q : Progress} → Steps s n p q → k < p.made → from ≤ p.at → Steps t n (with_kind_at p k κ) (with_kind_at q k κ)
  unfolding pushed
  steps-after here h b = here
  steps-after (more {n} {p} {q} l next e r) h b =
      let f = found_at s p.at p.network p.made l next e in
      more l next
      (with_read p.network k κ t p.at p.made
      ∙ found-same s t long p.at p.network p.made l next e (λ i j. same (p.at + i) (omega arith)))
      (subst⁻¹ (λ (x : Progress). Steps t n x (with_kind_at q k κ)) (pushed-after p l next k κ h)
      (steps-after r (omega arith) (omega (arith, f.next-is))))

-- t is s, but for the record of the layer y: that is r, which may stand for it
record Written (s t : List ℕ) (y : Layer) (r : List ℕ) : Type 0 where
  long : length t ≡ length s
  before : (i : ℕ) → i < y.start → byte_at t i ≡ byte_at s i
  within : Same t y.start r 0 (record_len y)
  after : (i : ℕ) → y.start + record_len y ≤ i → byte_at t i ≡ byte_at s i
  fit : Fit s y r 0

module _ (s t r : List ℕ) (k : ℕ) where
  -- layer k is the next one
  steps-at :
      {n : ℕ} (p : Progress) {q : Progress} (l : Layer) (next : ℕ) →
      read_layer s p.at p.network p.made ≡ Found l next →
      Steps s n (pushed p l next) q →
      p.made ≡ k →
      k < length p.network.layers →
      Written s t l r →
      Steps t (suc n) p (with_kind_at q k (kind_at l.mark r 0))
  unfolding pushed
  steps-at {n} p {q} l next e w x h b =
      let f = found_at s p.at p.network p.made l next e in
      let κ = kind_at l.mark r 0 in
      let start : l.start ≡ p.at = ap (λ (y : Layer). y.start) f.layer in
      let within = subst (λ (j : ℕ). Same t j r 0 (record_len l)) start b.within in
      let like = fit_kindred s l r 0 (found-read s p.at p.network p.made l next f) b.fit in
      let sums = kindred-sums l.kind κ like in
      more (layer_as l κ) next (found-again s t b.long p.at p.network p.made r 0 l next e b.fit within)
      (subst⁻¹ (λ (z : Progress). Steps t n z (with_kind_at q k κ)) (pushed_at p l next k κ x h sums)
      (steps-after s t b.long next (λ i j. b.after i (omega (arith, f.next-is))) k κ w (omega arith) (omega arith)))

  -- layer k is one of those found
  steps-again :
      {n : ℕ} {p q : Progress} →
      Steps s n p q →
      (i : ℕ) →
      i < n →
      p.made + i ≡ k →
      k < length p.network.layers →
      Written s t (layer_of q.network k) r →
      Steps t n p (with_kind_at q k (kind_at (layer_of q.network k).mark r 0))
  unfolding pushed
  steps-again here i b x h w = absurd (omega arith)
  steps-again (more {n} {p} {q} l next e a) zero b x h w =
      let y : p.made ≡ k = omega arith in
      let z = subst (λ (j : ℕ). layer_of q.network j ≡ l) y (next_layer p l next a (omega arith)) in
      subst⁻¹ (λ (v : Layer). Steps t (suc n) p (with_kind_at q k (kind_at v.mark r 0))) z
      (steps-at p l next e a y h (subst (λ (v : Layer). Written s t v r) z w))
  steps-again (more {n} {p} {q} l next e a) (suc i) b x h w =
      let g = subst⁻¹ (λ (j : ℕ). k < j) (length-set p.network.layers p.made l) h in
      let f = found_at s p.at p.network p.made l next e in
      let start = later_start a k i (omega arith) (omega arith) g in
      more l next
      (found-same s t w.long p.at p.network p.made l next e (λ j c. w.before (p.at + j) (omega (arith, f.next-is))))
      (steps-again a i (omega arith) (omega arith) g w)

-- ---- the head and the end

-- the head's bytes are the same
start_same : (s t : List ℕ) → length t ≡ length s → ((i : ℕ) → i < 10 → byte_at t i ≡ byte_at s i) → start_of t ≡ start_of s
unfolding start_of head_fault head_mark is_mark picture_at cut_fault
start_same s t long b = cc (
  b 0 (omega arith),
  b 1 (omega arith),
  b 2 (omega arith),
  b 3 (omega arith),
  b 4 (omega arith),
  b 5 (omega arith),
  b 6 (omega arith),
  b 7 (omega arith),
  b 8 (omega arith),
  b 9 (omega arith),
)

-- the file's end is the same
end_same : (s t : List ℕ) (at : ℕ) → length t ≡ length s → end_fault t at ≡ end_fault s at
unfolding end_fault
end_same s t at long = cc

-- ---- the whole file

-- a file that is so written is taken again
written_decodes :
    (s t : List ℕ) (k : ℕ) (r : List ℕ) →
    (decode_of s).fault ≡ 0 →
    k < (at_end s).network.count →
    Written s t (layer_of (at_end s).network k) r →
    decode_of t ≡ record { fault = 0; network = with_kind (at_end s).network k (kind_at (layer_of (at_end s).network k).mark r 0) }
written_decodes s t k r good few w =
    let p = start_of s in
    let κ = kind_at (layer_of (at_end s).network k).mark r 0 in
    let end = taken_end s good in
    let all = steps_of_lem s p.network.count p (first_both _ _ end.1).0 in
    let ready = start_fine s all.0 in
    let none : p.made ≡ 0 = omega arith in
    let ten : p.at ≡ 10 = rw none at ready.sofar.at-is in
    let known : k < p.network.count = omega (arith, kept_count all.1) in
    let there : k < length p.network.layers = omega arith in
    let begins = later_start all.1 k k known (omega arith) there in
    let again = steps-again s t r k all.1 k known (omega arith) there w in
    let start = start_same s t w.long (λ i h. w.before i (omega arith)) in
    end_taken t (with_kind_at (at_end s) k κ) (omega (arith, w.long))
    (ap (λ (x : Progress). steps_of t x.network.count x) start ∙ of_steps again all.0)
    (ap (first (at_end s).fault) (end_same s t (at_end s).at w.long) ∙ end.1)

-- the file with a record written over that of layer k, which it may replace: the same network, but for that layer's parameters
pub replaced_decodes :
    (s : List ℕ) (k : ℕ) (r : List ℕ) →
    (decode_of s).fault ≡ 0 →
    k < (decode_of s).network.count →
    replace_fault s (layer_of (decode_of s).network k) r ≡ 0 →
    decode_of (rewritten s (layer_of (decode_of s).network k).start r)
    ≡ record { fault = 0; network = with_kind (decode_of s).network k (kind_at (layer_of (decode_of s).network k).mark r 0) }
replaced_decodes s k r good few fault =
    let y = layer_of (decode_of s).network k in
    let t = rewritten s y.start r in
    let end = taken_end s good in
    let e : (decode_of s).network ≡ (at_end s).network = ap (λ (d : Decoded). d.network) (end_taken s (at_end s) end.0 refl end.1) in
    let f = replace_fit s y r fault in
    let h : y.start + length r ≤ length s = omega (arith, ((taken s good).layers k few).record-in, f.0) in
    subst⁻¹ (λ (n : Network).
    k < n.count → Written s t (layer_of n k) r → decode_of t ≡ record { fault = 0; network = with_kind n k (kind_at (layer_of n k).mark r 0) }) e
    (written_decodes s t k r good) few
    (record {
      long = rewritten-length s y.start r h;
      before = byte-before s y.start r h;
      within = λ i b. byte-within s y.start r h i (omega (arith, f.0)) ∙ ap (byte_at r) (omega arith);
      after = λ i b. byte-after s y.start r h i (omega (arith, f.0));
      fit = f.1;
    })

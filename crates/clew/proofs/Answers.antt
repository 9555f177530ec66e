-- What the calls answer: a refusal, by whichever test, and what a call leaves that passes its tests.
-- Assumes nothing.
use Prim.Native.Nat.{ℕ, zero, suc, ◌+◌, ◌-◌, ◌*◌, ◌≤◌}
use mathlib.Core.Path.{◌≡◌, refl, sym, ◌∙◌}
use mathlib.Core.List.{List, append-nil}
use native.Mathlib.Nat.{zero-add}
use native.Mathlib.Omega.{arith}
use lib.ListN.{length}
use lib.Seq.{drop-length}
use Rattle.fields.specs.Faults.{first}
use Rattle.fields.specs.Shape.{bytes_of, row_bytes}
use Rattle.records.specs.declared.layer.Layer.{Layer}
use Rattle.network.specs.Network.{layer_of, tensor_of, place_of}
use Rattle.network.specs.Decode.{decode_of}
use Rattle.network.specs.Replace.{replace_fault}
use Rattle.network.specs.declared.net.Network.{Network}
use Rattle.lists.specs.Lists.{pasted, part}
use Rattle.lists.proofs.Pasted.{part_length}
use Rattle.layers.specs.Row.{tensor_at}
use Rattle.layers.specs.Sums.{layer_sums}
use Rattle.bands.specs.State.{all_stale, all_empty, loaded, changed, replaced}
use Rattle.bands.specs.declared.state.State.{State}
use Rattle.checks.specs.Tensors.{tensors_of}
use Rattle.checks.specs.Tests.{load_fault, call_fault, rows_fault, layer_fault, slice_fault, stale_fault}
use Rattle.updates.specs.Recompute.{network_sums, updated_to, count_to}
use Rattle.clew.specs.Calls.{outcome, load_by, load_of, change_by, change_of, replace_by, replace_of, update_by, update_of, read_by, read_of}
use Rattle.clew.proofs.Entered.{Entered}

-- a call that answers every fault by a refusal with that number
refused : {A : Type 0} (by refusal : ℕ → A) {r fault : ℕ} → ((k : ℕ) → by (suc k) ≡ refusal (suc k)) → r ≡ fault → (r ≡ 0 → ⊥) → by fault ≡ refusal r
refused by refusal {r} {fault} h e p = rw (← e) (at r p) where
  at : (k : ℕ) → (k ≡ 0 → ⊥) → by k ≡ refusal k
  at zero q = absurd (q refl)
  at (suc k) q = h k

-- a list pasted over all of another
pasted_whole : (d t : List ℕ) → length t ≡ length d → pasted d 0 t ≡ t
unfolding pasted
pasted_whole d t e = rw (zero-add, e, drop-length) (append-nil t)

-- an answer and a buffer, each as it should be; and with two buffers
pub both : {A B : Type 0} {a b : A} {c d : B} {x : A × B} → x ≡ (b, d) → a ≡ b → c ≡ d → (a, c) ≡ x
both e p q = rw (p, q) (sym e)

pub all_three : {A B C : Type 0} {a b : A} {c d : B} {e f : C} {x : A × B × C} → x ≡ (b, d, f) → a ≡ b → c ≡ d → e ≡ f → (a, c, e) ≡ x
all_three h p q r = rw (p, q, r) (sym h)

-- each call refused with the number that its tests leave, and each call done
module _ (file sums area : List ℕ) where
  pub load-refused :
      {r : ℕ} →
      r ≡ load_fault file (length sums) (length area) →
      (r ≡ 0 → ⊥) →
      load_of file sums area ≡ (outcome r 0 all_stale, sums)
  unfolding load_of
  load-refused = refused (λ k. load_by k (decode_of file).network file sums) (λ k. (outcome k 0 all_stale, sums)) (λ k. refl)

  pub load-done :
      {r : ℕ} {n : Network} →
      (r ≡ load_fault file (length sums) (length area)) × (n ≡ (decode_of file).network) →
      r ≡ 0 →
      load_of file sums area ≡ (outcome 0 0 (loaded (tensors_of n)), pasted sums 0 (network_sums n file))
  unfolding load_of
  load-done e p =
      let z : load_fault file (length sums) (length area) ≡ 0 = sym e.0 ∙ p in
      rw (z, e.1)

module _ (file sums area : List ℕ) (s : State) where
  pub update-refused :
      {r : ℕ} →
      r ≡ call_fault file sums (length area) s →
      (r ≡ 0 → ⊥) →
      update_of file sums area s ≡ (outcome r 0 s, area)
  unfolding update_of
  update-refused = refused (λ k. update_by k (decode_of file).network file sums area s) (λ k. (outcome k 0 s, area)) (λ k. refl)

  pub update-done :
      {n : Network} →
      Entered file sums (length area) s n →
      update_of file sums area s ≡ (outcome 0 (count_to n s n.count) all_empty, updated_to n file sums s n.count area)
  unfolding update_of
  update-done e = rw (e.none, e.network)

  module _ (from count : ℕ) (rows : List ℕ) where
    pub change-refused :
        {r : ℕ} →
        r ≡ first (call_fault file sums (length area) s) (rows_fault (decode_of file).network from count (length rows)) →
        (r ≡ 0 → ⊥) →
        change_of file sums area s from count rows ≡ (outcome r 0 s, area)
    unfolding change_of
    change-refused = refused (λ k. change_by k (decode_of file).network area s from count rows) (λ k. (outcome k 0 s, area)) (λ k. refl)

    pub change-done :
        {n : Network} →
        0 ≡ first (call_fault file sums (length area) s) (rows_fault (decode_of file).network from count (length rows)) →
        n ≡ (decode_of file).network →
        change_of file sums area s from count rows ≡
        (outcome 0 0 (changed s from (from + count)), pasted area (from * row_bytes n.picture) rows)
    unfolding change_of
    change-done e k = rw (← e, k)

  module _ (out : List ℕ) where
    pub read-refused :
        {r : ℕ} →
        r ≡ first (call_fault file sums (length area) s) (first (slice_fault (decode_of file).network (length out)) (stale_fault s)) →
        (r ≡ 0 → ⊥) →
        read_of file sums area s out ≡ (outcome r 0 s, out)
    unfolding read_of
    read-refused = refused (λ k. read_by k (decode_of file).network area s out) (λ k. (outcome k 0 s, out)) (λ k. refl)

    pub read_done :
        {n : Network} →
        0 ≡ first (call_fault file sums (length area) s) (first (slice_fault (decode_of file).network (length out)) (stale_fault s)) →
        n ≡ (decode_of file).network →
        read_of file sums area s out ≡ (outcome 0 0 s, tensor_at area (place_of n n.count) (tensor_of n n.count))
    unfolding read_of
    read_done e k = rw (← e, k)

    -- what is copied over a slice of the tensor's length, from where the tensor lies
    pub slice-read :
        (n : Network) {from : ℕ} →
        length out ≡ bytes_of (tensor_of n n.count) →
        from ≡ place_of n n.count →
        from + length out ≤ length area →
        pasted out 0 (part area from (from + length out - from)) ≡ tensor_at area (place_of n n.count) (tensor_of n n.count)
    slice-read n {from} long place h =
        let all : from + length out - from ≡ length out = omega arith in
        let whole = pasted_whole out (part area from (length out)) (part_length area from (length out) h) in
        rw (all, whole, place, long)

  module _ (k : ℕ) (new : List ℕ) where
    pub replace-refused :
        {r : ℕ} →
        r ≡ first (call_fault file sums (length area) s)
        (first (layer_fault (decode_of file).network k) (replace_fault file (layer_of (decode_of file).network (k - 1)) new)) →
        (r ≡ 0 → ⊥) →
        replace_of file sums area s k new ≡ (outcome r 0 s, file, sums)
    unfolding replace_of
    replace-refused =
        refused (λ j. replace_by j (layer_of (decode_of file).network (k - 1)) file sums s k new) (λ j. (outcome j 0 s, file, sums)) (λ j. refl)

    pub replace-done :
        {y : Layer} →
        0 ≡ first (call_fault file sums (length area) s)
        (first (layer_fault (decode_of file).network k) (replace_fault file (layer_of (decode_of file).network (k - 1)) new)) →
        y ≡ layer_of (decode_of file).network (k - 1) →
        replace_of file sums area s k new ≡
        (outcome 0 0 (replaced s k y.output.rows), pasted file y.start new, pasted sums y.sums (layer_sums y (pasted file y.start new)))
    unfolding replace_of
    replace-done e h = rw (← e, h)

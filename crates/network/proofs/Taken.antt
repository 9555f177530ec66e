-- What is known of a file that is taken: all that `Taken` says of its network.
-- Assumes nothing.
use Prim.Native.Nat.{ℕ, zero, suc, ◌-◌, ◌≤◌}
use mathlib.Core.Path.{◌≡◌, refl, sym, ◌∙◌, ap}
use mathlib.Core.Bool.{Bool, true, false, cond}
use mathlib.Core.List.{List}
use native.Mathlib.Omega.{arith}
use borrow.Author.Tests.{leb-true, eqb-true}
use lib.Dec.{leb, eqb}
use lib.ListN.{length}
use Rattle.fields.specs.Faults.{first}
use Rattle.fields.proofs.Tests.{first_both, unless-none}
use Rattle.network.specs.Decode.{stopped, start_of, end_fault, decoded_as, finish_of, whole_of, decode_of}
use Rattle.network.specs.Taken.{Taken}
use Rattle.network.specs.Decode.{Progress}
use Rattle.network.proofs.Growth.{end_of, sums_before}
use Rattle.network.proofs.Layers.{Ready, Fine, start_fine, steps_fine}

-- nothing follows the last layer
end_there : (s : List ℕ) (at : ℕ) → end_fault s at ≡ 0 → at ≡ length s
unfolding end_fault
end_there s at p = eqb-true at (length s) (unless-none (eqb at (length s)) 0 p)

ready_taken : (s : List ℕ) (p : Progress) → length s ≤ 65536 → Ready s 0 p → p.at ≡ length s → Taken s p.network
ready_taken s p small r e =
    let n = p.network in
    let f = r.sofar in
    let all : p.made ≡ n.count = omega arith in
    let last : n.count ≡ suc (n.count - 1) = omega arith in
    record {
      file-few = small;
      count-some = r.count-some;
      count-few = r.count-few;
      sixteen = r.sixteen;
      zero_is = r.zero_is;
      picture-rows = r.picture-rows;
      picture-columns = r.picture-columns;
      picture-channels = r.picture-channels;
      shapes = λ t h. f.shapes t (omega arith);
      layers = λ m h. f.layers m (omega arith);
      first-start = f.starts 0 (omega arith);
      next_start = λ m h. f.starts (suc m) (omega arith);
      last_end = sym (ap (end_of n) (all ∙ last)) ∙ sym f.at-is ∙ e;
      first-sums = f.sums 0 (omega arith);
      next-sums = λ m h. f.sums (suc m) (omega arith);
      store-end = f.store_is ∙ ap (sums_before n) (all ∙ last);
      area-end = rw all at f.area-is;
      area-few = f.area-few;
      store-few = omega (arith, f.store-few);
    }

finished_taken :
    (s : List ℕ) (p : Progress) →
    length s ≤ 65536 →
    Fine s 0 p →
    (finish_of s p).fault ≡ 0 →
    Taken s (finish_of s p).network
unfolding decoded_as
finished_taken s p small f = at-fault (first p.fault (end_fault s p.at)) refl where
  at-fault : (k : ℕ) → first p.fault (end_fault s p.at) ≡ k → (decoded_as k p).fault ≡ 0 → Taken s (decoded_as k p).network
  at-fault zero e h =
      let q = first_both _ _ e in
      ready_taken s p small (f q.0) (end_there s p.at q.1)
  at-fault (suc k) e h = absurd (omega arith)

pub taken : (s : List ℕ) → (decode_of s).fault ≡ 0 → Taken s (decode_of s).network
unfolding decode_of decoded_as
taken s = by_length (leb (length s) 65536) refl where
  by_length :
      (b : Bool) →
      leb (length s) 65536 ≡ b →
      (cond b (whole_of s (start_of s)) (decoded_as 3 (stopped 3))).fault ≡ 0 →
      Taken s (cond b (whole_of s (start_of s)) (decoded_as 3 (stopped 3))).network
  by_length true e h = finished_taken s _ (leb-true _ _ e) (steps_fine s _ (start_of s) (start_fine s)) h
  by_length false e h = absurd (omega arith)

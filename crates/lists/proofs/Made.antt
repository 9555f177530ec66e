-- What an array holds that a function of the index made.
-- Assumes nothing.
use Prim.Native.Nat.{ℕ, zero, suc, ◌+◌, ◌<◌}
use mathlib.Core.Path.{◌≡◌, sym, subst, ◌∙◌}
use mathlib.Core.List.{List, [], ◌∷◌}
use native.Mathlib.Omega.{arith}
use native.Mathlib.Decide.{ℕ_discrete}
use lib.ListN.{get_or}
use denote.Param.Members.{Mut, Called}
use Rattle.std.specs.Array.{IsFromFnResult, IsFromFnResultFrom}
use Rattle.std.proofs.lemmas.List.{ext_get_or}
use Rattle.lists.specs.Lists.{joined}
use Rattle.lists.proofs.Pasted.{ones_length}
use Rattle.lists.proofs.Laid.{joined_at}

-- the function stays as it is, and gives v of the index
module _ {F B : Type 0} {g : Mut F (ℕ × Unit {0}) B} {f : F} (v : ℕ → B) (d : B) (same : (i : ℕ) (y : B) (q : F) → Called g f (i, tt) y q → (q ≡ f) × (y ≡ v i)) where
  made_from : (ys : List B) (n i k : ℕ) → IsFromFnResultFrom g f ys i n → k < i + n → (k < i → get_or ys k d ≡ v k) → get_or ys k d ≡ v k
  made_from ys zero i k made h before = before (omega arith)
  made_from ys (suc n) i k (q, y, is, call, rest) h before =
      let w = same i y q call in
      made_from ys n (i + 1) k (subst (λ p. IsFromFnResultFrom g p ys (i + 1) n) w.0 rest) (omega arith)
      (λ l. elim (ℕ_discrete k i) [ yes e ↦ rw e (is.1 d ∙ w.1) | no e ↦ before (omega arith) ])

  pub made_joined : {ys : List B} {n : ℕ} → IsFromFnResult g f ys n → ys ≡ joined n (λ i. v i ∷ [])
  made_joined {ys} {n} made =
      let l = ones_length n v in
      ext_get_or d ys (joined n (λ i. v i ∷ [])) (made.long ∙ sym l)
      (λ k h.
      let less : k < n = omega (arith, made.long) in
      made_from ys n 0 k made.each (omega arith) (λ b. absurd (omega arith)) ∙ sym (joined_at n v d k less))

-- What `sizes` answers: a refusal, and what it tells of a file that is taken; and that every size is small.
-- Assumes nothing.
use Prim.Native.Nat.{ℕ, zero, suc, ◌≤◌}
use mathlib.Core.Path.{◌≡◌, refl, sym, ap, ◌∙◌}
use mathlib.Core.List.{List}
use native.Mathlib.Omega.{arith}
use native.Mathlib.Nat.{le_refl}
use Rattle.network.specs.Decode.{decode_of}
use Rattle.network.specs.Taken.{Taken}
use Rattle.network.specs.Decode.{Decoded}
use Rattle.network.proofs.Taken.{taken}
use Rattle.clew.specs.Sizes.{sizes_by, sizes_of}
use Rattle.clew.specs.declared.outcome.Sizes.{Sizes}

-- a file that is refused
pub sizes_refused : (file : List ℕ) {r : ℕ} → r ≡ (decode_of file).fault → (r ≡ 0 → ⊥)
    → sizes_of file ≡ record { number = r; picture = 0; sums = 0; area = 0; reading = 0 }
unfolding sizes_of
sizes_refused file {r} e p = rw (← e) (at r p) where
  at : (k : ℕ) → (k ≡ 0 → ⊥) → sizes_by k (decode_of file).network ≡ record { number = k; picture = 0; sums = 0; area = 0; reading = 0 }
  at zero q = absurd (q refl)
  at (suc k) q = refl

-- one that is taken
pub decoded_taken : (file : List ℕ) {d : Decoded} → d ≡ decode_of file → d.fault ≡ 0 → Taken file d.network
decoded_taken file e h = rw e (taken file (sym (ap (λ d. d.fault) e) ∙ h))

pub sizes_taken : (file : List ℕ) {d : Decoded} → d ≡ decode_of file → d.fault ≡ 0 → sizes_of file ≡ sizes_by 0 d.network
unfolding sizes_of
sizes_taken file e h = let z : (decode_of file).fault ≡ 0 = sym (ap (λ d. d.fault) e) ∙ h in rw (z, e)

-- every size is that of a list in memory
pub record Small (z : Sizes) : Type 0 where
  pub picture-few : z.picture ≤ 65536
  pub sums_few : z.sums ≤ 65536
  pub area-few : z.area ≤ 65536
  pub reading-few : z.reading ≤ 65536

pub sizes_small : (file : List ℕ) → Small (sizes_of file)
unfolding sizes_of
sizes_small file = by (decode_of file).fault refl where
  by : (k : ℕ) → (decode_of file).fault ≡ k → Small (sizes_by k (decode_of file).network)
  by zero e =
      let t : Taken file (decode_of file).network = taken file e in
      record {
        picture-few = omega (arith, (t.shapes 0 (omega arith)).bytes_few);
        sums_few = t.store-few;
        area-few = t.area-few;
        reading-few = omega (arith, (t.shapes _ (le_refl _)).bytes_few);
      }
  by (suc k) e = record { picture-few = omega arith; sums_few = omega arith; area-few = omega arith; reading-few = omega arith }

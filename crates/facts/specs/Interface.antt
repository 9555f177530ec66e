-- The interface for C and Rust, as statements about the promises of the exported calls: a refusal changes nothing and hands back the 34 numbers
-- of the state, and two answers that a promise allows are equal. The proofs stand in proofs/Interface.antt.
-- Assumes nothing.
use Rattle.std.specs.Prelude.{ℕ, ◌≡◌, ◌≢◌, List, [], ◌∷◌, length}
use Rattle.bands.specs.State.{all_stale}
use Rattle.clew.specs.Sizes.{sizes_of}
use Rattle.clew.specs.Calls.{load_of, change_of, replace_of, update_of, read_of}
use Rattle.clew_c.specs.Flat.{flat, state_of, sizes_told, told, replace_told, update_told, read_told}
use Rattle.facts.specs.Settled.{Settles}

-- where a call's number k is not 0, what it tells is the refusal with that number
abbrev pub WhereRefused : {A : Type 0} → ℕ → A → (ℕ → A) → Type 0
WhereRefused k x refusal = k ≢ 0 → x ≡ refusal k

-- a refused load sets the all-stale state; any other call hands back the 34 numbers l that it got
pub record RefusalsToldUnchanged : Type 0 where
  pub sizes : (net : List ℕ) → WhereRefused (sizes_of net).number (sizes_told (sizes_of net)) (λ k. (k, 0 ∷ 0 ∷ 0 ∷ 0 ∷ []))
  pub load : (net sums area : List ℕ) → WhereRefused (load_of net sums area).0.number (told (load_of net sums area)) (λ k. (k, sums, flat all_stale))
  pub change : (net sums area l : List ℕ) → length l ≡ 34 → (first count : ℕ) (rows : List ℕ)
      → WhereRefused (change_of net sums area (state_of l) first count rows).0.number (told (change_of net sums area (state_of l) first count rows)) (λ k. (k, area, l))
  pub replace : (net sums area l : List ℕ) → length l ≡ 34 → (layer : ℕ) (r : List ℕ)
      → WhereRefused (replace_of net sums area (state_of l) layer r).0.number (replace_told (replace_of net sums area (state_of l) layer r)) (λ k. (k, net, sums, l))
  pub update : (net sums area l : List ℕ) → length l ≡ 34
      → WhereRefused (update_of net sums area (state_of l)).0.number (update_told (update_of net sums area (state_of l))) (λ k. (k, area, l, 0))
  pub read : (net sums area l out : List ℕ)
      → WhereRefused (read_of net sums area (state_of l) out).0.number (read_told (read_of net sums area (state_of l) out)) (λ k. (k, out))

-- two answers that an exported promise allows are equal
pub record SettledTold : Type 0 where
  pub sizes : (net : List ℕ) → Settles (λ (x : ℕ × List ℕ). x ≡ sizes_told (sizes_of net))
  pub load : (net sums area : List ℕ) → Settles (λ (x : ℕ × List ℕ × List ℕ). x ≡ told (load_of net sums area))
  pub change : (net sums area l : List ℕ) (first count : ℕ) (rows : List ℕ)
      → Settles (λ (x : ℕ × List ℕ × List ℕ). x ≡ told (change_of net sums area (state_of l) first count rows))
  pub replace : (net sums area l : List ℕ) (k : ℕ) (r : List ℕ)
      → Settles (λ (x : ℕ × List ℕ × List ℕ × List ℕ). x ≡ replace_told (replace_of net sums area (state_of l) k r))
  pub update : (net sums area l : List ℕ) → Settles (λ (x : ℕ × List ℕ × List ℕ × ℕ). x ≡ update_told (update_of net sums area (state_of l)))
  pub read : (net sums area l out : List ℕ) → Settles (λ (x : ℕ × List ℕ). x ≡ read_told (read_of net sums area (state_of l) out))

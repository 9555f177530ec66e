-- Test 6: that it passes where no stored sum is above 255N, and only there.
-- Assumes nothing.
use Prim.Native.Nat.{ℕ, ◌+◌, ◌*◌, ◌≤◌, ◌<◌}
use mathlib.Core.Path.{◌≡◌, ◌∙◌, ap}
use mathlib.Core.Bool.{Bool}
use mathlib.Core.List.{List}
use borrow.Author.Tests.{leb-true}
use lib.Dec.{leb}
use lib.ListN.{get_or}
use Rattle.records.specs.Layer.{sums_of, terms_of}
use Rattle.records.specs.declared.layer.Layer.{Layer}
use Rattle.fields.proofs.Tests.{unless-none}
use Rattle.network.specs.Network.{layer_of}
use Rattle.network.specs.declared.net.Network.{Network}
use Rattle.lists.specs.Choice.{every}
use Rattle.lists.proofs.Choice.{every-at}
use Rattle.checks.specs.Tests.{layer_sums_fit, sums_fault}

-- the stored sum f of those that begin at a place is at most `most`
abbrev pub sum_in : List ℕ → ℕ → ℕ → ℕ → Bool
sum_in sums at most f = leb (get_or sums (at + f) 0) most

-- the test of a layer, from what the code worked out
pub fits_as :
    (y : Layer) (sums : List ℕ) (terms count : ℕ) (r : Bool) →
    terms ≡ terms_of y.kind y.input →
    count ≡ sums_of y.kind →
    r ≡ every count (sum_in sums y.sums (255 * terms)) →
    r ≡ layer_sums_fit y sums
unfolding layer_sums_fit
fits_as y sums terms count r t k e =
    e ∙ ap (λ (j : ℕ). every j (sum_in sums y.sums (255 * terms))) k
    ∙ ap (λ (j : ℕ). every (sums_of y.kind) (sum_in sums y.sums (255 * j))) t

module _ (n : Network) (sums : List ℕ) where
  -- no stored sum of any layer is above 255N
  abbrev pub SumsFit : Type 0
  SumsFit =
      (m f : ℕ) →
      m < n.count →
      f < sums_of (layer_of n m).kind →
      get_or sums ((layer_of n m).sums + f) 0 ≤ 255 * terms_of (layer_of n m).kind (layer_of n m).input

  pub sums-passed : sums_fault n sums ≡ 0 → SumsFit
  unfolding sums_fault layer_sums_fit
  sums-passed p m f h g =
      let y = layer_of n m in
      let all = unless-none (every n.count (λ k. layer_sums_fit (layer_of n k) sums)) 5 p in
      leb-true _ _
      (every-at (sum_in sums y.sums (255 * terms_of y.kind y.input)) (sums_of y.kind)
      (every-at (λ k. layer_sums_fit (layer_of n k) sums) n.count all m h)
      f g)

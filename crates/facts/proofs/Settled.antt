-- What the contracts settle: a promise that an answer equals one value is kept by that value alone.
-- Assumes nothing.
use mathlib.Core.Path.{◌≡◌, sym, ◌∙◌}
use Rattle.facts.specs.Settled.{Settles, Settled}

-- two answers that equal one value are equal
pub only : {A : Type 0} (a : A) → Settles (λ (x : A). x ≡ a)
only a x y p q = p ∙ sym q

pub settled : Settled
settled = record {
  sizes = λ file. only _;
  load = λ file sums area. only _;
  change = λ file sums area s first count rows. only _;
  replace = λ file sums area s k r. only _;
  update = λ file sums area s. only _;
  read = λ file sums area s out. only _;
}

-- The layers of a network as a chain, which the theory of histories is about.
-- Assumes nothing.
use Prim.Native.Nat.{ℕ, zero, suc}
use mathlib.Core.Path.{◌≡◌, refl, sym, ◌∙◌}
use mathlib.Core.List.{List}
use native.Mathlib.Omega.{arith}
use Rattle.records.specs.declared.layer.Kind.{Kind}
use Rattle.records.specs.declared.layer.Kind.TheVariants.{Conv, Full, Add}
use Rattle.records.specs.declared.layer.Layer.{Layer}
use Rattle.network.specs.Network.{layer_of, tensor_of}
use Rattle.network.specs.Taken.{Taken}
use Rattle.network.specs.declared.net.Network.{Network}
use Rattle.checks.specs.Tensors.{link_by, link_of}
use Rattle.histories.specs.Chain.{Chain, rows_in, SoundChain}
use Rattle.checks.proofs.Links.{link-ok}

-- how many layers, the picture's rows, and how each layer hangs on its inputs
abbrev pub chain_of : Network → Chain
chain_of n = record { n = n.count; top = n.picture.rows; links = link_of n }

link_rows : (k : Kind) (y : Layer) (m : ℕ) → (link_by k y m).rows ≡ y.output.rows
link_rows (Conv c) y m = refl
link_rows (Full f) y m = refl
link_rows (Add a) y m = refl

pub chain_rows : (n : Network) (t : ℕ) → rows_in (chain_of n) t ≡ (tensor_of n t).rows
chain_rows n zero = refl
chain_rows n (suc m) = link_rows (layer_of n m).kind (layer_of n m) m

pub links_sound : (s : List ℕ) (n : Network) → Taken s n → SoundChain (chain_of n)
links_sound s n t = record {
  other-before = λ m h. (link-ok s n t m h).other-before;
  other-rows = λ m h. chain_rows n (link_of n m).other ∙ (link-ok s n t m h).other-rows ∙ sym (chain_rows n m);
  some-rows = λ u h. omega (arith, chain_rows n u, (t.shapes u h).rows-some);
  stride-pos = λ m h. (link-ok s n t m h).stride-some;
  before-less = λ m h. (link-ok s n t m h).before-less;
  starts = λ m i h q. omega (arith, (link-ok s n t m h).starts i q, chain_rows n m);
}

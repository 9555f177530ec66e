-- The layers of an accepted network as the model of the bands' history: a network's file and sums, which a replacement changes, over shapes
-- and places, which it leaves.
-- Assumes nothing.
use Prim.Native.Nat.{ℕ, ◌<◌}
use mathlib.Core.Path.{◌≡◌}
use mathlib.Core.List.{List, ◌++◌}
use lib.ListN.{take, replicate}
use Rattle.fields.specs.Shape.{row_bytes}
use Rattle.records.specs.Layer.{sums_of, record_len}
use Rattle.fields.specs.declared.shape.Shape.{Shape}
use Rattle.records.specs.declared.layer.Layer.{Layer}
use Rattle.network.specs.Network.{layer_of, tensor_of, place_of, zero_of}
use Rattle.network.specs.Decode.{decode_of}
use Rattle.network.specs.Taken.{Taken}
use Rattle.network.specs.declared.net.Network.{Network}
use Rattle.lists.specs.Lists.{joined, part}
use Rattle.layers.specs.Row.{row_of}
use Rattle.histories.specs.Model.{Model}
use Rattle.histories.specs.Chain.{windowed}
use Rattle.histories.specs.Area.{Layout}
use Rattle.checks.specs.Tensors.{link_of}
use Rattle.facts.proofs.Chains.{chain_of}

-- two networks alike in all that a replacement leaves
pub record Alike (n n' : Network) : Type 0 where
  pub count : n'.count ≡ n.count
  pub area : n'.area ≡ n.area
  pub store : n'.store ≡ n.store
  pub tensors : (t : ℕ) → tensor_of n' t ≡ tensor_of n t
  pub places : (t : ℕ) → place_of n' t ≡ place_of n t
  pub links : (m : ℕ) → m < n.count → link_of n' m ≡ link_of n m

-- a file and a store of sums, of a network like n
pub record Present (n : Network) : Type 0 where
  pub file : List ℕ
  pub sums : List ℕ
  pub taken : Taken file (decode_of file).network
  pub alike : Alike n (decode_of file).network

-- its network
abbrev pub net_of : {n : Network} → Present n → Network
net_of p = (decode_of p.file).network

-- w bytes of a row that may have fewer or more
abbrev pub fitted : ℕ → List ℕ → List ℕ
fitted w l = take w (l ++ replicate w 0)

-- a tensor of a shape, of its rows
abbrev pub tensor_from : Shape → (ℕ → List ℕ) → List ℕ
tensor_from x rows = joined x.rows (λ r. fitted (row_bytes x) (rows r))

module _ (n : Network) where
  -- the parameters of layer m: what was decoded, its record's bytes, its stored sums
  abbrev pub par_of : Present n → ℕ → Layer × List ℕ × List ℕ
  par_of p m = (
    layer_of (net_of p) m,
    part p.file (layer_of (net_of p) m).start (record_len (layer_of (net_of p) m)),
    part p.sums (layer_of (net_of p) m).sums (sums_of (layer_of (net_of p) m).kind),
  )

  -- row i of layer m, of the tensors' rows
  abbrev pub row_with : Present n → ℕ → (ℕ → ℕ → List ℕ) → ℕ → List ℕ
  row_with p m rows i =
      row_of (layer_of (net_of p) m) (zero_of (net_of p) m) (zero_of (net_of p) (link_of n m).other) p.file p.sums
      (tensor_from (tensor_of n m) (rows m))
      (tensor_from (tensor_of n m) (rows (link_of n m).other))
      i

  abbrev pub model : Model (List ℕ)
  model = windowed (List ℕ) (Present n) (Layer × List ℕ × List ℕ) ℕ (chain_of n) par_of (λ p. zero_of (net_of p)) row_with

  -- where the tensors stand in the area
  abbrev pub layout : Layout
  layout = record { off = place_of n; width = λ t. row_bytes (tensor_of n t) }

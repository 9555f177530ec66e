-- The shapes and the rows of a network's tensors, as the functions and the bands need them.
-- Assumes nothing.
use Prim.Native.Nat.{ℕ, zero, suc, ◌≤◌, ◌<◌}
use mathlib.Core.Path.{◌≡◌, refl, ◌∙◌, ap, subst⁻¹}
use mathlib.Core.Bool.{Bool, true, false, cond}
use mathlib.Core.List.{List}
use native.Mathlib.Omega.{arith}
use native.Mathlib.Decide.{dec_lt}
use lib.Dec.{leb}
use lib.ListN.{length, get_or, replicate, length-replicate, get_or-replicate, get_or-eq_default}
use lib.Seq.{get_or-set_other}
use Rattle.lists.proofs.Laid.{joined_at}
use Rattle.fields.specs.Faults.{first}
use Rattle.fields.specs.Bytes.{byte_at}
use Rattle.fields.specs.Asked.{GoodShape}
use Rattle.records.specs.declared.layer.Layer.{Layer}
use Rattle.records.specs.Reader.{Read}
use Rattle.records.specs.Reader.{Refused, Found}
use Rattle.fields.proofs.Tests.{first_both}
use Rattle.network.specs.Network.{blank_shape, blank_layer, empty_network, layer_of, tensor_of}
use Rattle.network.specs.Head.{picture_at, head_fault}
use Rattle.network.specs.Decode.{read_layer, stopped, started, start_of, pushed, step_read, step_from, step_of, steps_of, end_fault, decoded_as, whole_of, decode_of}
use Rattle.network.specs.Taken.{Taken}
use Rattle.network.specs.declared.net.Network.{Network}
use Rattle.network.specs.Decode.{Progress}
use Rattle.network.proofs.Layers.{Ready, start_fine, steps_fine}
use Rattle.bands.specs.State.{band_of, rows_of, state_fault}
use Rattle.bands.specs.declared.state.State.{State}
use Rattle.bands.proofs.States.{IsFair, passed-fair}
use Rattle.checks.specs.Tensors.{tensors_of}

-- the rows of each tensor are those that the network says
pub rows_at : (n : Network) (t : ℕ) → t < 17 → rows_of (tensors_of n) t ≡ (tensor_of n t).rows
rows_at n t h = joined_at 17 (λ k. (tensor_of n k).rows) 0 t h

module _ (s : List ℕ) (n : Network) (t : Taken s n) where
  pub input-good : (m : ℕ) → m < n.count → GoodShape (layer_of n m).input
  input-good m h = subst⁻¹ GoodShape (t.layers m h).input (t.shapes m (omega arith))

  -- the bands of a state that passed test 5
  pub bands-fair : (b : State) → state_fault b (tensors_of n) ≡ 0 → (u : ℕ) → u ≤ n.count → IsFair (tensor_of n u).rows (band_of b u)
  bands-fair b h u q =
      let few : u < 17 = omega (arith, t.count-few) in
      rw (rows_at n u few) at (passed-fair b (tensors_of n) h u few q)

-- ---- the tensors that a decoded network lacks have no rows

abbrev Blank : Progress → Type 0
Blank p = (m : ℕ) → p.made ≤ m → layer_of p.network m ≡ blank_layer

all_blank : (k m : ℕ) → get_or (replicate k blank_layer) m blank_layer ≡ blank_layer
all_blank k m = by_place (dec_lt m k) where
  by_place : Dec (m < k) → get_or (replicate k blank_layer) m blank_layer ≡ blank_layer
  by_place (yes h) = get_or-replicate k m blank_layer blank_layer h
  by_place (no h) = get_or-eq_default (replicate k blank_layer) blank_layer (omega (arith, length-replicate k blank_layer))

start_blank : (s : List ℕ) → Blank (start_of s)
unfolding start_of started stopped
start_blank s = at-fault (head_fault s) where
  at-fault : (k : ℕ) → Blank (started k (picture_at s) (byte_at s 7) (byte_at s 8))
  at-fault zero m h = all_blank 16 m
  at-fault (suc k) m h = all_blank 16 m

step_blank : (s : List ℕ) (p : Progress) → Blank p → Blank (step_of s p)
unfolding step_of stopped pushed
step_blank s p b = from p.fault where
  after : (r : Read) → Blank (step_read p r)
  after (Refused k) m h = all_blank 16 m
  after (Found l next) m h = get_or-set_other p.network.layers p.made m l blank_layer (λ e. omega arith) ∙ b m (omega arith)

  from : (k : ℕ) → Blank (step_from k s p)
  from zero = after (read_layer s p.at p.network p.made)
  from (suc k) = b

steps_blank : (s : List ℕ) (left : ℕ) (p : Progress) → Blank p → Blank (steps_of s left p)
unfolding steps_of
steps_blank s zero p b = b
steps_blank s (suc left) p b = steps_blank s left (step_of s p) (step_blank s p b)

blank_rows : (n : Network) (m : ℕ) → layer_of n m ≡ blank_layer → (tensor_of n (suc m)).rows ≤ 16384
blank_rows n m e = omega (arith, ap (λ (y : Layer). y.output.rows) e)

-- no tensor has more rows than the numbers of a band can count, also where the file is refused
ready_rows : (s : List ℕ) (p : Progress) → Ready s 0 p → Blank p → (t : ℕ) → (tensor_of p.network t).rows ≤ 16384
ready_rows s p r b zero = omega (arith, r.picture-rows)
ready_rows s p r b (suc m) = by_place (dec_lt m p.made) where
  by_place : Dec (m < p.made) → (tensor_of p.network (suc m)).rows ≤ 16384
  by_place (yes h) = (r.sofar.shapes (suc m) (omega arith)).rows_few
  by_place (no h) = blank_rows p.network m (b m (omega arith))

none_rows : (t : ℕ) → (tensor_of (empty_network blank_shape 0 0 0) t).rows ≤ 16384
none_rows zero = omega arith
none_rows (suc m) = blank_rows (empty_network blank_shape 0 0 0) m (all_blank 16 m)

pub decoded_rows : (s : List ℕ) (t : ℕ) → (tensor_of (decode_of s).network t).rows ≤ 16384
unfolding decode_of decoded_as
decoded_rows s t = by_length (leb (length s) 65536) where
  p : Progress
  p = steps_of s (start_of s).network.count (start_of s)

  at-fault : (k : ℕ) → first p.fault (end_fault s p.at) ≡ k → (tensor_of (decoded_as k p).network t).rows ≤ 16384
  at-fault zero e =
      ready_rows s p (steps_fine s _ (start_of s) (start_fine s) (first_both _ _ e).0) (steps_blank s _ (start_of s) (start_blank s)) t
  at-fault (suc k) e = none_rows t

  by_length : (b : Bool) → (tensor_of (cond b (whole_of s (start_of s)) (decoded_as 3 (stopped 3))).network t).rows ≤ 16384
  by_length true = at-fault (first p.fault (end_fault s p.at)) refl
  by_length false = none_rows t

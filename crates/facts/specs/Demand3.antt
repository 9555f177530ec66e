-- Demand 3, as statements. Their proofs stand in proofs/Demand3.antt, proofs/Exact.antt, proofs/Clean.antt and proofs/Reach.antt.
-- Assumes nothing.
use Rattle.std.specs.Prelude.{ℕ, suc, ◌+◌, ◌*◌, ◌≤◌, ◌<◌, ◌≡◌, ◌⊎◌, true, List, length, drop}
use Rattle.records.specs.Layer.{other_of}
use Rattle.records.specs.declared.layer.Kind.{Kind}
use Rattle.records.specs.declared.layer.Kind.TheVariants.{Conv, Full, Add}
use Rattle.network.specs.Network.{layer_of, tensor_of}
use Rattle.network.specs.Decode.{decode_of}
use Rattle.network.specs.declared.net.Network.{Network}
use Rattle.lists.specs.Lists.{part}
use Rattle.fields.specs.Shape.{bytes_of}
use Rattle.bands.specs.Band.{In}
use Rattle.bands.specs.State.{band_of, all_empty, clean}
use Rattle.bands.specs.Reach.{reached_band}
use Rattle.bands.specs.declared.band.Band.{Band}
use Rattle.bands.specs.declared.state.State.{State}
use Rattle.checks.specs.Tensors.{link_of}
use Rattle.checks.specs.Tests.{call_fault}
use Rattle.updates.specs.Recompute.{network_sums, tensor_in, row_in, row_from, grown_band_of, count_to}
use Rattle.clew.specs.Calls.{outcome, load_of, update_of}
use Rattle.facts.specs.Fresh.{fresh_tensor, fresh_reading}
use Rattle.facts.specs.History.{System, network_of, picture_of, read_from, after_load, Keeps, Reached}

-- after an accepted load a history may begin
abbrev pub LoadsBegin : Type 0
LoadsBegin = (file sums area : List ℕ) → (load_of file sums area).0.number ≡ 0 → Keeps (after_load file area (load_of file sums area))

-- where tests 1 to 6 pass and the state is clean, each tensor is that of a fresh run over the present network and picture
abbrev pub FreshTensors : Type 0
FreshTensors = (s : System) → Reached s → call_fault s.file s.sums (length s.area) s.state ≡ 0 → clean s.state ≡ true
    → (t : ℕ) → t ≤ (network_of s).count
    → tensor_in (network_of s) s.area t ≡ fresh_tensor (network_of s) s.file (network_sums (network_of s) s.file) (picture_of s) t

-- so each accepted reading is its last tensor
abbrev pub FreshReadings : Type 0
FreshReadings = (s : System) (out : List ℕ) → Reached s → (read_from s out).0.number ≡ 0 → (read_from s out).1 ≡ fresh_reading s.file (picture_of s)

-- and by their accepted readings nobody can tell two systems apart that hold the same network and picture
abbrev pub SameReadings : Type 0
SameReadings = (s s' : System) (out out' : List ℕ) → Reached s → Reached s' → s.file ≡ s'.file → picture_of s ≡ picture_of s'
    → (read_from s out).0.number ≡ 0 → (read_from s' out').0.number ≡ 0 → (read_from s out).1 ≡ (read_from s' out').1

-- all weight sums are the present ones
abbrev pub PresentSums : Type 0
PresentSums = (s : System) → Reached s → part s.sums 0 (network_of s).store ≡ network_sums (network_of s) s.file

-- an area after an update from the bands of s: exactly the rows of the grown bands are rewritten
pub record Rewritten (n : Network) (file sums : List ℕ) (s : State) (area area' : List ℕ) : Type 0 where
  pub size : length area' ≡ length area
  -- a grown band lies within its tensor
  pub within : (m : ℕ) → m < n.count → (grown_band_of n s (suc m)).end ≤ (tensor_of n (suc m)).rows
  -- each row in it is the layer's, from rows and sums stored
  pub inside : (m i : ℕ) → m < n.count → In i (grown_band_of n s (suc m)) → row_in n area' (suc m) i ≡ row_from n file sums m area' i
  -- every other row stays, and so does the picture
  pub outside : (m i : ℕ) → m < n.count → i < (tensor_of n (suc m)).rows → (In i (grown_band_of n s (suc m)) → ⊥)
      → row_in n area' (suc m) i ≡ row_in n area (suc m) i
  pub picture : part area' 0 (bytes_of n.picture) ≡ part area 0 (bytes_of n.picture)
  -- and what follows the tensors
  pub beyond : drop n.area area' ≡ drop n.area area

-- over a work area with arbitrary contents an accepted update rewrites exactly the rows of the grown bands, and its count is the bytes in them
abbrev pub ExactUpdates : Type 0
ExactUpdates = (file sums area : List ℕ) (s : State) → (update_of file sums area s).0.number ≡ 0
    → Rewritten (decode_of file).network file sums s area (update_of file sums area s).1
    × ((update_of file sums area s).0.count ≡ count_to (decode_of file).network s (decode_of file).network.count)

-- a clean state gives count 0: an accepted update from empty bands changes no byte
abbrev pub CleanUpdates : Type 0
CleanUpdates = (file sums area : List ℕ) (s : State) → (update_of file sums area s).0.number ≡ 0 → clean s ≡ true
    → update_of file sums area s ≡ (outcome 0 0 all_empty, area)

-- row i of a layer is reached by a band of an input, in document 01's words for its kind
abbrev pub Reaches : Kind → Band → ℕ → Type 0
-- a convolution row i if some row from i × stride − p to i × stride − p + kernel rows − 1 is in the band
Reaches (Conv c) b i =
    (r : ℕ) × In r b × (i * c.frame.stride ≤ r + c.frame.padding) × (r + c.frame.padding < i * c.frame.stride + c.frame.height)
-- a full layer if the input's band is not empty
Reaches (Full f) b i = (r : ℕ) × In r b
-- an add row if row i is in the band
Reaches (Add a) b i = In i b

-- the reached rows of a layer are exactly these
abbrev pub ExactReach : Type 0
ExactReach = (file : List ℕ) → (decode_of file).fault ≡ 0 → (m : ℕ) → m < (decode_of file).network.count
    → (b : Band) → b.end ≤ (tensor_of (decode_of file).network m).rows → (i : ℕ)
    → (In i (reached_band b (link_of (decode_of file).network m))
    → (i < (tensor_of (decode_of file).network (suc m)).rows) × Reaches (layer_of (decode_of file).network m).kind b i)
    × ((i < (tensor_of (decode_of file).network (suc m)).rows) × Reaches (layer_of (decode_of file).network m).kind b i
    → In i (reached_band b (link_of (decode_of file).network m)))

-- row i of layer m must be worked again: it is in the layer's own band, or the grown band of an input reaches it
abbrev pub Must : Network → State → ℕ → ℕ → Type 0
Must n s m i = (i < (tensor_of n (suc m)).rows)
    × (In i (band_of s (suc m))
    ⊎ (Reaches (layer_of n m).kind (grown_band_of n s m) i ⊎ Reaches (layer_of n m).kind (grown_band_of n s (other_of (layer_of n m).kind m)) i))

-- row i is one of P, or lies between two of them
abbrev pub Between : (ℕ → Type 0) → ℕ → Type 0
Between P i = ((a : ℕ) × (a ≤ i) × P a) × ((z : ℕ) × (i ≤ z) × P z)

-- a row is recomputed exactly where it must, or where it lies between two rows that must: the band is the smallest that covers them
abbrev pub OnlyWhereItMust : Type 0
OnlyWhereItMust = (file sums area : List ℕ) (s : State) → length s.bands ≡ 17 → (update_of file sums area s).0.number ≡ 0
    → (m i : ℕ) → m < (decode_of file).network.count
    → (In i (grown_band_of (decode_of file).network s (suc m)) → Between (Must (decode_of file).network s m) i)
    × (Between (Must (decode_of file).network s m) i → In i (grown_band_of (decode_of file).network s (suc m)))

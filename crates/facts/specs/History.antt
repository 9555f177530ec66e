-- What a history of calls leads to: a system that keeps what a load leaves, and then any of the other four calls, accepted or refused, each
-- passed the latest state and the same buffers, changed by nothing else.
-- Assumes nothing.
use Rattle.std.specs.Prelude.{ℕ, suc, ◌≤◌, ◌<◌, ◌≡◌, List, length}
use Rattle.network.specs.Network.{tensor_of}
use Rattle.network.specs.Decode.{decode_of}
use Rattle.network.specs.declared.net.Network.{Network}
use Rattle.lists.specs.Lists.{part}
use Rattle.bands.specs.Band.{In}
use Rattle.bands.specs.State.{loaded}
use Rattle.bands.specs.declared.state.State.{State}
use Rattle.checks.specs.Tensors.{tensors_of}
use Rattle.updates.specs.Recompute.{network_sums, tensor_in, row_in, row_from, grown_band_of}
use Rattle.clew.specs.Calls.{change_of, replace_of, update_of, read_of}
use Rattle.clew.specs.declared.outcome.Outcome.{Outcome}

-- the buffers and the latest state
pub record System : Type 0 where
  pub file : List ℕ
  pub sums : List ℕ
  pub area : List ℕ
  pub state : State

-- the present network
abbrev pub network_of : System → Network
network_of s = (decode_of s.file).network

-- and the present picture
abbrev pub picture_of : System → List ℕ
picture_of s = tensor_in (network_of s) s.area 0

-- one of the four calls, with its own parameters
pub data Call : Type 0 where
  change : (first count : ℕ) (rows : List ℕ) → Call
  replace : (k : ℕ) (r : List ℕ) → Call
  update : Call
  read : (out : List ℕ) → Call

-- what a reading answers, and the slice that it leaves
abbrev pub read_from : System → List ℕ → Outcome × List ℕ
read_from s out = read_of s.file s.sums s.area s.state out

-- after a load
abbrev pub after_load : List ℕ → List ℕ → Outcome × List ℕ → System
after_load file area x = record { file = file; sums = x.1; area = area; state = x.0.state }

-- after a call that may write the area, or the file and the sums, or neither
abbrev pub with_area : System → Outcome × List ℕ → System
with_area s x = record { file = s.file; sums = s.sums; area = x.1; state = x.0.state }

abbrev pub with_file : System → Outcome × List ℕ × List ℕ → System
with_file s x = record { file = x.1; sums = x.2; area = s.area; state = x.0.state }

abbrev pub with_state : System → Outcome × List ℕ → System
with_state s x = record { file = s.file; sums = s.sums; area = s.area; state = x.0.state }

-- what a call leaves
abbrev pub after : Call → System → System
after (change first count rows) s = with_area s (change_of s.file s.sums s.area s.state first count rows)
after (replace k r) s = with_file s (replace_of s.file s.sums s.area s.state k r)
after update s = with_area s (update_of s.file s.sums s.area s.state)
after (read out) s = with_state s (read_from s out)

-- each row outside the grown bands is what its layer makes of the rows and sums stored
abbrev pub RowsKept : System → Type 0
RowsKept s = (m i : ℕ) → m < (network_of s).count → i < (tensor_of (network_of s) (suc m)).rows
    → (In i (grown_band_of (network_of s) s.state (suc m)) → ⊥)
    → row_in (network_of s) s.area (suc m) i ≡ row_from (network_of s) s.file s.sums m s.area i

-- what a history may begin from: the file is taken, the store and the area hold what it needs, there are 17 bands, the sums are the true ones,
-- and the rows are kept
pub record Keeps (s : System) : Type 0 where
  pub taken : (decode_of s.file).fault ≡ 0
  pub store_in : (network_of s).store ≤ length s.sums
  pub area_in : (network_of s).area ≤ length s.area
  pub bands : length s.state.bands ≡ 17
  pub sums : part s.sums 0 (network_of s).store ≡ network_sums (network_of s) s.file
  pub rows : RowsKept s

-- what such a system, an accepted load's for one, and any calls after it lead to
pub data Reached : System → Type 0 where
  begin : {s : System} → Keeps s → Reached s
  then : (c : Call) {s : System} → Reached s → Reached (after c s)
  -- the caller may write the picture straight into the area before the first update: every row is still stale, as load left it
  written : (area : List ℕ) {s : System} → Reached s → s.state ≡ loaded (tensors_of (network_of s)) → length area ≡ length s.area
      → Reached (record { file = s.file; sums = s.sums; area = area; state = s.state })

-- The calls that change what is kept, a network, the bytes of the area and the state. Each is stated as equations.
-- Assumes nothing.
use Rattle.std.specs.Prelude.{ℕ, suc, ◌≤◌, ◌<◌, ◌+◌, ◌*◌, ◌≡◌, ◌≢◌, List, length}
use Rattle.std.proofs.lemmas.List.Edits.{sets}
use Rattle.bands.specs.declared.state.State.{State}
use Rattle.bands.specs.declared.state.Tensors.{Tensors}
use Rattle.bands.specs.State.{band_of, rows_of, all_empty, changed, replaced}
use Rattle.histories.specs.Model.{Model}
use Rattle.histories.specs.Kept.{grown_of}
use Rattle.histories.specs.Area.{Layout, row_place, Room, redo_area}

module _ (L : Model (List ℕ)) (Y : Layout) where
  pub record AreaSys : Type 0 where
    pub net : L.Net
    pub area : List ℕ
    pub state : State

  -- the rows that the tests of the state are given are the model's
  pub record Tells (n : Tensors) : Type 0 where
    pub count : n.count ≡ L.n
    pub rows : (t : ℕ) → t ≤ L.n → rows_of n t ≡ L.rows t

  -- what tests 3 to 5 ensure of what an accepted call is given
  pub record Fit (s : AreaSys) : Type 0 where
    pub few : L.n < 17
    pub room : Room L Y (length s.area)
    pub all : length s.state.bands ≡ 17
    pub within : (t : ℕ) → t ≤ L.n → (band_of s.state t).end ≤ L.rows t

  pub record Changing (first count : ℕ) (bytes : List ℕ) (s s' : AreaSys) : Type 0 where
    pub fit : Fit s
    pub inside : first + count ≤ L.rows 0
    pub right : length bytes ≡ count * Y.width 0
    pub net : s'.net ≡ s.net
    pub area : s'.area ≡ sets s.area (row_place Y 0 first) bytes
    pub state : s'.state ≡ changed s.state first (first + count)

  -- layer k, counted from 0, makes tensor suc k
  pub record Replacing (k : ℕ) (s s' : AreaSys) : Type 0 where
    pub fit : Fit s
    pub layer : k < L.n
    pub others : (m : ℕ) → m < L.n → m ≢ k → L.par s'.net m ≡ L.par s.net m
    pub head : L.zp s'.net 0 ≡ L.zp s.net 0
    pub area : s'.area ≡ s.area
    pub state : s'.state ≡ replaced s.state (suc k) (L.rows (suc k))

  pub record Updating (s s' : AreaSys) : Type 0 where
    pub fit : Fit s
    pub net : s'.net ≡ s.net
    pub area : s'.area ≡ redo_area L Y s.net (grown_of L (band_of s.state)) L.n s.area
    pub state : s'.state ≡ all_empty

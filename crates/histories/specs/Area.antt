-- The tensors in one list of bytes: where a row lies, and what an update of the list is, row after row and layer after layer.
-- Any layers: the model's rows are lists of bytes.
-- Assumes nothing.
use Rattle.std.specs.Prelude.{ℕ, zero, suc, ◌≤◌, ◌<◌, ◌+◌, ◌-◌, ◌*◌, ◌≡◌, List, length}
use Rattle.std.proofs.lemmas.List.Edits.{sets}
use Rattle.lists.specs.Lists.{part}
use Rattle.histories.specs.Model.{Bands, Model}

-- where each tensor starts, and the bytes of its rows
pub record Layout : Type 0 where
  pub off : ℕ → ℕ
  pub width : ℕ → ℕ

abbrev pub row_place : Layout → ℕ → ℕ → ℕ
row_place Y t i = Y.off t + i * Y.width t

-- row i of tensor t
abbrev pub view : Layout → List ℕ → ℕ → ℕ → List ℕ
view Y A t i = part A (row_place Y t i) (Y.width t)

module _ (L : Model (List ℕ)) (Y : Layout) where
  -- the tensors stand one after another, and a layer's row has its tensor's width
  pub record SideBySide : Type 0 where
    pub after : (t u : ℕ) → t < u → u ≤ L.n → Y.off t + L.rows t * Y.width t ≤ Y.off u
    pub wide : (N : L.Net) (m i : ℕ) (S : ℕ → ℕ → List ℕ) → m < L.n → i < L.rows (suc m) → length (L.row_of N m S i) ≡ Y.width (suc m)

  -- a list of that length holds them
  abbrev pub Room : ℕ → Type 0
  Room k = (t : ℕ) → t ≤ L.n → Y.off t + L.rows t * Y.width t ≤ k

  -- row i of layer m is recomputed in its place
  unfoldable pub redo_row : L.Net → ℕ → ℕ → List ℕ → List ℕ
  redo_row N m i A = sets A (row_place Y (suc m) i) (L.row_of N m (view Y A) i)

  -- k rows of layer m from row f on, one after another
  unfoldable pub redo_rows : L.Net → ℕ → ℕ → ℕ → List ℕ → List ℕ
  redo_rows N m f zero A = A
  redo_rows N m f (suc k) A = redo_row N m (f + k) (redo_rows N m f k A)

  -- the first m layers in order, each at the rows of its band
  unfoldable pub redo_area : L.Net → Bands → ℕ → List ℕ → List ℕ
  redo_area N C zero A = A
  redo_area N C (suc m) A = redo_rows N m (C (suc m)).first ((C (suc m)).end - (C (suc m)).first) (redo_area N C m A)

-- A chain of layers, any that keep the laws of `Laws`.
-- Tensors are numbered from 0, the picture. Layer m, counted from 0, reads tensor m and tensor `other m` and makes tensor suc m.
-- Assumes nothing.
use Rattle.std.specs.Prelude.{ℕ, suc, ◌≤◌, ◌<◌, ◌≡◌}
use Rattle.bands.specs.declared.band.Band.{Band}
use Rattle.bands.specs.Band.{In}
use Rattle.bands.specs.Within.{Inside}

abbrev pub Bands : Type 0
Bands = ℕ → Band

-- what the layers are, over a row's contents
pub record Model (Row : Type 0) : Type 1 where
  -- a network's parameters, those of one layer, and a tensor's zero-point. A network may hold the stored sums too: they are then among the
  -- parameters of their layer
  pub Net : Type 0
  pub Par : Type 0
  pub Zp : Type 0
  -- how many layers; the rows of a tensor; the second input of a layer (m itself where it has one input)
  pub n : ℕ
  pub rows : ℕ → ℕ
  pub other : ℕ → ℕ
  -- Reads m i t r: row i of layer m looks at row r of tensor t, which may be a row of padding, past the tensor's last
  pub Reads : ℕ → ℕ → ℕ → ℕ → Type 0
  -- the smallest band covering the rows of layer m that the bands reach
  pub reach : ℕ → Bands → Band
  pub par : Net → ℕ → Par
  pub zp : Net → ℕ → Zp
  -- row i of layer m, from the tensors
  pub row_of : Net → ℕ → (ℕ → ℕ → Row) → ℕ → Row

-- what is asked of them, each only at a layer m < n and at a row i of it
pub record Laws {Row : Type 0} (L : Model Row) : Type 0 where
  pub other-before : (m : ℕ) → m < L.n → L.other m ≤ m
  pub reads_before : (m i t r : ℕ) → m < L.n → i < L.rows (suc m) → L.Reads m i t r → t ≤ m
  -- every row reads some real row of each input
  pub reads_first : (m i : ℕ) → m < L.n → i < L.rows (suc m) → (r : ℕ) × L.Reads m i m r × (r < L.rows m)
  pub reads_other : (m i : ℕ) → m < L.n → i < L.rows (suc m) → (r : ℕ) × L.Reads m i (L.other m) r × (r < L.rows (L.other m))
  -- the reached band covers what is reached, and no band that does so is smaller
  pub reach-covers : (m i t r : ℕ) (B : Bands) → m < L.n → i < L.rows (suc m) → L.Reads m i t r → In r (B t) → In i (L.reach m B)
  pub reach-least : (m : ℕ) (B : Bands) (c : Band) → m < L.n
      → ((i t r : ℕ) → i < L.rows (suc m) → L.Reads m i t r → In r (B t) → In i c)
      → Inside (L.reach m B) c
  -- a row is made of the layer's parameters, its inputs' zero-points and the real rows that it reads
  pub row_local : (N N' : L.Net) (S S' : ℕ → ℕ → Row) (m i : ℕ) → m < L.n → i < L.rows (suc m)
      → L.par N m ≡ L.par N' m → L.zp N m ≡ L.zp N' m → L.zp N (L.other m) ≡ L.zp N' (L.other m)
      → ((t r : ℕ) → L.Reads m i t r → r < L.rows t → S t r ≡ S' t r)
      → L.row_of N m S i ≡ L.row_of N' m S' i
  -- and so is the zero-point of what it makes
  pub zp-local : (N N' : L.Net) (m : ℕ) → m < L.n
      → L.par N m ≡ L.par N' m → L.zp N m ≡ L.zp N' m → L.zp N (L.other m) ≡ L.zp N' (L.other m)
      → L.zp N (suc m) ≡ L.zp N' (suc m)

-- Layers that are all windowed (specs/Reach.antt of `bands` says how a full layer and an add are), and the model that they make.
-- Assumes nothing.
use Rattle.std.specs.Prelude.{ℕ, zero, suc, ◌≤◌, ◌<◌, ◌+◌, ◌*◌, ◌≡◌, ◌⊎◌}
use Rattle.bands.specs.declared.band.Band.{Band}
use Rattle.bands.specs.declared.reach.Link.{Link}
use Rattle.bands.specs.Band.{cover}
use Rattle.bands.specs.Reach.{reached_band}
use Rattle.bands.specs.Within.{Sees}
use Rattle.histories.specs.Model.{Bands, Model}

-- how many layers, the picture's rows, and how each layer hangs on its inputs
pub record Chain : Type 0 where
  pub n : ℕ
  pub top : ℕ
  pub links : ℕ → Link

-- the rows of tensor t
abbrev pub rows_in : Chain → ℕ → ℕ
rows_in G zero = G.top
rows_in G (suc m) = (G.links m).rows

-- what an accepted file ensures of them
pub record SoundChain (G : Chain) : Type 0 where
  pub other-before : (m : ℕ) → m < G.n → (G.links m).other ≤ m
  pub other-rows : (m : ℕ) → m < G.n → rows_in G (G.links m).other ≡ rows_in G m
  pub some-rows : (t : ℕ) → t ≤ G.n → 0 < rows_in G t
  pub stride-pos : (m : ℕ) → m < G.n → 0 < (G.links m).stride
  pub before-less : (m : ℕ) → m < G.n → (G.links m).before < (G.links m).kernel
  -- no window starts past the input's last row
  pub starts : (m i : ℕ) → m < G.n → i < rows_in G (suc m) → i * (G.links m).stride < rows_in G m + (G.links m).before

-- row i of layer m looks at row r of tensor t
abbrev pub Looks : Chain → ℕ → ℕ → ℕ → ℕ → Type 0
Looks G m i t r = ((t ≡ m) ⊎ (t ≡ (G.links m).other)) × Sees (G.links m) i r

-- the smallest band covering what the two inputs' bands reach
abbrev pub reach_both : Chain → ℕ → Bands → Band
reach_both G m B = cover (reached_band (B m) (G.links m)) (reached_band (B (G.links m).other) (G.links m))

module _ (Row Net Par Zp : Type 0) (G : Chain) (par : Net → ℕ → Par) (zp : Net → ℕ → Zp) (row_of : Net → ℕ → (ℕ → ℕ → Row) → ℕ → Row) where
  abbrev pub windowed : Model Row
  windowed = record {
    Net = Net;
    Par = Par;
    Zp = Zp;
    n = G.n;
    rows = rows_in G;
    other = λ m. (G.links m).other;
    Reads = Looks G;
    reach = reach_both G;
    par = par;
    zp = zp;
    row_of = row_of;
  }

  -- what is left to prove of the kinds of layer
  pub record Local : Type 0 where
    pub row_local : (N N' : Net) (S S' : ℕ → ℕ → Row) (m i : ℕ) → m < G.n → i < rows_in G (suc m)
        → par N m ≡ par N' m → zp N m ≡ zp N' m → zp N (G.links m).other ≡ zp N' (G.links m).other
        → ((t r : ℕ) → Looks G m i t r → r < rows_in G t → S t r ≡ S' t r)
        → row_of N m S i ≡ row_of N' m S' i
    pub zp-local : (N N' : Net) (m : ℕ) → m < G.n
        → par N m ≡ par N' m → zp N m ≡ zp N' m → zp N (G.links m).other ≡ zp N' (G.links m).other
        → zp N (suc m) ≡ zp N' (suc m)

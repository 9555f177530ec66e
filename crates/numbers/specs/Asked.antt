-- What `total` asks of the sums that it is given, and how much a window may hold. No promise of a call rests on it.
-- Assumes nothing.
use Rattle.std.specs.Prelude.{ℕ, ◌*◌, ◌≤◌}
use Rattle.numbers.specs.Limits.{tensor_most}

-- Σqw, Σq and the stored sum T, none above what n bytes can give, for at most as many bytes as a tensor has
pub record TermsFit (qw q t n : ℕ) : Type 0 where
  pub few : n ≤ tensor_most
  pub products : qw ≤ 65025 * n
  pub bytes : q ≤ 255 * n
  pub stored : t ≤ 255 * n

-- the channels of a tensor: a full layer may have as many outputs
abbrev pub channels_most : ℕ
channels_most = 256

-- the bytes of a convolution's window, of 7 × 7 cells
abbrev pub window_most : ℕ
window_most = 12544

-- What the functions here ask of a window, and where a row of one lies in the tensor. No promise of a call rests on it.
-- Assumes nothing.
use Rattle.std.specs.Prelude.{ℕ, ◌+◌, ◌-◌, ◌*◌, ◌≤◌, min, ◌≡◌}
use Rattle.numbers.specs.Limits.{tensor_most}
use Rattle.numbers.specs.Asked.{channels_most}
use Rattle.windows.specs.declared.window.Window.{Window}
use Rattle.windows.specs.declared.window.Strip.{Strip}

-- the bytes of the input tensor, and N, those of a window
abbrev pub size_of : Window → ℕ
size_of w = w.rows * w.columns * w.channels

abbrev pub window_bytes : Window → ℕ
window_bytes w = w.height * w.width * w.channels

-- the bounds of a window's numbers
pub record SmallWindow (w : Window) : Type 0 where
  pub rows : w.rows ≤ tensor_most
  pub columns : w.columns ≤ tensor_most
  pub channels-some : 1 ≤ w.channels
  pub channels : w.channels ≤ channels_most
  pub size : size_of w ≤ tensor_most
  pub height : w.height ≤ 7
  pub width : w.width ≤ 7
  pub top : w.top ≤ w.height
  pub left : w.left ≤ w.width

-- the first column of a window's row, from column q, that is past the tensor, or past the row
abbrev pub stop_of : Window → ℕ → ℕ
stop_of w q = min w.width (w.columns + w.left - q)

-- what a strip is, in bytes
pub record Lies (w : Window) (r q : ℕ) (k : Strip) : Type 0 where
  pub lead : k.lead ≡ (w.left - q) * w.channels
  pub start : k.from ≡ (r * w.columns + (q - w.left)) * w.channels
  pub part : k.to ≡ k.from + (stop_of w q - (w.left - q)) * w.channels
  pub within : k.to ≤ size_of w
  pub tail : k.tail ≡ (w.width - stop_of w q) * w.channels
  pub whole : k.lead + k.to + k.tail ≡ w.width * w.channels + k.from

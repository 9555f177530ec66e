-- What one output place looks at: the bytes of its window, in the order of the weights.
-- Assumes nothing.
use Rattle.std.specs.Prelude.{ℕ, ◌+◌, ◌-◌, ◌*◌, List, Bool, cond, ◌&&◌, replicate, leb, ltb}
use Rattle.lists.specs.Lists.{joined, part}
use Rattle.windows.specs.declared.window.Window.{Window}

-- place p of a padded side of n cells, with k cells of padding first, is a real one
abbrev pub is_real : ℕ → ℕ → ℕ → Bool
is_real k n p = leb k p && ltb (p - k) n

-- the channels at row p, column q of the padded tensor t; a cell outside counts as the zero-point
unfoldable pub cell_of : Window → List ℕ → ℕ → ℕ → List ℕ
cell_of w t p q =
    cond (is_real w.top w.rows p && is_real w.left w.columns q)
    (part t (((p - w.top) * w.columns + (q - w.left)) * w.channels) w.channels)
    (replicate w.channels w.zero)

-- one row of a window, from row p, column q
unfoldable pub strip_of : Window → List ℕ → ℕ → ℕ → List ℕ
strip_of w t p q = joined w.width (λ b. cell_of w t p (q + b))

-- the window from row p, column q, by row, column, channel
unfoldable pub window_of : Window → List ℕ → ℕ → ℕ → List ℕ
window_of w t p q = joined w.height (λ a. strip_of w t (p + a) q)

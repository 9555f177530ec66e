-- The definitions, computed on the paper's network K: a picture of 3 rows, 1 column, 1 channel, zero-point 10, and a 3 by 3
-- kernel with padding 1.
-- Assumes nothing.
use mathlib.Core.Path.{◌≡◌, refl}
use mathlib.Core.List.{List, [], ◌∷◌}
use Prim.Native.Nat.{ℕ}
use Rattle.lists.specs.Lists.{joined}
use Rattle.windows.specs.Window.{cell_of, strip_of, window_of}
use Rattle.windows.specs.declared.window.Window.{Window}

abbrev K : Window
K = record { rows = 3; columns = 1; channels = 1; zero = 10; height = 3; width = 3; top = 1; left = 1 }

abbrev picture : List ℕ
picture = 20 ∷ 30 ∷ 40 ∷ []

-- the cells outside count as the zero-point
pub window_at_the_edge : window_of K picture 0 0 ≡ 10 ∷ 10 ∷ 10 ∷ 10 ∷ 20 ∷ 10 ∷ 10 ∷ 30 ∷ 10 ∷ []
unfolding window_of strip_of cell_of joined
window_at_the_edge = refl

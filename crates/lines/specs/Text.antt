-- Text that grows at the front of a slice.
-- Assumes nothing.
use Rattle.std.specs.Prelude.{◌≡◌, ℕ, ◌+◌, List, length}
use Rattle.lists.specs.Lists.{pasted}
use Rattle.lines.specs.declared.text.Text.{Text}

-- b is a with s after it, in the same slice
pub record Adds (a : Text) (s : List ℕ) (b : Text) : Type 0 where
  pub same : b.out.ghost_name ≡ a.out.ghost_name
  pub room : length b.out.now ≡ length a.out.now
  pub long : b.length ≡ a.length + length s
  pub is : b.out.now ≡ pasted a.out.now a.length s

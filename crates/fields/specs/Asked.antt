-- What the functions here ask of a shape. No promise of a call rests on it.
-- Assumes nothing.
use Rattle.numbers.specs.Limits.{tensor_most}
use Rattle.numbers.specs.Asked.{channels_most}
use Rattle.fields.specs.Shape.{bytes_of}
use Rattle.std.specs.Prelude.{◌≤◌}
use Rattle.fields.specs.declared.shape.Shape.{Shape}

-- small enough that its size can be worked out
pub record SmallShape (s : Shape) : Type 0 where
  pub rows-small : s.rows ≤ 65536
  pub columns-small : s.columns ≤ 65536
  pub channels-small : s.channels ≤ 65536

-- the shape of a tensor that the format takes
pub record GoodShape (s : Shape) : Type 0 where
  pub rows-some : 1 ≤ s.rows
  pub columns-some : 1 ≤ s.columns
  pub channels-some : 1 ≤ s.channels
  pub rows_few : s.rows ≤ tensor_most
  pub columns-few : s.columns ≤ tensor_most
  pub channels-few : s.channels ≤ channels_most
  pub bytes_few : bytes_of s ≤ tensor_most

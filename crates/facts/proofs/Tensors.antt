-- A tensor of its rows: how long it is, which rows it has, and that the rows which stand in an area make the tensor that stands there.
-- Assumes nothing.
use Prim.Native.Nat.{ℕ, suc, ◌+◌, ◌-◌, ◌*◌, ◌≤◌, ◌<◌}
use mathlib.Core.Path.{◌≡◌, refl, sym, ◌∙◌, ap, ap₂}
use mathlib.Core.List.{List, ◌++◌, append_assoc}
use native.Mathlib.Omega.{arith}
use lib.ListN.{length, replicate, length-append, length-take, length-replicate}
use lib.Seq.{take_at, drop_at}
use Rattle.fields.specs.Shape.{bytes_of, row_bytes}
use Rattle.fields.specs.declared.shape.Shape.{Shape}
use Rattle.lists.specs.Lists.{joined, part}
use Rattle.lists.proofs.Pasted.{part_length, joined_length, joined-add, joined-part}
use Rattle.layers.specs.Row.{tensor_at}
use Rattle.layers.proofs.Local.{row_part}
use Rattle.layers.proofs.Rows.{row_in}
use Rattle.facts.proofs.Model.{fitted, tensor_from}

-- piece m of those joined, where it stands
pub piece : (f : ℕ → List ℕ) (n m : ℕ) → m < n → part (joined n f) (length (joined m f)) (length (f m)) ≡ f m
unfolding joined
piece f n m h =
    let rest = joined (n - suc m) (λ b. f (suc m + b)) in
    let e : n ≡ suc m + (n - suc m) = omega arith in
    rw (
      ap (λ (k : ℕ). joined k f) e ∙ joined-add (suc m) (n - suc m) f ∙ append_assoc (joined m f) (f m) rest,
      drop_at (joined m f) (f m ++ rest) (length (joined m f)) refl,
      take_at (f m) rest (length (f m)) refl,
    )

-- part r of parts of one length
joined_row : (m k : ℕ) (f : ℕ → List ℕ) → ((i : ℕ) → length (f i) ≡ k) → (r : ℕ) → r < m → part (joined m f) (r * k) k ≡ f r
joined_row m k f h r g = ap₂ (part (joined m f)) (sym (joined_length r k f h)) (sym (h r)) ∙ piece f m r g

-- a row made to fit has the width
fitted_length : (w : ℕ) (l : List ℕ) → length (fitted w l) ≡ w
fitted_length w l = rw (length-take, length-append, length-replicate) (omega arith)

-- a row of the width is as it was
fitted_same : (w : ℕ) (l : List ℕ) → length l ≡ w → fitted w l ≡ l
fitted_same w l e = take_at l (replicate w 0) w e

module _ (x : Shape) where
  -- the bytes of a tensor are those of its rows
  pub rows-bytes : x.rows * row_bytes x ≡ bytes_of x
  unfolding bytes_of
  rows-bytes = omega arith

  -- a tensor of its rows has the bytes of its shape
  pub tensor-length : (rows : ℕ → List ℕ) → length (tensor_from x rows) ≡ bytes_of x
  tensor-length rows = joined_length x.rows (row_bytes x) _ (λ r. fitted_length (row_bytes x) (rows r)) ∙ rows-bytes

  -- and each row in its place
  pub tensor-row : (rows : ℕ → List ℕ) (r : ℕ) → r < x.rows → row_part (tensor_from x rows) r x ≡ fitted (row_bytes x) (rows r)
  tensor-row rows r h = joined_row x.rows (row_bytes x) (λ i. fitted (row_bytes x) (rows i)) (λ i. fitted_length (row_bytes x) (rows i)) r h

  -- the rows of a tensor that stands in an area make that tensor
  pub tensor-there :
      (area : List ℕ) (at : ℕ) →
      at + bytes_of x ≤ length area →
      tensor_from x (λ r. part area (at + r * row_bytes x) (row_bytes x)) ≡ tensor_at area at x
  tensor-there area at h =
      joined-part x.rows (row_bytes x) at area _
      (λ r g. fitted_same (row_bytes x) _ (part_length area (at + r * row_bytes x) (row_bytes x) (omega (arith, row_in x r g)))) ∙
      ap (part area at) rows-bytes

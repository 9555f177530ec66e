-- `fields::shape::Shape::bytes` meets its contract: the product of small numbers fits.
use Prim.Native.Nat.{ℕ, ◌*◌, ◌≤◌}
use borrow.Author.Rules.{rules}
use native.Mathlib.Omega.{arith}
use Rattle.fields.specs.Shape.{bytes_of}
use Rattle.fields.proofs.Shapes.{mul_most}
use Rattle.fields.proofs.shape.Shape.bytes.Goals as goal

face : (a b : ℕ) → a ≤ 65536 → b ≤ 65536 → a * b ≤ 65536 * 65536
face a b p q = mul_most a b 65536 65536 p q

pub overflow_mul-result : goal.overflow_mul-result
overflow_mul-result c = omega (arith, face c.args.self.rows c.args.self.columns (omega arith) (omega arith))

pub overflow_mul-result-2 : goal.overflow_mul-result-2
overflow_mul-result-2 c =
    omega (arith, mul_most _ c.args.self.channels (65536 * 65536) 65536 (face c.args.self.rows c.args.self.columns (omega arith) (omega arith)) (omega arith))

pub returns : goal.returns
unfolding bytes_of
returns c = search rules

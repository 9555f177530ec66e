-- `fields::stored::stored_len` meets its contract.
use Prim.Native.Nat.{◌*◌, ◌≤◌}
use native.Mathlib.Omega.{arith}
use Rattle.fields.specs.Stored.{stored_len}
use Rattle.fields.proofs.Shapes.{mul_most}
use borrow.Author.Rules.{rules}
use Rattle.fields.proofs.stored.stored_len.Goals as goal

most : (c : goal.Start) → c.args.n * c.args.w ≤ 65535 * 16777216
most c = mul_most c.args.n c.args.w 65535 16777216 (omega arith) (omega arith)

pub overflow_mul-result-2 : goal.overflow_mul-result-2
overflow_mul-result-2 c = omega (arith, most c)

pub overflow_add-result : goal.overflow_add-result
overflow_add-result c = omega (arith, most c)

pub returns : goal.returns
unfolding stored_len
returns c = (search rules, omega (arith, most c))

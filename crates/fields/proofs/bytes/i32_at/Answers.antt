-- `fields::bytes::i32_at` meets its contract.
use Rattle.std.proofs.Common.{◌^◌, ◌<◌, ◌∙◌, ap, arith}
use Rattle.std.proofs.lemmas.Int.{of_z-to_z}
use mir.Syntax.{w32}
use mir.Val.{to_z}
use Rattle.fields.specs.Bytes.{signed}
use Rattle.fields.proofs.Signed.{signed_bits}
use Rattle.fields.proofs.bytes.i32_at.Goals as goal

pub returns : goal.returns
returns c =
    let fits : c.u32_at.result < 2 ^ 32 = omega arith in
    rw c.cast_signed.ensures (ap (to_z w32) (of_z-to_z w32 c.u32_at.result fits) ∙ signed_bits c.u32_at.result fits ∙ ap signed c.u32_at.ensures)

-- `records::frame::Frame::output` meets its contract.
use Prim.Native.Nat.{◌+◌, ◌-◌, ◌*◌}
use mathlib.Core.Path.{◌≡◌, subst⁻¹}
use native.Mathlib.Omega.{arith}
use native.Mathlib.Nat.{div-le_self}
use Rattle.fields.specs.Asked.{SmallShape}
use Rattle.fields.specs.declared.shape.Shape.{Shape}
use Rattle.records.specs.Frame.{frame_output}
use Rattle.records.proofs.Frames.{frame_small}
use Rattle.records.proofs.frame.Frame.output.Goals as goal

pub overflow_add-result : goal.overflow_add-result
overflow_add-result c =
    let rows = c.strides_in.ensures in
    omega (arith, div-le_self (c.args.input.rows + 2 * c.args.self.padding - c.args.self.height) c.args.self.stride)

pub overflow_add-result-2 : goal.overflow_add-result-2
overflow_add-result-2 c =
    let columns = c.strides_in-2.ensures in
    omega (arith, div-le_self (c.args.input.columns + 2 * c.args.self.padding - c.args.self.width) c.args.self.stride)

-- the shape that the code makes of the strides in both sides
shape_is :
    (c : goal.After-from-3) →
    ◌≡◌ {A = Shape}
    record { rows = c.strides_in.result + 1; columns = c.strides_in-2.result + 1; channels = c.from-3.result }
    (frame_output c.args.self c.args.input c.args.channels)
unfolding frame_output
shape_is c =
    rw (c.strides_in.ensures, c.strides_in-2.ensures, c.from-twice.ensures, c.from-stride.ensures, c.from.ensures, c.from-2.ensures, c.from-3.ensures)

pub returns : goal.returns
returns c =
    let small = frame_small c.args.self c.args.input c.args.channels c.requires.frame_ok c.requires.good_shape (omega arith) in
    (shape_is c, subst⁻¹ SmallShape (shape_is c) small)

use mathlib.Core.Path.{◌≡◌, refl, sym, ap, ◌∙◌}
use Prim.Native.Nat.{◌+◌, ◌*◌, ◌≤◌}
use native.Mathlib.Omega.{arith}
use Rattle.fields.specs.Shape.{bytes_of}
use Rattle.lists.proofs.Pasted.{apart_within}
use Rattle.layers.specs.declared.outputs.Outputs.{Outputs}
use Rattle.layers.proofs.Convs.{plain_rows, plain-columns, plain_ready, plain_turn, plain_done}
use Rattle.lists.proofs.Laid.{room, laid_none, laid_done}
use Rattle.layers.proofs.Rows.{filters_are}
use Rattle.layers.proofs.conv.plain_row.Goals.{Start, After-row_start-at}
use Rattle.layers.proofs.conv.plain_row.Goals as goal

-- the output has the input's columns
columns : (c : Start) → c.args.y.output.columns ≡ c.args.y.input.columns
columns c =
    let h = c.requires.ready in
    let p = c.requires.plain in
    plain-columns c.args.y c.args.c h.ready h.placed.input p.1 p.2

-- the windows of the row stand in the input
inside :
    (c : After-row_start-at) →
    c.row_start-start.result + c.args.y.output.columns * c.args.y.input.channels ≤ c.args.source.from + bytes_of c.args.y.input
inside c = rw (columns (goal.at.After-row_start-at c).Start) c.row_start-start.ensures.within

-- the places of the row stand in the output
outside :
    (c : After-row_start-at) →
    c.row_start-at.result + c.args.y.output.columns * c.conv_outputs-o.result.count ≤ c.args.y.place + bytes_of c.args.y.output
outside c =
    let y = c.args.y in
    let filters : c.conv_outputs-o.result.count ≡ y.output.channels =
    ap (λ (o : Outputs). o.count) c.conv_outputs-o.ensures ∙ sym (filters_are y c.args.c c.requires.ready.ready) in
    rw filters c.row_start-at.ensures.within

pub loop-j-init : goal.loop-j-init
loop-j-init c = laid_none _ _ _ _

pub row_start-start-requires-clause-row : goal.row_start-start-requires-clause-row
row_start-start-requires-clause-row c =
    let h = c.requires.ready in
    let p = c.requires.plain in
    rw (plain_rows c.args.y c.args.c h.ready h.placed.input p.0 p.2) at h.row

pub put_within-requires : goal.put_within-requires
put_within-requires c =
    let at = (goal.at.put_within-requires c).After-row_start-at in
    let a = c.args in
    let y = a.y in
    let p = c.requires.ready.placed in
    let j = c.loop-j.j in
    let window = room j y.output.columns y.input.channels c.row_start-start.result refl c.loop-j-test.true (inside at) in
    let place = room j y.output.columns c.conv_outputs-o.result.count c.row_start-at.result refl c.loop-j-test.true (outside at) in
    record {
      ready = plain_ready y a.c c.requires.ready.ready a.source.zero c.requires.plain.0 c.requires.plain.1 c.conv_outputs-o.ensures;
      apart = apart_within (bytes_of y.input) (bytes_of y.output) _ _ p.apart (omega arith) place (omega arith) window;
      window = omega (arith, p.input-in, window, c.loop-j.invariant.same);
      room = omega (arith, p.within, place, c.loop-j.invariant.same);
    }

pub loop-j-preserved : goal.loop-j-preserved
loop-j-preserved c =
    let at = (goal.at.loop-j-preserved c).After-row_start-at in
    let a = c.args in
    let y = a.y in
    let p = c.requires.ready.placed in
    plain_turn c.conv_outputs-o.result a.stored.file.now a.stored.sums.now a.area.now y.output.columns y.input.channels
    c.row_start-start.result c.row_start-at.result c.loop-j.j
    (apart_within (bytes_of y.input) (bytes_of y.output) _ _ p.apart (omega arith) (outside at) (omega arith) (inside at))
    (omega (arith, p.within, outside at)) c.loop-j-test.true c.loop-j.invariant c.put_within.ensures c.put_within.auto.area

pub returns : goal.returns
returns c =
    let a = c.args in
    let h = c.requires.ready in
    plain_done a.y a.c a.source.zero a.stored.file.now a.stored.sums.now a.area.now a.source.from a.i
    h.ready h.placed.input h.row c.requires.plain c.conv_outputs-o.ensures
    c.row_start-start.ensures.value c.row_start-at.ensures.value (laid_done _ _ _ _ c.loop-j.invariant (omega arith))

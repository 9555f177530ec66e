use mathlib.Core.Path.{◌≡◌, refl, sym, ap, ◌∙◌}
use Prim.Native.Nat.{◌+◌, ◌*◌, ◌≤◌}
use native.Mathlib.Omega.{arith}
use Rattle.fields.specs.Shape.{bytes_of}
use Rattle.windows.specs.Asked.{size_of}
use Rattle.lists.proofs.Pasted.{apart_within}
use Rattle.layers.specs.declared.outputs.Outputs.{Outputs}
use Rattle.layers.proofs.Convs.{size_is, place-ready, place_turn, conv-done}
use Rattle.lists.proofs.Laid.{room, laid_none, laid_done}
use Rattle.layers.proofs.Rows.{filters_are}
use Rattle.layers.proofs.conv.gathered_row.Goals.{After-row_start-at}
use Rattle.layers.proofs.conv.gathered_row.Goals as goal

-- the places of the row stand in the output
inside :
    (c : After-row_start-at) →
    c.row_start-at.result + c.args.y.output.columns * c.conv_outputs-o.result.count ≤ c.args.y.place + bytes_of c.args.y.output
inside c =
    let y = c.args.y in
    let filters : c.conv_outputs-o.result.count ≡ y.output.channels =
    ap (λ (o : Outputs). o.count) c.conv_outputs-o.ensures ∙ sym (filters_are y c.args.c c.requires.ready.ready) in
    rw filters c.row_start-at.ensures.within

pub loop-j-init : goal.loop-j-init
loop-j-init c = record { laid = laid_none _ _ _ _; patch = omega arith }

pub conv_place-requires : goal.conv_place-requires
conv_place-requires c =
    let v = c.loop-j.invariant in
    let a = c.args in
    let h = c.requires.ready in
    let p = h.placed in
    let next =
    room c.loop-j.j a.y.output.columns c.conv_outputs-o.result.count c.row_start-at.result refl c.loop-j-test.true
    (inside (goal.at.conv_place-requires c).After-row_start-at) in
    let r =
    place-ready a.y a.c h.ready p.input a.source.zero a.i c.loop-j.j a.source.from _
    c.window_for-w.ensures c.conv_outputs-o.ensures h.row c.loop-j-test.true
    (omega (arith, p.input-in, v.laid.same)) (omega (arith, p.within, next, v.laid.same)) (omega (arith, v.patch, c.requires.patch_room)) in
    rw c.from-stride.ensures (record { small = r.0; ready = r.1; tensor = r.2; room = r.3; column = r.4; row = r.5; patch_room = r.6 })

pub loop-j-preserved : goal.loop-j-preserved
loop-j-preserved c =
    let in_output = inside (goal.at.loop-j-preserved c).After-row_start-at in
    let v = c.loop-j.invariant in
    let w = c.window_for-w in
    let o = c.conv_outputs-o in
    let a = c.args in
    let y = a.y in
    let p = c.requires.ready.placed in
    let to = c.row_start-at in
    let place = c.conv_place in
    let tensor : size_of w.result ≡ bytes_of y.input = size_is y a.c a.source.zero w.ensures in record {
      laid =
          place_turn w.result o.result a.stored.file.now a.stored.sums.now a.area.now y.output.columns a.source.from to.result
          (a.i * c.from-stride.result) c.from-stride.result c.loop-j.j
          (apart_within (bytes_of y.input) (bytes_of y.output) _ _ p.apart (omega arith) in_output (omega arith) (omega arith))
          (omega (arith, p.within, in_output)) c.loop-j-test.true v.laid place.ensures place.auto.area;
      patch = place.auto.patch ∙ v.patch;
    }

pub shape_of-area : goal.shape_of-area
shape_of-area c = c.loop-j.invariant.laid.same

pub shape_of-patch : goal.shape_of-patch
shape_of-patch c = c.loop-j.invariant.patch

pub returns : goal.returns
returns c =
    let a = c.args in
    let laid = rw c.from-stride.ensures at c.loop-j.invariant.laid in
    conv-done a.y a.c a.source.zero a.stored.file.now a.stored.sums.now a.area.now a.source.from a.i
    c.window_for-w.ensures c.conv_outputs-o.ensures c.row_start-at.ensures.value (laid_done _ _ _ _ laid (omega arith))

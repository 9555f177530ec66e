use native.Mathlib.Omega.{arith}
use Rattle.network.proofs.Bounds.{terms-few}
use Rattle.checks.proofs.Rows.{input-good}
use Rattle.updates.proofs.Fills.{fill_none, fill-turn, weights-in}
use Rattle.updates.proofs.fill.fill_sums.Goals as goal

pub loop-m-init : goal.loop-m-init
loop-m-init c = fill_none _ _ _

pub put_sums-requires : goal.put_sums-requires
put_sums-requires c =
    let t = c.requires.taken in
    let h = c.loop-m-test.true in
    let n = c.args.n.now in
    let m = c.loop-m.m in
    let file = c.args.file.now in
    rw c.layer.ensures (record {
      shape = input-good file n t m h;
      weights = weights-in file n t m h;
      file_few = t.file-few;
      terms_few = terms-few file n t m h;
      room = omega (arith, (t.layers m h).sums-end, c.requires.store_in_bounds, c.loop-m.invariant.same);
    })

pub loop-m-preserved : goal.loop-m-preserved
loop-m-preserved c =
    fill-turn c.args.n.now c.args.file.now c.args.sums.now c.loop-m.m c.layer.result c.requires.taken c.loop-m-test.true c.loop-m.invariant c.layer.ensures
    c.put_sums.ensures c.put_sums.auto.sums

use mathlib.Core.Path.{◌≡◌, refl, ◌∙◌}
use Prim.Native.Nat.{◌-◌}
use native.Mathlib.Omega.{arith}
use Rattle.lists.proofs.Laid.{laid_none}
use Rattle.layers.proofs.Rows.{rows-turn}
use Rattle.layers.proofs.row.put_rows.Goals as goal

pub loop-i-init : goal.loop-i-init
loop-i-init c =
    let none : c.args.rows.start - c.args.rows.start ≡ 0 = omega arith in
    rw c.into_iter-i-iterator.ensures.into_iter_gives (record { begun = omega arith; until = refl; laid = rw none (laid_none _ _ _ _); patch = omega arith })

pub loop-i-preserved : goal.loop-i-preserved
loop-i-preserved c =
    let v = c.loop-i.invariant in
    let a = c.args in
    let put = c.put_row in
    let (until, (more, here, next)) = c.in-Some.ensures.steps in
    let i = c.loop-i.i-iterator.start in
    rw next (record {
      begun = omega arith;
      until = until ∙ v.until;
      laid =
          rows-turn a.y a.first.zero a.second.zero a.stored.file.now a.stored.sums.now a.first.from a.second.from a.area.now
          a.rows.start a.rows.end i c.requires.ready v.begun (omega arith) c.requires.rows v.laid (rw here at put.ensures) put.auto.area;
      patch = put.auto.patch ∙ v.patch;
    })

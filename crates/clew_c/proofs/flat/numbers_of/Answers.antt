use Rattle.lists.proofs.Laid.{laid_none}
use Rattle.clew_c.proofs.Flats.{written_more, written_all}
use Rattle.clew_c.proofs.flat.numbers_of.Goals as goal

pub loop-t-init : goal.loop-t-init
loop-t-init c = laid_none _ _ _ _

pub loop-t-preserved : goal.loop-t-preserved
loop-t-preserved c =
    written_more c.args.s c.loop-t.numbers c.loop-t.t c.loop-t-test.true c.loop-t.invariant

pub returns : goal.returns
returns c = written_all c.args.s c.loop-t.invariant c.loop-t-test.false

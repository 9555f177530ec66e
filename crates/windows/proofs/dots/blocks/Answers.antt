use Rattle.std.proofs.Common.{arith, ◌≡◌, ◌+◌}
use Rattle.std.proofs.lemmas.Slice.Zip.{either_empty_from_Zip}
use Rattle.numbers.specs.Total.{dot}
use Rattle.windows.proofs.Steps.{dots_of, dots_step, dots_end}
use Rattle.windows.proofs.dots.blocks.Goals as goal

-- this turn's blocks and those to come
turn : (g : _) (c : goal.After-block-sum g) →
    dots_of c.loop-x.x-iterator.a.rest.now c.loop-x.x-iterator.b.rest.now ≡
    dot c.in-Some.x.now c.in-Some.y.now + dots_of c.next.new.self.a.rest.now c.next.new.self.b.rest.now
turn g c = dots_step c.in-Some.ensures.steps.0 c.in-Some.ensures.steps.1

pub overflow_add-sum : goal.overflow_add-sum
overflow_add-sum g c = record { fits = omega (arith, turn g c, c.requires.fits, c.loop-x.invariant, c.block-sum.ensures.value) }

pub loop-x-preserved : goal.loop-x-preserved
loop-x-preserved g c = omega (arith, turn g c, c.loop-x.invariant, c.block-sum.ensures.value)

pub returns : goal.returns
returns g c = omega (arith, c.loop-x.invariant, dots_end _ _ (either_empty_from_Zip c.loop-x.x-iterator c.next.new.self c.next.result c.in-None.is c.next.ensures.steps))

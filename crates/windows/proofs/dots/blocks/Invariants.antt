-- `windows::dots::blocks` meets its contract. The loop's invariant: the sum so far and that of the blocks to come make the whole.
use Rattle.std.proofs.Common.{◌≡◌, ◌+◌}
use Rattle.windows.proofs.Steps.{dots_of}
use Rattle.windows.proofs.dots.blocks.Given as goal

abbrev pub invariant-loop-x : goal.invariant-loop-x
invariant-loop-x g l = l.sum + dots_of l.x-iterator.a.rest.now l.x-iterator.b.rest.now ≡ dots_of l.q l.w

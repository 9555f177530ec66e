-- `windows::dots::byte_total` meets its contract. The loop's invariant: the sum so far and Σq of the rest make the whole,
-- and it is at most 255 for each byte passed.
use Rattle.std.proofs.Common.{◌≡◌, ◌+◌, ◌*◌, ◌≤◌, drop}
use Rattle.numbers.specs.Total.{sum}
use Rattle.windows.proofs.dots.byte_total.Given as goal

abbrev pub invariant-loop-x : goal.invariant-loop-x
invariant-loop-x l = (l.sum + sum (drop l.x-index l.q) ≡ sum l.q) × (l.sum ≤ 255 * l.x-index)

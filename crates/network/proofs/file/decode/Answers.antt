-- `network::file::decode` meets its contract.
use Rattle.std.proofs.Common.{arith, rules, sym}
use Rattle.std.proofs.lemmas.Result.{err_from_is_err_and}
use Rattle.network.proofs.Marked.{found-grown}
use Rattle.network.proofs.Layers.{going_starts, going_turns, going_next, going_refuses, end_refuses, going_taken, head_refuses, too_long, short}
use Rattle.network.proofs.file.decode.Goals as goal

pub returns-in_err-unless : goal.returns-in_err-unless
returns-in_err-unless c = grind (arith, too_long)

pub returns-in_err-network : goal.returns-in_err-network
returns-in_err-network c = grind (arith, short, head_refuses)

pub loop-made-init : goal.loop-made-init
loop-made-init c = going_starts _ _ c.in_ok-network.ensures

pub returns-in_err-layer : goal.returns-in_err-layer
returns-in_err-layer c = grind (arith, short, going_refuses)

pub push-requires-clause-layer : goal.push-requires-clause-layer
push-requires-clause-layer c =
    let r = going_next _ _ _ _ _ c.loop-made-test.true c.loop-made.invariant in
    let t = found-grown _ _ _ _ r.at_in r.last-good _ _ c.in_ok-layer.ensures in
    search rules

pub loop-made-preserved : goal.loop-made-preserved
loop-made-preserved c = rw c.push.ensures (going_turns _ _ _ _ _ _ _ c.loop-made-test.true c.in_ok-layer.ensures c.loop-made.invariant)

pub returns-in_err-end_fault : goal.returns-in_err-end_fault
returns-in_err-end_fault c =
    let p = err_from_is_err_and c.from_residual-in_err-end_fault.result c.from_residual-in_err-end_fault.ensures.1 in
    rw (p.1, p.2) (sym (end_refuses _ _ _ _ _ _ (short _ c.in_ok-unless.ensures) c.loop-made-test.false c.in_err-end_fault.ensures c.loop-made.invariant))

pub returns : goal.returns
returns c = sym (going_taken _ _ _ _ _ (short _ c.in_ok-unless.ensures) c.loop-made-test.false c.in_ok-end_fault.ensures c.loop-made.invariant)

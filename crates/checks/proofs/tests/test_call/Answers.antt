-- `checks::tests::test_call` meets its contract.
use Rattle.std.proofs.Common.{sym}
use Rattle.checks.proofs.Passed.{load_passed}
use Rattle.checks.proofs.Rows.{decoded_rows}
use Rattle.checks.proofs.tests.test_call.Goals as goal

pub tensors_of-requires : goal.tensors_of-requires
tensors_of-requires c = rw c.in_ok-network.ensures.network (decoded_rows c.args.file.now)

pub sums_fault-requires : goal.sums_fault-requires
sums_fault-requires c =
    let p = load_passed _ _ _ (sym c.in_ok-network.ensures.fault) in
    rw c.in_ok-network.ensures.network (record { taken = p.taken; store_in_bounds = p.store_in })

-- `fields::stored::bias_faults` meets its contract.
use Rattle.std.proofs.Common.{arith}
use Rattle.fields.proofs.Biases.{bias_rest}
use Rattle.fields.proofs.Refusals.{first_number, first_passed}
use Rattle.fields.specs.Stored.{bias_faults}
use Rattle.fields.proofs.stored.bias_faults.Goals as goal

pub returns-in_err-bias_fault : goal.returns-in_err-bias_fault
returns-in_err-bias_fault c = grind (arith, first_number, bias_rest)

pub loop-f-preserved : goal.loop-f-preserved
loop-f-preserved c = grind (arith, first_passed, bias_rest)

pub returns : goal.returns
unfolding bias_faults
returns c = grind arith

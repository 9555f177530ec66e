-- `checks::tests::sums_fault` meets its contract. The loop's invariant: the sums of the layers so far are within their bounds.
use Rattle.std.proofs.Common.{◌≡◌, true}
use Rattle.lists.specs.Choice.{every}
use Rattle.network.specs.Network.{layer_of}
use Rattle.checks.specs.Tests.{layer_sums_fit}
use Rattle.checks.proofs.tests.sums_fault.Given as goal

abbrev pub invariant-loop-m : goal.invariant-loop-m
invariant-loop-m l = every l.m (λ k. layer_sums_fit (layer_of l.n k) l.sums) ≡ true

-- `checks::tensors::tensors_of` meets its contract.
use Rattle.std.proofs.Common.{rules, tests, ap}
use Rattle.network.specs.Network.{tensor_of}
use Rattle.lists.proofs.Made.{made_joined}
use Rattle.checks.proofs.tensors.tensors_of.Goals as goal

pub returns : goal.returns
returns c =
    ap (λ l. record { count = c.args.n.now.count; rows = l })
    (made_joined (λ t. (tensor_of c.args.n.now t).rows) 0 (λ i y q k. search (rules, tests)) c.from_fn.ensures.items)

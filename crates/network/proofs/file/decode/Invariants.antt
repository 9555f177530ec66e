-- `network::file::decode` meets its contract. The loop's invariant: the layers that are left, read from here, give what all of them give from the head.
use Rattle.network.proofs.Layers.{Going}
use Rattle.network.proofs.file.decode.Given as goal

abbrev pub invariant-loop-made : goal.invariant-loop-made
invariant-loop-made l = Going l.file l.initial.network.count l.made l.at l.network

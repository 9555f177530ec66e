-- What the code's readers of the head and of the file answer, as the definitions have it. No promise of a call rests on it.
-- Assumes nothing.
use Rattle.std.specs.Prelude.{Result, Ok, Err}
use Rattle.refusals.specs.Refusal.{refusal_number}
use Rattle.refusals.specs.declared.refusal.Refusal.{Refusal}
use Rattle.network.specs.Network.{blank_shape, empty_network}
use Rattle.network.specs.Decode.{Progress, Decoded, stopped}
use Rattle.network.specs.declared.net.Network.{Network}

-- the network that the head begins, or the refusal
abbrev pub started_as : Result Network Refusal → Progress
started_as (Ok n) = record { fault = 0; at = 10; made = 0; network = n }
started_as (Err refusal) = stopped (refusal_number refusal)

-- the network, or the refusal and a network of no layer
abbrev pub decoded_to : Result Network Refusal → Decoded
decoded_to (Ok n) = record { fault = 0; network = n }
decoded_to (Err refusal) = record { fault = refusal_number refusal; network = empty_network blank_shape 0 0 0 }

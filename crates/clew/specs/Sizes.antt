-- The sizes of a network: what the other calls need of their buffers.
-- Assumes nothing.
use Rattle.std.specs.Prelude.{ℕ, zero, suc, List}
use Rattle.fields.specs.Shape.{bytes_of}
use Rattle.network.specs.Network.{tensor_of}
use Rattle.network.specs.Decode.{decode_of}
use Rattle.network.specs.declared.net.Network.{Network}
use Rattle.clew.specs.declared.outcome.Sizes.{Sizes}

-- the bytes of the picture, the sums stored, the bytes of all tensors, the bytes of the last one; all 0 where the file is refused
abbrev pub sizes_by : ℕ → Network → Sizes
sizes_by zero n = record { number = 0; picture = bytes_of n.picture; sums = n.store; area = n.area; reading = bytes_of (tensor_of n n.count) }
sizes_by (suc fault) n = record { number = suc fault; picture = 0; sums = 0; area = 0; reading = 0 }

-- tests 1 to 3
unfoldable pub sizes_of : List ℕ → Sizes
sizes_of file = sizes_by (decode_of file).fault (decode_of file).network

-- A network: tensor 0 is the picture; layer m, counted from 0, reads tensor m and makes tensor m + 1.
-- Assumes nothing.
use Rattle.std.specs.Prelude.{ℕ, zero, suc, ◌+◌, get_or, set, replicate}
use Rattle.fields.specs.Shape.{bytes_of}
use Rattle.fields.specs.declared.shape.Shape.{Shape}
use Rattle.records.specs.Layer.{sums_of}
use Rattle.records.specs.Conv.{blank_conv}
use Rattle.records.specs.declared.mark.Mark.TheVariants.{CV}
use Rattle.records.specs.declared.layer.Kind.{Kind}
use Rattle.records.specs.declared.layer.Kind.TheVariants.{Conv, Full, Add}
use Rattle.records.specs.declared.layer.Layer.{Layer}
use Rattle.network.specs.declared.net.Network.{Network}

abbrev pub blank_shape : Shape
blank_shape = record { rows = 0; columns = 0; channels = 0 }

-- zero throughout, and of the first mark and kind: what a list of layers has past its end
abbrev pub blank_layer : Layer
blank_layer = record { mark = CV; kind = Conv blank_conv; input = blank_shape; output = blank_shape; start = 0; place = 0; sums = 0 }

-- a network of no layer yet
abbrev pub empty_network : Shape → ℕ → ℕ → ℕ → Network
empty_network picture z count area = record { picture = picture; zero = z; count = count; layers = replicate 16 blank_layer; area = area; store = 0 }

-- with one layer more, after so many
abbrev pub with_layer : Network → ℕ → Layer → Network
with_layer n made l = record {
  picture = n.picture;
  zero = n.zero;
  count = n.count;
  layers = set n.layers made l;
  area = n.area + bytes_of l.output;
  store = n.store + sums_of l.kind;
}

abbrev pub layer_of : Network → ℕ → Layer
layer_of n m = get_or n.layers m blank_layer

-- the shape of tensor t
abbrev pub tensor_of : Network → ℕ → Shape
tensor_of n zero = n.picture
tensor_of n (suc m) = (layer_of n m).output

-- where tensor t begins in the work area
abbrev pub place_of : Network → ℕ → ℕ
place_of n zero = 0
place_of n (suc m) = (layer_of n m).place

-- the zero-point of what a layer makes, of its kind and its input's zero-point
abbrev pub zero_by : Kind → ℕ → ℕ
zero_by (Conv c) z = c.weighing.zero
zero_by (Full f) z = f.weighing.zero
zero_by (Add a) z = a.zero

-- a tensor's own zero-point: the head's, or that of the layer which makes it
abbrev pub zero_of : Network → ℕ → ℕ
zero_of n zero = n.zero
zero_of n (suc m) = zero_by (layer_of n m).kind (zero_of n m)

-- What is known of the network of a file that is taken: what the crates above rest on. No promise of a call rests on it.
-- Assumes nothing.
use Rattle.std.specs.Prelude.{ℕ, suc, ◌+◌, ◌-◌, ◌*◌, ◌≤◌, ◌<◌, ◌^◌, ◌≡◌, List, nat_abs, length}
use Rattle.numbers.specs.Limits.{file_most, area_most}
use Rattle.fields.specs.Bytes.{byte_at, i32_at}
use Rattle.fields.specs.Shape.{bytes_of}
use Rattle.fields.specs.Asked.{GoodShape}
use Rattle.records.specs.Layer.{sums_of, output_shape, other_of, biases_at, record_len}
use Rattle.records.specs.Asked.{KindOk, KindFits}
use Rattle.records.specs.Reader.{kind_at}
use Rattle.records.specs.declared.layer.Layer.{Layer}
use Rattle.network.specs.Network.{layer_of, tensor_of, place_of}
use Rattle.network.specs.declared.net.Network.{Network}

-- its parameters: read from its record, in their ranges, and suited by its inputs, of which the other is there and of the same shape
pub record KindTaken (s : List ℕ) (n : Network) (m : ℕ) (y : Layer) : Type 0 where
  pub read : y.kind ≡ kind_at y.mark s y.start
  pub ok : KindOk y.kind
  pub fits : KindFits y.kind y.input
  pub output : y.output ≡ output_shape y.kind y.input
  pub other-there : other_of y.kind m ≤ m
  pub other_shape_lem : tensor_of n (other_of y.kind m) ≡ y.input

-- layer m, of the network n that the file s holds
pub record LayerTaken (s : List ℕ) (n : Network) (m : ℕ) (y : Layer) : Type 0 where
  pub input : y.input ≡ tensor_of n m
  pub kind : KindTaken s n m y
  pub record-in : y.start + record_len y ≤ length s
  pub biases : (f : ℕ) → f < sums_of y.kind → nat_abs (i32_at s (biases_at y + 4 * f)) ≤ 2 ^ 30
  -- the tensors, and the sums, stand one after another
  pub place : y.place ≡ place_of n m + bytes_of (tensor_of n m)
  pub place_end : y.place + bytes_of y.output ≤ n.area
  pub sums-end : y.sums + sums_of y.kind ≤ n.store

-- the layers of a network after each other
pub record Taken (s : List ℕ) (n : Network) : Type 0 where
  pub file-few : length s ≤ file_most
  pub count-some : 1 ≤ n.count
  pub count-few : n.count ≤ 16
  pub sixteen : length n.layers ≡ 16
  pub zero_is : n.zero ≡ byte_at s 7
  -- within the ranges of the head
  pub picture-rows : n.picture.rows ≤ 256
  pub picture-columns : n.picture.columns ≤ 256
  pub picture-channels : n.picture.channels ≤ 64
  pub shapes : (t : ℕ) → t ≤ n.count → GoodShape (tensor_of n t)
  pub layers : (m : ℕ) → m < n.count → LayerTaken s n m (layer_of n m)
  pub first-start : (layer_of n 0).start ≡ 10
  pub next_start : (m : ℕ) → suc m < n.count → (layer_of n (suc m)).start ≡ (layer_of n m).start + record_len (layer_of n m)
  pub last_end : (layer_of n (n.count - 1)).start + record_len (layer_of n (n.count - 1)) ≡ length s
  pub first-sums : (layer_of n 0).sums ≡ 0
  pub next-sums : (m : ℕ) → suc m < n.count → (layer_of n (suc m)).sums ≡ (layer_of n m).sums + sums_of (layer_of n m).kind
  pub store-end : n.store ≡ (layer_of n (n.count - 1)).sums + sums_of (layer_of n (n.count - 1)).kind
  pub area-end : n.area ≡ place_of n n.count + bytes_of (tensor_of n n.count)
  pub area-few : n.area ≤ area_most
  pub store-few : n.store ≤ file_most

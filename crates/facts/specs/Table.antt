-- The examples P1 to P12 of document 01, as one table of statements about the definitions. proofs/Table.antt proves it by computing.
-- Assumes nothing.
use Rattle.std.specs.Prelude.{ℕ, ◌*◌, ◌^◌, ◌≡◌, List, [], ◌∷◌, ◌++◌, ℤ, pos, neg_ℤ, nat_abs, ◌-ℤ◌, ◌*ℤ◌, take, replicate}
use Rattle.numbers.specs.Total.{total_of, sum}
use Rattle.numbers.specs.Rescale.{rescaled, slack}
use Rattle.records.specs.declared.layer.Layer.{Layer}
use Rattle.records.specs.declared.conv.Conv.{Conv}
use Rattle.records.specs.declared.add.Add.{Add}
use Rattle.records.specs.Conv.{conv_at}
use Rattle.network.specs.Network.{layer_of}
use Rattle.network.specs.Decode.{decode_of}
use Rattle.windows.specs.Window.{window_of}
use Rattle.layers.specs.Outputs.{total_at}
use Rattle.layers.specs.Conv.{window_for, conv_outputs}
use Rattle.layers.specs.Add.{add_byte}
use Rattle.bands.specs.Band.{band, none}
use Rattle.bands.specs.State.{all_stale, all_empty}
use Rattle.bands.specs.declared.state.State.{State}
use Rattle.clew.specs.Calls.{outcome, load_of, change_of, update_of}
use Rattle.clew.specs.declared.outcome.Outcome.{Outcome}

-- the 39 bytes of network K, with its padding, its bias and its weights
abbrev pub net_with : ℕ → List ℕ → List ℕ → List ℕ
net_with padding bias weights =
    0x4E ∷ 0x48 ∷ 3 ∷ 0 ∷ 1 ∷ 0 ∷ 1 ∷ 0x0A ∷ 1 ∷ 0 ∷
    0x43 ∷ 0x56 ∷ 1 ∷ 3 ∷ 3 ∷ 1 ∷ padding ∷ 0 ∷ 0 ∷ 0 ∷ 0xFF ∷ 0 ∷ 0 ∷ 0 ∷ 0 ∷ 0x40 ∷
    (bias ++ weights)

abbrev pub K : List ℕ
K = net_with 1 (0 ∷ 0 ∷ 0 ∷ 0 ∷ []) (replicate 9 1)

-- the bands of K's two tensors, in a state
abbrev pub bands_of : ℕ → ℕ → ℕ → ℕ → State
bands_of f e f' e' = record { bands = band f e ∷ band f' e' ∷ replicate 15 none }

-- the picture 20, 30, 40, and three bytes for what K makes of it
abbrev pub picture_with : ℕ → ℕ → ℕ → ℕ → List ℕ
picture_with first a b c = first ∷ 30 ∷ 40 ∷ a ∷ b ∷ c ∷ []

-- K's total at row i of that picture, with the sum t stored
abbrev pub total_in : ℕ → ℕ → ℤ
total_in t i =
    let y : Layer = layer_of (decode_of K).network 0 in
    let c : Conv = conv_at K 10 in
    total_at (conv_outputs y c 10) K (t ∷ []) (window_of (window_for y.input c.frame 10) (20 ∷ 30 ∷ 40 ∷ []) i 0) 0

-- multipliers all 2^30, shifts 0, 0, 18, output zero-point 5, clamp 0..255
abbrev pub sample_add : Add
sample_add = record {
  other = 0;
  zero = 5;
  low = 0;
  high = 255;
  first = record { multiplier = 2 ^ 30; shift = 0 };
  second = record { multiplier = 2 ^ 30; shift = 0 };
  third = record { multiplier = 2 ^ 30; shift = 18 };
}

-- a load of a file, with room for one sum and 18 bytes
abbrev pub load_with : List ℕ → Outcome × List ℕ
load_with file = load_of file (0 ∷ []) (replicate 18 0)

pub record Table : Type 0 where
  -- K has sum 9
  pub P1 : load_of K (0 ∷ []) (picture_with 20 0 0 0) ≡ (outcome 0 0 (bands_of 0 3 0 3), 9 ∷ [])
  -- picture 20, 30, 40 gives totals 30, 60, 50 and bytes 15, 30, 25
  pub P2-totals : (total_in 9 0 ≡ pos 30) × (total_in 9 1 ≡ pos 60) × (total_in 9 2 ≡ pos 50)
  pub P2 : update_of K (9 ∷ []) (picture_with 20 0 0 0) (bands_of 0 3 0 3) ≡ (outcome 0 3 all_empty, picture_with 20 15 30 25)
  -- then row 0 becomes 22: count 2, bytes 16, 31, 25
  pub P3-change : change_of K (9 ∷ []) (picture_with 20 15 30 25) all_empty 0 1 (22 ∷ []) ≡ (outcome 0 0 (bands_of 0 1 0 0), picture_with 22 15 30 25)
  pub P3 : update_of K (9 ∷ []) (picture_with 22 15 30 25) (bands_of 0 1 0 0) ≡ (outcome 0 2 all_empty, picture_with 22 16 31 25)
  -- the same update with 99 in the third output byte leaves 99
  pub P4 : update_of K (9 ∷ []) (picture_with 22 15 30 99) (bands_of 0 1 0 0) ≡ (outcome 0 2 all_empty, picture_with 22 16 31 99)
  -- stored sum 8, picture as in P2, bands 0,3 for both tensors: an update gives first byte 20
  pub P5 : update_of K (8 ∷ []) (picture_with 20 0 0 0) (bands_of 0 3 0 3) ≡ (outcome 0 3 all_empty, picture_with 20 20 35 30)
  -- sum 2,295 is taken, 2,296 refused with 6
  pub P6-taken : update_of K (2295 ∷ []) (picture_with 20 0 0 0) all_empty ≡ (outcome 0 0 all_empty, picture_with 20 0 0 0)
  pub P6 : update_of K (2296 ∷ []) (picture_with 20 0 0 0) all_empty ≡ (outcome 6 0 all_empty, picture_with 20 0 0 0)
  -- multiplier 2^30, shift 0: totals 3, −3, 1, −1 give 2, −1, 1, 0
  pub P7 : (rescaled (pos 3) (2 ^ 30) 0 ≡ pos 2) × (rescaled (neg_ℤ (pos 3)) (2 ^ 30) 0 ≡ neg_ℤ (pos 1))
      × (rescaled (pos 1) (2 ^ 30) 0 ≡ pos 1) × (rescaled (neg_ℤ (pos 1)) (2 ^ 30) 0 ≡ pos 0)
  -- multiplier 2^30, shift 1: totals 6, −6, 5 give 2, −2, 2. For 5 the exact product is 1.25, and 3/4 is the bound
  pub P8 : (rescaled (pos 6) (2 ^ 30) 1 ≡ pos 2) × (rescaled (neg_ℤ (pos 6)) (2 ^ 30) 1 ≡ neg_ℤ (pos 2)) × (rescaled (pos 5) (2 ^ 30) 1 ≡ pos 2)
      × (2 * nat_abs (pos 2 *ℤ pos (2 ^ 32) -ℤ pos 5 *ℤ pos (2 ^ 30)) ≡ slack 1)
  -- add of 20 and 30, zero-points 10: 35
  pub P9 : add_byte sample_add 10 10 20 30 ≡ 35
  -- 16,384 terms, q and w all 255, Z and V 0, bias 2^30: total 2,139,111,424
  pub P10 : total_of (pos (2 ^ 30)) (replicate 16384 255) (replicate 16384 255) (sum (replicate 16384 255)) 0 0 ≡ pos 2139111424
  -- bias 2^30 + 1: refused with 2
  pub P11 : load_with (net_with 1 (1 ∷ 0 ∷ 0 ∷ 0x40 ∷ []) (replicate 9 1)) ≡ (outcome 2 0 all_stale, 0 ∷ [])
  -- K less its last byte: 1. With padding 2 it is taken; padding 3: 2
  pub P12 : (load_with (take 38 K) ≡ (outcome 1 0 all_stale, 0 ∷ []))
      × (load_with (net_with 2 (0 ∷ 0 ∷ 0 ∷ 0 ∷ []) (replicate 9 1)) ≡ (outcome 0 0 (bands_of 0 3 0 5), 9 ∷ []))
      × (load_with (net_with 3 (0 ∷ 0 ∷ 0 ∷ 0 ∷ []) (replicate 9 1)) ≡ (outcome 2 0 all_stale, 0 ∷ []))

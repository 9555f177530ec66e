-- Two mornings, computed: each goes through a load, updates, readings, a change of the last row and a replacement, so the premises of demand 3's
-- statements are met. The bytes are the second implementation's. proofs/Mornings.antt proves them by computing.
-- Assumes nothing.
use Rattle.std.specs.Prelude.{ℕ, ◌≡◌, List, [], ◌∷◌, ◌++◌, length, take, replicate}
use Rattle.bands.specs.Band.{band, none}
use Rattle.bands.specs.State.{all_empty}
use Rattle.bands.specs.declared.state.State.{State}
use Rattle.clew.specs.Calls.{outcome, load_of, change_of, replace_of, update_of, read_of}
use Rattle.facts.specs.Fresh.{fresh_reading}
use Rattle.facts.specs.History.{Reached}
use Rattle.facts.specs.Table.{K, bands_of, picture_with}

-- an update and a reading: the area and the bands that they begin from, the count and the area of the update, and the bytes read
pub record Stage : Type 0 where
  pub before : List ℕ
  pub bands : State
  pub count : ℕ
  pub after : List ℕ
  pub reading : List ℕ

-- the network and its sums, at first and with a layer replaced; the row that changes, the layer's number and its new record; and the three stages:
-- after the load, after the change and after the replacement
pub record Day : Type 0 where
  pub file : List ℕ
  pub sums : List ℕ
  pub picture : ℕ
  pub loaded : Stage
  pub at : ℕ
  pub row : List ℕ
  pub changed : Stage
  pub layer : ℕ
  pub new : List ℕ
  pub file' : List ℕ
  pub sums' : List ℕ
  pub replaced : Stage

-- the update and the reading of a stage
pub record Worked (file sums : List ℕ) (g : Stage) : Type 0 where
  pub updated : update_of file sums g.before g.bands ≡ (outcome 0 g.count all_empty, g.after)
  pub read : read_of file sums g.after all_empty (replicate (length g.reading) 0) ≡ (outcome 0 0 all_empty, g.reading)

-- the day as it goes, and what the last reading is of
pub record Plays (d : Day) : Type 0 where
  pub load : load_of d.file (replicate (length d.sums) 0) d.loaded.before ≡ (outcome 0 0 d.loaded.bands, d.sums)
  pub first : Worked d.file d.sums d.loaded
  pub change : change_of d.file d.sums d.loaded.after all_empty d.at 1 d.row ≡ (outcome 0 0 d.changed.bands, d.changed.before)
  pub second : Worked d.file d.sums d.changed
  pub replace : replace_of d.file d.sums d.changed.after all_empty d.layer d.new ≡ (outcome 0 0 d.replaced.bands, d.file', d.sums')
  pub third : Worked d.file' d.sums' d.replaced
  pub fresh : fresh_reading d.file' (take d.picture d.replaced.after) ≡ d.replaced.reading
  pub reached : Reached (record { file = d.file'; sums = d.sums'; area = d.replaced.after; state = all_empty })

-- network K; then its layer has other zero-points, scale, bias and weights
abbrev pub day_of_k : Day
day_of_k =
    let new : List ℕ =
    67 ∷ 86 ∷ 1 ∷ 3 ∷ 3 ∷ 1 ∷ 1 ∷ 1 ∷ 2 ∷ 0 ∷ 255 ∷ 1 ∷ 0 ∷ 0 ∷ 0 ∷ 96 ∷ 4 ∷ 0 ∷ 0 ∷ 0 ∷ 1 ∷ 2 ∷ 3 ∷ 4 ∷ 5 ∷ 6 ∷ 7 ∷ 8 ∷ 9 ∷ [] in
    record {
      file = K;
      sums = 9 ∷ [];
      picture = 3;
      loaded = record { before = picture_with 20 0 0 0; bands = bands_of 0 3 0 3; count = 3; after = picture_with 20 15 30 25; reading = 15 ∷ 30 ∷ 25 ∷ [] };
      at = 2;
      row = 50 ∷ [];
      changed = record { before = 20 ∷ 30 ∷ 50 ∷ 15 ∷ 30 ∷ 25 ∷ []; bands = bands_of 2 3 0 0; count = 2; after = 20 ∷ 30 ∷ 50 ∷ 15 ∷ 35 ∷ 30 ∷ []; reading = 15 ∷ 35 ∷ 30 ∷ [] };
      layer = 1;
      new = new;
      file' = take 10 K ++ new;
      sums' = 45 ∷ [];
      replaced = record { before = 20 ∷ 30 ∷ 50 ∷ 15 ∷ 35 ∷ 30 ∷ []; bands = bands_of 0 0 0 3; count = 3; after = 20 ∷ 30 ∷ 50 ∷ 71 ∷ 143 ∷ 71 ∷ []; reading = 71 ∷ 143 ∷ 71 ∷ [] };
    }

-- the bands of tensors 0 to 3, in a state
abbrev pub four_bands : ℕ → ℕ → ℕ → ℕ → ℕ → ℕ → ℕ → ℕ → State
four_bands f e f1 e1 f2 e2 f3 e3 = record { bands = band f e ∷ band f1 e1 ∷ band f2 e2 ∷ band f3 e3 ∷ replicate 13 none }

-- a picture of 4 rows, 7 columns and 2 channels; a convolution with two filters of 2 rows and 3 columns, stride 2, padding 1; one with two filters
-- of 1 × 1, which is replaced; an add of tensors 2 and 1. Tensors 1 to 3 have 3 rows, 4 columns and 2 channels
abbrev pub day_of_two : Day
day_of_two =
    let begin : List ℕ =
    78 ∷ 72 ∷ 4 ∷ 0 ∷ 7 ∷ 0 ∷ 2 ∷ 5 ∷ 3 ∷ 0 ∷ 67 ∷ 86 ∷ 2 ∷ 2 ∷ 3 ∷ 2 ∷ 1 ∷ 3 ∷ 7 ∷ 0 ∷ 255 ∷ 2 ∷ 0 ∷ 0 ∷ 0 ∷ 80 ∷ 100 ∷ 0 ∷ 0 ∷
    0 ∷ 206 ∷ 255 ∷ 255 ∷ 255 ∷ 3 ∷ 10 ∷ 17 ∷ 24 ∷ 0 ∷ 7 ∷ 14 ∷ 21 ∷ 28 ∷ 4 ∷ 11 ∷ 18 ∷ 19 ∷ 26 ∷ 2 ∷ 9 ∷ 16 ∷ 23 ∷ 30 ∷ 6 ∷ 13 ∷ 20 ∷ 27 ∷ 3 ∷ [] in
    let layer : List ℕ = 67 ∷ 86 ∷ 2 ∷ 1 ∷ 1 ∷ 1 ∷ 0 ∷ 2 ∷ 9 ∷ 10 ∷ 240 ∷ 1 ∷ 0 ∷ 0 ∷ 0 ∷ 96 ∷ 0 ∷ 0 ∷ 0 ∷ 0 ∷ 20 ∷ 0 ∷ 0 ∷ 0 ∷ 5 ∷ 1 ∷ 3 ∷ 4 ∷ [] in
    let new : List ℕ = 67 ∷ 86 ∷ 2 ∷ 1 ∷ 1 ∷ 1 ∷ 0 ∷ 1 ∷ 20 ∷ 0 ∷ 250 ∷ 1 ∷ 0 ∷ 0 ∷ 0 ∷ 64 ∷ 253 ∷ 255 ∷ 255 ∷ 255 ∷ 8 ∷ 0 ∷ 0 ∷ 0 ∷ 2 ∷ 6 ∷ 5 ∷ 4 ∷ [] in
    let add : List ℕ = 65 ∷ 68 ∷ 1 ∷ 11 ∷ 0 ∷ 255 ∷ 0 ∷ 0 ∷ 0 ∷ 64 ∷ 0 ∷ 0 ∷ 0 ∷ 96 ∷ 0 ∷ 0 ∷ 0 ∷ 80 ∷ 0 ∷ 1 ∷ 19 ∷ 0 ∷ [] in
    let rows : List ℕ =
    0 ∷ 13 ∷ 3 ∷ 16 ∷ 6 ∷ 19 ∷ 9 ∷ 22 ∷ 12 ∷ 2 ∷ 15 ∷ 5 ∷ 18 ∷ 8 ∷ 3 ∷ 16 ∷ 6 ∷ 19 ∷ 9 ∷ 22 ∷ 12 ∷ 2 ∷ 15 ∷ 5 ∷ 18 ∷ 8 ∷ 21 ∷ 11 ∷ 6 ∷ 19 ∷ 9 ∷ 22 ∷ 12 ∷ 2 ∷ 15 ∷ 5 ∷ 18 ∷ 8 ∷ 21 ∷ 11 ∷ 1 ∷ 14 ∷ [] in
    let last : List ℕ = 9 ∷ 22 ∷ 12 ∷ 2 ∷ 15 ∷ 5 ∷ 18 ∷ 8 ∷ 21 ∷ 11 ∷ 1 ∷ 14 ∷ 4 ∷ 17 ∷ [] in
    let row : List ℕ = 2 ∷ 7 ∷ 12 ∷ 17 ∷ 3 ∷ 8 ∷ 13 ∷ 18 ∷ 4 ∷ 9 ∷ 14 ∷ 0 ∷ 5 ∷ 10 ∷ [] in
    let one : List ℕ =
    28 ∷ 5 ∷ 101 ∷ 50 ∷ 117 ∷ 65 ∷ 91 ∷ 70 ∷ 114 ∷ 109 ∷ 192 ∷ 138 ∷ 140 ∷ 171 ∷ 111 ∷ 134 ∷ 82 ∷ 19 ∷ 37 ∷ 40 ∷ 88 ∷ 66 ∷ 70 ∷ 33 ∷ [] in
    let two : List ℕ =
    34 ∷ 23 ∷ 99 ∷ 84 ∷ 111 ∷ 102 ∷ 80 ∷ 96 ∷ 91 ∷ 133 ∷ 168 ∷ 184 ∷ 97 ∷ 190 ∷ 79 ∷ 151 ∷ 89 ∷ 54 ∷ 31 ∷ 53 ∷ 78 ∷ 91 ∷ 70 ∷ 60 ∷ [] in
    let three : List ℕ =
    36 ∷ 19 ∷ 111 ∷ 78 ∷ 126 ∷ 96 ∷ 95 ∷ 95 ∷ 112 ∷ 136 ∷ 197 ∷ 182 ∷ 128 ∷ 201 ∷ 104 ∷ 159 ∷ 96 ∷ 45 ∷ 39 ∷ 54 ∷ 92 ∷ 90 ∷ 79 ∷ 55 ∷ [] in
    let one' : List ℕ =
    28 ∷ 5 ∷ 101 ∷ 50 ∷ 117 ∷ 65 ∷ 91 ∷ 70 ∷ 114 ∷ 109 ∷ 192 ∷ 138 ∷ 140 ∷ 171 ∷ 111 ∷ 134 ∷ 27 ∷ 53 ∷ 46 ∷ 120 ∷ 41 ∷ 73 ∷ 34 ∷ 9 ∷ [] in
    let two' : List ℕ =
    34 ∷ 23 ∷ 99 ∷ 84 ∷ 111 ∷ 102 ∷ 80 ∷ 96 ∷ 91 ∷ 133 ∷ 168 ∷ 184 ∷ 97 ∷ 190 ∷ 79 ∷ 151 ∷ 15 ∷ 59 ∷ 11 ∷ 116 ∷ 23 ∷ 79 ∷ 39 ∷ 28 ∷ [] in
    let three' : List ℕ =
    36 ∷ 19 ∷ 111 ∷ 78 ∷ 126 ∷ 96 ∷ 95 ∷ 95 ∷ 112 ∷ 136 ∷ 197 ∷ 182 ∷ 128 ∷ 201 ∷ 104 ∷ 159 ∷ 24 ∷ 64 ∷ 31 ∷ 131 ∷ 36 ∷ 86 ∷ 42 ∷ 24 ∷ [] in
    let two'' : List ℕ =
    22 ∷ 42 ∷ 97 ∷ 149 ∷ 120 ∷ 176 ∷ 119 ∷ 154 ∷ 174 ∷ 206 ∷ 230 ∷ 250 ∷ 250 ∷ 250 ∷ 204 ∷ 222 ∷ 82 ∷ 77 ∷ 171 ∷ 146 ∷ 111 ∷ 106 ∷ 29 ∷ 51 ∷ [] in
    let three'' : List ℕ =
    22 ∷ 24 ∷ 103 ∷ 112 ∷ 125 ∷ 136 ∷ 112 ∷ 124 ∷ 157 ∷ 175 ∷ 229 ∷ 216 ∷ 217 ∷ 232 ∷ 175 ∷ 197 ∷ 59 ∷ 68 ∷ 124 ∷ 143 ∷ 84 ∷ 96 ∷ 29 ∷ 31 ∷ [] in
    record {
      file = begin ++ layer ++ add;
      sums = 157 ∷ 194 ∷ 6 ∷ 7 ∷ [];
      picture = 56;
      loaded = record {
        before = rows ++ last ++ replicate 72 0;
        bands = four_bands 0 4 0 3 0 3 0 3;
        count = 72;
        after = rows ++ last ++ one ++ two ++ three;
        reading = three;
      };
      at = 3;
      row = row;
      changed = record {
        before = rows ++ row ++ one ++ two ++ three;
        bands = four_bands 3 4 0 0 0 0 0 0;
        count = 24;
        after = rows ++ row ++ one' ++ two' ++ three';
        reading = three';
      };
      layer = 2;
      new = new;
      file' = begin ++ new ++ add;
      sums' = 157 ∷ 194 ∷ 8 ∷ 9 ∷ [];
      replaced = record {
        before = rows ++ row ++ one' ++ two' ++ three';
        bands = four_bands 0 0 0 0 0 3 0 0;
        count = 48;
        after = rows ++ row ++ one' ++ two'' ++ three'';
        reading = three'';
      };
    }

pub record Mornings : Type 0 where
  pub one : Plays day_of_k
  pub two : Plays day_of_two

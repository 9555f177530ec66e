-- The listing of a network file: a table with a line for each tensor, or one line with the refusal number.
-- Assumes nothing.
use Rattle.std.specs.Prelude.{ℕ, zero, suc, ◌+◌, ◌/◌, ◌%◌, cond, List, [], ◌∷◌, ◌++◌, ltb}
use Rattle.fields.specs.Shape.{bytes_of}
use Rattle.records.specs.Layer.{sums_of}
use Rattle.fields.specs.declared.shape.Shape.{Shape}
use Rattle.records.specs.declared.layer.Kind.{Kind}
use Rattle.records.specs.declared.layer.Kind.TheVariants.{Conv, Full, Add}
use Rattle.lists.specs.Lists.{joined}
use Rattle.network.specs.Network.{layer_of}
use Rattle.network.specs.Decode.{decode_of}
use Rattle.network.specs.declared.net.Network.{Network}

-- a number in decimal, of at most k digits
unfoldable pub decimal_to : ℕ → ℕ → List ℕ
decimal_to zero n = []
decimal_to (suc k) n = cond (ltb n 10) ((48 + n) ∷ []) (decimal_to k (n / 10) ++ ((48 + n % 10) ∷ []))

-- every number here has at most five digits
abbrev pub decimal : ℕ → List ℕ
decimal n = decimal_to 5 n

-- "tensor kind rows columns channels bytes sums" and a newline
abbrev pub heading : List ℕ
heading =
    0x74 ∷ 0x65 ∷ 0x6E ∷ 0x73 ∷ 0x6F ∷ 0x72 ∷ 0x20 ∷ 0x6B ∷ 0x69 ∷ 0x6E ∷ 0x64 ∷ 0x20 ∷ 0x72 ∷ 0x6F ∷ 0x77 ∷ 0x73 ∷ 0x20 ∷
    0x63 ∷ 0x6F ∷ 0x6C ∷ 0x75 ∷ 0x6D ∷ 0x6E ∷ 0x73 ∷ 0x20 ∷ 0x63 ∷ 0x68 ∷ 0x61 ∷ 0x6E ∷ 0x6E ∷ 0x65 ∷ 0x6C ∷ 0x73 ∷ 0x20 ∷
    0x62 ∷ 0x79 ∷ 0x74 ∷ 0x65 ∷ 0x73 ∷ 0x20 ∷ 0x73 ∷ 0x75 ∷ 0x6D ∷ 0x73 ∷ 0x0A ∷ []

-- "picture"
abbrev pub picture_word : List ℕ
picture_word = 0x70 ∷ 0x69 ∷ 0x63 ∷ 0x74 ∷ 0x75 ∷ 0x72 ∷ 0x65 ∷ []

-- "conv", "full", "add"
abbrev pub word_of : Kind → List ℕ
word_of (Conv c) = 0x63 ∷ 0x6F ∷ 0x6E ∷ 0x76 ∷ []
word_of (Full f) = 0x66 ∷ 0x75 ∷ 0x6C ∷ 0x6C ∷ []
word_of (Add a) = 0x61 ∷ 0x64 ∷ 0x64 ∷ []

-- a space and a number
abbrev pub column : ℕ → List ℕ
column n = 0x20 ∷ decimal n

-- tensor number; picture, conv, full or add; rows, columns and channels; tensor bytes; how many stored sums the layer has
unfoldable pub line_of : ℕ → List ℕ → Shape → ℕ → List ℕ
line_of t word s sums =
    decimal t ++ (0x20 ∷ word) ++ column s.rows ++ column s.columns ++ column s.channels ++ column (bytes_of s) ++ column sums ++ (0x0A ∷ [])

-- the line of what layer m, counted from 0, makes
abbrev pub layer_line : Network → ℕ → List ℕ
layer_line n m = line_of (m + 1) (word_of (layer_of n m).kind) (layer_of n m).output (sums_of (layer_of n m).kind)

abbrev pub table_of : Network → List ℕ
table_of n = heading ++ line_of 0 picture_word n.picture 0 ++ joined n.count (layer_line n)

-- "refused", a space and the number
abbrev pub refused_line : ℕ → List ℕ
refused_line number = 0x72 ∷ 0x65 ∷ 0x66 ∷ 0x75 ∷ 0x73 ∷ 0x65 ∷ 0x64 ∷ column number ++ (0x0A ∷ [])

abbrev pub listed : ℕ → Network → List ℕ
listed zero n = table_of n
listed (suc fault) n = refused_line (suc fault)

-- tests 1 to 3, and the listing
unfoldable pub listing_of : List ℕ → List ℕ
listing_of file = listed (decode_of file).fault (decode_of file).network

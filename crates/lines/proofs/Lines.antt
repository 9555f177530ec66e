-- The lines of a listing: each is a chain of texts, and so is the table.
-- Assumes nothing.
use Rattle.std.proofs.Common.{◌≡◌, ℕ, zero, suc, ◌+◌, ◌≤◌, ◌<◌, List, [], ◌∷◌, length, refl, sym, ◌∙◌, arith, append_assoc}
use Rattle.fields.specs.Shape.{bytes_of}
use Rattle.fields.specs.Asked.{GoodShape}
use Rattle.fields.specs.declared.shape.Shape.{Shape}
use Rattle.records.specs.Layer.{sums_of}
use Rattle.records.specs.declared.layer.Layer.{Layer}
use Rattle.lists.specs.Lists.{pasted, joined}
use Rattle.lists.proofs.Pasted.{pasted_nil, joined_step}
use Rattle.network.specs.Network.{layer_of}
use Rattle.network.specs.Decode.{decode_of}
use Rattle.network.specs.Taken.{Taken}
use Rattle.network.specs.declared.net.Network.{Network}
use Rattle.network.specs.Decode.{Decoded}
use Rattle.network.proofs.Taken.{taken}
use Rattle.network.proofs.Bounds.{sums_few as sums-in-store}
use Rattle.lines.specs.declared.text.Text.{Text}
use Rattle.lines.specs.Listing.{decimal, column, line_of, word_of, heading, picture_word, layer_line, table_of, refused_line, listed, listing_of}
use Rattle.lines.specs.Text.{Adds}
use Rattle.lines.proofs.Texts.{adds_more}

-- ---- a line

-- the nine texts of a line
pub line_written :
    (t : ℕ) (word : List ℕ) (s : Shape) (sums : ℕ)
    {bytes : ℕ} {a b₁ b₂ b₃ b₄ b₅ b₆ b₇ b₈ b₉ : Text} →
    a.length ≤ length a.out.now →
    bytes ≡ bytes_of s →
    Adds a (decimal t) b₁ →
    Adds b₁ (0x20 ∷ []) b₂ →
    Adds b₂ word b₃ →
    Adds b₃ (column s.rows) b₄ →
    Adds b₄ (column s.columns) b₅ →
    Adds b₅ (column s.channels) b₆ →
    Adds b₆ (column bytes) b₇ →
    Adds b₇ (column sums) b₈ →
    Adds b₈ (0x0A ∷ []) b₉ →
    Adds a (line_of t word s sums) b₉
unfolding line_of
line_written t word s sums h b w₁ w₂ w₃ w₄ w₅ w₆ w₇ w₈ w₉ =
    let a₂ = adds_more _ _ h w₁ w₂ in
    let a₃ = simp append_assoc at (adds_more _ _ h a₂ w₃) in
    let a₄ = adds_more _ _ h a₃ w₄ in
    let a₅ = adds_more _ _ h a₄ w₅ in
    let a₆ = adds_more _ _ h a₅ w₆ in
    let a₇ = adds_more _ _ h a₆ w₇ in
    let a₈ = adds_more _ _ h a₇ w₈ in
    let a₉ = adds_more _ _ h a₈ w₉ in
    rw b at a₉

-- ---- the table

-- what `layer` asks of layer m, which the code has as y
module _ {s : List ℕ} {n : Network} (t : Taken s n) {m : ℕ} (h : m < n.count) {y : Layer} (e : y ≡ layer_of n m) where
  pub output_good : GoodShape y.output
  output_good = rw e (t.shapes (suc m) h)

  pub sums_few : sums_of y.kind ≤ 256
  sums_few = rw e (sums-in-store s n t m h)

-- no layer's line yet
pub table_starts : (a : Text) (f : ℕ → List ℕ) → Adds a (joined 0 f) a
unfolding joined
table_starts a f = record { same = refl; room = refl; long = omega arith; is = sym (pasted_nil _ _) }

-- one layer's line more
pub table_turns :
    (n : Network) (m : ℕ) {y : Layer} {a b c : Text} →
    a.length ≤ length a.out.now →
    y ≡ layer_of n m →
    Adds a (joined m (layer_line n)) b →
    Adds b (line_of (m + 1) (word_of y.kind) y.output (sums_of y.kind)) c →
    Adds a (joined (m + 1) (layer_line n)) c
table_turns n m h l w x = rw joined_step (adds_more _ _ h w (rw l at x))

-- every layer's line is there
pub table_ends :
    (n : Network) {m : ℕ} {a b c d : Text} →
    a.length + 1024 ≤ length a.out.now →
    m ≡ n.count →
    Adds a heading b →
    Adds b (line_of 0 picture_word n.picture 0) c →
    Adds c (joined m (layer_line n)) d →
    Adds a (table_of n) d
table_ends n h e w x y =
    rw e at (rw append_assoc at (adds_more _ _ (omega arith) (adds_more _ _ (omega arith) w x) y))

-- ---- the listing

-- the text s from the front of a slice, as it ends
abbrev pub Front : List ℕ → List ℕ → ℕ → List ℕ → Type 0
Front d s r e = (r ≡ length s) × (e ≡ pasted d 0 s)

-- what a text adds to none, in the slice as it ends
front : {s e : List ℕ} {a b : Text} → a.length ≡ 0 → Adds a s b → e ≡ b.out.now → Front a.out.now s b.length e
front z w e = (omega (arith, w.long), e ∙ rw z at w.is)

-- what is known of a file that is taken, of the answer that the code has
pub decoded_taken : (s : List ℕ) {d : Decoded} → d ≡ decode_of s → d.fault ≡ 0 → Taken s d.network
decoded_taken s e h = rw e (taken s (rw e at h))

-- a file that is taken
pub taken_listed :
    (s : List ℕ) {d : Decoded} {e : List ℕ} {a b : Text} →
    d ≡ decode_of s →
    d.fault ≡ 0 →
    a.length ≡ 0 →
    Adds a (table_of d.network) b →
    e ≡ b.out.now →
    Front a.out.now (listing_of s) b.length e
unfolding listing_of
taken_listed s l h z w e = rw (← l, h) (front z w e)

-- a file that is refused
pub refused_listed :
    (s : List ℕ) {d : Decoded} {e : List ℕ} {a b : Text} →
    d ≡ decode_of s →
    (d.fault ≡ 0 → ⊥) →
    a.length ≡ 0 →
    Adds a (refused_line d.fault) b →
    e ≡ b.out.now →
    Front a.out.now (listing_of s) b.length e
unfolding listing_of
refused_listed s {d} l h z w e =
    rw (← l, by_number d.fault h) (front z w e) where
      by_number : (k : ℕ) → (k ≡ 0 → ⊥) → listed k d.network ≡ refused_line k
      by_number zero g = absurd (g refl)
      by_number (suc k) g = refl

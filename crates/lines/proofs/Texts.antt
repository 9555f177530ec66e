-- Texts added one after another, and numbers in decimal.
-- Assumes nothing.
use Rattle.std.proofs.Common.{◌≡◌, ℕ, ◌+◌, ◌/◌, ◌%◌, ◌≤◌, ◌<◌, List, [], ◌∷◌, ◌++◌, length, sym, ap, ◌∙◌, rules, arith, length-append}
use Rattle.std.specs.Fmt.{decimal as std_decimal}
use Rattle.std.proofs.lemmas.Fmt.{AppendsLastDigit, decimal_from_appends, decimal_digit, decimal_step, length-decimal-le}
use Rattle.lists.proofs.Pasted.{pasted-pasted}
use Rattle.lines.specs.declared.text.Text.{Text}
use Rattle.lines.specs.Listing.{decimal_to, decimal}
use Rattle.lines.specs.Text.{Adds}

-- one text after another
pub adds_more :
    (s t : List ℕ) {a b c : Text} →
    a.length ≤ length a.out.now →
    Adds a s b →
    Adds b t c →
    Adds a (s ++ t) c
adds_more s t {a} h x y = record {
  same = y.same ∙ x.same;
  room = y.room ∙ x.room;
  long = rw length-append (omega arith);
  is = rw (y.is, x.long, x.is) (pasted-pasted a.out.now a.length s t h);
}

-- ---- numbers

last_digit : AppendsLastDigit decimal_to
unfolding decimal_to
last_digit = search rules

-- a number here is what std writes of it
decimal_of_std : (n : ℕ) → n < 100000 → decimal n ≡ std_decimal n
decimal_of_std n h =
    decimal_from_appends decimal_to last_digit 5 n (omega arith) (length-decimal-le 5 n (omega arith) h (omega arith))

pub decimal_one : (n : ℕ) → n < 10 → decimal n ≡ (48 + n) ∷ []
decimal_one n h = decimal_of_std n (omega arith) ∙ decimal_digit n h

pub decimal_more : (n : ℕ) → 10 ≤ n → n < 100000 → decimal n ≡ decimal (n / 10) ++ ((48 + n % 10) ∷ [])
decimal_more n g h =
    decimal_of_std n h ∙ decimal_step n g (omega arith)
    ∙ ap (λ (s : List ℕ). s ++ ((48 + n % 10) ∷ [])) (sym (decimal_of_std (n / 10) (omega arith)))

pub decimal_few : (n : ℕ) → n < 100000 → length (decimal n) ≤ 5
decimal_few n h = rw (decimal_of_std n h) (length-decimal-le 5 n (omega arith) h (omega arith))

-- what `number` needs of the digits before the last one
pub decimal-length : (n : ℕ) → 10 ≤ n → n < 100000 → length (decimal n) ≡ length (decimal (n / 10)) + 1
decimal-length n g h = ap length (decimal_more n g h) ∙ length-append (decimal (n / 10)) ((48 + n % 10) ∷ [])

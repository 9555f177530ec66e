-- One digit, or the last digit after the others.
use Rattle.std.proofs.Common.{length, sym, subst, ap, arith}
use Rattle.lines.specs.Text.{Adds}
use Rattle.lines.proofs.Texts.{adds_more, decimal_one, decimal_more, decimal-length}
use Rattle.lines.proofs.text.Text.+number.Goals as goal

pub word-requires : goal.word-requires
word-requires t c = omega (arith, c.requires, ap length (decimal_one c.args.n c.if-n-lt10.true))

pub returns-then-n-lt10 : goal.returns-then-n-lt10
returns-then-n-lt10 t c = subst (λ s. Adds c.args.self.now s c.word.new.self) (sym (decimal_one c.args.n c.if-n-lt10.true)) c.word.ensures

pub number-requires : goal.number-requires
number-requires t c = (omega arith, (omega arith, omega (arith, decimal-length c.args.n c.if-n-lt10.false c.requires.0)))

pub word-requires-2 : goal.word-requires-2
word-requires-2 t c =
    omega (arith, decimal-length c.args.n c.if-n-lt10.false c.requires.0, c.number.ensures)

pub returns : goal.returns
returns t c =
    subst (λ s. Adds c.args.self.now s c.word-2.new.self) (sym (decimal_more c.args.n c.if-n-lt10.false c.requires.0))
    (adds_more _ _ (omega arith) c.number.ensures c.word-2.ensures)

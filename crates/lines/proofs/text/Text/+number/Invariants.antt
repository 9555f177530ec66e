-- The measure is the number itself.
use Rattle.lines.proofs.text.Text.+number.Given as goal

abbrev pub decreases-number : goal.decreases-number
decreases-number l = l.n

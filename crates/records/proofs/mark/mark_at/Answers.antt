-- `records::mark::mark_at` meets its contract.
use mathlib.Core.Path.{sym, ◌∙◌}
use borrow.Author.Tests.{lt-ltb, le-ltb}
use Rattle.records.specs.Mark.{mark_at}
use Rattle.records.proofs.mark.mark_at.Goals as goal

pub returns-then-s-at-lt2 : goal.returns-then-s-at-lt2
unfolding mark_at
returns-then-s-at-lt2 c = simp (lt-ltb _ _ c.if-s-at-lt2.true)

pub returns-then-is_mark : goal.returns-then-is_mark
unfolding mark_at
returns-then-is_mark c = simp (le-ltb _ _ c.if-s-at-lt2.false, sym c.is_mark.ensures ∙ c.if-is_mark.true)

pub returns-then-is_mark-2 : goal.returns-then-is_mark-2
unfolding mark_at
returns-then-is_mark-2 c = simp (le-ltb _ _ c.if-s-at-lt2.false, (sym c.is_mark.ensures ∙ c.if-is_mark.false), sym c.is_mark-2.ensures ∙ c.if-is_mark-2.true)

pub returns-then-is_mark-3 : goal.returns-then-is_mark-3
unfolding mark_at
returns-then-is_mark-3 c =
    simp (le-ltb _ _ c.if-s-at-lt2.false, (sym c.is_mark.ensures ∙ c.if-is_mark.false), (sym c.is_mark-2.ensures ∙ c.if-is_mark-2.false), sym c.is_mark-3.ensures ∙ c.if-is_mark-3.true)

pub returns : goal.returns
unfolding mark_at
returns c =
    simp (le-ltb _ _ c.if-s-at-lt2.false, (sym c.is_mark.ensures ∙ c.if-is_mark.false), (sym c.is_mark-2.ensures ∙ c.if-is_mark-2.false), sym c.is_mark-3.ensures ∙ c.if-is_mark-3.false)

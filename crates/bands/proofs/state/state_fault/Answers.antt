-- `bands::state::state_fault` meets its contract.
use mathlib.Core.Path.{◌≡◌, refl, ap, ◌∙◌}
use native.Mathlib.Nat.{zero-add}
use Rattle.std.specs.List.{range_with_len}
use Rattle.std.proofs.Common.{rules, tests}
use Rattle.std.proofs.lemmas.Iterator.{YieldsList-from_range}
use Rattle.std.proofs.lemmas.Iterator.Search.{all_from_yields_List}
use Rattle.std.proofs.lemmas.List.FromFn.{get_or-range_with_len}
use Rattle.lists.specs.Choice.{every}
use Rattle.bands.specs.State.{fair_at, state_fault}
use Rattle.lists.proofs.Every.{all_every}
use Rattle.bands.proofs.state.state_fault.Goals as goal
use Rattle.bands.proofs.state.state_fault.Goals.{After-all}

passed : (c : After-all) → c.all.result ≡ every 17 (fair_at c.args.s c.args.n)
passed c =
    let p = fair_at c.args.s c.args.n in
    all_from_yields_List p _ _ c.all.result c.all.ensures.ran (YieldsList-from_range 0 17 17 refl refl)
    (λ x b q k. search (rules, tests))
    ∙ all_every p p (range_with_len 0 17) 0 (λ t h. ap p (get_or-range_with_len 0 17 t 0 h ∙ zero-add t)) 17 refl

pub returns-then-all : goal.returns-then-all
unfolding state_fault
returns-then-all c = rw (← passed (goal.at.returns-then-all c).After-all, c.if-all.true)

pub returns-else-all : goal.returns-else-all
unfolding state_fault
returns-else-all c = rw (← passed (goal.at.returns-else-all c).After-all, c.if-all.false)

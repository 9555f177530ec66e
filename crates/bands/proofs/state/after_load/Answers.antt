-- `bands::state::after_load` meets its contract.
use mathlib.Core.Path.{ap}
use Rattle.std.proofs.Common.{rules, tests}
use Rattle.bands.specs.Band.{none}
use Rattle.bands.specs.State.{loaded}
use Rattle.lists.proofs.Made.{made_joined}
use Rattle.bands.proofs.States.{loaded_band}
use Rattle.bands.proofs.state.after_load.Goals as goal

pub returns : goal.returns
unfolding loaded
returns c =
    ap (λ l. record { bands = l })
    (made_joined (loaded_band c.args.n) none (λ i y q k. search (rules, tests)) c.from_fn.ensures.items)

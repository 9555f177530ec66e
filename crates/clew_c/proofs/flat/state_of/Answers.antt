use Rattle.std.proofs.Common.{rules, ◌+◌, ◌*◌, ap, get_or}
use Rattle.bands.specs.Band.{band, none}
use Rattle.clew_c.specs.Flat.{state_of}
use Rattle.lists.proofs.Made.{made_joined}
use Rattle.clew_c.proofs.flat.state_of.Goals as goal

pub returns : goal.returns
unfolding state_of
returns c =
    ap (λ l. record { bands = l })
    (made_joined (λ t. band (get_or c.args.numbers.now (2 * t) 0) (get_or c.args.numbers.now (2 * t + 1) 0)) none (λ i y q k. search rules)
    c.from_fn.ensures.items)

-- `bands::state::clean` meets its contract.
use mathlib.Core.Path.{refl, ◌∙◌}
use native.Mathlib.Omega.{arith}
use Rattle.std.proofs.Common.{rules, tests}
use Rattle.std.proofs.lemmas.Iterator.{YieldsList-from_slice}
use Rattle.std.proofs.lemmas.Iterator.Search.{all_from_yields_List}
use Rattle.bands.specs.Band.{is_empty, none}
use Rattle.bands.specs.State.{band_of, clean}
use Rattle.lists.proofs.Every.{all_every}
use Rattle.bands.proofs.state.clean.Goals as goal

pub returns : goal.returns
unfolding clean
returns c =
    let bands = c.args.s.bands in
    all_from_yields_List is_empty _ _ c.all.result c.all.ensures.ran (YieldsList-from_slice bands cc)
    (λ x b q k. search (rules, tests))
    ∙ all_every is_empty (λ t. is_empty (band_of c.args.s t)) bands none (λ t h. refl) 17 (omega arith)

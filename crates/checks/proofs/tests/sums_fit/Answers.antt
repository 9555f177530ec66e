-- `checks::tests::sums_fit` meets its contract.
use Rattle.std.proofs.Common.{◌≡◌, ◌∙◌, ◌<◌, ◌+◌, ◌-◌, ◌*◌, length, take, drop, arith, rules, tests, ap}
use lib.Dec.{leb}
use Rattle.std.proofs.lemmas.Iterator.{YieldsList-from_slice}
use Rattle.std.proofs.lemmas.Iterator.Search.{all_from_yields_List}
use Rattle.std.proofs.lemmas.List.{get_or-take, get_or-drop, length-take, length-drop}
use Rattle.lists.proofs.Every.{all_every}
use Rattle.checks.proofs.Sums.{sum_in, fits_as}
use Rattle.checks.proofs.tests.sums_fit.Goals as goal

pub returns : goal.returns
returns c =
    let sums = c.args.sums.now in
    let at = c.args.y.sums in
    let most = 255 * c.terms.result in
    let own = take (at + c.sums.result - at) (drop at sums) in
    let long : length own ≡ c.sums.result = omega (arith, length-take (at + c.sums.result - at) (drop at sums), length-drop at sums) in
    fits_as _ _ _ _ _ c.terms.ensures.0 c.sums.ensures.0
    (all_from_yields_List (λ x. leb x most) _ _ c.all.result c.all.ensures.ran (YieldsList-from_slice own c.iter.ensures.rest)
    (λ x b q k. search (rules, tests))
    ∙ all_every (λ x. leb x most) (sum_in sums at most) own 0
    (λ t h.
    let few : t < at + c.sums.result - at = omega arith in
    ap (λ x. leb x most) (get_or-take (at + c.sums.result - at) (drop at sums) t 0 few ∙ get_or-drop at sums t 0))
    c.sums.result long)

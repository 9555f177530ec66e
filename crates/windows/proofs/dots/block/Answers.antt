-- `windows::dots::block` meets its contract: what the iterator sums is Σqw.
use Rattle.std.proofs.Common.{◌*◌, ◌≡◌, ◌∙◌, sym, rules, tests, arith}
use Rattle.std.proofs.lemmas.Iterator.{YieldsList-from_slice, YieldsList-from_map, YieldsList-from_zip}
use Rattle.std.proofs.lemmas.Iterator.Consumers.{YieldsList-at, sum_by_from_yields_List}
use Rattle.std.specs.List.{zip}
use Rattle.numbers.specs.Total.{dot}
use Rattle.windows.proofs.Steps.{dot_is, dot_most}
use Rattle.windows.proofs.dots.block.Goals as goal

-- the sum that was taken
taken : (c : goal.After-sum) → c.sum.result ≡ dot c.args.q.now c.args.w.now
taken c =
    sum_by_from_yields_List (λ p. p.0 * p.1) (zip c.args.q.now c.args.w.now) c.map.result _ c.sum.ensures.ran
    (YieldsList-from_map _ (λ p. p.0 * p.1)
    (YieldsList-at c.map.ensures.source (YieldsList-from_zip (YieldsList-from_slice c.args.q.now cc) (YieldsList-from_slice c.args.w.now cc)))
    c.map.ensures.closure (λ x r q k. search (rules, tests))) ∙
    sym (dot_is c.args.q.now c.args.w.now)

pub returns-clause-value : goal.returns-clause-value
returns-clause-value c = taken c

pub returns-clause-bound : goal.returns-clause-bound
returns-clause-bound c =
    let few = dot_most c.args.q.now c.args.w.now (λ i. omega (arith, (c.type_inv.q i).fits)) (λ i. omega (arith, (c.type_inv.w i).fits)) in
    omega (arith, taken c, few)

-- `checks::tests::sums_fault` meets its contract.
use Rattle.std.proofs.Common.{◌≡◌, ◌∙◌, arith, sym, refl, ap}
use native.Mathlib.Numerals.{add-one}
use Rattle.lists.specs.Choice.{every}
use Rattle.lists.proofs.Choice.{every_more, every-not}
use Rattle.network.specs.Network.{layer_of}
use Rattle.network.proofs.Bounds.{terms-few}
use Rattle.checks.specs.Tests.{layer_sums_fit, sums_fault}
use Rattle.checks.proofs.Rows.{input-good}
use Rattle.checks.proofs.tests.sums_fault.Goals as goal
use Rattle.checks.proofs.tests.sums_fault.Goals.{After-sums_fit}

pub loop-m-init : goal.loop-m-init
unfolding every
loop-m-init c = refl

pub sums_fit-requires : goal.sums_fit-requires
sums_fit-requires c =
    let t = c.requires.taken in
    let m = c.loop-m.m in
    let h = c.loop-m-test.true in
    rw c.layer.ensures (record {
      good_shape = input-good _ _ t m h;
      input_bound = terms-few _ _ t m h;
      kind_in_bounds = omega (arith, (t.layers m h).sums-end);
    })

-- what the turn's test says of layer m
layer_fits : (c : After-sums_fit) → c.sums_fit.result ≡ layer_sums_fit (layer_of c.args.n.now c.loop-m.m) c.args.sums.now
layer_fits c = c.sums_fit.ensures ∙ ap (λ x. layer_sums_fit x c.args.sums.now) c.layer.ensures

pub returns-then-not-sums_fit : goal.returns-then-not-sums_fit
unfolding sums_fault
returns-then-not-sums_fit c =
    rw (every-not (λ k. layer_sums_fit (layer_of c.args.n.now k) c.args.sums.now) _ c.loop-m.m c.loop-m-test.true (sym (layer_fits (goal.at.returns-then-not-sums_fit c).After-sums_fit) ∙ c.if-not-sums_fit.true))

pub loop-m-preserved : goal.loop-m-preserved
loop-m-preserved c =
    rw add-one (every_more (λ k. layer_sums_fit (layer_of c.args.n.now k) c.args.sums.now) _ c.loop-m.invariant (sym (layer_fits (goal.at.loop-m-preserved c).After-sums_fit) ∙ c.if-not-sums_fit.false))

pub returns : goal.returns
unfolding sums_fault
returns c =
    let e : c.loop-m.m ≡ c.args.n.now.count = omega arith in
    rw (rw e at c.loop-m.invariant)

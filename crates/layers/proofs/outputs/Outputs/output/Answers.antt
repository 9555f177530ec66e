-- `layers::outputs::Outputs::output` meets its contract: the total of bytes fits 32 bits, and so does what it is rescaled to.
use mathlib.Core.Path.{◌∙◌, ap}
use native.Mathlib.Omega.{arith}
use borrow.Author.Rules.{sfits_of}
use mir.Syntax.{w32}
use mir.ValLaws.{to_z-of_z}
use Rattle.numbers.specs.Rescale.{rescaled}
use Rattle.numbers.specs.Finish.{finished}
use Rattle.layers.proofs.Totals.{total_is, total-ready}
use Rattle.layers.proofs.outputs.Outputs.output.Goals as goal

pub total-a-requires : goal.total-a-requires
total-a-requires c =
    let a = c.args in
    let r =
    total-ready a.bias a.q.now a.w.now a.stored a.self.z a.self.weighing.v
    (to_z-of_z w32 _ c.ranges.bias) c.dot.ensures.value c.requires.total
    c.requires.bias_small c.requires.pairs c.requires.few
    (λ i. omega (arith, c.shared_slice_known-1.given i)) (λ i. omega (arith, c.shared_slice_known-2-1.given i))
    c.requires.stored_small (omega arith) (omega arith) in
    record { terms_fit = r.0; v_bound = r.1 }

pub returns : goal.returns
returns c =
    let a = c.args in
    let by = a.self.weighing in
    c.finish.ensures ∙
    ap (λ z. finished z by.zero by.low by.high)
    (to_z-of_z w32 _ (sfits_of c.rescale.type_inv) ∙ c.rescale.ensures ∙
    ap (λ z. rescaled z by.scale.multiplier by.scale.shift)
    (to_z-of_z w32 _ (sfits_of c.total-a.type_inv) ∙ c.total-a.ensures ∙
    total_is a.bias a.q.now a.w.now a.stored a.self.z by.v
    (to_z-of_z w32 _ c.ranges.bias) c.dot.ensures.value c.requires.total))

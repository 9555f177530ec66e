use Prim.Native.Nat.{ℕ}
use mathlib.Core.Path.{◌∙◌}
use native.Mathlib.Omega.{arith}
use lib.ListN.{length-replicate}
use Rattle.updates.proofs.Turns.{turns-none, step-needs, turn-count, turns_more}
use Rattle.updates.proofs.recompute.recompute.Goals as goal

pub loop-m-init : goal.loop-m-init
loop-m-init c = (turns-none _ _, length-replicate {A = ℕ} 12544 0)

pub recompute_layer-step-requires : goal.recompute_layer-step-requires
recompute_layer-step-requires c =
    let v = c.loop-m.invariant in
    let w = step-needs c.args.s c.args.area.now c.requires.can_recompute c.requires.bands_within v.0 in
    record { can_recompute = w.0; bands_within = w.1; m_lt_count = (omega (arith, c.requires.can_recompute.taken.count-some), omega (arith, v.1)) }

pub overflow_add-count : goal.overflow_add-count
overflow_add-count c =
    omega (arith, turn-count c.args.s c.args.area.now c.loop-m.m c.loop-m.invariant.0 c.recompute_layer-step.ensures.state_value c.recompute_layer-step.ensures.count_value c.requires.can_recompute (omega (arith, c.requires.can_recompute.taken.count-some)))

pub loop-m-preserved : goal.loop-m-preserved
loop-m-preserved c =
    let v = c.loop-m.invariant in (
      turns_more c.args.s c.args.area.now c.loop-m.m v.0 c.recompute_layer-step.ensures.state_value c.recompute_layer-step.ensures.count_value (omega (arith, c.requires.can_recompute.taken.count-some)) c.recompute_layer-step.ensures.area_after c.recompute_layer-step.auto.area,
      c.recompute_layer-step.auto.patch ∙ v.1,
    )

-- `updates::recompute::recompute_layer` meets its contract: each need is a law of one layer's step.
use Rattle.std.proofs.Common.{◌≤◌, rules}
use native.Mathlib.Omega.{arith}
use Prim.Native.Nat.{ℕ, ◌-◌, ◌*◌}
use mathlib.Core.Path.{◌∙◌, ap₂}
use mir.Facts.{Fits-below}
use Rattle.fields.specs.Shape.{row_bytes}
use Rattle.updates.proofs.Fairs.{Fits}
use Rattle.updates.proofs.Turns.{link-needs, grow-needs, few-rows, few-row, ready-now, band-fits, count-now, rows-now}
use Rattle.updates.proofs.recompute.recompute_layer.Goals.{After-link_of-link, After-band_of-band}
use Rattle.updates.proofs.recompute.recompute_layer.Goals as goal

pub link_of-link-requires : goal.link_of-link-requires
link_of-link-requires c =
    link-needs c.args.area.now c.args.m c.requires.can_recompute c.requires.m_lt_count.0

pub grow_one-state-requires : goal.grow_one-state-requires
grow_one-state-requires c =
    let needs = grow-needs c.args.area.now c.args.m c.requires.can_recompute c.requires.m_lt_count.0 c.args.s c.requires.bands_within c.link_of-link.ensures in
    record { tensors = needs.0; window = needs.1 }

-- the band grown lies within the layer's tensor
fits : (c : After-band_of-band) → Fits c.layer-y.result.output.rows c.band_of-band.result
fits c =
    band-fits c.args.area.now c.args.m c.requires.can_recompute c.requires.m_lt_count.0 c.args.s c.requires.bands_within
    c.link_of-link.ensures c.grow_one-state.ensures c.band_of-band.ensures c.layer-y.ensures

pub put_rows-requires : goal.put_rows-requires
put_rows-requires c =
    let f = fits (goal.at.put_rows-requires c).After-band_of-band in
    record { ready = ready-now c.args.area.now c.args.m c.requires.can_recompute c.requires.m_lt_count.0 c.layer-y.ensures c.link_of-link.ensures c.source.ensures.from c.source-2.ensures.from; order = omega (arith, f); rows = omega (arith, f); patch_room = c.requires.m_lt_count.1 }

pub overflow_sub-result : goal.overflow_sub-result
overflow_sub-result c = omega (arith, fits (goal.at.overflow_sub-result c).After-band_of-band)

-- the bytes of rows of the layer's tensor
few : (c : After-band_of-band) (k : ℕ) → k ≤ c.layer-y.result.output.rows → k * row_bytes c.layer-y.result.output ≤ 16384
few c k = few-rows c.args.area.now c.args.m c.requires.can_recompute c.requires.m_lt_count.0 k c.layer-y.ensures

pub overflow_mul-result : goal.overflow_mul-result
overflow_mul-result c =
    Fits-below tt (few-row c.args.area.now c.args.m c.requires.can_recompute c.requires.m_lt_count.0 c.layer-y.ensures)

pub overflow_mul-result-2 : goal.overflow_mul-result-2
overflow_mul-result-2 c =
    let at = (goal.at.overflow_mul-result-2 c).After-band_of-band in
    Fits-below tt (few at _ (omega (arith, fits at)))

pub overflow_cast-result : goal.overflow_cast-result
overflow_cast-result c =
    let at = (goal.at.overflow_cast-result c).After-band_of-band in
    Fits-below tt (few at _ (omega (arith, fits at)))

pub returns-clause-count_value : goal.returns-clause-count_value
returns-clause-count_value c =
    ap₂ (λ first end. (end - first) * row_bytes c.layer-y.result.output) (search rules) (search rules) ∙
    count-now c.args.area.now c.args.m c.requires.can_recompute c.requires.m_lt_count.0 c.args.s c.requires.bands_within
    c.link_of-link.ensures c.grow_one-state.ensures c.band_of-band.ensures c.layer-y.ensures

pub returns-clause-area_after : goal.returns-clause-area_after
returns-clause-area_after c =
    rows-now c.args.area.now c.args.m c.requires.can_recompute c.requires.m_lt_count.0 c.args.s c.requires.bands_within
    c.link_of-link.ensures c.grow_one-state.ensures c.band_of-band.ensures c.layer-y.ensures c.source.ensures.zero
    (search rules) c.source.ensures.from c.source-2.ensures.from c.put_rows.ensures (search rules) (search rules)

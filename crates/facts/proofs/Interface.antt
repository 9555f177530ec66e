-- The interface for C and Rust: what the calls' refusals come to as numbers, and that an equation settles its answer.
-- Assumes nothing.
use mathlib.Core.Path.{◌∙◌, ap}
use Rattle.clew.specs.Calls.{change_of, replace_of, update_of}
use Rattle.clew_c.specs.Flat.{state_of, sizes_told, told, replace_told, update_told, read_told}
use Rattle.clew_c.proofs.Flats.{flat_state}
use Rattle.facts.specs.Interface.{RefusalsToldUnchanged, SettledTold}
use Rattle.facts.proofs.Settled.{only}
use Rattle.facts.proofs.Demand1.{refusals_change_nothing}

pub refusals_told_unchanged : RefusalsToldUnchanged
refusals_told_unchanged = record {
  sizes = λ net h. ap sizes_told (refusals_change_nothing.sizes net h);
  load = λ net sums area h. ap told (refusals_change_nothing.load net sums area h);
  change = λ net sums area l e f c rows h.
      ap told (refusals_change_nothing.change net sums area _ f c rows h) ∙ ap (λ m. ((change_of net sums area (state_of l) f c rows).0.number, area, m)) (flat_state l e);
  replace = λ net sums area l e k r h.
      ap replace_told (refusals_change_nothing.replace net sums area _ k r h) ∙ ap (λ m. ((replace_of net sums area (state_of l) k r).0.number, net, sums, m)) (flat_state l e);
  update = λ net sums area l e h.
      ap update_told (refusals_change_nothing.update net sums area _ h) ∙ ap (λ m. ((update_of net sums area (state_of l)).0.number, area, m, 0)) (flat_state l e);
  read = λ net sums area l out h. ap read_told (refusals_change_nothing.read net sums area _ out h);
}

pub settled_told : SettledTold
settled_told = record {
  sizes = λ net. only _;
  load = λ net sums area. only _;
  change = λ net sums area l first count rows. only _;
  replace = λ net sums area l k r. only _;
  update = λ net sums area l. only _;
  read = λ net sums area l out. only _;
}

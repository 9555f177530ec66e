-- Demand 2 of the call: in the area that an accepted update with true weight sums leaves, each recomputed row is the direct one, and each total
-- is the direct sum plus bias and leaves signed 32 bits nowhere.
-- Assumes nothing.
use mathlib.Core.Path.{◌≡◌, ◌∙◌}
use lib.ListN.{length}
use Rattle.network.specs.Decode.{decode_of}
use Rattle.checks.specs.Tests.{call_fault}
use Rattle.clew.specs.Calls.{update_of}
use Rattle.facts.specs.History.{update}
use Rattle.facts.specs.Demand2.{DirectUpdates}
use Rattle.facts.proofs.Demand2.{can_recompute, direct_rows, totals-direct, totals_fit}
use Rattle.facts.proofs.Exact.{update_passed, exact_updates}
use Rattle.facts.proofs.Stored.{true-each}
use Rattle.facts.proofs.Bytes.{bytes_kept}

pub direct_updates : DirectUpdates
direct_updates file sums area s bf ba e true-sums m h =
    let n = (decode_of file).network in
    let next = (update_of file sums area s).1 in
    let w = (exact_updates file sums area s e).0 in
    let p : call_fault file sums (length next) s ≡ 0 = rw w.size (update_passed file sums area s e) in
    let each = true-each file n (can_recompute file sums (length next) s p).taken sums true-sums m h in
    record {
      rows = λ i g. w.inside m i h g ∙ direct_rows file sums next s p m i h each;
      totals = totals-direct file sums next s p m h each;
      fit = totals_fit file sums next s bf (bytes_kept update (record { file = file; sums = sums; area = area; state = s }) tt bf ba).1 p m h;
    }

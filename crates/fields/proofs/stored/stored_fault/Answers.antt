-- `fields::stored::stored_fault` meets its contract.
use Rattle.std.proofs.Common.{sym}
use Rattle.fields.proofs.Stores.{stored_there}
use Rattle.fields.proofs.stored.stored_fault.Goals as goal

pub bias_faults-requires : goal.bias_faults-requires
bias_faults-requires c =
    stored_there _ _ _ c.args.w c.requires.at_in_bounds (sym (rw c.stored_len.ensures.0 at c.in_ok-cut_fault.ensures))

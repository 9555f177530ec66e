use Rattle.clew_c.proofs.Flats.{Written}
use Rattle.clew_c.proofs.flat.numbers_of.Given as goal

abbrev pub invariant-loop-t : goal.invariant-loop-t
invariant-loop-t l = Written (record { bands = l.band-items }) l.numbers l.t

-- The heading, the picture's line, and then a layer's line at a time.
use Rattle.std.proofs.Common.{arith}
use Rattle.lines.proofs.Lines.{output_good, table_starts, table_turns, table_ends}
use Rattle.lines.proofs.text.Text.table.Goals as goal

pub line-requires-clause-good_shape : goal.line-requires-clause-good_shape
line-requires-clause-good_shape c = c.requires.taken.shapes 0 (omega arith)

pub loop-m-init : goal.loop-m-init
loop-m-init c = record { lines = table_starts _ _; within = omega arith }

pub layer_line-requires-clause-good_shape : goal.layer_line-requires-clause-good_shape
layer_line-requires-clause-good_shape c = output_good c.requires.taken c.loop-m-test.true c.layer-layer.ensures

pub loop-m-preserved : goal.loop-m-preserved
loop-m-preserved c = record {
  lines =
      table_turns c.args.network.now c.loop-m.m (omega arith) c.layer-layer.ensures c.loop-m.invariant.lines c.layer_line.ensures.written;
  within = omega arith;
}

pub returns-clause-written : goal.returns-clause-written
returns-clause-written c =
    table_ends c.args.network.now (omega arith) (omega arith) c.word.ensures c.line.ensures.written c.loop-m.invariant.lines

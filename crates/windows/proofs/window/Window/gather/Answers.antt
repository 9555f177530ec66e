use mathlib.Core.Path.{◌≡◌, sym}
use Prim.Native.Nat.{◌+◌, ◌*◌}
use native.Mathlib.Omega.{arith}
use Rattle.lists.specs.Lists.{joined}
use Rattle.windows.specs.Window.{strip_of, window_of}
use Rattle.lists.proofs.Pasted.{pasted_nil, joined_more, joined_done}
use Rattle.windows.proofs.Windows.{strip-length, row_room}
use Rattle.windows.proofs.window.Window.gather.Goals as goal

pub loop-a-init : goal.loop-a-init
unfolding joined
loop-a-init c = record { place = omega arith; is = sym (pasted_nil _ _) }

pub put_strip-requires-clause-room : goal.put_strip-requires-clause-room
put_strip-requires-clause-room c = omega (arith, row_room c.args.self.height c.args.self.width c.args.self.channels c.loop-a.a (omega arith))

pub overflow_add-at : goal.overflow_add-at
overflow_add-at c = omega (arith, row_room c.args.self.height c.args.self.width c.args.self.channels c.loop-a.a (omega arith))

pub loop-a-preserved : goal.loop-a-preserved
loop-a-preserved c =
    let g = c.args in
    record {
      place = omega arith;
      is =
          joined_more g.patch.now 0 c.loop-a.a (g.self.width * g.self.channels) (λ b. strip_of g.self g.t.now (g.p + b) g.q)
          (λ b. strip-length g.self g.t.now (g.p + b) g.q c.requires.whole)
          (omega arith) (omega arith) c.loop-a.invariant.is c.put_strip.ensures;
    }

pub returns : goal.returns
unfolding window_of
returns c =
    let e : c.loop-a.a ≡ c.args.self.height = omega arith in
    joined_done _ _ _ e c.loop-a.invariant.is

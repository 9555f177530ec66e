-- `windows::window::Window::gather` meets its contract. The loop's invariant: the first a rows of the window are pasted to the
-- patch's front.
use mathlib.Core.Path.{◌≡◌}
use Prim.Native.Nat.{◌+◌, ◌*◌}
use Rattle.lists.specs.Lists.{pasted, joined}
use Rattle.windows.specs.Window.{strip_of}
use Rattle.windows.proofs.window.Window.gather.Given as goal

abbrev pub invariant-loop-a : goal.invariant-loop-a
invariant-loop-a l = record {
  place : l.at ≡ l.a * l.row;
  is : l.patch ≡ pasted l.initial.patch 0 (joined l.a (λ b. strip_of l.self l.t (l.p + b) l.q));
}

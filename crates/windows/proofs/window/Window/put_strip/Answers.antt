-- `windows::window::Window::put_strip` meets its contract: a row of padding is one store, and `strip_stored` joins the three
-- stores of any other.
use native.Mathlib.Omega.{arith}
use Rattle.windows.proofs.Windows.{side_before, side_after, strip_filled, strip_stored}
use Rattle.windows.proofs.window.Window.put_strip.Goals as goal

pub returns-then-p-self : goal.returns-then-p-self
returns-then-p-self c =
    let a = c.args in
    let off = side_before a.self.top a.self.rows a.p c.if-p-self.true in
    strip_filled a.self a.t.now a.patch.now a.at a.p a.q off c.fill_in.ensures

pub returns-then-self-p : goal.returns-then-self-p
returns-then-self-p c =
    let a = c.args in
    let off = side_after a.self.top a.self.rows a.p c.if-self-p.true in
    strip_filled a.self a.t.now a.patch.now a.at a.p a.q off c.fill_in-then-self-p.ensures

pub returns : goal.returns
returns c =
    let a = c.args in
    strip_stored a.self a.t.now a.patch.now a.at a.p a.q c.strip_at-strip.result
    c.requires.small c.requires.whole c.requires.column (omega (arith, c.requires))
    c.if-p-self.false c.if-self-p.false c.strip_at-strip.ensures
    c.fill_in-2.ensures c.copy_in.ensures c.fill_in-3.ensures

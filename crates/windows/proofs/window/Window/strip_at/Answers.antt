-- `windows::window::Window::strip_at` meets its contract: `strip_made` puts the numbers together.
use Rattle.windows.proofs.Windows.{strip_made}
use Rattle.windows.proofs.window.Window.strip_at.Goals as goal

pub returns : goal.returns
returns c =
    strip_made c.args.self c.args.r c.args.q c.requires.small c.requires.row c.requires.column
    c.saturating_sub-first.ensures c.min-stop.ensures c.saturating_sub.ensures

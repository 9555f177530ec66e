-- `network::replace::agrees` meets its contract.
use Rattle.std.proofs.Common.{◌≡◌, ◌+◌, ◌-◌, ◌∙◌, arith}
use Rattle.network.proofs.Replaced.{agree_bytes}
use Rattle.network.proofs.replace.agrees.Goals as goal

pub returns : goal.returns
returns c =
    let n : c.args.at + c.args.n - c.args.at ≡ c.args.n = omega arith in
    rw n at c.eq.ensures ∙ agree_bytes c.args.file.now c.args.at c.args.new.now c.args.n c.requires.0 c.requires.1

use Rattle.std.proofs.Common.{sym, ◌∙◌}
use Rattle.stamp.proofs.Stamps.{matched}
use Rattle.stamp.proofs.civil.Stamp.read.Goals as goal

pub returns : goal.returns
returns c =
    let apart = c.in_ok-date.ensures in
    matched c.args.text.now c.in_ok-day.day c.in_ok-time.time c.at.result apart.0 (sym apart.1 ∙ c.in_ok-day.ensures) (sym apart.2 ∙ c.in_ok-time.ensures) c.at.ensures

use Rattle.std.proofs.Common.{refl}
use Rattle.std.proofs.lemmas.List.{append-nil}
use Rattle.writer.proofs.stamps.put_period.Goals as goal

pub returns : goal.returns
returns g c =
    let start = c.text-start in
    let end = c.text-end in
    (_, (_, record { start = start.result; end = end.result; started = start.ensures.stamp c.requires.stamps.0; ended = end.ensures.stamp c.requires.stamps.1; written = refl }, refl), rw (← append-nil end.result) c.put_all.ensures)

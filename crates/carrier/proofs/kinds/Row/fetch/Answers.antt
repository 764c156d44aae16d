use Rattle.carrier.specs.Counting.{row_hands}
use Rattle.carrier.proofs.kinds.Row.fetch.Goals as goal

pub returns-clause-fetched : goal.returns-clause-fetched
returns-clause-fetched c =
    let found = rw c.in-Some.is at c.requires in
    row_hands c.args.to.number c.in-Some.place c.take.result _ _ c.args.self.now c.take.new.self c.in_ok-check_fetch.ensures.0 found.1 c.take.ensures.taken c.take.ensures.room

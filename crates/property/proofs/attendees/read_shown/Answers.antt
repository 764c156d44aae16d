use Rattle.property.proofs.Answered.{none_shown}
use Rattle.property.proofs.attendees.read_shown.Goals as goal

pub returns-in_err-answer : goal.returns-in_err-answer
returns-in_err-answer c = rw c.from_residual.ensures (none_shown c.args.text.now c.in_default.ensures c.in_err-answer.ensures)

use Rattle.property.proofs.attendees.read_reply.Goals as goal

pub returns-in_err-at : goal.returns-in_err-at
returns-in_err-at c = rw c.from_residual.ensures (λ s d at door stamped named e. c.in_err-at.ensures s.seconds at door stamped e)

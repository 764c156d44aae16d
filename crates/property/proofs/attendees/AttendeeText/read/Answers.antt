use Rattle.property.proofs.Answered.{behind, no_shown, no_reply, heard_text}
use Rattle.property.proofs.attendees.AttendeeText.read.Goals as goal

pub returns-in_err-shown : goal.returns-in_err-shown
returns-in_err-shown c =
    rw c.from_residual-in_err-shown.ensures
    (λ a t. no_shown a _ c.in_ok-status.status.now c.in_ok-status.ensures c.in_err-shown.ensures t)

pub returns-in_err-at : goal.returns-in_err-at
returns-in_err-at c =
    rw c.from_residual-in_err-at.ensures
    (λ a t.
    no_reply a c.in_ok-shown.shown c.in_ok-shown.rest.now c.in-Some.reply.now c.in-Some.ensures c.in_err-at.ensures
    (behind a _ _ _ _ c.in_ok-status.ensures c.in_ok-shown.ensures t))

pub returns : goal.returns
returns c =
    let read = c.in_ok-at.ensures in
    heard_text _ _ _ _ read.0 read.1 _ _ c.in_ok-status.ensures c.in_ok-shown.ensures c.in-Some.ensures read.2 read.3 read.4

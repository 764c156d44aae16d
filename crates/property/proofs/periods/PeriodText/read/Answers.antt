use Rattle.std.proofs.Common.{◌∷◌, sym, ◌∙◌}
use Rattle.property.proofs.Texts.{same_front, stamp_long}
use Rattle.property.proofs.periods.PeriodText.read.Goals as goal

pub returns-in_err-start : goal.returns-in_err-start
returns-in_err-start c =
    rw c.from_residual.ensures
    (λ p t. c.in_err-start.ensures p.start.seconds t.start (47 ∷ t.end) t.started t.written)

pub returns-in_err-end : goal.returns-in_err-end
returns-in_err-end c =
    rw c.from_residual-in_err-end.ensures
    (λ p t.
    let front = c.in_ok-start.ensures in
    let same = same_front t.start front.0 (47 ∷ t.end) c.in_ok-start.rest.now (stamp_long _ _ t.started ∙ sym (stamp_long _ _ front.1)) (sym t.written ∙ front.2) in
    c.in_err-end.ensures p.end (t.end, t.ended, sym same.1))

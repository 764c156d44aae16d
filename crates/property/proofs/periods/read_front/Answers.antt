use Rattle.std.proofs.Common.{sym, subst}
use Rattle.std.proofs.lemmas.List.{take-append-drop}
use Rattle.stamp.specs.Stamps.{Stamped}
use Rattle.property.proofs.Texts.{front_is, stamp_long}
use Rattle.property.proofs.periods.read_front.Goals as goal

pub returns-in_err-stamp : goal.returns-in_err-stamp
returns-in_err-stamp c =
    rw c.from_residual-in_err-stamp.ensures
    (λ n at rest s e. c.in_err-stamp.ensures n (subst (Stamped n) (sym (front_is _ _ at rest (stamp_long n at s) c.in_ok-front.ensures.cases.1 e)) s))

pub returns : goal.returns
returns c =
    let parts = c.in_ok-front.ensures.cases in
    let whole = take-append-drop 16 c.args.text.now in
    (c.in_ok-front.front.now, c.in_ok-stamp.ensures.stamped, cc)

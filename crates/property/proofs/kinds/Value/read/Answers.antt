use Rattle.fault.specs.declared.kinds.Property.TheVariants.{Uid, Dtstamp, Sequence, Summary, Dtstart, Dtend, Rdate, Basis}
use Rattle.property.specs.Values.{uid, dtstamp, sequence, summary, dtstart, dtend, rdate, basis}
use Rattle.property.proofs.Owned.{owned, no_value}
use Rattle.property.proofs.Texts.{titled}
use Rattle.property.proofs.kinds.Value.read.Goals as goal

pub returns-in_err-after-in-Uid : goal.returns-in_err-after-in-Uid
returns-in_err-after-in-Uid c =
    no_value uid Uid _ c.args.text.now _ c.in-Uid.is c.from_residual.ensures (λ q e. owned q Uid e) c.in_err-after-in-Uid.ensures

pub returns-in_err-after-in-Dtstamp : goal.returns-in_err-after-in-Dtstamp
returns-in_err-after-in-Dtstamp c =
    no_value dtstamp Dtstamp _ c.args.text.now _ c.in-Dtstamp.is c.from_residual-in_err-after-in-Dtstamp.ensures (λ q e. owned q Dtstamp e) c.in_err-after-in-Dtstamp.ensures

pub returns-in_err-after-in-Sequence : goal.returns-in_err-after-in-Sequence
returns-in_err-after-in-Sequence c =
    no_value sequence Sequence _ c.args.text.now _ c.in-Sequence.is c.from_residual-in_err-after-in-Sequence.ensures (λ q e. owned q Sequence e) c.in_err-after-in-Sequence.ensures

pub returns-in_err-after-in-Dtstart : goal.returns-in_err-after-in-Dtstart
returns-in_err-after-in-Dtstart c =
    no_value dtstart Dtstart _ c.args.text.now _ c.in-Dtstart.is c.from_residual-in_err-after-in-Dtstart.ensures (λ q e. owned q Dtstart e) c.in_err-after-in-Dtstart.ensures

pub returns-in_err-after-in-Dtend : goal.returns-in_err-after-in-Dtend
returns-in_err-after-in-Dtend c =
    no_value dtend Dtend _ c.args.text.now _ c.in-Dtend.is c.from_residual-in_err-after-in-Dtend.ensures (λ q e. owned q Dtend e) c.in_err-after-in-Dtend.ensures

pub returns-in_err-after-in-Rdate : goal.returns-in_err-after-in-Rdate
returns-in_err-after-in-Rdate c =
    no_value rdate Rdate _ c.args.text.now _ c.in-Rdate.is c.from_residual-in_err-after-in-Rdate.ensures (λ q e. owned q Rdate e) c.in_err-after-in-Rdate.ensures

pub returns-in_err-after-in-Basis : goal.returns-in_err-after-in-Basis
returns-in_err-after-in-Basis c =
    no_value basis Basis _ c.args.text.now _ c.in-Basis.is c.from_residual-in_err-after-in-Basis.ensures (λ q e. owned q Basis e) c.in_err-after-in-Basis.ensures

pub returns-in_err-after-in-Summary : goal.returns-in_err-after-in-Summary
returns-in_err-after-in-Summary c =
    no_value summary Summary _ c.args.text.now _ c.in-Summary.is c.from_residual-in_err-after-in-Summary.ensures (λ q e. owned q Summary e)
    (λ t s. let title = titled t s.0 in c.in_err-after-in-Summary.ensures title.0 (t, (s.0, title.1), s.1))

use Rattle.std.proofs.Common.{◌+◌, Err, ap, ◌∙◌}
use Rattle.std.proofs.lemmas.Result.{err_from_is_err_and}
use Rattle.message.specs.Reader.{state_of}
use Rattle.message.proofs.Alone.{alone}
use Rattle.message.proofs.Ending.{goes_on, some_read, none_read, no_line_there, no_step_there, at_end}
use Rattle.message.proofs.kinds.Message.read.Goals as goal

pub returns-in_err-line : goal.returns-in_err-line
returns-in_err-line c =
    let p = err_from_is_err_and c.from_residual.result c.from_residual.ensures.1 in
    let refused = no_line_there c.args.text.now c.loop-line.lines (state_of c.loop-line.reading) _ c.loop-line.invariant.0 c.loop-line.invariant.1 c.in_err-line.ensures.0 in
    rw (p.1, p.2) (record { reads = refused; alone = alone c.args.text.now (Err _) refused })

pub loop-line-preserved : goal.loop-line-preserved
loop-line-preserved c =
    let read = some_read c.loop-line.lines c.next.new.self c.in_ok-line.field-0 c.in-Some.line c.in-Some.is c.in_ok-line.ensures in
    goes_on c.args.text.now c.loop-line.lines c.next.new.self c.in-Some.line (state_of c.loop-line.reading) (state_of c.take.new.self) c.loop-line.invariant.0 c.loop-line.invariant.1 read.1 c.in_ok-take.ensures

pub returns-in_err-take : goal.returns-in_err-take
returns-in_err-take c =
    let read = some_read c.loop-line.lines c.next.new.self c.in_ok-line.field-0 c.in-Some.line c.in-Some.is c.in_ok-line.ensures in
    let p = err_from_is_err_and c.from_residual-in_err-take.result c.from_residual-in_err-take.ensures.1 in
    let refused = no_step_there c.args.text.now c.loop-line.lines c.next.new.self c.in-Some.line (state_of c.loop-line.reading) _ c.loop-line.invariant.0 read.0 c.loop-line.invariant.1 read.1 c.in_err-take.ensures in
    rw (p.1, p.2) (record { reads = refused; alone = alone c.args.text.now (Err _) refused })

pub returns : goal.returns
returns c =
    let read = none_read c.loop-line.lines c.next.new.self c.in_ok-line.field-0 c.in_default.is c.in_ok-line.ensures in
    let reads = at_end c.args.text.now c.loop-line.lines (state_of c.loop-line.reading) c.upcoming.result c.finish.result c.loop-line.invariant.0 read.0 read.1 (c.upcoming.ensures ∙ ap (λ n. n + 1) read.2.counted) c.loop-line.invariant.1 c.finish.ensures in
    record { reads = reads; alone = alone c.args.text.now c.finish.result reads }

use Rattle.std.proofs.Common.{rules}
use Rattle.carrier.specs.Fating.{bad_digit}
use Rattle.carrier.proofs.kinds.Plan.read.Goals as goal

pub returns-in_err-try_from : goal.returns-in_err-try_from
returns-in_err-try_from c = bad_digit c.args.digits.now c.loop-digit.digit-index c.try_from.result _ c.loop-digit-test.true (search rules) (search rules)

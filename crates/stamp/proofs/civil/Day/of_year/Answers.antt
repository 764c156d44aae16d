use Rattle.std.proofs.Common.{◌<◌, arith, rules}
use Rattle.stamp.proofs.Sums.{sum_none, months_more, months_last}
use Rattle.stamp.proofs.civil.Day.of_year.Goals as goal

pub loop-month-init : goal.loop-month-init
loop-month-init c = search (rules, sum_none)

pub loop-month-preserved : goal.loop-month-preserved
loop-month-preserved c = search (rules, months_more)

pub invariant_of-result-2 : goal.invariant_of-result-2
invariant_of-result-2 c =
    let p : c.loop-month.left < 31 = months_last c.args.year c.loop-month.month c.loop-month.left c.args.days (omega arith) c.loop-month.invariant c.requires.1.1 in
    search rules

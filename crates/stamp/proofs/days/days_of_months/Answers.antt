use Rattle.std.proofs.Common.{rules}
use Rattle.stamp.proofs.Sums.{sum_none, sum_more}
use Rattle.stamp.proofs.days.days_of_months.Goals as goal

pub loop-month-init : goal.loop-month-init
loop-month-init c = search (rules, sum_none)

pub loop-month-preserved : goal.loop-month-preserved
loop-month-preserved c = search (rules, sum_more)

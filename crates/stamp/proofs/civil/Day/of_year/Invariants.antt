use Rattle.std.proofs.Common.{◌≡◌, ◌+◌, ◌-◌}
use Rattle.stamp.specs.Calendar.{days_of_months}
use Rattle.stamp.proofs.civil.Day.of_year.Given as goal

abbrev pub invariant-loop-month : goal.invariant-loop-month
invariant-loop-month l = days_of_months l.year (l.month - 1) + l.left ≡ l.days

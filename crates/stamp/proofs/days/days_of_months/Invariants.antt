use Rattle.std.proofs.Common.{◌≡◌, ◌*◌, ◌≤◌}
use Rattle.stamp.specs.Calendar.{days_of_months}
use Rattle.stamp.proofs.days.days_of_months.Given as goal

abbrev pub invariant-loop-month : goal.invariant-loop-month
invariant-loop-month l = (l.days ≡ days_of_months l.year l.month) × (l.days ≤ 31 * l.month)

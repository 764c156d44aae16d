use Rattle.std.proofs.Common.{arith}
use Rattle.stamp.proofs.Texts.{read_day}
use Rattle.stamp.proofs.civil.Day.read.Goals as goal

pub returns : goal.returns
returns c =
    read_day c.args.digits c.new.result c.in_ok-century.century c.in_ok-year.year c.in_ok-month.month c.in_ok-day.day (omega arith) c.in_ok-year.ensures.0 c.in_ok-century.ensures.1 c.in_ok-year.ensures.1 c.in_ok-month.ensures.1 c.in_ok-day.ensures.1 c.new.ensures

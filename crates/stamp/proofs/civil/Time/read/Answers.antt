use Rattle.std.proofs.Common.{arith}
use Rattle.stamp.proofs.Texts.{read_time}
use Rattle.stamp.proofs.civil.Time.read.Goals as goal

pub returns : goal.returns
returns c =
    read_time c.args.digits c.new.result c.in_ok-hour.hour c.in_ok-minute.minute c.in_ok-second.second (omega arith) c.in_ok-hour.ensures.1 c.in_ok-minute.ensures.1 c.in_ok-second.ensures.1 c.new.ensures

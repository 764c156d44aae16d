use Rattle.std.proofs.Common.{arith}
use Rattle.message.proofs.Places.{date_at}
use Rattle.message.proofs.kinds.Periods.value.Goals as goal

pub returns-in_default : goal.returns-in_default
returns-in_default c = date_at c.args.self.now c.args.place _ (omega arith) (omega arith)

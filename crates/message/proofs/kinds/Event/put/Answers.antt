use Rattle.message.proofs.Places.{put_value}
use Rattle.message.proofs.kinds.Event.put.Goals as goal

pub returns-in-Rdate : goal.returns-in-Rdate
returns-in-Rdate c = put_value c.args.method c.args.read c.args.self.now c.in-Rdate.date c.args.value.now _ c.in-Rdate.is c.requires.0

use Rattle.std.proofs.Common.{sym}
use Rattle.message.proofs.Places.{request_parts}
use Rattle.message.proofs.kinds.Event.body.Goals as goal

pub returns-in-Request : goal.returns-in-Request
returns-in-Request c = record {
  method = sym c.in-Request.is;
  parts = request_parts c.args.method c.args.read c.args.self.now c.dates.result c.in-Request.is c.requires.0 c.requires.1 c.dates.ensures.first c.dates.ensures.further;
}

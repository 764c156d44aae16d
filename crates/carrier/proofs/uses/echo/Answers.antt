use Rattle.std.proofs.Common.{arith}
use Rattle.carrier.specs.Mail.{letter}
use Rattle.carrier.proofs.Echoes.{echoed}
use Rattle.carrier.proofs.uses.echo.Goals as goal

pub returns : goal.returns
returns g c =
    echoed (letter c.args.to.number c.args.text.now) c.args.buffer.now c.fetch.new.buffer (g.C.Carrier.mail c.args.carrier.now) (g.C.Carrier.mail c.post.new.self) (g.C.Carrier.mail c.fetch.new.self) c.fetch.result (omega arith) c.in_ok-post.ensures c.fetch.ensures

use Rattle.std.proofs.Common.{sym}
use Rattle.lines.specs.Steps.{content_of}
use Rattle.message.proofs.Insides.{ended, added}
use Rattle.message.proofs.progress.Reading.step.Goals as goal

pub returns-in-Inside-End : goal.returns-in-Inside-End
returns-in-Inside-End c = ended c.in-Inside-End.method (content_of c.args.line.now) c.args.self.now c.close.new.self c.close.result c.in-Inside-End.is-0 (sym c.in-Inside-End.ensures) c.close.ensures

pub returns-in-Inside-Listed : goal.returns-in-Inside-Listed
returns-in-Inside-Listed c = added c.in-Inside-Listed.method c.in-Inside-Listed.property (content_of c.args.line.now) c.args.self.now c.add.new.self c.add.result c.in-Inside-Listed.is-0 (sym c.in-Inside-Listed.ensures) c.add.ensures

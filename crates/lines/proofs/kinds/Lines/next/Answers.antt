use Rattle.std.proofs.Common.{rules}
use Rattle.lines.proofs.Places.{no_line, stands, behind}
use Rattle.lines.proofs.kinds.Lines.next.Goals as goal

pub returns-in_default : goal.returns-in_default
returns-in_default c = let n = no_line c.args.self.now.text.now c.args.self.now.at c.in_default.ensures in search rules

pub returns : goal.returns
returns c = let s = stands c.args.self.now.text.now c.args.self.now.at c.in-Some.colon c.in-Some.end c.in-Some.ensures in let v = behind c.in-Some.colon c.in-Some.end c.args.self.now.text.now in search rules

use Rattle.std.proofs.Common.{◌≡◌, ◌-◌, false, length}
use Rattle.message.specs.Grammar.{Led}
use Rattle.message.specs.Reader.{state_of}
use Rattle.message.proofs.kinds.Message.read.Given as goal

abbrev pub invariant-loop-line : goal.invariant-loop-line
invariant-loop-line l = (l.lines.text.now ≡ l.text) × Led false l.text l.lines.at l.lines.number (state_of l.reading)

abbrev pub decreases-loop-line : goal.decreases-loop-line
decreases-loop-line l = length l.text - l.lines.at

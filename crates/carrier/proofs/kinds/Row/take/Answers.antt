use Rattle.std.proofs.Common.{vec_items, arith}
use Rattle.carrier.specs.Places.{letters-length, taken_out}
use Rattle.carrier.proofs.kinds.Row.take.Goals as goal

pub returns-clause-taken : goal.returns-clause-taken
returns-clause-taken c =
    taken_out (vec_items c.args.self.now.slots) (vec_items c.remove-slot.new.self) c.args.place c.copy_to.result c.remove-slot.result c.args.buffer.now c.copy_to.new.buffer (omega (arith, letters-length c.args.self.now, c.requires.there, c.args.self.now.slots.ok.0)) c.remove-slot.ensures.value c.remove-slot.ensures.by_index.2 (omega (arith, c.copy_to.ensures.size, c.remove-slot.result.some)) c.copy_to.ensures.front c.copy_to.ensures.rest

use Rattle.std.proofs.Common.{vec_items}
use Rattle.store.specs.Newest.{wrote_push, now_obsolete}
use Rattle.store.proofs.writing.add.Goals as goal

pub returns-clause-obsolete : goal.returns-clause-obsolete
returns-clause-obsolete c = λ p newest. now_obsolete (vec_items c.args.entries.now) (vec_items c.push_reserved.new.self) p c.args.entry newest c.push_reserved.ensures.items

pub returns-clause-wrote : goal.returns-clause-wrote
returns-clause-wrote c = wrote_push (vec_items c.args.entries.now) (vec_items c.push_reserved.new.self) c.args.entry c.push_reserved.ensures.items

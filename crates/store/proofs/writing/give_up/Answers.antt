use Rattle.std.proofs.Common.{vec_items}
use Rattle.store.specs.Newest.{row_given_up}
use Rattle.store.proofs.writing.give_up.Goals as goal

pub returns-clause-rows : goal.returns-clause-rows
returns-clause-rows c = row_given_up (vec_items c.args.entries.now) (vec_items c.remove.new.self) c.args.place c.requires c.remove.ensures.by_index.2

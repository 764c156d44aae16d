use Rattle.std.proofs.Common.{vec_items}
use Rattle.store.specs.Newest.{wrote_set}
use Rattle.store.proofs.writing.OverwriteSupersede0.supersede.Goals as goal

pub returns-clause-wrote : goal.returns-clause-wrote
returns-clause-wrote c = wrote_set (vec_items c.args.entries.now) c.args.place c.args.entry c.requires.newest

use Rattle.std.proofs.Common.{rules}
use Rattle.store.specs.Newest.{newest_found}
use Rattle.store.proofs.entries.find.Goals as goal

pub returns : goal.returns
returns c = newest_found _ _ _ (search rules)

use Rattle.std.proofs.Common.{Some, None, refl, arith}
use Rattle.store.specs.Entries.{bytes_in, row_in}
use Rattle.store.specs.Newest.{gets, row_some, row_none}
use Rattle.store.proofs.entries.get_from.Goals as goal

pub returns-in-Some : goal.returns-in-Some
returns-in-Some c =
    let found = c.in-Some.ensures in
    gets c.args.key.number c.copy_to.result _ _ (row_in c.args.entries.now) (Some (bytes_in c.index-entries-place.result)) (row_some _ c.args.entries.now c.in-Some.place c.index-entries-place.result found.0 c.index-entries-place.is found.1 found.2) (omega arith) (omega arith) c.copy_to.ensures.size c.copy_to.ensures.whole

pub returns-in-None : goal.returns-in-None
returns-in-None c = gets c.args.key.number 0 _ _ (row_in c.args.entries.now) None (row_none _ c.args.entries.now c.in-None.ensures) (omega arith) (omega arith) refl refl

use Rattle.std.proofs.Common.{sym, refl, ◌∙◌, arith}
use Rattle.store.specs.Rows.{NotSet}
use Rattle.store.specs.Newest.{row_none}
use Rattle.store.specs.Keeping.{put_again, held_as_before, one_more_held}
use Rattle.store.proofs.calls.EntryStoreStore.put.Goals as goal

pub invariant_of-self : goal.invariant_of-self
invariant_of-self g c =
    let newest = rw c.as_slice.ensures.value at c.in-Some.ensures in
    record {
      size = c.args.self.now.size;
      within = omega (arith, c.supersede.ensures.len, c.args.self.now.within);
      reserved = omega (arith, c.supersede.ensures.capacity, c.args.self.now.reserved);
      apart = held_as_before c.in_ok-entry.ensures c.supersede.ensures.wrote c.in-Some.place newest ∙ c.args.self.now.apart ∙ sym c.supersede.ensures.len;
    }

pub returns-in-Some : goal.returns-in-Some
returns-in-Some g c =
    let newest = rw c.as_slice.ensures.value at c.in-Some.ensures in
    put_again c.in_ok-entry.ensures c.supersede.ensures.wrote _ newest

pub returns-then-len-self : goal.returns-then-len-self
returns-then-len-self g c =
    let newest = rw c.as_slice.ensures.value at c.in-None.ensures in
    (NotSet.full c.new-then-len-self.ensures c.in_ok-entry.ensures.fit (row_none _ _ newest) (omega (arith, c.args.self.now.apart, c.args.self.now.within, c.if-len-self.true, c.len.ensures)), record { rows = λ k. refl; capacity = refl })

pub invariant_of-self-in-None : goal.invariant_of-self-in-None
invariant_of-self-in-None g c =
    let newest = rw c.as_slice.ensures.value at c.in-None.ensures in
    record {
      size = c.args.self.now.size;
      within = omega (arith, c.add.ensures.len, c.if-len-self.false, c.len.ensures);
      reserved = omega (arith, c.add.ensures.capacity, c.args.self.now.reserved);
      apart = omega (arith, one_more_held c.in_ok-entry.ensures c.add.ensures.wrote newest, c.args.self.now.apart, c.add.ensures.len);
    }

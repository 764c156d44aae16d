use Rattle.std.proofs.Common.{List, sym, ap, ◌∙◌, arith}
use Rattle.store.specs.declared.entry.Entry.{Entry}
use Rattle.store.specs.Rows.{held_in}
use Rattle.store.specs.Entries.{row_in}
use Rattle.store.specs.Held.{none_held}
use Rattle.store.proofs.stores.EntryStore.of.Goals as goal

pub invariant_of-result : goal.invariant_of-result
invariant_of-result g c =
    let made = c.in_ok-entries.ensures in
    record {
      size = (omega arith, omega arith);
      within = omega (arith, made.len);
      reserved = omega (arith, made.capacity);
      apart = ap (λ (es : List Entry). held_in (row_in es)) made.items ∙ none_held ∙ sym made.len;
    }

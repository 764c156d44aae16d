use Rattle.std.proofs.Common.{◌≡◌, ◌==◌, ◌∙◌, sym, rules, vec_items, count_by}
use Rattle.carrier.specs.Places.{count_slots}
use Rattle.carrier.specs.declared.kinds.Slot.{Slot}
use Rattle.carrier.proofs.kinds.Row.count_for.Goals as goal

pub returns : goal.returns
returns c =
    let counted : c.count.result ≡ count_by (λ (s : Slot). s.to.number == c.args.to.number) (vec_items c.args.self.now.slots) = search rules in
    counted ∙ sym (count_slots c.args.to.number (vec_items c.args.self.now.slots))

use Rattle.std.proofs.Common.{sym, refl, ◌∙◌}
use Rattle.property.specs.Values.{part_of}
use Rattle.message.proofs.Insides.{one_more}
use Rattle.message.proofs.progress.Reading.add.Goals as goal

pub returns : goal.returns
returns c =
    let v = c.in-Some.ensures in
    let w = sym c.wanted-wanted.ensures ∙ v.0 in
    (part_of c.in-Some.value, record { wanted_next = w; listed = v.1; belonging = v.2; said = v.3 }, refl, one_more c.args.method c.args.self.now.read c.args.self.now.event c.put.new.self _ w c.put.ensures)

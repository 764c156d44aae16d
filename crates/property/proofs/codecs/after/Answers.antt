use Rattle.property.proofs.Owned.{read_after}
use Rattle.property.proofs.codecs.after.Goals as goal

pub returns : goal.returns
returns g c = read_after _ c.args.mark.now c.args.text.now c.in_ok-strip.field-0.now c.read.result c.in_ok-strip.ensures c.read.ensures

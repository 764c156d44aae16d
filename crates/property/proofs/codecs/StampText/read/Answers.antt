use Rattle.property.proofs.Owned.{read_stamp}
use Rattle.property.proofs.codecs.StampText.read.Goals as goal

pub returns : goal.returns
returns c = read_stamp c.args.text.now c.read.result c.read.ensures

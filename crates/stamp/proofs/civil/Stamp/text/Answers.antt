use Rattle.stamp.proofs.Stamps.{written}
use Rattle.stamp.proofs.civil.Stamp.text.Goals as goal

pub returns : goal.returns
returns c =
    written c.args.self.seconds c.text.result c.text-2.result c.civil.result.0 c.civil.result.1 (c.is_real.ensures.0 c.if-not-is_real.false) c.text.ensures c.text-2.ensures c.civil.ensures

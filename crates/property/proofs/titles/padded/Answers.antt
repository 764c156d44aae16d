use Rattle.property.proofs.Texts.{zeros_left}
use Rattle.property.proofs.titles.padded.Goals as goal

pub returns : goal.returns
returns c = zeros_left _ _ c.copy_from_slice.ensures.after

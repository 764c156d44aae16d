use Rattle.std.proofs.Common.{◌∙◌}
use Rattle.writer.proofs.Written.{head_is}
use Rattle.writer.proofs.texts.put_head.Goals as goal

pub returns-clause-value : goal.returns-clause-value
returns-clause-value c = c.put_all.ensures ∙ rw c.requires (head_is c.args.method _ (c.as_bytes.ensures.value ∙ c.name.ensures.value))

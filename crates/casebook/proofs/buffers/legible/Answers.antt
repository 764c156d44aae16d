use Rattle.std.proofs.Common.{refl, ap, ◌∙◌}
use Rattle.casebook.proofs.Legible.{read_or}
use Rattle.casebook.proofs.buffers.legible.Goals as goal

pub returns : goal.returns
returns c = ap (λ s. s.now) c.unwrap_or.ensures ∙ read_or (λ s. s.now) _ c.args.bytes.now c.from_utf8.result _ c.from_utf8.ensures.cases refl

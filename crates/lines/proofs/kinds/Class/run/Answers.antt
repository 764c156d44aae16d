use Rattle.std.proofs.Common.{arith, ap, ◌∙◌, length, sym}
use Rattle.lines.specs.Bytes.{in_class}
use Rattle.lines.proofs.Places.{every_from, get_d_part}
use Rattle.lines.proofs.kinds.Class.run.Goals as goal

pub returns-clause-all : goal.returns-clause-all
returns-clause-all c =
    let text = c.args.text.now in
    every_from (in_class c.args.self) text c.args.at _ (λ k h. ap (in_class c.args.self) (sym (get_d_part c.args.at (length text) k text (omega (arith, c.front.ensures.within)))) ∙ c.front.ensures.all k (omega arith))

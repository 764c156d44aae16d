use Rattle.std.proofs.Common.{[], ◌∷◌, ◌++◌, map, ap, ◌∙◌, arith}
use Rattle.std.proofs.lemmas.Bool.Decides.{not_from_Decides}
use Rattle.std.proofs.lemmas.List.{map_push}
use Rattle.carrier.specs.Mail.{Letter}
use Rattle.carrier.specs.Queues.{letter_in, letters}
use Rattle.carrier.specs.Places.{letters-length}
use Rattle.carrier.specs.Counting.{row_takes}
use Rattle.carrier.proofs.kinds.Row.post.Goals as goal

pub returns-clause-posted : goal.returns-clause-posted
returns-clause-posted c =
    let last = ap (map letter_in) c.push_reserved.ensures.items ∙ map_push letter_in _ _ ∙ ap (λ (x : Letter). letters c.args.self.now ++ (x ∷ [])) c.new-2.ensures in
    row_takes _ c.args.self.now _ c.in_ok-check_letter.ensures (omega (arith, letters-length c.args.self.now, c.args.self.now.held, not_from_Decides c.is_full.result c.is_full.ensures c.if-is_full.false)) last

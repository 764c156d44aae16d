use Rattle.std.proofs.Common.{◌<◌, rules}
use Rattle.carrier.specs.Places.{picks}
use Rattle.carrier.proofs.kinds.Row.first_for.Goals as goal

pub returns : goal.returns
returns c = picks (λ k i. k < i) _ _ _ (search rules)

use Rattle.std.proofs.Common.{◌<◌, rules}
use Rattle.carrier.specs.Places.{picks}
use Rattle.carrier.proofs.kinds.Row.last_for.Goals as goal

pub returns : goal.returns
returns c = picks (λ k i. i < k) _ _ _ (search rules)

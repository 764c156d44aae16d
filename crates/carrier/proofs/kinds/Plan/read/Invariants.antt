use Rattle.std.proofs.Common.{◌≡◌, ◌≤◌, map, length, take, vec_items, vec_len, vec_capacity}
use Rattle.carrier.specs.Fates.{digit_of}
use Rattle.carrier.proofs.kinds.Plan.read.Given as goal

abbrev pub invariant-loop-digit : goal.invariant-loop-digit
invariant-loop-digit l = (take l.digit-index l.digits ≡ map digit_of (vec_items l.fates)) × (vec_len l.fates ≡ l.digit-index) × (length l.digits ≤ vec_capacity l.fates)

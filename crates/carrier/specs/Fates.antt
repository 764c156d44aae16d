-- Losing and doubling by plan.
use Rattle.std.specs.Prelude.{◌≡◌, ℕ, ◌+◌, ◌%◌, ◌<◌, ◌≤◌, false, List, map, length, Ok, Err, vec_items, Result, ◌≢◌, slice_index_or}
use Rattle.fault.specs.declared.kinds.Cause.TheVariants.{Range}
use Rattle.fault.specs.declared.kinds.Fault.{Fault}
use Rattle.fault.specs.declared.kinds.Layer.TheVariants.{Carrier}
use Rattle.fault.specs.declared.kinds.NotMade.{NotMade}
use Rattle.fault.specs.declared.kinds.NotMade.TheVariants.{Refused, Memory}
use Rattle.fault.specs.Numbers.{told}
use Rattle.carrier.specs.declared.kinds.Fate.{Fate}
use Rattle.carrier.specs.declared.kinds.Fate.TheVariants.{Lost, Carried, Doubled}
use Rattle.carrier.specs.declared.kinds.Plan.{Plan}
use Rattle.carrier.specs.Mail.{Letter, Mail, Fit}
use Rattle.carrier.specs.Posts.{Takes, NotTaken, Posted}

-- the digit of a fate in a plan's text: how often the letter is posted below
abbrev pub digit_of : Fate → ℕ
digit_of Lost = 48
digit_of Carried = 49
digit_of Doubled = 50

abbrev pub fates_of : Plan → List Fate
fates_of p = vec_items p.fates

-- the fate at a place of a plan
abbrev pub fate_at : Plan → ℕ → Fate
fate_at p i = slice_index_or (fates_of p) i Carried

-- what reading a fate from a digit answers
abbrev pub ReadsFate : ℕ → Result Fate Fault → Type 0
ReadsFate digit (Ok f) = digit ≡ digit_of f
ReadsFate digit (Err e) = (e ≡ told Carrier Range) × ((f : Fate) → digit ≢ digit_of f)

-- what reading a plan from its digits answers
abbrev pub ReadsPlan : List ℕ → Result Plan NotMade → Type 0
ReadsPlan digits (Ok p) = digits ≡ map digit_of (fates_of p)
ReadsPlan digits (Err (Refused f)) = (f ≡ told Carrier Range) × ((fates : List Fate) → 1 ≤ length fates → length fates ≤ 64 → digits ≢ map digit_of fates)
ReadsPlan digits (Err Memory) = (1 ≤ length digits) × (length digits ≤ 64)

-- the same mail, in a carrier that is not faithful
abbrev pub unfaithful : Mail → Mail
unfaithful m = record { waiting = m.waiting; capacity = m.capacity; faithful = false }

-- what becomes of the mail below when an accepted letter meets its fate. A second post that is refused changes nothing
abbrev pub Fated : Fate → Letter → Mail → Mail → Type 0
Fated Lost l before after = after ≡ before
Fated Carried l before after = Takes l before after
Fated Doubled l before after = (once : Mail) × (second : Result (Unit {0}) Fault) × Takes l before once × Posted l once after second

-- a letter is refused as the carrier below would refuse it; else it meets its fate
abbrev pub PostedAs : Fate → Letter → Mail → Mail → Result (Unit {0}) Fault → Type 0
PostedAs fate l before after (Ok _) = Fit l × (length before.waiting < before.capacity) × Fated fate l before after
PostedAs fate l before after (Err f) = NotTaken l before f × (after ≡ before)

-- an accepted post uses one fate of the plan, and a refused one none
abbrev pub MovesOn : ℕ → ℕ → ℕ → Result (Unit {0}) Fault → Type 0
MovesOn size before after (Ok _) = after ≡ (before + 1) % size
MovesOn size before after (Err f) = after ≡ before

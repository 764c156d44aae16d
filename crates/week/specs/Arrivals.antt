-- What an arrival is read as.
use Rattle.std.specs.Prelude.{◌≡◌, ℕ, ◌≤◌, List, [], ◌∷◌, Some, Ok, Err, Result}
use Rattle.fault.specs.declared.kinds.Cause.TheVariants.{Malformed}
use Rattle.fault.specs.declared.kinds.Fault.{Fault}
use Rattle.fault.specs.declared.kinds.Layer.TheVariants.{Properties}
use Rattle.fault.specs.declared.kinds.Property.{Property}
use Rattle.fault.specs.declared.kinds.Property.TheVariants.{Sequence, Dtstamp}
use Rattle.fault.specs.Numbers.{told, wanting}
use Rattle.rank.specs.declared.kinds.Revision.{Revision}
use Rattle.stamp.specs.Stamps.{Real}

-- a damaged property
abbrev pub damaged : Property → Fault
damaged p = wanting (told Properties Malformed) (Some p)

abbrev pub rank_of : Revision → List ℕ
rank_of r = r.sequence.number ∷ (r.dtstamp.seconds ∷ [])

-- which property is damaged
pub data Refuses (f : Fault) : Type 0 where
  sequence : f ≡ damaged Sequence → Refuses f
  stamp : f ≡ damaged Dtstamp → Refuses f

-- what is read has a SEQUENCE and a stamp in their ranges; a refusal names the property that is damaged
abbrev pub ReadsRevision : Result Revision Fault → Type 0
ReadsRevision (Ok r) = Real r.dtstamp.seconds × (r.sequence.number ≤ 9999)
ReadsRevision (Err f) = Refuses f

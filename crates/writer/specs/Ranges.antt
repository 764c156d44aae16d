-- Which values are in their ranges.
use Rattle.std.specs.Prelude.{◌≤◌, Some, None, Option}
use Rattle.stamp.specs.Stamps.{Real}
use Rattle.property.specs.declared.kinds.Door.{Door}
use Rattle.property.specs.declared.kinds.Heard.{Heard}
use Rattle.property.specs.declared.kinds.Attendee.{Attendee}
use Rattle.property.specs.declared.kinds.Attendee.TheVariants.{Invited, Answering}
use Rattle.property.specs.Values.{Part, uid, dtstamp, sequence, organizer, attendee, summary, dtstart, dtend, rdate, status, basis, TitleText}

-- a door that is one, and what was heard of it with a stamp that is one
abbrev pub DoorRanged : Door → Type 0
DoorRanged d = (1 ≤ d.number) × (d.number ≤ 8)

abbrev pub HeardRanged : Option Heard → Type 0
HeardRanged None = Unit {0}
HeardRanged (Some h) = Real h.at.seconds

abbrev pub AttendeeRanged : Attendee → Type 0
AttendeeRanged (Invited d h) = DoorRanged d × HeardRanged h
AttendeeRanged (Answering d a) = DoorRanged d

-- a part whose values are in their ranges
abbrev pub Ranged : Part → Type 0
Ranged (uid m) = (1 ≤ m.number) × (m.number ≤ 32)
Ranged (dtstamp s) = Real s.seconds
Ranged (sequence n) = n.number ≤ 9999
Ranged organizer = Unit {0}
Ranged (attendee a) = AttendeeRanged a
Ranged (summary t) = TitleText t
Ranged (dtstart s) = Real s.seconds
Ranged (dtend s) = Real s.seconds
Ranged (rdate p) = Real p.start.seconds × Real p.end.seconds
Ranged status = Unit {0}
Ranged (basis s) = Real s.seconds

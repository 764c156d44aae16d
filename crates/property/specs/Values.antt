-- What a property says, and how it is written: a line is the property's name and its text, which begins with `:` or `;`.
use Rattle.std.specs.Prelude.{◌≡◌, ℕ, ◌<◌, ◌≤◌, true, List, ◌∷◌, ◌++◌, length, take, Some, None, codes, Option, slice_index}
use Rattle.fault.specs.declared.kinds.Property.{Property}
use Rattle.fault.specs.declared.kinds.Property.TheVariants as property
use Rattle.stamp.specs.declared.civil.Stamp.{Stamp}
use Rattle.stamp.specs.Stamps.{Stamped}
use Rattle.rank.specs.declared.kinds.Sequence.{Sequence}
use Rattle.property.specs.declared.kinds.Meeting.{Meeting}
use Rattle.property.specs.declared.kinds.Door.{Door}
use Rattle.property.specs.declared.kinds.Answer.{Answer}
use Rattle.property.specs.declared.kinds.Answer.TheVariants.{Accepted, Declined, Tentative}
use Rattle.property.specs.declared.kinds.Attendee.{Attendee}
use Rattle.property.specs.declared.kinds.Attendee.TheVariants.{Invited, Answering}
use Rattle.property.specs.declared.kinds.Title.{Title}
use Rattle.property.specs.declared.kinds.Period.{Period}
use Rattle.property.specs.declared.kinds.Value.{Value}
use Rattle.property.specs.declared.kinds.Value.TheVariants as value
use Rattle.property.specs.Bytes.{title_byte, digit, four, plain}

-- the bytes of a title
abbrev pub title_text : Title → List ℕ
title_text t = take t.len t.bytes

-- what a value says: the value, with a title by its bytes
pub data Part : Type 0 where
  uid : Meeting → Part
  dtstamp : Stamp → Part
  sequence : Sequence → Part
  organizer : Part
  attendee : Attendee → Part
  summary : List ℕ → Part
  dtstart : Stamp → Part
  dtend : Stamp → Part
  rdate : Period → Part
  status : Part
  basis : Stamp → Part

abbrev pub part_of : Value → Part
part_of (value.Uid m) = uid m
part_of (value.Dtstamp s) = dtstamp s
part_of (value.Sequence n) = sequence n
part_of value.Organizer = organizer
part_of (value.Attendee a) = attendee a
part_of (value.Summary t) = summary (title_text t)
part_of (value.Dtstart s) = dtstart s
part_of (value.Dtend s) = dtend s
part_of (value.Rdate p) = rdate p
part_of value.Status = status
part_of (value.Basis s) = basis s

-- the property that a part belongs to
abbrev pub property_of : Part → Property
property_of (uid m) = property.Uid
property_of (dtstamp s) = property.Dtstamp
property_of (sequence n) = property.Sequence
property_of organizer = property.Organizer
property_of (attendee a) = property.Attendee
property_of (summary t) = property.Summary
property_of (dtstart s) = property.Dtstart
property_of (dtend s) = property.Dtend
property_of (rdate p) = property.Rdate
property_of status = property.Status
property_of (basis s) = property.Basis

-- a property's name
abbrev pub name_text : Property → List ℕ
name_text property.Uid = codes "UID"
name_text property.Dtstamp = codes "DTSTAMP"
name_text property.Sequence = codes "SEQUENCE"
name_text property.Organizer = codes "ORGANIZER"
name_text property.Attendee = codes "ATTENDEE"
name_text property.Summary = codes "SUMMARY"
name_text property.Dtstart = codes "DTSTART"
name_text property.Dtend = codes "DTEND"
name_text property.Rdate = codes "RDATE"
name_text property.Status = codes "STATUS"
name_text property.Basis = codes "X-BASIS"

-- `mNNNN@doors`
pub record MeetingText (m : Meeting) (text : List ℕ) : Type 0 where
  pub first : 1 ≤ m.number
  pub last : m.number ≤ 32
  pub written : text ≡ codes "m" ++ (four m.number ++ codes "@doors")

-- `:mailto:dN@doors`
pub record DoorText (d : Door) (text : List ℕ) : Type 0 where
  pub first : 1 ≤ d.number
  pub last : d.number ≤ 8
  pub written : text ≡ codes ":mailto:d" ++ (digit d.number ∷ codes "@doors")

-- decimal digits without a leading zero
pub record SequenceText (n : Sequence) (text : List ℕ) : Type 0 where
  pub last : n.number ≤ 9999
  pub written : text ≡ plain n.number

-- 1 to 40 bytes that may stand in a title
pub record TitleText (text : List ℕ) : Type 0 where
  pub some : 1 ≤ length text
  pub short : length text ≤ 40
  pub fit : (k : ℕ) → k < length text → title_byte (slice_index text k) ≡ true

-- `start/end`
pub record PeriodText (p : Period) (text : List ℕ) : Type 0 where
  pub start : List ℕ
  pub end : List ℕ
  pub started : Stamped p.start.seconds start
  pub ended : Stamped p.end.seconds end
  pub written : text ≡ start ++ (47 ∷ end)

-- an answer as PARTSTAT has it, and the answer that the site shows
abbrev pub answer_text : Answer → List ℕ
answer_text Accepted = codes "ACCEPTED"
answer_text Declined = codes "DECLINED"
answer_text Tentative = codes "TENTATIVE"

abbrev pub shown_text : Option Answer → List ℕ
shown_text None = codes "NEEDS-ACTION"
shown_text (Some a) = answer_text a

-- the stamp of the REPLY that the site holds: `;X-REPLY=` and the stamp
pub record ReplyText (s : Stamp) (text : List ℕ) : Type 0 where
  pub at : List ℕ
  pub stamped : Stamped s.seconds at
  pub written : text ≡ codes ";X-REPLY=" ++ at

-- what stands between `;PARTSTAT=` and `:mailto`: NEEDS-ACTION alone where the site holds no answer, else the answer shown and its stamp; a door's answer alone in a REPLY
abbrev pub Partstat : Attendee → List ℕ → Type 0
Partstat (Invited d None) text = text ≡ shown_text None
Partstat (Invited d (Some h)) text = (reply : List ℕ) × ReplyText h.at reply × (text ≡ shown_text h.shown ++ reply)
Partstat (Answering d a) text = text ≡ answer_text a

abbrev pub door_of : Attendee → Door
door_of (Invited d h) = d
door_of (Answering d a) = d

pub record AttendeeText (a : Attendee) (text : List ℕ) : Type 0 where
  pub status : List ℕ
  pub door : List ℕ
  pub said : Partstat a status
  pub named : DoorText (door_of a) door
  pub written : text ≡ codes ";PARTSTAT=" ++ (status ++ door)

-- a mark, and a text of a kind after it
abbrev pub After : List ℕ → (List ℕ → Type 0) → List ℕ → Type 0
After mark P text = (rest : List ℕ) × P rest × (text ≡ mark ++ rest)

-- the text of a part, from the separator on
abbrev pub Says : Part → List ℕ → Type 0
Says (uid m) text = After (codes ":") (MeetingText m) text
Says (dtstamp s) text = After (codes ":") (Stamped s.seconds) text
Says (sequence n) text = After (codes ":") (SequenceText n) text
Says organizer text = text ≡ codes ":mailto:site@doors"
Says (attendee a) text = AttendeeText a text
Says (summary t) text = TitleText t × (text ≡ codes ":" ++ t)
Says (dtstart s) text = After (codes ":") (Stamped s.seconds) text
Says (dtend s) text = After (codes ":") (Stamped s.seconds) text
Says (rdate p) text = After (codes ";VALUE=PERIOD:") (PeriodText p) text
Says status text = text ≡ codes ":CANCELLED"
Says (basis s) text = After (codes ":") (Stamped s.seconds) text

-- what reading the text of a property answers: its value, or none where the property never has this text
abbrev pub Reads : Property → List ℕ → Option Value → Type 0
Reads p text None = (q : Part) → property_of q ≡ p → Says q text → ⊥
Reads p text (Some v) = (property_of (part_of v) ≡ p) × Says (part_of v) text

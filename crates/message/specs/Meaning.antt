-- What a message says: a method, and the parts that its properties are.
use Rattle.std.specs.Prelude.{ℕ, Bool, true, false, List, [], ◌∷◌, map, take, Option}
use Rattle.std.specs.List.{slice_get}
use Rattle.fault.specs.declared.kinds.Property.{Property}
use Rattle.fault.specs.declared.kinds.Property.TheVariants as property
use Rattle.property.specs.declared.kinds.Attendee.{Attendee}
use Rattle.property.specs.declared.kinds.Attendee.TheVariants.{Invited, Answering}
use Rattle.property.specs.declared.kinds.Door.{Door}
use Rattle.property.specs.declared.kinds.Period.{Period}
use Rattle.property.specs.Values.{Part, uid, dtstamp, sequence, organizer, attendee, summary, dtstart, dtend, rdate, status, basis, title_text}
use Rattle.message.specs.declared.kinds.Method.{Method}
use Rattle.message.specs.declared.kinds.Method.TheVariants.{Request, Cancel, Reply}
use Rattle.message.specs.declared.kinds.Body.{Body}
use Rattle.message.specs.declared.kinds.Body.TheVariants as body
use Rattle.message.specs.declared.kinds.Message.{Message}
use Rattle.message.specs.declared.kinds.Periods.{Periods}
use Rattle.message.specs.declared.kinds.Stage.{Stage}
use Rattle.message.specs.declared.kinds.Stage.TheVariants as stage

-- the properties of a method, in the order in which they stand in a text
abbrev pub rest : Method → List Property
rest Request = property.Summary ∷ (property.Dtstart ∷ (property.Dtend ∷ (property.Rdate ∷ (property.Rdate ∷ (property.Rdate ∷ (property.Rdate ∷ (property.Rdate ∷ [])))))))
rest Cancel = property.Status ∷ []
rest Reply = property.Basis ∷ []

abbrev pub order : Method → List Property
order m = property.Uid ∷ (property.Dtstamp ∷ (property.Sequence ∷ (property.Organizer ∷ (property.Attendee ∷ rest m))))

-- how many of them an event must have: all but the further dates
abbrev pub required : Method → ℕ
required Request = 8
required Cancel = 6
required Reply = 6

-- how many must have been read at a stage: an event that has ended has them
abbrev pub needed : Stage → ℕ
needed stage.Calendar = 0
needed stage.Version = 0
needed stage.Product = 0
needed stage.Method = 0
needed (stage.Event m) = 0
needed (stage.Inside m) = 0
needed (stage.Closing m) = required m
needed (stage.Done m) = required m

-- the property that is wanted after the first n, or none where no more may stand
abbrev pub wanted : Method → ℕ → Option Property
wanted m n = slice_get (order m) n

-- in a REPLY a door answers, and in any other method the site invites
abbrev pub speaks : Method → Attendee → Bool
speaks Request (Invited d h) = true
speaks Request (Answering d a) = false
speaks Cancel (Invited d h) = true
speaks Cancel (Answering d a) = false
speaks Reply (Invited d h) = false
speaks Reply (Answering d a) = true

abbrev pub belongs : Method → Part → Bool
belongs m (uid n) = true
belongs m (dtstamp s) = true
belongs m (sequence n) = true
belongs m organizer = true
belongs m (attendee a) = speaks m a
belongs m (summary t) = true
belongs m (dtstart s) = true
belongs m (dtend s) = true
belongs m (rdate p) = true
belongs m status = true
belongs m (basis s) = true

abbrev pub further_of : Periods → List Period
further_of d = take d.count d.further

-- the first date has properties of its own
abbrev pub date_parts : Periods → List Part
date_parts d = dtstart d.first.start ∷ (dtend d.first.end ∷ map rdate (further_of d))

abbrev pub attendee_of : Door → Body → Attendee
attendee_of d (body.Request heard title dates) = Invited d heard
attendee_of d (body.Cancel heard) = Invited d heard
attendee_of d (body.Reply answer stamp) = Answering d answer

-- what stands behind ATTENDEE
abbrev pub later : Body → List Part
later (body.Request heard title dates) = summary (title_text title) ∷ date_parts dates
later (body.Cancel heard) = status ∷ []
later (body.Reply answer stamp) = basis stamp ∷ []

abbrev pub body_parts : Door → Body → List Part
body_parts d b = attendee (attendee_of d b) ∷ later b

-- what the properties of a message say, in their order
abbrev pub parts_of : Message → List Part
parts_of m = uid m.meeting ∷ (dtstamp m.dtstamp ∷ (sequence m.sequence ∷ (organizer ∷ body_parts m.door m.body)))

abbrev pub body_method : Body → Method
body_method (body.Request heard title dates) = Request
body_method (body.Cancel heard) = Cancel
body_method (body.Reply answer stamp) = Reply

abbrev pub method_of : Message → Method
method_of m = body_method m.body

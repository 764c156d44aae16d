-- The numbers by which faults, layers and properties are known in formats and documents, and the layer to which a fault belongs.
use Rattle.std.specs.Prelude.{ℕ, cond, Some, None, Option, ◌==◌}
use Rattle.fault.specs.declared.kinds.Cause.{Cause}
use Rattle.fault.specs.declared.kinds.Cause.TheVariants.{Line, Frame, Method, Malformed, Misdirected, Unknown, Stale, Ahead, Dates, Range, Taken, Over, Spent, StoreFull, CarrierFull, Short, NoMail, Unfinished, NoAnswer, Unreadable}
use Rattle.fault.specs.declared.kinds.Layer.{Layer}
use Rattle.fault.specs.declared.kinds.Layer.TheVariants.{Lines, Framing, Properties, Engine, Store, Carrier}
use Rattle.fault.specs.declared.kinds.Property.{Property}
use Rattle.fault.specs.declared.kinds.Property.TheVariants.{Uid, Dtstamp, Sequence, Organizer, Attendee, Summary, Dtstart, Dtend, Rdate, Status, Basis}
use Rattle.fault.specs.declared.kinds.Fault.{Fault}

abbrev pub cause_number : Cause → ℕ
cause_number Line = 1
cause_number Frame = 2
cause_number Method = 3
cause_number Malformed = 4
cause_number Misdirected = 5
cause_number Unknown = 6
cause_number Stale = 7
cause_number Ahead = 8
cause_number Dates = 9
cause_number Range = 10
cause_number Taken = 11
cause_number Over = 12
cause_number Spent = 13
cause_number StoreFull = 14
cause_number CarrierFull = 15
cause_number Short = 16
cause_number NoMail = 17
cause_number Unfinished = 18
cause_number NoAnswer = 19
cause_number Unreadable = 20

abbrev pub layer_number : Layer → ℕ
layer_number Lines = 1
layer_number Framing = 2
layer_number Properties = 3
layer_number Engine = 4
layer_number Store = 5
layer_number Carrier = 6

-- a property's place in the order in which properties stand in a text
abbrev pub property_number : Property → ℕ
property_number Uid = 1
property_number Dtstamp = 2
property_number Sequence = 3
property_number Organizer = 4
property_number Attendee = 5
property_number Summary = 6
property_number Dtstart = 7
property_number Dtend = 8
property_number Rdate = 9
property_number Status = 10
property_number Basis = 11

-- the layer that a cause belongs to, whoever found it; Range and Short belong to the layer that tested
abbrev pub layer_for : Layer → Cause → Layer
layer_for tester Line = Lines
layer_for tester Frame = Framing
layer_for tester Method = Framing
layer_for tester Malformed = Properties
layer_for tester Misdirected = Engine
layer_for tester Unknown = Engine
layer_for tester Stale = Engine
layer_for tester Ahead = Engine
layer_for tester Dates = Engine
layer_for tester Range = tester
layer_for tester Taken = Engine
layer_for tester Over = Engine
layer_for tester Spent = Engine
layer_for tester StoreFull = Store
layer_for tester CarrierFull = Carrier
layer_for tester Short = tester
layer_for tester NoMail = Carrier
layer_for tester Unfinished = Engine
layer_for tester NoAnswer = Engine
layer_for tester Unreadable = Engine

-- the fault of a cause, found by a layer, that names no line and no property
abbrev pub told : Layer → Cause → Fault
told tester cause = record { cause = cause; layer = layer_for tester cause; line = None; property = None }

-- the line that a number names: lines count from 1, and 0 names none
abbrev pub line_named : ℕ → Option ℕ
line_named n = cond (n == 0) None (Some n)

-- the same fault, at a line of a text
abbrev pub at_line : Fault → ℕ → Fault
at_line f n = record { cause = f.cause; layer = f.layer; line = line_named n; property = f.property }

-- the same fault, where a property was wanted, or none might stand
abbrev pub wanting : Fault → Option Property → Fault
wanting f p = record { cause = f.cause; layer = f.layer; line = f.line; property = p }

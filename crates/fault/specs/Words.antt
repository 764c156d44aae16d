-- What a fault says of itself in words, and how it is printed.
use Rattle.std.specs.Prelude.{ℕ, List, ◌++◌, Some, None, codes, decimal, Option}
use Rattle.fault.specs.declared.kinds.Cause.{Cause}
use Rattle.fault.specs.declared.kinds.Cause.TheVariants.{Line, Frame, Method, Malformed, Misdirected, Unknown, Stale, Ahead, Dates, Range, Taken, Over, Spent, StoreFull, CarrierFull, Short, NoMail, Unfinished, NoAnswer, Unreadable}
use Rattle.fault.specs.declared.kinds.Fault.{Fault}
use Rattle.fault.specs.declared.kinds.NotMade.{NotMade}
use Rattle.fault.specs.declared.kinds.NotMade.TheVariants.{Refused, Memory}
use Rattle.fault.specs.declared.kinds.Property.{Property}
use Rattle.fault.specs.Numbers.{cause_number, layer_number, property_number}

abbrev pub wording : Cause → List ℕ
wording Line = codes "not a content line"
wording Frame = codes "frame line missing or out of place"
wording Method = codes "unknown method"
wording Malformed = codes "property missing, damaged or out of place"
wording Misdirected = codes "not for this end"
wording Unknown = codes "unknown meeting, door or copy"
wording Stale = codes "stale"
wording Ahead = codes "ahead of what was sent"
wording Dates = codes "date rule broken"
wording Range = codes "value out of range"
wording Taken = codes "meeting number taken"
wording Over = codes "meeting is over"
wording Spent = codes "no stamp or SEQUENCE left"
wording StoreFull = codes "store full"
wording CarrierFull = codes "carrier full"
wording Short = codes "buffer too short"
wording NoMail = codes "nothing waits"
wording Unfinished = codes "draft without door or date"
wording NoAnswer = codes "nothing to say"
wording Unreadable = codes "unreadable row"

-- the number of the property that a fault names, 0 where it names none
abbrev pub property_or0 : Option Property → ℕ
property_or0 None = 0
property_or0 (Some p) = property_number p

-- the line of a fault, 0 where it is about none
abbrev pub line_or0 : Option ℕ → ℕ
line_or0 None = 0
line_or0 (Some n) = n

-- `fault NUMBER LAYER LINE PROPERTY: words`
abbrev pub printed : Fault → List ℕ
printed f = codes "fault " ++ (decimal (cause_number f.cause) ++ (codes " " ++ (decimal (layer_number f.layer) ++ (codes " " ++ (decimal (line_or0 f.line) ++ (codes " " ++ (decimal (property_or0 f.property) ++ (codes ": " ++ wording f.cause))))))))

-- why a thing was not made: its fault, or that memory is short
abbrev pub printed_not_made : NotMade → List ℕ
printed_not_made (Refused f) = printed f
printed_not_made Memory = codes "no memory"

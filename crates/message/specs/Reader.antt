-- What the reader's own state stands for.
use Rattle.std.specs.Prelude.{◌≡◌, ℕ, ◌<◌, ◌≤◌, true, false, List, [], ◌∷◌, ◌++◌, map, take, Some, Ok, Err, codes, Result, ◌≢◌}
use Rattle.fault.specs.declared.kinds.Fault.{Fault}
use Rattle.fault.specs.declared.kinds.Cause.TheVariants as cause
use Rattle.fault.specs.declared.kinds.Layer.TheVariants as layer
use Rattle.fault.specs.declared.kinds.Property.{Property}
use Rattle.fault.specs.Numbers.{told, at_line}
use Rattle.lines.specs.Content.{Content}
use Rattle.lines.specs.declared.kinds.Line.{Line}
use Rattle.lines.specs.Steps.{content_of}
use Rattle.property.specs.declared.kinds.Attendee.TheVariants.{Invited, Answering}
use Rattle.property.specs.Values.{Part, uid, dtstamp, sequence, organizer, attendee, summary, dtstart, dtend, rdate, status, basis, title_text, property_of, Says}
use Rattle.message.specs.declared.kinds.Message.{Message}
use Rattle.message.specs.declared.kinds.Method.{Method}
use Rattle.message.specs.declared.kinds.Method.TheVariants.{Request, Cancel, Reply}
use Rattle.message.specs.declared.kinds.Body.{Body}
use Rattle.message.specs.declared.kinds.Event.{Event}
use Rattle.message.specs.declared.progress.Reading.{Reading}
use Rattle.message.specs.declared.kinds.Stage.{Stage}
use Rattle.message.specs.declared.kinds.Stage.TheVariants as stage
use Rattle.message.specs.Meaning.{method_of, parts_of, body_parts, wanted, required, belongs}
use Rattle.message.specs.Names.{method_text}
use Rattle.message.specs.Grammar.{State, calendar, version, product, method, event, inside, closing, done, Step, NoStep, fault_in, frame_fault, part_fault, ProductText, Whole}

-- the parts of an event, read or still blank, in the order of a method
abbrev pub rest_of : Method → Event → List Part
rest_of Request e = attendee (Invited e.door e.heard) ∷ (summary (title_text e.title) ∷ (dtstart e.start ∷ (dtend e.end ∷ map rdate e.further)))
rest_of Cancel e = attendee (Invited e.door e.heard) ∷ (status ∷ [])
rest_of Reply e = attendee (Answering e.door e.answer) ∷ (basis e.basis ∷ [])

abbrev pub slots : Method → Event → List Part
slots m e = uid e.meeting ∷ (dtstamp e.dtstamp ∷ (sequence e.sequence ∷ (organizer ∷ rest_of m e)))

-- the parts of an event whose body is known
abbrev pub parts_with : Event → Body → List Part
parts_with e b = uid e.meeting ∷ (dtstamp e.dtstamp ∷ (sequence e.sequence ∷ (organizer ∷ body_parts e.door b)))

abbrev pub state_in : Stage → ℕ → Event → State
state_in stage.Calendar n e = calendar
state_in stage.Version n e = version
state_in stage.Product n e = product
state_in stage.Method n e = method
state_in (stage.Event m) n e = event m
state_in (stage.Inside m) n e = inside m (take n (slots m e))
state_in (stage.Closing m) n e = closing m (take n (slots m e))
state_in (stage.Done m) n e = done m (take n (slots m e))

abbrev pub state_of : Reading → State
state_of r = state_in r.stage r.read r.event

-- what reading one line answers
abbrev pub Moves : Content → State → State → Result (Unit {0}) Fault → Type 0
Moves l before after (Ok _) = Step false before l after
Moves l before after (Err f) = NoStep before l × (f ≡ fault_in before l)

-- the same with the line's number in the fault
abbrev pub Takes : Line → State → State → Result (Unit {0}) Fault → Type 0
Takes l before after (Ok _) = Step false before (content_of l) after
Takes l before after (Err f) = NoStep before (content_of l) × (f ≡ at_line (fault_in before (content_of l)) l.number)

-- what the end of a text answers
abbrev pub Finishes : ℕ → State → Result Message Fault → Type 0
Finishes missing s (Ok m) = s ≡ done (method_of m) (parts_of m)
Finishes missing s (Err f) = (Whole s → ⊥) × (f ≡ at_line frame_fault missing)

-- the parts that were read of an event
abbrev pub parts_read : Method → Reading → List Part
parts_read m r = take r.read (slots m r.event)

-- the stage alone changes
pub record StageIs (next : Stage) (before after : Reading) : Type 0 where
  pub stage : after.stage ≡ next
  pub read : after.read ≡ before.read
  pub event : after.event ≡ before.event

-- what a line of the frame answers that must have a text
abbrev pub Goes : List ℕ → List ℕ → Stage → Reading → Reading → Result (Unit {0}) Fault → Type 0
Goes text wanted next before after (Ok _) = (text ≡ wanted) × StageIs next before after
Goes text wanted next before after (Err f) = (text ≢ wanted) × (f ≡ frame_fault)

-- what PRODID, METHOD and BEGIN:VEVENT answer
abbrev pub Produces : List ℕ → Reading → Reading → Result (Unit {0}) Fault → Type 0
Produces text before after (Ok _) = ProductText false text × StageIs stage.Method before after
Produces text before after (Err f) = (ProductText false text → ⊥) × (f ≡ frame_fault)

abbrev pub Chooses : List ℕ → Reading → Reading → Result (Unit {0}) Fault → Type 0
Chooses text before after (Ok _) = (m : Method) × (text ≡ method_text m) × StageIs (stage.Event m) before after
Chooses text before after (Err f) = ((m : Method) → text ≢ method_text m) × (f ≡ told layer.Framing cause.Method)

abbrev pub Opens : List ℕ → Method → Reading → Result (Unit {0}) Fault → Type 0
Opens text m after (Ok _) = (text ≡ codes ":VEVENT") × (after.stage ≡ stage.Inside m) × (after.read ≡ 0)
Opens text m after (Err f) = (text ≢ codes ":VEVENT") × (f ≡ frame_fault)

-- what END answers inside an event
pub data NotClosed (text : List ℕ) (m : Method) (n : ℕ) (f : Fault) : Type 0 where
  framed : f ≡ frame_fault → (text ≢ codes ":VEVENT") → NotClosed text m n f
  early : f ≡ part_fault (wanted m n) → text ≡ codes ":VEVENT" → n < required m → NotClosed text m n f

abbrev pub Closes : List ℕ → Method → Reading → Reading → Result (Unit {0}) Fault → Type 0
Closes text m before after (Ok _) = (text ≡ codes ":VEVENT") × (required m ≤ before.read) × StageIs (stage.Closing m) before after
Closes text m before after (Err f) = NotClosed text m before.read f

-- a part that may stand next, of a property and with a text
pub record Fills (p : Property) (text : List ℕ) (m : Method) (n : ℕ) (part : Part) : Type 0 where
  pub wanted_next : wanted m n ≡ Some (property_of part)
  pub listed : property_of part ≡ p
  pub belonging : belongs m part ≡ true
  pub said : Says part text

-- what a line of a property answers
abbrev pub Adds : Property → List ℕ → Method → Reading → Reading → Result (Unit {0}) Fault → Type 0
Adds p text m before after (Ok _) = (part : Part) × Fills p text m before.read part × (after.stage ≡ before.stage) × (parts_read m after ≡ parts_read m before ++ (part ∷ []))
Adds p text m before after (Err f) = ((part : Part) → Fills p text m before.read part → ⊥) × (f ≡ part_fault (wanted m before.read))

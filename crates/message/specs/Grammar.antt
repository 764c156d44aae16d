-- The grammar of a text: which line may follow in which state, and what it contributes.
use Rattle.std.specs.Prelude.{◌≡◌, ℕ, ◌+◌, ◌<◌, ◌≤◌, Bool, true, false, cond, List, [], ◌∷◌, ◌++◌, length, take, Some, Ok, Err, codes, Option, Result, slice_index}
use Rattle.std.specs.List.{flat_map}
use Rattle.std.specs.Str.{bytes_eq}
use Rattle.fault.specs.declared.kinds.Fault.{Fault}
use Rattle.fault.specs.declared.kinds.Cause.TheVariants as cause
use Rattle.fault.specs.declared.kinds.Layer.TheVariants as layer
use Rattle.fault.specs.declared.kinds.Property.{Property}
use Rattle.fault.specs.Numbers.{told, at_line, wanting}
use Rattle.lines.specs.Content.{Content, Fit, closed, Stands}
use Rattle.lines.specs.Steps.{Sized, NoLine}
use Rattle.property.specs.Values.{Part, Says, property_of}
use Rattle.message.specs.declared.kinds.Kind.{Kind}
use Rattle.message.specs.declared.kinds.Kind.TheVariants as kind
use Rattle.message.specs.declared.kinds.Method.{Method}
use Rattle.message.specs.declared.kinds.Message.{Message}
use Rattle.message.specs.Names.{kind_of, method_text}
use Rattle.message.specs.Meaning.{wanted, required, belongs, parts_of, method_of}

-- how far a text has been read: which line of the frame is wanted; or which parts of an event have been read; or that it is whole
pub data State : Type 0 where
  calendar : State
  version : State
  product : State
  method : State
  event : Method → State
  inside : Method → List Part → State
  closing : Method → List Part → State
  done : Method → List Part → State

-- a line of the frame, by its kind and its text
abbrev pub Is : Content → Kind → List ℕ → Type 0
Is l k text = (kind_of l.name ≡ k) × (l.text ≡ text)

-- any product will do, of one byte at least; in a house text it is ours
abbrev pub ProductText : Bool → List ℕ → Type 0
ProductText false text = (slice_index text 0 ≡ 58) × (2 ≤ length text)
ProductText true text = text ≡ codes ":-//DOORS//ITIP 1//EN"

-- a line inside an event: skipped, where it is not listed; the next part; or the event's end, where all that is required was read. A house text has no skipped line
pub data Inside (house : Bool) (m : Method) (parts : List Part) (l : Content) (t : State) : Type 0 where
  skips : house ≡ false → kind_of l.name ≡ kind.Other → t ≡ inside m parts → Inside house m parts l t
  adds : (p : Part) → wanted m (length parts) ≡ Some (property_of p) → kind_of l.name ≡ kind.Listed (property_of p) → belongs m p ≡ true → Says p l.text → t ≡ inside m (parts ++ (p ∷ [])) → Inside house m parts l t
  ends : required m ≤ length parts → Is l kind.End (codes ":VEVENT") → t ≡ closing m parts → Inside house m parts l t

-- which line leads from one state to another
abbrev pub Step : Bool → State → Content → State → Type 0
Step house calendar l t = Is l kind.Begin (codes ":VCALENDAR") × (t ≡ version)
Step house version l t = Is l kind.Version (codes ":2.0") × (t ≡ product)
Step house product l t = (kind_of l.name ≡ kind.Product) × ProductText house l.text × (t ≡ method)
Step house method l t = (m : Method) × Is l kind.Method (method_text m) × (t ≡ event m)
Step house (event m) l t = Is l kind.Begin (codes ":VEVENT") × (t ≡ inside m [])
Step house (inside m parts) l t = Inside house m parts l t
Step house (closing m parts) l t = Is l kind.End (codes ":VCALENDAR") × (t ≡ done m parts)
Step house (done m parts) l t = ⊥

-- lines that lead from one state to another
abbrev pub Leads : Bool → State → List Content → State → Type 0
Leads house s [] t = s ≡ t
Leads house s (l ∷ ls) t = (u : State) × Step house s l u × Leads house u ls t

abbrev pub AllFit : List Content → Type 0
AllFit [] = Unit {0}
AllFit (l ∷ ls) = Fit l × AllFit ls

-- the text up to a place is n lines that lead from the start to a state
pub record Led (house : Bool) (text : List ℕ) (at n : ℕ) (s : State) : Type 0 where
  pub lines : List Content
  pub fit : AllFit lines
  pub size : n ≡ length lines
  pub read : take at text ≡ flat_map closed lines
  pub leads : Leads house calendar lines s

-- a text means a message when its lines, all of them, lead to the end with the message's method and parts
pub record Means (house : Bool) (text : List ℕ) (m : Message) : Type 0 where
  pub sized : Sized text
  pub count : ℕ
  pub led : Led house text (length text) count (done (method_of m) (parts_of m))

-- the fault of a line that has no step: in the frame, the method's, or the property's that was wanted
abbrev pub frame_fault : Fault
frame_fault = told layer.Framing cause.Frame

abbrev pub part_fault : Option Property → Fault
part_fault p = wanting (told layer.Properties cause.Malformed) p

abbrev pub method_fault : Kind → Fault
method_fault kind.Begin = frame_fault
method_fault kind.Version = frame_fault
method_fault kind.Product = frame_fault
method_fault kind.Method = told layer.Framing cause.Method
method_fault kind.End = frame_fault
method_fault (kind.Listed p) = frame_fault
method_fault kind.Other = frame_fault

-- inside an event a line of the frame is out of its place, but an end that comes too early wants the next property
abbrev pub inside_fault : Option Property → Kind → List ℕ → Fault
inside_fault p kind.Begin text = frame_fault
inside_fault p kind.Version text = frame_fault
inside_fault p kind.Product text = frame_fault
inside_fault p kind.Method text = frame_fault
inside_fault p kind.End text = cond (bytes_eq text (codes ":VEVENT")) (part_fault p) frame_fault
inside_fault p (kind.Listed q) text = part_fault p
inside_fault p kind.Other text = part_fault p

abbrev pub fault_in : State → Content → Fault
fault_in calendar l = frame_fault
fault_in version l = frame_fault
fault_in product l = frame_fault
fault_in method l = method_fault (kind_of l.name)
fault_in (event m) l = frame_fault
fault_in (inside m parts) l = inside_fault (wanted m (length parts)) (kind_of l.name) l.text
fault_in (closing m parts) l = frame_fault
fault_in (done m parts) l = frame_fault

abbrev pub NoStep : State → Content → Type 0
NoStep s l = (t : State) → Step false s l t → ⊥

abbrev pub Whole : State → Type 0
Whole s = (m : Method) × ((parts : List Part) × (s ≡ done m parts))

-- why a text means no message: its length; or, after lines that lead so far, a line that is no content line, a line that has no step, or the end of the text
pub data Refused (text : List ℕ) (f : Fault) : Type 0 where
  unsized : f ≡ told layer.Lines cause.Line → (Sized text → ⊥) → Refused text f
  no_line : Sized text → (at n : ℕ) (s : State) → Led false text at n s → at < length text → NoLine text at → f ≡ at_line (told layer.Lines cause.Line) (n + 1) → Refused text f
  no_step : Sized text → (at n next : ℕ) (s : State) (l : Content) → Led false text at n s → Stands text at l next → NoStep s l → f ≡ at_line (fault_in s l) (n + 1) → Refused text f
  runs_out : Sized text → (n : ℕ) (s : State) → Led false text (length text) n s → (Whole s → ⊥) → f ≡ at_line frame_fault (n + 1) → Refused text f

-- what reading a text answers
abbrev pub Reads : List ℕ → Result Message Fault → Type 0
Reads text (Ok m) = Means false text m
Reads text (Err f) = Refused text f

-- records of the same message: the same method, and the same parts
abbrev pub Same : Message → Message → Type 0
Same m n = (method_of m ≡ method_of n) × (parts_of m ≡ parts_of n)

-- what is read is all that there is to read: the text means no other message, and has no other fault
abbrev pub Alone : List ℕ → Result Message Fault → Type 0
Alone text (Ok m) = ((n : Message) → Means false text n → Same n m) × ((g : Fault) → Refused text g → ⊥)
Alone text (Err f) = ((n : Message) → Means false text n → ⊥) × ((g : Fault) → Refused text g → g ≡ f)

-- What writing a message answers.
use Rattle.std.specs.Prelude.{◌≡◌, ℕ, ◌<◌, ◌≤◌, true, false, List, [], ◌∷◌, ◌++◌, length, take, drop, Some, None, Ok, Err, codes, Option, Result}
use Rattle.arrayvec.specs.ArrayVec.{ArrayVec}
use Rattle.fault.specs.declared.kinds.Cause.TheVariants.{Short, Range}
use Rattle.fault.specs.declared.kinds.Fault.{Fault}
use Rattle.fault.specs.declared.kinds.Layer.TheVariants.{Framing}
use Rattle.fault.specs.Numbers.{told}
use Rattle.lines.specs.Content.{Content, closed}
use Rattle.fault.specs.declared.kinds.Property.{Property}
use Rattle.property.specs.declared.kinds.Value.{Value}
use Rattle.property.specs.declared.kinds.Heard.{Heard}
use Rattle.property.specs.Values.{Part, name_text, property_of, part_of, Says, ReplyText, shown_text}
use Rattle.message.specs.declared.kinds.Message.{Message}
use Rattle.message.specs.declared.kinds.Method.{Method}
use Rattle.message.specs.Names.{method_text}
use Rattle.message.specs.Meaning.{parts_of}
use Rattle.message.specs.Grammar.{Means, Refused, Same}
use Rattle.writer.specs.Ranges.{Ranged}

-- every part is in its range
abbrev pub AllRanged : List Part → Type 0
AllRanged [] = Unit {0}
AllRanged (p ∷ ps) = Ranged p × AllRanged ps

abbrev pub InRange : Message → Type 0
InRange m = AllRanged (parts_of m)

-- the lines before and behind an event
abbrev pub frame : List ℕ → List ℕ → Content
frame name text = record { name = name; text = text }

abbrev pub head : Method → List Content
head m =
    frame (codes "BEGIN") (codes ":VCALENDAR") ∷
    (frame (codes "VERSION") (codes ":2.0") ∷
    (frame (codes "PRODID") (codes ":-//DOORS//ITIP 1//EN") ∷
    (frame (codes "METHOD") (method_text m) ∷
    (frame (codes "BEGIN") (codes ":VEVENT") ∷ []))))

abbrev pub foot : List Content
foot = frame (codes "END") (codes ":VEVENT") ∷ (frame (codes "END") (codes ":VCALENDAR") ∷ [])

-- the answer that the site shows, and the stamp of the REPLY
abbrev pub HeardText : Heard → List ℕ → Type 0
HeardText h text = (reply : List ℕ) × ReplyText h.at reply × (text ≡ shown_text h.shown ++ reply)

-- what a text has behind what stood there: bytes of which something holds
abbrev pub Puts : (List ℕ → Type 0) → List ℕ → List ℕ → Type 0
Puts P old new = (said : List ℕ) × P said × (new ≡ old ++ said)

-- the line of a part: its property's name, a text of the part, and CR LF
abbrev pub LineOf : Part → List ℕ → Type 0
LineOf p line = (said : List ℕ) × Says p said × (line ≡ closed (record { name = name_text (property_of p); text = said }))

-- what writing the text of a part answers: a text of it, or none where it is out of its range
abbrev pub TextOf : Part → Option (ArrayVec ℕ) → Type 0
TextOf p None = Ranged p → ⊥
TextOf p (Some text) = Says p text.items

-- what writing the text of a message answers: its house text, or none where a part is out of its range
abbrev pub HouseText : Message → Option (ArrayVec ℕ) → Type 0
HouseText m None = InRange m → ⊥
HouseText m (Some text) = Means true text.items m

-- a message that is written: its house text stands at the buffer's front, and the buffer's rest is kept
pub record Writ (m : Message) (old new : List ℕ) (n : ℕ) : Type 0 where
  pub long : 768 ≤ length old
  pub ranged : InRange m
  pub size : n ≤ 768
  pub text : Means true (take n new) m
  pub rest : drop n new ≡ drop n old

-- why a message is not written, in the order of the tests
pub data NotWritten (m : Message) (old : List ℕ) (f : Fault) : Type 0 where
  short : f ≡ told Framing Short → length old < 768 → NotWritten m old f
  range : f ≡ told Framing Range → 768 ≤ length old → (InRange m → ⊥) → NotWritten m old f

abbrev pub Writes : Message → List ℕ → List ℕ → Result ℕ Fault → Type 0
Writes m old new (Ok n) = Writ m old new n
Writes m old new (Err f) = NotWritten m old f × (new ≡ old)

-- what reading back a message that was written answers: the same message
abbrev pub Rereads : Message → List ℕ → Result Message Fault → Type 0
Rereads m old (Ok n) = InRange m × (768 ≤ length old) × Same n m
Rereads m old (Err f) = NotWritten m old f

-- what writing back a text that was read answers: a house text of the same message, and the text itself where it is a house text
pub record Rewritten (text old new : List ℕ) (n : ℕ) : Type 0 where
  pub message : Message
  pub meant : Means false text message
  pub written : Writ message old new n
  pub house : (m : Message) → Means true text m → take n new ≡ text

-- a text that means no message is told so; a text that means one is refused only for a short buffer
pub data NotRewritten (text old : List ℕ) (f : Fault) : Type 0 where
  unread : Refused text f → NotRewritten text old f
  short : f ≡ told Framing Short → length old < 768 → (m : Message) → Means false text m → NotRewritten text old f

abbrev pub Rewrites : List ℕ → List ℕ → List ℕ → Result ℕ Fault → Type 0
Rewrites text old new (Ok n) = Rewritten text old new n
Rewrites text old new (Err f) = NotRewritten text old f × (new ≡ old)

-- what reading back the text of a part that was written answers: the same part
abbrev pub RereadsValue : Part → Option Value → Type 0
RereadsValue p None = Ranged p → ⊥
RereadsValue p (Some v) = Ranged p × (part_of v ≡ p)

-- what writing back the text of a property that was read answers: the same text
abbrev pub RewritesValue : Property → List ℕ → Option (ArrayVec ℕ) → Type 0
RewritesValue q text None = (p : Part) → property_of p ≡ q → Says p text → ⊥
RewritesValue q text (Some again) = again.items ≡ text

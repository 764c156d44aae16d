-- What stepping through a text answers.
use Rattle.std.specs.Prelude.{◌≡◌, ℕ, ◌+◌, ◌<◌, ◌≤◌, List, length, drop, Some, None, Ok, Err, Option, Result}
use Rattle.fault.specs.declared.kinds.Fault.{Fault}
use Rattle.fault.specs.declared.kinds.Cause.TheVariants.{Line as BadLine}
use Rattle.fault.specs.declared.kinds.Layer.TheVariants.{Lines as ByLines}
use Rattle.fault.specs.Numbers.{told, at_line}
use Rattle.lines.specs.declared.kinds.Line.{Line}
use Rattle.lines.specs.declared.kinds.Lines.{Lines}
use Rattle.lines.specs.Content.{Content, Stands}

-- a text is fit to be read if it has 1 to 768 bytes
abbrev pub Sized : List ℕ → Type 0
Sized text = (1 ≤ length text) × (length text ≤ 768)

-- no content line stands at this place
abbrev pub NoLine : List ℕ → ℕ → Type 0
NoLine text at = (l : Content) (next : ℕ) → Stands text at l next → ⊥

abbrev pub content_of : Line → Content
content_of l = record { name = l.name.now; text = l.text.now }

-- a line that was read: the next one, with its number and the places of its parts
pub record Steps (before after : Lines) (l : Line) : Type 0 where
  pub same : after.text.now ≡ before.text.now
  pub stands : Stands before.text.now before.at (content_of l) after.at
  pub counted : after.number ≡ before.number + 1
  pub number : l.number ≡ before.number + 1
  pub name_place : l.name_at ≡ before.at
  pub value : l.value.now ≡ drop 1 l.text.now
  pub value_place : l.value_at ≡ before.at + length l.name.now + 1

-- no line was read, and nothing changed
pub record Stays (before after : Lines) : Type 0 where
  pub same : after.text.now ≡ before.text.now
  pub place : after.at ≡ before.at
  pub counted : after.number ≡ before.number

-- why no line can be read, in the order of the tests
pub data NotRead (before : Lines) (f : Fault) : Type 0 where
  sized : f ≡ told ByLines BadLine → (Sized before.text.now → ⊥) → NotRead before f
  line : f ≡ at_line (told ByLines BadLine) (before.number + 1) → Sized before.text.now → before.at < length before.text.now → NoLine before.text.now before.at → NotRead before f

abbrev pub Next : Lines → Lines → Result (Option Line) Fault → Type 0
Next before after (Ok (Some l)) = Sized before.text.now × Steps before after l
Next before after (Ok None) = Sized before.text.now × (before.at ≡ length before.text.now) × Stays before after
Next before after (Err f) = NotRead before f × Stays before after

-- a text to be read from its start
abbrev pub Begins : List ℕ → Lines → Type 0
Begins text l = (l.text.now ≡ text) × (l.at ≡ 0) × (l.number ≡ 0)

-- The bytes of a content line.
use Rattle.std.specs.Prelude.{◌≡◌, ℕ, ◌<◌, ◌≤◌, Bool, true, ◌&&◌, ◌||◌, List, length, ◌==◌, nat_le, slice_index}
use Rattle.lines.specs.declared.kinds.Class.{Class}
use Rattle.lines.specs.declared.kinds.Class.TheVariants.{Naming, Printable}

-- capitals, digits and the hyphen
abbrev pub name_byte : ℕ → Bool
name_byte b = (nat_le 65 b && nat_le b 90) || ((nat_le 48 b && nat_le b 57) || b == 45)

abbrev pub printable : ℕ → Bool
printable b = nat_le 32 b && nat_le b 126

-- a colon or a semicolon
abbrev pub separates : ℕ → Bool
separates b = b == 58 || b == 59

abbrev pub in_class : Class → ℕ → Bool
in_class Naming b = name_byte b
in_class Printable b = printable b

-- every byte passes a test
abbrev pub Every : (ℕ → Bool) → List ℕ → Type 0
Every P xs = (k : ℕ) → k < length xs → P (slice_index xs k) ≡ true

-- so does every byte from one place of a text up to another
abbrev pub EveryFrom : (ℕ → Bool) → List ℕ → ℕ → ℕ → Type 0
EveryFrom P xs i j = (k : ℕ) → i ≤ k → k < j → P (slice_index xs k) ≡ true

-- Content lines: what one is, and where it stands in a text.
use Rattle.std.specs.Prelude.{◌≡◌, ℕ, ◌+◌, ◌<◌, ◌≤◌, true, List, [], ◌∷◌, ◌++◌, length, drop, slice_index, slice_index_or}
use Rattle.lines.specs.Bytes.{name_byte, printable, separates, Every, EveryFrom}

-- a line: its name, and its text, which begins with the separator
pub record Content : Type 0 where
  pub name : List ℕ
  pub text : List ℕ

abbrev pub bytes_of : Content → List ℕ
bytes_of l = l.name ++ l.text

-- a line as it stands in a text, closed by CR LF
abbrev pub closed : Content → List ℕ
closed l = bytes_of l ++ (13 ∷ (10 ∷ []))

-- what makes it a content line
pub record Fit (l : Content) : Type 0 where
  pub named : 1 ≤ length l.name
  pub naming : Every name_byte l.name
  pub some : 1 ≤ length l.text
  pub parted : separates (slice_index l.text 0) ≡ true
  pub shown : Every printable l.text
  pub short : length (bytes_of l) ≤ 75

-- a content line stands in a text at one place, and the next line begins at another
pub record Stands (text : List ℕ) (at : ℕ) (l : Content) (next : ℕ) : Type 0 where
  pub fit : Fit l
  pub begins : at ≤ length text
  pub size : next ≡ at + length (closed l)
  pub read : drop at text ≡ closed l ++ drop next text

-- the same by places: the separator stands at one, the CR at another
pub record Cut (text : List ℕ) (at colon end : ℕ) : Type 0 where
  pub named : at < colon
  pub some : colon < end
  pub inside : end + 2 ≤ length text
  pub short : end ≤ at + 75
  pub naming : EveryFrom name_byte text at colon
  pub parted : separates (slice_index text colon) ≡ true
  pub shown : EveryFrom printable text colon end
  pub cr : slice_index_or text end 0 ≡ 13
  pub lf : slice_index_or text (end + 1) 0 ≡ 10

-- Mail: letters, how often one waits, and what a carrier means.
use Rattle.std.specs.Prelude.{◌≡◌, ℕ, ◌+◌, ◌<◌, ◌≤◌, Bool, true, false, cond, ◌&&◌, List, [], ◌∷◌, length, ◌==◌}

-- a text on its way, with the address that it is for
pub record Letter : Type 0 where
  pub to : ℕ
  pub text : List ℕ

abbrev pub letter : ℕ → List ℕ → Letter
letter to text = record { to = to; text = text }

abbrev pub same_text : List ℕ → List ℕ → Bool
same_text [] [] = true
same_text [] (y ∷ ys) = false
same_text (x ∷ xs) [] = false
same_text (x ∷ xs) (y ∷ ys) = x == y && same_text xs ys

abbrev pub same_letter : Letter → Letter → Bool
same_letter a b = a.to == b.to && same_text a.text b.text

-- how often a letter waits
abbrev pub times : Letter → List Letter → ℕ
times l [] = 0
times l (x ∷ xs) = cond (same_letter l x) 1 0 + times l xs

-- how many letters wait for an address
abbrev pub waiting_for : ℕ → List Letter → ℕ
waiting_for to [] = 0
waiting_for to (x ∷ xs) = cond (x.to == to) 1 0 + waiting_for to xs

-- the same letters wait, each as often, in whatever order
abbrev pub SameMail : List Letter → List Letter → Type 0
SameMail a b = (x : Letter) → times x a ≡ times x b

-- no letter waits more often in a than in b
abbrev pub NoMore : List Letter → List Letter → Type 0
NoMore a b = (x : Letter) → times x a ≤ times x b

-- each letter that waits in a waits in b
abbrev pub Among : List Letter → List Letter → Type 0
Among a b = (x : Letter) → 0 < times x a → 0 < times x b

-- a letter that can be carried: to the site, 0, or to a door, 1 to 8, with a text of 1 to 768 bytes
pub record Fit (l : Letter) : Type 0 where
  pub address : l.to ≤ 8
  pub some : 1 ≤ length l.text
  pub short : length l.text ≤ 768

-- what a carrier means: the letters that wait, how many may, and whether it is faithful, so that it neither loses nor doubles
pub record Mail : Type 0 where
  pub waiting : List Letter
  pub capacity : ℕ
  pub faithful : Bool

-- what every carrier keeps
pub record Sound (m : Mail) : Type 0 where
  pub room : 1 ≤ m.capacity
  pub within : length m.waiting ≤ m.capacity
  pub fit : (x : Letter) → 0 < times x m.waiting → Fit x

-- Letters in a row, and which of them is handed out.
use Rattle.std.specs.Prelude.{◌≡◌, ℕ, zero, suc, ◌+◌, ◌<◌, ◌≤◌, Bool, true, false, List, [], ◌∷◌, ◌++◌, map, length, take, drop, Some, None, Ok, Err, vec_items, Option, Result, ◌==◌}
use Rattle.fault.specs.declared.kinds.Cause.TheVariants.{Range}
use Rattle.fault.specs.declared.kinds.Fault.{Fault}
use Rattle.fault.specs.declared.kinds.Layer.TheVariants.{Carrier}
use Rattle.fault.specs.declared.kinds.NotMade.{NotMade}
use Rattle.fault.specs.declared.kinds.NotMade.TheVariants.{Refused, Memory}
use Rattle.fault.specs.Numbers.{told}
use Rattle.carrier.specs.declared.kinds.Queue.{Queue}
use Rattle.carrier.specs.declared.kinds.Row.{Row}
use Rattle.carrier.specs.declared.kinds.Slot.{Slot}
use Rattle.carrier.specs.Mail.{Letter, letter, Mail, waiting_for}

abbrev pub letter_in : Slot → Letter
letter_in s = letter s.to.number s.text.items

-- the letters of a row, the oldest first
abbrev pub letters : Row → List Letter
letters r = map letter_in (vec_items r.slots)

-- whether the letter at a place is for an address; past the end there is none
abbrev pub for_at : ℕ → List Letter → ℕ → Bool
for_at to [] k = false
for_at to (x ∷ xs) zero = x.to == to
for_at to (x ∷ xs) (suc k) = for_at to xs k

-- a place where a letter for an address stands, or none where there is no such letter
abbrev pub Found : ℕ → List Letter → Option ℕ → Type 0
Found to ls None = waiting_for to ls ≡ 0
Found to ls (Some i) = (i < length ls) × (for_at to ls i ≡ true)

-- the place that is picked for an address: its letter is for it, and no place that goes before has one
abbrev pub Picks : (ℕ → ℕ → Type 0) → ℕ → List Letter → Option ℕ → Type 0
Picks sooner to ls None = Found to ls None
Picks sooner to ls (Some i) = Found to ls (Some i) × ((k : ℕ) → sooner k i → for_at to ls k ≡ false)

-- what a row of letters means as a carrier
abbrev pub row_mail : Row → Mail
row_mail r = record { waiting = letters r; capacity = r.room; faithful = true }

-- the letter at a place is taken out, and its n bytes stand at the buffer's front
pub record TakesOut (place n : ℕ) (old new : List ℕ) (before after : List Letter) : Type 0 where
  pub to : ℕ
  pub named : (a : ℕ) → for_at a before place ≡ (to == a)
  pub was : before ≡ take place before ++ (letter to (take n new) ∷ drop (place + 1) before)
  pub is : after ≡ take place before ++ drop (place + 1) before
  pub size : n ≤ 768
  pub rest : drop n new ≡ drop n old

-- what was fetched stood at the picked place, and the others keep their order
abbrev pub FromPlace : Option ℕ → List ℕ → List ℕ → List Letter → List Letter → Result ℕ Fault → Type 0
FromPlace place old new before after (Err f) = after ≡ before
FromPlace None old new before after (Ok n) = ⊥
FromPlace (Some i) old new before after (Ok n) = TakesOut i n old new before after

-- what was fetched stood at a place that no other letter for the address goes before
abbrev pub InOrder : (ℕ → ℕ → Type 0) → ℕ → List ℕ → List ℕ → List Letter → List Letter → Result ℕ Fault → Type 0
InOrder sooner to old new before after (Err f) = after ≡ before
InOrder sooner to old new before after (Ok n) = (i : ℕ) × Picks sooner to before (Some i) × TakesOut i n old new before after

-- a letter that was posted stands last, and the others keep their order
abbrev pub AtEnd : Letter → List Letter → List Letter → Result (Unit {0}) Fault → Type 0
AtEnd l before after (Ok _) = after ≡ before ++ (l ∷ [])
AtEnd l before after (Err f) = after ≡ before

-- what making a row of a size answers
abbrev pub MakesRow : ℕ → Result Row NotMade → Type 0
MakesRow n (Ok r) = (r.room ≡ n) × (letters r ≡ [])
MakesRow n (Err (Refused f)) = (f ≡ told Carrier Range) × ((1 ≤ n) × (n ≤ 64) → ⊥)
MakesRow n (Err Memory) = (1 ≤ n) × (n ≤ 64)

-- what making a queue of a size answers: an empty, faithful carrier of that capacity
abbrev pub MakesQueue : {O : Type 0} → ℕ → Result (Queue O) NotMade → Type 0
MakesQueue n (Ok q) = row_mail q.row ≡ record { waiting = []; capacity = n; faithful = true }
MakesQueue n (Err (Refused f)) = (f ≡ told Carrier Range) × ((1 ≤ n) × (n ≤ 64) → ⊥)
MakesQueue n (Err Memory) = (1 ≤ n) × (n ≤ 64)

-- A stamp: a count of seconds from 2000-01-01T00:00:00Z on, and its text YYYYMMDDTHHMMSSZ.
use Rattle.std.specs.Prelude.{◌≡◌, ℕ, zero, suc, ◌+◌, ◌-◌, ◌*◌, ◌/◌, ◌%◌, ◌≤◌, max, List, [], ◌∷◌, ◌++◌, length, replicate, Some, None, Ok, Err, Option, Result, slice_index, slice_index_or}
use Rattle.fault.specs.declared.kinds.Cause.TheVariants.{Range, Spent}
use Rattle.fault.specs.declared.kinds.Fault.{Fault}
use Rattle.fault.specs.declared.kinds.Layer.TheVariants.{Engine}
use Rattle.fault.specs.Numbers.{told}
use Rattle.stamp.specs.declared.civil.Day.{Day}
use Rattle.stamp.specs.declared.civil.Time.{Time}
use Rattle.stamp.specs.declared.civil.Stamp.{Stamp}
use Rattle.stamp.specs.Calendar.{days_of_years, days_of_months, two}

-- the days from 2000-01-01 to a day, and the seconds from midnight to a time
abbrev pub days_to : Day → ℕ
days_to d = days_of_years (d.year - 2000) + (days_of_months d.year (d.month - 1) + (d.day - 1))

abbrev pub seconds_to : Time → ℕ
seconds_to t = 3600 * t.hour + (60 * t.minute + t.second)

-- the seconds from 2000-01-01T00:00:00Z to a day and time
abbrev pub seconds_at : Day → Time → ℕ
seconds_at d t = 86400 * days_to d + seconds_to t

abbrev pub day_text : Day → List ℕ
day_text d = two (d.year / 100) ++ (two (d.year % 100) ++ (two d.month ++ two d.day))

abbrev pub time_text : Time → List ℕ
time_text t = two t.hour ++ (two t.minute ++ two t.second)

-- the bytes of a date, a T, the bytes of a time, a Z
abbrev pub shaped : List ℕ → List ℕ → List ℕ
shaped date clock = date ++ (84 ∷ (clock ++ (90 ∷ [])))

-- the n bytes of a text from place i on, one by one
abbrev pub placed : ℕ → ℕ → List ℕ → List ℕ
placed i zero text = []
placed i (suc n) text = slice_index text i ∷ placed (suc i) n text

-- sixteen bytes with T and Z in their places
pub record Shape (text : List ℕ) : Type 0 where
  pub long : length text ≡ 16
  pub tee : slice_index_or text 8 0 ≡ 84
  pub zed : slice_index_or text 15 0 ≡ 90

-- how a text of that shape, and no other, comes apart
abbrev pub Apart : List ℕ → Option (List ℕ × List ℕ) → Type 0
Apart text None = Shape text → ⊥
Apart text (Some (date, clock)) = Shape text × (date ≡ placed 0 8 text) × (clock ≡ placed 9 6 text)

-- text is the text of the stamp n: both belong to one day and time
pub record Stamped (n : ℕ) (text : List ℕ) : Type 0 where
  pub day : Day
  pub time : Time
  pub counted : n ≡ seconds_at day time
  pub started : 1 ≤ n
  pub written : text ≡ shaped (day_text day) (time_text time)

-- a count that is a stamp: the last is 20991231T235959Z
abbrev pub Real : ℕ → Type 0
Real n = (1 ≤ n) × (n ≤ 3155759999)

-- the stamp n and the text belong to each other alone
pub record Matched (n : ℕ) (text : List ℕ) : Type 0 where
  pub real : Real n
  pub stamped : Stamped n text
  pub one_count : (m : ℕ) → Stamped m text → m ≡ n
  pub one_text : (other : List ℕ) → Stamped n other → other ≡ text

-- what reading a text answers: the one stamp that has it, or none where no stamp has it
abbrev pub Read : List ℕ → Option Stamp → Type 0
Read text None = (n : ℕ) → Stamped n text → ⊥
Read text (Some s) = Matched s.seconds text

-- what writing a count answers: a stamp's text, and `0` sixteen times for any other count
pub record Written (n : ℕ) (text : List ℕ) : Type 0 where
  pub stamp : Real n → Stamped n text
  pub other : (Real n → ⊥) → text ≡ replicate 16 48

-- what writing back a text that was read answers: the same text, or none where no stamp has it
abbrev pub Rewritten : List ℕ → Option (List ℕ) → Type 0
Rewritten text None = (n : ℕ) → Stamped n text → ⊥
Rewritten text (Some again) = again ≡ text

-- why there is no fresh stamp, in the order of the tests
pub data NotFresh (clock previous : ℕ) (f : Fault) : Type 0 where
  range : f ≡ told Engine Range → (Real clock → ⊥) → NotFresh clock previous f
  spent : f ≡ told Engine Spent → Real clock → 3155759999 ≤ previous → NotFresh clock previous f

-- what a fresh stamp is: the first second from the clock on that is after the previous stamp
abbrev pub Fresh : ℕ → ℕ → Result Stamp Fault → Type 0
Fresh clock previous (Ok s) = Real clock × Real s.seconds × (s.seconds ≡ max clock (previous + 1))
Fresh clock previous (Err f) = NotFresh clock previous f

-- What a post and a fetch do to the mail, and why they are refused.
use Rattle.std.specs.Prelude.{◌≡◌, ℕ, ◌<◌, ◌≤◌, true, List, [], ◌∷◌, length, take, drop, Ok, Err, Result}
use Rattle.fault.specs.declared.kinds.Cause.TheVariants.{Range, CarrierFull, Short, NoMail}
use Rattle.fault.specs.declared.kinds.Fault.{Fault}
use Rattle.fault.specs.declared.kinds.Layer.TheVariants.{Carrier}
use Rattle.fault.specs.Numbers.{told}
use Rattle.carrier.specs.Mail.{Letter, letter, Mail, Fit, times, waiting_for, SameMail, NoMore, Among}

-- an accepted post: what waits then waited before or is the letter; a faithful carrier adds just the letter
pub record Takes (l : Letter) (before after : Mail) : Type 0 where
  pub fit : Fit l
  pub room : length before.waiting < before.capacity
  pub capacity : after.capacity ≡ before.capacity
  pub faithful : after.faithful ≡ before.faithful
  pub among : Among after.waiting (l ∷ before.waiting)
  pub exact : before.faithful ≡ true → SameMail after.waiting (l ∷ before.waiting)

-- why a post is refused, in the order of the tests
pub data NotTaken (l : Letter) (before : Mail) (f : Fault) : Type 0 where
  range : f ≡ told Carrier Range → (Fit l → ⊥) → NotTaken l before f
  full : f ≡ told Carrier CarrierFull → Fit l → length before.waiting ≡ before.capacity → NotTaken l before f

abbrev pub Posted : Letter → Mail → Mail → Result (Unit {0}) Fault → Type 0
Posted l before after (Ok _) = Takes l before after
Posted l before after (Err f) = NotTaken l before f × (after ≡ before)

-- a fetch that hands out n bytes: a letter that waited stands at the buffer's front, the buffer's rest is kept, and nothing waits more often than before; a faithful carrier lets go of just that letter. Which of the letters for the address it is, is left open
pub record Hands (to n : ℕ) (old new : List ℕ) (before after : Mail) : Type 0 where
  pub long : 768 ≤ length old
  pub size : n ≤ 768
  pub rest : drop n new ≡ drop n old
  pub waited : 0 < times (letter to (take n new)) before.waiting
  pub capacity : after.capacity ≡ before.capacity
  pub faithful : after.faithful ≡ before.faithful
  pub no_more : NoMore after.waiting before.waiting
  pub exact : before.faithful ≡ true → SameMail (letter to (take n new) ∷ after.waiting) before.waiting

-- why a fetch is refused before the mail is looked at, in the order of the tests
pub data NotAsked (to : ℕ) (old : List ℕ) (f : Fault) : Type 0 where
  short : f ≡ told Carrier Short → length old < 768 → NotAsked to old f
  range : f ≡ told Carrier Range → 768 ≤ length old → 8 < to → NotAsked to old f

-- why a fetch is refused
pub data NotHanded (to : ℕ) (old : List ℕ) (before : Mail) (f : Fault) : Type 0 where
  asked : NotAsked to old f → NotHanded to old before f
  none : f ≡ told Carrier NoMail → 768 ≤ length old → to ≤ 8 → waiting_for to before.waiting ≡ 0 → NotHanded to old before f

abbrev pub Fetched : ℕ → List ℕ → List ℕ → Mail → Mail → Result ℕ Fault → Type 0
Fetched to old new before after (Ok n) = Hands to n old new before after
Fetched to old new before after (Err f) = NotHanded to old before f × (after ≡ before) × (new ≡ old)

-- what counting the letters for an address answers
pub data NotCounted (to : ℕ) (f : Fault) : Type 0 where
  range : f ≡ told Carrier Range → 8 < to → NotCounted to f

abbrev pub Counted : ℕ → Mail → Result ℕ Fault → Type 0
Counted to m (Ok n) = (to ≤ 8) × (n ≡ waiting_for to m.waiting)
Counted to m (Err f) = NotCounted to f

-- why posting a letter and fetching for its address is refused: it was not posted, or it was posted and not fetched
pub data NotEchoed (l : Letter) (old : List ℕ) (before after : Mail) (f : Fault) : Type 0 where
  post : NotTaken l before f → after ≡ before → NotEchoed l old before after f
  fetch : Takes l before after → NotHanded l.to old after f → NotEchoed l old before after f

-- what posting a letter and fetching for its address answers, where nothing waited: the text or nothing, and from a faithful carrier the text
pub record Echoed (l : Letter) (old new : List ℕ) (before after : Mail) (r : Result ℕ Fault) : Type 0 where
  pub any : before.waiting ≡ [] → (n : ℕ) → r ≡ Ok n → take n new ≡ l.text
  pub faithful : before.faithful ≡ true → before.waiting ≡ [] → Fit l → 768 ≤ length old → (r ≡ Ok (length l.text)) × (take (length l.text) new ≡ l.text) × (after.waiting ≡ [])
  pub refused : (f : Fault) → r ≡ Err f → NotEchoed l old before after f × (new ≡ old)

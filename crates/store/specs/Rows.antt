-- Rows by their keys, and what a store means.
use Rattle.std.specs.Prelude.{◌≡◌, ℕ, zero, suc, ◌+◌, ◌<◌, ◌≤◌, cond, List, [], ◌++◌, length, drop, is_some, Some, None, Ok, Err, Option, Result, ◌≢◌}
use Rattle.fault.specs.declared.kinds.Cause.TheVariants.{Range, StoreFull, Short}
use Rattle.fault.specs.declared.kinds.Fault.{Fault}
use Rattle.fault.specs.declared.kinds.Layer.TheVariants.{Store}
use Rattle.fault.specs.Numbers.{told}

-- the row of each key, if it has one
abbrev pub Keyed : Type 0
Keyed = ℕ → Option (List ℕ)

-- how many of the keys below n have a row
unfoldable pub count_below : Keyed → ℕ → ℕ
count_below row zero = 0
count_below row (suc n) = count_below row n + cond (is_some (row n)) 1 0

-- how many rows there are: keys go from 0 to 1,023
abbrev pub held_in : Keyed → ℕ
held_in row = count_below row 1024

-- what a store means: its rows, and how many it may hold
pub record Rows : Type 0 where
  pub row : Keyed
  pub capacity : ℕ

-- a key and a row that a store takes
pub record Fit (key : ℕ) (bytes : List ℕ) : Type 0 where
  pub known : key ≤ 1023
  pub some : 1 ≤ length bytes
  pub short : length bytes ≤ 192

-- what every store keeps
pub record Sound (s : Rows) : Type 0 where
  pub within : held_in s.row ≤ s.capacity
  pub fit : (k : ℕ) (bytes : List ℕ) → s.row k ≡ Some bytes → Fit k bytes

-- the same rows, and the same capacity
pub record Same (before after : Rows) : Type 0 where
  pub rows : (k : ℕ) → after.row k ≡ before.row k
  pub capacity : after.capacity ≡ before.capacity

-- an accepted put: that row is set, and every other is as it was
pub record Sets (key : ℕ) (bytes : List ℕ) (before after : Rows) : Type 0 where
  pub fit : Fit key bytes
  pub room : before.row key ≡ None → held_in before.row < before.capacity
  pub here : after.row key ≡ Some bytes
  pub elsewhere : (k : ℕ) → (k ≢ key) → after.row k ≡ before.row k
  pub capacity : after.capacity ≡ before.capacity

-- why a put is refused, in the order of the tests
pub data NotSet (key : ℕ) (bytes : List ℕ) (before : Rows) (f : Fault) : Type 0 where
  range : f ≡ told Store Range → (Fit key bytes → ⊥) → NotSet key bytes before f
  full : f ≡ told Store StoreFull → Fit key bytes → before.row key ≡ None → held_in before.row ≡ before.capacity → NotSet key bytes before f

abbrev pub Put : ℕ → List ℕ → Rows → Rows → Result (Unit {0}) Fault → Type 0
Put key bytes before after (Ok _) = Sets key bytes before after
Put key bytes before after (Err f) = NotSet key bytes before f × Same before after

-- the bytes of a row, none where there is no row
abbrev pub bytes_of : Option (List ℕ) → List ℕ
bytes_of None = []
bytes_of (Some bytes) = bytes

-- an accepted get: the row stands at the buffer's front, the buffer's rest is kept, and the length is told, 0 for none
pub record Gets (key n : ℕ) (old new : List ℕ) (row : Keyed) : Type 0 where
  pub known : key ≤ 1023
  pub long : 192 ≤ length old
  pub size : n ≡ length (bytes_of (row key))
  pub whole : new ≡ bytes_of (row key) ++ drop n old

-- why a get is refused, in the order of the tests
pub data NotGot (key : ℕ) (old : List ℕ) (f : Fault) : Type 0 where
  short : f ≡ told Store Short → length old < 192 → NotGot key old f
  range : f ≡ told Store Range → 192 ≤ length old → 1023 < key → NotGot key old f

abbrev pub Got : ℕ → List ℕ → List ℕ → Keyed → Result ℕ Fault → Type 0
Got key old new row (Ok n) = Gets key n old new row
Got key old new row (Err f) = NotGot key old f × (new ≡ old)

-- why putting a row and getting it back is refused: nothing was put, or the row was put and not got
pub data NotKept (key : ℕ) (bytes old : List ℕ) (before after : Rows) (f : Fault) : Type 0 where
  put : NotSet key bytes before f → Same before after → NotKept key bytes old before after f
  got : Sets key bytes before after → NotGot key old f → NotKept key bytes old before after f

-- what putting a row and getting it back answers: the row, with every other as it was; and it is accepted where row, buffer and room are fit
pub record Kept (key : ℕ) (bytes old new : List ℕ) (before after : Rows) (r : Result ℕ Fault) : Type 0 where
  pub back : (n : ℕ) → r ≡ Ok n → (n ≡ length bytes) × (new ≡ bytes ++ drop n old) × (after.row key ≡ Some bytes)
  pub elsewhere : (k : ℕ) → (k ≢ key) → after.row k ≡ before.row k
  pub accepted : Fit key bytes → 192 ≤ length old → (before.row key ≡ None → held_in before.row < before.capacity) → r ≡ Ok (length bytes)
  pub refused : (f : Fault) → r ≡ Err f → NotKept key bytes old before after f × (new ≡ old)

-- What the store over entries means, and so the table and the log.
use Rattle.std.specs.Prelude.{◌≡◌, ℕ, ◌-◌, ◌<◌, ◌≤◌, None, Ok, Err, vec_items, Result}
use Rattle.fault.specs.declared.kinds.Cause.TheVariants.{Range}
use Rattle.fault.specs.declared.kinds.Layer.TheVariants.{Store}
use Rattle.fault.specs.declared.kinds.NotMade.{NotMade}
use Rattle.fault.specs.declared.kinds.NotMade.TheVariants.{Refused, Memory}
use Rattle.fault.specs.Numbers.{told}
use Rattle.store.specs.declared.stores.EntryStore.{EntryStore}
use Rattle.store.specs.declared.writing.Append.{Append}
use Rattle.store.specs.declared.writing.Overwrite.{Overwrite}
use Rattle.store.specs.Entries.{row_in}
use Rattle.store.specs.Rows.{Rows}

-- the rows that the entries hold, and how many they may hold
abbrev pub rows_of : {W : Type 0} {spare : ℕ} → EntryStore W spare → Rows
rows_of s = record { row = row_in (vec_items s.entries); capacity = s.capacity }

-- a store of some capacity that holds nothing
pub record Empty (capacity : ℕ) (s : Rows) : Type 0 where
  pub none : (k : ℕ) → s.row k ≡ None
  pub sized : s.capacity ≡ capacity

-- what making a store of n entries answers, of which some are spare: 0 in a table, 1 in a log
abbrev pub MakesStore : {W : Type 0} (spare n : ℕ) → Result (EntryStore W spare) NotMade → Type 0
MakesStore spare n (Ok s) = Empty (n - spare) (rows_of s)
MakesStore spare n (Err (Refused f)) = (f ≡ told Store Range) × ((spare < n) × (n ≤ 320) → ⊥)
MakesStore spare n (Err Memory) = (spare < n) × (n ≤ 320)

-- a table may hold as many rows as it has slots
abbrev pub Table : Type 0
Table = EntryStore Overwrite 0

abbrev pub table_rows : Table → Rows
table_rows t = rows_of t

-- a log may hold one row less than it has entries
abbrev pub Log : Type 0
Log = EntryStore Append 1

abbrev pub log_rows : Log → Rows
log_rows l = rows_of l

-- what making a table of a number of slots answers
abbrev pub MakesTable : {W : Type 0} {spare : ℕ} → ℕ → Result (EntryStore W spare) NotMade → Type 0
MakesTable n (Ok t) = Empty n (rows_of t)
MakesTable n (Err (Refused f)) = (f ≡ told Store Range) × ((1 ≤ n) × (n ≤ 320) → ⊥)
MakesTable n (Err Memory) = (1 ≤ n) × (n ≤ 320)

-- what making a log of a number of entries answers
abbrev pub MakesLog : {W : Type 0} {spare : ℕ} → ℕ → Result (EntryStore W spare) NotMade → Type 0
MakesLog n (Ok l) = Empty (n - 1) (rows_of l)
MakesLog n (Err (Refused f)) = (f ≡ told Store Range) × ((2 ≤ n) × (n ≤ 320) → ⊥)
MakesLog n (Err Memory) = (2 ≤ n) × (n ≤ 320)

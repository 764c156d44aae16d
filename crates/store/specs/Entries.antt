-- Rows kept as a list of entries, of which the newest for a key counts.
use Rattle.std.specs.Prelude.{◌≡◌, ℕ, zero, suc, ◌+◌, ◌<◌, Bool, true, false, cond, List, [], ◌∷◌, length, drop, is_some, Some, None, Option, ◌==◌, ◌≢◌}
use Rattle.store.specs.declared.entry.Entry.{Entry}
use Rattle.store.specs.Rows.{Keyed, Fit}

abbrev pub bytes_in : Entry → List ℕ
bytes_in e = e.bytes.items

-- an entry that was made for a key and a row which can be kept
pub record Holds (key : ℕ) (bytes : List ℕ) (e : Entry) : Type 0 where
  pub fit : Fit key bytes
  pub own : e.key ≡ key
  pub row : bytes_in e ≡ bytes

-- the later of two, if there is a later
abbrev pub later : Option (List ℕ) → Option (List ℕ) → Option (List ℕ)
later old None = old
later old (Some bytes) = Some bytes

-- what one entry says of a key
abbrev pub says : Entry → Keyed
says e k = cond (e.key == k) (Some (bytes_in e)) None

-- the row of a key: what the newest entry for it says
abbrev pub row_in : List Entry → Keyed
row_in [] k = None
row_in (e ∷ es) k = later (says e k) (row_in es k)

-- whether the entry at a place is for a key; past the end there is none
abbrev pub key_at : ℕ → List Entry → ℕ → Bool
key_at key [] i = false
key_at key (e ∷ es) zero = e.key == key
key_at key (e ∷ es) (suc i) = key_at key es i

-- the place of the newest entry for a key: no later entry is for it
abbrev pub Newest : ℕ → List Entry → Option ℕ → Type 0
Newest key es None = (i : ℕ) → key_at key es i ≡ false
Newest key es (Some p) = (p < length es) × (key_at key es p ≡ true) × ((i : ℕ) → p < i → key_at key es i ≡ false)

-- a row was written: the key has it now, and every other key what it had
pub record Wrote (key : ℕ) (bytes : List ℕ) (before after : List Entry) : Type 0 where
  pub here : row_in after key ≡ Some bytes
  pub elsewhere : (k : ℕ) → (k ≢ key) → row_in after k ≡ row_in before k

-- the entry at a place no longer counts: a later one is for the same key
pub record Obsolete (es : List Entry) (p : ℕ) : Type 0 where
  pub key : ℕ
  pub there : p < length es
  pub own : key_at key es p ≡ true
  pub newer : is_some (row_in (drop (p + 1) es) key) ≡ true

-- What a put leaves, whichever way the row is written, and what every list of entries keeps.
use Rattle.std.specs.Prelude.{◌≡◌, ℕ, ◌+◌, ◌≤◌, Bool, true, false, cond, List, [], ◌∷◌, ◌++◌, length, drop, Some, None, Ok, Err, Option, Result, ◌==◌, slice_index_or, refl}
use Rattle.std.proofs.Common.{ap, subst, ◌∙◌, arith}
use Rattle.std.proofs.lemmas.List.{get_or_default}
use Rattle.std.proofs.lemmas.Bool.Decides.{nat_tests}
use Rattle.fault.specs.declared.kinds.Fault.{Fault}
use Rattle.store.specs.declared.entry.Entry.{Entry}
use Rattle.store.specs.declared.stores.EntryStore.{EntryStore}
use Rattle.store.specs.Rows.{Rows, Fit, Sound, Sets, NotGot, Got, Kept, NotKept, bytes_of, held_in}
use Rattle.store.specs.Entries.{bytes_in, later, says, row_in, Holds, Newest, Wrote}
use Rattle.store.specs.Stores.{rows_of, Table, table_rows, Log, log_rows}
use Rattle.store.specs.Held.{held_again, held_more}
use Rattle.store.specs.Newest.{row_none, row_some}

abbrev kept : List Entry → ℕ → Rows
kept es n = record { row = row_in es; capacity = n }

row_found : (key : ℕ) (es : List Entry) (p : ℕ) (d : Entry) → Newest key es (Some p) → row_in es key ≡ Some (bytes_in (slice_index_or es p d))
row_found key es p d n = row_some key es p (slice_index_or es p d) n.0 (get_or_default es p d (slice_index_or es p d) n.0) n.1 n.2

-- as the entry was made from the key and the row
wrote_as : (key : ℕ) (bytes : List ℕ) (x : Entry) (before after : List Entry) → Holds key bytes x → Wrote x.key (bytes_in x) before after → Wrote key bytes before after
wrote_as key bytes x before after h w = subst (λ (k : ℕ). Wrote k bytes before after) h.own (subst (λ (l : List ℕ). Wrote x.key l before after) h.row w)

-- a row whose key had one, and a row under a new key
module _ {key : ℕ} {bytes : List ℕ} {x : Entry} {before after : List Entry} (holds : Holds key bytes x) (w : Wrote x.key (bytes_in x) before after) where
  pub put_again : (n : ℕ) {p : ℕ} → Newest key before (Some p) → Sets key bytes (kept before n) (kept after n)
  put_again n {p} newest =
      let had = row_found key before p x newest in
      let wrote = wrote_as key bytes x before after holds w in
      record { fit = holds.fit; room = λ none. absurd (grind arith); here = wrote.here; elsewhere = wrote.elsewhere; capacity = refl }

  pub held_as_before : (p : ℕ) → Newest key before (Some p) → held_in (row_in after) ≡ held_in (row_in before)
  held_as_before p newest = held_again key bytes _ before after (row_found key before p x newest) (wrote_as key bytes x before after holds w)

  pub one_more_held : Newest key before None → held_in (row_in after) ≡ held_in (row_in before) + 1
  one_more_held newest = held_more key bytes before after holds.fit.known (row_none key before newest) (wrote_as key bytes x before after holds w)

-- every row that is read was put under its key
fit_entry : (e : Entry) → Fit e.key (bytes_in e)
fit_entry e = record { known = e.known; some = e.some.0; short = e.some.1 }

fit_says : (e : Entry) (k : ℕ) (bytes : List ℕ) (t : Bool) → (e.key == k) ≡ t → cond t (Some (bytes_in e)) None ≡ Some bytes → Fit k bytes
fit_says e k bytes true q h =
    let same : e.key ≡ k = grind (arith, nat_tests) in
    let text : bytes_in e ≡ bytes = cc in
    subst (λ (i : ℕ). Fit i bytes) same (subst (Fit e.key) text (fit_entry e))
fit_says e k bytes false q h = absurd (grind arith)

fit_later : (e : Entry) (k : ℕ) (bytes : List ℕ) (o : Option (List ℕ)) → (o ≡ Some bytes → Fit k bytes) → later (says e k) o ≡ Some bytes → Fit k bytes
fit_later e k bytes None rest h = fit_says e k bytes (e.key == k) refl h
fit_later e k bytes (Some b) rest h = rest h

fit_rows : (es : List Entry) (k : ℕ) (bytes : List ℕ) → row_in es k ≡ Some bytes → Fit k bytes
fit_rows [] k bytes h = absurd (grind arith)
fit_rows (e ∷ es) k bytes h = fit_later e k bytes (row_in es k) (fit_rows es k bytes) h

pub kept_sound : (es : List Entry) (n : ℕ) → held_in (row_in es) ≤ n → Sound (kept es n)
kept_sound es n h = record { within = h; fit = fit_rows es }

-- what the store over entries keeps by its type is what every store keeps
pub entries_sound : {W : Type 0} {spare : ℕ} (s : EntryStore W spare) → Sound (rows_of s)
entries_sound s = kept_sound s.entries.items s.capacity (omega (arith, s.apart, s.within))

-- so do the table and the log
pub table_sound : (t : Table) → Sound (table_rows t)
table_sound t = entries_sound t

pub log_sound : (l : Log) → Sound (log_rows l)
log_sound l = entries_sound l

-- a row that was put comes back
not_refused : (key : ℕ) (bytes old : List ℕ) (f : Fault) → Fit key bytes → 192 ≤ length old → NotGot key old f → ⊥
not_refused key bytes old f fit long (NotGot.short e h) = omega arith
not_refused key bytes old f fit long (NotGot.range e h k) = omega (arith, fit.known)

pub kept_back : (key : ℕ) (bytes old new : List ℕ) (before after : Rows) (r : Result ℕ Fault) → Sets key bytes before after → Got key old new after.row r → Kept key bytes old new before after r
kept_back key bytes old new before after (Ok n) s g =
    let row : bytes_of (after.row key) ≡ bytes = ap bytes_of s.here in
    let size : n ≡ length bytes = g.size ∙ ap length row in
    record {
      back = λ m e. let k : n ≡ m = cc in subst (λ (i : ℕ). (i ≡ length bytes) × (new ≡ bytes ++ drop i old) × (after.row key ≡ Some bytes)) k (size, g.whole ∙ ap (λ (b : List ℕ). b ++ drop n old) row, s.here);
      elsewhere = s.elsewhere;
      accepted = λ fit long room. ap Ok size;
      refused = λ f e. absurd (grind arith);
    }
kept_back key bytes old new before after (Err f) s g = record {
  back = λ m e. absurd (grind arith);
  elsewhere = s.elsewhere;
  accepted = λ fit long room. absurd (not_refused key bytes old f fit long g.0);
  refused = λ f' e. let same : f ≡ f' = cc in subst (λ (i : Fault). NotKept key bytes old before after i × (new ≡ old)) same (NotKept.got s g.0, g.1);
}

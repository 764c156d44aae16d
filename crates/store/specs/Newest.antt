-- The newest entry for a key, and what it says.
use Rattle.std.specs.Prelude.{◌≡◌, ℕ, zero, suc, ◌+◌, ◌<◌, ◌≤◌, true, false, List, [], ◌∷◌, ◌++◌, length, take, drop, is_some, Some, None, Option, ◌≢◌, nat_eq, slice_index_or, slice_set, MatchOption, refl}
use Rattle.std.specs.List.{AllWithin, HoldsAt}
use Rattle.std.proofs.Common.{sym, ap, subst, ◌∙◌, ⊎_elim, arith, length-append}
use Rattle.std.proofs.lemmas.List.{drop-append-le}
use Rattle.std.proofs.lemmas.Bool.{cases_eq}
use Rattle.std.proofs.lemmas.Bool.Decides.{nat_tests}
use Rattle.store.specs.declared.entry.Entry.{Entry}
use Rattle.store.specs.Rows.{Keyed, bytes_of, Gets}
use Rattle.store.specs.Entries.{bytes_in, later, says, row_in, key_at, Newest, Obsolete, Wrote}

-- an entry by its place
pub key_there : (key : ℕ) (es : List Entry) (p : ℕ) → p < length es → HoldsAt (λ e. e.key ≡ key) es p → key_at key es p ≡ true
key_there key [] p l h = absurd (omega arith)
key_there key (x ∷ es) zero l h = let e : x.key ≡ key = h x in grind (arith, nat_tests)
key_there key (x ∷ es) (suc p) l h = key_there key es p (omega arith) h

pub key_absent : (key : ℕ) (es : List Entry) (p : ℕ) → (p < length es → HoldsAt (λ e. e.key ≢ key) es p) → key_at key es p ≡ false
key_absent key [] p h = refl
key_absent key (x ∷ es) zero h = let ne : x.key ≢ key = h (omega arith) x in grind (arith, nat_tests)
key_absent key (x ∷ es) (suc p) h = key_absent key es p (λ l. h (omega arith))

pub newest_found : (key : ℕ) (es : List Entry) (r : Option ℕ) → MatchOption r (AllWithin (λ e. e.key ≢ key) es 0 (length es)) (λ p. (p < length es) × HoldsAt (λ e. e.key ≡ key) es p × AllWithin (λ e. e.key ≢ key) es (p + 1) (length es)) → Newest key es r
newest_found key es None h = λ i. key_absent key es i (λ l d. h i d (omega arith) l)
newest_found key es (Some p) h = (h.0, key_there key es p h.0 h.1, λ i m. key_absent key es i (λ l d. h.2 i d (omega arith) l))

-- what is read from entries
pub row_none : (key : ℕ) (es : List Entry) → ((i : ℕ) → key_at key es i ≡ false) → row_in es key ≡ None
row_none key [] h = refl
row_none key (e ∷ es) h =
    let here : nat_eq e.key key ≡ false = h 0 in
    let rest : row_in es key ≡ None = row_none key es (λ i. h (suc i)) in
    rw (rest, here)

pub row_some : (key : ℕ) (es : List Entry) (p : ℕ) (e : Entry) → p < length es → e ≡ slice_index_or es p e → key_at key es p ≡ true → ((i : ℕ) → p < i → key_at key es i ≡ false) → row_in es key ≡ Some (bytes_in e)
row_some key [] p e h r k l = absurd (omega arith)
row_some key (x ∷ es) zero e h r k l =
    let here : nat_eq x.key key ≡ true = k in
    let rest : row_in es key ≡ None = row_none key es (λ i. l (suc i) (omega arith)) in
    rw (rest, here) (ap (λ (y : Entry). Some (bytes_in y)) (sym r))
row_some key (x ∷ es) (suc p) e h r k l =
    let rest : row_in es key ≡ Some (bytes_in e) = row_some key es p e (omega arith) r k (λ i m. l (suc i) (omega arith)) in
    rw rest

-- what a get hands out
pub gets : (key n : ℕ) (old new : List ℕ) (row : Keyed) (o : Option (List ℕ)) → row key ≡ o → key ≤ 1023 → 192 ≤ length old → n ≡ length (bytes_of o) → new ≡ bytes_of o ++ drop n old → Gets key n old new row
gets key n old new row o e known long size whole = record {
  known = known;
  long = long;
  size = size ∙ ap (λ (p : Option (List ℕ)). length (bytes_of p)) (sym e);
  whole = whole ∙ ap (λ (p : Option (List ℕ)). bytes_of p ++ drop n old) (sym e);
}

-- entries for other keys
pub key_other : (key k : ℕ) (es : List Entry) (p : ℕ) → key_at key es p ≡ true → (k ≢ key) → key_at k es p ≡ false
key_other key k [] p h ne = refl
key_other key k (e ∷ es) zero h ne = grind (arith, nat_tests)
key_other key k (e ∷ es) (suc p) h ne = key_other key k es p h ne

says_own : (e : Entry) (k : ℕ) → e.key ≡ k → says e k ≡ Some (bytes_in e)
says_own e k h = let t : nat_eq e.key k ≡ true = grind (arith, nat_tests) in rw t

says_none : (e : Entry) (k : ℕ) → (e.key ≢ k) → says e k ≡ None
says_none e k h = let t : nat_eq e.key k ≡ false = grind (arith, nat_tests) in rw t

later_none : (o : Option (List ℕ)) → later None o ≡ o
later_none None = refl
later_none (Some b) = refl

later_assoc : (a b c : Option (List ℕ)) → later a (later b c) ≡ later (later a b) c
later_assoc a b None = refl
later_assoc a b (Some x) = refl

row_push : (es : List Entry) (x : Entry) (k : ℕ) → row_in (es ++ (x ∷ [])) k ≡ later (row_in es k) (says x k)
row_push [] x k = sym (later_none (says x k))
row_push (e ∷ es) x k = ap (later (says e k)) (row_push es x k) ∙ later_assoc (says e k) (row_in es k) (says x k)

row_set_here : (key : ℕ) (es : List Entry) (p : ℕ) (x : Entry) → p < length es → x.key ≡ key → ((i : ℕ) → p < i → key_at key es i ≡ false) → row_in (slice_set es p x) key ≡ Some (bytes_in x)
row_set_here key [] p x h e l = absurd (omega arith)
row_set_here key (y ∷ es) zero x h e l =
    let rest : row_in es key ≡ None = row_none key es (λ i. l (suc i) (omega arith)) in
    ap (later (says x key)) rest ∙ says_own x key e
row_set_here key (y ∷ es) (suc p) x h e l = ap (later (says y key)) (row_set_here key es p x (omega arith) e (λ i m. l (suc i) (omega arith)))

row_set_other : (k : ℕ) (es : List Entry) (p : ℕ) (x : Entry) → key_at k es p ≡ false → (x.key ≢ k) → row_in (slice_set es p x) k ≡ row_in es k
row_set_other k [] p x h ne = refl
row_set_other k (y ∷ es) zero x h ne =
    let other : nat_eq y.key k ≡ false = h in
    ap (λ (o : Option (List ℕ)). later o (row_in es k)) (says_none x k ne ∙ sym (says_none y k (grind (arith, nat_tests))))
row_set_other k (y ∷ es) (suc p) x h ne = ap (later (says y k)) (row_set_other k es p x h ne)

row_removed : (k : ℕ) (es : List Entry) (p : ℕ) → p < length es → key_at k es p ≡ false → row_in (take p es ++ drop (p + 1) es) k ≡ row_in es k
row_removed k [] p l h = absurd (omega arith)
row_removed k (y ∷ es) zero l h =
    let other : nat_eq y.key k ≡ false = h in
    sym (ap (λ (o : Option (List ℕ)). later o (row_in es k)) (says_none y k (grind (arith, nat_tests))) ∙ later_none (row_in es k))
row_removed k (y ∷ es) (suc p) l h =
    let e : suc p + 1 ≡ suc (p + 1) = omega arith in
    rw e (ap (later (says y k)) (row_removed k es p (omega arith) h))

-- the two ways to write a row: at the end, and over its entry
pushed : (es : List Entry) (x : Entry) → Wrote x.key (bytes_in x) es (es ++ (x ∷ []))
pushed es x = record {
  here = row_push es x x.key ∙ ap (later (row_in es x.key)) (says_own x x.key refl);
  elsewhere = λ k ne. row_push es x k ∙ ap (later (row_in es k)) (says_none x k (λ e. ne (sym e)));
}

pub wrote_set : (es : List Entry) (p : ℕ) (x : Entry) → Newest x.key es (Some p) → Wrote x.key (bytes_in x) es (slice_set es p x)
wrote_set es p x n = record {
  here = row_set_here x.key es p x n.0 refl n.2;
  elsewhere = λ k ne. row_set_other k es p x (key_other x.key k es p n.1 ne) (λ e. ne (sym e));
}

pub wrote_push : (es after : List Entry) (x : Entry) → after ≡ es ++ (x ∷ []) → Wrote x.key (bytes_in x) es after
wrote_push es after x e = subst (Wrote x.key (bytes_in x) es) (sym e) (pushed es x)

-- an entry that no longer counts says nothing
later_some : (a o : Option (List ℕ)) → is_some o ≡ true → o ≡ later a o
later_some a None h = absurd (grind arith)
later_some a (Some b) h = refl

row_own_removed : (key : ℕ) (es : List Entry) (p : ℕ) → p < length es → is_some (row_in (drop (p + 1) es) key) ≡ true → row_in (take p es ++ drop (p + 1) es) key ≡ row_in es key
row_own_removed key [] p l h = absurd (omega arith)
row_own_removed key (y ∷ es) zero l h = later_some (says y key) (row_in es key) h
row_own_removed key (y ∷ es) (suc p) l h =
    let e : suc p + 1 ≡ suc (p + 1) = omega arith in
    rw e (ap (later (says y key)) (row_own_removed key es p (omega arith) (rw e at h)))

pub row_given_up : (es after : List Entry) (p : ℕ) → Obsolete es p → after ≡ take p es ++ drop (p + 1) es → (k : ℕ) → row_in after k ≡ row_in es k
row_given_up es after p o e k =
    ap (λ (l : List Entry). row_in l k) e ∙ ⊎_elim (λ same. rw same (row_own_removed o.key es p o.there o.newer)) (λ ne. row_removed k es p o.there (key_other o.key k es p o.own ne)) (cases_eq k o.key)

-- once a row is written, the entry that its key had no longer counts
key_append : (key : ℕ) (es more : List Entry) (p : ℕ) → p < length es → key_at key (es ++ more) p ≡ key_at key es p
key_append key [] more p h = absurd (omega arith)
key_append key (e ∷ es) more zero h = refl
key_append key (e ∷ es) more (suc p) h = key_append key es more p (omega arith)

obsolete_push : (es : List Entry) (p : ℕ) (x : Entry) → Newest x.key es (Some p) → Obsolete (es ++ (x ∷ [])) p
obsolete_push es p x n =
    let fits : p + 1 ≤ length es = omega (arith, n.0) in
    record {
      key = x.key;
      there = omega (arith, n.0, length-append es (x ∷ []));
      own = key_append x.key es (x ∷ []) p n.0 ∙ n.1;
      newer = ap (λ (l : List Entry). is_some (row_in l x.key)) (drop-append-le (p + 1) es (x ∷ []) fits) ∙ ap is_some (pushed (drop (p + 1) es) x).here;
    }

pub now_obsolete : (es grown : List Entry) (p : ℕ) (x : Entry) → Newest x.key es (Some p) → grown ≡ es ++ (x ∷ []) → Obsolete grown p
now_obsolete es grown p x n g = subst (λ (l : List Entry). Obsolete l p) (sym g) (obsolete_push es p x n)

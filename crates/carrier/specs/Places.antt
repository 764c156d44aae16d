-- Letters in a row, place by place.
use Rattle.std.specs.Prelude.{◌≡◌, ℕ, zero, suc, ◌+◌, ◌<◌, ◌≤◌, false, List, [], ◌∷◌, ◌++◌, map, length, get_or, take, drop, vec_items, vec_len, ◌==◌, nat_eq, slice_index_or, count_by, true, ◌≢◌, Option, Some, None, MatchOption, refl}
use Rattle.std.specs.List.{AllWithin, HoldsAt}
use Rattle.std.proofs.Common.{sym, ap, ◌∙◌, arith}
use Rattle.std.proofs.lemmas.List.{map-append, take-map, drop-map, get_or-map, drop_more, take-append-drop, length-map}
use Rattle.std.proofs.lemmas.List.Recursion.{is_count_by}
use Rattle.std.proofs.lemmas.Bool.Decides.{nat_tests}
use Rattle.carrier.specs.declared.kinds.Row.{Row}
use Rattle.carrier.specs.declared.kinds.Slot.{Slot}
use Rattle.carrier.specs.Mail.{Letter, waiting_for, letter}
use Rattle.carrier.specs.Queues.{letter_in, letters, for_at, Picks, TakesOut}

pub letters-length : (r : Row) → length (letters r) ≡ vec_len r.slots
letters-length r = length-map (vec_items r.slots) letter_in ∙ sym r.slots.ok.0

-- of any letters: none is behind the last, and those of two lists are those of the one and of the other
pub for_past : (to : ℕ) (ls : List Letter) (k : ℕ) → length ls ≤ k → for_at to ls k ≡ false
for_past to [] k h = refl
for_past to (x ∷ xs) zero h = absurd (omega arith)
for_past to (x ∷ xs) (suc k) h = for_past to xs k (omega arith)

pub for_append : (to : ℕ) (a b : List Letter) → waiting_for to (a ++ b) ≡ waiting_for to a + waiting_for to b
for_append to [] b = omega arith
for_append to (x ∷ a) b = omega (arith, for_append to a b)

for_there : (to : ℕ) (ss : List Slot) (k : ℕ) → k < length ss → HoldsAt (λ s. s.to.number ≡ to) ss k → for_at to (map letter_in ss) k ≡ true
for_there to [] k l h = absurd (omega arith)
for_there to (s ∷ ss) zero l h = let e : s.to.number ≡ to = h s in grind (arith, nat_tests)
for_there to (s ∷ ss) (suc k) l h = for_there to ss k (omega arith) h

for_another : (to : ℕ) (ss : List Slot) (k : ℕ) → (k < length ss → HoldsAt (λ s. s.to.number ≢ to) ss k) → for_at to (map letter_in ss) k ≡ false
for_another to [] k h = refl
for_another to (s ∷ ss) zero h = let ne : s.to.number ≢ to = h (omega arith) s in grind (arith, nat_tests)
for_another to (s ∷ ss) (suc k) h = for_another to ss k (λ l. h (omega arith))

pub for_read : (to : ℕ) (ss : List Slot) (k : ℕ) (s : Slot) → k < length ss → s ≡ slice_index_or ss k s → for_at to (map letter_in ss) k ≡ (s.to.number == to)
for_read to [] k s h e = absurd (omega arith)
for_read to (x ∷ ss) zero s h e = ap (λ (y : Slot). nat_eq y.to.number to) (sym e)
for_read to (x ∷ ss) (suc k) s h e = for_read to ss k s (omega arith) e

pub none_for : (to : ℕ) (ls : List Letter) → ((k : ℕ) → k < length ls → for_at to ls k ≡ false) → waiting_for to ls ≡ 0
none_for to [] h = refl
none_for to (x ∷ xs) h =
    let here : nat_eq x.to to ≡ false = h 0 (omega arith) in
    rw here (omega (arith, none_for to xs (λ k l. h (suc k) (omega arith))))

pub count_slots : (to : ℕ) (ss : List Slot) → waiting_for to (map letter_in ss) ≡ count_by (λ s. s.to.number == to) ss
count_slots to = is_count_by (λ ss. waiting_for to (map letter_in ss)) (λ s. s.to.number == to) refl (λ s ss. grind (arith, nat_tests))

pub picks : (sooner : ℕ → ℕ → Type 0) (to : ℕ) (ss : List Slot) (r : Option ℕ) → MatchOption r (AllWithin (λ s. s.to.number ≢ to) ss 0 (length ss)) (λ i. (i < length ss) × HoldsAt (λ s. s.to.number ≡ to) ss i × ((k : ℕ) (d : Slot) → sooner k i → k < length ss → (get_or ss k d).to.number ≢ to)) → Picks sooner to (map letter_in ss) r
picks sooner to ss None h = none_for to (map letter_in ss) (λ k _. for_another to ss k (λ l d. h k d (omega arith) l))
picks sooner to ss (Some i) h = ((omega (arith, h.0, length-map ss letter_in), for_there to ss i h.0 h.1), λ k m. for_another to ss k (λ l d. h.2 k d m l))

split_here : {X : Type 0} (xs : List X) (i : ℕ) (d : X) → i < length xs → xs ≡ take i xs ++ (slice_index_or xs i d ∷ drop (i + 1) xs)
split_here {X} xs i d h = sym (take-append-drop i xs) ∙ ap (λ (t : List X). take i xs ++ t) (drop_more xs i d h)

pub taken_out : (ss after : List Slot) (i n : ℕ) (s : Slot) (old new : List ℕ) → i < length ss → s ≡ slice_index_or ss i s → after ≡ take i ss ++ drop (i + 1) ss → n ≤ 768 → take n new ≡ (letter_in s).text → drop n new ≡ drop n old → TakesOut i n old new (map letter_in ss) (map letter_in after)
taken_out ss after i n s old new h e a size front rest =
    let ls : List Letter = map letter_in ss in
    let long : i < length ls = omega (arith, length-map ss letter_in) in
    let here : get_or ls i (letter_in s) ≡ letter s.to.number (take n new) = get_or-map letter_in ss i s (letter_in s) h ∙ ap letter_in (sym e) ∙ ap (letter s.to.number) (sym front) in
    record {
      to = s.to.number;
      named = λ a. for_read a ss i s h e;
      was = split_here ls i (letter_in s) long ∙ ap (λ (x : Letter). take i ls ++ (x ∷ drop (i + 1) ls)) here;
      is = ap (map letter_in) a ∙ map-append letter_in (take i ss) (drop (i + 1) ss) ∙ simp (take-map, drop-map);
      size = size;
      rest = rest;
    }

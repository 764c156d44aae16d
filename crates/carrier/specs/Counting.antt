-- How often letters wait.
use Rattle.std.specs.Prelude.{◌≡◌, ℕ, ◌+◌, ◌<◌, ◌≤◌, Bool, true, false, cond, List, [], ◌∷◌, ◌++◌, map, length, take, drop, ◌==◌, refl}
use Rattle.std.proofs.Common.{sym, ap, subst, ◌∙◌, ⊎_elim, arith}
use Rattle.std.proofs.lemmas.Bool.{cases_Bool, and_parts, eqb-true, eq-eqb}
use Rattle.carrier.specs.declared.kinds.Row.{Row}
use Rattle.carrier.specs.declared.kinds.Slot.{Slot}
use Rattle.carrier.specs.Mail.{Letter, Fit, Sound, same_text, same_letter, times, letter}
use Rattle.carrier.specs.Posts.{Takes, Hands}
use Rattle.carrier.specs.Queues.{letter_in, letters, for_at, row_mail, TakesOut}
use Rattle.carrier.specs.Places.{letters-length}

-- the test of equal letters is true of equal letters alone
pub same_text_eq : (a b : List ℕ) → same_text a b ≡ true → a ≡ b
same_text_eq [] [] h = refl
same_text_eq [] (y ∷ b) h = absurd (grind arith)
same_text_eq (x ∷ a) [] h = absurd (grind arith)
same_text_eq (x ∷ a) (y ∷ b) h = let p = and_parts (x == y) (same_text a b) h in ap (λ (n : ℕ). n ∷ a) (eqb-true x y p.0) ∙ ap (λ (l : List ℕ). y ∷ l) (same_text_eq a b p.1)

pub own_text : (a : List ℕ) → same_text a a ≡ true
own_text [] = refl
own_text (x ∷ a) = rw (eq-eqb x x refl) (own_text a)

pub same_letter_eq : (a b : Letter) → same_letter a b ≡ true → a ≡ b
same_letter_eq a b h =
    let p = and_parts (a.to == b.to) (same_text a.text b.text) h in
    ap (λ (n : ℕ). letter n a.text) (eqb-true a.to b.to p.0) ∙ ap (letter b.to) (same_text_eq a.text b.text p.1)

pub own_letter : (a : Letter) → same_letter a a ≡ true
own_letter a = rw (eq-eqb a.to a.to refl) (own_text a.text)

pub times_append : (x : Letter) (a b : List Letter) → times x (a ++ b) ≡ times x a + times x b
times_append x [] b = omega arith
times_append x (y ∷ a) b = omega (arith, times_append x a b)

pub times_own : (x : Letter) (a : List Letter) → times x (x ∷ a) ≡ 1 + times x a
times_own x a = let e = own_letter x in rw e refl

-- one more at the end is one more at the front
pub times_push : (x l : Letter) (a : List Letter) → times x (a ++ (l ∷ [])) ≡ times x (l ∷ a)
times_push x l a = omega (arith, times_append x a (l ∷ []))

-- one taken out of the middle is one less
pub times_out : (x l : Letter) (a p q : List Letter) → a ≡ p ++ (l ∷ q) → times x (l ∷ (p ++ q)) ≡ times x a
times_out x l a p q e = omega (arith, ap (times x) e, times_append x p (l ∷ q), times_append x p q)

-- every letter in a slot can be carried
fit_slot : (s : Slot) → Fit (letter_in s)
fit_slot s = record { address = s.address; some = s.some.0; short = s.some.1 }

rest_waits : (b : Bool) (n : ℕ) → b ≡ false → 0 < cond {A = ℕ} b 1 0 + n → 0 < n
rest_waits true n e h = absurd (grind arith)
rest_waits false n e h = omega arith

fit_slots : (ss : List Slot) (x : Letter) → 0 < times x (map letter_in ss) → Fit x
fit_slots [] x h = absurd (omega arith)
fit_slots (s ∷ ss) x h =
    ⊎_elim (λ e. subst Fit (sym (same_letter_eq x (letter_in s) e)) (fit_slot s)) (λ e. fit_slots ss x (rest_waits (same_letter x (letter_in s)) (times x (map letter_in ss)) e h)) (cases_Bool (same_letter x (letter_in s)))

pub row_sound : (r : Row) → Sound (row_mail r)
row_sound r = record { room = r.size.0; within = omega (arith, letters-length r, r.held); fit = fit_slots _ }

pub row_takes : (l : Letter) (r : Row) (after : List Letter) → Fit l → length (letters r) < r.room → after ≡ letters r ++ (l ∷ []) → Takes l (row_mail r) (record { waiting = after; capacity = r.room; faithful = true })
row_takes l r after fit room e = record {
  fit = fit;
  room = room;
  capacity = refl;
  faithful = refl;
  among = λ x h. omega (arith, ap (times x) e, times_push x l (letters r));
  exact = λ _ x. ap (times x) e ∙ times_push x l (letters r);
}

pub row_hands : (to i n : ℕ) (old new : List ℕ) (r s : Row) → 768 ≤ length old → for_at to (letters r) i ≡ true → TakesOut i n old new (letters r) (letters s) → s.room ≡ r.room → Hands to n old new (row_mail r) (row_mail s)
row_hands to i n old new r s long for out same =
    let e : out.to ≡ to = eqb-true out.to to (sym (out.named to) ∙ for) in
    let l : Letter = letter to (take n new) in
    let was : letters r ≡ take i (letters r) ++ (l ∷ drop (i + 1) (letters r)) = out.was ∙ ap (λ (t : ℕ). take i (letters r) ++ (letter t (take n new) ∷ drop (i + 1) (letters r))) e in
    let less : (x : Letter) → times x (l ∷ letters s) ≡ times x (letters r) = λ x. ap (λ (a : List Letter). times x (l ∷ a)) out.is ∙ times_out x l (letters r) _ _ was in
    record {
      long = long;
      size = out.size;
      rest = out.rest;
      waited = omega (arith, less l, times_own l (letters s));
      capacity = same;
      faithful = refl;
      no_more = λ x. omega (arith, less x);
      exact = λ _. less;
    }

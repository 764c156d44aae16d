-- Lines inside an event, from the reader's own state to the state that it stands for.
use Rattle.std.proofs.Common.{◌≡◌, ℕ, ◌+◌, ◌<◌, ◌≤◌, min, true, false, cond, List, [], ◌∷◌, ◌++◌, length, take, set, Some, None, Ok, Err, codes, Result, sym, refl, ap, ◌∙◌, subst, arith}
use Rattle.std.specs.List.{slice_get}
use Rattle.std.specs.Str.{bytes_eq}
use Rattle.std.proofs.lemmas.Slice.Eq.{bytes_eq-Decides}
use Rattle.std.proofs.lemmas.List.{length-map, length-take, take_more_set}
use Rattle.std.proofs.lemmas.Bool.Decides.{nat_tests}
use Rattle.std.proofs.lemmas.Option.{slice_get_past}
use Rattle.fault.specs.declared.kinds.Fault.{Fault}
use Rattle.fault.specs.declared.kinds.Property.{Property}
use Rattle.lines.specs.Content.{Content}
use Rattle.property.specs.Values.{Part, rdate, property_of}
use Rattle.message.specs.declared.kinds.Event.{Event}
use Rattle.message.specs.declared.kinds.Kind.TheVariants as kind
use Rattle.message.specs.declared.kinds.Method.{Method}
use Rattle.message.specs.declared.kinds.Method.TheVariants.{Request, Cancel, Reply}
use Rattle.message.specs.declared.kinds.Stage.TheVariants as stage
use Rattle.message.specs.declared.progress.Reading.{Reading}
use Rattle.message.specs.Names.{kind_of}
use Rattle.message.specs.Meaning.{wanted, order, required}
use Rattle.message.specs.Grammar.{State, inside, closing, Inside, skips, adds, ends, Step, NoStep, fault_in, inside_fault, frame_fault, part_fault}
use Rattle.message.specs.Reader.{slots, state_in, state_of, parts_read, StageIs, Moves, Closes, framed, early, Fills, Adds}

pub length-slots : (m : Method) (e : Event) → length (slots m e) ≡ length (order m)
length-slots Request e = omega (arith, length-map e.further rdate, e.whole)
length-slots Cancel e = refl
length-slots Reply e = refl

required_ordered : (m : Method) → required m ≤ length (order m)
required_ordered Request = omega arith
required_ordered Cancel = omega arith
required_ordered Reply = omega arith

-- as many parts were read as the reader counts, or all
pub length-read : (m : Method) (n : ℕ) (e : Event) → length (take n (slots m e)) ≡ min n (length (order m))
length-read m n e = length-take n (slots m e) ∙ ap (min n) (length-slots m e)

pub wanted_read : (m : Method) (n : ℕ) (e : Event) → wanted m (length (take n (slots m e))) ≡ wanted m n
wanted_read m n e =
    let l = length-read m n e in
    let p : length (order m) ≤ n → wanted m n ≡ None = slice_get_past (order m) n in
    let q : length (order m) ≤ length (take n (slots m e)) → wanted m (length (take n (slots m e))) ≡ None = slice_get_past (order m) (length (take n (slots m e))) in
    let same : n < length (order m) → length (take n (slots m e)) ≡ n = λ h. omega arith in
    grind arith

pub inside_order : (xs : List Property) (n : ℕ) (p : Property) → slice_get xs n ≡ Some p → n < length xs
inside_order xs n p e = let past : length xs ≤ n → slice_get xs n ≡ None = slice_get_past xs n in grind arith

-- one part more
pub one_more : (m : Method) (n : ℕ) (before after : Event) (p : Part) → wanted m n ≡ Some (property_of p) → slots m after ≡ set (slots m before) n p → take (n + 1) (slots m after) ≡ take n (slots m before) ++ (p ∷ [])
one_more m n before after p w e =
    ap (take (n + 1)) e ∙ take_more_set (slots m before) n p (omega (arith, inside_order (order m) n (property_of p) w, length-slots m before))

inside_state : (m : Method) (r : Reading) → r.stage ≡ stage.Inside m → state_of r ≡ inside m (parts_read m r)
inside_state m r is = ap (λ s. state_in s r.read r.event) is

step_from : (m : Method) (parts : List Part) (s t : State) (l : Content) → s ≡ inside m parts → Inside false m parts l t → Step false s l t
step_from m parts s t l e i = let P : State → Type 0 = λ x. Step false x l t in subst P (sym e) i

no_step_from : (m : Method) (parts : List Part) (s : State) (l : Content) → s ≡ inside m parts → ((t : State) → Inside false m parts l t → ⊥) → NoStep s l
no_step_from m parts s l e none = let P : State → Type 0 = λ x. NoStep x l in subst P (sym e) none

fault_from : (m : Method) (n : ℕ) (r : Reading) (s : State) (l : Content) → s ≡ inside m (parts_read m r) → fault_in s l ≡ inside_fault (wanted m r.read) (kind_of l.name) l.text
fault_from m n r s l e = ap (λ x. fault_in x l) e ∙ ap (λ w. inside_fault w (kind_of l.name) l.text) (wanted_read m r.read r.event)

-- END inside an event
not_ended : (m : Method) (b : Reading) (l : Content) → kind_of l.name ≡ kind.End → (l.text ≡ codes ":VEVENT" → required m ≤ b.read → ⊥) → (t : State) → Inside false m (parts_read m b) l t → ⊥
not_ended m b l k none t (skips _ o _) = let z : ◌≡◌ {A = ℕ} 0 1 = cc in omega arith
not_ended m b l k none t (adds p _ q _ _ _) = let z : ◌≡◌ {A = ℕ} 0 1 = cc in omega arith
not_ended m b l k none t (ends r is _) = none is.1 (omega (arith, length-read m b.read b.event))

end_fault : (m : Method) (b : Reading) (l : Content) (f : Fault) → kind_of l.name ≡ kind.End → f ≡ cond (bytes_eq l.text (codes ":VEVENT")) (part_fault (wanted m b.read)) frame_fault → f ≡ inside_fault (wanted m b.read) (kind_of l.name) l.text
end_fault m b l f k e = e ∙ ap (λ x. inside_fault (wanted m b.read) x l.text) (sym k)

same_true : (xs ys : List ℕ) → xs ≡ ys → bytes_eq xs ys ≡ true
same_true xs ys e = (bytes_eq-Decides xs ys).1 e

same_false : (xs ys : List ℕ) → (xs ≡ ys → ⊥) → bytes_eq xs ys ≡ false
same_false xs ys ne = let d = bytes_eq-Decides xs ys in grind (arith, nat_tests)

pub ended : (m : Method) (l : Content) (b a : Reading) (r : Result (Unit {0}) Fault) → b.stage ≡ stage.Inside m → kind_of l.name ≡ kind.End → Closes l.text m b a r → Moves l (state_of b) (state_of a) r
ended m l b a (Ok _) is k (text, all, goes) =
    step_from m (parts_read m b) (state_of b) (state_of a) l (inside_state m b is) (ends (omega (arith, length-read m b.read b.event, required_ordered m)) (k, text) (closing_state m b a goes))
  where
    closing_state : (m : Method) (b a : Reading) → StageIs (stage.Closing m) b a → state_of a ≡ closing m (parts_read m b)
    closing_state m b a s = ap (λ x. state_in x a.read a.event) s.stage ∙ ap (λ n. closing m (take n (slots m a.event))) s.read ∙ ap (λ (e : Event). closing m (take b.read (slots m e))) s.event
ended m l b a (Err f) is k (framed e none) =
    let s = inside_state m b is in
    (no_step_from m _ (state_of b) l s (not_ended m b l k (λ text _. none text)), end_fault m b l f k (e ∙ ap (λ x. cond x (part_fault (wanted m b.read)) frame_fault) (sym (same_false _ _ none))) ∙ sym (fault_from m 0 b (state_of b) l s))
ended m l b a (Err f) is k (early e text less) =
    let s = inside_state m b is in
    (no_step_from m _ (state_of b) l s (not_ended m b l k (λ _ r. omega arith)), end_fault m b l f k (e ∙ ap (λ x. cond x (part_fault (wanted m b.read)) frame_fault) (sym (same_true _ _ text))) ∙ sym (fault_from m 0 b (state_of b) l s))

-- a property inside an event
not_added : (m : Method) (p : Property) (b : Reading) (l : Content) → kind_of l.name ≡ kind.Listed p → ((q : Part) → Fills p l.text m b.read q → ⊥) → (t : State) → Inside false m (parts_read m b) l t → ⊥
not_added m p b l k none t (skips _ o _) = let z : ◌≡◌ {A = ℕ} 0 1 = cc in omega arith
not_added m p b l k none t (adds q w listed own said _) = none q (record { wanted_next = sym (wanted_read m b.read b.event) ∙ w; listed = cc; belonging = own; said = said })
not_added m p b l k none t (ends r is _) = let e = is.0 in let z : ◌≡◌ {A = ℕ} 0 1 = cc in omega arith

pub added : (m : Method) (p : Property) (l : Content) (b a : Reading) (r : Result (Unit {0}) Fault) → b.stage ≡ stage.Inside m → kind_of l.name ≡ kind.Listed p → Adds p l.text m b a r → Moves l (state_of b) (state_of a) r
added m p l b a (Ok _) is k (q, fills, same, more) =
    step_from m (parts_read m b) (state_of b) (state_of a) l (inside_state m b is) (adds q (wanted_read m b.read b.event ∙ fills.wanted_next) (k ∙ ap kind.Listed (sym fills.listed)) fills.belonging fills.said (inside_state m a (same ∙ is) ∙ ap (inside m) more))
added m p l b a (Err f) is k (none, e) =
    let s = inside_state m b is in
    (no_step_from m _ (state_of b) l s (not_added m p b l k none), e ∙ ap (λ x. inside_fault (wanted m b.read) x l.text) (sym k) ∙ sym (fault_from m 0 b (state_of b) l s))

-- Where the parts of an event stand.
use Rattle.std.proofs.Common.{◌≡◌, ℕ, zero, suc, ◌-◌, ◌<◌, ◌≤◌, List, [], ◌∷◌, ◌++◌, map, length, get_or, take, set, Some, sym, refl, ap, ◌∙◌, arith}
use Rattle.std.specs.List.{slice_get}
use Rattle.std.proofs.lemmas.List.{map-set, set-append_right, take-map, take_all, length-take-le, length-map, get_or-map, get_or-take}
use Rattle.std.proofs.lemmas.Option.{slice_get-get_or}
use Rattle.fault.specs.declared.kinds.Property.TheVariants.{Rdate}
use Rattle.property.specs.declared.kinds.Period.{Period}
use Rattle.property.specs.declared.kinds.Attendee.TheVariants.{Invited}
use Rattle.property.specs.declared.kinds.Value.{Value}
use Rattle.property.specs.declared.kinds.Value.TheVariants.{Rdate as RdateValue}
use Rattle.property.specs.Values.{Part, uid, dtstamp, sequence, organizer, attendee, summary, dtstart, dtend, rdate, title_text, part_of, property_of}
use Rattle.message.specs.declared.kinds.Method.{Method}
use Rattle.message.specs.declared.kinds.Method.TheVariants.{Request, Cancel, Reply}
use Rattle.message.specs.declared.kinds.Event.{Event}
use Rattle.message.specs.Meaning.{wanted, required, further_of, date_parts, later}
use Rattle.message.specs.declared.kinds.Body.TheVariants as body
use Rattle.message.specs.declared.kinds.Periods.{Periods}
use Rattle.message.specs.Reader.{slots, parts_with}

-- only a REQUEST has further dates, behind its first eight properties
pub dates_placed : (m : Method) (n : ℕ) → wanted m n ≡ Some Rdate → (m ≡ Request) × (8 ≤ n)
dates_placed Request n e = (refl, grind arith)
dates_placed Cancel n e = absurd (grind arith)
dates_placed Reply n e = absurd (grind arith)

pub date_put : (a b c d e f g h : Part) (dates : List Period) (n : ℕ) (date : Period) → 8 ≤ n → a ∷ (b ∷ (c ∷ (d ∷ (e ∷ (f ∷ (g ∷ (h ∷ map rdate (set dates (n - 8) date)))))))) ≡ set (a ∷ (b ∷ (c ∷ (d ∷ (e ∷ (f ∷ (g ∷ (h ∷ map rdate dates)))))))) n (rdate date)
date_put a b c d e f g h dates n date l =
    let front : List Part = a ∷ (b ∷ (c ∷ (d ∷ (e ∷ (f ∷ (g ∷ (h ∷ []))))))) in
    ap (λ (t : List Part). front ++ t) (map-set rdate dates (n - 8) date) ∙ sym (set-append_right front (map rdate dates) 8 n (rdate date) refl l)

-- the same event with other further dates
abbrev dated : (e : Event) (further : List Period) → length further ≡ 5 → Event
dated e further whole = record { meeting = e.meeting; dtstamp = e.dtstamp; sequence = e.sequence; door = e.door; heard = e.heard; answer = e.answer; title = e.title; start = e.start; end = e.end; further = further; basis = e.basis; whole = whole }

pub put_date : (m : Method) (n : ℕ) (e : Event) (date : Period) (whole : length (set e.further (n - 8) date) ≡ 5) → wanted m n ≡ Some Rdate → slots m (dated e (set e.further (n - 8) date) whole) ≡ set (slots m e) n (rdate date)
put_date Request n e date whole w = date_put _ _ _ _ _ _ _ _ e.further n date (dates_placed Request n w).1
put_date Cancel n e date whole w = absurd (grind arith)
put_date Reply n e date whole w = absurd (grind arith)

pub put_value : (m : Method) (n : ℕ) (e : Event) (date : Period) (v : Value) (whole : length (set e.further (n - 8) date) ≡ 5) → v ≡ RdateValue date → wanted m n ≡ Some (property_of (part_of v)) → slots m (dated e (set e.further (n - 8) date) whole) ≡ set (slots m e) n (part_of v)
put_value m n e date v whole is w = rw is (put_date m n e date whole (rw is at w))

abbrev finished : Method → ℕ → Event → List Part
finished Request n e = uid e.meeting ∷ (dtstamp e.dtstamp ∷ (sequence e.sequence ∷ (organizer ∷ (attendee (Invited e.door e.heard) ∷ (summary (title_text e.title) ∷ (dtstart e.start ∷ (dtend e.end ∷ map rdate (take (n - 8) e.further))))))))
finished Cancel n e = slots Cancel e
finished Reply n e = slots Reply e

take_past : (front later : List Part) (n : ℕ) → length front ≤ n → take n (front ++ later) ≡ front ++ take (n - length front) later
take_past [] later n h = ap (λ k. take k later) (omega arith)
take_past (x ∷ front) later zero h = absurd (omega arith)
take_past (x ∷ front) later (suc n) h = ap (λ (t : List Part). x ∷ t) (take_past front later n (omega arith) ∙ ap (λ k. front ++ take k later) (omega arith))

-- what was read of an event whose required properties were read are the parts of its message
pub taken : (m : Method) (n : ℕ) → (e : Event) → required m ≤ n → n ≤ 13 → take n (slots m e) ≡ finished m n e
taken Request n e r l =
    let front : List Part = uid e.meeting ∷ (dtstamp e.dtstamp ∷ (sequence e.sequence ∷ (organizer ∷ (attendee (Invited e.door e.heard) ∷ (summary (title_text e.title) ∷ (dtstart e.start ∷ (dtend e.end ∷ []))))))) in
    take_past front (map rdate e.further) n r ∙ ap (λ (t : List Part). front ++ t) (take-map rdate (n - 8) e.further)
taken Cancel n e r l = take_all n _ r
taken Reply n e r l = take_all n _ r

pub request_parts : (m : Method) (n : ℕ) (e : Event) (d : Periods) → m ≡ Request → required m ≤ n → n ≤ 13 → (d.first.start ≡ e.start) × (d.first.end ≡ e.end) → further_of d ≡ take (n - 8) e.further → parts_with e (body.Request e.heard e.title d) ≡ take n (slots m e)
request_parts m n e d is r l first further =
    let t = taken Request n e (rw is at r) l in
    rw is (cc (t, first.0, first.1, further))

-- the places of the further dates among the parts
pub date_at : (d : Periods) (place : ℕ) (x : Period) → 2 ≤ place → place - 2 < d.count → slice_get (date_parts d) place ≡ Some (rdate (get_or d.further (place - 2) x))
date_at d zero x low less = absurd (omega arith)
date_at d (suc zero) x low less = absurd (omega arith)
date_at d (suc (suc k)) x low less =
    let same : suc (suc k) - 2 ≡ k = omega arith in
    let long : length (further_of d) ≡ d.count = length-take-le d.count d.further (omega arith) in
    let within : k < length (map rdate (further_of d)) = omega (arith, length-map (further_of d) rdate) in
    slice_get-get_or (map rdate (further_of d)) k (rdate x) within
    ∙ ap Some (get_or-map rdate (further_of d) k x (rdate x) (omega arith) ∙ ap rdate (get_or-take d.count d.further k x (omega arith) ∙ ap (λ i. get_or d.further i x) (sym same)))

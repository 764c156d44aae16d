-- The parts of a message stand in the order of its method, and their lines have room.
use Rattle.std.proofs.Common.{◌≡◌, ℕ, zero, suc, ◌+◌, ◌*◌, ◌<◌, ◌≤◌, true, List, [], ◌∷◌, ◌++◌, map, length, take, drop, Some, refl, ap, ◌∙◌, subst, arith}
use Rattle.std.specs.List.{slice_get}
use Rattle.std.proofs.lemmas.List.{length-take, length-map, drop_more, take_more}
use Rattle.std.proofs.lemmas.Option.{get_or_from_slice_get, slice_get_within}
use Rattle.fault.specs.declared.kinds.Property.{Property}
use Rattle.fault.specs.declared.kinds.Property.TheVariants as property
use Rattle.property.specs.declared.kinds.Door.{Door}
use Rattle.property.specs.declared.kinds.Period.{Period}
use Rattle.property.specs.Values.{Part, rdate, property_of}
use Rattle.message.specs.declared.kinds.Body.{Body}
use Rattle.message.specs.declared.kinds.Body.TheVariants as body
use Rattle.message.specs.declared.kinds.Message.{Message}
use Rattle.message.specs.declared.kinds.Method.{Method}
use Rattle.message.specs.declared.kinds.Method.TheVariants.{Request}
use Rattle.message.specs.declared.kinds.Periods.{Periods}
use Rattle.message.specs.Meaning.{order, rest, required, wanted, belongs, body_parts, body_method, further_of, parts_of, method_of}
use Rattle.writer.specs.Ranges.{Ranged}
use Rattle.writer.specs.Writing.{AllRanged}
use Rattle.writer.proofs.Fitting.{longest}

-- parts that stand along an order, as many as there are
abbrev Along : Method → List Property → List Part → Type 0
Along m os [] = Unit {0}
Along m [] (p ∷ ps) = ⊥
Along m (o ∷ os) (p ∷ ps) = (o ≡ property_of p) × (belongs m p ≡ true) × Along m os ps

along_at : (m : Method) (os : List Property) (ps : List Part) (i : ℕ) (p : Part) → Along m os ps → slice_get ps i ≡ Some p → (slice_get os i ≡ Some (property_of p)) × (belongs m p ≡ true)
along_at m os [] i p a e = let z : ◌≡◌ {A = ℕ} 0 1 = cc in absurd (omega arith)
along_at m [] (q ∷ ps) i p a e = absurd a
along_at m (o ∷ os) (q ∷ ps) zero p (same, own, _) e = let is : q ≡ p = cc in (cc, (let P : Part → Type 0 = λ x. belongs m x ≡ true in subst P is own))
along_at m (o ∷ os) (q ∷ ps) (suc i) p (_, _, a) e = along_at m os ps i p a e

-- an order of further dates
abbrev Dated : List Property → Type 0
Dated [] = Unit {0}
Dated (o ∷ os) = (o ≡ property.Rdate) × Dated os

along_dates : (m : Method) (os : List Property) (ds : List Period) → Dated os → length ds ≤ length os → Along m os (map rdate ds)
along_dates m os [] d h = tt
along_dates m [] (x ∷ ds) d h = absurd (omega arith)
along_dates m (o ∷ os) (x ∷ ds) (is, d) h = (is, refl, along_dates m os ds d (omega arith))

few_further : (d : Periods) → length (further_of d) ≤ 5
few_further d = omega (arith, length-take d.count d.further)

along_body : (d : Door) (b : Body) → Along (body_method b) (property.Attendee ∷ rest (body_method b)) (body_parts d b)
along_body d (body.Request heard title dates) = (refl, refl, (refl, refl, (refl, refl, (refl, refl, along_dates Request (property.Rdate ∷ (property.Rdate ∷ (property.Rdate ∷ (property.Rdate ∷ (property.Rdate ∷ []))))) (further_of dates) (refl, (refl, (refl, (refl, (refl, tt))))) (few_further dates)))))
along_body d (body.Cancel heard) = (refl, refl, (refl, refl, tt))
along_body d (body.Reply answer stamp) = (refl, refl, (refl, refl, tt))

pub ordered : (m : Message) (i : ℕ) (p : Part) → slice_get (parts_of m) i ≡ Some p → (wanted (method_of m) i ≡ Some (property_of p)) × (belongs (method_of m) p ≡ true)
ordered m i p e = along_at (method_of m) (order (method_of m)) (parts_of m) i p (refl, refl, (refl, refl, (refl, refl, (refl, refl, along_body m.door m.body)))) e

-- how many parts a message has, and the room of their lines
pub enough : (m : Message) → required (method_of m) ≤ length (parts_of m)
enough m = omega (arith, by m.door m.body)
  where
    by : (d : Door) (b : Body) → required (body_method b) ≤ 4 + length (body_parts d b)
    by d (body.Request heard title dates) = omega arith
    by d (body.Cancel heard) = omega arith
    by d (body.Reply answer stamp) = omega arith

pub few : (m : Message) → length (parts_of m) ≤ 13
few m = omega (arith, by m.door m.body)
  where
    by : (d : Door) (b : Body) → 4 + length (body_parts d b) ≤ 13
    by d (body.Request heard title dates) = omega (arith, few_further dates, length-map (further_of dates) rdate)
    by d (body.Cancel heard) = omega arith
    by d (body.Reply answer stamp) = omega arith

-- the room that the lines of some parts may take
abbrev pub room : List Part → ℕ
room [] = 0
room (p ∷ ps) = longest (property_of p) + room ps

room_dates : (ds : List Period) → room (map rdate ds) ≡ 54 * length ds
room_dates [] = refl
room_dates (x ∷ ds) = omega (arith, room_dates ds)

pub roomy : (m : Message) → room (parts_of m) ≤ 530
roomy m = by m.door m.body
  where
    by : (d : Door) (b : Body) → 17 + (26 + (15 + (29 + room (body_parts d b)))) ≤ 530
    by d (body.Request heard title dates) = omega (arith, few_further dates, room_dates (further_of dates))
    by d (body.Cancel heard) = omega arith
    by d (body.Reply answer stamp) = omega arith

-- a part at a place
pub placed : (ps : List Part) (i : ℕ) (p : Part) → slice_get ps i ≡ Some p → (i < length ps) × (drop i ps ≡ p ∷ drop (i + 1) ps) × (take (i + 1) ps ≡ take i ps ++ (p ∷ []))
placed ps i p e =
    let within = slice_get_within ps i p e in
    let here = get_or_from_slice_get ps i p p e in
    (within, drop_more ps i p within ∙ ap (λ (x : Part). x ∷ drop (i + 1) ps) here, take_more ps i p within ∙ ap (λ (x : Part). take i ps ++ (x ∷ [])) here)

pub ranged_at : (ps : List Part) (i : ℕ) (p : Part) → AllRanged ps → slice_get ps i ≡ Some p → Ranged p
ranged_at [] i p a e = let z : ◌≡◌ {A = ℕ} 0 1 = cc in absurd (omega arith)
ranged_at (q ∷ ps) zero p (r, _) e = let is : q ≡ p = cc in let P : Part → Type 0 = λ x. Ranged x in subst P is r
ranged_at (q ∷ ps) (suc i) p (_, a) e = ranged_at ps i p a e

pub ranged_more : (ps : List Part) (p : Part) → AllRanged ps → Ranged p → AllRanged (ps ++ (p ∷ []))
ranged_more [] p a r = (r, tt)
ranged_more (q ∷ ps) p (s, a) r = (s, ranged_more ps p a r)

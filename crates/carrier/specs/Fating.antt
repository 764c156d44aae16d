-- What a carrier that loses and doubles still keeps.
use Rattle.std.specs.Prelude.{◌≡◌, ℕ, ◌<◌, List, ◌∷◌, map, length, Ok, Err, Result, ◌≢◌, slice_index, slice_index_or, MatchResult, refl}
use Rattle.std.proofs.Common.{ap, ◌∙◌, arith}
use Rattle.std.proofs.lemmas.List.{get_or-map, length-map}
use Rattle.fault.specs.declared.kinds.Fault.{Fault}
use Rattle.carrier.specs.declared.kinds.Fate.{Fate}
use Rattle.carrier.specs.declared.kinds.Fate.TheVariants.{Lost, Carried, Doubled}
use Rattle.carrier.specs.Mail.{Letter, Mail, Fit, Sound, Among, times}
use Rattle.carrier.specs.Posts.{Takes, Posted}
use Rattle.carrier.specs.Fates.{digit_of, unfaithful, Fated, ReadsFate, ReadsPlan}
use Rattle.carrier.specs.declared.kinds.Plan.{Plan}
use Rattle.fault.specs.declared.kinds.NotMade.{NotMade}
use Rattle.fault.specs.declared.kinds.NotMade.TheVariants.{Refused}

pub unfaithful_sound : (m : Mail) → Sound m → Sound (unfaithful m)
unfaithful_sound m s = record { room = s.room; within = s.within; fit = s.fit }

-- one letter more, and once more, is still that letter
among_twice : (l : Letter) (before once after : List Letter) → Among once (l ∷ before) → Among after (l ∷ once) → Among after (l ∷ before)
among_twice l before once after p q x h = let u = q x h in let v = p x in grind arith

second_post : (l : Letter) (once after : Mail) (r : Result (Unit {0}) Fault) → Posted l once after r → (after.capacity ≡ once.capacity) × Among after.waiting (l ∷ once.waiting)
second_post l once after (Ok u) t = (t.capacity, t.among)
second_post l once after (Err f) t = (ap (λ (m : Mail). m.capacity) t.1, λ x h. omega (arith, ap (λ (m : Mail). times x m.waiting) t.1))

pub unfaithful_takes : (fate : Fate) (l : Letter) (before after : Mail) → Fit l → length before.waiting < before.capacity → Fated fate l before after → Takes l (unfaithful before) (unfaithful after)
unfaithful_takes Lost l before after fit room e = record { fit = fit; room = room; capacity = ap (λ (m : Mail). m.capacity) e; faithful = refl; among = λ x h. omega (arith, ap (λ (m : Mail). times x m.waiting) e); exact = λ no. absurd (grind arith) }
unfaithful_takes Carried l before after fit room t = record { fit = fit; room = room; capacity = t.capacity; faithful = refl; among = t.among; exact = λ no. absurd (grind arith) }
unfaithful_takes Doubled l before after fit room t = let s = second_post l t.0 after t.1 t.3 in record { fit = fit; room = room; capacity = s.0 ∙ t.2.capacity; faithful = refl; among = among_twice l before.waiting t.0.waiting after.waiting t.2.among s.1; exact = λ no. absurd (grind arith) }

-- a digit that is no fate's is in no plan
pub no_plan : (digits : List ℕ) (i : ℕ) → i < length digits → ((f : Fate) → slice_index digits i ≢ digit_of f) → (fates : List Fate) → digits ≢ map digit_of fates
no_plan digits i h none fates e =
    let long : length digits ≡ length fates = ap length e ∙ length-map fates digit_of in
    none (slice_index_or fates i Lost) (ap (λ (ds : List ℕ). slice_index ds i) e ∙ get_or-map digit_of fates i Lost 0 (omega arith))

pub bad_digit : (digits : List ℕ) (i : ℕ) (read : Result Fate Fault) (r : Result Plan NotMade) → i < length digits → ReadsFate (slice_index digits i) read → MatchResult read (λ _. ⊥) (λ f. r ≡ Err (Refused f)) → ReadsPlan digits r
bad_digit digits i (Ok f) r h reads e = absurd e
bad_digit digits i (Err f) r h reads e = rw e (reads.0, λ fates some few. no_plan digits i h reads.1 fates)

-- What was read is in its ranges.
use Rattle.std.proofs.Common.{◌≡◌, ℕ, Bool, List, [], ◌∷◌, ◌++◌, Some, None, sym, subst}
use Rattle.stamp.proofs.Stamps.{real}
use Rattle.lines.specs.Content.{Content}
use Rattle.property.specs.declared.kinds.Attendee.{Attendee}
use Rattle.property.specs.declared.kinds.Attendee.TheVariants.{Invited, Answering}
use Rattle.property.specs.Values.{Part, uid, dtstamp, sequence, organizer, attendee, summary, dtstart, dtend, rdate, status, basis, Says, AttendeeText}
use Rattle.message.specs.declared.kinds.Message.{Message}
use Rattle.message.specs.Grammar.{State, calendar, version, product, method, event, inside, closing, done, skips, adds, ends, Step, Leads, Means}
use Rattle.writer.specs.Ranges.{Ranged, AttendeeRanged}
use Rattle.writer.specs.Writing.{AllRanged, InRange}
use Rattle.writer.proofs.Ordered.{ranged_more}

attendee_ranged : (a : Attendee) (text : List ℕ) → AttendeeText a text → AttendeeRanged a
attendee_ranged (Invited d None) text t = ((t.named.first, t.named.last), tt)
attendee_ranged (Invited d (Some h)) text t = ((t.named.first, t.named.last), real _ _ t.said.1.stamped)
attendee_ranged (Answering d a) text t = (t.named.first, t.named.last)

pub said_ranged : (p : Part) (text : List ℕ) → Says p text → Ranged p
said_ranged (uid m) text (_, t, _) = (t.first, t.last)
said_ranged (dtstamp s) text (_, t, _) = real _ _ t
said_ranged (sequence n) text (_, t, _) = t.last
said_ranged organizer text t = tt
said_ranged (attendee a) text t = attendee_ranged a text t
said_ranged (summary x) text (t, _) = t
said_ranged (dtstart s) text (_, t, _) = real _ _ t
said_ranged (dtend s) text (_, t, _) = real _ _ t
said_ranged (rdate p) text (_, t, _) = (real _ _ t.started, real _ _ t.ended)
said_ranged status text t = tt
said_ranged (basis s) text (_, t, _) = real _ _ t

-- the parts that a state holds are in their ranges
abbrev Holds : State → Type 0
Holds calendar = Unit {0}
Holds version = Unit {0}
Holds product = Unit {0}
Holds method = Unit {0}
Holds (event m) = Unit {0}
Holds (inside m ps) = AllRanged ps
Holds (closing m ps) = AllRanged ps
Holds (done m ps) = AllRanged ps

moved : (s t : State) → t ≡ s → Holds s → Holds t
moved s t e h = let P : State → Type 0 = λ x. Holds x in subst P (sym e) h

step_holds : (h : Bool) (s t : State) (l : Content) → Step h s l t → Holds s → Holds t
step_holds h calendar t l (_, e) a = moved version t e tt
step_holds h version t l (_, e) a = moved product t e tt
step_holds h product t l (_, _, e) a = moved method t e tt
step_holds h method t l (m, _, e) a = moved (event m) t e tt
step_holds h (event m) t l (_, e) a = moved (inside m []) t e tt
step_holds h (inside m ps) t l (skips _ _ e) a = moved (inside m ps) t e a
step_holds h (inside m ps) t l (adds p _ _ _ said e) a = moved (inside m (ps ++ (p ∷ []))) t e (ranged_more ps p a (said_ranged p _ said))
step_holds h (inside m ps) t l (ends _ _ e) a = moved (closing m ps) t e a
step_holds h (closing m ps) t l (_, e) a = moved (done m ps) t e a
step_holds h (done m ps) t l st a = absurd st

leads_hold : (h : Bool) (s t : State) (ls : List Content) → Leads h s ls t → Holds s → Holds t
leads_hold h s t [] e a = moved s t (sym e) a
leads_hold h s t (l ∷ ls) (u, st, rest) a = leads_hold h u t ls rest (step_holds h s u l st a)

pub meant_ranged : (h : Bool) (text : List ℕ) (m : Message) → Means h text m → InRange m
meant_ranged h text m means = leads_hold h calendar _ means.led.lines means.led.leads tt

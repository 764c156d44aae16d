-- The parts that a property has.
use Rattle.std.proofs.Common.{◌≡◌, ℕ, List, ◌++◌, Some, None, Option, sym, refl, ◌∙◌, subst, MatchOption}
use Rattle.std.proofs.lemmas.List.{append_cancel_left}
use Rattle.fault.specs.declared.kinds.Property.{Property}
use Rattle.fault.specs.declared.kinds.Property.TheVariants as property
use Rattle.stamp.specs.declared.civil.Stamp.{Stamp}
use Rattle.stamp.specs.Stamps.{Stamped, Read}
use Rattle.rank.specs.declared.kinds.Sequence.{Sequence}
use Rattle.property.specs.declared.kinds.Meeting.{Meeting}
use Rattle.property.specs.declared.kinds.Attendee.{Attendee}
use Rattle.property.specs.declared.kinds.Period.{Period}
use Rattle.property.specs.declared.kinds.Value.{Value}
use Rattle.property.specs.Values.{Part, property_of, uid, dtstamp, sequence, organizer, attendee, summary, dtstart, dtend, rdate, status, basis, After, Says, Reads}

abbrev pub Owned : Property → Part → Type 0
Owned property.Uid q = (m : Meeting) × (q ≡ uid m)
Owned property.Dtstamp q = (s : Stamp) × (q ≡ dtstamp s)
Owned property.Sequence q = (n : Sequence) × (q ≡ sequence n)
Owned property.Organizer q = q ≡ organizer
Owned property.Attendee q = (a : Attendee) × (q ≡ attendee a)
Owned property.Summary q = (t : List ℕ) × (q ≡ summary t)
Owned property.Dtstart q = (s : Stamp) × (q ≡ dtstart s)
Owned property.Dtend q = (s : Stamp) × (q ≡ dtend s)
Owned property.Rdate q = (p : Period) × (q ≡ rdate p)
Owned property.Status q = q ≡ status
Owned property.Basis q = (s : Stamp) × (q ≡ basis s)

own : (q : Part) → Owned (property_of q) q
own (uid m) = (m, refl)
own (dtstamp s) = (s, refl)
own (sequence n) = (n, refl)
own organizer = refl
own (attendee a) = (a, refl)
own (summary t) = (t, refl)
own (dtstart s) = (s, refl)
own (dtend s) = (s, refl)
own (rdate p) = (p, refl)
own status = refl
own (basis s) = (s, refl)

-- a part of a property is of the kind that the property has
pub owned : (q : Part) (p : Property) → property_of q ≡ p → Owned p q
owned q p e = subst (λ (p : Property). Owned p q) e (own q)

-- a property that has no such text, since none of its values has
pub no_value : {V : Type 0} (make : V → Part) (d p : Property) (text : List ℕ) (r : Option Value) → p ≡ d → r ≡ None → ((q : Part) → property_of q ≡ d → (v : V) × (q ≡ make v)) → ((v : V) → Says (make v) text → ⊥) → Reads p text r
no_value make d p text r is none kind never =
    rw none (λ q e s. let k = kind q (e ∙ is) in never k.0 (subst (λ (q : Part). Says q text) k.1 s))

-- what follows a mark
pub after : (mark text rest : List ℕ) (P : List ℕ → Type 0) → text ≡ mark ++ rest → After mark P text → P rest
after mark text rest P e a = subst P (append_cancel_left mark a.0 rest (sym a.2 ∙ e)) a.1

-- what a reader answers of what follows a mark, of the whole text
pub read_after : {V : Type 0} (says : V → List ℕ → Type 0) (mark text rest : List ℕ) (o : Option V) → text ≡ mark ++ rest → MatchOption o ((v : V) → says v rest → ⊥) (λ v. says v rest) → MatchOption o ((v : V) → After mark (says v) text → ⊥) (λ v. After mark (says v) text)
read_after says mark text rest None e none = λ v a. none v (after mark text rest (says v) e a)
read_after says mark text rest (Some v) e read = (rest, read, e)

-- the stamp that was read is the one that has the text
pub read_stamp : (text : List ℕ) (o : Option Stamp) → Read text o → MatchOption o ((s : Stamp) → Stamped s.seconds text → ⊥) (λ s. Stamped s.seconds text)
read_stamp text None none = λ s t. none s.seconds t
read_stamp text (Some s) read = read.stamped

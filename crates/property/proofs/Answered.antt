-- The text of an attendee, taken apart: the answer shown, and what stands behind it.
use Rattle.std.proofs.Common.{◌≡◌, ℕ, List, ◌++◌, Some, None, codes, Option, sym, refl, ◌∙◌, subst, append_assoc, arith}
use Rattle.std.proofs.lemmas.List.{append_cancel_left}
use Rattle.stamp.specs.declared.civil.Stamp.{Stamp}
use Rattle.stamp.specs.Stamps.{Stamped}
use Rattle.property.specs.declared.kinds.Door.{Door}
use Rattle.property.specs.declared.kinds.Answer.{Answer}
use Rattle.property.specs.declared.kinds.Answer.TheVariants.{Accepted, Declined, Tentative}
use Rattle.property.specs.declared.kinds.Heard.{Heard}
use Rattle.property.specs.declared.kinds.Attendee.{Attendee}
use Rattle.property.specs.declared.kinds.Attendee.TheVariants.{Invited, Answering}
use Rattle.property.proofs.Texts.{first_byte}
use Rattle.property.specs.Values.{AttendeeText, DoorText, shown_text, answer_text}

-- no two answers begin alike
pub one_shown : (s t : Option Answer) (x y : List ℕ) → shown_text s ++ x ≡ shown_text t ++ y → (s ≡ t) × (x ≡ y)
one_shown None None x y e = (refl, append_cancel_left (shown_text None) x y e)
one_shown None (Some Accepted) x y e = absurd (omega (arith, first_byte e))
one_shown None (Some Declined) x y e = absurd (omega (arith, first_byte e))
one_shown None (Some Tentative) x y e = absurd (omega (arith, first_byte e))
one_shown (Some Accepted) None x y e = absurd (omega (arith, first_byte e))
one_shown (Some Accepted) (Some Accepted) x y e = (refl, append_cancel_left (shown_text (Some Accepted)) x y e)
one_shown (Some Accepted) (Some Declined) x y e = absurd (omega (arith, first_byte e))
one_shown (Some Accepted) (Some Tentative) x y e = absurd (omega (arith, first_byte e))
one_shown (Some Declined) None x y e = absurd (omega (arith, first_byte e))
one_shown (Some Declined) (Some Accepted) x y e = absurd (omega (arith, first_byte e))
one_shown (Some Declined) (Some Declined) x y e = (refl, append_cancel_left (shown_text (Some Declined)) x y e)
one_shown (Some Declined) (Some Tentative) x y e = absurd (omega (arith, first_byte e))
one_shown (Some Tentative) None x y e = absurd (omega (arith, first_byte e))
one_shown (Some Tentative) (Some Accepted) x y e = absurd (omega (arith, first_byte e))
one_shown (Some Tentative) (Some Declined) x y e = absurd (omega (arith, first_byte e))
one_shown (Some Tentative) (Some Tentative) x y e = (refl, append_cancel_left (shown_text (Some Tentative)) x y e)

-- the stamp of a REPLY, and the door behind it
pub record Replied (s : Stamp) (d : Door) (rest : List ℕ) : Type 0 where
  pub at : List ℕ
  pub door : List ℕ
  pub stamped : Stamped s.seconds at
  pub named : DoorText d door
  pub written : rest ≡ codes ";X-REPLY=" ++ (at ++ door)

-- what stands behind the answer shown
abbrev pub Behind : Attendee → Option Answer → List ℕ → Type 0
Behind (Invited d None) shown rest = (shown ≡ None) × DoorText d rest
Behind (Invited d (Some h)) shown rest = (shown ≡ h.shown) × Replied h.at d rest
Behind (Answering d a) shown rest = (shown ≡ Some a) × DoorText d rest

pub record Parts (a : Attendee) (text : List ℕ) : Type 0 where
  pub shown : Option Answer
  pub rest : List ℕ
  pub written : text ≡ codes ";PARTSTAT=" ++ (shown_text shown ++ rest)
  pub behind : Behind a shown rest

pub parts : (a : Attendee) (text : List ℕ) → AttendeeText a text → Parts a text
parts (Invited d None) text t = record { shown = None; rest = t.door; written = let s = t.said in cc; behind = (refl, t.named) }
parts (Invited d (Some h)) text t =
    let reply = t.said.1 in
    let said = t.said.2 in
    let grouped = append_assoc (shown_text h.shown) t.said.0 t.door in
    record {
      shown = h.shown;
      rest = t.said.0 ++ t.door;
      written = cc;
      behind = (refl, record { at = reply.at; door = t.door; stamped = reply.stamped; named = t.named; written = cc });
    }
parts (Answering d a) text t = record { shown = Some a; rest = t.door; written = let s = t.said in cc; behind = (refl, t.named) }

-- what stands behind the answer shown, wherever that was found
pub behind : (a : Attendee) (text status rest : List ℕ) (shown : Option Answer) → text ≡ codes ";PARTSTAT=" ++ status → status ≡ shown_text shown ++ rest → AttendeeText a text → Behind a shown rest
behind a text status rest shown e f t =
    let p = parts a text t in
    let g : status ≡ shown_text p.shown ++ p.rest = cc in
    let same = one_shown p.shown shown p.rest rest (sym g ∙ f) in
    subst (λ (s : Option Answer). Behind a s rest) same.0 (subst (λ (r : List ℕ). Behind a p.shown r) same.1 p.behind)

-- a text that does not begin with an answer
pub no_shown : (a : Attendee) (text status : List ℕ) → text ≡ codes ";PARTSTAT=" ++ status → ((s : Option Answer) (rest : List ℕ) → status ≡ shown_text s ++ rest → ⊥) → AttendeeText a text → ⊥
no_shown a text status e none t = let p = parts a text t in none p.shown p.rest (cc)

-- behind an answer, no stamp and door where the mark of a stamp stands
pub no_reply : (a : Attendee) (shown : Option Answer) (rest reply : List ℕ) → rest ≡ codes ";X-REPLY=" ++ reply → ((s : Stamp) (d : Door) (at door : List ℕ) → Stamped s.seconds at → DoorText d door → reply ≡ at ++ door → ⊥) → Behind a shown rest → ⊥
no_reply (Invited d None) shown rest reply e none b = omega (arith, first_byte (sym e ∙ b.1.written))
no_reply (Invited d (Some h)) shown rest reply e none b = let w = b.1.written in none h.at d b.1.at b.1.door b.1.stamped b.1.named (cc)
no_reply (Answering d a) shown rest reply e none b = omega (arith, first_byte (sym e ∙ b.1.written))

-- the text of an invited door whose answer is stamped
pub heard_text : (text status rest reply at door : List ℕ) (d : Door) (h : Heard) → text ≡ codes ";PARTSTAT=" ++ status → status ≡ shown_text h.shown ++ rest → rest ≡ codes ";X-REPLY=" ++ reply → Stamped h.at.seconds at → DoorText d door → reply ≡ at ++ door → AttendeeText (Invited d (Some h)) text
heard_text text status rest reply at door d h e f g s n w =
    let grouped = append_assoc (shown_text h.shown) (codes ";X-REPLY=" ++ at) door in
    record {
      status = shown_text h.shown ++ (codes ";X-REPLY=" ++ at);
      door = door;
      said = (codes ";X-REPLY=" ++ at, record { at = at; stamped = s; written = refl }, refl);
      named = n;
      written = cc;
    }

pub none_shown : (text : List ℕ) → ((rest : List ℕ) → text ≡ codes "NEEDS-ACTION" ++ rest → ⊥) → ((a : Answer) (rest : List ℕ) → text ≡ answer_text a ++ rest → ⊥) → (s : Option Answer) (rest : List ℕ) → text ≡ shown_text s ++ rest → ⊥
none_shown text bare none None rest e = bare rest e
none_shown text bare none (Some a) rest e = none a rest e

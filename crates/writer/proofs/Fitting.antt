-- The line of a part is a content line, with a name that is listed.
use Rattle.std.proofs.Common.{◌≡◌, ℕ, ◌+◌, ◌-◌, ◌≤◌, true, List, [], ◌∷◌, ◌++◌, length, get_or, codes, refl, ap, ◌∙◌, arith, length-append}
use Rattle.std.specs.List.{list_all}
use Rattle.fault.specs.declared.kinds.Property.{Property}
use Rattle.fault.specs.declared.kinds.Property.TheVariants as property
use Rattle.lines.specs.Bytes.{name_byte, printable, separates}
use Rattle.lines.specs.Content.{Content, Fit}
use Rattle.message.specs.Names.{kind_of}
use Rattle.message.specs.declared.kinds.Kind.TheVariants.{Listed}
use Rattle.stamp.specs.declared.civil.Stamp.{Stamp}
use Rattle.stamp.specs.Stamps.{Stamped}
use Rattle.property.specs.Values.{Part, uid, dtstamp, sequence, organizer, attendee, summary, dtstart, dtend, rdate, status, basis, property_of, name_text, After, Says}
use Rattle.writer.proofs.Legible.{every, Legible, joined, same, stamp_legible, meeting_legible, sequence_legible, title_legible, period_legible, attendee_legible}

-- the line of a part: the property's name, and a text of the part
abbrev pub line_of : Part → List ℕ → Content
line_of p text = record { name = name_text (property_of p); text = text }

-- the longest line of each property, with its CR LF
abbrev pub longest : Property → ℕ
longest property.Uid = 17
longest property.Dtstamp = 26
longest property.Sequence = 15
longest property.Organizer = 29
longest property.Attendee = 73
longest property.Summary = 50
longest property.Dtstart = 26
longest property.Dtend = 24
longest property.Rdate = 54
longest property.Status = 18
longest property.Basis = 26

-- the most bytes of a property's text, from the separator on
abbrev pub widest : Property → ℕ
widest p = longest p - (length (name_text p) + 2)

-- a property's name has name bytes, and is listed
pub record Named (p : Property) : Type 0 where
  pub some : 1 ≤ length (name_text p)
  pub naming : list_all name_byte (name_text p) ≡ true
  pub listed : kind_of (name_text p) ≡ Listed p
  pub short : longest p ≤ 77
  pub room : length (name_text p) + 2 ≤ longest p

pub named : (p : Property) → Named p
named property.Uid = record { some = omega arith; naming = refl; listed = refl; short = omega arith; room = omega arith }
named property.Dtstamp = record { some = omega arith; naming = refl; listed = refl; short = omega arith; room = omega arith }
named property.Sequence = record { some = omega arith; naming = refl; listed = refl; short = omega arith; room = omega arith }
named property.Organizer = record { some = omega arith; naming = refl; listed = refl; short = omega arith; room = omega arith }
named property.Attendee = record { some = omega arith; naming = refl; listed = refl; short = omega arith; room = omega arith }
named property.Summary = record { some = omega arith; naming = refl; listed = refl; short = omega arith; room = omega arith }
named property.Dtstart = record { some = omega arith; naming = refl; listed = refl; short = omega arith; room = omega arith }
named property.Dtend = record { some = omega arith; naming = refl; listed = refl; short = omega arith; room = omega arith }
named property.Rdate = record { some = omega arith; naming = refl; listed = refl; short = omega arith; room = omega arith }
named property.Status = record { some = omega arith; naming = refl; listed = refl; short = omega arith; room = omega arith }
named property.Basis = record { some = omega arith; naming = refl; listed = refl; short = omega arith; room = omega arith }

pub name_kind : (p : Part) → kind_of (name_text (property_of p)) ≡ Listed (property_of p)
name_kind p = (named (property_of p)).listed

-- a text from its separator on, of at most so many bytes
pub record Parted (n : ℕ) (text : List ℕ) : Type 0 where
  pub some : 1 ≤ length text
  pub parted : separates (get_or text 0 0) ≡ true
  pub legible : Legible n text

parted_after : {m n : ℕ} (x : ℕ) (mark text rest : List ℕ) → text ≡ (x ∷ mark) ++ rest → separates x ≡ true → Legible m (x ∷ mark) → Legible n rest → Parted (m + n) text
parted_after x mark text rest e s k l = record {
  some = omega (arith, ap length e);
  parted = ap (λ (t : List ℕ). separates (get_or t 0 0)) e ∙ s;
  legible = same text _ e (joined (x ∷ mark) rest k l);
}

-- behind a colon
parted_colon : {n : ℕ} (text rest : List ℕ) → text ≡ codes ":" ++ rest → Legible n rest → Parted (1 + n) text
parted_colon {n = n} text rest e l = parted_after {m = 1} {n = n} 58 [] text rest e refl (record { shown = refl; short = omega arith }) l

parted_stamp : (s : Stamp) (text : List ℕ) → After (codes ":") (Stamped s.seconds) text → Parted 17 text
parted_stamp s text a = parted_colon {n = 16} text a.0 a.2 (stamp_legible _ _ a.1)

pub parted : (p : Part) (text : List ℕ) → Says p text → Parted (widest (property_of p)) text
parted (uid m) text a = parted_colon {n = 11} text a.0 a.2 (meeting_legible m a.0 a.1)
parted (dtstamp s) text a = parted_stamp s text a
parted (sequence n) text a = parted_colon {n = 4} text a.0 a.2 (sequence_legible n a.0 a.1)
parted organizer text e = parted_after {m = 18} {n = 0} 58 (codes "mailto:site@doors") text [] e refl (record { shown = refl; short = omega arith }) (record { shown = refl; short = omega arith })
parted (attendee a) text t = record {
  some = omega (arith, ap length t.written);
  parted = ap (λ (t : List ℕ). separates (get_or t 0 0)) t.written;
  legible = attendee_legible a text t;
}
parted (summary t) text a = parted_colon {n = 40} text t a.1 (title_legible t a.0)
parted (dtstart s) text a = parted_stamp s text a
parted (dtend s) text a = parted_stamp s text a
parted (rdate p) text a = parted_after {m = 14} {n = 33} 59 (codes "VALUE=PERIOD:") text a.0 a.2 refl (record { shown = refl; short = omega arith }) (period_legible p a.0 a.1)
parted status text e = parted_after {m = 10} {n = 0} 58 (codes "CANCELLED") text [] e refl (record { shown = refl; short = omega arith }) (record { shown = refl; short = omega arith })
parted (basis s) text a = parted_stamp s text a

pub fit_line : (p : Part) (text : List ℕ) → Says p text → Fit (line_of p text)
fit_line p text s =
    let n = named (property_of p) in
    let t = parted p text s in
    record {
      named = n.some;
      naming = every name_byte _ n.naming;
      some = t.some;
      parted = t.parted;
      shown = every printable text t.legible.shown;
      short = omega (arith, n.short, t.legible.short, length-append (name_text (property_of p)) text);
    }

-- the line of a part has room, with its CR LF
pub line_room : (p : Part) (text : List ℕ) → Says p text → length (name_text (property_of p)) + length text + 2 ≤ longest (property_of p)
line_room p text s = omega (arith, (parted p text s).legible.short, (named (property_of p)).room)

-- A part of a property has one text, and a text is of one part.
use Rattle.std.proofs.Common.{◌≡◌, ℕ, ◌+◌, ◌-◌, ◌*◌, ◌/◌, Bool, true, false, cond, ltb, List, [], ◌∷◌, ◌++◌, get_or, Some, None, codes, Option, sym, refl, ap, ◌∙◌, subst, arith}
use native.Mathlib.Nat.{div-div-eq-div-mul}
use Rattle.std.proofs.lemmas.List.{append_cancel_left}
use Rattle.fault.specs.declared.kinds.Property.TheVariants as property
use Rattle.stamp.specs.declared.civil.Stamp.{Stamp}
use Rattle.stamp.specs.Stamps.{Stamped}
use Rattle.stamp.proofs.Stamps.{one_count}
use Rattle.stamp.proofs.Stamps as stamps
use Rattle.rank.specs.declared.kinds.Sequence.{Sequence}
use Rattle.property.specs.declared.kinds.Meeting.{Meeting}
use Rattle.property.specs.declared.kinds.Door.{Door}
use Rattle.property.specs.declared.kinds.Answer.{Answer}
use Rattle.property.specs.declared.kinds.Heard.{Heard}
use Rattle.property.specs.declared.kinds.Attendee.{Attendee}
use Rattle.property.specs.declared.kinds.Attendee.TheVariants.{Invited, Answering}
use Rattle.property.specs.declared.kinds.Period.{Period}
use Rattle.property.specs.Bytes.{four, plain}
use Rattle.property.specs.Values.{Part, property_of, uid, dtstamp, sequence, organizer, attendee, summary, dtstart, dtend, rdate, status, basis, After, Says, MeetingText, DoorText, SequenceText, PeriodText, ReplyText, Partstat, AttendeeText, shown_text}
use Rattle.property.proofs.Texts.{same_front, stamp_long, first_byte}
use Rattle.property.proofs.Answered.{Behind, parts, behind}
use Rattle.property.proofs.Owned.{owned}

-- the places of digits, first to last
byte : {xs ys : List ℕ} → (k : ℕ) → xs ≡ ys → get_or xs k 0 ≡ get_or ys k 0
byte k e = ap (λ (l : List ℕ). get_or l k 0) e

-- the number that digits write
worth : List ℕ → ℕ
worth [] = 0
worth (a ∷ []) = a - 48
worth (a ∷ (b ∷ [])) = 10 * (a - 48) + (b - 48)
worth (a ∷ (b ∷ (c ∷ []))) = 100 * (a - 48) + (10 * (b - 48) + (c - 48))
worth (a ∷ (b ∷ (c ∷ (d ∷ xs)))) = 1000 * (a - 48) + (100 * (b - 48) + (10 * (c - 48) + (d - 48)))

worth_cond : (b : Bool) (xs ys : List ℕ) (n : ℕ) → (b ≡ true → worth xs ≡ n) → (b ≡ false → worth ys ≡ n) → worth (cond b xs ys) ≡ n
worth_cond true xs ys n p q = p refl
worth_cond false xs ys n p q = q refl

worth_plain : (n : ℕ) → worth (plain n) ≡ n
unfolding worth
worth_plain n =
    let tens : n / 10 / 10 ≡ n / 100 = div-div-eq-div-mul n 10 10 in
    let hundreds : n / 100 / 10 ≡ n / 1000 = div-div-eq-div-mul n 100 10 in
    worth_cond (ltb n 10) _ _ n (λ _. omega arith)
    (λ _.
    worth_cond (ltb n 100) _ _ n (λ _. omega arith)
    (λ _. worth_cond (ltb n 1000) _ _ n (λ _. omega arith) (λ _. omega arith)))

pub one_meeting : (m n : Meeting) (text : List ℕ) → MeetingText m text → MeetingText n text → m ≡ n
one_meeting m n text a b =
    let w : codes "m" ++ (four m.number ++ codes "@doors") ≡ codes "m" ++ (four n.number ++ codes "@doors") = sym a.written ∙ b.written in
    let tens = byte 3 w in
    let ones = byte 4 w in
    let same : m.number ≡ n.number = omega arith in
    ap (λ (k : ℕ). let it : Meeting = record { number = k } in it) same

pub one_door : (d e : Door) (text : List ℕ) → DoorText d text → DoorText e text → d ≡ e
one_door d e text a b =
    let digit = byte 9 (sym a.written ∙ b.written) in
    let same : d.number ≡ e.number = omega arith in
    ap (λ (k : ℕ). let it : Door = record { number = k } in it) same

pub one_sequence : (m n : Sequence) (text : List ℕ) → SequenceText m text → SequenceText n text → m ≡ n
one_sequence m n text a b =
    let same : m.number ≡ n.number = sym (worth_plain m.number) ∙ ap worth (sym a.written ∙ b.written) ∙ worth_plain n.number in
    ap (λ (k : ℕ). let it : Sequence = record { number = k } in it) same

pub one_stamp : (s t : Stamp) (text : List ℕ) → Stamped s.seconds text → Stamped t.seconds text → s ≡ t
one_stamp s t text a b = ap (λ (k : ℕ). let it : Stamp = record { seconds = k } in it) (one_count _ _ text a b)

-- a stamp at the front of a text
one_front : (s t : Stamp) (a b x y : List ℕ) → Stamped s.seconds a → Stamped t.seconds b → a ++ x ≡ b ++ y → (s ≡ t) × (x ≡ y)
one_front s t a b x y p q e =
    let same = same_front a b x y (stamp_long _ a p ∙ sym (stamp_long _ b q)) e in
    (one_stamp s t b (subst (Stamped s.seconds) same.0 p) q, same.1)

same_period : (p q : Period) → p.start ≡ q.start → p.end ≡ q.end → p ≡ q
same_period p q e f =
    let made : Stamp → Stamp → Period = λ s t. record { start = s; end = t } in
    ap (λ (s : Stamp). made s p.end) e ∙ ap (λ (t : Stamp). made q.start t) f

pub one_period : (p q : Period) (text : List ℕ) → PeriodText p text → PeriodText q text → p ≡ q
one_period p q text a b =
    let front = one_front p.start q.start _ _ _ _ a.started b.started (sym a.written ∙ b.written) in
    let last : a.end ≡ b.end = append_cancel_left (codes "/") _ _ front.1 in
    same_period p q front.0 (one_stamp p.end q.end b.end (subst (Stamped p.end.seconds) last a.ended) b.ended)

same_heard : (g h : Heard) → g.shown ≡ h.shown → g.at ≡ h.at → g ≡ h
same_heard g h e f =
    let made : Option Answer → Stamp → Heard = λ s t. record { shown = s; at = t } in
    ap (λ (s : Option Answer). made s g.at) e ∙ ap (λ (t : Stamp). made h.shown t) f

-- after an answer shown stands one kind of attendee
one_behind : (a b : Attendee) (shown : Option Answer) (rest : List ℕ) → Behind a shown rest → Behind b shown rest → a ≡ b
one_behind (Invited d None) (Invited e None) shown rest a b = ap (λ (d : Door). Invited d None) (one_door d e rest a.1 b.1)
one_behind (Invited d None) (Invited e (Some h)) shown rest a b = absurd (omega (arith, first_byte (sym a.1.written ∙ b.1.written)))
one_behind (Invited d None) (Answering e x) shown rest a b = let z : None ≡ Some x = sym a.0 ∙ b.0 in let w : ◌≡◌ {A = ℕ} 0 1 = cc in absurd (omega arith)
one_behind (Invited d (Some g)) (Invited e None) shown rest a b = absurd (omega (arith, first_byte (sym a.1.written ∙ b.1.written)))
one_behind (Invited d (Some g)) (Invited e (Some h)) shown rest a b =
    let tail = append_cancel_left (codes ";X-REPLY=") _ _ (sym a.1.written ∙ b.1.written) in
    let front = one_front g.at h.at _ _ _ _ a.1.stamped b.1.stamped tail in
    let door = one_door d e b.1.door (subst (DoorText d) front.1 a.1.named) b.1.named in
    ap (λ (d : Door). Invited d (Some g)) door ∙ ap (λ (h : Heard). Invited e (Some h)) (same_heard g h (sym a.0 ∙ b.0) front.0)
one_behind (Invited d (Some g)) (Answering e x) shown rest a b = absurd (omega (arith, first_byte (sym a.1.written ∙ b.1.written)))
one_behind (Answering d x) (Invited e None) shown rest a b = let z : None ≡ Some x = sym b.0 ∙ a.0 in let w : ◌≡◌ {A = ℕ} 0 1 = cc in absurd (omega arith)
one_behind (Answering d x) (Invited e (Some h)) shown rest a b = absurd (omega (arith, first_byte (sym a.1.written ∙ b.1.written)))
one_behind (Answering d x) (Answering e y) shown rest a b =
    let z : Some x ≡ Some y = sym a.0 ∙ b.0 in
    let same : x ≡ y = cc in
    ap (λ (d : Door). Answering d x) (one_door d e rest a.1 b.1) ∙ ap (λ (x : Answer). Answering e x) same

pub one_attendee : (a b : Attendee) (text : List ℕ) → AttendeeText a text → AttendeeText b text → a ≡ b
one_attendee a b text s t =
    let p = parts a text s in
    one_behind a b p.shown p.rest p.behind (behind b text _ p.rest p.shown p.written refl t)

-- one value after a mark
one_after : {V : Type 0} (P : V → List ℕ → Type 0) (mark text : List ℕ) → ((v w : V) (x : List ℕ) → P v x → P w x → v ≡ w) → (v w : V) → After mark (P v) text → After mark (P w) text → v ≡ w
one_after P mark text one v w a b = one v w b.0 (subst (P v) (append_cancel_left mark a.0 b.0 (sym a.2 ∙ b.2)) a.1) b.1

-- two values of one kind of part
same_value : {V : Type 0} (make : V → Part) (text : List ℕ) (v : V) (q : Part) → ((w : V) → Says (make w) text → v ≡ w) → (w : V) × (q ≡ make w) → Says q text → make v ≡ q
same_value make text v q one k s = ap make (one k.0 (subst (λ (q : Part). Says q text) k.1 s)) ∙ sym k.1

abbrev StampIs : Stamp → List ℕ → Type 0
StampIs s text = Stamped s.seconds text

pub one_part : (p q : Part) (text : List ℕ) → property_of p ≡ property_of q → Says p text → Says q text → p ≡ q
one_part (uid m) q text e a b = same_value uid text m q (λ n s. one_after MeetingText (codes ":") text one_meeting m n a s) (owned q property.Uid (sym e)) b
one_part (dtstamp s) q text e a b = same_value dtstamp text s q (λ t u. one_after StampIs (codes ":") text one_stamp s t a u) (owned q property.Dtstamp (sym e)) b
one_part (sequence m) q text e a b = same_value sequence text m q (λ n s. one_after SequenceText (codes ":") text one_sequence m n a s) (owned q property.Sequence (sym e)) b
one_part organizer q text e a b = sym (owned q property.Organizer (sym e))
one_part (attendee x) q text e a b = same_value attendee text x q (λ y s. one_attendee x y text a s) (owned q property.Attendee (sym e)) b
one_part (summary t) q text e a b = same_value summary text t q (λ u s. append_cancel_left (codes ":") t u (sym a.1 ∙ s.1)) (owned q property.Summary (sym e)) b
one_part (dtstart s) q text e a b = same_value dtstart text s q (λ t u. one_after StampIs (codes ":") text one_stamp s t a u) (owned q property.Dtstart (sym e)) b
one_part (dtend s) q text e a b = same_value dtend text s q (λ t u. one_after StampIs (codes ":") text one_stamp s t a u) (owned q property.Dtend (sym e)) b
one_part (rdate p) q text e a b = same_value rdate text p q (λ r s. one_after PeriodText (codes ";VALUE=PERIOD:") text one_period p r a s) (owned q property.Rdate (sym e)) b
one_part status q text e a b = sym (owned q property.Status (sym e))
one_part (basis s) q text e a b = same_value basis text s q (λ t u. one_after StampIs (codes ":") text one_stamp s t a u) (owned q property.Basis (sym e)) b

-- one text after a mark
text_after : (P : List ℕ → Type 0) (mark a b : List ℕ) → ((x y : List ℕ) → P x → P y → x ≡ y) → After mark P a → After mark P b → a ≡ b
text_after P mark a b one s t = s.2 ∙ ap (λ (x : List ℕ). mark ++ x) (one s.0 t.0 s.1 t.1) ∙ sym t.2

period_text : (p : Period) (a b : List ℕ) → PeriodText p a → PeriodText p b → a ≡ b
period_text p a b s t =
    let start = stamps.one_text _ _ _ s.started t.started in
    let end = stamps.one_text _ _ _ s.ended t.ended in
    cc

reply_text : (s : Stamp) (a b : List ℕ) → ReplyText s a → ReplyText s b → a ≡ b
reply_text s a b p q = p.written ∙ ap (λ (x : List ℕ). codes ";X-REPLY=" ++ x) (stamps.one_text _ _ _ p.stamped q.stamped) ∙ sym q.written

partstat_text : (x : Attendee) (a b : List ℕ) → Partstat x a → Partstat x b → a ≡ b
partstat_text (Invited d None) a b s t = s ∙ sym t
partstat_text (Invited d (Some h)) a b s t = s.2 ∙ ap (λ (x : List ℕ). shown_text h.shown ++ x) (reply_text h.at _ _ s.1 t.1) ∙ sym t.2
partstat_text (Answering d x) a b s t = s ∙ sym t

attendee_text : (x : Attendee) (a b : List ℕ) → AttendeeText x a → AttendeeText x b → a ≡ b
attendee_text x a b s t =
    let said = partstat_text x _ _ s.said t.said in
    let door : s.door ≡ t.door = s.named.written ∙ sym t.named.written in
    cc

pub one_text : (p : Part) (a b : List ℕ) → Says p a → Says p b → a ≡ b
one_text (uid m) a b s t = text_after (MeetingText m) (codes ":") a b (λ x y p q. p.written ∙ sym q.written) s t
one_text (dtstamp n) a b s t = text_after (StampIs n) (codes ":") a b (stamps.one_text n.seconds) s t
one_text (sequence n) a b s t = text_after (SequenceText n) (codes ":") a b (λ x y p q. p.written ∙ sym q.written) s t
one_text organizer a b s t = s ∙ sym t
one_text (attendee x) a b s t = attendee_text x a b s t
one_text (summary x) a b s t = s.1 ∙ sym t.1
one_text (dtstart n) a b s t = text_after (StampIs n) (codes ":") a b (stamps.one_text n.seconds) s t
one_text (dtend n) a b s t = text_after (StampIs n) (codes ":") a b (stamps.one_text n.seconds) s t
one_text (rdate p) a b s t = text_after (PeriodText p) (codes ";VALUE=PERIOD:") a b (period_text p) s t
one_text status a b s t = s ∙ sym t
one_text (basis n) a b s t = text_after (StampIs n) (codes ":") a b (stamps.one_text n.seconds) s t

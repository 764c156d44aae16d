-- The texts of values: their bytes can be shown, and they are short.
use Rattle.std.proofs.Common.{◌≡◌, ℕ, ◌+◌, ◌≤◌, Bool, true, List, ◌++◌, length, get_or, Some, None, codes, Option, sym, refl, subst, arith, length-append}
use Rattle.std.specs.List.{list_all}
use Rattle.std.proofs.lemmas.List.Elements.{All-get_or, All-from_get_or}
use Rattle.std.proofs.lemmas.List.Folds.{list_all-append}
use Rattle.std.proofs.lemmas.List.Sums.{AllPass-from_list_all, list_all-from_AllPass}
use Rattle.std.proofs.lemmas.Bool.{and_from}
use Rattle.std.proofs.lemmas.Bool.Decides.{nat_tests}
use Rattle.lines.specs.Bytes.{printable, Every}
use Rattle.stamp.specs.Calendar.{month_length}
use Rattle.stamp.specs.Stamps.{Stamped}
use Rattle.stamp.specs.declared.civil.Stamp.{Stamp}
use Rattle.rank.specs.declared.kinds.Sequence.{Sequence}
use Rattle.property.specs.Bytes.{title_byte}
use Rattle.property.specs.Values.{MeetingText, DoorText, SequenceText, TitleText, PeriodText, ReplyText, Partstat, AttendeeText, answer_text, shown_text, door_of}
use Rattle.property.specs.declared.kinds.Meeting.{Meeting}
use Rattle.property.specs.declared.kinds.Door.{Door}
use Rattle.property.specs.declared.kinds.Period.{Period}
use Rattle.property.specs.declared.kinds.Answer.{Answer}
use Rattle.property.specs.declared.kinds.Answer.TheVariants.{Accepted, Declined, Tentative}
use Rattle.property.specs.declared.kinds.Attendee.{Attendee}
use Rattle.property.specs.declared.kinds.Attendee.TheVariants.{Invited, Answering}

-- a test of every byte, by places
pub every : (P : ℕ → Bool) (text : List ℕ) → list_all P text ≡ true → Every P text
every P text p k h = All-get_or (λ (x : ℕ). P x ≡ true) text k 0 h (AllPass-from_list_all P text p)

pub record Legible (n : ℕ) (text : List ℕ) : Type 0 where
  pub shown : list_all printable text ≡ true
  pub short : length text ≤ n

-- a text behind another
pub joined : {m n : ℕ} (x y : List ℕ) → Legible m x → Legible n y → Legible (m + n) (x ++ y)
joined x y p q = record {
  shown = rw (list_all-append printable x y) (and_from _ _ p.shown q.shown);
  short = omega (arith, p.short, q.short, length-append x y);
}

pub same : {n : ℕ} (x y : List ℕ) → x ≡ y → Legible n y → Legible n x
same {n = n} x y e l = subst (Legible n) (sym e) l

month_short : (year month : ℕ) → month_length year month ≤ 31
month_short year month = grind (arith, nat_tests)

pub stamp_legible : (n : ℕ) (text : List ℕ) → Stamped n text → Legible 16 text
stamp_legible n text s = let l = month_short s.day.year s.day.month in same text _ s.written (record { shown = grind (arith, nat_tests); short = omega arith })

pub meeting_legible : (m : Meeting) (text : List ℕ) → MeetingText m text → Legible 11 text
meeting_legible m text t = same text _ t.written (record { shown = grind (arith, nat_tests, t.last); short = omega arith })

pub door_legible : (d : Door) (text : List ℕ) → DoorText d text → Legible 16 text
door_legible d text t = same text _ t.written (record { shown = grind (arith, nat_tests, t.last); short = omega arith })

pub sequence_legible : (n : Sequence) (text : List ℕ) → SequenceText n text → Legible 4 text
sequence_legible n text t = same text _ t.written (record { shown = grind (arith, nat_tests, t.last); short = grind (arith, nat_tests) })

-- what may stand in a title can be shown
shown_title : (x : ℕ) → title_byte x ≡ true → printable x ≡ true
shown_title x h = grind (arith, nat_tests)

pub title_legible : (text : List ℕ) → TitleText text → Legible 40 text
title_legible text t = record {
  shown = list_all-from_AllPass printable text (All-from_get_or (λ (x : ℕ). printable x ≡ true) text 0 (λ k h. shown_title (get_or text k 0) (t.fit k h)));
  short = t.short;
}

pub period_legible : (p : Period) (text : List ℕ) → PeriodText p text → Legible 33 text
period_legible p text t =
    same text _ t.written
    (joined {m = 16} {n = 17} t.start _ (stamp_legible _ _ t.started)
    (joined {m = 1} {n = 16} (codes "/") t.end (record { shown = refl; short = omega arith }) (stamp_legible _ _ t.ended)))

answer_legible : (a : Answer) → Legible 12 (answer_text a)
answer_legible Accepted = record { shown = refl; short = omega arith }
answer_legible Declined = record { shown = refl; short = omega arith }
answer_legible Tentative = record { shown = refl; short = omega arith }

shown_legible : (a : Option Answer) → Legible 12 (shown_text a)
shown_legible None = record { shown = refl; short = omega arith }
shown_legible (Some a) = answer_legible a

reply_legible : (s : Stamp) (text : List ℕ) → ReplyText s text → Legible 25 text
reply_legible s text t = same text _ t.written (joined {m = 9} {n = 16} (codes ";X-REPLY=") t.at (record { shown = refl; short = omega arith }) (stamp_legible _ _ t.stamped))

wider : {m n : ℕ} (text : List ℕ) → m ≤ n → Legible m text → Legible n text
wider text h l = record { shown = l.shown; short = omega (arith, l.short) }

pub partstat_legible : (a : Attendee) (text : List ℕ) → Partstat a text → Legible 37 text
partstat_legible (Invited d None) text e = same text _ e (wider {m = 12} _ (omega arith) (shown_legible None))
partstat_legible (Invited d (Some h)) text t =
    same text _ t.2 (joined {m = 12} {n = 25} (shown_text h.shown) t.0 (shown_legible h.shown) (reply_legible h.at t.0 t.1))
partstat_legible (Answering d a) text e = same text _ e (wider {m = 12} _ (omega arith) (answer_legible a))

pub attendee_legible : (a : Attendee) (text : List ℕ) → AttendeeText a text → Legible 63 text
attendee_legible a text t =
    same text _ t.written
    (joined {m = 10} {n = 53} (codes ";PARTSTAT=") _ (record { shown = refl; short = omega arith })
    (joined {m = 37} {n = 16} t.status t.door (partstat_legible a t.status t.said) (door_legible (door_of a) t.door t.named)))

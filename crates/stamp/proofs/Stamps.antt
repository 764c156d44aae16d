-- A stamp has one text, and a text is of one stamp.
use Rattle.std.proofs.Common.{◌≡◌, ℕ, ◌+◌, ◌-◌, ◌/◌, ◌%◌, ◌<◌, ◌≤◌, List, Some, None, Option, sym, ap, ◌∙◌, arith, MatchOption}
use Rattle.stamp.specs.declared.civil.Stamp.{Stamp}
use Rattle.stamp.specs.declared.civil.Day.{Day}
use Rattle.stamp.specs.declared.civil.Time.{Time}
use Rattle.stamp.specs.Calendar.{two, year_length, month_length, days_of_months}
use Rattle.stamp.specs.Stamps.{days_to, seconds_at, day_text, time_text, shaped, placed, Shape, Stamped, Real, Read, Written}
use Rattle.stamp.proofs.Sums.{one_place, within_year, within_century}
use Rattle.stamp.proofs.Texts.{two_same, all_placed}

-- the same day, or the same time, by its parts
abbrev SameDay : Day → Day → Type 0
SameDay d e = (d.year ≡ e.year) × (d.month ≡ e.month) × (d.day ≡ e.day)

abbrev SameTime : Time → Time → Type 0
SameTime t u = (t.hour ≡ u.hour) × (t.minute ≡ u.minute) × (t.second ≡ u.second)

month_by_count : (year m n a b : ℕ) → (1 ≤ m) × (1 ≤ n) × (1 ≤ a) × (1 ≤ b) → a ≤ month_length year m → b ≤ month_length year n → days_of_months year (m - 1) + (a - 1) ≡ days_of_months year (n - 1) + (b - 1) → (m ≡ n) × (a ≡ b)
month_by_count year m n a b from p q h =
    let e : m - 1 + 1 ≡ m = omega arith in
    let f : n - 1 + 1 ≡ n = omega arith in
    let x : a - 1 < month_length year (m - 1 + 1) = rw e (omega arith) in
    let y : b - 1 < month_length year (n - 1 + 1) = rw f (omega arith) in
    let same = one_place (λ k. month_length year (k + 1)) (m - 1) (n - 1) (a - 1) (b - 1) h x y in
    (omega (arith, same.0), omega (arith, same.1))

day_by_count : (d e : Day) → days_to d ≡ days_to e → SameDay d e
day_by_count d e h =
    let p : 2000 + (d.year - 2000) ≡ d.year = omega arith in
    let q : 2000 + (e.year - 2000) ≡ e.year = omega arith in
    let x : days_of_months d.year (d.month - 1) + (d.day - 1) < year_length (2000 + (d.year - 2000)) = rw p (within_year d) in
    let y : days_of_months e.year (e.month - 1) + (e.day - 1) < year_length (2000 + (e.year - 2000)) = rw q (within_year e) in
    let years = one_place (λ k. year_length (2000 + k)) (d.year - 2000) (e.year - 2000) _ _ h x y in
    let year : d.year ≡ e.year = omega (arith, years.0) in
    let long = ap (λ k. month_length k e.month) year in
    let days = ap (λ k. days_of_months k (e.month - 1)) year in
    let rest = month_by_count d.year d.month e.month d.day e.day (omega arith, omega arith, omega arith, omega arith) (omega arith) (omega (arith, long)) (omega (arith, days, years.1)) in
    (year, rest.0, rest.1)

pub one_text : (n : ℕ) (text other : List ℕ) → Stamped n text → Stamped n other → text ≡ other
one_text n text other s t =
    let days : days_to s.day ≡ days_to t.day = omega arith in
    let time : SameTime s.time t.time = (omega arith, omega arith, omega arith) in
    let day = day_by_count s.day t.day days in
    cc

same_count : (d e : Day) (t u : Time) → shaped (day_text d) (time_text t) ≡ shaped (day_text e) (time_text u) → seconds_at d t ≡ seconds_at e u
same_count d e t u w =
    let a : two (d.year / 100) ≡ two (e.year / 100) = cc in
    let b : two (d.year % 100) ≡ two (e.year % 100) = cc in
    let year : d.year ≡ e.year = omega (arith, two_same _ _ a, two_same _ _ b) in
    let month : d.month ≡ e.month = two_same _ _ (cc) in
    let day : d.day ≡ e.day = two_same _ _ (cc) in
    let hour : t.hour ≡ u.hour = two_same _ _ (cc) in
    let minute : t.minute ≡ u.minute = two_same _ _ (cc) in
    let second : t.second ≡ u.second = two_same _ _ (cc) in
    cc

pub one_count : (m n : ℕ) (text : List ℕ) → Stamped m text → Stamped n text → m ≡ n
one_count m n text s t = s.counted ∙ same_count s.day t.day s.time t.time (sym s.written ∙ t.written) ∙ sym t.counted

pub real : (n : ℕ) (text : List ℕ) → Stamped n text → Real n
real n text s = (s.started, omega (arith, within_century s.day))

read_at : (text : List ℕ) (day : Day) (time : Time) (o : Option Stamp) → text ≡ shaped (day_text day) (time_text time) → MatchOption o (seconds_at day time ≡ 0) (λ s. (s.seconds ≡ seconds_at day time) × (1 ≤ s.seconds)) → Read text o
read_at text day time None whole none = λ n u. omega (arith, same_count u.day day u.time time (sym u.written ∙ whole))
read_at text day time (Some s) whole e =
    let it : Stamped s.seconds text = record { day = day; time = time; counted = e.0; started = e.1; written = whole } in
    record { real = real _ _ it; stamped = it; one_count = λ m u. one_count m _ text u it; one_text = λ other u. one_text _ other text u it }

-- a text of the right shape, whose date and time were read
pub matched : (text : List ℕ) (day : Day) (time : Time) (o : Option Stamp) → Shape text → placed 0 8 text ≡ day_text day → placed 9 6 text ≡ time_text time → MatchOption o (seconds_at day time ≡ 0) (λ s. (s.seconds ≡ seconds_at day time) × (1 ≤ s.seconds)) → Read text o
matched text day time o shape d t =
    let all = all_placed 16 text shape.long in
    let whole : text ≡ shaped (day_text day) (time_text time) = all ∙ (cc (shape.tee, shape.zed)) in
    read_at text day time o whole

-- the text that is put together from what was written of a day and of a time
pub written : (n : ℕ) (date clock : List ℕ) (day : Day) (time : Time) → Real n → date ≡ day_text day → clock ≡ time_text time → seconds_at day time ≡ n → Written n (shaped (placed 0 8 date) (placed 0 6 clock))
written n date clock day time r p q e = record {
  stamp = λ _. record { day = day; time = time; counted = sym e; started = r.0; written = rw (p, q) };
  other = λ no-stamp. absurd (no-stamp r);
}

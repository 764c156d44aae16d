-- Running sums, which place a day in its month and a month in its year.
use Rattle.std.proofs.Common.{◌≡◌, ℕ, zero, suc, ◌+◌, ◌-◌, ◌*◌, ◌/◌, ◌<◌, ◌≤◌, refl, add-one, arith}
use Rattle.std.proofs.lemmas.Bool.Decides.{nat_tests}
use Rattle.stamp.specs.declared.civil.Day.{Day}
use Rattle.stamp.specs.Stamps.{days_to}
use Rattle.stamp.specs.Calendar.{sum_below, year_length, month_length, days_of_years, days_of_months}

pub sum_none : (f : ℕ → ℕ) → sum_below f 0 ≡ 0
unfolding sum_below
sum_none f = refl

pub sum_more : (f : ℕ → ℕ) (n : ℕ) → sum_below f (n + 1) ≡ sum_below f n + f n
unfolding sum_below
sum_more f n = rw add-one

-- a later sum holds an earlier one and its next part
pub sum_later : (f : ℕ → ℕ) (a b : ℕ) → a < b → sum_below f a + f a ≤ sum_below f b
unfolding sum_below
sum_later f a zero h = absurd (omega arith)
sum_later f a (suc b) h = let again : a < b → sum_below f a + f a ≤ sum_below f b = sum_later f a b in grind arith

-- so a place within a part of the sum is a place in just one part
pub one_place : (f : ℕ → ℕ) (a b x y : ℕ) → sum_below f a + x ≡ sum_below f b + y → x < f a → y < f b → (a ≡ b) × (x ≡ y)
one_place f a b x y e p q = let u : a < b → sum_below f a + f a ≤ sum_below f b = sum_later f a b in let v : b < a → sum_below f b + f b ≤ sum_below f a = sum_later f b a in grind arith

pub years_closed : (n : ℕ) → days_of_years n ≡ 365 * n + (n + 3) / 4
unfolding sum_below
years_closed zero = refl
years_closed (suc n) = let again : days_of_years n ≡ 365 * n + (n + 3) / 4 = years_closed n in grind (arith, nat_tests)

pub months_whole : (year : ℕ) → days_of_months year 12 ≡ year_length year
unfolding sum_below
months_whole year = grind (arith, nat_tests)

-- a loop's step from one month to the next, and its end in December
pub months_more : (year month : ℕ) → 1 ≤ month → days_of_months year (month + 1 - 1) ≡ days_of_months year (month - 1) + month_length year month
months_more year zero h = absurd (omega arith)
months_more year (suc m) h =
    let e : suc m + 1 - 1 ≡ m + 1 = omega arith in
    let p : suc m - 1 ≡ m = omega arith in
    let q : suc m ≡ m + 1 = omega arith in
    rw (e, p, q, sum_more)

pub months_last : (year month left days : ℕ) → month ≡ 12 → days_of_months year (month - 1) + left ≡ days → days < year_length year → left < 31
unfolding sum_below
months_last year month left days e h k =
    let p : month - 1 ≡ 11 = omega arith in
    let q : days_of_months year 11 + left ≡ days = rw p at h in
    let w : days_of_months year 11 + 31 ≡ year_length year = months_whole year in omega arith

-- a day lies within its year, and its year within the century
pub within_year : (d : Day) → days_of_months d.year (d.month - 1) + (d.day - 1) < year_length d.year
within_year d =
    let e : d.month - 1 + 1 ≡ d.month = omega arith in
    let l = rw e at (sum_later (λ k. month_length d.year (k + 1)) (d.month - 1) 12 (omega arith)) in
    omega (arith, l, months_whole d.year)

pub within_century : (d : Day) → days_to d < 36525
within_century d = let w = within_year d in let y = years_closed (d.year - 2000) in grind (arith, nat_tests)

-- the year that a day falls in, by four years of 1,461 days at a time
pub year_found : (days : ℕ) → (days_of_years (4 * days / 1461) ≤ days) × (days - days_of_years (4 * days / 1461) < year_length (2000 + 4 * days / 1461))
year_found days = let y = years_closed (4 * days / 1461) in grind (arith, nat_tests)

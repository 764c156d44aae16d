-- The calendar of the years 2000 to 2099, in days and seconds.
use Rattle.std.specs.Prelude.{ℕ, zero, suc, ◌+◌, ◌/◌, ◌%◌, Bool, cond, ◌||◌, List, [], ◌∷◌, ◌==◌}

abbrev pub leap : ℕ → Bool
leap year = year % 4 == 0

abbrev pub year_length : ℕ → ℕ
year_length year = cond (leap year) 366 365

-- April, June, September and November
abbrev pub short : ℕ → Bool
short month = month == 4 || (month == 6 || (month == 9 || month == 11))

abbrev pub month_length : ℕ → ℕ → ℕ
month_length year month = cond (month == 2) (cond (leap year) 29 28) (cond (short month) 30 31)

-- f 0 + f 1 + .. + f (n - 1)
unfoldable pub sum_below : (ℕ → ℕ) → ℕ → ℕ
sum_below f zero = 0
sum_below f (suc n) = sum_below f n + f n

-- the days of the first n years from 2000 on, and of the first n months of a year
abbrev pub days_of_years : ℕ → ℕ
days_of_years n = sum_below (λ k. year_length (2000 + k)) n

abbrev pub days_of_months : ℕ → ℕ → ℕ
days_of_months year n = sum_below (λ k. month_length year (k + 1)) n

-- a number below 100 in two digits
abbrev pub two : ℕ → List ℕ
two n = (48 + n / 10) ∷ ((48 + n % 10) ∷ [])

-- Digits by place: what two texts of equal bytes have in common.
use Rattle.std.proofs.Common.{◌≡◌, ℕ, zero, suc, ◌+◌, ◌*◌, ◌/◌, ◌%◌, ◌<◌, List, [], ◌∷◌, length, get_or, drop, Some, None, Option, sym, ap, ◌∙◌, zero-add, arith, drop_of_length-le, drop-cons, MatchOption}
use native.Mathlib.Nat.{div-add-mod}
use Rattle.stamp.specs.declared.civil.Day.{Day}
use Rattle.stamp.specs.declared.civil.Time.{Time}
use Rattle.stamp.specs.Calendar.{two}
use Rattle.stamp.specs.Stamps.{day_text, time_text, placed}

placed_drop : (i n : ℕ) (xs : List ℕ) → length xs ≡ i + n → drop i xs ≡ placed i n xs
placed_drop i zero xs h = drop_of_length-le xs (omega arith)
placed_drop i (suc n) xs h = drop-cons xs i 0 (omega arith) ∙ ap (λ (t : List ℕ). get_or xs i 0 ∷ t) (placed_drop (suc i) n xs (omega arith))

pub all_placed : (n : ℕ) (xs : List ℕ) → length xs ≡ n → xs ≡ placed 0 n xs
all_placed n xs h = placed_drop 0 n xs (h ∙ sym (zero-add n))

pub two_same : (a b : ℕ) → two a ≡ two b → a ≡ b
two_same a b e =
    let t : 48 + a / 10 ≡ 48 + b / 10 = cc in
    let o : 48 + a % 10 ≡ 48 + b % 10 = cc in
    omega (arith, div-add-mod a 10, div-add-mod b 10)

pub read_day : (digits : List ℕ) (o : Option Day) (century year month day : ℕ) → length digits ≡ 8 → year < 100
    → get_or digits 0 0 ∷ (get_or digits 1 0 ∷ []) ≡ two century
    → get_or digits 2 0 ∷ (get_or digits 3 0 ∷ []) ≡ two year
    → get_or digits 4 0 ∷ (get_or digits 5 0 ∷ []) ≡ two month
    → get_or digits 6 0 ∷ (get_or digits 7 0 ∷ []) ≡ two day
    → MatchOption o ((d : Day) → d.year ≡ 100 * century + year → d.month ≡ month → d.day ≡ day → ⊥) (λ d. (d.year ≡ 100 * century + year) × (d.month ≡ month) × (d.day ≡ day))
    → MatchOption o ((d : Day) → digits ≡ day_text d → ⊥) (λ d. digits ≡ day_text d)
read_day digits None century year month day l b p q r s n = λ d e.
    let w = all_placed 8 digits l in
    let c1 : two (d.year / 100) ≡ two century = cc in
    let c2 : two (d.year % 100) ≡ two year = cc in
    let c3 : two d.month ≡ two month = cc in
    let c4 : two d.day ≡ two day = cc in
    n d (omega (arith, two_same (d.year / 100) century c1, two_same (d.year % 100) year c2)) (two_same _ _ c3) (two_same _ _ c4)
read_day digits (Some d) century year month day l b p q r s n =
    let w = all_placed 8 digits l in
    let c1 : d.year / 100 ≡ century = omega (arith, n.0) in
    let c2 : d.year % 100 ≡ year = omega (arith, n.0) in
    cc

pub read_time : (digits : List ℕ) (o : Option Time) (hour minute second : ℕ) → length digits ≡ 6
    → get_or digits 0 0 ∷ (get_or digits 1 0 ∷ []) ≡ two hour
    → get_or digits 2 0 ∷ (get_or digits 3 0 ∷ []) ≡ two minute
    → get_or digits 4 0 ∷ (get_or digits 5 0 ∷ []) ≡ two second
    → MatchOption o ((t : Time) → t.hour ≡ hour → t.minute ≡ minute → t.second ≡ second → ⊥) (λ t. (t.hour ≡ hour) × (t.minute ≡ minute) × (t.second ≡ second))
    → MatchOption o ((t : Time) → digits ≡ time_text t → ⊥) (λ t. digits ≡ time_text t)
read_time digits None hour minute second l p q r n = λ t e.
    let w = all_placed 6 digits l in
    let c1 : two t.hour ≡ two hour = cc in
    let c2 : two t.minute ≡ two minute = cc in
    let c3 : two t.second ≡ two second = cc in
    n t (two_same _ _ c1) (two_same _ _ c2) (two_same _ _ c3)
read_time digits (Some t) hour minute second l p q r n = let w = all_placed 6 digits l in cc

use Rattle.std.proofs.Common.{◌≡◌, ℕ, ◌+◌, ◌/◌, ◌%◌, ◌<◌, ◌≤◌, ltb, List, [], ◌∷◌, ◌++◌, refl, ap, ◌∙◌, arith}
use Rattle.std.specs.Fmt.{decimal}
use Rattle.std.proofs.lemmas.List.{append-nil}
use Rattle.std.proofs.lemmas.Fmt.{decimal_digit, decimal_step}
use Rattle.std.proofs.lemmas.Bool.{ltb-true, ltb-false, cond_both}
use Rattle.property.specs.Bytes.{four, plain}
use Rattle.writer.proofs.numbers.sequence_text.Goals as goal

-- a number below 10,000 in decimal is its plain digits
two_digits : (n : ℕ) → 10 ≤ n → n < 100 → decimal n ≡ (48 + n / 10) ∷ ((48 + n % 10) ∷ [])
two_digits n low high = decimal_step n low (omega arith) ∙ ap (λ (t : List ℕ). t ++ ((48 + n % 10) ∷ [])) (decimal_digit (n / 10) (omega arith))

three_digits : (n : ℕ) → 100 ≤ n → n < 1000 → decimal n ≡ (48 + n / 100) ∷ ((48 + n / 10 % 10) ∷ ((48 + n % 10) ∷ []))
three_digits n low high =
    let e : n / 10 / 10 ≡ n / 100 = omega arith in
    decimal_step n (omega arith) (omega arith) ∙ ap (λ (t : List ℕ). t ++ ((48 + n % 10) ∷ [])) (two_digits (n / 10) (omega arith) (omega arith)) ∙ rw e refl

all_digits : (n : ℕ) → 1000 ≤ n → n ≤ 9999 → decimal n ≡ four n
all_digits n low high =
    let e : n / 10 / 100 ≡ n / 1000 = omega arith in
    let f : n / 10 / 10 ≡ n / 100 = omega arith in
    decimal_step n (omega arith) (omega arith) ∙ ap (λ (t : List ℕ). t ++ ((48 + n % 10) ∷ [])) (three_digits (n / 10) (omega arith) (omega arith)) ∙ rw (e, f) refl

decimal_plain : (n : ℕ) → n ≤ 9999 → decimal n ≡ plain n
decimal_plain n h =
    cond_both (ltb n 10) _ _ (λ t. decimal n ≡ t) (λ e. decimal_digit n (ltb-true n 10 e))
    (λ a.
    cond_both (ltb n 100) _ _ (λ t. decimal n ≡ t) (λ e. two_digits n (ltb-false n 10 a) (ltb-true n 100 e))
    (λ b.
    cond_both (ltb n 1000) _ _ (λ t. decimal n ≡ t) (λ e. three_digits n (ltb-false n 100 b) (ltb-true n 1000 e))
    (λ d. all_digits n (ltb-false n 1000 d) h)))

pub returns : goal.returns
returns c =
    let number = c.args.sequence.number in
    let digits = c.as_bytes.ensures.value ∙ c.format.ensures.text ∙ decimal_plain number c.requires in
    (plain number, record { last = c.requires; written = refl }, rw (← digits, ← append-nil c.as_bytes.result.now) c.joined.ensures)

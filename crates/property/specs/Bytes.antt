-- Bytes and digits of property values.
use Rattle.std.specs.Prelude.{ℕ, ◌+◌, ◌/◌, ◌%◌, Bool, cond, not, ◌&&◌, ◌||◌, List, [], ◌∷◌, ◌==◌, nat_le, nat_lt}

-- a byte that may stand in a title: 32 to 126, but not `"`, `,`, `;` or `\`
abbrev pub title_byte : ℕ → Bool
title_byte b = nat_le 32 b && (nat_le b 126 && not (b == 34 || (b == 44 || (b == 59 || b == 92))))

-- the digit of a number below ten
abbrev pub digit : ℕ → ℕ
digit n = 48 + n

-- a number below 10,000 in four digits
abbrev pub four : ℕ → List ℕ
four n = digit (n / 1000) ∷ (digit (n / 100 % 10) ∷ (digit (n / 10 % 10) ∷ (digit (n % 10) ∷ [])))

-- a number below 10,000 in as many digits as it has
abbrev pub plain : ℕ → List ℕ
plain n =
    cond (nat_lt n 10) (digit n ∷ [])
    (cond (nat_lt n 100) (digit (n / 10) ∷ (digit (n % 10) ∷ []))
    (cond (nat_lt n 1000) (digit (n / 100) ∷ (digit (n / 10 % 10) ∷ (digit (n % 10) ∷ [])))
    (four n)))

-- What a table says of a buffer after a call.
use Rattle.std.specs.Prelude.{ℕ, cond, min, List, ◌++◌, length, take, codes, decimal, ◌==◌, nat_le}
use Rattle.std.specs.List.{suffix_len}
use Rattle.std.specs.Str.Lossy.{utf8_valid_len}

-- bytes, or `?` where they are no text
abbrev pub legible : List ℕ → List ℕ
legible bytes = cond (utf8_valid_len bytes == length bytes) bytes (codes "?")

-- at most 20 of the n bytes at a buffer's front
abbrev pub front : List ℕ → ℕ → List ℕ
front buffer n = cond (nat_le (min n 20) (length buffer)) (take (min n 20) buffer) (codes "?")

-- how many dots a buffer ends with
abbrev pub dots : List ℕ → ℕ
dots buffer = suffix_len (λ byte. byte == 46) buffer

-- `N bytes, TEXT, then DOTS dots`
abbrev pub copied_text : List ℕ → ℕ → List ℕ
copied_text buffer n = decimal n ++ (codes " bytes, " ++ (legible (front buffer n) ++ (codes ", then " ++ (decimal (dots buffer) ++ codes " dots"))))

-- `ERROR, DOTS dots`
abbrev pub refused_text : List ℕ → List ℕ → List ℕ
refused_text buffer error = error ++ (codes ", " ++ (decimal (dots buffer) ++ codes " dots"))

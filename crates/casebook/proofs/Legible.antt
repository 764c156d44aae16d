-- Bytes that were read as text, or were none.
use Rattle.std.proofs.Common.{◌≡◌, ℕ, ◌<◌, List, length, Ok, Err, codes, Result, MatchResult, sym, refl, ◌∙◌, arith}
use Rattle.std.proofs.lemmas.Bool.Decides.{nat_tests}
use Rattle.std.proofs.lemmas.Bool.{eq-eqb}
use Rattle.std.specs.Result.{result_unwrap_or}
use Rattle.std.specs.Str.{IsUtf8, IsValidUpTo}
use Rattle.std.proofs.lemmas.Str.{utf8_valid_len-IsUtf8, utf8_valid_len-IsValidUpTo}
use Rattle.casebook.specs.Buffers.{legible}

text_is : (bytes : List ℕ) → IsUtf8 bytes → legible bytes ≡ bytes
text_is bytes h = rw (eq-eqb _ _ (utf8_valid_len-IsUtf8 bytes h)) refl

no_text : (bytes : List ℕ) (n : ℕ) → IsValidUpTo bytes n → legible bytes ≡ codes "?"
no_text bytes n v = let e = utf8_valid_len-IsValidUpTo bytes n v in let l : n < length bytes = v.short in grind (arith, nat_tests)

pub read_or : {B E : Type 0} (now : B → List ℕ) (up_to : E → ℕ) (bytes : List ℕ) (r : Result B E) (d : B) → MatchResult r (λ s. (now s ≡ bytes) × IsUtf8 bytes) (λ e. (IsUtf8 bytes → ⊥) × IsValidUpTo bytes (up_to e)) → now d ≡ codes "?" → now (result_unwrap_or r d) ≡ legible bytes
read_or now up_to bytes (Ok s) d c q = c.0 ∙ sym (text_is bytes c.1)
read_or now up_to bytes (Err e) d c q = q ∙ sym (no_text bytes (up_to e) c.1)

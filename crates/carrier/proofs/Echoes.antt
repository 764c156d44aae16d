-- One letter in an empty carrier.
use Rattle.std.proofs.Common.{◌≡◌, ℕ, ◌+◌, ◌<◌, ◌≤◌, Bool, true, false, cond, ◌&&◌, eqb, List, [], ◌∷◌, length, take, Ok, Err, Result, refl, sym, ap, ◌∙◌, subst, ⊎_elim, arith, length-take}
use Rattle.std.proofs.lemmas.Bool.{cases_Bool}
use Rattle.std.proofs.lemmas.Bool.Decides.{nat_tests}
use Rattle.fault.specs.declared.kinds.Fault.{Fault}
use Rattle.carrier.specs.Mail.{Letter, Mail, Fit, Among, SameMail, same_letter, same_text, times, waiting_for, letter}
use Rattle.carrier.specs.Posts.{Takes, Hands, Fetched, NotHanded, NotAsked, NotEchoed, Echoed}
use Rattle.carrier.specs.Counting.{same_letter_eq, times_own}

no_letter : (b : Bool) → b ≡ false → 0 < cond {A = ℕ} b 1 0 + 0 → ⊥
no_letter true e h = grind arith
no_letter false e h = omega arith

-- what waits where one letter does is that letter
pub only_one : (x l : Letter) → 0 < times x (l ∷ []) → x ≡ l
only_one x l h = ⊎_elim (same_letter_eq x l) (λ e. absurd (no_letter (same_letter x l) e h)) (cases_Bool (same_letter x l))

-- nothing waits where no letter does
pub nothing_waits : (ls : List Letter) → ((x : Letter) → times x ls ≡ 0) → ls ≡ []
nothing_waits [] h = refl
nothing_waits (x ∷ ls) h = absurd (omega (arith, h x, times_own x ls))

-- a letter counts among those for its address
counts : (a b t : Bool) (m n : ℕ) → m ≤ n → t ≡ a → cond {A = ℕ} (a && b) 1 0 + m ≤ cond {A = ℕ} t 1 0 + n
counts true true t m n h e = grind (arith, nat_tests)
counts true false t m n h e = grind (arith, nat_tests)
counts false b t m n h e = grind (arith, nat_tests)

flip : (a b : ℕ) → eqb a b ≡ eqb b a
flip a b = grind (arith, nat_tests)

pub times_le_for : (x : Letter) (ls : List Letter) → times x ls ≤ waiting_for x.to ls
times_le_for x [] = omega arith
times_le_for x (y ∷ ls) = counts (eqb x.to y.to) (same_text x.text y.text) (eqb y.to x.to) _ _ (times_le_for x ls) (flip y.to x.to)

-- what comes back from a carrier in which nothing else waits
pub came_back : (l : Letter) (n : ℕ) (old new : List ℕ) (before mid after : Mail) → Takes l before mid → before.waiting ≡ [] → Hands l.to n old new mid after → take n new ≡ l.text
came_back l n old new before mid after t empty h =
    let among = subst (λ (ls : List Letter). Among mid.waiting (l ∷ ls)) empty t.among in
    ap (λ (x : Letter). x.text) (only_one (letter l.to (take n new)) l (among _ h.waited))

not_refused : (l : Letter) (old : List ℕ) (mid : Mail) (f : Fault) → Fit l → 768 ≤ length old → SameMail mid.waiting (l ∷ []) → NotHanded l.to old mid f → ⊥
not_refused l old mid f fit long same (NotHanded.asked (NotAsked.short e h)) = omega arith
not_refused l old mid f fit long same (NotHanded.asked (NotAsked.range e h k)) = omega (arith, fit.address)
not_refused l old mid f fit long same (NotHanded.none e h k none) = omega (arith, same l, times_own l [], times_le_for l mid.waiting)

pub echoed : (l : Letter) (old new : List ℕ) (before mid after : Mail) (r : Result ℕ Fault) → length new ≡ length old → Takes l before mid → Fetched l.to old new mid after r → Echoed l old new before after r
echoed l old new before mid after (Ok n) len t h = record {
  any = λ empty m e. let k : n ≡ m = cc in subst (λ (i : ℕ). take i new ≡ l.text) k (came_back l n old new before mid after t empty h);
  faithful = λ f empty fit long.
      let text = came_back l n old new before mid after t empty h in
      let size : n ≡ length l.text = omega (arith, h.size, length-take n new, ap length text) in
      let mids = subst (λ (ls : List Letter). SameMail mid.waiting (l ∷ ls)) empty (t.exact f) in
      let out = subst (λ (x : Letter). SameMail (x ∷ after.waiting) mid.waiting) (ap (letter l.to) text) (h.exact (t.faithful ∙ f)) in
      (ap Ok size, subst (λ (i : ℕ). take i new ≡ l.text) size text, nothing_waits after.waiting (λ x. omega (arith, out x, mids x)));
  refused = λ f e. absurd (grind arith);
}
echoed l old new before mid after (Err f) len t h = record {
  any = λ empty m e. absurd (grind arith);
  faithful = λ faith empty fit long. absurd (not_refused l old mid f fit long (subst (λ (ls : List Letter). SameMail mid.waiting (l ∷ ls)) empty (t.exact faith)) h.0);
  refused = λ f' e.
      let same : f ≡ f' = cc in
      let taken = subst (Takes l before) (sym h.1) t in
      let told = subst (λ (m : Mail). NotHanded l.to old m f) (sym h.1) h.0 in
      subst (λ (i : Fault). NotEchoed l old before after i × (new ≡ old)) same (NotEchoed.fetch taken told, h.2);
}

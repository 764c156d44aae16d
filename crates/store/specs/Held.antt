-- How many keys have a row, when one is written.
use Rattle.std.specs.Prelude.{◌≡◌, ℕ, zero, suc, ◌+◌, ◌<◌, ◌≤◌, cond, List, [], is_some, Some, None, Option, ◌≢◌, refl}
use Rattle.std.proofs.Common.{sym, ap, ◌∙◌, ⊎_elim, arith}
use Rattle.std.proofs.lemmas.Bool.{cases_eq}
use Rattle.store.specs.declared.entry.Entry.{Entry}
use Rattle.store.specs.Rows.{Keyed, count_below, held_in}
use Rattle.store.specs.Entries.{row_in, Wrote}

abbrev one : Option (List ℕ) → ℕ
one o = cond (is_some o) 1 0

count_same : (f g : Keyed) (n : ℕ) → ((k : ℕ) → k < n → one (g k) ≡ one (f k)) → count_below g n ≡ count_below f n
unfolding count_below
count_same f g zero h = refl
count_same f g (suc n) h = omega (arith, count_same f g n (λ k l. h k (omega arith)), h n (omega arith))

count_more : (f g : Keyed) (key n : ℕ) → key < n → one (f key) ≡ 0 → one (g key) ≡ 1 → ((k : ℕ) → (k ≢ key) → one (g k) ≡ one (f k)) → count_below g n ≡ count_below f n + 1
unfolding count_below
count_more f g key zero l a b h = absurd (omega arith)
count_more f g key (suc n) l a b h =
    ⊎_elim (λ e. omega (arith, count_same f g n (λ k m. h k (λ q. omega arith)), ap (λ (k : ℕ). one (f k)) e, ap (λ (k : ℕ). one (g k)) e)) (λ ne. omega (arith, count_more f g key n (omega arith) a b h, h n (λ e. ne (sym e)))) (cases_eq key n)

count_none : (n : ℕ) → count_below (λ k. None) n ≡ 0
unfolding count_below
count_none zero = refl
count_none (suc n) = omega (arith, count_none n)

pub none_held : held_in (row_in []) ≡ 0
none_held = count_none 1024

pub held_again : (key : ℕ) (bytes old : List ℕ) (before after : List Entry) → row_in before key ≡ Some old → Wrote key bytes before after → held_in (row_in after) ≡ held_in (row_in before)
held_again key bytes old before after had w = count_same (row_in before) (row_in after) 1024 (λ k l. ⊎_elim (λ e. ap (λ (i : ℕ). one (row_in after i)) e ∙ ap one w.here ∙ sym (ap one had) ∙ sym (ap (λ (i : ℕ). one (row_in before i)) e)) (λ ne. ap one (w.elsewhere k ne)) (cases_eq k key))

pub held_more : (key : ℕ) (bytes : List ℕ) (before after : List Entry) → key ≤ 1023 → row_in before key ≡ None → Wrote key bytes before after → held_in (row_in after) ≡ held_in (row_in before) + 1
held_more key bytes before after known had w = count_more (row_in before) (row_in after) key 1024 (omega arith) (ap one had) (ap one w.here) (λ k ne. ap one (w.elsewhere k ne))

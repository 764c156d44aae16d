-- A line by its bytes and a line by its places are the same.
use Rattle.std.proofs.Common.{◌≡◌, ℕ, ◌+◌, ◌-◌, ◌<◌, ◌≤◌, Bool, true, List, [], ◌∷◌, ◌++◌, length, get_or, take, drop, sym, refl, ap, ◌∙◌, append_assoc, arith, length-append, length-drop}
use Rattle.std.proofs.lemmas.List.{take-append-drop, drop-drop, drop_more, get_or-drop, get_or-take, get_or_append_left, length-take-le, drop_at, take_at}
use Rattle.std.proofs.lemmas.Bool.Decides.{nat_tests}
use Rattle.std.proofs.lemmas.Slice.{between_is}
use Rattle.lines.specs.Bytes.{name_byte, printable, separates, Every, EveryFrom}
use Rattle.lines.specs.Steps.{NoLine}
use Rattle.lines.specs.Content.{Content, Fit, bytes_of, closed, Stands, Cut}

pub split_at : (a b : ℕ) (xs : List ℕ) → a ≤ b → drop a xs ≡ take (b - a) (drop a xs) ++ drop b xs
split_at a b xs h =
    let e : a + (b - a) ≡ b = omega arith in
    sym (take-append-drop (b - a) (drop a xs)) ∙ ap (λ (t : List ℕ). take (b - a) (drop a xs) ++ t) (drop-drop (b - a) a xs ∙ ap (λ n. drop n xs) e)

pub regroup : (l : Content) (rest : List ℕ) → closed l ++ rest ≡ l.name ++ (l.text ++ (13 ∷ (10 ∷ rest)))
regroup l rest = append_assoc (bytes_of l) (13 ∷ (10 ∷ [])) rest ∙ append_assoc l.name l.text (13 ∷ (10 ∷ rest))

-- what holds at each place counted from one on holds at each place from there
pub every_from : (P : ℕ → Bool) (xs : List ℕ) (i j : ℕ) → ((k : ℕ) → i + k < j → P (get_or xs (i + k) 0) ≡ true) → EveryFrom P xs i j
every_from P xs i j all k h l = let e : i + (k - i) ≡ k = omega arith in ap (λ n. P (get_or xs n 0)) (sym e) ∙ all (k - i) (omega arith)

-- the part of a text between two places
abbrev pub part : ℕ → ℕ → List ℕ → List ℕ
part a b xs = take (b - a) (drop a xs)

abbrev pub line_at : List ℕ → ℕ → ℕ → ℕ → Content
line_at text at colon end = record { name = part at colon text; text = part colon end text }

pub behind : (a b : ℕ) (xs : List ℕ) → part (a + 1) b xs ≡ drop 1 (part a b xs)
behind a b xs = between_is xs (a + 1) b ∙ sym (drop-drop 1 a (take b xs)) ∙ ap (drop 1) (sym (between_is xs a b))

length_part : (a b : ℕ) (xs : List ℕ) → a ≤ b → b ≤ length xs → length (part a b xs) ≡ b - a
length_part a b xs h k = length-take-le (b - a) (drop a xs) (omega (arith, length-drop a xs))

pub get_d_part : (a b k : ℕ) (xs : List ℕ) → k < b - a → get_or (part a b xs) k 0 ≡ get_or xs (a + k) 0
get_d_part a b k xs h = get_or-take (b - a) (drop a xs) k 0 h ∙ get_or-drop a xs k 0

every_part : (P : ℕ → Bool) (a b : ℕ) (xs : List ℕ) → a ≤ b → b ≤ length xs → EveryFrom P xs a b → Every P (part a b xs)
every_part P a b xs h k all i less =
    let within : i < b - a = omega (arith, length_part a b xs h k) in
    ap P (get_d_part a b i xs within) ∙ all (a + i) (omega arith) (omega arith)

pub stands : (text : List ℕ) (at colon end : ℕ) → Cut text at colon end → Stands text at (line_at text at colon end) (end + 2)
stands text at colon end c =
    let n : length (part at colon text) ≡ colon - at = length_part at colon text (omega arith) (omega arith) in
    let t : length (part colon end text) ≡ end - colon = length_part colon end text (omega arith) (omega arith) in
    let b : length (part at colon text ++ part colon end text) ≡ end - at = omega (arith, length-append (part at colon text) (part colon end text)) in
    let close : drop end text ≡ 13 ∷ (10 ∷ drop (end + 2) text) = ending text end c.inside c.cr c.lf in
    record {
      fit = record {
        named = omega arith;
        naming = every_part name_byte at colon text (omega arith) (omega arith) c.naming;
        some = omega arith;
        parted = ap separates (get_d_part colon end 0 text (omega arith) ∙ ap (λ k. get_or text k 0) (omega arith)) ∙ c.parted;
        shown = every_part printable colon end text (omega arith) (omega arith) c.shown;
        short = omega arith;
      };
      begins = omega arith;
      size = omega (arith, length-append (part at colon text ++ part colon end text) (13 ∷ (10 ∷ [])));
      read = split_at at colon text (omega arith)
          ∙ ap (λ (r : List ℕ). part at colon text ++ r) (split_at colon end text (omega arith) ∙ ap (λ (r : List ℕ). part colon end text ++ r) close)
          ∙ sym (regroup (line_at text at colon end) (drop (end + 2) text));
    }
  where
    ending : (text : List ℕ) (end : ℕ) → end + 2 ≤ length text → get_or text end 0 ≡ 13 → get_or text (end + 1) 0 ≡ 10 → drop end text ≡ 13 ∷ (10 ∷ drop (end + 2) text)
    ending text end h p q = let e : end + 1 + 1 ≡ end + 2 = omega arith in rw (drop_more text end 0 (omega arith), drop_more text (end + 1) 0 (omega arith), p, q, e) refl

-- the other way round: a line that stands in a text gives its places
abbrev end_of : ℕ → Content → ℕ
end_of at l = at + length l.name + length l.text

at_name : (text rest : List ℕ) (at k : ℕ) (l : Content) → drop at text ≡ l.name ++ rest → at ≤ k → k < at + length l.name → get_or text k 0 ≡ get_or l.name (k - at) 0
at_name text rest at k l e p q =
    let w : at + (k - at) ≡ k = omega arith in
    sym (get_or-drop at text (k - at) 0 ∙ ap (λ i. get_or text i 0) w) ∙ ap (λ (t : List ℕ). get_or t (k - at) 0) e ∙ get_or_append_left l.name rest 0 (k - at) (omega arith)

drop_front : (text front rest : List ℕ) (at : ℕ) → drop at text ≡ front ++ rest → drop (at + length front) text ≡ rest
drop_front text front rest at e = sym (drop-drop (length front) at text) ∙ ap (drop (length front)) e ∙ drop_at front rest (length front) refl

head_at : (text rest : List ℕ) (at x : ℕ) → drop at text ≡ x ∷ rest → (get_or text at 0 ≡ x) × (at < length text) × (drop (at + 1) text ≡ rest)
head_at text rest at x e =
    let g : get_or (drop at text) 0 0 ≡ get_or text (at + 0) 0 = get_or-drop at text 0 0 in
    let z : at + 0 ≡ at = omega arith in
    (sym (g ∙ ap (λ i. get_or text i 0) z) ∙ ap (λ (t : List ℕ). get_or t 0 0) e, omega (arith, length-drop at text, ap length e), drop_front text (x ∷ []) rest at e)

pub cuts : (text : List ℕ) (at next : ℕ) (l : Content) → Stands text at l next → Cut text at (at + length l.name) (end_of at l)
cuts text at next l s =
    let whole : drop at text ≡ l.name ++ (l.text ++ (13 ∷ (10 ∷ drop next text))) = s.read ∙ regroup l (drop next text) in
    let tail : drop (at + length l.name) text ≡ l.text ++ (13 ∷ (10 ∷ drop next text)) = drop_front text l.name _ at whole in
    let cr = head_at text (10 ∷ drop next text) (end_of at l) 13 (drop_front text l.text _ (at + length l.name) tail) in
    let lf = head_at text (drop next text) (end_of at l + 1) 10 cr.2 in
    let named = s.fit.named in
    let some = s.fit.some in
    record {
      named = omega arith;
      some = omega arith;
      inside = omega (arith, lf.1);
      short = omega (arith, s.fit.short, length-append l.name l.text);
      naming = λ k p q. ap name_byte (at_name text _ at k l whole p q) ∙ s.fit.naming (k - at) (omega arith);
      parted = ap separates (at_name text _ (at + length l.name) (at + length l.name) (record { name = l.text; text = [] }) tail (omega arith) (omega arith) ∙ ap (λ i. get_or l.text i 0) (omega arith)) ∙ s.fit.parted;
      shown = λ k p q. ap printable (at_name text _ (at + length l.name) k (record { name = l.text; text = [] }) tail p q) ∙ s.fit.shown (k - (at + length l.name)) (omega arith);
      cr = cr.0;
      lf = lf.0;
    }

-- so a text has at most one line at a place
pub no_line : (text : List ℕ) (at : ℕ) → ((colon end : ℕ) → Cut text at colon end → ⊥) → NoLine text at
no_line text at none l next s = none _ _ (cuts text at next l s)

not_both : (b : ℕ) → name_byte b ≡ true → separates b ≡ true → ⊥
not_both b n s = grind (arith, nat_tests)

cut_colon : (text : List ℕ) (at i j k l : ℕ) → Cut text at i j → Cut text at k l → k ≤ i
cut_colon text at i j k l c d =
    let clash : i < k → ⊥ = λ h. not_both (get_or text i 0) (d.naming i (omega arith) h) c.parted in
    grind arith

cut_end : (text : List ℕ) (at i j k l : ℕ) → Cut text at i j → Cut text at k l → k ≤ i → l ≤ j
cut_end text at i j k l c d h =
    let some = c.some in
    let clash : j < l → ⊥ = λ less. (let p : printable 13 ≡ true = ap printable (sym c.cr) ∙ d.shown j (omega arith) less in let z : ◌≡◌ {A = ℕ} 0 1 = cc in omega arith) in
    grind arith

append_same : (a b c d : List ℕ) → length a ≡ length c → a ++ b ≡ c ++ d → (a ≡ c) × (b ≡ d)
append_same a b c d l e = (sym (take_at a b (length a) refl) ∙ ap (take (length a)) e ∙ take_at c d (length a) (sym l), sym (drop_at a b (length a) refl) ∙ ap (drop (length a)) e ∙ drop_at c d (length a) (sym l))

at_start : (l : Content) (x text : List ℕ) → Fit l → text ≡ closed l ++ x → Stands text 0 l (length (closed l))
at_start l x text f e = record {
  fit = f;
  begins = omega arith;
  size = omega arith;
  read = e ∙ ap (λ (r : List ℕ). closed l ++ r) (sym (ap (drop (length (closed l))) e ∙ drop_at (closed l) x (length (closed l)) refl));
}

pub same_content : (l m : Content) → l.name ≡ m.name → l.text ≡ m.text → l ≡ m
same_content l m p q = λ i. record { name = p i; text = q i }

-- bytes begin with one line at most
pub one_line : (l m : Content) (x y : List ℕ) → Fit l → Fit m → closed l ++ x ≡ closed m ++ y → (l ≡ m) × (x ≡ y)
one_line l m x y f g e =
    let a = cuts (closed l ++ x) 0 _ l (at_start l x (closed l ++ x) f refl) in
    let b = cuts (closed l ++ x) 0 _ m (at_start m y (closed l ++ x) g e) in
    let n = cut_colon _ _ _ _ _ _ a b in
    let o = cut_colon _ _ _ _ _ _ b a in
    let p = cut_end _ _ _ _ _ _ a b n in
    let q = cut_end _ _ _ _ _ _ b a o in
    let whole : l.name ++ (l.text ++ (13 ∷ (10 ∷ x))) ≡ m.name ++ (m.text ++ (13 ∷ (10 ∷ y))) = sym (regroup l x) ∙ e ∙ regroup m y in
    let names = append_same l.name _ m.name _ (omega arith) whole in
    let texts = append_same l.text _ m.text _ (omega arith) names.1 in
    (same_content l m names.0 texts.0, cc texts.1)

-- Texts by their bytes: fronts, and titles.
use Rattle.std.proofs.Common.{◌≡◌, ℕ, ◌-◌, ◌<◌, ◌≤◌, true, List, [], ◌∷◌, ◌++◌, length, get_or, take, drop, replicate, sym, refl, ap, ◌∙◌, arith}
use Rattle.std.proofs.lemmas.List.{take_at, drop-replicate, length-append, length-replicate, get_or_append_left}
use Rattle.stamp.specs.Stamps.{Stamped}
use Rattle.property.specs.declared.kinds.Title.{Title}
use Rattle.property.specs.Values.{TitleText, title_text}
use Rattle.property.specs.Bytes.{title_byte}

-- equal texts begin alike
pub first_byte : {xs ys : List ℕ} → xs ≡ ys → get_or xs 0 0 ≡ get_or ys 0 0
first_byte e = ap (λ (l : List ℕ). get_or l 0 0) e

-- two fronts of one length
pub same_front : (a b x y : List ℕ) → length a ≡ length b → a ++ x ≡ b ++ y → (a ≡ b) × (x ≡ y)
same_front [] [] x y l e = (refl, e)
same_front [] (d ∷ b) x y l e = absurd (omega arith)
same_front (c ∷ a) [] x y l e = absurd (omega arith)
same_front (c ∷ a) (d ∷ b) x y l e =
    let h : c ≡ d = cc in
    let t : a ++ x ≡ b ++ y = cc in
    let same = same_front a b x y (omega arith) t in
    (cc, same.1)

-- a stamp has sixteen bytes
pub stamp_long : (n : ℕ) (text : List ℕ) → Stamped n text → length text ≡ 16
stamp_long n text s = ap length s.written

pub front_is : (front text at rest : List ℕ) → length at ≡ 16 → front ≡ take 16 text → text ≡ at ++ rest → front ≡ at
front_is front text at rest l f e = let t = take_at at rest 16 l in cc

-- a text with zeros behind it
abbrev pub padded : List ℕ → List ℕ
padded text = text ++ replicate (40 - length text) 0

pub zeros_left : (text front : List ℕ) → front ≡ text → front ++ drop (length text) (replicate 40 0) ≡ padded text
zeros_left text front e = rw (e, drop-replicate)

pub padded_long : (text bytes : List ℕ) → length text ≤ 40 → bytes ≡ padded text → length bytes ≡ 40
padded_long text bytes h e = ap length e ∙ simp (length-append, length-replicate) (omega arith)

pub padded_front : (text bytes : List ℕ) → bytes ≡ padded text → take (length text) bytes ≡ text
padded_front text bytes e = rw e (take_at text _ _ refl)

pub padded_at : (text bytes : List ℕ) → bytes ≡ padded text → (k : ℕ) → k < length text → title_byte (get_or text k 0) ≡ true → title_byte (get_or bytes k 0) ≡ true
padded_at text bytes e k h fits = let same : get_or bytes k 0 ≡ get_or text k 0 = rw e (get_or_append_left text _ 0 k h) in rw same fits

-- the title that has a text
pub titled : (text : List ℕ) → TitleText text → (t : Title) × (text ≡ title_text t)
titled text f = (record { len = length text; bytes = padded text; whole = padded_long text _ f.short refl; short = f.short; fit = λ k h. padded_at text _ refl k h (f.fit k h) }, sym (padded_front text _ refl))

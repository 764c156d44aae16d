-- A message has one house text: its lines are told by the method and the parts.
use Rattle.std.proofs.Common.{◌≡◌, ℕ, Bool, true, false, cond, List, [], ◌∷◌, ◌++◌, length, get_or, codes, sym, refl, ap, ◌∙◌, subst, arith}
use Rattle.std.specs.List.{flat_map}
use Rattle.std.specs.Str.{bytes_eq}
use Rattle.std.proofs.lemmas.Slice.Eq.{bytes_eq-Decides}
use Rattle.std.proofs.lemmas.List.{append_assoc, append-nil, append_cancel_left, length-append, take_all}
use Rattle.lines.specs.Content.{Content, closed}
use Rattle.lines.proofs.Places.{same_content}
use Rattle.property.specs.Values.{Part, Says, property_of, name_text}
use Rattle.property.proofs.Laws.{one_text}
use Rattle.message.specs.declared.kinds.Kind.{Kind}
use Rattle.message.specs.declared.kinds.Kind.TheVariants as kind
use Rattle.message.specs.declared.kinds.Method.{Method}
use Rattle.message.specs.declared.kinds.Message.{Message}
use Rattle.message.specs.Names.{kind_of, property_kind, later_kind, method_text}
use Rattle.message.specs.Meaning.{method_of, parts_of}
use Rattle.message.specs.Grammar.{State, calendar, version, product, method, event, inside, closing, done, Inside, skips, adds, ends, Step, Leads, Means, Same}

-- the name of a kind
abbrev NameIs : Kind → List ℕ → Type 0
NameIs kind.Begin name = name ≡ codes "BEGIN"
NameIs kind.Version name = name ≡ codes "VERSION"
NameIs kind.Product name = name ≡ codes "PRODID"
NameIs kind.Method name = name ≡ codes "METHOD"
NameIs kind.End name = name ≡ codes "END"
NameIs (kind.Listed p) name = name ≡ name_text p
NameIs kind.Other name = Unit {0}

-- a name that is told by a test, or by what is told where the test fails
told_by : (name word : List ℕ) (x y k : Kind) → (name ≡ word → NameIs x name) → (y ≡ k → NameIs k name) → cond (bytes_eq name word) x y ≡ k → NameIs k name
told_by name word x y k yes-then no-then = by (bytes_eq name word) (bytes_eq-Decides name word).0
  where
    by : (b : Bool) → (b ≡ true → name ≡ word) → cond b x y ≡ k → NameIs k name
    by true is e = let P : Kind → Type 0 = λ z. NameIs z name in subst P e (yes-then (is refl))
    by false is e = no-then e

later_name : (name : List ℕ) (k : Kind) → later_kind name ≡ k → NameIs k name
later_name name k =
    told_by name _ _ _ k (λ e. e) (told_by name _ _ _ k (λ e. e) (told_by name _ _ _ k (λ e. e) (told_by name _ _ _ k (λ e. e) (told_by name _ _ _ k (λ e. e) (told_by name _ _ _ k (λ e. e) (λ e. let P : Kind → Type 0 = λ z. NameIs z name in subst P e tt))))))

property_name : (name : List ℕ) (k : Kind) → property_kind name ≡ k → NameIs k name
property_name name k =
    told_by name _ _ _ k (λ e. e) (told_by name _ _ _ k (λ e. e) (told_by name _ _ _ k (λ e. e) (told_by name _ _ _ k (λ e. e) (told_by name _ _ _ k (λ e. e) (later_name name k)))))

pub kind_name : (name : List ℕ) (k : Kind) → kind_of name ≡ k → NameIs k name
kind_name name k =
    told_by name _ _ _ k (λ e. e) (told_by name _ _ _ k (λ e. e) (told_by name _ _ _ k (λ e. e) (told_by name _ _ _ k (λ e. e) (told_by name _ _ _ k (λ e. e) (property_name name k)))))

-- what is known in a state of the method and the parts that it leads to
abbrev Ahead : Method → List Part → State → Type 0
Ahead m parts calendar = Unit {0}
Ahead m parts version = Unit {0}
Ahead m parts product = Unit {0}
Ahead m parts method = Unit {0}
Ahead m parts (event n) = n ≡ m
Ahead m parts (inside n ps) = (n ≡ m) × ((rest : List Part) × (parts ≡ ps ++ rest))
Ahead m parts (closing n ps) = (n ≡ m) × (parts ≡ ps)
Ahead m parts (done n ps) = (n ≡ m) × (parts ≡ ps)

known : (h : Bool) (m : Method) (parts : List Part) (s t : State) (l : Content) → Step h s l t → Ahead m parts t → Ahead m parts s
known h m parts calendar t l st a = tt
known h m parts version t l st a = tt
known h m parts product t l st a = tt
known h m parts method t l st a = tt
known h m parts (event n) t l (_, e) a = (let P : State → Type 0 = λ x. Ahead m parts x in subst P e a).0
known h m parts (inside n ps) t l (skips _ _ e) a = let P : State → Type 0 = λ x. Ahead m parts x in subst P e a
known h m parts (inside n ps) t l (adds p _ _ _ _ e) a =
    let b = (let P : State → Type 0 = λ x. Ahead m parts x in subst P e a) in
    (b.0, (p ∷ b.1.0, b.1.1 ∙ append_assoc ps (p ∷ []) b.1.0))
known h m parts (inside n ps) t l (ends _ _ e) a =
    let b = (let P : State → Type 0 = λ x. Ahead m parts x in subst P e a) in
    (b.0, ([], b.1 ∙ sym (append-nil ps)))
known h m parts (closing n ps) t l (_, e) a = let P : State → Type 0 = λ x. Ahead m parts x in subst P e a
known h m parts (done n ps) t l st a = absurd st

ahead : (h : Bool) (m : Method) (parts : List Part) (s : State) (ls : List Content) → Leads h s ls (done m parts) → Ahead m parts s
ahead h m parts s [] e = let P : State → Type 0 = λ x. Ahead m parts x in subst P (sym e) (refl, refl)
ahead h m parts s (l ∷ ls) (u, st, rest) = known h m parts s u l st (ahead h m parts u ls rest)

-- two lines of one kind, by their texts
same_line : (l k : Content) (x : Kind) → kind_of l.name ≡ x → kind_of k.name ≡ x → (NameIs x l.name → NameIs x k.name → l.name ≡ k.name) → l.text ≡ k.text → l ≡ k
same_line l k x a b names texts = same_content l k (names (kind_name l.name x a) (kind_name k.name x b)) texts

-- the next parts are those that are known to come
next_part : (ps parts : List Part) (p q : Part) (x y : List Part) → parts ≡ (ps ++ (p ∷ [])) ++ x → parts ≡ (ps ++ (q ∷ [])) ++ y → p ≡ q
next_part ps parts p q x y a b =
    let e : p ∷ x ≡ q ∷ y = append_cancel_left ps (p ∷ x) (q ∷ y) (sym (append_assoc ps (p ∷ []) x) ∙ sym a ∙ b ∙ append_assoc ps (q ∷ []) y) in
    cc

ended_early : (ps parts : List Part) (p : Part) (x : List Part) → parts ≡ (ps ++ (p ∷ [])) ++ x → parts ≡ ps → ⊥
ended_early ps parts p x a b = omega (arith, ap length (sym a ∙ b), length-append (ps ++ (p ∷ [])) x, length-append ps (p ∷ []))

after_inside : (m : Method) (parts : List Part) (t : State) (n : Method) (ps : List Part) → t ≡ inside n ps → Ahead m parts t → (rest : List Part) × (parts ≡ ps ++ rest)
after_inside m parts t n ps e a = (let P : State → Type 0 = λ x. Ahead m parts x in subst P e a).1

after_closing : (m : Method) (parts : List Part) (t : State) (n : Method) (ps : List Part) → t ≡ closing n ps → Ahead m parts t → parts ≡ ps
after_closing m parts t n ps e a = (let P : State → Type 0 = λ x. Ahead m parts x in subst P e a).1

next_inside : (m : Method) (parts ps : List Part) (n : Method) (t u : State) (l k : Content) → Inside true n ps l t → Inside true n ps k u → Ahead m parts t → Ahead m parts u → (l ≡ k) × (t ≡ u)
next_inside m parts ps n t u l k (skips h _ _) _ a b = let z : ◌≡◌ {A = ℕ} 0 1 = cc in absurd (omega arith)
next_inside m parts ps n t u l k (adds p _ _ _ _ _) (skips h _ _) a b = let z : ◌≡◌ {A = ℕ} 0 1 = cc in absurd (omega arith)
next_inside m parts ps n t u l k (adds p w x own said e) (adds q v y also told f) a b =
    let same : p ≡ q = next_part ps parts p q _ _ (after_inside m parts t n _ e a).1 (after_inside m parts u n _ f b).1 in
    let P : Part → Type 0 = λ z. Says z k.text in
    let Q : Part → Type 0 = λ z. kind_of k.name ≡ kind.Listed (property_of z) in
    (same_line l k (kind.Listed (property_of p)) x (subst Q (sym same) y) (λ c d. c ∙ sym d) (one_text p l.text k.text said (subst P (sym same) told)), e ∙ ap (λ z. inside n (ps ++ (z ∷ []))) same ∙ sym f)
next_inside m parts ps n t u l k (adds p w x own said e) (ends r is f) a b = absurd (ended_early ps parts p _ (after_inside m parts t n _ e a).1 (after_closing m parts u n ps f b))
next_inside m parts ps n t u l k (ends r is e) (skips h _ _) a b = let z : ◌≡◌ {A = ℕ} 0 1 = cc in absurd (omega arith)
next_inside m parts ps n t u l k (ends r is e) (adds q v y also told f) a b = absurd (ended_early ps parts q _ (after_inside m parts u n _ f b).1 (after_closing m parts t n ps e a))
next_inside m parts ps n t u l k (ends r is e) (ends _ it f) a b = (same_line l k kind.End is.0 it.0 (λ c d. c ∙ sym d) (is.1 ∙ sym it.1), e ∙ sym f)

after_method : (m : Method) (parts : List Part) (t : State) (n : Method) → t ≡ event n → Ahead m parts t → n ≡ m
after_method m parts t n e a = let P : State → Type 0 = λ x. Ahead m parts x in subst P e a

next_line : (m : Method) (parts : List Part) (s t u : State) (l k : Content) → Step true s l t → Step true s k u → Ahead m parts t → Ahead m parts u → (l ≡ k) × (t ≡ u)
next_line m parts calendar t u l k (is, e) (it, f) a b = (same_line l k kind.Begin is.0 it.0 (λ c d. c ∙ sym d) (is.1 ∙ sym it.1), e ∙ sym f)
next_line m parts version t u l k (is, e) (it, f) a b = (same_line l k kind.Version is.0 it.0 (λ c d. c ∙ sym d) (is.1 ∙ sym it.1), e ∙ sym f)
next_line m parts product t u l k (is, text, e) (it, also, f) a b = (same_line l k kind.Product is it (λ c d. c ∙ sym d) (text ∙ sym also), e ∙ sym f)
next_line m parts method t u l k (n, is, e) (o, it, f) a b =
    let same : n ≡ o = after_method m parts t n e a ∙ sym (after_method m parts u o f b) in
    (same_line l k kind.Method is.0 it.0 (λ c d. c ∙ sym d) (is.1 ∙ ap method_text same ∙ sym it.1), e ∙ ap event same ∙ sym f)
next_line m parts (event n) t u l k (is, e) (it, f) a b = (same_line l k kind.Begin is.0 it.0 (λ c d. c ∙ sym d) (is.1 ∙ sym it.1), e ∙ sym f)
next_line m parts (inside n ps) t u l k x y a b = next_inside m parts ps n t u l k x y a b
next_line m parts (closing n ps) t u l k (is, e) (it, f) a b = (same_line l k kind.End is.0 it.0 (λ c d. c ∙ sym d) (is.1 ∙ sym it.1), e ∙ sym f)
next_line m parts (done n ps) t u l k x y a b = absurd x

not_done : (s t : State) (m : Method) (parts : List Part) (l : Content) → s ≡ done m parts → Step true s l t → ⊥
not_done s t m parts l e st = let P : State → Type 0 = λ x. Step true x l t in subst P e st

same_lines : (m : Method) (parts : List Part) (s : State) (ls ks : List Content) → Leads true s ls (done m parts) → Leads true s ks (done m parts) → ls ≡ ks
same_lines m parts s [] [] a b = refl
same_lines m parts s [] (k ∷ ks) a (u, st, b) = absurd (not_done s u m parts k a st)
same_lines m parts s (l ∷ ls) [] (t, st, a) b = absurd (not_done s t m parts l b st)
same_lines m parts s (l ∷ ls) (k ∷ ks) (t, x, a) (u, y, b) =
    let next = next_line m parts s t u l k x y (ahead true m parts t ls a) (ahead true m parts u ks b) in
    let P : State → Type 0 = λ w. Leads true w ks (done m parts) in
    let rest = same_lines m parts t ls ks a (subst P (sym next.1) b) in
    cc (next.0, rest)

-- so two house texts of one message are the same
pub one_house : (a b : List ℕ) (m n : Message) → Same m n → Means true a m → Means true b n → a ≡ b
one_house a b m n same x y =
    let P : State → Type 0 = λ w. Leads true calendar y.led.lines w in
    let e : done (method_of n) (parts_of n) ≡ done (method_of m) (parts_of m) = cc (same.0, same.1) in
    let lines = same_lines (method_of m) (parts_of m) calendar x.led.lines y.led.lines x.led.leads (subst P e y.led.leads) in
    sym (take_all (length a) a (omega arith)) ∙ x.led.read ∙ ap (flat_map closed) lines ∙ sym y.led.read ∙ take_all (length b) b (omega arith)

-- and a house text is a text
any_step : (s t : State) (l : Content) → Step true s l t → Step false s l t
any_step calendar t l st = st
any_step version t l st = st
any_step product t l (k, text, e) = (k, (ap (λ (x : List ℕ). get_or x 0 0) text, omega (arith, ap length text)), e)
any_step method t l st = st
any_step (event m) t l st = st
any_step (inside m ps) t l (skips _ k e) = skips refl k e
any_step (inside m ps) t l (adds p w k own said e) = adds p w k own said e
any_step (inside m ps) t l (ends r is e) = ends r is e
any_step (closing m ps) t l st = st
any_step (done m ps) t l st = st

any_leads : (s t : State) (ls : List Content) → Leads true s ls t → Leads false s ls t
any_leads s t [] e = e
any_leads s t (l ∷ ls) (u, st, rest) = (u, any_step s u l st, any_leads u t ls rest)

pub any_house : (text : List ℕ) (m : Message) → Means true text m → Means false text m
any_house text m x = record { sized = x.sized; count = x.count; led = record { lines = x.led.lines; fit = x.led.fit; size = x.led.size; read = x.led.read; leads = any_leads calendar _ x.led.lines x.led.leads } }

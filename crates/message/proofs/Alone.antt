-- A text is read in one way: it means one message, or has one fault.
use Rattle.std.proofs.Common.{◌≡◌, ℕ, ◌+◌, ◌≤◌, false, List, [], ◌∷◌, ◌++◌, length, drop, Ok, Err, Result, sym, refl, ap, ◌∙◌, subst, arith}
use Rattle.std.specs.List.{flat_map}
use Rattle.std.proofs.lemmas.List.{append_assoc, append-nil, length-append, length-drop, take-append-drop, take_all, drop-drop, drop_at}
use Rattle.fault.specs.declared.kinds.Fault.{Fault}
use Rattle.fault.specs.declared.kinds.Cause.TheVariants as cause
use Rattle.fault.specs.declared.kinds.Layer.TheVariants as layer
use Rattle.fault.specs.Numbers.{told, at_line}
use Rattle.lines.specs.Content.{Content, Fit, bytes_of, closed, Stands}
use Rattle.lines.specs.Steps.{Sized}
use Rattle.lines.proofs.Places.{one_line}
use Rattle.message.specs.declared.kinds.Message.{Message}
use Rattle.message.specs.Meaning.{method_of, parts_of}
use Rattle.message.specs.Grammar.{State, calendar, done, Step, fault_in, frame_fault, Leads, AllFit, Led, Means, Whole, Refused, unsized, no_line, no_step, runs_out, Reads, Same, Alone}
use Rattle.message.proofs.Stepping.{step_one}

-- no line that stands first in what is left has a step
abbrev Stuck : State → List ℕ → Type 0
Stuck u rest = (l : Content) (x : List ℕ) → Fit l → rest ≡ closed l ++ x → (t : State) → Step false u l t → ⊥

-- lines that lead as far as they can
record Outcome (s : State) (text : List ℕ) (ls : List Content) (u : State) (rest : List ℕ) : Type 0 where
  fit : AllFit ls
  read : text ≡ flat_map closed ls ++ rest
  leads : Leads false s ls u
  stuck : Stuck u rest

one_outcome : (s : State) (text : List ℕ) (ls ms : List Content) (u v : State) (x y : List ℕ) → Outcome s text ls u x → Outcome s text ms v y → (ls ≡ ms) × (u ≡ v) × (x ≡ y)
one_outcome s text [] [] u v x y a b = (refl, sym a.leads ∙ b.leads, sym a.read ∙ b.read)
one_outcome s text [] (m ∷ ms) u v x y a b =
    let e : x ≡ closed m ++ (flat_map closed ms ++ y) = sym a.read ∙ b.read ∙ append_assoc (closed m) (flat_map closed ms) y in
    let next = b.leads in
    let P : State → Type 0 = λ w. Step false w m next.0 in
    absurd (a.stuck m _ b.fit.0 e next.0 (subst P a.leads next.1))
one_outcome s text (l ∷ ls) [] u v x y a b =
    let e : y ≡ closed l ++ (flat_map closed ls ++ x) = sym b.read ∙ a.read ∙ append_assoc (closed l) (flat_map closed ls) x in
    let next = a.leads in
    let P : State → Type 0 = λ w. Step false w l next.0 in
    absurd (b.stuck l _ a.fit.0 e next.0 (subst P b.leads next.1))
one_outcome s text (l ∷ ls) (m ∷ ms) u v x y a b =
    let e : closed l ++ (flat_map closed ls ++ x) ≡ closed m ++ (flat_map closed ms ++ y) = sym (append_assoc (closed l) (flat_map closed ls) x) ∙ sym a.read ∙ b.read ∙ append_assoc (closed m) (flat_map closed ms) y in
    let first = one_line l m _ _ a.fit.0 b.fit.0 e in
    let p = a.leads in
    let q = b.leads in
    let P : Content → Type 0 = λ k. Step false s k q.0 in
    let same : p.0 ≡ q.0 = step_one s l p.0 q.0 p.1 (subst P (sym first.0) q.1) in
    let Q : State → Type 0 = λ w. Leads false w ms v in
    let left : Outcome p.0 (flat_map closed ls ++ x) ls u x = record { fit = a.fit.1; read = refl; leads = p.2; stuck = a.stuck } in
    let right : Outcome p.0 (flat_map closed ls ++ x) ms v y = record { fit = b.fit.1; read = first.1; leads = subst Q (sym same) q.2; stuck = b.stuck } in
    let rest = one_outcome p.0 (flat_map closed ls ++ x) ls ms u v x y left right in
    (cc (first.0, rest.0), rest.1, rest.2)

not_empty : (l : Content) (x : List ℕ) → [] ≡ closed l ++ x → ⊥
not_empty l x e = omega (arith, ap length e, length-append (closed l) x, length-append (bytes_of l) (13 ∷ (10 ∷ [])))

whole_read : (text : List ℕ) (n : ℕ) (s : State) (led : Led false text (length text) n s) → text ≡ flat_map closed led.lines ++ []
whole_read text n s led = sym (take_all (length text) text (omega arith)) ∙ led.read ∙ sym (append-nil (flat_map closed led.lines))

at_end : (text : List ℕ) (n : ℕ) (s : State) (led : Led false text (length text) n s) → Outcome calendar text led.lines s []
at_end text n s led = record { fit = led.fit; read = whole_read text n s led; leads = led.leads; stuck = λ l x f e t st. not_empty l x e }

split_read : (text : List ℕ) (at n : ℕ) (s : State) (led : Led false text at n s) → text ≡ flat_map closed led.lines ++ drop at text
split_read text at n s led = sym (take-append-drop at text) ∙ ap (λ (t : List ℕ). t ++ drop at text) led.read

standing : (text : List ℕ) (at : ℕ) (l : Content) (x : List ℕ) → at ≤ length text → Fit l → drop at text ≡ closed l ++ x → Stands text at l (at + length (closed l))
standing text at l x h f e = record {
  fit = f;
  begins = h;
  size = refl;
  read = e ∙ ap (λ (r : List ℕ). closed l ++ r) (sym (sym (drop-drop (length (closed l)) at text) ∙ ap (drop (length (closed l))) e ∙ drop_at (closed l) x (length (closed l)) refl));
}

-- the fault that is told of what is left in a state, after n lines
data Told (u : State) (rest : List ℕ) (n : ℕ) (f : Fault) : Type 0 where
  bad : (rest ≡ [] → ⊥) → ((l : Content) (x : List ℕ) → Fit l → rest ≡ closed l ++ x → ⊥) → f ≡ at_line (told layer.Lines cause.Line) (n + 1) → Told u rest n f
  stops : (l : Content) (x : List ℕ) → Fit l → rest ≡ closed l ++ x → f ≡ at_line (fault_in u l) (n + 1) → Told u rest n f
  short : rest ≡ [] → (Whole u → ⊥) → f ≡ at_line frame_fault (n + 1) → Told u rest n f

one_told : (u : State) (rest : List ℕ) (n : ℕ) (f g : Fault) → Told u rest n f → Told u rest n g → f ≡ g
one_told u rest n f g (bad some none e) (bad _ _ d) = e ∙ sym d
one_told u rest n f g (bad some none e) (stops l x fit is d) = absurd (none l x fit is)
one_told u rest n f g (bad some none e) (short is _ d) = absurd (some is)
one_told u rest n f g (stops l x fit is e) (bad some none d) = absurd (none l x fit is)
one_told u rest n f g (stops l x fit is e) (stops m y also it d) = e ∙ ap (λ k. at_line (fault_in u k) (n + 1)) (one_line l m x y fit also (sym is ∙ it)).0 ∙ sym d
one_told u rest n f g (stops l x fit is e) (short it _ d) = absurd (not_empty l x (sym it ∙ is))
one_told u rest n f g (short it _ e) (bad some none d) = absurd (some it)
one_told u rest n f g (short it _ e) (stops l x fit is d) = absurd (not_empty l x (sym it ∙ is))
one_told u rest n f g (short it _ e) (short _ _ d) = e ∙ sym d

-- how a refused text of a fit length was read
record Halted (text : List ℕ) (f : Fault) : Type 0 where
  lines : List Content
  state : State
  rest : List ℕ
  outcome : Outcome calendar text lines state rest
  fault : Told state rest (length lines) f

halted : (text : List ℕ) (f : Fault) → Sized text → Refused text f → Halted text f
halted text f some (unsized e none) = absurd (none some)
halted text f some (no_line _ at n s led less none e) =
    let no : (l : Content) (x : List ℕ) → Fit l → drop at text ≡ closed l ++ x → ⊥ = λ l x fit is. none l _ (standing text at l x (omega arith) fit is) in
    record {
      lines = led.lines;
      state = s;
      rest = drop at text;
      outcome = record { fit = led.fit; read = split_read text at n s led; leads = led.leads; stuck = λ l x fit is t st. no l x fit is };
      fault = bad (λ z. omega (arith, ap length z, length-drop at text)) no (e ∙ ap (λ k. at_line (told layer.Lines cause.Line) (k + 1)) led.size);
    }
halted text f some (no_step _ at n next s l led stands none e) = record {
  lines = led.lines;
  state = s;
  rest = drop at text;
  outcome = record { fit = led.fit; read = split_read text at n s led; leads = led.leads; stuck = λ m x fit is t st. none t (let P : Content → Type 0 = λ k. Step false s k t in subst P (one_line m l x _ fit stands.fit (sym is ∙ stands.read)).0 st) };
  fault = stops l (drop next text) stands.fit stands.read (e ∙ ap (λ k. at_line (fault_in s l) (k + 1)) led.size);
}
halted text f some (runs_out _ n s led none e) = record {
  lines = led.lines;
  state = s;
  rest = [];
  outcome = at_end text n s led;
  fault = short refl none (e ∙ ap (λ k. at_line frame_fault (k + 1)) led.size);
}

means_refused : (text : List ℕ) (m : Message) (f : Fault) → Means false text m → Refused text f → ⊥
means_refused text m f means refused =
    let h = halted text f means.sized refused in
    let same = one_outcome calendar text _ _ _ _ _ _ (at_end text _ _ means.led) h.outcome in
    ruled h.state h.rest _ f (sym same.2) (method_of m, (parts_of m, sym same.1)) h.fault
  where
    ruled : (u : State) (rest : List ℕ) (n : ℕ) (f : Fault) → rest ≡ [] → Whole u → Told u rest n f → ⊥
    ruled u rest n f e w (bad some none d) = some e
    ruled u rest n f e w (stops l x fit is d) = not_empty l x (sym e ∙ is)
    ruled u rest n f e w (short _ none d) = none w

means_one : (text : List ℕ) (m n : Message) → Means false text m → Means false text n → Same m n
means_one text m n a b =
    let same = one_outcome calendar text _ _ _ _ _ _ (at_end text _ _ a.led) (at_end text _ _ b.led) in
    let e : done (method_of m) (parts_of m) ≡ done (method_of n) (parts_of n) = same.1 in
    (cc, cc)

fault_sized : (text : List ℕ) (f g : Fault) → Sized text → Refused text f → Refused text g → g ≡ f
fault_sized text f g some a b =
    let h = halted text f some a in
    let k = halted text g some b in
    let same = one_outcome calendar text _ _ _ _ _ _ h.outcome k.outcome in
    let P : State → Type 0 = λ u. Told u k.rest (length k.lines) f in
    let Q : List ℕ → Type 0 = λ r. Told h.state r (length k.lines) f in
    let R : ℕ → Type 0 = λ n. Told h.state h.rest n f in
    one_told k.state k.rest (length k.lines) g f k.fault (subst P same.1 (subst Q same.2 (subst R (ap length same.0) h.fault)))

fault_one : (text : List ℕ) (f g : Fault) → Refused text f → Refused text g → g ≡ f
fault_one text f g (unsized e _) (unsized d _) = d ∙ sym e
fault_one text f g (unsized e none) (no_line some at n s led less nope d) = absurd (none some)
fault_one text f g (unsized e none) (no_step some at n next s l led st nope d) = absurd (none some)
fault_one text f g (unsized e none) (runs_out some n s led nope d) = absurd (none some)
fault_one text f g (no_line some at n s led less nope e) other = fault_sized text f g some (no_line some at n s led less nope e) other
fault_one text f g (no_step some at n next s l led st nope e) other = fault_sized text f g some (no_step some at n next s l led st nope e) other
fault_one text f g (runs_out some n s led nope e) other = fault_sized text f g some (runs_out some n s led nope e) other

pub alone : (text : List ℕ) (r : Result Message Fault) → Reads text r → Alone text r
alone text (Ok m) means = (λ n other. means_one text n m other means, λ g refused. means_refused text m g means refused)
alone text (Err f) refused = (λ n means. means_refused text n f means refused, λ g other. fault_one text f g refused other)

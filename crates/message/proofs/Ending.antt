-- How the reading of a text goes on and ends, from what each call answers.
use Rattle.std.proofs.Common.{◌≡◌, ℕ, ◌+◌, ◌<◌, false, List, length, Some, None, Ok, Err, Option, Result, sym, ap, ◌∙◌, subst}
use Rattle.fault.specs.declared.kinds.Fault.{Fault}
use Rattle.fault.specs.Numbers.{at_line}
use Rattle.lines.specs.declared.kinds.Line.{Line}
use Rattle.lines.specs.declared.kinds.Lines.{Lines}
use Rattle.lines.specs.Content.{Stands}
use Rattle.lines.specs.Steps.{Sized, NoLine, Steps, Stays, Next, NotRead, sized, line, content_of}
use Rattle.message.specs.declared.kinds.Message.{Message}
use Rattle.message.specs.Grammar.{State, Step, NoStep, fault_in, frame_fault, Led, Refused, unsized, no_line, no_step, runs_out, Reads}
use Rattle.message.specs.Reader.{Finishes}
use Rattle.message.proofs.Leading.{led_more}

pub goes_on : (text : List ℕ) (b a : Lines) (l : Line) (s t : State) → b.text.now ≡ text → Led false text b.at b.number s → Steps b a l → Step false s (content_of l) t → (a.text.now ≡ text) × Led false text a.at a.number t
goes_on text b a l s t e led st step =
    let stands : Stands text b.at (content_of l) a.at = (let P : List ℕ → Type 0 = λ x. Stands x b.at (content_of l) a.at in subst P e st.stands) in
    let more = led_more false text b.at a.at b.number s t (content_of l) led stands step in
    (st.same ∙ e, (let P : ℕ → Type 0 = λ n. Led false text a.at n t in subst P (sym st.counted) more))

pub no_line_there : (text : List ℕ) (b : Lines) (s : State) (f : Fault) → b.text.now ≡ text → Led false text b.at b.number s → NotRead b f → Refused text f
no_line_there text b s f e led (sized p none) = unsized p (λ z. none (let P : List ℕ → Type 0 = λ x. Sized x in subst P (sym e) z))
no_line_there text b s f e led (line p some less none) =
    no_line (let P : List ℕ → Type 0 = λ x. Sized x in subst P e some) b.at b.number s led (let P : List ℕ → Type 0 = λ x. b.at < length x in subst P e less) (let P : List ℕ → Type 0 = λ x. NoLine x b.at in subst P e none) p

pub no_step_there : (text : List ℕ) (b a : Lines) (l : Line) (s : State) (f : Fault) → b.text.now ≡ text → Sized b.text.now → Led false text b.at b.number s → Steps b a l → NoStep s (content_of l) × (f ≡ at_line (fault_in s (content_of l)) l.number) → Refused text f
no_step_there text b a l s f e some led st (none, told) =
    no_step (let P : List ℕ → Type 0 = λ x. Sized x in subst P e some) b.at b.number a.at s (content_of l) led (let P : List ℕ → Type 0 = λ x. Stands x b.at (content_of l) a.at in subst P e st.stands) none (told ∙ ap (at_line (fault_in s (content_of l))) st.number)

pub at_end : (text : List ℕ) (b : Lines) (s : State) (missing : ℕ) (r : Result Message Fault) → b.text.now ≡ text → Sized b.text.now → b.at ≡ length b.text.now → missing ≡ b.number + 1 → Led false text b.at b.number s → Finishes missing s r → Reads text r
at_end text b s missing (Ok m) e some end count led is =
    let all : Led false text (length text) b.number s = (let P : ℕ → Type 0 = λ n. Led false text n b.number s in subst P (end ∙ ap length e) led) in
    record { sized = (let P : List ℕ → Type 0 = λ x. Sized x in subst P e some); count = b.number; led = (let P : State → Type 0 = λ x. Led false text (length text) b.number x in subst P is all) }
at_end text b s missing (Err f) e some end count led (none, told) =
    let all : Led false text (length text) b.number s = (let P : ℕ → Type 0 = λ n. Led false text n b.number s in subst P (end ∙ ap length e) led) in
    runs_out (let P : List ℕ → Type 0 = λ x. Sized x in subst P e some) b.number s all none (told ∙ ap (at_line frame_fault) count)

pub some_read : (b a : Lines) (o : Option Line) (l : Line) → o ≡ Some l → Next b a (Ok o) → Sized b.text.now × Steps b a l
some_read b a o l e n = let P : Option Line → Type 0 = λ x. Next b a (Ok x) in subst P e n

pub none_read : (b a : Lines) (o : Option Line) → o ≡ None → Next b a (Ok o) → Sized b.text.now × (b.at ≡ length b.text.now) × Stays b a
none_read b a o e n = let P : Option Line → Type 0 = λ x. Next b a (Ok x) in subst P e n

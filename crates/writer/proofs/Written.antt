-- Lines one behind another, which lead on.
use Rattle.std.proofs.Common.{◌≡◌, ℕ, ◌+◌, ◌≤◌, true, List, [], ◌∷◌, ◌++◌, length, get_or, take, drop, Some, codes, sym, refl, ap, ◌∙◌, subst, arith, length-append}
use Rattle.std.specs.List.{flat_map, list_all, slice_get}
use Rattle.std.proofs.lemmas.List.{append-nil, length-take-le, take_all}
use Rattle.std.proofs.lemmas.List.Concat.{flat_map-append}
use Rattle.lines.specs.Content.{Content, Fit, closed}
use Rattle.property.specs.Values.{Part, property_of, name_text, Says}
use Rattle.message.specs.declared.kinds.Message.{Message}
use Rattle.message.specs.declared.kinds.Method.{Method}
use Rattle.message.specs.declared.kinds.Method.TheVariants.{Request, Cancel, Reply}
use Rattle.message.specs.Meaning.{wanted, required, belongs, parts_of, method_of}
use Rattle.message.specs.Grammar.{State, calendar, version, product, method, event, inside, closing, done, adds, ends, Leads, AllFit, Means}
use Rattle.writer.proofs.Ordered.{placed, ordered, enough, room, roomy}
use Rattle.writer.specs.Writing.{head, foot, frame}
use Rattle.writer.proofs.Fitting.{line_of, longest, fit_line, name_kind, line_room}
use Rattle.writer.proofs.Legible.{every}
use Rattle.lines.specs.Bytes.{name_byte, printable, separates}
use Rattle.message.specs.Names.{method_name, method_text}

all_fit_append : (ls ks : List Content) → AllFit ls → AllFit ks → AllFit (ls ++ ks)
all_fit_append [] ks a b = b
all_fit_append (l ∷ ls) ks (f, a) b = (f, all_fit_append ls ks a b)

leads_append : (s t u : State) (ls ks : List Content) → Leads true s ls t → Leads true t ks u → Leads true s (ls ++ ks) u
leads_append s t u [] ks e b = let P : State → Type 0 = λ x. Leads true x ks u in subst P (sym e) b
leads_append s t u (l ∷ ls) ks (v, st, a) b = (v, st, leads_append v t u ls ks a b)

-- a text of lines, which lead from one state to another
pub record Lines (s t : State) (text : List ℕ) : Type 0 where
  pub lines : List Content
  pub fit : AllFit lines
  pub written : text ≡ flat_map closed lines
  pub leads : Leads true s lines t

-- lines, and the lines behind them
pub lines_more : {s t u : State} {x y : List ℕ} → Lines s t x → Lines t u y → Lines s u (x ++ y)
lines_more {s = s} {t = t} {u = u} a b = record {
  lines = a.lines ++ b.lines;
  fit = all_fit_append a.lines b.lines a.fit b.fit;
  written = rw (a.written, b.written) (sym (flat_map-append closed a.lines b.lines));
  leads = leads_append s t u a.lines b.lines a.leads b.leads;
}

-- the line of a part that is wanted
lines_part : (m : Method) (parts : List Part) (p : Part) (text : List ℕ) → Says p text → wanted m (length parts) ≡ Some (property_of p) → belongs m p ≡ true → Lines (inside m parts) (inside m (parts ++ (p ∷ []))) (closed (line_of p text))
lines_part m parts p text said w own = record {
  lines = line_of p text ∷ [];
  fit = (fit_line p text said, tt);
  written = sym (append-nil (closed (line_of p text)));
  leads = (inside m (parts ++ (p ∷ [])), adds p w (name_kind p) own said refl, refl);
}

frame_fit : (name text : List ℕ) → 1 ≤ length name → list_all name_byte name ≡ true → 1 ≤ length text → separates (get_or text 0 0) ≡ true → list_all printable text ≡ true → length (name ++ text) ≤ 75 → Fit (frame name text)
frame_fit name text n p t s q l = record { named = n; naming = every name_byte name p; some = t; parted = s; shown = every printable text q; short = l }

method_fit : (m : Method) → Fit (frame (codes "METHOD") (method_text m))
method_fit Request = frame_fit (codes "METHOD") (codes ":REQUEST") (omega arith) refl (omega arith) refl refl (omega arith)
method_fit Cancel = frame_fit (codes "METHOD") (codes ":CANCEL") (omega arith) refl (omega arith) refl refl (omega arith)
method_fit Reply = frame_fit (codes "METHOD") (codes ":REPLY") (omega arith) refl (omega arith) refl refl (omega arith)

head_fit : (m : Method) → AllFit (head m)
head_fit m = (frame_fit (codes "BEGIN") (codes ":VCALENDAR") (omega arith) refl (omega arith) refl refl (omega arith), (frame_fit (codes "VERSION") (codes ":2.0") (omega arith) refl (omega arith) refl refl (omega arith), (frame_fit (codes "PRODID") (codes ":-//DOORS//ITIP 1//EN") (omega arith) refl (omega arith) refl refl (omega arith), (method_fit m, (frame_fit (codes "BEGIN") (codes ":VEVENT") (omega arith) refl (omega arith) refl refl (omega arith), tt)))))

foot_fit : AllFit foot
foot_fit = (frame_fit (codes "END") (codes ":VEVENT") (omega arith) refl (omega arith) refl refl (omega arith), (frame_fit (codes "END") (codes ":VCALENDAR") (omega arith) refl (omega arith) refl refl (omega arith), tt))

pub lines_head : (m : Method) → Lines calendar (inside m []) (flat_map closed (head m))
lines_head m = record {
  lines = head m;
  fit = head_fit m;
  written = refl;
  leads = (version, ((refl, refl), refl), (product, ((refl, refl), refl), (method, (refl, refl, refl), (event m, (m, (refl, refl), refl), (inside m [], ((refl, refl), refl), refl)))));
}

lines_foot : (m : Method) (parts : List Part) → required m ≤ length parts → Lines (inside m parts) (done m parts) (flat_map closed foot)
lines_foot m parts r = record {
  lines = foot;
  fit = foot_fit;
  written = refl;
  leads = (closing m parts, ends r (refl, refl) refl, (done m parts, ((refl, refl), refl), refl));
}

-- the frame's start and the first properties of a message, with room for the others
pub record Begun (msg : Message) (n : ℕ) (text : List ℕ) : Type 0 where
  pub lines : Lines calendar (inside (method_of msg) (take n (parts_of msg))) text
  pub short : length text + room (drop n (parts_of msg)) ≤ 619

pub begun : (msg : Message) (m : Method) (text : List ℕ) → m ≡ method_of msg → text ≡ flat_map closed (head m) → length text ≤ 89 → Begun msg 0 text
begun msg m text is e short = record {
  lines = subst (λ (x : Method). Lines calendar (inside x []) text) is (subst (Lines calendar (inside m [])) (sym e) (lines_head m));
  short = omega (arith, roomy msg);
}

-- one property more has room, and is put behind them
module _ (msg : Message) (n : ℕ) (p : Part) (front said : List ℕ) (at : slice_get (parts_of msg) n ≡ Some p) (b : Begun msg n front) (says : Says p said) where
  room_left : room (drop n (parts_of msg)) ≡ longest (property_of p) + room (drop (n + 1) (parts_of msg))
  room_left = ap room (placed (parts_of msg) n p at).1

  pub line_fits : (name : List ℕ) → name ≡ name_text (property_of p) → length front + (length name + length said + 2) ≤ 768
  line_fits name e = omega (arith, room_left, b.short, line_room p said says, ap length e)

  pub begun_more : (name now : List ℕ) → name ≡ name_text (property_of p) → now ≡ front ++ closed (record { name = name; text = said }) → Begun msg (n + 1) now
  begun_more name now e is =
      let here = placed (parts_of msg) n p at in
      let o = ordered msg n p at in
      let size : length (take n (parts_of msg)) ≡ n = length-take-le n (parts_of msg) (omega (arith, here.0)) in
      let line = lines_part (method_of msg) (take n (parts_of msg)) p said says (ap (wanted (method_of msg)) size ∙ o.0) o.1 in
      let P : List Part → Type 0 = λ ps. Lines calendar (inside (method_of msg) ps) (front ++ closed (line_of p said)) in
      record {
        lines = rw (is, e) (subst P (sym here.2) (lines_more b.lines line));
        short = omega (arith, room_left, b.short, line_room p said says, ap length e, ap length is, length-append front (closed (record { name = name; text = said })), length-append (name ++ said) (13 ∷ (10 ∷ [])), length-append name said);
      }

-- all of them, and the frame's end
pub whole : (msg : Message) (n : ℕ) (front now : List ℕ) → length (parts_of msg) ≤ n → Begun msg n front → now ≡ front ++ flat_map closed foot → Means true now msg
whole msg n front now all b is =
    let P : List Part → Type 0 = λ ps. Lines calendar (inside (method_of msg) ps) front in
    let parts = subst P (take_all n (parts_of msg) all) b.lines in
    let w = lines_more parts (lines_foot (method_of msg) (parts_of msg) (enough msg)) in
    let long = length-append front (flat_map closed foot) in
    record {
      sized = (omega (arith, long, ap length is), omega (arith, long, ap length is, b.short));
      count = length w.lines;
      led = record { lines = w.lines; fit = w.fit; size = refl; read = take_all _ _ (omega arith) ∙ is ∙ w.written; leads = w.leads };
    }

-- the lines before an event, put together around the method's name
abbrev close : List ℕ
close = 13 ∷ (10 ∷ [])

pub head_is : (m : Method) (name : List ℕ) → name ≡ method_name m → ((codes "BEGIN:VCALENDAR" ++ close) ++ ((codes "VERSION:2.0" ++ close) ++ ((codes "PRODID:-//DOORS//ITIP 1//EN" ++ close) ++ codes "METHOD:"))) ++ (name ++ ((close ++ (codes "BEGIN:VEVENT" ++ close)) ++ [])) ≡ flat_map closed (head m)
head_is Request name e = rw e refl
head_is Cancel name e = rw e refl
head_is Reply name e = rw e refl

-- Lines that lead from state to state, one more at a time.
use Rattle.std.proofs.Common.{◌≡◌, ℕ, ◌+◌, Bool, List, [], ◌∷◌, ◌++◌, length, take, drop, sym, refl, ap, ◌∙◌}
use Rattle.std.proofs.lemmas.List.{length_push, flat_map_more, take_at, take-append-drop, length-append, length-take-le, append_assoc}
use Rattle.lines.specs.Content.{Content, Fit, closed, Stands}
use Rattle.message.specs.Grammar.{State, calendar, Step, Leads, AllFit, Led}

fit_more : (ls : List Content) (l : Content) → AllFit ls → Fit l → AllFit (ls ++ (l ∷ []))
fit_more [] l all f = (f, tt)
fit_more (x ∷ ls) l all f = (all.0, fit_more ls l all.1 f)

pub leads_more : (h : Bool) (s u t : State) (ls : List Content) (l : Content) → Leads h s ls u → Step h u l t → Leads h s (ls ++ (l ∷ [])) t
leads_more h s u t [] l e st = (t, rw e st, refl)
leads_more h s u t (x ∷ ls) l (v, first, later) st = (v, first, leads_more h v u t ls l later st)

-- the text up to the next line is the text up to this one, and this one
take_line : (text : List ℕ) (at next : ℕ) (l : Content) → Stands text at l next → take next text ≡ take at text ++ closed l
take_line text at next l s =
    let whole : text ≡ (take at text ++ closed l) ++ drop next text = sym (take-append-drop at text) ∙ ap (λ (t : List ℕ). take at text ++ t) s.read ∙ sym (append_assoc (take at text) (closed l) (drop next text)) in
    let size : length (take at text ++ closed l) ≡ next = length-append (take at text) (closed l) ∙ ap (λ k. k + length (closed l)) (length-take-le at text s.begins) ∙ sym s.size in
    ap (take next) whole ∙ take_at (take at text ++ closed l) (drop next text) next size

pub led_more : (h : Bool) (text : List ℕ) (at next n : ℕ) (s t : State) (l : Content) → Led h text at n s → Stands text at l next → Step h s l t → Led h text next (n + 1) t
led_more h text at next n s t l led stands step = record {
  lines = led.lines ++ (l ∷ []);
  fit = fit_more led.lines l led.fit stands.fit;
  size = ap (λ k. k + 1) led.size ∙ sym (length_push led.lines l);
  read = take_line text at next l stands ∙ ap (λ (x : List ℕ). x ++ closed l) led.read ∙ flat_map_more closed [] led.lines l;
  leads = leads_more h calendar s t led.lines l led.leads step;
}

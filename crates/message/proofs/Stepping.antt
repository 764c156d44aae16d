-- A line leads from a state to one other at most.
use Rattle.std.proofs.Common.{◌≡◌, ℕ, false, List, [], ◌∷◌, ◌++◌, sym, refl, ap, ◌∙◌, arith}
use Rattle.lines.specs.Content.{Content}
use Rattle.property.specs.Values.{Part, Says, property_of}
use Rattle.property.proofs.Laws.{one_part}
use Rattle.message.specs.declared.kinds.Kind.TheVariants as kind
use Rattle.message.specs.declared.kinds.Method.{Method}
use Rattle.message.specs.declared.kinds.Method.TheVariants.{Request, Cancel, Reply}
use Rattle.message.specs.Names.{kind_of, method_text}
use Rattle.message.specs.Grammar.{State, calendar, version, product, method, event, inside, closing, done, Inside, skips, adds, ends, Step}

clash : ◌≡◌ {A = ℕ} 0 1 → ⊥
clash z = omega arith

method_one : (m n : Method) → method_text m ≡ method_text n → m ≡ n
method_one Request Request e = refl
method_one Request Cancel e = absurd (clash (cc))
method_one Request Reply e = absurd (clash (cc))
method_one Cancel Request e = absurd (clash (cc))
method_one Cancel Cancel e = refl
method_one Cancel Reply e = absurd (clash (cc))
method_one Reply Request e = absurd (clash (cc))
method_one Reply Cancel e = absurd (clash (cc))
method_one Reply Reply e = refl

part_one : (l : Content) (p q : Part) → kind_of l.name ≡ kind.Listed (property_of p) → kind_of l.name ≡ kind.Listed (property_of q) → Says p l.text → Says q l.text → p ≡ q
part_one l p q a b said also = let e : property_of p ≡ property_of q = cc in one_part p q l.text e said also

inside_one : (m : Method) (parts : List Part) (l : Content) (t u : State) → Inside false m parts l t → Inside false m parts l u → t ≡ u
inside_one m parts l t u (skips _ k e) (skips _ j f) = e ∙ sym f
inside_one m parts l t u (skips _ k e) (adds q _ j _ _ f) = absurd (clash (cc))
inside_one m parts l t u (skips _ k e) (ends _ j f) = let i = j.0 in absurd (clash (cc))
inside_one m parts l t u (adds p _ k _ _ e) (skips _ j f) = absurd (clash (cc))
inside_one m parts l t u (adds p _ k _ said e) (adds q _ j _ also f) = e ∙ ap (λ x. inside m (parts ++ (x ∷ []))) (part_one l p q k j said also) ∙ sym f
inside_one m parts l t u (adds p _ k _ _ e) (ends _ j f) = let i = j.0 in absurd (clash (cc))
inside_one m parts l t u (ends _ k e) (skips _ j f) = let i = k.0 in absurd (clash (cc))
inside_one m parts l t u (ends _ k e) (adds q _ j _ _ f) = let i = k.0 in absurd (clash (cc))
inside_one m parts l t u (ends _ k e) (ends _ j f) = e ∙ sym f

pub step_one : (s : State) (l : Content) (t u : State) → Step false s l t → Step false s l u → t ≡ u
step_one calendar l t u (_, e) (_, f) = e ∙ sym f
step_one version l t u (_, e) (_, f) = e ∙ sym f
step_one product l t u (_, _, e) (_, _, f) = e ∙ sym f
step_one method l t u (m, is, e) (n, also, f) = e ∙ ap event (method_one m n (sym is.1 ∙ also.1)) ∙ sym f
step_one (event m) l t u (_, e) (_, f) = e ∙ sym f
step_one (inside m parts) l t u a b = inside_one m parts l t u a b
step_one (closing m parts) l t u (_, e) (_, f) = e ∙ sym f
step_one (done m parts) l t u a b = absurd a

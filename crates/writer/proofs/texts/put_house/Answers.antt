use Rattle.std.proofs.Common.{◌≡◌, ℕ, ◌+◌, ◌-◌, ◌<◌, ◌≤◌, ◌⊎◌, length, List, ◌++◌, Some, None, Option, MatchOption, refl, ap, ◌∙◌, inl, inr, arith, rules}
use Rattle.std.specs.List.{slice_get}
use Rattle.message.specs.Meaning.{parts_of}
use Rattle.property.specs.Values.{part_of}
use Rattle.writer.specs.Ranges.{Ranged}
use Rattle.writer.proofs.Ordered.{few, ranged_at}
use Rattle.writer.proofs.Written.{begun, begun_more, whole}
use Rattle.writer.proofs.texts.put_house.Goals as goal

-- a turn of the chain: the places have run out, or the message was asked at the place and it moves on
turn : (o : Option ℕ) (Asked : ℕ → Type 0) (Out : Type 0) (start end next last : ℕ) → (last ≡ end) × MatchOption o ((end - start ≡ 0) × (next ≡ start)) (λ k. (0 < end - start) × (k ≡ start) × (next ≡ start + 1)) → MatchOption o Out Asked → ((end ≤ start) × Out) ⊎ ((next ≡ start + 1) × Asked start)
turn None Asked Out start end next last (_, (spent, _)) e = inl (omega arith, e)
turn (Some k) Asked Out start end next last (_, (_, at, on)) e = inr (on, rw (← at) e)

pub loop-value-init : goal.loop-value-init
loop-value-init c =
    rw (c.into_iter-value-iterator.ensures.into_iter_gives, c.map_while-value-items.ensures.source, c.map_while-value-items.ensures.closure) record {
      begun = begun c.args.message.now c.method.result _ c.method.ensures c.put_head.ensures.value c.put_head.ensures.size;
      asks = refl;
      end = refl;
    }

pub returns-then-not-is_ranged : goal.returns-then-not-is_ranged
returns-then-not-is_ranged c =
    let s = c.in-Some.ensures.steps in
    let place = c.loop-value.value-iterator.iter.start in
    let here : slice_get (parts_of c.args.message.now) place ≡ Some (part_of c.in-Some.value) = elim (turn s.0 _ _ _ _ _ _ s.1 s.2) [ inl out ↦ cc | inr t ↦ search rules ] in
    let out : Ranged (part_of c.in-Some.value) → ⊥ = search rules in
    λ all. out (ranged_at (parts_of c.args.message.now) place _ all here)

pub loop-value-preserved : goal.loop-value-preserved
loop-value-preserved c =
    let s = c.in-Some.ensures.steps in
    let place = c.loop-value.value-iterator.iter.start in
    let turned = turn s.0 _ _ _ _ _ _ s.1 s.2 in
    let here : slice_get (parts_of c.args.message.now) place ≡ Some (part_of c.in-Some.value) = elim turned [ inl out ↦ cc | inr t ↦ search rules ] in
    let next : c.next.new.self.iter.start ≡ place + 1 = elim turned [ inl out ↦ cc | inr t ↦ t.0 ] in
    let put = c.put_value.ensures in
    let line = put.1 in
    record {
      begun = rw next (begun_more c.args.message.now place (part_of c.in-Some.value) _ line.0 here c.loop-value.invariant.begun line.1 _ _ refl (put.2 ∙ ap (λ (text : List ℕ). c.loop-value.text.items ++ text) line.2));
      asks = elim turned [ inl out ↦ cc | inr t ↦ search rules ];
      end = s.1.0 ∙ c.loop-value.invariant.end;
    }

pub returns : goal.returns
returns c =
    let s = c.in-None.ensures.steps in
    let all : length (parts_of c.args.message.now) ≤ c.loop-value.value-iterator.iter.start = elim (turn s.0 _ _ _ _ _ _ s.1 s.2) [ inl out ↦ omega (arith, few c.args.message.now, out.0, c.loop-value.invariant.end) | inr t ↦ search rules ] in
    whole c.args.message.now _ _ _ all c.loop-value.invariant.begun c.put_foot.ensures

use Rattle.std.proofs.Common.{◌≡◌, ◌++◌, ◌≤◌, ℕ, true, List, length, drop, option_map, Option, sym, subst, arith}
use Rattle.std.proofs.lemmas.List.{take_at, drop_at}
use Rattle.message.specs.declared.kinds.Message.{Message}
use Rattle.message.specs.Grammar.{Means}
use Rattle.writer.specs.Writing.{HouseText, Writ}
use Rattle.writer.proofs.Ranging.{meant_ranged}
use Rattle.writer.proofs.texts.write.Goals as goal

-- a text in front of a buffer's rest
writ : (m : Message) (old text : List ℕ) (n : ℕ) → 768 ≤ length old → Means true text m → n ≡ length text → Writ m old (text ++ drop n old) n
writ m old text n long means size = record {
  long = long;
  ranged = meant_ranged true text m means;
  size = omega (arith, means.sized.1);
  text = subst (λ (t : List ℕ). Means true t m) (sym (take_at text (drop n old) n (sym size))) means;
  rest = drop_at text (drop n old) n (sym size);
}

pub returns : goal.returns
returns c =
    let text = c.put_house.new.text in
    let means = subst (λ (put : Option (Unit {0})). HouseText c.args.message.now (option_map (λ _. text) put)) c.in_ok-ok_or.ensures.ok_part c.put_house.ensures in
    rw (c.copy_from_slice.ensures.after, c.deref.ensures.0) (writ c.args.message.now c.args.buffer.now text.items c.len-length.result c.if-buffer-lt-LONGEST.false means c.len-length.ensures.value)

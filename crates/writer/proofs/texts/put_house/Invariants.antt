use Rattle.std.proofs.Common.{◌≡◌}
use Rattle.writer.proofs.Written.{Begun}
use Rattle.writer.proofs.texts.put_house.Given as goal

abbrev pub invariant-loop-value : goal.invariant-loop-value
invariant-loop-value l = record {
  begun : Begun l.message l.value-iterator.iter.start l.text.items;
  asks : l.value-iterator.f.0.now ≡ l.message;
  end : l.value-iterator.iter.end ≡ 13;
}

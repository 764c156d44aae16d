-- Reading undoes writing, and writing undoes reading.
use Rattle.std.proofs.Common.{◌≡◌, ℕ, false, List, take, Some, None, Ok, Err, Option, Result, sym, ◌∙◌}
use Rattle.fault.specs.declared.kinds.Fault.{Fault}
use Rattle.message.specs.declared.kinds.Message.{Message}
use Rattle.message.specs.Grammar.{Means, Alone}
use Rattle.message.proofs.House.{one_house, any_house}
use Rattle.writer.specs.Writing.{Writ, Writes, NotWritten, short, range, Rereads, Rewrites, Rewritten, NotRewritten}
use Rattle.writer.specs.Writing as writing
use Rattle.writer.specs.Writing.{RereadsValue, RewritesValue, TextOf}
use Rattle.property.specs.Values.{Part, part_of, property_of, Says}
use Rattle.property.specs.Values.{Reads as ReadsText}
use Rattle.property.specs.declared.kinds.Value.{Value}
use Rattle.property.proofs.Laws.{one_part, one_text}
use Rattle.fault.specs.declared.kinds.Property.{Property}
use Rattle.arrayvec.specs.ArrayVec.{ArrayVec}
use Rattle.writer.proofs.Ranging.{meant_ranged, said_ranged}

pub read_back : (m : Message) (old new : List ℕ) (n : ℕ) (r : Result Message Fault) → Writ m old new n → Alone (take n new) r → Rereads m old r
read_back m old new n (Ok k) w (one, _) = let same = one m (any_house (take n new) m w.text) in (w.ranged, w.long, (sym same.0, sym same.1))
read_back m old new n (Err f) w (none, _) = absurd (none m (any_house (take n new) m w.text))

pub written_back : (m : Message) (text old new : List ℕ) (r : Result ℕ Fault) → Means false text m → Alone text (Ok m) → Writes m old new r → Rewrites text old new r
written_back m text old new (Ok n) means (one, _) w = record {
  message = m;
  meant = means;
  written = w;
  house = λ k house. (let same = one k (any_house text k house) in one_house (take n new) text m k (sym same.0, sym same.1) w.text house);
}
written_back m text old new (Err f) means a (short e less, kept) = (writing.NotRewritten.short e less m means, kept)
written_back m text old new (Err f) means a (range e long out, kept) = absurd (out (meant_ranged false text m means))

-- the text of one part
pub value_read_back : (p : Part) (q : Property) (text : List ℕ) (r : Option Value) → q ≡ property_of p → Says p text → ReadsText q text r → RereadsValue p r
value_read_back p q text None is said none = absurd (none p (sym is) said)
value_read_back p q text (Some v) is said (of, read) = (said_ranged p text said, one_part (part_of v) p text (of ∙ is) read said)

pub value_written_back : (p : Part) (q : Property) (text : List ℕ) (r : Option (ArrayVec ℕ)) → (property_of p ≡ q) × Says p text → TextOf p r → RewritesValue q text r
value_written_back p q text None (_, said) out = absurd (out (said_ranged p text said))
value_written_back p q text (Some again) (_, said) written = one_text p again.items text written said

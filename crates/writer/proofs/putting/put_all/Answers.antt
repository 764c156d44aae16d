use Rattle.std.proofs.Common.{List, ℕ, Bor, length, take, [], ap, arith, length-append}
use Rattle.std.specs.List.{flat_map}
use Rattle.std.proofs.lemmas.List.Folds.{length-flat_map-take}
use Rattle.writer.proofs.putting.put_all.Goals as goal

pub put-requires : goal.put-requires
put-requires g c =
    let bytes : Bor (List ℕ) → List ℕ = λ piece. piece.now in
    let pieces = c.args.pieces.now in
    let at = c.loop-piece.piece-index in
    omega (arith, length-flat_map-take bytes pieces at (record { ref_ptr = (0, 0); now = [] }) c.loop-piece-test.true, ap (length {A = ℕ}) c.loop-piece.invariant, length-append c.args.text.now.items (flat_map bytes (take at pieces)))

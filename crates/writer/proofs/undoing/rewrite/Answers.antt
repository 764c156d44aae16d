use Rattle.std.proofs.Common.{refl}
use Rattle.std.proofs.lemmas.Result.{err_from_is_err_and}
use Rattle.writer.specs.Writing.{unread}
use Rattle.writer.proofs.Undone.{written_back}
use Rattle.writer.proofs.undoing.rewrite.Goals as goal

pub returns-in_err-message : goal.returns-in_err-message
returns-in_err-message c =
    let p = err_from_is_err_and c.from_residual.result c.from_residual.ensures.1 in
    rw (p.1, p.2) (unread c.in_err-message.ensures.reads, refl)

pub returns : goal.returns
returns c = written_back c.in_ok-message.message c.args.text.now c.args.buffer.now c.write.new.buffer c.write.result c.in_ok-message.ensures.reads c.in_ok-message.ensures.alone c.write.ensures

use Rattle.writer.proofs.Undone.{read_back}
use Rattle.writer.proofs.undoing.reread.Goals as goal

pub returns : goal.returns
returns c = read_back c.args.message.now c.args.buffer.now c.write.new.buffer c.in_ok-length.length c.read.result c.in_ok-length.ensures c.read.ensures.alone

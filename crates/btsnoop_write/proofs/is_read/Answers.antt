use Rattle.btsnoop_write.specs.Laws.{read_first, read_second, unread}
use Rattle.btsnoop_write.proofs.is_read.Goals as goal

pub returns-in-Some : goal.returns-in-Some
returns-in-Some c = read_first c.args.s.now _ c.read.ensures.event c.in-Some.is

pub returns-in-Some-matches : goal.returns-in-Some-matches
returns-in-Some-matches c = read_second c.args.s.now c.read.ensures.event c.in_default.is _ c.read-2.ensures c.in-Some-matches.is

pub returns-in_default-matches : goal.returns-in_default-matches
returns-in_default-matches c = unread c.args.s.now c.read.ensures.event c.in_default.is c.read-2.ensures c.in_default-matches.is

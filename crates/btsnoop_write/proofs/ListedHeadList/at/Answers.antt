use Rattle.btsnoop_write.specs.Laws.{head_next}
use Rattle.btsnoop_write.proofs.ListedHeadList.at.Goals as goal

pub returns : goal.returns
returns c = head_next c.args.self.now.heads.now c.args.i _ c.requires

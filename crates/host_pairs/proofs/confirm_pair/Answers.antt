use Rattle.host_pairs.specs.Laws.{confirmed}
use Rattle.host_pairs.proofs.confirm_pair.Goals as goal

pub returns : goal.returns
returns c = confirmed _ _ c.confirm_sent-o.ensures c.counted.ensures c.add.ensures

use Rattle.btsnoop_put.specs.Put.{put_head}
use Rattle.btsnoop_put.proofs.put_header.Goals as goal

pub returns : goal.returns
returns c = put_head c.args.out.now _ _ _ c.args.datalink c.put_number.ensures c.put_number-2.ensures c.put_number-3.ensures

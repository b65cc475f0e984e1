use Rattle.to_columns.specs.Put.{lengths_put}
use Rattle.to_columns.proofs.put_pair.Goals as goal

pub returns : goal.returns
returns c = lengths_put c.args.offset c.args.size c.args.out.now _ _ c.args.at c.put_number.ensures c.put_number-2.ensures

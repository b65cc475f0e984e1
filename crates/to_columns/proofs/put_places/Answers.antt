use Rattle.to_columns.specs.Put.{places_put}
use Rattle.to_columns.proofs.put_places.Goals as goal

pub returns : goal.returns
returns c = places_put c.args.n c.args.b c.args.out.now _ _ _ _ _ c.put_pair.ensures c.put_pair-2.ensures c.put_pair-3.ensures c.put_pair-4.ensures c.put_pair-5.ensures

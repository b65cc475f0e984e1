-- The test that each rule of the code stands for. Assumes nothing.
use Rattle.std.specs.Prelude.{[]}
use Rattle.model.specs.Find.{Test, by_index, by_live, by_connected, by_open, fits}
use Rattle.model.specs.Calls.{is_free, accepts, has_peer, requests}
use Rattle.rule.specs.declared.Rule.{Rule}
use Rattle.rule.specs.declared.Rule.TheVariants as rule

abbrev pub test_of : Rule → Test
test_of (rule.Index n) = fits by_index n
test_of (rule.Live h) = fits by_live h
test_of (rule.Connected h) = fits by_connected h
test_of (rule.Open h) = fits by_open h
test_of rule.Free = is_free
test_of rule.Requesting = requests
test_of (rule.Peer a) = has_peer a
test_of (rule.Accepting r) = accepts r []

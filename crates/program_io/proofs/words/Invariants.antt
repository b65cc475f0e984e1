-- What the contract says, of the words so far.
use Rattle.std.proofs.Common.{◌≤◌, vec_len, All, IfOk}
use Rattle.program_io.proofs.words.Given as goal

abbrev pub invariant-loop-i : goal.invariant-loop-i
invariant-loop-i g l = All (λ word. IfOk word (λ text. vec_len text ≤ 4096)) l.words.items

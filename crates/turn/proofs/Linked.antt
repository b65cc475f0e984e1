-- Where a program has the functions of this crate, and what they call of other crates, it has the code of each public one. Made by
-- tools/routines, for crates/routines. Assumes nothing.
use mathlib.Core.Bool.{true}
use prog.Linked.{Tree, World, Holds, in_world}
use prog.LinkedThreads.{HasT}
use Rattle.turn.proofs.TheLink as link
use Rattle.turn.proofs.next_waiting.Symbol as next_waiting
use Rattle.turn.proofs.with_wait.Symbol as with_wait
use Rattle.turn.proofs.without_wait.Symbol as without_wait

abbrev pub functions : Tree
functions = link.table

abbrev pub Below : World → Type 0
Below W = link.Below W

pub linked-next_waiting : (W : World) → Holds W "turn" functions → Below W → HasT (in_world W) true next_waiting.code
linked-next_waiting W h b = link.linked-turn::next_waiting W h b

pub linked-with_wait : (W : World) → Holds W "turn" functions → Below W → HasT (in_world W) true with_wait.code
linked-with_wait W h b = link.linked-turn::with_wait W h b

pub linked-without_wait : (W : World) → Holds W "turn" functions → Below W → HasT (in_world W) true without_wait.code
linked-without_wait W h b = link.linked-turn::without_wait W h b

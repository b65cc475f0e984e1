-- Where a program has the functions of this crate, and what they call of other crates, it has the code of each public one. Made by
-- tools/routines, for crates/routines. Assumes nothing.
use mathlib.Core.Bool.{true}
use prog.Linked.{Tree, World, Holds, in_world}
use prog.LinkedThreads.{HasT}
use Rattle.completed_packets.proofs.TheLink as link
use Rattle.completed_packets.proofs.pair_in.Symbol as pair_in
use Rattle.completed_packets.proofs.read.Symbol as read
use Rattle.completed_packets.proofs.pair_at.Symbol as pair_at

abbrev pub functions : Tree
functions = link.table

abbrev pub Below : World → Type 0
Below W = link.Below W

pub linked-pair_in : (W : World) → Holds W "completed_packets" functions → Below W → HasT (in_world W) true pair_in.code
linked-pair_in W h b = link.linked-completed_packets::pair_in W h b

pub linked-read : (W : World) → Holds W "completed_packets" functions → Below W → HasT (in_world W) true read.code
linked-read W h b = link.linked-completed_packets::read W h b

pub linked-pair_at : (W : World) → Holds W "completed_packets" functions → Below W → HasT (in_world W) true pair_at.code
linked-pair_at W h b = link.linked-completed_packets::pair_at W h b

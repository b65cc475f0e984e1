-- Where a program has the functions of this crate, and what they call of other crates, it has the code of each public one. Made by
-- tools/routines, for crates/routines. Assumes nothing.
use mathlib.Core.Bool.{true}
use prog.Linked.{Tree, World, Holds, in_world}
use prog.LinkedThreads.{HasT}
use Rattle.host_pairs.proofs.TheLink as link
use Rattle.host_pairs.proofs.received_pairs.Symbol as received_pairs

abbrev pub functions : Tree
functions = link.table

abbrev pub Below : World → Type 0
Below W = link.Below W

pub linked-received_pairs : (W : World) → Holds W "host_pairs" functions → Below W → HasT (in_world W) true received_pairs.code
linked-received_pairs W h b = link.linked-host_pairs::received_pairs W h b

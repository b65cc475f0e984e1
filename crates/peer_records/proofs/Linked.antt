-- Where a program has the functions of this crate, and what they call of other crates, it has the code of each public one. Made by
-- tools/routines, for crates/routines. Assumes nothing.
use mathlib.Core.Bool.{true}
use prog.Linked.{Tree, World, Holds, in_world}
use prog.LinkedThreads.{HasT}
use Rattle.peer_records.proofs.TheLink as link
use Rattle.peer_records.proofs.is_file.Symbol as is_file
use Rattle.peer_records.proofs.records_fit.Symbol as records_fit
use Rattle.peer_records.proofs.in_force.Symbol as in_force

abbrev pub functions : Tree
functions = link.table

abbrev pub Below : World → Type 0
Below W = link.Below W

pub linked-is_file : (W : World) → Holds W "peer_records" functions → Below W → HasT (in_world W) true is_file.code
linked-is_file W h b = link.linked-peer_records::is_file W h b

pub linked-records_fit : (W : World) → Holds W "peer_records" functions → Below W → HasT (in_world W) true records_fit.code
linked-records_fit W h b = link.linked-peer_records::records_fit W h b

pub linked-in_force : (W : World) → Holds W "peer_records" functions → Below W → HasT (in_world W) true in_force.code
linked-in_force W h b = link.linked-peer_records::in_force W h b

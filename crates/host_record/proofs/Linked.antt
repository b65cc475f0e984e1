-- Where a program has the functions of this crate, and what they call of other crates, it has the code of each public one. Made by
-- tools/routines, for crates/routines. Assumes nothing.
use mathlib.Core.Bool.{true}
use prog.Linked.{Tree, World, Holds, in_world}
use prog.LinkedThreads.{HasT}
use Rattle.host_record.proofs.TheLink as link
use Rattle.host_record.proofs.received_record.Symbol as received_record

abbrev pub functions : Tree
functions = link.table

abbrev pub Below : World → Type 0
Below W = link.Below W

pub linked-received_record : (W : World) → Holds W "host_record" functions → Below W → HasT (in_world W) true received_record.code
linked-received_record W h b = link.linked-host_record::received_record W h b

-- Where a program has the functions of this crate, and what they call of other crates, it has the code of each public one. Made by
-- tools/routines, for crates/routines. Assumes nothing.
use mathlib.Core.Bool.{true}
use prog.Linked.{Tree, World, Holds, in_world}
use prog.LinkedThreads.{HasT}
use Rattle.btsnoop_read.proofs.TheLink as link
use Rattle.btsnoop_read.proofs.is_header.Symbol as is_header
use Rattle.btsnoop_read.proofs.is_whole.Symbol as is_whole
use Rattle.btsnoop_read.proofs.head_at.Symbol as head_at
use Rattle.btsnoop_read.proofs.record_at.Symbol as record_at

abbrev pub functions : Tree
functions = link.table

abbrev pub Below : World → Type 0
Below W = link.Below W

pub linked-is_header : (W : World) → Holds W "btsnoop_read" functions → Below W → HasT (in_world W) true is_header.code
linked-is_header W h b = link.linked-btsnoop_read::is_header W h b

pub linked-is_whole : (W : World) → Holds W "btsnoop_read" functions → Below W → HasT (in_world W) true is_whole.code
linked-is_whole W h b = link.linked-btsnoop_read::is_whole W h b

pub linked-head_at : (W : World) → Holds W "btsnoop_read" functions → Below W → HasT (in_world W) true head_at.code
linked-head_at W h b = link.linked-btsnoop_read::head_at W h b

pub linked-record_at : (W : World) → Holds W "btsnoop_read" functions → Below W → HasT (in_world W) true record_at.code
linked-record_at W h b = link.linked-btsnoop_read::record_at W h b

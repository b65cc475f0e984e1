-- Where a program has the functions of this crate, and what they call of other crates, it has the code of each public one. Made by
-- tools/routines, for crates/routines. Assumes nothing.
use mathlib.Core.Bool.{true}
use prog.Linked.{Tree, World, Holds, in_world}
use prog.LinkedThreads.{HasT}
use Rattle.btsnoop_put.proofs.TheLink as link
use Rattle.btsnoop_put.proofs.put_header.Symbol as put_header
use Rattle.btsnoop_put.proofs.put_record.Symbol as put_record

abbrev pub functions : Tree
functions = link.table

abbrev pub Below : World → Type 0
Below W = link.Below W

pub linked-put_header : (W : World) → Holds W "btsnoop_put" functions → Below W → HasT (in_world W) true put_header.code
linked-put_header W h b = link.linked-btsnoop_put::put_header W h b

pub linked-put_record : (W : World) → Holds W "btsnoop_put" functions → Below W → HasT (in_world W) true put_record.code
linked-put_record W h b = link.linked-btsnoop_put::put_record W h b

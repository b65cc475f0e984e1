-- Where a program has the functions of this crate, and what they call of other crates, it has the code of each public one. Made by
-- tools/routines, for crates/routines. Assumes nothing.
use mathlib.Core.Bool.{true}
use prog.Linked.{Tree, World, Holds, in_world}
use prog.LinkedThreads.{HasT}
use Rattle.big_endian_write.proofs.TheLink as link
use Rattle.big_endian_write.proofs.put_number.Symbol as put_number
use Rattle.big_endian_write.proofs.put_bytes.Symbol as put_bytes

abbrev pub functions : Tree
functions = link.table

abbrev pub Below : World → Type 0
Below W = link.Below W

pub linked-put_number : (W : World) → Holds W "big_endian_write" functions → Below W → HasT (in_world W) true put_number.code
linked-put_number W h b = link.linked-big_endian_write::put_number W h b

pub linked-put_bytes : (W : World) → Holds W "big_endian_write" functions → Below W → HasT (in_world W) true put_bytes.code
linked-put_bytes W h b = link.linked-big_endian_write::put_bytes W h b

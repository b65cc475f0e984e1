-- Where a program has the functions of this crate, and what they call of other crates, it has the code of each public one. Made by
-- tools/routines, for crates/routines. Assumes nothing.
use mathlib.Core.Bool.{true}
use prog.Linked.{Tree, World, Holds, in_world}
use prog.LinkedThreads.{HasT}
use Rattle.text.proofs.TheLink as link
use Rattle.text.proofs.put.Symbol as put
use Rattle.text.proofs.put_all.Symbol as put_all
use Rattle.text.proofs.put_hex.Symbol as put_hex

abbrev pub functions : Tree
functions = link.table

abbrev pub Below : World → Type 0
Below W = link.Below W

pub linked-put : (W : World) → Holds W "text" functions → Below W → HasT (in_world W) true put.code
linked-put W h b = link.linked-text::put W h b

pub linked-put_all : (W : World) → Holds W "text" functions → Below W → HasT (in_world W) true put_all.code
linked-put_all W h b = link.linked-text::put_all W h b

pub linked-put_hex : (W : World) → Holds W "text" functions → Below W → HasT (in_world W) true put_hex.code
linked-put_hex W h b = link.linked-text::put_hex W h b

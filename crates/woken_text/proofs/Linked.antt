-- Where a program has the functions of this crate, and what they call of other crates, it has the code of each public one. Made by
-- tools/routines, for crates/routines. Assumes nothing.
use mathlib.Core.Bool.{true}
use prog.Linked.{Tree, World, Holds, in_world}
use prog.LinkedThreads.{HasT}
use Rattle.woken_text.proofs.TheLink as link
use Rattle.woken_text.proofs.put_woken.Symbol as put_woken

abbrev pub functions : Tree
functions = link.table

abbrev pub Below : World → Type 0
Below W = link.Below W

pub linked-put_woken : (W : World) → Holds W "woken_text" functions → Below W → HasT (in_world W) true put_woken.code
linked-put_woken W h b = link.linked-woken_text::put_woken W h b

-- Where a program has the functions of this crate, and what they call of other crates, it has the code of each public one. Made by
-- tools/routines, for crates/routines. Assumes nothing.
use mathlib.Core.Bool.{true}
use prog.Linked.{Tree, World, Holds, in_world}
use prog.LinkedThreads.{HasT}
use Rattle.text_read.proofs.TheLink as link
use Rattle.text_read.proofs.number_at.Symbol as number_at
use Rattle.text_read.proofs.bytes_at.Symbol as bytes_at

abbrev pub functions : Tree
functions = link.table

abbrev pub Below : World → Type 0
Below W = link.Below W

pub linked-number_at : (W : World) → Holds W "text_read" functions → Below W → HasT (in_world W) true number_at.code
linked-number_at W h b = link.linked-text_read::number_at W h b

pub linked-bytes_at : (W : World) → Holds W "text_read" functions → Below W → HasT (in_world W) true bytes_at.code
linked-bytes_at W h b = link.linked-text_read::bytes_at W h b

-- Where a program has the functions of this crate, and what they call of other crates, it has the code of each public one. Made by
-- tools/routines, for crates/routines. Assumes nothing.
use mathlib.Core.Bool.{true}
use prog.Linked.{Tree, World, Holds, in_world}
use prog.LinkedThreads.{HasT}
use Rattle.refusal.proofs.TheLink as link
use Rattle.refusal.proofs.U8FromRefusal.from.Symbol as U8FromRefusal-from
use Rattle.refusal.proofs.RefusalPartialEq.eq.Symbol as RefusalPartialEq-eq

abbrev pub functions : Tree
functions = link.table

abbrev pub Below : World → Type 0
Below W = link.Below W

pub linked-U8FromRefusal-from : (W : World) → Holds W "refusal" functions → Below W → HasT (in_world W) true U8FromRefusal-from.code
linked-U8FromRefusal-from W h b = link.linked-refusal::U8FromRefusal::from W h b

pub linked-RefusalPartialEq-eq : (W : World) → Holds W "refusal" functions → Below W → HasT (in_world W) true RefusalPartialEq-eq.code
linked-RefusalPartialEq-eq W h b = link.linked-refusal::RefusalPartialEq::eq W h b

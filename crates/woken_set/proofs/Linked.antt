-- Where a program has the functions of this crate, and what they call of other crates, it has the code of each public one. Made by
-- tools/routines, for crates/routines. Assumes nothing.
use mathlib.Core.Bool.{true}
use prog.Linked.{Tree, World, Holds, in_world}
use prog.LinkedThreads.{HasT}
use Rattle.woken_set.proofs.TheLink as link
use Rattle.woken_set.proofs.WokenSet.new.Symbol as WokenSet-new
use Rattle.woken_set.proofs.WokenSet.add.Symbol as WokenSet-add
use Rattle.woken_set.proofs.WokenSet.join.Symbol as WokenSet-join

abbrev pub functions : Tree
functions = link.table

abbrev pub Below : World → Type 0
Below W = link.Below W

pub linked-WokenSet-new : (W : World) → Holds W "woken_set" functions → Below W → HasT (in_world W) true WokenSet-new.code
linked-WokenSet-new W h b = link.linked-woken_set::WokenSet::new W h b

pub linked-WokenSet-add : (W : World) → Holds W "woken_set" functions → Below W → HasT (in_world W) true WokenSet-add.code
linked-WokenSet-add W h b = link.linked-woken_set::WokenSet::add W h b

pub linked-WokenSet-join : (W : World) → Holds W "woken_set" functions → Below W → HasT (in_world W) true WokenSet-join.code
linked-WokenSet-join W h b = link.linked-woken_set::WokenSet::join W h b

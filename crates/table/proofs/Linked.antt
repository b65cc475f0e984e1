-- Where a program has the functions of this crate, and what they call of other crates, it has the code of each public one. Made by
-- tools/routines, for crates/routines. Assumes nothing.
use mathlib.Core.Bool.{true}
use prog.Linked.{Tree, World, Holds, in_world}
use prog.LinkedThreads.{HasT}
use Rattle.table.proofs.TheLink as link
use Rattle.table.proofs.Look.waking_nobody.Symbol as Look-waking_nobody
use Rattle.table.proofs.put_shared.Symbol as put_shared
use Rattle.table.proofs.new.Symbol as new
use Rattle.table.proofs.OutcomeClone.clone.Symbol as OutcomeClone-clone
use Rattle.table.proofs.LookClone.clone.Symbol as LookClone-clone

abbrev pub functions : Tree
functions = link.table

abbrev pub Below : World → Type 0
Below W = link.Below W

pub linked-Look-waking_nobody : (W : World) → Holds W "table" functions → Below W → HasT (in_world W) true Look-waking_nobody.code
linked-Look-waking_nobody W h b = link.linked-table::Look::waking_nobody W h b

pub linked-put_shared : (W : World) → Holds W "table" functions → Below W → HasT (in_world W) true put_shared.code
linked-put_shared W h b = link.linked-table::put_shared W h b

pub linked-new : (W : World) → Holds W "table" functions → Below W → HasT (in_world W) true new.code
linked-new W h b = link.linked-table::new W h b

pub linked-OutcomeClone-clone : (W : World) → Holds W "table" functions → Below W → HasT (in_world W) true OutcomeClone-clone.code
linked-OutcomeClone-clone W h b = link.linked-table::OutcomeClone::clone W h b

pub linked-LookClone-clone : (W : World) → Holds W "table" functions → Below W → HasT (in_world W) true LookClone-clone.code
linked-LookClone-clone W h b = link.linked-table::LookClone::clone W h b

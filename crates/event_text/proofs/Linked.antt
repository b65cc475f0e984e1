-- Where a program has the functions of this crate, and what they call of other crates, it has the code of each public one. Made by
-- tools/routines, for crates/routines. Assumes nothing.
use mathlib.Core.Bool.{true}
use prog.Linked.{Tree, World, Holds, in_world}
use prog.LinkedThreads.{HasT}
use Rattle.event_text.proofs.TheLink as link
use Rattle.event_text.proofs.put_event.Symbol as put_event
use Rattle.event_text.proofs.put_queue.Symbol as put_queue

abbrev pub functions : Tree
functions = link.table

abbrev pub Below : World → Type 0
Below W = link.Below W

pub linked-put_event : (W : World) → Holds W "event_text" functions → Below W → HasT (in_world W) true put_event.code
linked-put_event W h b = link.linked-event_text::put_event W h b

pub linked-put_queue : (W : World) → Holds W "event_text" functions → Below W → HasT (in_world W) true put_queue.code
linked-put_queue W h b = link.linked-event_text::put_queue W h b

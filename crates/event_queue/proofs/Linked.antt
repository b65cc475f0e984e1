-- Where a program has the functions of this crate, and what they call of other crates, it has the code of each public one. Made by
-- tools/routines, for crates/routines. Assumes nothing.
use mathlib.Core.Bool.{true}
use prog.Linked.{Tree, World, Holds, in_world}
use prog.LinkedThreads.{HasT}
use Rattle.event_queue.proofs.TheLink as link
use Rattle.event_queue.proofs.EventQueue.new.Symbol as EventQueue-new
use Rattle.event_queue.proofs.EventQueue.push.Symbol as EventQueue-push
use Rattle.event_queue.proofs.EventQueue.pop.Symbol as EventQueue-pop
use Rattle.event_queue.proofs.U8FromPhyKind.from.Symbol as U8FromPhyKind-from

abbrev pub functions : Tree
functions = link.table

abbrev pub Below : World → Type 0
Below W = link.Below W

pub linked-EventQueue-new : (W : World) → Holds W "event_queue" functions → Below W → HasT (in_world W) true EventQueue-new.code
linked-EventQueue-new W h b = link.linked-event_queue::EventQueue::new W h b

pub linked-EventQueue-push : (W : World) → Holds W "event_queue" functions → Below W → HasT (in_world W) true EventQueue-push.code
linked-EventQueue-push W h b = link.linked-event_queue::EventQueue::push W h b

pub linked-EventQueue-pop : (W : World) → Holds W "event_queue" functions → Below W → HasT (in_world W) true EventQueue-pop.code
linked-EventQueue-pop W h b = link.linked-event_queue::EventQueue::pop W h b

pub linked-U8FromPhyKind-from : (W : World) → Holds W "event_queue" functions → Below W → HasT (in_world W) true U8FromPhyKind-from.code
linked-U8FromPhyKind-from W h b = link.linked-event_queue::U8FromPhyKind::from W h b

-- Where a program has the functions of this crate, and what they call of other crates, it has the code of each public one. Made by
-- tools/routines, for crates/routines. Assumes nothing.
use mathlib.Core.Bool.{true}
use prog.Linked.{Tree, World, Holds, in_world}
use prog.LinkedThreads.{HasT}
use Rattle.accept_recorded.proofs.TheLink as link
use Rattle.accept_recorded.proofs.poll_accept_recorded.Symbol as poll_accept_recorded
use Rattle.accept_recorded.proofs.RecordedPeersPeerSet.contains.Symbol as RecordedPeersPeerSet-contains

abbrev pub functions : Tree
functions = link.table

abbrev pub Below : World → Type 0
Below W = link.Below W

pub linked-poll_accept_recorded : (W : World) → Holds W "accept_recorded" functions → Below W → HasT (in_world W) true poll_accept_recorded.code
linked-poll_accept_recorded W h b = link.linked-accept_recorded::poll_accept_recorded W h b

pub linked-RecordedPeersPeerSet-contains : (W : World) → Holds W "accept_recorded" functions → Below W → HasT (in_world W) true RecordedPeersPeerSet-contains.code
linked-RecordedPeersPeerSet-contains W h b = link.linked-accept_recorded::RecordedPeersPeerSet::contains W h b

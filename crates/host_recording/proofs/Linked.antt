-- Where a program has the functions of this crate, and what they call of other crates, it has the code of each public one. Made by
-- tools/routines, for crates/routines. Assumes nothing.
use mathlib.Core.Bool.{true}
use prog.Linked.{Tree, World, Holds, in_world}
use prog.LinkedThreads.{HasT}
use Rattle.host_recording.proofs.TheLink as link
use Rattle.host_recording.proofs.replay_recording.Symbol as replay_recording

abbrev pub functions : Tree
functions = link.table

abbrev pub Below : World → Type 0
Below W = link.Below W

pub linked-replay_recording : (W : World) → Holds W "host_recording" functions → Below W → HasT (in_world W) true replay_recording.code
linked-replay_recording W h b = link.linked-host_recording::replay_recording W h b

-- Where a program has the functions of this crate, and what they call of other crates, it has the code of each public one. Made by
-- tools/routines, for crates/routines. Assumes nothing.
use mathlib.Core.Bool.{true}
use prog.Linked.{Tree, World, Holds, in_world}
use prog.LinkedThreads.{HasT}
use Rattle.accept_sixteen.proofs.TheLink as link
use Rattle.accept_sixteen.proofs.poll_accept_sixteen.Symbol as poll_accept_sixteen

abbrev pub functions : Tree
functions = link.table

abbrev pub Below : World → Type 0
Below W = link.Below W

pub linked-poll_accept_sixteen : (W : World) → Holds W "accept_sixteen" functions → Below W → HasT (in_world W) true poll_accept_sixteen.code
linked-poll_accept_sixteen W h b = link.linked-accept_sixteen::poll_accept_sixteen W h b

-- Where a program has the functions of this crate, and what they call of other crates, it has the code of each public one. Made by
-- tools/routines, for crates/routines. Assumes nothing.
use mathlib.Core.Bool.{true}
use prog.Linked.{Tree, World, Holds, in_world}
use prog.LinkedThreads.{HasT}
use Rattle.packet_grant.proofs.TheLink as link
use Rattle.packet_grant.proofs.confirm.Symbol as confirm
use Rattle.packet_grant.proofs.confirmed.Symbol as confirmed

abbrev pub functions : Tree
functions = link.table

abbrev pub Below : World → Type 0
Below W = link.Below W

pub linked-confirm : (W : World) → Holds W "packet_grant" functions → Below W → HasT (in_world W) true confirm.code
linked-confirm W h b = link.linked-packet_grant::confirm W h b

pub linked-confirmed : (W : World) → Holds W "packet_grant" functions → Below W → HasT (in_world W) true confirmed.code
linked-confirmed W h b = link.linked-packet_grant::confirmed W h b

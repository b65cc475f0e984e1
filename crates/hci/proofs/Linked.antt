-- Where a program has the functions of this crate, and what they call of other crates, it has the code of each public one. Made by
-- tools/routines, for crates/routines. Assumes nothing.
use mathlib.Core.Bool.{true}
use prog.Linked.{Tree, World, Holds, in_world}
use prog.LinkedThreads.{HasT}
use Rattle.hci.proofs.TheLink as link
use Rattle.hci.proofs.HciEvent.of_form.Symbol as HciEvent-of_form

abbrev pub functions : Tree
functions = link.table

abbrev pub Below : World → Type 0
Below W = link.Below W

pub linked-HciEvent-of_form : (W : World) → Holds W "hci" functions → Below W → HasT (in_world W) true HciEvent-of_form.code
linked-HciEvent-of_form W h b = link.linked-hci::HciEvent::of_form W h b

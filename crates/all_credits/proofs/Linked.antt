-- Where a program has the functions of this crate, and what they call of other crates, it has the code of each public one. Made by
-- tools/routines, for crates/routines. Assumes nothing.
use mathlib.Core.Bool.{true}
use prog.Linked.{Tree, World, Holds, in_world}
use prog.LinkedThreads.{HasT}
use Rattle.all_credits.proofs.TheLink as link
use Rattle.all_credits.proofs.set_link_credits_in.Symbol as set_link_credits_in
use Rattle.all_credits.proofs.set_link_credits.Symbol as set_link_credits

abbrev pub functions : Tree
functions = link.table

abbrev pub Below : World → Type 0
Below W = link.Below W

pub linked-set_link_credits_in : (W : World) → Holds W "all_credits" functions → Below W → HasT (in_world W) true set_link_credits_in.code
linked-set_link_credits_in W h b = link.linked-all_credits::set_link_credits_in W h b

pub linked-set_link_credits : (W : World) → Holds W "all_credits" functions → Below W → HasT (in_world W) true set_link_credits.code
linked-set_link_credits W h b = link.linked-all_credits::set_link_credits W h b

-- Where a program has the functions of this crate, and what they call of other crates, it has the code of each public one. Made by
-- tools/routines, for crates/routines. Assumes nothing.
use mathlib.Core.Bool.{true}
use prog.Linked.{Tree, World, Holds, in_world}
use prog.LinkedThreads.{HasT}
use Rattle.rule.proofs.TheLink as link
use Rattle.rule.proofs.same_address.Symbol as same_address
use Rattle.rule.proofs.fits.Symbol as fits

abbrev pub functions : Tree
functions = link.table

abbrev pub Below : World → Type 0
Below W = link.Below W

pub linked-same_address : (W : World) → Holds W "rule" functions → Below W → HasT (in_world W) true same_address.code
linked-same_address W h b = link.linked-rule::same_address W h b

pub linked-fits : (W : World) → Holds W "rule" functions → Below W → HasT (in_world W) true fits.code
linked-fits W h b = link.linked-rule::fits W h b

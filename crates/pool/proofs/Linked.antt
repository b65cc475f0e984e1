-- Where a program has the functions of this crate, and what they call of other crates, it has the code of each public one. Made by
-- tools/routines, for crates/routines. Assumes nothing.
use mathlib.Core.Bool.{true}
use prog.Linked.{Tree, World, Holds, in_world}
use prog.LinkedThreads.{HasT}
use Rattle.pool.proofs.TheLink as link
use Rattle.pool.proofs.may_draw.Symbol as may_draw
use Rattle.pool.proofs.shared.Symbol as shared
use Rattle.pool.proofs.fits_slots.Symbol as fits_slots

abbrev pub functions : Tree
functions = link.table

abbrev pub Below : World → Type 0
Below W = link.Below W

pub linked-may_draw : (W : World) → Holds W "pool" functions → Below W → HasT (in_world W) true may_draw.code
linked-may_draw W h b = link.linked-pool::may_draw W h b

pub linked-shared : (W : World) → Holds W "pool" functions → Below W → HasT (in_world W) true shared.code
linked-shared W h b = link.linked-pool::shared W h b

pub linked-fits_slots : (W : World) → Holds W "pool" functions → Below W → HasT (in_world W) true fits_slots.code
linked-fits_slots W h b = link.linked-pool::fits_slots W h b

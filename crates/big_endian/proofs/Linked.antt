-- Where a program has the functions of this crate, and what they call of other crates, it has the code of each public one. Made by
-- tools/routines, for crates/routines. Assumes nothing.
use mathlib.Core.Bool.{true}
use prog.Linked.{Tree, World, Holds, in_world}
use prog.LinkedThreads.{HasT}
use Rattle.big_endian.proofs.TheLink as link
use Rattle.big_endian.proofs.u64_at.Symbol as u64_at
use Rattle.big_endian.proofs.u32_at.Symbol as u32_at

abbrev pub functions : Tree
functions = link.table

abbrev pub Below : World → Type 0
Below W = link.Below W

pub linked-u64_at : (W : World) → Holds W "big_endian" functions → Below W → HasT (in_world W) true u64_at.code
linked-u64_at W h b = link.linked-big_endian::u64_at W h b

pub linked-u32_at : (W : World) → Holds W "big_endian" functions → Below W → HasT (in_world W) true u32_at.code
linked-u32_at W h b = link.linked-big_endian::u32_at W h b

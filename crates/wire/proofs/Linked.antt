-- Where a program has the functions of this crate, and what they call of other crates, it has the code of each public one. Made by
-- tools/routines, for crates/routines. Assumes nothing.
use mathlib.Core.Bool.{true}
use prog.Linked.{Tree, World, Holds, in_world}
use prog.LinkedThreads.{HasT}
use Rattle.wire.proofs.TheLink as link
use Rattle.wire.proofs.byte_at.Symbol as byte_at
use Rattle.wire.proofs.u16_at.Symbol as u16_at
use Rattle.wire.proofs.low_byte.Symbol as low_byte
use Rattle.wire.proofs.high_byte.Symbol as high_byte
use Rattle.wire.proofs.put.Symbol as put

abbrev pub functions : Tree
functions = link.table

abbrev pub Below : World → Type 0
Below W = link.Below W

pub linked-byte_at : (W : World) → Holds W "wire" functions → Below W → HasT (in_world W) true byte_at.code
linked-byte_at W h b = link.linked-wire::byte_at W h b

pub linked-u16_at : (W : World) → Holds W "wire" functions → Below W → HasT (in_world W) true u16_at.code
linked-u16_at W h b = link.linked-wire::u16_at W h b

pub linked-low_byte : (W : World) → Holds W "wire" functions → Below W → HasT (in_world W) true low_byte.code
linked-low_byte W h b = link.linked-wire::low_byte W h b

pub linked-high_byte : (W : World) → Holds W "wire" functions → Below W → HasT (in_world W) true high_byte.code
linked-high_byte W h b = link.linked-wire::high_byte W h b

pub linked-put : (W : World) → Holds W "wire" functions → Below W → HasT (in_world W) true put.code
linked-put W h b = link.linked-wire::put W h b

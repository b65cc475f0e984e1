-- Where a program has the functions of this crate, and what they call of other crates, it has the code of each public one. Made by
-- tools/routines, for crates/routines. Assumes nothing.
use mathlib.Core.Bool.{true}
use prog.Linked.{Tree, World, Holds, in_world}
use prog.LinkedThreads.{HasT}
use Rattle.number_text.proofs.TheLink as link
use Rattle.number_text.proofs.put_number.Symbol as put_number
use Rattle.number_text.proofs.put_behind.Symbol as put_behind
use Rattle.number_text.proofs.put_numbers.Symbol as put_numbers
use Rattle.number_text.proofs.bit.Symbol as bit
use Rattle.number_text.proofs.put_flag.Symbol as put_flag

abbrev pub functions : Tree
functions = link.table

abbrev pub Below : World → Type 0
Below W = link.Below W

pub linked-put_number : (W : World) → Holds W "number_text" functions → Below W → HasT (in_world W) true put_number.code
linked-put_number W h b = link.linked-number_text::put_number W h b

pub linked-put_behind : (W : World) → Holds W "number_text" functions → Below W → HasT (in_world W) true put_behind.code
linked-put_behind W h b = link.linked-number_text::put_behind W h b

pub linked-put_numbers : (W : World) → Holds W "number_text" functions → Below W → HasT (in_world W) true put_numbers.code
linked-put_numbers W h b = link.linked-number_text::put_numbers W h b

pub linked-bit : (W : World) → Holds W "number_text" functions → Below W → HasT (in_world W) true bit.code
linked-bit W h b = link.linked-number_text::bit W h b

pub linked-put_flag : (W : World) → Holds W "number_text" functions → Below W → HasT (in_world W) true put_flag.code
linked-put_flag W h b = link.linked-number_text::put_flag W h b

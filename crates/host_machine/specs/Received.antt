-- Demand 1 of received bytes: whatever bytes are in the memory, the machine's run of `host::received` or `host_att::received_att` on a
-- slice of them ends, and as the contract says, in any program that has their code. These are its words; what is shown of them is in
-- proofs/. Assumes nothing.
use Rattle.std.specs.Prelude.{ℕ, List, [], length}
use mir.Syntax.{w8}
use mir.Val.{Val}
use prog.Memory.{Memory}
use prog.Model.{AllFit}
use prog.AdequacyRun.{start_mem}
use denote.Builtin.{u8}
use denote.Slice.{Room, slice_val}
use denote.Struct.Declared.{Declared}
use denote.Struct.Laws as struct
use denote.Struct.Laws.{Laws}
use Rattle.received.specs.declared.Received.{Received}
use Rattle.received.specs.contracts.Received as given
use Rattle.received.proofs.Received.TheLaws as of_given
use Rattle.host_event.specs.declared.EventGives.{EventGives}
use Rattle.host_event.specs.contracts.EventGives as event
use Rattle.host_event.proofs.EventGives.TheLaws as of_event
use Rattle.host_att.specs.declared.AttGives.{AttGives}
use Rattle.host_att.specs.contracts.AttGives as att
use Rattle.host_att.proofs.AttGives.TheLaws as of_att

-- each below 256, and fewer than 2 ^ 63 of them
abbrev pub Bytes : List ℕ → Type 0
Bytes xs = AllFit w8 xs × Room u8 (length xs)

-- the memory that has these bytes, and the slice of all of them
abbrev pub memory_of : List ℕ → Memory
memory_of xs = start_mem xs []

abbrev pub slice_of : List ℕ → Val
slice_of xs = slice_val (0, 0) (length xs)

-- what a received message gives, beside whom it wakes and the table
abbrev pub event_type : Declared
event_type = given.the_type event.the_row

abbrev pub event_laws : Laws event_type
event_laws = of_given.the_laws event.the_row of_event.the_row_laws of_event.the_told

abbrev pub event_value : Received EventGives → Val
event_value = struct.val event_type event_laws

abbrev pub att_type : Declared
att_type = given.the_type att.the_row

abbrev pub att_laws : Laws att_type
att_laws = of_given.the_laws att.the_row of_att.the_row_laws of_att.the_told

abbrev pub att_value : Received AttGives → Val
att_value = struct.val att_type att_laws

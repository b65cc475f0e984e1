-- Where a program has the functions of this crate, and what they call of other crates, it has the code of each public one. Made by
-- tools/routines, for crates/routines. Assumes nothing.
use mathlib.Core.Bool.{true}
use prog.Linked.{Tree, World, Holds, in_world}
use prog.LinkedThreads.{HasT}
use Rattle.state.proofs.TheLink as link
use Rattle.state.proofs.ConnectionState.is_live.Symbol as ConnectionState-is_live
use Rattle.state.proofs.ConnectionState.is_connected.Symbol as ConnectionState-is_connected
use Rattle.state.proofs.ConnectionState.is_open.Symbol as ConnectionState-is_open
use Rattle.state.proofs.ConnectionState.is_requesting.Symbol as ConnectionState-is_requesting
use Rattle.state.proofs.ConnectionState.is_connecting.Symbol as ConnectionState-is_connecting
use Rattle.state.proofs.U8FromDisconnectReason.from.Symbol as U8FromDisconnectReason-from

abbrev pub functions : Tree
functions = link.table

abbrev pub Below : World → Type 0
Below W = link.Below W

pub linked-ConnectionState-is_live : (W : World) → Holds W "state" functions → Below W → HasT (in_world W) true ConnectionState-is_live.code
linked-ConnectionState-is_live W h b = link.linked-state::ConnectionState::is_live W h b

pub linked-ConnectionState-is_connected : (W : World) → Holds W "state" functions → Below W → HasT (in_world W) true ConnectionState-is_connected.code
linked-ConnectionState-is_connected W h b = link.linked-state::ConnectionState::is_connected W h b

pub linked-ConnectionState-is_open : (W : World) → Holds W "state" functions → Below W → HasT (in_world W) true ConnectionState-is_open.code
linked-ConnectionState-is_open W h b = link.linked-state::ConnectionState::is_open W h b

pub linked-ConnectionState-is_requesting : (W : World) → Holds W "state" functions → Below W → HasT (in_world W) true ConnectionState-is_requesting.code
linked-ConnectionState-is_requesting W h b = link.linked-state::ConnectionState::is_requesting W h b

pub linked-ConnectionState-is_connecting : (W : World) → Holds W "state" functions → Below W → HasT (in_world W) true ConnectionState-is_connecting.code
linked-ConnectionState-is_connecting W h b = link.linked-state::ConnectionState::is_connecting W h b

pub linked-U8FromDisconnectReason-from : (W : World) → Holds W "state" functions → Below W → HasT (in_world W) true U8FromDisconnectReason-from.code
linked-U8FromDisconnectReason-from W h b = link.linked-state::U8FromDisconnectReason::from W h b

-- Where a program has the functions of this crate, and what they call of other crates, it has the code of each public one. Made by
-- tools/routines, for crates/routines. Assumes nothing.
use mathlib.Core.Bool.{true}
use prog.Linked.{Tree, World, Holds, in_world}
use prog.LinkedThreads.{HasT}
use Rattle.pool_returns.proofs.TheLink as link
use Rattle.pool_returns.proofs.pool_confirm_sent.Symbol as pool_confirm_sent
use Rattle.pool_returns.proofs.pool_grant_end.Symbol as pool_grant_end
use Rattle.pool_returns.proofs.PoolConfirmSentCallSlotCall.rule.Symbol as PoolConfirmSentCallSlotCall-rule
use Rattle.pool_returns.proofs.PoolConfirmSentCallSlotCall.absent.Symbol as PoolConfirmSentCallSlotCall-absent
use Rattle.pool_returns.proofs.PoolConfirmSentCallSlotCall.at.Symbol as PoolConfirmSentCallSlotCall-at
use Rattle.pool_returns.proofs.PoolGrantEndCallSlotCall.rule.Symbol as PoolGrantEndCallSlotCall-rule
use Rattle.pool_returns.proofs.PoolGrantEndCallSlotCall.absent.Symbol as PoolGrantEndCallSlotCall-absent
use Rattle.pool_returns.proofs.PoolGrantEndCallSlotCall.at.Symbol as PoolGrantEndCallSlotCall-at

abbrev pub functions : Tree
functions = link.table

abbrev pub Below : World → Type 0
Below W = link.Below W

pub linked-pool_confirm_sent : (W : World) → Holds W "pool_returns" functions → Below W → HasT (in_world W) true pool_confirm_sent.code
linked-pool_confirm_sent W h b = link.linked-pool_returns::pool_confirm_sent W h b

pub linked-pool_grant_end : (W : World) → Holds W "pool_returns" functions → Below W → HasT (in_world W) true pool_grant_end.code
linked-pool_grant_end W h b = link.linked-pool_returns::pool_grant_end W h b

pub linked-PoolConfirmSentCallSlotCall-rule : (W : World) → Holds W "pool_returns" functions → Below W → HasT (in_world W) true PoolConfirmSentCallSlotCall-rule.code
linked-PoolConfirmSentCallSlotCall-rule W h b = link.linked-pool_returns::PoolConfirmSentCallSlotCall::rule W h b

pub linked-PoolConfirmSentCallSlotCall-absent : (W : World) → Holds W "pool_returns" functions → Below W → HasT (in_world W) true PoolConfirmSentCallSlotCall-absent.code
linked-PoolConfirmSentCallSlotCall-absent W h b = link.linked-pool_returns::PoolConfirmSentCallSlotCall::absent W h b

pub linked-PoolConfirmSentCallSlotCall-at : (W : World) → Holds W "pool_returns" functions → Below W → HasT (in_world W) true PoolConfirmSentCallSlotCall-at.code
linked-PoolConfirmSentCallSlotCall-at W h b = link.linked-pool_returns::PoolConfirmSentCallSlotCall::at W h b

pub linked-PoolGrantEndCallSlotCall-rule : (W : World) → Holds W "pool_returns" functions → Below W → HasT (in_world W) true PoolGrantEndCallSlotCall-rule.code
linked-PoolGrantEndCallSlotCall-rule W h b = link.linked-pool_returns::PoolGrantEndCallSlotCall::rule W h b

pub linked-PoolGrantEndCallSlotCall-absent : (W : World) → Holds W "pool_returns" functions → Below W → HasT (in_world W) true PoolGrantEndCallSlotCall-absent.code
linked-PoolGrantEndCallSlotCall-absent W h b = link.linked-pool_returns::PoolGrantEndCallSlotCall::absent W h b

pub linked-PoolGrantEndCallSlotCall-at : (W : World) → Holds W "pool_returns" functions → Below W → HasT (in_world W) true PoolGrantEndCallSlotCall-at.code
linked-PoolGrantEndCallSlotCall-at W h b = link.linked-pool_returns::PoolGrantEndCallSlotCall::at W h b

-- Where a program has the functions of this crate, and what they call of other crates, it has the code of each public one. Made by
-- tools/routines, for crates/routines. Assumes nothing.
use mathlib.Core.Bool.{true}
use prog.Linked.{Tree, World, Holds, in_world}
use prog.LinkedThreads.{HasT}
use Rattle.calls.proofs.TheLink as link
use Rattle.calls.proofs.run_call_in.Symbol as run_call_in
use Rattle.calls.proofs.run_call.Symbol as run_call
use Rattle.calls.proofs.CallAnswerClone.clone.Symbol as CallAnswerClone-clone
use Rattle.calls.proofs.CallOutcomeClone.clone.Symbol as CallOutcomeClone-clone
use Rattle.calls.proofs.CallLookClone.clone.Symbol as CallLookClone-clone

abbrev pub functions : Tree
functions = link.table

abbrev pub Below : World → Type 0
Below W = link.Below W

pub linked-run_call_in : (W : World) → Holds W "calls" functions → Below W → HasT (in_world W) true run_call_in.code
linked-run_call_in W h b = link.linked-calls::run_call_in W h b

pub linked-run_call : (W : World) → Holds W "calls" functions → Below W → HasT (in_world W) true run_call.code
linked-run_call W h b = link.linked-calls::run_call W h b

pub linked-CallAnswerClone-clone : (W : World) → Holds W "calls" functions → Below W → HasT (in_world W) true CallAnswerClone-clone.code
linked-CallAnswerClone-clone W h b = link.linked-calls::CallAnswerClone::clone W h b

pub linked-CallOutcomeClone-clone : (W : World) → Holds W "calls" functions → Below W → HasT (in_world W) true CallOutcomeClone-clone.code
linked-CallOutcomeClone-clone W h b = link.linked-calls::CallOutcomeClone::clone W h b

pub linked-CallLookClone-clone : (W : World) → Holds W "calls" functions → Below W → HasT (in_world W) true CallLookClone-clone.code
linked-CallLookClone-clone W h b = link.linked-calls::CallLookClone::clone W h b

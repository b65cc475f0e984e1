-- Demand 3 of the code: of any outcomes that the contract of `calls::run_call` ensures of the calls that are made; and the tables
-- that they lead to are reached. What is shown of these words is in proofs/Outcomes.antt. Assumes nothing.
use Rattle.std.specs.Prelude.{ℕ, ◌≡◌, List, [], ◌∷◌, map}
use Rattle.slot.specs.declared.ConnectionManager.{ConnectionManager}
use Rattle.model.specs.Link.{Op, get_connected_handle, inc_ref, dec_ref, request_disconnect, request_handle_disconnect, withdraw_disconnect, confirm, disconnected, post_handle_event, next, poll_acquire_acl_send_lock, unlock_acl_send, poll_request_to_send, grant_end, confirm_sent, has_link_credits, exchange_att_mtu, get_att_mtu_handle, negotiate_att_mtu, get_stored_att_mtu, acquire_indication_slot, release_indication_slot, signal_indication_confirmation, wait_indication_confirmation, way_of}
use Rattle.model.specs.Calls.{run}
use Rattle.model.specs.Demand3.{own_number, Trace, Answer, answer_of}
use Rattle.calls.specs.declared.Call.{Call}
use Rattle.calls.specs.declared.Call.TheVariants as call
use Rattle.calls.specs.declared.CallOutcome.{CallOutcome}
use Rattle.calls.specs.Answer.{call_of, call_outcome}

-- the code's call for a call on a link that goes by the index or handle n
abbrev pub code_at : Op → ℕ → Call
code_at get_connected_handle n = call.GetConnectedHandle n
code_at inc_ref n = call.IncRef n
code_at dec_ref n = call.DecRef n
code_at (request_disconnect r) n = call.RequestDisconnect n r
code_at (request_handle_disconnect r) n = call.RequestHandleDisconnect n r
code_at withdraw_disconnect n = call.WithdrawDisconnect n
code_at (confirm h v r) n = call.Confirm (record { index = n; handle = h; reason = r; life = v })
code_at (disconnected v) n = call.Disconnected n v
code_at (post_handle_event e) n = call.PostHandleEvent n e
code_at next n = call.Next n
code_at poll_acquire_acl_send_lock n = call.PollAcquireAclSendLock n
code_at (unlock_acl_send h v) n = call.UnlockAclSend (record { handle = h; index = n; life = v })
code_at (poll_request_to_send i v k) n = call.PollRequestToSend (record { handle = n; index = i; life = v }) k
code_at (grant_end h v k) n = call.GrantEnd (record { handle = h; packets = k; index = n; life = v })
code_at (confirm_sent k) n = call.ConfirmSent n k
code_at (has_link_credits k) n = call.HasLinkCredits n k
code_at (exchange_att_mtu m) n = call.ExchangeAttMtu n m
code_at get_att_mtu_handle n = call.GetAttMtuHandle n
code_at (negotiate_att_mtu m) n = call.NegotiateAttMtu n m
code_at get_stored_att_mtu n = call.GetStoredAttMtu n
code_at acquire_indication_slot n = call.AcquireIndicationSlot n
code_at release_indication_slot n = call.ReleaseIndicationSlot n
code_at signal_indication_confirmation n = call.SignalIndicationConfirmation n
code_at wait_indication_confirmation n = call.WaitIndicationConfirmation n

-- the call that link i makes from the table at the start: by its own index or handle
abbrev pub code_of : ConnectionManager → ℕ × Op → Call
code_of start (i, op) = code_at op (own_number (way_of op) start i)

-- ---- what a call ensures

-- what `calls::run_call` ensures of a call on a table
abbrev pub Ran : ConnectionManager → Call → CallOutcome → Type 0
Ran t c r = call_outcome r ≡ run (call_of c) t

-- the outcomes of calls that are made from t: each call is given the table that the last one returned
abbrev pub Ensured : List Call → ConnectionManager → List CallOutcome → Type 0
Ensured [] t [] = Unit
Ensured [] t (r ∷ rs) = ⊥
Ensured (c ∷ cs) t [] = ⊥
Ensured (c ∷ cs) t (r ∷ rs) = Ran t c r × Ensured cs r.table rs

-- the table that the last one returned
abbrev pub code_table : List CallOutcome → ConnectionManager → ConnectionManager
code_table [] t = t
code_table (r ∷ rs) t = code_table rs r.table

-- ---- demand 3

-- each answer beside the link whose call it is of
abbrev pub code_answers : Trace → List CallOutcome → List (ℕ × Answer)
code_answers [] rs = []
code_answers (e ∷ es) [] = []
code_answers (e ∷ es) (r ∷ rs) = (e.0, answer_of (call_outcome r)) ∷ code_answers es rs

module _ (start : ConnectionManager) where
  abbrev pub code_calls : Trace → List Call
  code_calls es = map (code_of start) es

  abbrev pub EnsuredOf : Trace → List CallOutcome → Type 0
  EnsuredOf es rs = Ensured (code_calls es) start rs

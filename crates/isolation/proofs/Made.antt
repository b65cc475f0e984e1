-- The shuffle of `Shuffled.antt` (crates/model_theorems), made by the machine: all that `from_new` and `machine_demand3` ask for holds
-- of it. Assumes nothing.
use Rattle.std.specs.Prelude.{ℕ, ◌^◌, ◌<◌, ◌≡◌, refl, List, [], ◌∷◌, map}
use Rattle.std.proofs.Common.{ap, ◌∙◌, subst, arith}
use Rattle.std.proofs.Math.Logic.{∥∥₁_prop, ∥∥₁_elim, ∥∥₁_map}
use prog.Memory.{Memory}
use prog.Routine.{Env}
use denote.Laws.{Is}
use denote.Struct.Laws as struct
use denote.Enum.Laws as enum
use Rattle.state.specs.declared.DisconnectReason.TheVariants.{RemoteUserTerminatedConn}
use Rattle.state.specs.contracts as state
use Rattle.state.proofs as of_state
use Rattle.slot.specs.declared.LeConnRole.{LeConnRole}
use Rattle.slot.specs.declared.LeConnRole.TheVariants.{Central, Peripheral}
use Rattle.slot.specs.declared.BdAddr.{BdAddr}
use Rattle.slot.specs.declared.Address.{Address}
use Rattle.slot.specs.declared.ConnParams.{ConnParams}
use Rattle.slot.specs.declared.AclSendLock.{AclSendLock}
use Rattle.slot.specs.declared.PacketGrant.{PacketGrant}
use Rattle.slot.specs.declared.DisconnectRequest.{DisconnectRequest}
use Rattle.slot.specs.contracts as slot
use Rattle.slot.proofs as of_slot
use Rattle.connect.specs.declared.NewLink.{NewLink}
use Rattle.connect.specs.contracts as connect
use Rattle.connect.proofs as of_connect
use Rattle.calls.specs.declared.Call.{Call}
use Rattle.calls.specs.declared.Call.TheVariants as call
use Rattle.calls.specs.declared.CallOutcome.{CallOutcome}
use Rattle.calls.specs.contracts as calls
use Rattle.calls.proofs as of_calls
use Rattle.model.specs.Answer.{Outcome}
use Rattle.turn.specs.Turn.{waits, with_wait, lowest_waiting}
use Rattle.model.specs.Find.{locate, well_formed, slots_ok, held_by, lowest}
use Rattle.model.specs.History.{after}
use Rattle.model.specs.Demand3.{of_link, in_turn}
use Rattle.model_theorems.proofs.Shuffled.{five_links, start, shuffle, reached, own, lists, on, shuffles, downwards, order_downwards}
use Rattle.isolation.specs.Code.{code_calls, code_answers, code_table}
use Rattle.isolation.specs.Machine.{HasCode, CallHeld, CallsHeld, TableHeld, outcome_value, Held, Run}
use Rattle.isolation.proofs.Outcomes.{same_after}
use Rattle.isolation.proofs.Machine.{from_new, history_returns, machine_demand3}

-- ---- the code's calls that lead to the start, and that they are of their types

abbrev bytes : BdAddr
bytes = record { 0 = 1; 1 = 2; 2 = 3; 3 = 4; 4 = 5; 5 = 6 }

abbrev peer : Address
peer = record { kind = 0; addr = bytes }

abbrev params : ConnParams
params = record { conn_interval = 30000; peripheral_latency = 0; supervision_timeout = 2000000 }

abbrev link : LeConnRole → ℕ → NewLink
link role h = record { handle = h; peer = peer; role = role; params = params }

abbrev ticket : DisconnectRequest
ticket = record { index = 3; handle = 67; reason = RemoteUserTerminatedConn; life = 1 }

abbrev code_links : List Call
code_links =
    call.Connect (link Central 64)
    ∷ call.Connect (link Peripheral 65)
    ∷ call.Connect (link Peripheral 66)
    ∷ call.Connect (link Peripheral 67)
    ∷ call.Connect (link Peripheral 68)
    ∷ call.PollAccept Peripheral
    ∷ call.PollAccept Peripheral
    ∷ call.PollAccept Peripheral
    ∷ call.PollAccept Peripheral
    ∷ call.PollRequestFromPool 65 2
    ∷ call.PollRequestFromPool 68 2
    ∷ call.PollRequestFromPool 65 2
    ∷ call.PollRequestFromPool 68 2
    ∷ call.PollRequestFromPool 67 1
    ∷ call.RequestDisconnect 2 RemoteUserTerminatedConn
    ∷ call.RequestDisconnect 3 RemoteUserTerminatedConn
    ∷ call.Confirm ticket
    ∷ []

role_held : (r : LeConnRole) → Is slot.LeConnRole.the_row r (enum.val slot.LeConnRole.the_type of_slot.LeConnRole.TheLaws.the_laws r ∷ [])
role_held Central = enum.owes slot.LeConnRole.the_type of_slot.LeConnRole.TheLaws.the_laws Central tt
role_held Peripheral = enum.owes slot.LeConnRole.the_type of_slot.LeConnRole.TheLaws.the_laws Peripheral tt

reason_held : Is state.DisconnectReason.the_row RemoteUserTerminatedConn (enum.val state.DisconnectReason.the_type of_state.DisconnectReason.TheLaws.the_laws RemoteUserTerminatedConn ∷ [])
reason_held = enum.owes state.DisconnectReason.the_type of_state.DisconnectReason.TheLaws.the_laws RemoteUserTerminatedConn tt

peer_held : Is slot.Address.the_row peer (struct.val slot.Address.the_type of_slot.Address.TheLaws.the_laws peer ∷ [])
peer_held =
    struct.owes slot.Address.the_type of_slot.Address.TheLaws.the_laws peer (
      (refl, omega arith),
      (
        struct.owes slot.BdAddr.the_type of_slot.BdAddr.TheLaws.the_laws bytes
            ((refl, omega arith), ((refl, omega arith), ((refl, omega arith), ((refl, omega arith), ((refl, omega arith), ((refl, omega arith), tt)))))),
        tt,
      ),
    )

params_held : Is slot.ConnParams.the_row params (struct.val slot.ConnParams.the_type of_slot.ConnParams.TheLaws.the_laws params ∷ [])
params_held =
    struct.owes slot.ConnParams.the_type of_slot.ConnParams.TheLaws.the_laws params ((refl, omega arith), ((refl, omega arith), ((refl, omega arith), tt)))

connect_held : (r : LeConnRole) (h : ℕ) → h < 65536 → CallHeld (call.Connect (link r h))
connect_held r h b =
    enum.owes calls.Call.the_type of_calls.Call.TheLaws.the_laws (call.Connect (link r h))
    (struct.owes connect.NewLink.the_type of_connect.NewLink.TheLaws.the_laws (link r h) ((refl, b), (peer_held, (role_held r, (params_held, tt)))), tt)

accept_held : CallHeld (call.PollAccept Peripheral)
accept_held = enum.owes calls.Call.the_type of_calls.Call.TheLaws.the_laws (call.PollAccept Peripheral) (role_held Peripheral, tt)

ask_held : (h n : ℕ) → h < 65536 → n < 2 ^ 32 → CallHeld (call.PollRequestFromPool h n)
ask_held h n a b = enum.owes calls.Call.the_type of_calls.Call.TheLaws.the_laws (call.PollRequestFromPool h n) ((refl, a), ((refl, b), tt))

request_held : (i : ℕ) → i < 256 → CallHeld (call.RequestDisconnect i RemoteUserTerminatedConn)
request_held i b =
    enum.owes calls.Call.the_type of_calls.Call.TheLaws.the_laws (call.RequestDisconnect i RemoteUserTerminatedConn) ((refl, b), (reason_held, tt))

confirm_held : CallHeld (call.Confirm ticket)
confirm_held =
    enum.owes calls.Call.the_type of_calls.Call.TheLaws.the_laws (call.Confirm ticket) (
      struct.owes slot.DisconnectRequest.the_type of_slot.DisconnectRequest.TheLaws.the_laws ticket
          ((refl, omega arith), ((refl, omega arith), (reason_held, ((refl, omega arith), tt)))),
      tt,
    )

asks_held : CallsHeld
    (call.PollRequestFromPool 65 2
    ∷ call.PollRequestFromPool 68 2
    ∷ call.PollRequestFromPool 65 2
    ∷ call.PollRequestFromPool 68 2
    ∷ call.PollRequestFromPool 67 1
    ∷ call.RequestDisconnect 2 RemoteUserTerminatedConn
    ∷ call.RequestDisconnect 3 RemoteUserTerminatedConn
    ∷ call.Confirm ticket
    ∷ [])
asks_held = (
  ask_held 65 2 (omega arith) (omega arith),
  (
    ask_held 68 2 (omega arith) (omega arith),
    (
      ask_held 65 2 (omega arith) (omega arith),
      (
        ask_held 68 2 (omega arith) (omega arith),
        (ask_held 67 1 (omega arith) (omega arith), (request_held 2 (omega arith), (request_held 3 (omega arith), (confirm_held, tt)))),
      ),
    ),
  ),
)

links_held : CallsHeld code_links
links_held = (
  connect_held Central 64 (omega arith),
  (
    connect_held Peripheral 65 (omega arith),
    (
      connect_held Peripheral 66 (omega arith),
      (
        connect_held Peripheral 67 (omega arith),
        (connect_held Peripheral 68 (omega arith), (accept_held, (accept_held, (accept_held, (accept_held, asks_held))))),
      ),
    ),
  ),
)

-- ---- the start, and the shuffle's calls

pub start_held : (γ : Env) → HasCode γ → Memory → ∥ TableHeld start ∥₁
start_held γ code σ =
    ∥∥₁_map (from_new γ code 6 251 5 (omega arith) (omega arith) (omega arith) code_links links_held σ) (λ p.
    subst TableHeld
    (same_after code_links p.0.table p.2 p.6 ∙ ap (λ (o : Outcome). after five_links o.table) p.4) p.7)

lock_held : (h : ℕ) → h < 65536 → CallHeld (call.PollAcquireAclSendLock h)
lock_held h b = enum.owes calls.Call.the_type of_calls.Call.TheLaws.the_laws (call.PollAcquireAclSendLock h) ((refl, b), tt)

closed_held : (h reason : ℕ) → h < 65536 → reason < 256 → CallHeld (call.Disconnected h reason)
closed_held h reason a b = enum.owes calls.Call.the_type of_calls.Call.TheLaws.the_laws (call.Disconnected h reason) ((refl, a), ((refl, b), tt))

acquire_held : CallHeld (call.AcquireIndicationSlot 2)
acquire_held = enum.owes calls.Call.the_type of_calls.Call.TheLaws.the_laws (call.AcquireIndicationSlot 2) ((refl, omega arith), tt)

inc_held : CallHeld (call.IncRef 2)
inc_held = enum.owes calls.Call.the_type of_calls.Call.TheLaws.the_laws (call.IncRef 2) ((refl, omega arith), tt)

-- the ends: link 0 lets go of a lock of life 0, and link 1 of a grant, each with the other's handle
abbrev stale_lock : AclSendLock
stale_lock = record { handle = 65; index = 0; life = 0 }

unlock_held : CallHeld (call.UnlockAclSend stale_lock)
unlock_held =
    enum.owes calls.Call.the_type of_calls.Call.TheLaws.the_laws (call.UnlockAclSend stale_lock) (
      struct.owes slot.AclSendLock.the_type of_slot.AclSendLock.TheLaws.the_laws stale_lock
          ((refl, omega arith), ((refl, omega arith), ((refl, omega arith), tt))),
      tt,
    )

abbrev late_grant : PacketGrant
late_grant = record { handle = 64; packets = 5; index = 1; life = 1 }

end_held : CallHeld (call.GrantEnd late_grant)
end_held =
    enum.owes calls.Call.the_type of_calls.Call.TheLaws.the_laws (call.GrantEnd late_grant) (
      struct.owes slot.PacketGrant.the_type of_slot.PacketGrant.TheLaws.the_laws late_grant
          ((refl, omega arith), ((refl, omega arith), ((refl, omega arith), ((refl, omega arith), tt)))),
      tt,
    )

shuffle_held : Held start shuffle
unfolding locate well_formed slots_ok held_by lowest waits with_wait lowest_waiting
shuffle_held = (
  lock_held 64 (omega arith),
  (
    acquire_held,
    (
      closed_held 65 0x13 (omega arith) (omega arith),
      (closed_held 67 0x16 (omega arith) (omega arith), (lock_held 64 (omega arith), (lock_held 65 (omega arith), (unlock_held, (inc_held, (end_held, tt)))))),
    ),
  ),
)

turns_held : Held start (in_turn lists downwards)
unfolding locate well_formed slots_ok held_by lowest waits with_wait lowest_waiting
turns_held = (
  closed_held 67 0x16 (omega arith) (omega arith),
  (
    acquire_held,
    (inc_held, (closed_held 65 0x13 (omega arith) (omega arith), (lock_held 65 (omega arith), (end_held, (lock_held 64 (omega arith), (lock_held 64 (omega arith), (unlock_held, tt))))))),
  ),
)

-- ---- so the machine runs both, in any two memories, and ends with one table
pub shuffled : (γ : Env) → HasCode γ → (σ σ' : Memory)
    → ∥ ((m : Run start γ shuffle) × (n : Run start γ (in_turn lists downwards)) × (rs rs' : List CallOutcome)
    × (m.0 ≡ map outcome_value rs) × (n.0 ≡ map outcome_value rs')
    × ((i : ℕ) → of_link i (code_answers shuffle rs) ≡ of_link i (code_answers (in_turn lists downwards) rs'))
    × (code_table rs start ≡ code_table rs' start)) ∥₁
shuffled γ code σ σ' =
    ∥∥₁_elim (start_held γ code σ) ∥∥₁_prop (λ held.
    ∥∥₁_elim (history_returns γ code (code_calls start shuffle) start held shuffle_held σ) ∥∥₁_prop (λ p.
    ∥∥₁_elim (history_returns γ code (code_calls start (in_turn lists downwards)) start held turns_held σ') ∥∥₁_prop (λ q.
    let m : Run start γ shuffle = (map outcome_value p.0, σ, p.1) in
    let n : Run start γ (in_turn lists downwards) = (map outcome_value q.0, σ', q.1) in
    ∥∥₁_map ((machine_demand3 γ code start held reached own lists on shuffle shuffles shuffle_held m).1 downwards order_downwards turns_held n) (λ d.
    (m, n, d.0, d.1, d.2, d.3, d.4, d.5)))))

-- The proof of `MessageRefusals`, and what it says of each function that runs a message. Assumes nothing.
use Rattle.std.specs.Prelude.{ℕ, ◌≡◌, refl, ◌≢◌, ◌⊎◌, Bool, true, false, cond, List, [], ◌∷◌, eqb}
use Rattle.std.proofs.Common.{sym, ◌∙◌, inl, inr, arith, eqb-true}
use Rattle.std.proofs.lemmas.Bool.{false≢true, eqb-false}
use Rattle.std.proofs.Math.Option.{Option, none, some}
use Rattle.slot.specs.declared.ConnectionManager.{ConnectionManager}
use Rattle.slot.specs.declared.Address.{Address}
use Rattle.slot.specs.declared.LeConnRole.{LeConnRole}
use Rattle.slot.specs.declared.ConnParams.{ConnParams}
use Rattle.model.specs.Answer.{Refusal, Reply, Outcome}
use Rattle.model.specs.Find.{well_formed}
use Rattle.model.proofs.Laws.{either}
use Rattle.model.specs.Link.{Op, negotiate_att_mtu, signal_indication_confirmation}
use Rattle.model.specs.Calls.{Call, on_link, connects, poll_request_from_pool_call, run}
use Rattle.hci.specs.declared.HciEvent.{HciEvent}
use Rattle.hci.specs.declared.HciEvent.TheVariants.{DisconnectionComplete, LeConnectionComplete, LeConnectionUpdateComplete}
use Rattle.hci.specs.Format.{of_form}
use Rattle.hci.specs.Read.{event_in}
use Rattle.completed_packets.specs.Format.{Pair}
use Rattle.completed_packets.specs.Read.{completed_in}
use Rattle.att_pdu.specs.Format.{Message, exchange_mtu_req, exchange_mtu_rsp, handle_value_ind, handle_value_cfm}
use Rattle.att_pdu.specs.Read.{message_in}
use Rattle.model_theorems.specs.Refusals.{sends, LeftByBlocked, LeftByWait, LeftByPending, LeftBehind, Refusals}
use Rattle.model_theorems.proofs.Left.{refusals}
use Rattle.messages.specs.Received.{Received, refused_with, ran_all, run_all, only_reply, counts_reply, pair_calls, if_status0, event_calls, att_calls, att_reply, received_as, received, received_att_as, received_att}
use Rattle.message_theorems.specs.Reach.{calls_as, att_calls_as}
use Rattle.message_theorems.specs.Refusals.{MessageLeft, MessageRefusals}

-- ---- a call that is no lock, no grant and no ask of the pool

abbrev NoSend : Call → Type 0
NoSend c = ((op : Op) (h : ℕ) → c ≡ on_link op h → sends op ≡ false) × ((h k : ℕ) → c ≢ poll_request_from_pool_call h k)

-- a message that is accepted, and one that leaves the table
accepted : {cs : List Call} {t : ConnectionManager} {r : Received} → r.reply.number ≡ 0 → MessageLeft cs t r
accepted e = record { unchanged = λ p q. absurd (p e); out_of_memory = λ p. absurd (omega arith) }

same : {cs : List Call} {t : ConnectionManager} {r : Received} → r.reply.number ≢ 4 → r.table ≡ t → MessageLeft cs t r
same n e = record { unchanged = λ p q. e; out_of_memory = λ p. absurd (n p) }

-- the table that one such call leaves
call_left : (c : Call) → NoSend c → (t : ConnectionManager) → (run c t).reply.number ≢ 0 → (run c t).reply.number ≢ 4
    → (run c t).table ≡ t
unfolding Refusals
call_left c quiet t p q = go (eqb (run c t).reply.number 5) refl
  where
    left : LeftBehind c t (run c t).reply.number (run c t).table
    left = refusals c t

    go : (b : Bool) → eqb (run c t).reply.number 5 ≡ b → (run c t).table ≡ t
    go true e = waits (left.pending (eqb-true _ _ e))
      where
        waits : LeftByBlocked c t (run c t).reply.number (run c t).table
            ⊎ (LeftByWait c t (run c t).reply.number (run c t).table ⊎ LeftByPending c t (run c t).reply.number (run c t).table)
            → (run c t).table ≡ t
        waits (inl x) = absurd (false≢true (sym (quiet.0 x.0 x.1 x.3) ∙ x.4))
        waits (inr (inl x)) = absurd (quiet.1 x.0 x.1 x.3)
        waits (inr (inr x)) = x.2
    go false e = left.unchanged p q (eqb-false _ _ e)

-- a message is run, or it is refused with 8
left_by_check : (reply : List Outcome → Reply) (cs : List Call) (t : ConnectionManager) → MessageLeft cs t (ran_all reply cs t)
    → MessageLeft cs t (run_all reply cs t)
left_by_check reply cs t l =
    either (MessageLeft cs t) (well_formed t) (ran_all reply cs t) (refused_with Refusal.Setup t) l (same (omega arith) refl)

one_left : (c : Call) → NoSend c → (t : ConnectionManager) → MessageLeft (c ∷ []) t (run_all only_reply (c ∷ []) t)
unfolding Refusals
one_left c quiet t =
    left_by_check only_reply (c ∷ []) t (record { unchanged = call_left c quiet t; out_of_memory = λ p. (c, refl, (refusals c t).out_of_memory p) })

none_left : (reply : List Outcome → Reply) (t : ConnectionManager) → (reply []).number ≡ 0 → MessageLeft [] t (run_all reply [] t)
none_left reply t f = left_by_check reply [] t (accepted f)

left_by_status : (status : ℕ) (c : Call) → NoSend c → (t : ConnectionManager) → MessageLeft (if_status0 status c) t (run_all only_reply (if_status0 status c) t)
left_by_status status c quiet t = go (eqb status 0)
  where
    go : (b : Bool) → MessageLeft (cond b (c ∷ []) []) t (run_all only_reply (cond b (c ∷ []) []) t)
    go true = one_left c quiet t
    go false = none_left only_reply t refl

-- ---- every message

link_quiet : (o : Op) (n : ℕ) → sends o ≡ false → NoSend (on_link o n)
link_quiet o n f = (
  λ op h e. let p : o ≡ op = cc in rw (← p) f,
  λ h k e. let z : ◌≡◌ {A = ℕ} 0 1 = cc in omega arith,
)

connect_quiet : (handle : ℕ) (peer : Address) (role : LeConnRole) (params : ConnParams) → NoSend (connects handle peer role params)
connect_quiet handle peer role params = (
  λ op h e. let z : ◌≡◌ {A = ℕ} 0 1 = cc in absurd (omega arith),
  λ h k e. let z : ◌≡◌ {A = ℕ} 0 1 = cc in omega arith,
)

event_left : (e : HciEvent) (t : ConnectionManager) → MessageLeft (event_calls e) t (run_all only_reply (event_calls e) t)
event_left (DisconnectionComplete e) t = left_by_status e.status _ (link_quiet _ _ refl) t
event_left (LeConnectionComplete e) t = left_by_status e.status _ (connect_quiet _ _ _ _) t
event_left (LeConnectionUpdateComplete e) t = left_by_status e.status _ (link_quiet _ _ refl) t

pairs_left : (ps : List Pair) (t : ConnectionManager) → MessageLeft (pair_calls ps) t (run_all counts_reply (pair_calls ps) t)
pairs_left ps t = left_by_check counts_reply (pair_calls ps) t (accepted refl)

att_left : (h : ℕ) (m : Message) (t : ConnectionManager) → MessageLeft (att_calls h m) t (run_all (att_reply m) (att_calls h m) t)
att_left h (exchange_mtu_req mtu) t = one_left _ (link_quiet (negotiate_att_mtu mtu) h refl) t
att_left h (exchange_mtu_rsp mtu) t = one_left _ (link_quiet (negotiate_att_mtu mtu) h refl) t
att_left h (handle_value_ind attribute value) t = none_left (att_reply (handle_value_ind attribute value)) t refl
att_left h handle_value_cfm t = one_left _ (link_quiet signal_indication_confirmation h refl) t

pub message_refusals : MessageRefusals
unfolding MessageRefusals
message_refusals = (as_read, att_as_read)
  where
    as_read : (e : Option HciEvent) (ps : Option (List Pair)) (t : ConnectionManager) → MessageLeft (calls_as e ps) t (received_as e ps t)
    as_read (some e) ps t = event_left e t
    as_read none (some ps) t = pairs_left ps t
    as_read none none t = same (omega arith) refl

    att_as_read : (h : ℕ) (m : Option Message) (t : ConnectionManager) → MessageLeft (att_calls_as h m) t (received_att_as h m t)
    att_as_read h none t = same (omega arith) refl
    att_as_read h (some m) t = att_left h m t

-- ---- of `received`, of its parts `received_event` and `received_pairs`, and of `received_att`

pub received_left : (s : List ℕ) (t : ConnectionManager) → MessageLeft (calls_as (event_in s) (completed_in s)) t (received s t)
unfolding MessageRefusals
received_left s t = message_refusals.0 (event_in s) (completed_in s) t

-- what an event of these values is read as: none where they are not of the form
abbrev pub event_of : HciEvent → Option HciEvent
event_of e = cond (of_form e) (some e) none

pub received_event_left : (e : HciEvent) (t : ConnectionManager) → MessageLeft (calls_as (event_of e) none) t (received_as (event_of e) none t)
unfolding MessageRefusals
received_event_left e t = message_refusals.0 (event_of e) none t

pub received_pairs_left : (s : List ℕ) (t : ConnectionManager) → MessageLeft (calls_as none (completed_in s)) t (received_as none (completed_in s) t)
unfolding MessageRefusals
received_pairs_left s t = message_refusals.0 none (completed_in s) t

pub received_att_left : (h : ℕ) (s : List ℕ) (t : ConnectionManager) → MessageLeft (att_calls_as h (message_in s)) t (received_att h s t)
unfolding MessageRefusals
received_att_left h s t = message_refusals.1 h (message_in s) t

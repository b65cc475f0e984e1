-- The proof of `MessageNumbers`: a message's number is that of its call, or 0 where it runs none, or 8. Assumes nothing.
use Rattle.std.specs.Prelude.{ℕ, ◌≡◌, refl, true, List, [], ◌∷◌, eqb}
use Rattle.std.proofs.Math.Option.{Option, none, some}
use Rattle.slot.specs.declared.ConnectionManager.{ConnectionManager}
use Rattle.model.specs.Answer.{Reply, Outcome}
use Rattle.model.specs.Find.{well_formed}
use Rattle.model.specs.Link.{disconnected, post_handle_event, negotiate_att_mtu, signal_indication_confirmation}
use Rattle.model.specs.Calls.{Call, on_link, connects}
use Rattle.model.proofs.Laws.{either}
use Rattle.number_theorems.specs.Numbers.{is_in, numbers_of}
use Rattle.number_theorems.proofs.Answers.{In, answers_in}
use Rattle.hci.specs.declared.HciEvent.{HciEvent}
use Rattle.hci.specs.declared.HciEvent.TheVariants.{DisconnectionComplete, LeConnectionComplete, LeConnectionUpdateComplete}
use Rattle.completed_packets.specs.Format.{Pair}
use Rattle.att_pdu.specs.Format.{Message, exchange_mtu_req, exchange_mtu_rsp, handle_value_ind, handle_value_cfm}
use Rattle.messages.specs.Received.{Received, ran_all, run_all, only_reply, counts_reply, att_reply, if_status0, peer_of, role_of, params_of, updated_of, pair_calls, received_as, received_att_as}
use Rattle.message_theorems.specs.Numbers.{numbers_as, att_numbers_as, MessageNumbers}

-- a message is run, or it is refused with 8
ran_in : (ns : List ℕ) (reply : List Outcome → Reply) (cs : List Call) (t : ConnectionManager)
    → In ns (ran_all reply cs t).reply → is_in 8 ns ≡ true → In ns (run_all reply cs t).reply
ran_in ns reply cs t p q = either (λ (r : Received). In ns r.reply) (well_formed t) _ _ p q

one_in : (c : Call) (t : ConnectionManager) → is_in 8 (numbers_of c) ≡ true → In (numbers_of c) (run_all only_reply (c ∷ []) t).reply
one_in c t q = ran_in (numbers_of c) only_reply (c ∷ []) t (answers_in c t) q

-- no call where the status is not 0
status_in : (status : ℕ) (c : Call) (t : ConnectionManager) → is_in 0 (numbers_of c) ≡ true → is_in 8 (numbers_of c) ≡ true
    → In (numbers_of c) (run_all only_reply (if_status0 status c) t).reply
status_in status c t p q =
    either (λ (cs : List Call). In (numbers_of c) (run_all only_reply cs t).reply) (eqb status 0) _ _
    (one_in c t q)
    (ran_in (numbers_of c) only_reply [] t p q)

pub message_numbers : MessageNumbers
unfolding MessageNumbers
message_numbers = (as_read, att_as_read)
  where
    as_read : (e : Option HciEvent) (ps : Option (List Pair)) (t : ConnectionManager) → In (numbers_as e ps) (received_as e ps t).reply
    as_read (some (DisconnectionComplete e)) ps t =
        status_in e.status (on_link (disconnected e.reason) e.handle) t refl refl
    as_read (some (LeConnectionComplete e)) ps t =
        status_in e.status (connects e.handle (peer_of e) (role_of e.role) (params_of e)) t refl refl
    as_read (some (LeConnectionUpdateComplete e)) ps t =
        status_in e.status (on_link (post_handle_event (updated_of e)) e.handle) t refl refl
    as_read none (some ps) t = ran_in (numbers_as none (some ps)) counts_reply (pair_calls ps) t refl refl
    as_read none none t = refl

    att_as_read : (h : ℕ) (m : Option Message) (t : ConnectionManager) → In (att_numbers_as m) (received_att_as h m t).reply
    att_as_read h (some (exchange_mtu_req mtu)) t = one_in (on_link (negotiate_att_mtu mtu) h) t refl
    att_as_read h (some (exchange_mtu_rsp mtu)) t = one_in (on_link (negotiate_att_mtu mtu) h) t refl
    att_as_read h (some (handle_value_ind attribute value)) t =
        ran_in (att_numbers_as (some (handle_value_ind attribute value))) (att_reply (handle_value_ind attribute value)) [] t refl refl
    att_as_read h (some handle_value_cfm) t = one_in (on_link signal_indication_confirmation h) t refl
    att_as_read h none t = refl

-- The proof of `MessagesLeavePool`. Assumes nothing.
use Rattle.std.specs.Prelude.{ℕ, ◌≡◌, refl, false, List, [], ◌∷◌, eqb}
use Rattle.std.proofs.Common.{◌∙◌}
use Rattle.std.proofs.Math.Option.{Option, none, some}
use Rattle.pool.specs.declared.Share.TheVariants.{Untouched}
use Rattle.slot.specs.declared.ConnectionStorage.{ConnectionStorage}
use Rattle.slot.specs.declared.ConnectionManager.{ConnectionManager}
use Rattle.slot.specs.declared.Located.{Located}
use Rattle.slot.specs.declared.Located.TheVariants.{Setup, Absent, At}
use Rattle.slot.specs.declared.Address.{Address}
use Rattle.slot.specs.declared.LeConnRole.{LeConnRole}
use Rattle.slot.specs.declared.ConnParams.{ConnParams}
use Rattle.model.specs.Answer.{Refusal, Reply, Local, Outcome}
use Rattle.model.specs.Find.{Test, slot_at, well_formed, locate, fits}
use Rattle.model.specs.Link.{Op, post_handle_event, confirm_sent, negotiate_att_mtu, signal_indication_confirmation, closing, way_of}
use Rattle.model.specs.Calls.{Call, on_link, connects, run, settle, outcome, done, is_free, is_last_life, connected_at}
use Rattle.model.specs.History.{after}
use Rattle.model.proofs.Laws.{either}
use Rattle.model.proofs.Alike.{put_alike}
use Rattle.model.proofs.Pooled.{pooled}
use Rattle.hci.specs.declared.HciEvent.{HciEvent}
use Rattle.hci.specs.declared.HciEvent.TheVariants.{DisconnectionComplete, LeConnectionComplete, LeConnectionUpdateComplete}
use Rattle.completed_packets.specs.Format.{Pair}
use Rattle.att_pdu.specs.Format.{Message, exchange_mtu_req, exchange_mtu_rsp, handle_value_ind, handle_value_cfm}
use Rattle.messages.specs.Received.{Received, refused_with, ran_all, run_all, only_reply, counts_reply, att_reply, if_status0, peer_of, role_of, params_of, updated_of, event_calls, pair_call, pair_calls, att_calls, received_as, received_att_as}
use Rattle.message_theorems.specs.Pool.{PoolAsBefore, closes_link, MessagesLeavePool}

-- ---- a call

-- what it does at a slot
abbrev Leaves : ConnectionStorage → Local → Type 0
Leaves s l = (l.share ≡ Untouched) × (l.slot.pool_held ≡ s.pool_held)

module _ (t : ConnectionManager) (test : Test) (none : Reply) (at : ℕ → Local) (there : (j : ℕ) → Leaves (slot_at t j) (at j)) where
  settled_leaves : (f : Located) → PoolAsBefore t (settle none at t f).table
  settled_leaves Setup = (refl, λ i. refl)
  settled_leaves Absent = (refl, λ i. refl)
  settled_leaves (At j) = (rw (there j).0, λ i. put_alike t j (at j).slot (λ s. s.pool_held) (there j).1 i)

  outcome_leaves : PoolAsBefore t (outcome test none at t).table
  outcome_leaves = settled_leaves (locate test t)

-- in every table
abbrev Quiet : Call → Type 0
Quiet c = (t : ConnectionManager) → PoolAsBefore t (run c t).table

link_quiet : (op : Op) (n : ℕ) → closing op ≡ false → Quiet (on_link op n)
link_quiet op n e t =
    outcome_leaves t (fits (way_of op) n) _ (done op t)
    (λ j. let p = pooled op t.default_att_mtu j (slot_at t j) in (rw e at p.share, rw e at p.held))

connect_quiet : (handle : ℕ) (peer : Address) (role : LeConnRole) (params : ConnParams) → Quiet (connects handle peer role params)
connect_quiet handle peer role params t =
    outcome_leaves t is_free _ (λ j. connected_at handle peer role params t.default_link_credits (slot_at t j))
    (λ j. either (Leaves (slot_at t j)) (is_last_life (slot_at t j)) _ _ (refl, refl) (refl, refl))

-- ---- a message

by_check : (reply : List Outcome → Reply) (cs : List Call) (t : ConnectionManager) → PoolAsBefore t (after cs t)
    → PoolAsBefore t (run_all reply cs t).table
by_check reply cs t p =
    either (λ (r : Received). PoolAsBefore t r.table) (well_formed t) (ran_all reply cs t) (refused_with Refusal.Setup t) p
    (refl, λ i. refl)

by_status : (status : ℕ) (c : Call) (t : ConnectionManager) → PoolAsBefore t (run c t).table
    → PoolAsBefore t (after (if_status0 status c) t)
by_status status c t p = either (λ (cs : List Call). PoolAsBefore t (after cs t)) (eqb status 0) _ _ p (refl, λ i. refl)

pairs_quiet : (ps : List Pair) (t : ConnectionManager) → PoolAsBefore t (after (pair_calls ps) t)
pairs_quiet [] t = (refl, λ i. refl)
pairs_quiet (p ∷ ps) t =
    let first = link_quiet (confirm_sent p.num_completed_packets) p.handle refl t in
    let rest = pairs_quiet ps (run (pair_call p) t).table in
    (rest.0 ∙ first.0, λ i. rest.1 i ∙ first.1 i)

pub messages_leave_pool : MessagesLeavePool
unfolding MessagesLeavePool
messages_leave_pool = (as_read, att_as_read)
  where
    as_read : (e : Option HciEvent) (ps : Option (List Pair)) (t : ConnectionManager) → closes_link e ≡ false
        → PoolAsBefore t (received_as e ps t).table
    as_read (some (DisconnectionComplete e)) ps t q =
        by_check only_reply (event_calls (DisconnectionComplete e)) t (rw q (refl, λ i. refl))
    as_read (some (LeConnectionComplete e)) ps t q =
        by_check only_reply (event_calls (LeConnectionComplete e)) t
        (by_status e.status _ t (connect_quiet e.handle (peer_of e) (role_of e.role) (params_of e) t))
    as_read (some (LeConnectionUpdateComplete e)) ps t q =
        by_check only_reply (event_calls (LeConnectionUpdateComplete e)) t
        (by_status e.status _ t (link_quiet (post_handle_event (updated_of e)) e.handle refl t))
    as_read none (some ps) t q = by_check counts_reply (pair_calls ps) t (pairs_quiet ps t)
    as_read none none t q = (refl, λ i. refl)

    att_as_read : (h : ℕ) (m : Option Message) (t : ConnectionManager) → PoolAsBefore t (received_att_as h m t).table
    att_as_read h none t = (refl, λ i. refl)
    att_as_read h (some (exchange_mtu_req mtu)) t =
        by_check (att_reply (exchange_mtu_req mtu)) (att_calls h (exchange_mtu_req mtu)) t (link_quiet (negotiate_att_mtu mtu) h refl t)
    att_as_read h (some (exchange_mtu_rsp mtu)) t =
        by_check (att_reply (exchange_mtu_rsp mtu)) (att_calls h (exchange_mtu_rsp mtu)) t (link_quiet (negotiate_att_mtu mtu) h refl t)
    att_as_read h (some (handle_value_ind attribute value)) t =
        by_check (att_reply (handle_value_ind attribute value)) (att_calls h (handle_value_ind attribute value)) t (refl, λ i. refl)
    att_as_read h (some handle_value_cfm) t =
        by_check (att_reply handle_value_cfm) (att_calls h handle_value_cfm) t (link_quiet signal_indication_confirmation h refl t)

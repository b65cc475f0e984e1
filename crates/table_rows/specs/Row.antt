-- A case: a fresh table, calls, and what they give. Assumes nothing.
use Rattle.std.specs.Prelude.{ℕ, Option, None, Some, Bool, true, false, cond, ◌&&◌, List, [], ◌∷◌, ◌++◌, map, eqb}
use Rattle.state.specs.declared.DisconnectReason.TheVariants.{AuthenticationFailure}
use Rattle.state.specs.declared.ConnectionState.{ConnectionState}
use Rattle.state.specs.declared.ConnectionState.TheVariants as state
use Rattle.slot.specs.declared.LeConnRole.{LeConnRole}
pub use Rattle.slot.specs.Role.{role_value}
use Rattle.slot.specs.declared.Address.{Address}
use Rattle.slot.specs.declared.SubratingParams.{SubratingParams}
use Rattle.slot.specs.declared.ConnectionStorage.{ConnectionStorage}
use Rattle.pool.specs.declared.Pool.{Pool}
use Rattle.slot.specs.declared.ConnectionManager.{ConnectionManager}
use Rattle.slot.specs.declared.Woken.{Woken}
use Rattle.slot.specs.declared.Woken.TheVariants as woken
use Rattle.slot.specs.Fresh.{fresh_slot}
use Rattle.slot.specs.Set.{set_state, set_handle, set_att_mtu, set_link_credits, set_refcount, set_acl_send_locked, set_indication_in_flight}
use Rattle.model.specs.Answer.{Outcome, reason_value, event_values}
use Rattle.model.specs.Find.{slot_at}
use Rattle.model.specs.Link.{Op, bit}
use Rattle.model.specs.Calls.{Call, on_link, run, put, placed, done}
use Rattle.model.specs.History.{new, fresh_table, after}
use Rattle.model.specs.Demand3.{Trace, Answer, of_link, answers, end_table, alone, in_turn}

-- ---- numbers for what is compared: each of these reads every part of what it is given

abbrev pub woken_values : Woken → List ℕ
woken_values woken.Nobody = 0 ∷ []
woken_values woken.Central = 1 ∷ []
woken_values woken.Peripheral = 2 ∷ []
woken_values woken.Disconnect = 3 ∷ []
woken_values (woken.LinkCredit i) = 4 ∷ i ∷ []
woken_values (woken.AclSendLock i) = 5 ∷ i ∷ []
woken_values (woken.IndicationSlot i) = 6 ∷ i ∷ []
woken_values (woken.IndicationCfm i) = 7 ∷ i ∷ []
woken_values (woken.Link i) = 8 ∷ i ∷ []

abbrev pub answer_values : Answer → List (List ℕ)
answer_values (r, w) = (r.number ∷ []) ∷ r.values ∷ woken_values w ∷ []

abbrev pub state_values : ConnectionState → List ℕ
state_values state.Disconnected = 0 ∷ []
state_values (state.DisconnectRequest r) = 1 ∷ reason_value r ∷ []
state_values (state.Disconnecting r) = 2 ∷ reason_value r ∷ []
state_values state.Connecting = 3 ∷ []
state_values state.Connected = 4 ∷ []

abbrev pub address_values : Address → List ℕ
address_values a =
    a.kind ∷ a.addr.0 ∷ a.addr.1 ∷ a.addr.2 ∷ a.addr.3 ∷ a.addr.4 ∷ a.addr.5 ∷ []

abbrev pub subrating_values : Option SubratingParams → List ℕ
subrating_values None = []
subrating_values (Some p) = p.subrate_factor ∷ p.continuation_number ∷ []

abbrev pub slot_values : ConnectionStorage → List (List ℕ)
slot_values s =
    state_values s.state
    ∷ (s.handle ∷ s.life ∷ role_value s.role ∷ [])
    ∷ address_values s.peer_identity
    ∷ (s.params.conn_interval ∷ s.params.peripheral_latency ∷ s.params.supervision_timeout ∷ [])
    ∷ subrating_values s.subrating_params
    ∷ (s.att_mtu ∷ s.link_credits ∷ bit s.acl_send_locked ∷ s.refcount ∷ s.blocked_sends ∷ s.lost ∷ s.pool_held ∷ [])
    ∷ (bit s.indication_in_flight ∷ bit s.indication_cfm_received ∷ s.events.len ∷ [])
    ∷ map event_values s.events.entries

abbrev pub slots_values : List ConnectionStorage → List (List ℕ)
slots_values [] = []
slots_values (s ∷ ss) = slot_values s ++ slots_values ss

abbrev pub pool_values : Pool → List ℕ
pool_values p = p.packets ∷ p.free ∷ p.waiting ∷ p.turn ∷ []

abbrev pub table_values : ConnectionManager → List (List ℕ)
table_values t =
    (t.count ∷ t.default_link_credits ∷ t.default_att_mtu ∷ []) ∷ pool_values t.pool ∷ slots_values t.connections

-- ---- comparison

abbrev pub same : List ℕ → List ℕ → Bool
same [] [] = true
same [] (y ∷ ys) = false
same (x ∷ xs) [] = false
same (x ∷ xs) (y ∷ ys) = eqb x y && same xs ys

abbrev pub same_all : List (List ℕ) → List (List ℕ) → Bool
same_all [] [] = true
same_all [] (y ∷ ys) = false
same_all (x ∷ xs) [] = false
same_all (x ∷ xs) (y ∷ ys) = same x y && same_all xs ys

-- ---- a case, and whether it holds

pub data Item : Type 0 where
  -- a call: the number of its answer, its values, and who is woken
  gives : Call → ℕ → List ℕ → Woken → Item
  -- what the table shows then
  shows : (ConnectionManager → List ℕ) → List ℕ → Item
  -- the whole table then
  leaves : ConnectionManager → Item

abbrev pub items_hold : List Item → ConnectionManager → Bool
items_hold [] t = true
items_hold (gives c n vs w ∷ is) t =
    (eqb (run c t).reply.number n && (same (run c t).reply.values vs && same (woken_values (run c t).woken) (woken_values w)))
    && items_hold is (run c t).table
items_hold (shows f vs ∷ is) t = same (f t) vs && items_hold is t
items_hold (leaves u ∷ is) t = same_all (table_values t) (table_values u) && items_hold is t

pub data Row : Type 0 where
  -- a fresh table, and calls on it
  fresh : (slots packet_mtu packets : ℕ) → List Item → Row
  -- a table handed in, and calls on it
  from : ConnectionManager → List Item → Row
  -- `new` refused with this number
  refused : (slots packet_mtu packets number : ℕ) → Row
  -- a call that goes by a handle, on two slots that have it, the second Connected: the index of the slot that the call is about,
  -- by the state of the first: Connecting, Connected, requesting, Disconnecting, Disconnected
  finds : Op → List ℕ → Row
  -- a fresh table, calls that lead to the start of demand 3, a shuffle of calls of its links, the answers that the calls
  -- have (number and values), and orders of the links
  shuffled : (slots packet_mtu packets : ℕ) → List Call → Trace → List (List ℕ) → List (List ℕ) → Row

-- ---- which slot a call is about: the one where the call's own part gives the outcome, and at the other it does not

-- what a call gave: its answer, the pool and two slots
abbrev outcome_values : Outcome → List (List ℕ)
outcome_values o =
    answer_values (o.reply, o.woken) ++ pool_values o.table.pool ∷ slot_values (slot_at o.table 0) ++ slot_values (slot_at o.table 1)

module _ (op : Op) (t : ConnectionManager) where
  abbrev is_at : ℕ → Bool
  is_at i = same_all (outcome_values (run (on_link op (slot_at t 0).handle) t)) (outcome_values (placed t i (done op t i)))

  -- 0, 1, or 2 where the outcome does not tell
  abbrev found_at : ℕ
  found_at = cond (is_at 0) (cond (is_at 1) 2 0) (cond (is_at 1) 1 2)

-- handle 64 twice; all that a call could look at differs
abbrev twins : ConnectionState → ConnectionManager
twins s = put (put (fresh_table 2 251 4) 0 (slot_of s 30 5 0 false)) 1 (slot_of state.Connected 40 3 1 true)
  where
    slot_of : ConnectionState → ℕ → ℕ → ℕ → Bool → ConnectionStorage
    slot_of s mtu credits refs flag =
        set_handle (set_state (set_att_mtu (set_link_credits (set_refcount (set_acl_send_locked (set_indication_in_flight fresh_slot flag) true) refs) credits) mtu) s) 64

abbrev found_in : Op → List ConnectionState → List ℕ
found_in op [] = []
found_in op (s ∷ ss) = found_at op (twins s) ∷ found_in op ss

abbrev states : List ConnectionState
states =
    state.Connecting
    ∷ state.Connected
    ∷ state.DisconnectRequest AuthenticationFailure
    ∷ state.Disconnecting AuthenticationFailure
    ∷ state.Disconnected
    ∷ []

-- ---- demand 3, computed: answers alone, in turn and in the shuffle, and the whole table at the end

module _ (start : ConnectionManager) (es : Trace) where
  abbrev pub lists : ℕ → List Op
  lists i = of_link i es

  abbrev pub answers_of : ℕ → Trace → List (List ℕ)
  answers_of i u = flat (of_link i (answers start u))
    where
      flat : List Answer → List (List ℕ)
      flat [] = []
      flat (a ∷ as') = answer_values a ++ flat as'

  abbrev pub links_agree : Trace → List ℕ → Bool
  links_agree u [] = true
  links_agree u (i ∷ is) =
      (same_all (answers_of i es) (answers_of i (alone lists i)) && same_all (answers_of i es) (answers_of i u)) && links_agree u is

  abbrev pub orders_agree : List (List ℕ) → Bool
  orders_agree [] = true
  orders_agree (is ∷ more) =
      (links_agree (in_turn lists is) is && same_all (table_values (end_table start es)) (table_values (end_table start (in_turn lists is))))
      && orders_agree more

abbrev pub numbers_of : List (ℕ × Answer) → List (List ℕ)
numbers_of [] = []
numbers_of (a ∷ more) = (a.1.0.number ∷ a.1.0.values) ∷ numbers_of more

abbrev pub holds : Row → Bool
holds (fresh slots packet_mtu packets items) =
    eqb (new slots packet_mtu packets).reply.number 0 && items_hold items (new slots packet_mtu packets).table
holds (from t items) = items_hold items t
holds (refused slots packet_mtu packets n) = eqb (new slots packet_mtu packets).reply.number n
holds (finds op is) = same (found_in op states) is
holds (shuffled slots packet_mtu packets calls es given orders) =
    same_all (numbers_of (answers (after calls (new slots packet_mtu packets).table) es)) given
    && orders_agree (after calls (new slots packet_mtu packets).table) es orders

abbrev pub all_hold : List Row → Bool
all_hold [] = true
all_hold (r ∷ rs) = holds r && all_hold rs

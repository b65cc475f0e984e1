-- A link's credits over one life of its slot (02's L7, "The credit book balances"). This file is the statements, `CreditBalance` and
-- `CreditBound`. They are proved in Balance.antt and Bound.antt; Cases.antt has cases of both, and histories without one part of
-- the premise each, in which the bound is broken. Assumes nothing.
use Rattle.std.specs.Prelude.{ℕ, zero, suc, ◌+◌, ◌≤◌, ◌<◌, min, ◌≡◌, Bool, true, false, cond, ◌&&◌, List, [], ◌∷◌, ◌++◌, get_or, length, eqb}
use Rattle.slot.specs.declared.Address.{Address}
use Rattle.slot.specs.declared.LeConnRole.{LeConnRole}
use Rattle.slot.specs.declared.ConnParams.{ConnParams}
use Rattle.slot.specs.declared.PacketGrant.{PacketGrant}
use Rattle.slot.specs.declared.ConnectionManager.{ConnectionManager}
use Rattle.slot.specs.declared.Located.{Located}
use Rattle.slot.specs.declared.Located.TheVariants.{Setup, Absent, At}
use Rattle.slot.specs.declared.Woken.{Woken}
use Rattle.slot.specs.declared.Woken.TheVariants as woken
use Rattle.model.specs.Answer.{Reply, Outcome}
use Rattle.model.specs.Find.{slot_at, locate, fits}
use Rattle.model.specs.Link.{Op, get_connected_handle, inc_ref, dec_ref, request_disconnect, request_handle_disconnect, withdraw_disconnect, confirm, disconnected, post_handle_event, next, poll_acquire_acl_send_lock, unlock_acl_send, poll_request_to_send, grant_end, confirm_sent, has_link_credits, exchange_att_mtu, get_att_mtu_handle, negotiate_att_mtu, get_stored_att_mtu, acquire_indication_slot, release_indication_slot, signal_indication_confirmation, wait_indication_confirmation, way_of}
use Rattle.model.specs.Calls.{Call, on_link, connects, poll_accept_call, get_connection_by_peer_address_call, poll_disconnecting_call, set_link_credits_call, total_lost_call, poll_request_from_pool_call, pool_confirm_sent_call, pool_grant_end_call, grant_confirm, run, is_free, grant_confirmed}
use Rattle.model.specs.History.{Reached, new, after}

-- ---- what a call is in the sums: by the call and its answer

pub data Entry : Type 0 where
  -- granted; an accepted completion; given back by the end of a grant; nothing
  grants completes gives : (packets : ℕ) → Entry
  nothing : Entry

-- an end that gives packets back wakes who waits for the link's credits; at a slot that is not live, in another life, with 7 or with
-- nothing left it does not
abbrev pub gave_back : Woken → Bool
gave_back woken.Nobody = false
gave_back woken.Central = false
gave_back woken.Peripheral = false
gave_back woken.Disconnect = false
gave_back (woken.LinkCredit i) = true
gave_back (woken.AclSendLock i) = false
gave_back (woken.IndicationSlot i) = false
gave_back (woken.IndicationCfm i) = false
gave_back (woken.Link i) = false

-- the three calls on a link that the sums are about
pub data Kind : Type 0 where
  asks reports : (packets : ℕ) → Kind
  returns : (life packets : ℕ) → Kind
  other : Kind

abbrev pub kind_of : Op → Kind
kind_of get_connected_handle = other
kind_of inc_ref = other
kind_of dec_ref = other
kind_of (request_disconnect x) = other
kind_of (request_handle_disconnect x) = other
kind_of withdraw_disconnect = other
kind_of (confirm h v x) = other
kind_of (disconnected x) = other
kind_of (post_handle_event e) = other
kind_of next = other
kind_of poll_acquire_acl_send_lock = other
kind_of (unlock_acl_send h v) = other
kind_of (poll_request_to_send j v n) = asks n
kind_of (grant_end h v n) = returns v n
kind_of (confirm_sent n) = reports n
kind_of (has_link_credits n) = other
kind_of (exchange_att_mtu m) = other
kind_of get_att_mtu_handle = other
kind_of (negotiate_att_mtu m) = other
kind_of get_stored_att_mtu = other
kind_of acquire_indication_slot = other
kind_of release_indication_slot = other
kind_of signal_indication_confirmation = other
kind_of wait_indication_confirmation = other

abbrev pub entry_for : Kind → Reply → Woken → Entry
entry_for (asks n) r v = cond (eqb r.number 0) (grants n) nothing
entry_for (reports n) r v = cond (eqb r.number 0) (completes n) nothing
entry_for (returns f n) r v = cond (gave_back v) (gives n) nothing
entry_for other r v = nothing

abbrev pub entry_of : Op → Reply → Woken → Entry
entry_of op r v = entry_for (kind_of op) r v

-- calls on the pool touch no link credits: they are not in the sums
abbrev pub entry : Call → Outcome → Entry
entry (on_link op n) o = entry_of op o.reply o.woken
entry (connects h a r p) o = nothing
entry (poll_accept_call r ps) o = nothing
entry (get_connection_by_peer_address_call a) o = nothing
entry poll_disconnecting_call o = nothing
entry (set_link_credits_call c) o = nothing
entry total_lost_call o = nothing
entry (poll_request_from_pool_call h k) o = nothing
entry (pool_confirm_sent_call h k) o = nothing
entry (pool_grant_end_call g) o = nothing
entry (grant_confirm g n) o = nothing

-- at slot i, where the call was about it; the calls without an entry are about none
abbrev pub at : ℕ → Located → Entry → Entry
at i Setup e = nothing
at i Absent e = nothing
at i (At j) e = cond (eqb i j) e nothing

abbrev pub found : Call → ConnectionManager → Located
found (on_link op n) t = locate (fits (way_of op) n) t
found (connects h a r p) t = Absent
found (poll_accept_call r ps) t = Absent
found (get_connection_by_peer_address_call a) t = Absent
found poll_disconnecting_call t = Absent
found (set_link_credits_call c) t = Absent
found total_lost_call t = Absent
found (poll_request_from_pool_call h k) t = Absent
found (pool_confirm_sent_call h k) t = Absent
found (pool_grant_end_call g) t = Absent
found (grant_confirm g n) t = Absent

abbrev pub entry_at : ℕ → Call → ConnectionManager → Entry
entry_at i c t = at i (found c t) (entry c (run c t))

-- ---- the balance

pub record Sums : Type 0 where
  pub granted : ℕ
  pub completed : ℕ
  pub given : ℕ

abbrev pub added : Entry → Sums → Sums
added (grants n) b = record { granted = b.granted + n; completed = b.completed; given = b.given }
added (completes n) b = record { granted = b.granted; completed = b.completed + n; given = b.given }
added (gives n) b = record { granted = b.granted; completed = b.completed; given = b.given + n }
added nothing b = b

abbrev pub sums_from : ℕ → List Call → ConnectionManager → Sums → Sums
sums_from i [] t b = b
sums_from i (c ∷ cs) t b = sums_from i cs (run c t).table (added (entry_at i c t) b)

abbrev pub sums : ℕ → List Call → ConnectionManager → Sums
sums i cs t = sums_from i cs t (record { granted = 0; completed = 0; given = 0 })

abbrev pub sets : Call → Bool
sets (on_link op n) = false
sets (connects h a r p) = false
sets (poll_accept_call r ps) = false
sets (get_connection_by_peer_address_call a) = false
sets poll_disconnecting_call = false
sets (set_link_credits_call c) = true
sets total_lost_call = false
sets (poll_request_from_pool_call h k) = false
sets (pool_confirm_sent_call h k) = false
sets (pool_grant_end_call g) = false
sets (grant_confirm g n) = false

-- "Over one life, with no `set_link_credits` in it": the life of slot i is f at the start and after each call
abbrev pub OneLife : ℕ → ℕ → List Call → ConnectionManager → Type 0
OneLife i f [] t = (slot_at t i).life ≡ f
OneLife i f (c ∷ cs) t = ((slot_at t i).life ≡ f) × (sets c ≡ false) × OneLife i f cs (run c t).table

-- "stored credits equal those at `connect`, plus all accepted completions, plus all that ended grants gave back to the
-- slot, less all granted, each summed from the history of calls". (A `connect` can be refused with 15 at a slot that is free:
-- then no life begins.)
unfoldable pub CreditBalance : Type 0
CreditBalance =
    (t : ConnectionManager) → Reached t
    → (handle : ℕ) (peer : Address) (role : LeConnRole) (params : ConnParams) (i : ℕ)
    → locate is_free t ≡ At i → (run (connects handle peer role params) t).reply.number ≡ 0
    → let made = (run (connects handle peer role params) t).table in
    (cs : List Call) → OneLife i (slot_at made i).life cs made
    → ((slot_at made i).link_credits ≡ t.default_link_credits)
    × ((slot_at (after cs made) i).link_credits + (sums i cs made).granted
    ≡ (slot_at made i).link_credits + (sums i cs made).completed + (sums i cs made).given)

-- ---- the bound: with the holders of grants

-- a grant in its holder's hands: as the table gave it and its confirms left it; its size; what its holder confirmed as
-- sent; whether it was ended
pub record HeldGrant : Type 0 where
  pub grant : PacketGrant
  pub size : ℕ
  pub sent : ℕ
  pub ended : Bool

-- a call; and what holders do: confirm packets on the k-th grant that the table gave, and end that grant
pub data Act : Type 0 where
  does : (c : Call) → Act
  confirms : (k sent : ℕ) → Act
  ends : (k : ℕ) → Act

-- the table, and the grants that it gave, in order
pub record Session : Type 0 where
  pub table : ConnectionManager
  pub held : List HeldGrant

-- the grant in an answer: `grant_values` read back
abbrev pub grant_in : List ℕ → PacketGrant
grant_in vs = record { handle = get_or vs 0 0; packets = get_or vs 1 0; index = get_or vs 2 0; life = get_or vs 3 0 }

abbrev pub given_by : Entry → Reply → List HeldGrant
given_by (grants n) r = record { grant = grant_in r.values; size = n; sent = 0; ended = false } ∷ []
given_by (completes n) r = []
given_by (gives n) r = []
given_by nothing r = []

abbrev pub no_grant : HeldGrant
no_grant = record { grant = record { handle = 0; packets = 0; index = 0; life = 0 }; size = 0; sent = 0; ended = true }

abbrev pub change : ℕ → (HeldGrant → HeldGrant) → List HeldGrant → List HeldGrant
change k f [] = []
change zero f (h ∷ hs) = f h ∷ hs
change (suc k) f (h ∷ hs) = h ∷ change k f hs

-- `PacketGrant::confirm` on the grant that is held
abbrev pub confirmed : ℕ → HeldGrant → HeldGrant
confirmed m h = record { grant = grant_confirmed h.grant m; size = h.size; sent = h.sent + m; ended = h.ended }

abbrev pub finished : HeldGrant → HeldGrant
finished h = record { grant = h.grant; size = h.size; sent = h.sent; ended = true }

-- the call that ends a grant as its confirms left it
abbrev pub end_of : HeldGrant → Call
end_of h = on_link (grant_end h.grant.handle h.grant.life h.grant.packets) h.grant.index

abbrev pub acted : Act → Session → Session
acted (does c) p =
    record { table = (run c p.table).table; held = p.held ++ given_by (entry c (run c p.table)) (run c p.table).reply }
acted (confirms k m) p = record { table = p.table; held = change k (confirmed m) p.held }
acted (ends k) p =
    record { table = (run (end_of (get_or p.held k no_grant)) p.table).table; held = change k finished p.held }

abbrev pub acted_all : List Act → Session → Session
acted_all [] p = p
acted_all (a ∷ acts) p = acted_all acts (acted a p)

-- what the holders of the grants of slot i's life f confirmed as sent, "counted for each grant up to its size"
abbrev pub of_life : ℕ → ℕ → HeldGrant → Bool
of_life i f h = eqb h.grant.index i && eqb h.grant.life f

abbrev pub sent_by : ℕ → ℕ → List HeldGrant → ℕ
sent_by i f [] = 0
sent_by i f (h ∷ hs) = cond (of_life i f h) (min h.size h.sent) 0 + sent_by i f hs

abbrev pub completed_by : Entry → ℕ
completed_by (grants n) = 0
completed_by (completes n) = n
completed_by (gives n) = 0
completed_by nothing = 0

-- packets completed on slot i by an act
abbrev pub completed_in : ℕ → Act → Session → ℕ
completed_in i (does c) p = completed_by (entry_at i c p.table)
completed_in i (confirms k m) p = 0
completed_in i (ends k) p = 0

-- an end that is made up: at slot i, with its life f
abbrev pub is_return : ℕ → Kind → Bool
is_return f (asks n) = false
is_return f (reports n) = false
is_return f (returns v n) = eqb v f
is_return f other = false

abbrev pub forges : ℕ → ℕ → Call → Bool
forges i f (on_link op n) = is_return f (kind_of op) && eqb n i
forges i f (connects h a r p) = false
forges i f (poll_accept_call r ps) = false
forges i f (get_connection_by_peer_address_call a) = false
forges i f poll_disconnecting_call = false
forges i f (set_link_credits_call c) = false
forges i f total_lost_call = false
forges i f (poll_request_from_pool_call h k) = false
forges i f (pool_confirm_sent_call h k) = false
forges i f (pool_grant_end_call g) = false
forges i f (grant_confirm g n) = false

-- a grant that the table gave; where it is one of this life, not ended yet
abbrev pub InHand : ℕ → ℕ → ℕ → Session → Type 0
InHand i f k p = (k < length p.held) × (of_life i f (get_or p.held k no_grant) ≡ true → (get_or p.held k no_grant).ended ≡ false)

-- "only grants that the table gave are ended, each at most once, as its confirms left it, and used no further after that":
-- asked of the grants of this life alone. What is done to grants of other slots and lives is free.
abbrev pub Proper : ℕ → ℕ → Act → Session → Type 0
Proper i f (does c) p = (sets c ≡ false) × (forges i f c ≡ false)
Proper i f (confirms k m) p = InHand i f k p
Proper i f (ends k) p = InHand i f k p

-- all along: the life of slot i is f, and of it no more was completed (n so far) than its holders confirmed as sent
abbrev pub Covered : ℕ → ℕ → ℕ → Session → Type 0
Covered i f n p = ((slot_at p.table i).life ≡ f) × (n ≤ sent_by i f p.held)

abbrev pub Disciplined : ℕ → ℕ → ℕ → List Act → Session → Type 0
Disciplined i f n [] p = Covered i f n p
Disciplined i f n (a ∷ acts) p = Covered i f n p × Proper i f a p × Disciplined i f (n + completed_in i a p) acts (acted a p)

-- "then stored credits never exceed those at `connect`": at every point of such a history, before what comes later in it. Before
-- the `connect` anything may have happened, what is forbidden after it too. "Links drawing on the pool are exempt": none need be
-- left out, since calls on the pool touch no link credits. (A completion of packets from the pool that is reported to a link's
-- credits is a completion like any other.)
unfoldable pub CreditBound : Type 0
CreditBound =
    (n m c : ℕ) → (new n m c).reply.number ≡ 0
    → (earlier : List Act) (handle : ℕ) (peer : Address) (role : LeConnRole) (params : ConnParams) (i : ℕ)
    → let before = acted_all earlier (record { table = (new n m c).table; held = [] }) in
    locate is_free before.table ≡ At i → (run (connects handle peer role params) before.table).reply.number ≡ 0
    → let start = acted (does (connects handle peer role params)) before in
    (acts later : List Act) → Disciplined i (slot_at start.table i).life 0 (acts ++ later) start
    → (slot_at (acted_all acts start).table i).link_credits ≤ (slot_at start.table i).link_credits

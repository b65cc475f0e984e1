-- Stored credits never exceed those at `connect`: the proof of `CreditBound`. Assumes nothing.
use Rattle.std.specs.Prelude.{ℕ, zero, suc, ◌+◌, ◌^◌, ◌≤◌, ◌<◌, min, ◌≡◌, refl, ◌⊎◌, Bool, true, false, cond, ◌&&◌, List, [], ◌∷◌, ◌++◌, eqb, leb, ltb, get_or, length}
use Rattle.std.proofs.Common.{sym, ap, ◌∙◌, inl, inr, ⊎_elim, append-nil, arith, eqb-true, eq-eqb, ne_eqb}
use Rattle.std.proofs.Math.Bool.{and-true}
use Rattle.std.proofs.lemmas.Bool.{false≢true}
use Rattle.state.specs.State.{is_live}
use Rattle.slot.specs.declared.ConnectionStorage.{ConnectionStorage}
use Rattle.slot.specs.declared.ConnectionManager.{ConnectionManager}
use Rattle.slot.specs.declared.PacketGrant.{PacketGrant}
use Rattle.slot.specs.declared.Located.{Located}
use Rattle.slot.specs.declared.Located.TheVariants.{Setup, Absent, At}
use Rattle.slot.specs.declared.Woken.TheVariants.{Nobody}
use Rattle.shuffle.specs.Shuffle.{by_key, All, all_append}
use Rattle.model.specs.Answer.{Refusal, Reply, refusal}
use Rattle.model.specs.Find.{slot_at, locate, by_index, fits}
use Rattle.model.specs.Link.{Op, get_connected_handle, inc_ref, dec_ref, request_disconnect, request_handle_disconnect, withdraw_disconnect, confirm, disconnected, post_handle_event, next, poll_acquire_acl_send_lock, unlock_acl_send, poll_request_to_send, grant_end, confirm_sent, has_link_credits, exchange_att_mtu, get_att_mtu_handle, negotiate_att_mtu, get_stored_att_mtu, acquire_indication_slot, release_indication_slot, signal_indication_confirmation, wait_indication_confirmation, way_of, absent, local, in_life, where_live, grant_ended}
use Rattle.model.specs.Calls.{Call, on_link, connects, poll_accept_call, get_connection_by_peer_address_call, poll_disconnecting_call, set_link_credits_call, total_lost_call, poll_request_from_pool_call, pool_confirm_sent_call, pool_grant_end_call, grant_confirm, run, settle, done}
use Rattle.model.specs.History.{new}
use Rattle.model.proofs.Laws.{split, located, and_left, and_right}
use Rattle.model_theorems.specs.Sound.{Sound}
use Rattle.model_theorems.proofs.Reach.{run_sound, new_sound, put_each}
use Rattle.model_theorems.proofs.Losses.{run_count}
use Rattle.life_theorems.proofs.Lives.{run_life}
use Rattle.credit_balance.specs.Statement.{gave_back, Entry, grants, completes, gives, nothing, Kind, asks, reports, returns, other, kind_of, entry_for, entry_of, entry, at, found, entry_at, sets, HeldGrant, Act, does, confirms, ends, Session, given_by, no_grant, change, confirmed, finished, end_of, acted, acted_all, of_life, sent_by, completed_by, completed_in, is_return, forges, InHand, Proper, Covered, Disciplined, CreditBound}
use Rattle.credit_balance.proofs.Entries.{Entered}
use Rattle.credit_balance.proofs.Balance.{stepped, connected}

-- ---- the grants that the table gave

-- what the holder of a grant can still bring to the slot: what was confirmed may be completed, and what is left may be given back
abbrev pub owed : ℕ → ℕ → HeldGrant → ℕ
owed i f h = cond (of_life i f h) (min h.size h.sent + cond h.ended 0 h.grant.packets) 0

abbrev pub owed_by : ℕ → ℕ → List HeldGrant → ℕ
owed_by i f [] = 0
owed_by i f (h ∷ hs) = owed i f h + owed_by i f hs

owed_append : (i f : ℕ) (hs gs : List HeldGrant) → owed_by i f (hs ++ gs) ≡ owed_by i f hs + owed_by i f gs
owed_append i f [] gs = omega arith
owed_append i f (h ∷ hs) gs = let r = owed_append i f hs gs in omega arith

owed_change : (i f k : ℕ) (g : HeldGrant → HeldGrant) (hs : List HeldGrant) → k < length hs
    → owed_by i f (change k g hs) + owed i f (get_or hs k no_grant) ≡ owed_by i f hs + owed i f (g (get_or hs k no_grant))
owed_change i f k g [] h = absurd (omega arith)
owed_change i f zero g (x ∷ hs) h = omega arith
owed_change i f (suc k) g (x ∷ hs) h = let r = owed_change i f k g hs (omega arith) in omega arith

-- what was confirmed is owed
sent_owed : (i f : ℕ) (hs : List HeldGrant) → sent_by i f hs ≤ owed_by i f hs
sent_owed i f [] = omega arith
sent_owed i f (h ∷ hs) =
    let r = sent_owed i f hs in
    split (of_life i f h) (λ q. rw q (omega arith)) (λ q. rw q (omega arith))

-- ---- a grant as its confirms left it, of a life that its slot had or has

pub record Fine (t : ConnectionManager) (h : HeldGrant) : Type 0 where
  pub whole : h.grant.packets + min h.size h.sent ≡ h.size
  pub below : h.grant.index < t.count
  pub past : h.grant.life ≤ (slot_at t h.grant.index).life

all_change : (P : HeldGrant → Type 0) (k : ℕ) (g : HeldGrant → HeldGrant) (hs : List HeldGrant) → ((h : HeldGrant) → P h → P (g h)) → All P hs → All P (change k g hs)
all_change P k g [] q a = tt
all_change P zero g (h ∷ hs) q a = (q h a.0, a.1)
all_change P (suc k) g (h ∷ hs) q a = (a.0, all_change P k g hs q a.1)

all_map : (P Q : HeldGrant → Type 0) (hs : List HeldGrant) → ((h : HeldGrant) → P h → Q h) → All P hs → All Q hs
all_map P Q [] q a = tt
all_map P Q (h ∷ hs) q a = (q h a.0, all_map P Q hs q a.1)

all_at : (P : HeldGrant → Type 0) (hs : List HeldGrant) (k : ℕ) → k < length hs → All P hs → P (get_or hs k no_grant)
all_at P [] k h a = absurd (omega arith)
all_at P (x ∷ hs) zero h a = a.0
all_at P (x ∷ hs) (suc k) h a = all_at P hs k (omega arith) a.1

fine_later : (t : ConnectionManager) → Sound t → (c : Call) (h : HeldGrant) → Fine t h → Fine (run c t).table h
fine_later t w c h q =
    record {
      whole = q.whole;
      below = rw (run_count c t) q.below;
      past = let r = run_life t w h.grant.index q.below c in omega (arith, r, q.past);
    }

fine_confirmed : (t : ConnectionManager) (m : ℕ) (h : HeldGrant) → Fine t h → Fine t (confirmed m h)
fine_confirmed t m h q = record { whole = let r = q.whole in omega arith; below = q.below; past = q.past }

fine_finished : (t : ConnectionManager) (h : HeldGrant) → Fine t h → Fine t (finished h)
fine_finished t h q = record { whole = q.whole; below = q.below; past = q.past }

-- ---- the grant that a call gives

-- the grant of n packets of slot j
abbrev new_grant : ℕ → ℕ → ConnectionStorage → HeldGrant
new_grant j n s =
    record { grant = record { handle = s.handle; packets = n; index = j; life = s.life }; size = n; sent = 0; ended = false }

-- an entry that is no grant; one that is no give-back
abbrev no_grant_lem : Entry → Type 0
no_grant_lem (grants n) = ⊥
no_grant_lem (completes n) = Unit {0}
no_grant_lem (gives n) = Unit {0}
no_grant_lem nothing = Unit {0}

abbrev no_return : Entry → Type 0
no_return (grants n) = Unit {0}
no_return (completes n) = Unit {0}
no_return (gives n) = ⊥
no_return nothing = Unit {0}

at_keeps : (P : Entry → Type 0) (i : ℕ) (f : Located) (e : Entry) → P nothing → P e → P (at i f e)
at_keeps P i Setup e z q = z
at_keeps P i Absent e z q = z
at_keeps P i (At j) e z q = split (eqb i j) (λ x. rw x q) (λ x. rw x z)

module _ (f : Located) (e : Entry) (r : Reply) (t : ConnectionManager) where
  record NoGrant : Type 0 where
    none : given_by e r ≡ []
    taken : no_grant_lem e

  record Granted : Type 0 where
    slot : ℕ
    size : ℕ
    place : f ≡ At slot
    below : slot < t.count
    is : e ≡ grants size
    given : given_by e r ≡ new_grant slot size (slot_at t slot) ∷ []

gives_none : (e : Entry) (r : Reply) → no_grant_lem e → given_by e r ≡ []
gives_none (grants n) r q = absurd q
gives_none (completes n) r q = refl
gives_none (gives n) r q = refl
gives_none nothing r q = refl

gave_none : {f : Located} {r : Reply} {t : ConnectionManager} (e : Entry) → no_grant_lem e → NoGrant f e r t ⊎ Granted f e r t
gave_none {f} {r} {t} e q = inl (record { none = gives_none e r q; taken = q })

abbrev is_ask : Kind → Bool
is_ask (asks n) = true
is_ask (reports n) = false
is_ask (returns f n) = false
is_ask other = false

entry_no_grant : (k : Kind) (r : Reply) (v : _) → is_ask k ≡ false → no_grant_lem (entry_for k r v)
entry_no_grant (asks n) r v e = absurd (false≢true (sym e))
entry_no_grant (reports n) r v e = split (eqb r.number 0) (λ q. rw q tt) (λ q. rw q tt)
entry_no_grant (returns f n) r v e = split (gave_back v) (λ q. rw q tt) (λ q. rw q tt)
entry_no_grant other r v e = tt

setup_no_grant : (k : Kind) → no_grant_lem (entry_for k (refusal Refusal.Setup) Nobody)
setup_no_grant (asks n) = tt
setup_no_grant (reports n) = tt
setup_no_grant (returns f n) = tt
setup_no_grant other = tt

-- whatever is no end of a grant
abbrev no_end : Kind → Type 0
no_end (asks n) = Unit {0}
no_end (reports n) = Unit {0}
no_end (returns f n) = ⊥
no_end other = Unit {0}

-- a call on a link is an ask, the end of a grant, or neither
data Seen : Op → Type 0 where
  an_ask : (j v n : ℕ) → Seen (poll_request_to_send j v n)
  an_end : (h v n : ℕ) → Seen (grant_end h v n)
  neither : {op : Op} → is_ask (kind_of op) ≡ false → no_end (kind_of op) → Seen op

seen : (op : Op) → Seen op
seen get_connected_handle = neither refl tt
seen inc_ref = neither refl tt
seen dec_ref = neither refl tt
seen (request_disconnect x) = neither refl tt
seen (request_handle_disconnect x) = neither refl tt
seen withdraw_disconnect = neither refl tt
seen (confirm h v x) = neither refl tt
seen (disconnected x) = neither refl tt
seen (post_handle_event e) = neither refl tt
seen next = neither refl tt
seen poll_acquire_acl_send_lock = neither refl tt
seen (unlock_acl_send h v) = neither refl tt
seen (poll_request_to_send j v n) = an_ask j v n
seen (grant_end h v n) = an_end h v n
seen (confirm_sent n) = neither refl tt
seen (has_link_credits n) = neither refl tt
seen (exchange_att_mtu m) = neither refl tt
seen get_att_mtu_handle = neither refl tt
seen (negotiate_att_mtu m) = neither refl tt
seen get_stored_att_mtu = neither refl tt
seen acquire_indication_slot = neither refl tt
seen release_indication_slot = neither refl tt
seen signal_indication_confirmation = neither refl tt
seen wait_indication_confirmation = neither refl tt

absent_no_grant : {op : Op} → Seen op → (d : ℕ) → no_grant_lem (entry_of op (absent op d) Nobody)
absent_no_grant (an_ask j v n) d = tt
absent_no_grant (an_end h v n) d = tt
absent_no_grant (neither {op} e q) d = entry_no_grant (kind_of op) _ _ e

module _ (t : ConnectionManager) (d j : ℕ) (h : j < t.count) where
  abbrev Given : Op → Type 0
  Given op =
      let l = local op d j (slot_at t j) in
      NoGrant (At j) (entry_of op l.reply l.woken) l.reply t ⊎ Granted (At j) (entry_of op l.reply l.woken) l.reply t

  no_ask : (op : Op) → is_ask (kind_of op) ≡ false → Given op
  no_ask op e = gave_none _ (entry_no_grant (kind_of op) _ _ e)

  op_given : {op : Op} → Seen op → Given op
  op_given (an_ask x v n) =
      split (leb n (slot_at t j).link_credits)
      (λ q. rw q (inr (record { slot = j; size = n; place = refl; below = h; is = refl; given = refl })))
      (λ q. rw q (inl (record { none = refl; taken = tt })))
  op_given (an_end x v n) = no_ask (grant_end x v n) refl
  op_given (neither {op} e q) = no_ask op e

link_given : (op : Op) (n : ℕ) (t : ConnectionManager) (f : Located) → locate (fits (way_of op) n) t ≡ f
    → let o = settle (absent op t.default_att_mtu) (done op t) t f in
    NoGrant f (entry (on_link op n) o) o.reply t ⊎ Granted f (entry (on_link op n) o) o.reply t
link_given op n t Setup e = gave_none _ (setup_no_grant (kind_of op))
link_given op n t Absent e = gave_none _ (absent_no_grant (seen op) t.default_att_mtu)
link_given op n t (At j) e = op_given t t.default_att_mtu j (located (fits (way_of op) n) t j e).1 (seen op)

call_given : (c : Call) (t : ConnectionManager)
    → NoGrant (found c t) (entry c (run c t)) (run c t).reply t ⊎ Granted (found c t) (entry c (run c t)) (run c t).reply t
call_given (on_link op n) t = link_given op n t (locate (fits (way_of op) n) t) refl
call_given (connects a b r p) t = gave_none nothing tt
call_given (poll_accept_call r ps) t = gave_none nothing tt
call_given (get_connection_by_peer_address_call a) t = gave_none nothing tt
call_given poll_disconnecting_call t = gave_none nothing tt
call_given (set_link_credits_call c) t = gave_none nothing tt
call_given total_lost_call t = gave_none nothing tt
call_given (poll_request_from_pool_call h k) t = gave_none nothing tt
call_given (pool_confirm_sent_call h k) t = gave_none nothing tt
call_given (pool_grant_end_call g) t = gave_none nothing tt
call_given (grant_confirm g n) t = gave_none nothing tt

-- ---- what gives nothing back: whatever is no end, and an end of another slot or another life

entry_no_return : (k : Kind) (r : Reply) (v : _) → no_end k → no_return (entry_for k r v)
entry_no_return (asks n) r v e = split (eqb r.number 0) (λ q. rw q tt) (λ q. rw q tt)
entry_no_return (reports n) r v e = split (eqb r.number 0) (λ q. rw q tt) (λ q. rw q tt)
entry_no_return (returns f n) r v e = absurd e
entry_no_return other r v e = tt

module _ (i f : ℕ) (t : ConnectionManager) (life : (slot_at t i).life ≡ f) where
  end_no_return : (h v n j : ℕ) → (eqb v f && eqb j i) ≡ false → (l : Located) → locate (fits by_index j) t ≡ l
      → let o = settle (refusal Refusal.Index) (done (grant_end h v n) t) t l in
      no_return (at i l (entry_of (grant_end h v n) o.reply o.woken))
  end_no_return h v n j e Setup q = tt
  end_no_return h v n j e Absent q = tt
  end_no_return h v n j e (At k) q =
      by_key (λ (x : ℕ). x) i k
      (λ p.
      let here : k ≡ j = eqb-true k j (located (fits by_index j) t k q).2 in
      let away : eqb v (slot_at t k).life ≡ false =
      ap (eqb v) (ap (λ (x : ℕ). (slot_at t x).life) (sym p) ∙ life)
      ∙ sym (and-true (eqb v f))
      ∙ ap (λ (x : Bool). eqb v f && x) (sym (eq-eqb j i (sym (p ∙ here))))
      ∙ e
      in
      rw (p, eq-eqb k k refl, away) tt)
      (λ p. rw (ne_eqb i k p) tt)

  no_end_here : (op : Op) (n : ℕ) → no_end (kind_of op) → no_return (entry_at i (on_link op n) t)
  no_end_here op n e =
      at_keeps no_return i (found (on_link op n) t) (entry (on_link op n) (run (on_link op n) t)) tt (entry_no_return (kind_of op) _ _ e)

  link_no_return : {op : Op} → Seen op → (n : ℕ) → (is_return f (kind_of op) && eqb n i) ≡ false → no_return (entry_at i (on_link op n) t)
  link_no_return (an_ask j v k) n e = no_end_here (poll_request_to_send j v k) n tt
  link_no_return (an_end h v k) n e = end_no_return h v k n e (locate (fits by_index n) t) refl
  link_no_return (neither {op} a q) n e = no_end_here op n q

  call_no_return : (c : Call) → forges i f c ≡ false → no_return (entry_at i c t)
  call_no_return (on_link op n) e = link_no_return (seen op) n e
  call_no_return (connects a b r p) e = tt
  call_no_return (poll_accept_call r ps) e = tt
  call_no_return (get_connection_by_peer_address_call a) e = tt
  call_no_return poll_disconnecting_call e = tt
  call_no_return (set_link_credits_call c) e = tt
  call_no_return total_lost_call e = tt
  call_no_return (poll_request_from_pool_call h k) e = tt
  call_no_return (pool_confirm_sent_call h k) e = tt
  call_no_return (pool_grant_end_call g) e = tt
  call_no_return (grant_confirm g n) e = tt

-- ---- what holds of a session, disciplined or not

pub record Sane (p : Session) : Type 0 where
  pub sound : Sound p.table
  pub fine : All (Fine p.table) p.held

given_fine : (c : Call) (t : ConnectionManager) → Sound t → All (Fine (run c t).table) (given_by (entry c (run c t)) (run c t).reply)
given_fine c t w =
    ⊎_elim
    (λ q. rw q.none tt)
    (λ (g : Granted (found c t) (entry c (run c t)) (run c t).reply t).
    rw g.given (
      fine_later t w c (new_grant g.slot g.size (slot_at t g.slot))
          (record { whole = omega arith; below = g.below; past = omega arith }),
      tt,
    ))
    (call_given c t)

pub sane_acted : (a : Act) (p : Session) → Sane p → Sane (acted a p)
sane_acted (does c) p w =
    record {
      sound = run_sound c p.table w.sound;
      fine =
          all_append (Fine (run c p.table).table) p.held _
          (all_map (Fine p.table) (Fine (run c p.table).table) p.held (λ h q. fine_later p.table w.sound c h q) w.fine)
          (given_fine c p.table w.sound);
    }
sane_acted (confirms k m) p w =
    record {
      sound = w.sound;
      fine = all_change (Fine p.table) k (confirmed m) p.held (λ h q. fine_confirmed p.table m h q) w.fine;
    }
sane_acted (ends k) p w =
    let c = end_of (get_or p.held k no_grant) in
    let u = (run c p.table).table in
    record {
      sound = run_sound c p.table w.sound;
      fine =
          all_change (Fine u) k finished p.held (λ h q. fine_finished u h q)
          (all_map (Fine p.table) (Fine u) p.held (λ h q. fine_later p.table w.sound c h q) w.fine);
    }

pub sane_acted_all : (acts : List Act) (p : Session) → Sane p → Sane (acted_all acts p)
sane_acted_all [] p w = w
sane_acted_all (a ∷ acts) p w = sane_acted_all acts (acted a p) (sane_acted a p w)

-- ---- a disciplined session

-- with x credits at the start of the life and n completed since
abbrev pub Within : ℕ → ℕ → ℕ → ℕ → Session → Type 0
Within x i f n p = (slot_at p.table i).link_credits + owed_by i f p.held ≤ x + n

counted : (e : Entry) (h h' : ℕ) → no_grant_lem e → no_return e → Entered e h h' → h' ≡ h + completed_by e
counted (grants n) h h' a b e = absurd a
counted (completes n) h h' a b e = e
counted (gives n) h h' a b e = absurd b
counted nothing h h' a b e = omega arith

module _ (x i f n : ℕ) (p : Session) (w : Sane p) (life : (slot_at p.table i).life ≡ f) (b : Within x i f n p) where
  within_call : (c : Call) → sets c ≡ false → forges i f c ≡ false → (slot_at (run c p.table).table i).life ≡ f
      → Within x i f (n + completed_in i (does c) p) (acted (does c) p)
  within_call c s e l = ⊎_elim without with_one (call_given c t)
    where
      t : ConnectionManager
      t = p.table

      entered : Entered (entry_at i c t) (slot_at t i).link_credits (slot_at (run c t).table i).link_credits
      entered = (stepped t w.sound i c s).credits (l ∙ sym life)

      without : NoGrant (found c t) (entry c (run c t)) (run c t).reply t → Within x i f (n + completed_in i (does c) p) (acted (does c) p)
      without q =
          let z =
          counted (entry_at i c t) _ _ (at_keeps no_grant_lem i (found c t) (entry c (run c t)) tt q.taken)
          (call_no_return i f t life c e) entered
          in
          rw (q.none, append-nil p.held) (omega (arith, z))

      with_one : Granted (found c t) (entry c (run c t)) (run c t).reply t → Within x i f (n + completed_in i (does c) p) (acted (does c) p)
      with_one g =
          let o = owed_append i f p.held (new_grant g.slot g.size (slot_at t g.slot) ∷ []) in
          by_key (λ (k : ℕ). k) i g.slot
          (λ q.
          let y : entry_at i c t ≡ grants g.size = rw (g.place, q, eq-eqb g.slot g.slot refl) g.is in
          let z = rw y at entered in
          let own : owed i f (new_grant g.slot g.size (slot_at t g.slot)) ≡ g.size =
          rw (eq-eqb g.slot i (sym q), eq-eqb (slot_at t g.slot).life f (ap (λ (k : ℕ). (slot_at t k).life) (sym q) ∙ life)) (omega arith)
          in
          rw (g.given, y, o) (omega (arith, z, own)))
          (λ q.
          let y : entry_at i c t ≡ nothing = rw (g.place, ne_eqb i g.slot q) in
          let z = rw y at entered in
          let own : owed i f (new_grant g.slot g.size (slot_at t g.slot)) ≡ 0 = rw (ne_eqb g.slot i (λ r. q (sym r))) in
          rw (g.given, y, o) (omega (arith, z, own)))

  within_confirm : (k m : ℕ) → InHand i f k p → Within x i f (n + 0) (acted (confirms k m) p)
  within_confirm k m g =
      let y = all_at (Fine p.table) p.held k g.0 w.fine in
      let r = owed_change i f k (confirmed m) p.held g.0 in
      let same : owed i f (confirmed m (get_or p.held k no_grant)) ≡ owed i f (get_or p.held k no_grant) =
      split (of_life i f (get_or p.held k no_grant))
      (λ q. let z = y.whole in rw (q, g.1 q) (omega arith))
      (λ q. rw q)
      in
      omega (arith, r, same)

  -- an end gives back at most what is left of a grant of this life
  ended_at_most : (g : PacketGrant)
      → (slot_at (run (on_link (grant_end g.handle g.life g.packets) g.index) p.table).table i).link_credits
      ≤ (slot_at p.table i).link_credits + cond (eqb g.index i && eqb g.life f) g.packets 0
  ended_at_most g = go (locate (fits by_index g.index) t) refl
    where
      t : ConnectionManager
      t = p.table

      back : (j : ℕ) (s : ConnectionStorage)
          → (in_life g.life s (where_live s (grant_ended g.packets j s))).slot.link_credits
          ≤ s.link_credits + cond (eqb g.life s.life) g.packets 0
      back j s =
          split (eqb g.life s.life)
          (λ a.
          rw a
          (split (is_live s.state)
          (λ b.
          rw b
          (split (eqb g.packets 0)
          (λ c. rw c (omega arith))
          (λ c.
          rw c (split (ltb (s.link_credits + g.packets) (2 ^ 32)) (λ d. rw d (omega arith)) (λ d. rw d (omega arith))))))
          (λ b. rw b (omega arith))))
          (λ a. rw a (omega arith))

      go : (l : Located) → locate (fits by_index g.index) t ≡ l
          → (slot_at (settle (refusal Refusal.Index) (done (grant_end g.handle g.life g.packets) t) t l).table i).link_credits
          ≤ (slot_at t i).link_credits + cond (eqb g.index i && eqb g.life f) g.packets 0
      go Setup e = omega arith
      go Absent e = omega arith
      go (At j) e =
          let at_j = located (fits by_index g.index) t j e in
          let here : j ≡ g.index = eqb-true j g.index at_j.2 in
          let d = done (grant_end g.handle g.life g.packets) t j in
          put_each t j d.slot
          (λ u. u.link_credits ≤ (slot_at t i).link_credits + cond (eqb g.index i && eqb g.life f) g.packets 0) i
          (λ q.
          let z = back j (slot_at t j) in
          rw (eq-eqb g.index i (sym here ∙ sym q), ← life, q) z)
          (omega arith)
          (omega (arith, at_j.1, w.sound.places, w.sound.formed.most))

  within_end : (k : ℕ) → InHand i f k p → Within x i f (n + 0) (acted (ends k) p)
  within_end k g =
      let o = get_or p.held k no_grant in
      let r = owed_change i f k finished p.held g.0 in
      let z = ended_at_most o.grant in
      let less : owed i f (finished o) + cond (of_life i f o) o.grant.packets 0 ≡ owed i f o =
      split (of_life i f o) (λ q. rw (q, g.1 q) (omega arith)) (λ q. rw q)
      in
      omega (arith, r, z, less)

-- ---- histories

now : (i f n : ℕ) (acts : List Act) (p : Session) → Disciplined i f n acts p → Covered i f n p
now i f n [] p d = d
now i f n (a ∷ acts) p d = d.0

-- a beginning of a disciplined history is one
beginning : (i f n : ℕ) (acts later : List Act) (p : Session) → Disciplined i f n (acts ++ later) p → Disciplined i f n acts p
beginning i f n [] later p d = now i f n later p d
beginning i f n (a ∷ acts) later p d = (d.0, d.1, beginning i f (n + completed_in i a p) acts later (acted a p) d.2)

within : (x i f n : ℕ) (a : Act) (p : Session) → Sane p → Covered i f n p → Proper i f a p
    → (slot_at (acted a p).table i).life ≡ f → Within x i f n p → Within x i f (n + completed_in i a p) (acted a p)
within x i f n (does c) p w k q l b = within_call x i f n p w k.0 b c q.0 q.1 l
within x i f n (confirms j m) p w k q l b = within_confirm x i f n p w k.0 b j m q
within x i f n (ends j) p w k q l b = within_end x i f n p w k.0 b j q

pub bounded : (x i f n : ℕ) (acts : List Act) (p : Session) → Sane p → Disciplined i f n acts p → Within x i f n p
    → (slot_at (acted_all acts p).table i).link_credits ≤ x
bounded x i f n [] p w d b = let s = sent_owed i f p.held in omega (arith, d.1)
bounded x i f n (a ∷ acts) p w d b =
    bounded x i f (n + completed_in i a p) acts (acted a p) (sane_acted a p w) d.2
    (within x i f n a p w d.0 d.1 (now i f _ acts _ d.2).0 b)

-- ---- the start of the life: no grant of it was given yet

pub none_owed : (i f : ℕ) (t : ConnectionManager) (hs : List HeldGrant) → (slot_at t i).life < f → All (Fine t) hs → owed_by i f hs ≡ 0
none_owed i f t [] l a = refl
none_owed i f t (h ∷ hs) l a =
    let r = none_owed i f t hs l a.1 in
    let z : owed i f h ≡ 0 =
    split (of_life i f h)
    (λ q.
    let s = eqb-true h.grant.index i (and_left (eqb h.grant.index i) _ q) in
    let k = eqb-true h.grant.life f (and_right (eqb h.grant.index i) _ q) in
    let y = rw s at a.0.past in
    absurd (omega (arith, y, k)))
    (λ q. rw q)
    in
    omega (arith, r, z)

pub credit_bound : CreditBound
unfolding CreditBound
credit_bound n m c e earlier a b o q i free z acts later d =
    let before = acted_all earlier (record { table = (new n m c).table; held = [] }) in
    let start = acted (does (connects a b o q)) before in
    let w : Sane before = sane_acted_all earlier _ (record { sound = new_sound n m c e; fine = tt }) in
    let born = ap (λ s. s.life) (connected a b o q before.table i w.sound free z) in
    let none = none_owed i (slot_at start.table i).life before.table before.held (omega (arith, born)) w.fine in
    bounded (slot_at start.table i).link_credits i (slot_at start.table i).life 0 acts start (sane_acted (does (connects a b o q)) before w)
    (beginning i _ 0 acts later start d)
    (rw (append-nil before.held) (omega (arith, none)))

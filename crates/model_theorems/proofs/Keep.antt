-- What every call on a link keeps of its slot: the handle, the life, that the slot is well formed, the lost count where no event met a
-- full queue, and where it is refused all that document 01's table does not name. One proof by cases on the call. Assumes nothing.
use Rattle.std.specs.Prelude.{ℕ, ◌+◌, ◌-◌, ◌^◌, ◌≡◌, refl, ◌≢◌, Bool, true, false, cond, ◌&&◌, List, [], ◌∷◌, leb, ltb, eqb}
use Rattle.std.proofs.Common.{ap, arith, leb-true, leb-false, le-leb}
use Rattle.state.specs.declared.DisconnectReason.{DisconnectReason}
use Rattle.state.specs.declared.DisconnectReason.TheVariants.{RemoteUserTerminatedConn}
use Rattle.event_queue.specs.declared.ConnectionEvent.{ConnectionEvent}
use Rattle.event_queue.specs.declared.ConnectionEvent.TheVariants as event
use Rattle.event_queue.specs.declared.EventQueue.{EventQueue}
use Rattle.slot.specs.declared.ConnectionStorage.{ConnectionStorage}
use Rattle.state.specs.State.{is_live, is_connected, is_requesting, is_open}
use Rattle.event_queue.specs.Queue.{pushed, popped}
use Rattle.slot.specs.Set.{set_refcount, set_events}
use Rattle.model.specs.Answer.{Local, accept, raised, next_count}
use Rattle.model.specs.Find.{slot_ok}
use Rattle.model.proofs.Laws.{split, either}
use Rattle.model.specs.Link.{Op, get_connected_handle, inc_ref, dec_ref, request_disconnect, request_handle_disconnect, withdraw_disconnect, confirm, disconnected, post_handle_event, next, poll_acquire_acl_send_lock, unlock_acl_send, poll_request_to_send, grant_end, confirm_sent, has_link_credits, exchange_att_mtu, get_att_mtu_handle, negotiate_att_mtu, get_stored_att_mtu, acquire_indication_slot, release_indication_slot, signal_indication_confirmation, wait_indication_confirmation, local, stale, in_life, where_live, stored, one_lost, blocked, raised_ref, requested, withdrawn, after_drop, dropped_ref, confirmed, posted, next_of, locked, unlocked, granted, credited, grant_ended, acquired, waited}
use Rattle.model_theorems.specs.Refusals.{sends}
use Rattle.model_theorems.specs.Lost.{queues, is_full}

-- ---- what is kept

module _ (op : Op) (s : ConnectionStorage) (l : Local) where
  pub record Kept : Type 0 where
    pub handle : l.slot.handle ≡ s.handle
    pub life : l.slot.life ≡ s.life
    pub formed : slot_ok s ≡ true → slot_ok l.slot ≡ true
    pub lost : l.slot.lost ≡ raised (queues op && is_full s) s.lost
    pub unchanged : l.reply.number ≢ 0 → l.reply.number ≢ 4 → l.reply.number ≢ 5 → l.slot ≡ s
    pub out_of_memory : l.reply.number ≡ 4 → (e : ConnectionEvent) × (op ≡ post_handle_event e) × (l.slot ≡ one_lost (stored e s))
    pub pending : l.reply.number ≡ 5 → l.slot ≡ cond (sends op) (blocked s) s

-- accepted
taken : {op : Op} {s : ConnectionStorage} {l : Local}
    → l.reply.number ≡ 0 → l.slot.handle ≡ s.handle → l.slot.life ≡ s.life → (slot_ok s ≡ true → slot_ok l.slot ≡ true)
    → l.slot.lost ≡ raised (queues op && is_full s) s.lost → Kept op s l
taken z p v q k =
    record {
      handle = p;
      life = v;
      formed = q;
      lost = k;
      unchanged = λ n. absurd (n z);
      out_of_memory = λ f. absurd (omega arith);
      pending = λ f. absurd (omega arith);
    }

-- accepted, with the queue and the lost count as they were
accepted : {op : Op} {s : ConnectionStorage} {l : Local} → queues op ≡ false
    → l.reply.number ≡ 0 → l.slot.handle ≡ s.handle → l.slot.life ≡ s.life → l.slot.events ≡ s.events → l.slot.lost ≡ s.lost → Kept op s l
accepted f z p v q k = taken z p v (λ h. rw q h) (rw f k)

-- refused, neither 4 nor 5, with the slot as it was
refused : {op : Op} {s : ConnectionStorage} {l : Local} → queues op ≡ false
    → l.reply.number ≢ 4 → l.reply.number ≢ 5 → l.slot ≡ s → Kept op s l
refused f a b p =
    record {
      handle = ap (λ (u : ConnectionStorage). u.handle) p;
      life = ap (λ (u : ConnectionStorage). u.life) p;
      formed = λ h. rw p h;
      lost = rw f (ap (λ (u : ConnectionStorage). u.lost) p);
      unchanged = λ n m k. p;
      out_of_memory = λ f. absurd (a f);
      pending = λ f. absurd (b f);
    }

-- 5
waits : {op : Op} {s : ConnectionStorage} {l : Local} → queues op ≡ false
    → l.reply.number ≡ 5 → l.slot ≡ cond (sends op) (blocked s) s
    → l.slot.handle ≡ s.handle → l.slot.life ≡ s.life → l.slot.events ≡ s.events → l.slot.lost ≡ s.lost → Kept op s l
waits f z p a v b c =
    record {
      handle = a;
      life = v;
      formed = λ h. rw b h;
      lost = rw f c;
      unchanged = λ n m k. absurd (k z);
      out_of_memory = λ f. absurd (omega arith);
      pending = λ g. p;
    }

-- ---- a queue stays short

pub push_short : (q : EventQueue) (e : ConnectionEvent) → leb q.len 4 ≡ true → leb (pushed q e).queue.len 4 ≡ true
push_short q e h =
    split (leb 4 q.len)
    (λ f. rw f h)
    (λ f. rw f (le-leb (q.len + 1) 4 (omega (arith, leb-false 4 q.len f))))

push_full : (q : EventQueue) (e : ConnectionEvent) → (pushed q e).full ≡ leb 4 q.len
push_full q e = split (leb 4 q.len) (λ f. rw f) (λ f. rw f)

pub pop_short : (q : EventQueue) → leb q.len 4 ≡ true → leb (popped q).queue.len 4 ≡ true
pop_short q h =
    split (eqb q.len 0)
    (λ f. rw f h)
    (λ f. rw f (le-leb (q.len - 1) 4 (omega (arith, leb-true q.len 4 h))))

-- ---- an event's parameters

stored_handle : (e : ConnectionEvent) (s : ConnectionStorage) → (stored e s).handle ≡ s.handle
stored_handle (event.Disconnected v) s = refl
stored_handle (event.PhyUpdated a b) s = refl
stored_handle (event.ConnectionParamsUpdated a b c) s = refl
stored_handle (event.SubratingParamsUpdated a b c d) s = refl
stored_handle (event.DataLengthUpdated a b c d) s = refl
stored_handle (event.ConnectionRateChanged a b c d e) s = refl

stored_lost : (e : ConnectionEvent) (s : ConnectionStorage) → (stored e s).lost ≡ s.lost
stored_lost (event.Disconnected v) s = refl
stored_lost (event.PhyUpdated a b) s = refl
stored_lost (event.ConnectionParamsUpdated a b c) s = refl
stored_lost (event.SubratingParamsUpdated a b c d) s = refl
stored_lost (event.DataLengthUpdated a b c d) s = refl
stored_lost (event.ConnectionRateChanged a b c d e) s = refl

stored_life : (e : ConnectionEvent) (s : ConnectionStorage) → (stored e s).life ≡ s.life
stored_life (event.Disconnected v) s = refl
stored_life (event.PhyUpdated a b) s = refl
stored_life (event.ConnectionParamsUpdated a b c) s = refl
stored_life (event.SubratingParamsUpdated a b c d) s = refl
stored_life (event.DataLengthUpdated a b c d) s = refl
stored_life (event.ConnectionRateChanged a b c d e) s = refl

stored_events : (e : ConnectionEvent) (s : ConnectionStorage) → set_events (stored e s) s.events ≡ stored e s
stored_events (event.Disconnected v) s = refl
stored_events (event.PhyUpdated a b) s = refl
stored_events (event.ConnectionParamsUpdated a b c) s = refl
stored_events (event.SubratingParamsUpdated a b c d) s = refl
stored_events (event.DataLengthUpdated a b c d) s = refl
stored_events (event.ConnectionRateChanged a b c d e) s = refl

-- ---- each call

kept_requested : {op : Op} → queues op ≡ false → (r : DisconnectReason) (s u : ConnectionStorage) → u.handle ≡ s.handle → u.life ≡ s.life → u.events ≡ s.events
    → u.lost ≡ s.lost → Kept op s (requested r u)
kept_requested o r s u p v q k =
    split (is_connected u.state) (λ f. rw f (accepted o refl p v q k)) (λ f. rw f (accepted o refl p v q k))

kept_credited : {op : Op} → queues op ≡ false → (n i : ℕ) (s : ConnectionStorage) → Kept op s (credited n i s)
kept_credited o n i s =
    split (ltb (s.link_credits + n) (2 ^ 32))
    (λ f. rw f (accepted o refl refl refl refl refl))
    (λ f. rw f (refused o (omega arith) (omega arith) refl))

kept_raised : {op : Op} → queues op ≡ false → (vs : List ℕ) (s : ConnectionStorage) → Kept op s (raised_ref vs s)
kept_raised o vs s =
    split (eqb s.refcount 255)
    (λ f. rw f (refused o (omega arith) (omega arith) refl))
    (λ f. rw f (accepted o refl refl refl refl refl))

kept_withdrawn : (s : ConnectionStorage) → Kept withdraw_disconnect s (withdrawn s)
kept_withdrawn s =
    split (is_requesting s.state)
    (λ f.
    rw f
    (split (eqb s.refcount 0)
    (λ g. rw g (refused refl (omega arith) (omega arith) refl))
    (λ g. rw g (accepted refl refl refl refl refl refl))))
    (λ f. rw f (accepted refl refl refl refl refl refl))

kept_after_drop : {op : Op} → queues op ≡ false → (s u : ConnectionStorage) → u.handle ≡ s.handle → u.life ≡ s.life → u.events ≡ s.events
    → u.lost ≡ s.lost → Kept op s (after_drop u)
kept_after_drop o s u p v q k =
    split (eqb u.refcount 0)
    (λ f. rw f (kept_requested o RemoteUserTerminatedConn s u p v q k))
    (λ f. rw f (accepted o refl p v q k))

kept_dropped : {op : Op} → queues op ≡ false → (s : ConnectionStorage) → Kept op s (dropped_ref s)
kept_dropped o s =
    split (eqb s.refcount 0)
    (λ f. rw f (refused o (omega arith) (omega arith) refl))
    (λ f. rw f (kept_after_drop o s (set_refcount s (s.refcount - 1)) refl refl refl refl))

kept_confirmed : {op : Op} → queues op ≡ false → (r : DisconnectReason) (s : ConnectionStorage) → Kept op s (confirmed r s)
kept_confirmed o r s =
    split (is_requesting s.state) (λ f. rw f (accepted o refl refl refl refl refl)) (λ f. rw f (accepted o refl refl refl refl refl))

kept_posted : (e : ConnectionEvent) (s : ConnectionStorage) → Kept (post_handle_event e) s (posted e s)
kept_posted e s =
    split (leb 4 s.events.len)
    (λ f.
    rw f
    (record {
      handle = stored_handle e s;
      life = stored_life e s;
      formed = λ h. h;
      lost = rw f (ap next_count (stored_lost e s));
      unchanged = λ n m. absurd (m refl);
      out_of_memory = λ g. (e, refl, ap one_lost (stored_events e s));
      pending = λ g. absurd (omega arith);
    }))
    (λ f. rw f (taken refl (stored_handle e s) (stored_life e s) (λ h. rw f at (push_short s.events e h)) (rw f (stored_lost e s))))

kept_next : (s : ConnectionStorage) → Kept next s (next_of s)
kept_next s =
    split (eqb s.events.len 0)
    (λ f. rw f (waits refl refl refl refl refl refl refl))
    (λ f. rw f (taken refl refl refl (λ h. rw f at (pop_short s.events h)) refl))

kept_locked : (i : ℕ) (s : ConnectionStorage) → Kept poll_acquire_acl_send_lock s (locked i s)
kept_locked i s =
    split s.acl_send_locked (λ f. rw f (waits refl refl refl refl refl refl refl)) (λ f. rw f (accepted refl refl refl refl refl refl))

kept_unlocked : {op : Op} → queues op ≡ false → (i : ℕ) (s : ConnectionStorage) → Kept op s (unlocked i s)
kept_unlocked o i s =
    split s.acl_send_locked (λ f. rw f (accepted o refl refl refl refl refl)) (λ f. rw f (accepted o refl refl refl refl refl))

kept_granted : (j v n i : ℕ) (s : ConnectionStorage) → Kept (poll_request_to_send j v n) s (granted n i s)
kept_granted j v n i s =
    split (leb n s.link_credits) (λ f. rw f (accepted refl refl refl refl refl refl)) (λ f. rw f (waits refl refl refl refl refl refl refl))

kept_grant_ended : {op : Op} → queues op ≡ false → (n i : ℕ) (s : ConnectionStorage) → Kept op s (grant_ended n i s)
kept_grant_ended o n i s =
    split (eqb n 0) (λ f. rw f (accepted o refl refl refl refl refl)) (λ f. rw f (kept_credited o n i s))

-- the end of a lock, a grant or a ticket
kept_in_life : {op : Op} → queues op ≡ false → (life : ℕ) (s : ConnectionStorage) (l : Local) → Kept op s l
    → Kept op s (in_life life s l)
kept_in_life {op} o life s l k =
    either (λ m. Kept op s m) (eqb life s.life) l (accept stale s) k (accepted o refl refl refl refl refl)

kept_where_live : {op : Op} → queues op ≡ false → (s : ConnectionStorage) (l : Local) → Kept op s l → Kept op s (where_live s l)
kept_where_live {op} o s l k = either (λ m. Kept op s m) (is_live s.state) l (accept [] s) k (accepted o refl refl refl refl refl)

kept_acquired : (s : ConnectionStorage) → Kept acquire_indication_slot s (acquired s)
kept_acquired s =
    split (is_open s.state)
    (λ f.
    rw f
    (split s.indication_in_flight (λ g. rw g (waits refl refl refl refl refl refl refl)) (λ g. rw g (accepted refl refl refl refl refl refl))))
    (λ f. rw f (refused refl (omega arith) (omega arith) refl))

kept_waited : (s : ConnectionStorage) → Kept wait_indication_confirmation s (waited s)
kept_waited s =
    split s.indication_cfm_received
    (λ f. rw f (accepted refl refl refl refl refl refl))
    (λ f.
    rw f
    (split (is_open s.state)
    (λ g. rw g (waits refl refl refl refl refl refl refl))
    (λ g. rw g (refused refl (omega arith) (omega arith) refl))))

pub kept : (op : Op) (d i : ℕ) (s : ConnectionStorage) → Kept op s (local op d i s)
kept get_connected_handle d i s = kept_raised refl (i ∷ []) s
kept inc_ref d i s = kept_raised refl [] s
kept dec_ref d i s = kept_dropped refl s
kept (request_disconnect r) d i s = kept_requested refl r s s refl refl refl refl
kept (request_handle_disconnect r) d i s = kept_requested refl r s s refl refl refl refl
kept withdraw_disconnect d i s = kept_withdrawn s
kept (confirm h v r) d i s = kept_in_life refl v s _ (kept_confirmed refl r s)
kept (disconnected v) d i s =
    taken refl refl refl (λ h. push_short s.events (event.Disconnected v) h)
    (ap (λ (b : Bool). raised b s.lost) (push_full s.events (event.Disconnected v)))
kept (post_handle_event e) d i s = kept_posted e s
kept next d i s = kept_next s
kept poll_acquire_acl_send_lock d i s = kept_locked i s
kept (unlock_acl_send h v) d i s = kept_in_life refl v s _ (kept_where_live refl s _ (kept_unlocked refl i s))
kept (poll_request_to_send j v n) d i s = kept_granted j v n i s
kept (grant_end h v n) d i s = kept_in_life refl v s _ (kept_where_live refl s _ (kept_grant_ended refl n i s))
kept (confirm_sent n) d i s = kept_credited refl n i s
kept (has_link_credits n) d i s = accepted refl refl refl refl refl refl
kept (exchange_att_mtu m) d i s = accepted refl refl refl refl refl refl
kept get_att_mtu_handle d i s = accepted refl refl refl refl refl refl
kept (negotiate_att_mtu m) d i s = accepted refl refl refl refl refl refl
kept get_stored_att_mtu d i s = accepted refl refl refl refl refl refl
kept acquire_indication_slot d i s = kept_acquired s
kept release_indication_slot d i s = accepted refl refl refl refl refl refl
kept signal_indication_confirmation d i s = accepted refl refl refl refl refl refl
kept wait_indication_confirmation d i s = kept_waited s

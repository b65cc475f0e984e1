-- Rows for the packet pool: asks and their turn, what comes back, 8, 13 and 14. Assumes nothing.
use Rattle.std.specs.Prelude.{ℕ, false, List, [], ◌∷◌, ◌++◌, map}
use Rattle.state.specs.declared.DisconnectReason.TheVariants as reason
use Rattle.state.specs.declared.ConnectionState.{ConnectionState}
use Rattle.state.specs.declared.ConnectionState.TheVariants as state
use Rattle.event_queue.specs.declared.ConnectionEvent.TheVariants as event
use Rattle.event_queue.specs.Queue.{pushed}
use Rattle.pool.specs.declared.Pool.{Pool}
use Rattle.slot.specs.declared.ConnectionStorage.{ConnectionStorage}
use Rattle.slot.specs.declared.ConnectionManager.{ConnectionManager}
use Rattle.slot.specs.Fresh.{fresh_slot}
use Rattle.slot.specs.Set.{set_handle, set_life, set_link_credits, set_acl_send_locked, set_refcount, set_blocked_sends, set_pool_held, set_indication_in_flight, set_indication_cfm_received, set_events, set_pool}
use Rattle.slot.specs.declared.Woken.TheVariants.{Nobody, Peripheral, Disconnect, LinkCredit, Link}
use Rattle.model.specs.Find.{slot_at}
use Rattle.model.specs.Link.{inc_ref, dec_ref, request_disconnect, withdraw_disconnect, confirm, disconnected, grant_end, confirm_sent, poll_request_to_send}
use Rattle.model.specs.Calls.{Call, put, run, on_link, get_connection_by_peer_address_call, poll_disconnecting_call, set_link_credits_call, total_lost_call, poll_request_from_pool_call, pool_confirm_sent_call}
use Rattle.model.specs.History.{fresh_table}
use Rattle.table_rows.specs.Row.{Item, gives, shows, leaves, Row, fresh, from, refused, shuffled, pool_values}
use Rattle.table_rows.specs.Shared.{peer, connect_to, accept, opened, quiet, data_length, pool_end}
use Rattle.table_rows.specs.Tables.{two_slots, queue_of, laden, eights}

-- ---- calls and what they answer

-- an ask by this handle: the number; or the grant, of slot i in life v
abbrev asks : (handle packets number : ℕ) → Item
asks h k n = gives (poll_request_from_pool_call h k) n [] Nobody

abbrev granted : (handle packets i v : ℕ) → Item
granted h k i v = gives (poll_request_from_pool_call h k) 0 (h ∷ k ∷ i ∷ v ∷ []) Nobody

abbrev completes : (handle packets number : ℕ) → Item
completes h k n = gives (pool_confirm_sent_call h k) n [] Nobody

-- the end of a grant with these packets left: the number; or Stale
abbrev ends : (handle packets i v number : ℕ) → Item
ends h k i v n = gives (pool_end h k i v) n [] Nobody

abbrev late : (handle packets i v : ℕ) → Item
late h k i v = gives (pool_end h k i v) 0 (1 ∷ []) Nobody

-- ---- from a fresh table

-- links 0 and 1, with handles 64 and 65
abbrev both_opened : List Item → List Item
both_opened is = opened (gives (connect_to 65 2) 0 [] Peripheral ∷ gives accept 0 (1 ∷ []) Nobody ∷ is)

-- free packets, who waits, one after the slot last granted; of slots 0 and 1 what they hold, and their blocked sends
abbrev in_pool : ConnectionManager → List ℕ
in_pool t =
    t.pool.free
    ∷ t.pool.waiting
    ∷ t.pool.turn
    ∷ (slot_at t 0).pool_held
    ∷ (slot_at t 1).pool_held
    ∷ (slot_at t 0).blocked_sends
    ∷ (slot_at t 1).blocked_sends
    ∷ []

-- both links wait, and link 0 holds 2 of 3 packets
abbrev both_wait : List Call
both_wait =
    connect_to 64 1
    ∷ accept
    ∷ connect_to 65 2
    ∷ accept
    ∷ poll_request_from_pool_call 64 2
    ∷ poll_request_from_pool_call 65 2
    ∷ poll_request_from_pool_call 64 1
    ∷ []

abbrev histories : List Row
histories =
    -- "c packets, 1 to 255, fixed when the table is made (8 outside ..": all of them free, and nobody waits
    refused 1 251 0 8
    ∷ refused 1 251 256 8
    ∷ fresh 1 251 1 (shows (λ t. pool_values t.pool) (1 ∷ 1 ∷ 0 ∷ 0 ∷ []) ∷ [])
    ∷ fresh 1 251 255
    (shows (λ t. pool_values t.pool) (255 ∷ 255 ∷ 0 ∷ 0 ∷ []) ∷ opened (asks 64 256 13 ∷ granted 64 255 0 1 ∷ []))
    -- "granted exactly if the slot is the next waiting one .. and the packets are free; else Pending, counted in `blocked_sends`":
    -- link 1 is the next, so link 0 waits too, though its one packet is free
    ∷ fresh 2 251 3
    (both_opened
    (granted 64 2 0 1
    ∷ shows in_pool (1 ∷ 0 ∷ 1 ∷ 2 ∷ 0 ∷ 0 ∷ 0 ∷ [])
    ∷ asks 65 2 5
    ∷ shows in_pool (1 ∷ 2 ∷ 1 ∷ 2 ∷ 0 ∷ 0 ∷ 1 ∷ [])
    ∷ asks 64 1 5
    ∷ shows in_pool (1 ∷ 3 ∷ 1 ∷ 2 ∷ 0 ∷ 1 ∷ 1 ∷ [])
    -- calls that have nothing to do with the pool leave the waits
    ∷ gives (set_link_credits_call 9) 0 [] Nobody
    ∷ gives total_lost_call 0 (0 ∷ []) Nobody
    ∷ gives (get_connection_by_peer_address_call (peer 2)) 0 (1 ∷ []) Nobody
    ∷ shows in_pool (1 ∷ 3 ∷ 1 ∷ 2 ∷ 0 ∷ 1 ∷ 1 ∷ [])
    -- "An ask of 0 is granted and touches no turn", nor a wait; "13 for an ask above c"
    ∷ granted 64 0 0 1
    ∷ granted 65 0 1 1
    ∷ asks 64 4 13
    ∷ shows in_pool (1 ∷ 3 ∷ 1 ∷ 2 ∷ 0 ∷ 1 ∷ 1 ∷ [])
    ∷ granted 65 1 1 1
    ∷ shows in_pool (0 ∷ 1 ∷ 2 ∷ 2 ∷ 1 ∷ 1 ∷ 1 ∷ [])
    -- the next, and nothing is free: it waits already, and is counted again; an ask of 0 is granted
    ∷ asks 64 1 5
    ∷ granted 65 0 1 1
    ∷ shows in_pool (0 ∷ 1 ∷ 2 ∷ 2 ∷ 1 ∷ 2 ∷ 1 ∷ [])
    -- packets that come back wake nobody, though the waiting one could be granted
    ∷ completes 65 1 0
    ∷ shows in_pool (1 ∷ 1 ∷ 2 ∷ 2 ∷ 0 ∷ 2 ∷ 1 ∷ [])
    ∷ granted 64 1 0 1
    ∷ shows in_pool (0 ∷ 0 ∷ 1 ∷ 3 ∷ 0 ∷ 2 ∷ 1 ∷ [])
    ∷ ends 64 3 0 1 0
    ∷ shows in_pool (3 ∷ 0 ∷ 1 ∷ 0 ∷ 0 ∷ 2 ∷ 1 ∷ [])
    ∷ []))
    -- nobody waits: the slot last granted is granted again, up to the whole pool; `set_link_credits` leaves it
    ∷ fresh 2 251 3
    (both_opened
    (granted 64 1 0 1
    ∷ granted 64 2 0 1
    ∷ gives (set_link_credits_call 9) 0 [] Nobody
    ∷ shows in_pool (0 ∷ 0 ∷ 1 ∷ 3 ∷ 0 ∷ 0 ∷ 0 ∷ [])
    ∷ []))
    -- a link that is connecting draws and waits too, and waits on when it is accepted
    ∷ fresh 2 251 3
    (gives (connect_to 64 1) 0 [] Peripheral
    ∷ granted 64 3 0 1
    ∷ asks 64 1 5
    ∷ gives accept 0 (0 ∷ []) Nobody
    ∷ shows in_pool (0 ∷ 1 ∷ 1 ∷ 3 ∷ 0 ∷ 1 ∷ 0 ∷ [])
    ∷ [])
    -- a wait outlives a request, its withdrawal and a ticket, and keeps others from their turn; it ends with its link
    ∷ fresh 2 251 3
    (both_opened
    (granted 65 3 1 1
    ∷ asks 64 1 5
    ∷ completes 65 1 0
    ∷ gives (on_link (request_disconnect reason.AuthenticationFailure) 0) 0 [] Disconnect
    ∷ gives poll_disconnecting_call 0 (0 ∷ 64 ∷ 5 ∷ 1 ∷ []) Nobody
    ∷ asks 64 1 3
    ∷ asks 65 1 5
    ∷ shows in_pool (1 ∷ 3 ∷ 2 ∷ 0 ∷ 2 ∷ 1 ∷ 1 ∷ [])
    ∷ quiet withdraw_disconnect 0
    ∷ asks 64 2 5
    ∷ shows in_pool (1 ∷ 3 ∷ 2 ∷ 0 ∷ 2 ∷ 2 ∷ 1 ∷ [])
    ∷ gives (on_link (request_disconnect reason.AuthenticationFailure) 0) 0 [] Disconnect
    ∷ quiet (confirm 64 1 reason.AuthenticationFailure) 0
    ∷ asks 65 1 5
    ∷ shows in_pool (1 ∷ 3 ∷ 2 ∷ 0 ∷ 2 ∷ 2 ∷ 2 ∷ [])
    ∷ gives (on_link (disconnected 8) 64) 0 [] (Link 0)
    ∷ shows in_pool (1 ∷ 2 ∷ 2 ∷ 0 ∷ 2 ∷ 0 ∷ 2 ∷ [])
    ∷ granted 65 1 1 1
    ∷ shows in_pool (0 ∷ 0 ∷ 2 ∷ 0 ∷ 3 ∷ 0 ∷ 2 ∷ [])
    ∷ []))
    -- a link drops off and comes back under its handle: its packets came back with `disconnected`, and the late end is 2 while
    -- the slot is closed, Stale then, and touches no packet of the new link
    ∷ fresh 1 251 3
    (opened
    (granted 64 2 0 1
    ∷ gives (on_link (disconnected 8) 64) 0 [] (Link 0)
    ∷ ends 64 2 0 1 2
    ∷ completes 64 1 2
    ∷ shows in_pool (3 ∷ 0 ∷ 1 ∷ 0 ∷ 0 ∷ 0 ∷ 0 ∷ [])
    ∷ quiet dec_ref 0
    ∷ opened
    (granted 64 3 0 2
    ∷ late 64 2 0 1
    ∷ shows in_pool (0 ∷ 0 ∷ 1 ∷ 3 ∷ 0 ∷ 0 ∷ 0 ∷ [])
    ∷ ends 64 2 0 2 0
    ∷ shows in_pool (2 ∷ 0 ∷ 1 ∷ 1 ∷ 0 ∷ 0 ∷ 0 ∷ [])
    ∷ [])))
    -- "The shuffle promise stays with lists that use link credits only": from a table in which both links wait, the pool too is
    -- the same in every order
    ∷ shuffled 2 251 3 both_wait
    ((0, data_length) ∷ (1, disconnected 8) ∷ (0, confirm_sent 2) ∷ (0, disconnected 8) ∷ (1, confirm_sent 1) ∷ [])
    ((0 ∷ []) ∷ (0 ∷ []) ∷ (0 ∷ []) ∷ (0 ∷ []) ∷ (2 ∷ []) ∷ [])
    ((0 ∷ 1 ∷ []) ∷ (1 ∷ 0 ∷ []) ∷ [])
    ∷ []

-- ---- tables handed in, and the whole table afterwards

-- a slot of which nothing is fresh: its link has 5 credits and 7 blocked sends, and holds this many packets of the pool
abbrev link : ConnectionState → (handle life held : ℕ) → ConnectionStorage
link s h v k = set_pool_held (set_life (set_handle (laden s 1) h) v) k

-- of 6 packets this many are free
abbrev six_of : (free waiting turn : ℕ) → Pool
six_of free waiting turn = record { packets = 6; free = free; waiting = waiting; turn = turn }

-- slot 0, Connected, holds 1; slot 2, Connecting, holds none; slot 1 as given
abbrev three : Pool → ConnectionStorage → ConnectionManager
three p s = set_pool (put (put (put (fresh_table 3 251 6) 0 (link state.Connected 64 5 1)) 1 s) 2 (link state.Connecting 66 9 0)) p

-- slot 1, in this state, holds 2; 3 are free, slot 0 was last granted, slot 2 waits
module _ (s : ConnectionState) where
  abbrev holding : ℕ → ConnectionStorage
  holding k = link s 65 3 k

  abbrev start : ConnectionManager
  start = three (six_of 3 4 1) (holding 2)

  -- its own wait too
  abbrev waiting : ConnectionManager
  waiting = three (six_of 3 6 1) (holding 2)

  abbrev live : List Row
  live =
      -- all that is free; not one more, nor all of c
      from start (granted 65 3 1 3 ∷ leaves (three (six_of 0 4 2) (holding 5)) ∷ [])
      ∷ from waiting (granted 65 3 1 3 ∷ leaves (three (six_of 0 4 2) (holding 5)) ∷ [])
      ∷ from start (asks 65 4 5 ∷ leaves (three (six_of 3 6 1) (set_blocked_sends (holding 2) 8)) ∷ [])
      ∷ from start (asks 65 6 5 ∷ leaves (three (six_of 3 6 1) (set_blocked_sends (holding 2) 8)) ∷ [])
      ∷ from waiting (asks 65 4 5 ∷ leaves (three (six_of 3 6 1) (set_blocked_sends (holding 2) 8)) ∷ [])
      -- `blocked_sends` wraps
      ∷ from (three (six_of 3 4 1) (set_blocked_sends (holding 2) 4294967295))
      (asks 65 4 5 ∷ leaves (three (six_of 3 6 1) (set_blocked_sends (holding 2) 0)) ∷ [])
      -- above c, and none: nothing is changed, whether the slot waits or not
      ∷ from start (asks 65 7 13 ∷ granted 65 0 1 3 ∷ leaves start ∷ [])
      ∷ from waiting (asks 65 7 13 ∷ granted 65 0 1 3 ∷ leaves waiting ∷ [])
      -- completed and returned, up to what the link holds: the wait stays, and the grant's handle is not looked at
      ∷ from waiting (completes 65 2 0 ∷ leaves (three (six_of 5 6 1) (holding 0)) ∷ [])
      ∷ from waiting (ends 67 2 1 3 0 ∷ leaves (three (six_of 5 6 1) (holding 0)) ∷ [])
      ∷ from start (ends 64 1 1 3 0 ∷ leaves (three (six_of 4 4 1) (holding 1)) ∷ [])
      -- none; more than the link holds; and an end of another life, whatever it has left: nothing is changed
      ∷ from start
      (completes 65 0 0
      ∷ ends 65 0 1 3 0
      ∷ completes 65 3 14
      ∷ ends 65 3 1 3 14
      ∷ late 65 2 1 2
      ∷ late 65 3 1 4
      ∷ late 65 0 1 1
      ∷ leaves start
      ∷ [])
      -- link credits, completed, given out and given back: the pool is as it was
      ∷ from waiting
      (gives (on_link (confirm_sent 2) 65) 0 [] (LinkCredit 1)
      ∷ gives (on_link (poll_request_to_send 1 3 4) 65) 0 (65 ∷ 4 ∷ 1 ∷ 3 ∷ []) Nobody
      ∷ gives (on_link (grant_end 65 3 1) 1) 0 [] (LinkCredit 1)
      ∷ leaves (three (six_of 3 6 1) (set_link_credits (holding 2) 4))
      ∷ [])
      ∷ []

  -- slot 1 is not live. "An ask without a live slot gets 3", above c and of 0 too; completing and returning 2, also none and more
  -- than it holds; an end of another life is Stale.
  abbrev not_live : Row
  not_live =
      from waiting
      (asks 65 0 3
      ∷ asks 65 1 3
      ∷ asks 65 7 3
      ∷ completes 65 0 2
      ∷ completes 65 1 2
      ∷ completes 65 3 2
      ∷ ends 65 0 1 3 2
      ∷ ends 65 1 1 3 2
      ∷ ends 65 3 1 3 2
      ∷ late 65 1 1 2
      ∷ late 65 3 1 4
      ∷ leaves waiting
      ∷ [])

  -- slot 1 is open, was last granted, and all three wait. "`disconnected` ends it too and brings all of that link's packets back":
  -- no other wait ends, and the turn goes on from the slot last granted.
  abbrev closes : Row
  closes =
      from (three (six_of 3 7 2) (holding 2))
      (gives (on_link (disconnected 8) 65) 0 [] (Link 1)
      ∷ leaves
      (three (six_of 5 5 2)
      (set_events
      (set_blocked_sends (set_indication_cfm_received (set_indication_in_flight (set_acl_send_locked (link state.Disconnected 65 3 0) false) false) false) 0)
      (pushed (queue_of 2).events (event.Disconnected 8)).queue))
      ∷ asks 64 1 5
      ∷ granted 66 5 2 9
      ∷ [])

  -- the handle of slot 1, which is Connected, at slot 0 too, which is in this state: the slot that is granted, in its life, and
  -- whether 3 packets of the handle are completed: slot 0 holds 1, slot 1 holds 3
  abbrev twice : (i v number : ℕ) → Row
  twice i v n =
      from (set_pool (two_slots (link s 64 5 1) (link state.Connected 64 3 3)) (six_of 2 0 0)) (completes 64 3 n ∷ granted 64 1 i v ∷ [])

-- ---- "in cyclic order after the slot last granted (before any grant: from slot 0)"

-- four links, and 4 packets free
abbrev four : (waiting turn : ℕ) → ConnectionManager
four w turn =
    set_pool
    (put (put (put (put (fresh_table 4 251 4) 0 (link state.Connected 64 1 0)) 1 (link state.Connected 65 1 0)) 2 (link state.Connecting 66 1 0)) 3
    (link state.Connected 67 1 0))
    (record { packets = 4; free = 4; waiting = w; turn = turn })

-- what an ask of 1 answers, by slot: each on the table handed in
abbrev turns : (waiting turn : ℕ) → List ℕ → Row
turns w turn ns =
    from (four w turn)
    (shows (λ t. map (λ (h : ℕ). (run (poll_request_from_pool_call h 1) t).reply.number) (64 ∷ 65 ∷ 66 ∷ 67 ∷ [])) ns ∷ [])

abbrev cyclic : List Row
cyclic =
    -- nobody waits: any of them
    turns 0 0 (0 ∷ 0 ∷ 0 ∷ 0 ∷ [])
    ∷ turns 0 2 (0 ∷ 0 ∷ 0 ∷ 0 ∷ [])
    -- before any grant: from slot 0. Slots 0 and 2 wait; 1 and 3; 3
    ∷ turns 5 0 (0 ∷ 5 ∷ 5 ∷ 5 ∷ [])
    ∷ turns 10 0 (0 ∷ 0 ∷ 5 ∷ 5 ∷ [])
    ∷ turns 8 0 (0 ∷ 0 ∷ 0 ∷ 0 ∷ [])
    -- 0 and 2 wait, after each slot's grant; all wait
    ∷ turns 5 1 (5 ∷ 0 ∷ 0 ∷ 5 ∷ [])
    ∷ turns 5 2 (5 ∷ 5 ∷ 0 ∷ 5 ∷ [])
    ∷ turns 5 3 (0 ∷ 5 ∷ 5 ∷ 0 ∷ [])
    ∷ turns 5 4 (0 ∷ 5 ∷ 5 ∷ 5 ∷ [])
    ∷ turns 15 2 (5 ∷ 5 ∷ 0 ∷ 5 ∷ [])
    ∷ turns 15 4 (0 ∷ 5 ∷ 5 ∷ 5 ∷ [])
    -- the slot last granted is the last: 1 waits, and was granted
    ∷ turns 2 2 (0 ∷ 0 ∷ 0 ∷ 0 ∷ [])
    ∷ turns 2 1 (5 ∷ 0 ∷ 5 ∷ 5 ∷ [])
    ∷ []

-- ---- 8 "where a table's free and held packets do not make c, or a wait or the last grant is at no slot"

-- slot 0 holds 2 packets, slot 1 this many
abbrev pooled : (held packets free waiting turn : ℕ) → ConnectionManager
pooled k packets free waiting turn =
    set_pool (two_slots (link state.Connected 64 1 2) (set_pool_held fresh_slot k)) (record { packets = packets; free = free; waiting = waiting; turn = turn })

-- sixteen slots, of which the last is a link that holds this many of 4 packets
abbrev sixteen : (held free waiting turn : ℕ) → ConnectionManager
sixteen k free waiting turn =
    set_pool (put (fresh_table 16 251 4) 15 (link state.Connected 79 2 k)) (record { packets = 4; free = free; waiting = waiting; turn = turn })

abbrev bounds : List Row
bounds =
    eights (pooled 0 4 3 0 0)
    ∷ eights (pooled 0 4 1 0 0)
    ∷ eights (pooled 1 4 2 0 0)
    ∷ eights (set_pool (fresh_table 2 251 4) (record { packets = 0; free = 0; waiting = 0; turn = 0 }))
    ∷ eights (pooled 0 256 254 0 0)
    ∷ eights (pooled 0 4 2 4 0)
    ∷ eights (pooled 0 4 2 0x8000 0)
    ∷ eights (pooled 0 4 2 0 3)
    -- what the last slot holds counts; it may wait, and have been granted last
    ∷ from (pooled 1 4 1 3 2) (quiet inc_ref 0 ∷ granted 64 1 0 1 ∷ [])
    ∷ from (sixteen 0 4 0xFFFF 16) (quiet inc_ref 0 ∷ asks 79 1 5 ∷ [])
    ∷ from (sixteen 0 4 0x8000 15) (granted 79 4 15 2 ∷ leaves (sixteen 4 0 0 16) ∷ [])
    -- a slot past the count is not looked at: its packets do not count, it is not found, and its grant's end is 1
    ∷ from (put (three (six_of 3 0 0) (link state.Connected 65 3 2)) 3 (link state.Connected 67 4 9))
    (asks 67 0 3
    ∷ asks 67 1 3
    ∷ asks 67 7 3
    ∷ completes 67 0 2
    ∷ ends 67 1 3 4 1
    ∷ ends 67 0 255 3 1
    ∷ granted 65 3 1 3
    ∷ leaves (put (three (six_of 0 0 2) (link state.Connected 65 3 5)) 3 (link state.Connected 67 4 9))
    ∷ [])
    -- `connect` keeps packets and wait; a grant carries its new life
    ∷ from (three (six_of 3 2 1) (set_refcount (link state.Disconnected 65 3 2) 0))
    (gives (connect_to 70 1) 0 [] Peripheral
    ∷ shows (λ t. (slot_at t 1).pool_held ∷ pool_values t.pool) (2 ∷ 6 ∷ 3 ∷ 2 ∷ 1 ∷ [])
    ∷ granted 70 3 1 4
    ∷ [])
    ∷ []

abbrev pub pool_rows : List Row
pool_rows =
    histories
    ++ live state.Connecting
    ++ live state.Connected
    ++ (not_live (state.DisconnectRequest reason.AuthenticationFailure)
    ∷ not_live (state.Disconnecting reason.AuthenticationFailure)
    ∷ not_live state.Disconnected
    ∷ closes state.Connecting
    ∷ closes state.Connected
    ∷ closes (state.DisconnectRequest reason.AuthenticationFailure)
    ∷ closes (state.Disconnecting reason.AuthenticationFailure)
    ∷ twice state.Connecting 0 5 14
    ∷ twice state.Connected 0 5 14
    ∷ twice (state.DisconnectRequest reason.AuthenticationFailure) 1 3 0
    ∷ twice (state.Disconnecting reason.AuthenticationFailure) 1 3 0
    ∷ twice state.Disconnected 1 3 0
    ∷ [])
    ++ cyclic
    ++ bounds

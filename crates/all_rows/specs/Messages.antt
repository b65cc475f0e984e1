-- Rows of messages: the starred ones of document 01 and what a wrong reader would get wrong; then rows of received messages for
-- what a swapped definition would. Assumes nothing.
use Rattle.std.specs.Prelude.{ℕ, List, [], ◌∷◌, ◌++◌}
use Rattle.slot.specs.declared.ConnectionStorage.{ConnectionStorage}
use Rattle.slot.specs.declared.ConnectionManager.{ConnectionManager}
use Rattle.slot.specs.Fresh.{fresh_slot}
use Rattle.slot.specs.Set.{set_life}
use Rattle.slot.specs.declared.Woken.TheVariants.{Nobody, Central, Peripheral, Disconnect, LinkCredit, AclSendLock, IndicationSlot, IndicationCfm, Link}
use Rattle.event_queue.specs.Queue.{entry_at}
use Rattle.model.specs.Answer.{event_values}
use Rattle.model.specs.Find.{slot_at}
use Rattle.model.specs.Link.{bit}
use Rattle.model.specs.Calls.{Call, put, on_link, set_link_credits_call, poll_request_from_pool_call}
use Rattle.model.specs.History.{new, after, no_table}
use Rattle.table_rows.specs.Row.{state_values, role_value, address_values, pool_values}
use Rattle.table_rows.specs.Shared.{connect_to, accept, data_length}
use Rattle.table_rows.specs.Tables.{queue_of}
use Rattle.all_rows.specs.Case.{Case, reads, counts, pair, reads_att, receives, receives_att, wakes}

-- ---- bytes alone

abbrev pub read_cases : List Case
read_cases =
    -- *13 05 01 40 00 02 00: handle 0x040, 2 packets.
    counts (0x13 ∷ 0x05 ∷ 0x01 ∷ 0x40 ∷ 0x00 ∷ 0x02 ∷ 0x00 ∷ []) 0 (1 ∷ [])
    ∷ pair (0x13 ∷ 0x05 ∷ 0x01 ∷ 0x40 ∷ 0x00 ∷ 0x02 ∷ 0x00 ∷ []) 0 0 (0x040 ∷ 2 ∷ [])
    -- *05 04 00 40 00 13: handle 0x040, reason 0x13.
    ∷ reads (0x05 ∷ 0x04 ∷ 0x00 ∷ 0x40 ∷ 0x00 ∷ 0x13 ∷ []) 0 (0x05 ∷ 0 ∷ 0x040 ∷ 0x13 ∷ [])
    -- the upper four bits of a handle are ignored; then the limit: 0xF00 with status 0 is 9, with another it is kept
    ∷ reads (0x05 ∷ 0x04 ∷ 0x00 ∷ 0x40 ∷ 0xF0 ∷ 0x13 ∷ []) 0 (0x05 ∷ 0 ∷ 0x040 ∷ 0x13 ∷ [])
    ∷ reads (0x05 ∷ 0x04 ∷ 0x00 ∷ 0x00 ∷ 0xFF ∷ 0x13 ∷ []) 9 []
    ∷ reads (0x05 ∷ 0x04 ∷ 0x01 ∷ 0x00 ∷ 0xFF ∷ 0x13 ∷ []) 0 (0x05 ∷ 1 ∷ 0xF00 ∷ 0x13 ∷ [])
    -- a byte more, a byte less, a wrong length byte
    ∷ reads (0x05 ∷ 0x04 ∷ 0x00 ∷ 0x40 ∷ 0x00 ∷ 0x13 ∷ 0x00 ∷ []) 9 []
    ∷ reads (0x05 ∷ 0x04 ∷ 0x00 ∷ 0x40 ∷ 0x00 ∷ []) 9 []
    ∷ reads (0x05 ∷ 0x05 ∷ 0x00 ∷ 0x40 ∷ 0x00 ∷ 0x13 ∷ []) 9 []
    -- no pair is a message; one pair past its handle's limit refuses the whole
    ∷ counts (0x13 ∷ 0x01 ∷ 0x00 ∷ []) 0 (0 ∷ [])
    ∷ pair (0x13 ∷ 0x01 ∷ 0x00 ∷ []) 0 9 []
    ∷ counts (0x13 ∷ 0x09 ∷ 0x02 ∷ 0x40 ∷ 0x00 ∷ 0x02 ∷ 0x00 ∷ 0x00 ∷ 0x0F ∷ 0x01 ∷ 0x00 ∷ []) 9 []
    -- the four ATT messages; 16 bits of an attribute's handle; a byte more, a byte less
    ∷ reads_att (0x02 ∷ 0xB9 ∷ 0x01 ∷ []) 0 (0x02 ∷ 441 ∷ [])
    ∷ reads_att (0x03 ∷ 0xB9 ∷ 0x01 ∷ []) 0 (0x03 ∷ 441 ∷ [])
    ∷ reads_att (0x1D ∷ 0x03 ∷ 0xF0 ∷ 0xAA ∷ []) 0 (0x1D ∷ 0xF003 ∷ [])
    ∷ reads_att (0x1E ∷ []) 0 (0x1E ∷ [])
    ∷ reads_att (0x02 ∷ 0xB9 ∷ 0x01 ∷ 0x00 ∷ []) 9 []
    ∷ reads_att (0x03 ∷ 0xB9 ∷ []) 9 []
    ∷ reads_att (0x1D ∷ 0x03 ∷ []) 9 []
    ∷ reads_att (0x1E ∷ 0x00 ∷ []) 9 []
    ∷ reads_att [] 9 []
    ∷ []

-- ---- tables

abbrev two_slots : List Call → ConnectionManager
two_slots calls = after calls (new 2 251 4).table

-- slot 0 has an accepted link with handle 0x40; then slot 1 one with handle 0x41
abbrev one_link : List Call
one_link = connect_to 0x40 1 ∷ accept ∷ []

abbrev two_links : List Call
two_links = one_link ++ (connect_to 0x41 2 ∷ accept ∷ [])

-- 0x40 holds two of the four packets of the pool; both links wait for three
abbrev both_wait : List Call
both_wait =
    two_links
    ++ (poll_request_from_pool_call 0x40 2 ∷ poll_request_from_pool_call 0x40 3 ∷ poll_request_from_pool_call 0x41 3 ∷ [])

-- 16 bits of a link's handle: none of the table's links has handle 0x40
abbrev wide_link : List Call
wide_link = connect_to 0x1040 1 ∷ accept ∷ []

-- four events in the queue of 0x40
abbrev full_queue : List Call
full_queue = one_link ++ (posted ∷ posted ∷ posted ∷ posted ∷ [])
  where
    posted : Call
    posted = on_link data_length 0x40

-- the queue count of slot 1 is out of bounds
abbrev bad_queue : ConnectionManager
bad_queue = put (two_slots one_link) 1 (queue_of 5)

-- slot 0 is at its last life
abbrev last_life : ConnectionManager
last_life = put (two_slots []) 0 (set_life fresh_slot 4294967295)

-- ---- messages

-- two packets of 0x40 completed and one of 0x41; the same and three of 0x42; four of 0x41 and then five
abbrev two_pairs : List ℕ
two_pairs = 0x13 ∷ 0x09 ∷ 0x02 ∷ 0x40 ∷ 0x00 ∷ 0x02 ∷ 0x00 ∷ 0x41 ∷ 0x00 ∷ 0x01 ∷ 0x00 ∷ []

abbrev three_pairs : List ℕ
three_pairs =
    0x13 ∷ 0x0D ∷ 0x03 ∷ 0x40 ∷ 0x00 ∷ 0x02 ∷ 0x00 ∷ 0x41 ∷ 0x00 ∷ 0x01 ∷ 0x00 ∷ 0x42 ∷ 0x00 ∷ 0x03 ∷ 0x00 ∷ []

abbrev same_pairs : List ℕ
same_pairs = 0x13 ∷ 0x09 ∷ 0x02 ∷ 0x41 ∷ 0x00 ∷ 0x04 ∷ 0x00 ∷ 0x41 ∷ 0x00 ∷ 0x05 ∷ 0x00 ∷ []

-- 05: the status, and the two bytes of the handle
abbrev closed : ℕ → ℕ → ℕ → List ℕ
closed status low high = 0x05 ∷ 0x04 ∷ status ∷ low ∷ high ∷ 0x13 ∷ []

-- 3E 13 01: the status, the role, the peer's kind and the latency's low byte
abbrev created : ℕ → ℕ → ℕ → ℕ → List ℕ
created status role kind latency =
    0x3E ∷ 0x13 ∷ 0x01 ∷ status ∷ 0x40 ∷ 0x00 ∷ role ∷ kind
    ∷ 0x66 ∷ 0x55 ∷ 0x44 ∷ 0x33 ∷ 0x22 ∷ 0x11
    ∷ 0x18 ∷ 0x00 ∷ latency ∷ 0x00 ∷ 0xC8 ∷ 0x00 ∷ 0x00 ∷ []

-- 3E 0A 03: the status and the handle's low byte; interval 7,500 µs, latency 1, timeout 1,000,000 µs
abbrev updated : ℕ → ℕ → List ℕ
updated status low =
    0x3E ∷ 0x0A ∷ 0x03 ∷ status ∷ low ∷ 0x00 ∷ 0x06 ∷ 0x00 ∷ 0x01 ∷ 0x00 ∷ 0x64 ∷ 0x00 ∷ []

-- an exchange, asked and answered, of this MTU's two bytes; an indication of attribute 3; a confirmation
abbrev asked : ℕ → ℕ → List ℕ
asked low high = 0x02 ∷ low ∷ high ∷ []

abbrev answered : ℕ → ℕ → List ℕ
answered low high = 0x03 ∷ low ∷ high ∷ []

abbrev indicated : List ℕ
indicated = 0x1D ∷ 0x03 ∷ 0x00 ∷ 0xAA ∷ []

abbrev confirmation : List ℕ
confirmation = 0x1E ∷ []

-- ---- what a table shows

abbrev credits : ConnectionManager → List ℕ
credits t = (slot_at t 0).link_credits ∷ (slot_at t 1).link_credits ∷ []

-- and the pool: its packets, those that are free, who waits and whose turn it is, and what each link holds
abbrev credits_and_pool : ConnectionManager → List ℕ
credits_and_pool t = credits t ++ pool_values t.pool ++ ((slot_at t 0).pool_held ∷ (slot_at t 1).pool_held ∷ [])

abbrev mtus : ConnectionManager → List ℕ
mtus t = (slot_at t 0).att_mtu ∷ (slot_at t 1).att_mtu ∷ []

-- of slot 0: state, handle, role, peer, parameters
abbrev link : ConnectionManager → List ℕ
link t = go (slot_at t 0)
  where
    go : ConnectionStorage → List ℕ
    go s =
        state_values s.state
        ++ (s.handle ∷ role_value s.role ∷ [])
        ++ address_values s.peer_identity
        ++ (s.params.conn_interval ∷ s.params.peripheral_latency ∷ s.params.supervision_timeout ∷ [])

-- the states of both slots, and the events of slot 1: how many, and the first
abbrev states : ConnectionManager → List ℕ
states t = state_values (slot_at t 0).state ++ state_values (slot_at t 1).state

abbrev queued : ConnectionManager → List ℕ
queued t = (slot_at t 1).events.len ∷ event_values (entry_at (slot_at t 1).events 0)

abbrev confirmed : ConnectionManager → List ℕ
confirmed t = bit (slot_at t 0).indication_cfm_received ∷ bit (slot_at t 1).indication_cfm_received ∷ []

-- the lost count and the interval of slot 0
abbrev lost_and_interval : ConnectionManager → List ℕ
lost_and_interval t = (slot_at t 0).lost ∷ (slot_at t 0).params.conn_interval ∷ []

-- ---- HCI events

abbrev pub event_cases : List Case
event_cases =
    -- "Pairs of 13 run in order; 2 or 7 skips that pair; the answer counts applied and skipped", and both links are woken
    receives (two_slots two_links) two_pairs 0 (2 ∷ 0 ∷ []) (3 ∷ 7 ∷ []) credits (2 ∷ 1 ∷ [])
    ∷ receives (two_slots two_links) three_pairs 0 (2 ∷ 1 ∷ []) (3 ∷ 7 ∷ []) credits (2 ∷ 1 ∷ [])
    ∷ receives (two_slots one_link) three_pairs 0 (1 ∷ 2 ∷ []) (3 ∷ []) credits (2 ∷ 0 ∷ [])
    ∷ receives (two_slots (two_links ++ (set_link_credits_call 4294967294 ∷ []))) two_pairs 0 (1 ∷ 1 ∷ []) (7 ∷ []) credits
    (4294967294 ∷ 4294967295 ∷ [])
    -- backwards, the five would be applied
    ∷ receives (two_slots (two_links ++ (set_link_credits_call 4294967290 ∷ []))) same_pairs 0 (1 ∷ 1 ∷ []) (7 ∷ []) credits
    (4294967290 ∷ 4294967294 ∷ [])
    -- "Message 13 feeds link credits only"
    ∷ receives (two_slots both_wait) two_pairs 0 (2 ∷ 0 ∷ []) (3 ∷ 7 ∷ []) credits_and_pool (2 ∷ 1 ∷ 4 ∷ 2 ∷ 3 ∷ 1 ∷ 2 ∷ 0 ∷ [])
    -- 3E 13 01 ..: Peripheral, interval 30,000 µs, timeout 2,000,000 µs; Central, and the peer's kind
    ∷ receives (two_slots []) (created 0x00 0x01 0x00 0x00) 0 [] (1 ∷ []) link
    (3 ∷ 0x40 ∷ 1 ∷ 0 ∷ 0x66 ∷ 0x55 ∷ 0x44 ∷ 0x33 ∷ 0x22 ∷ 0x11 ∷ 30000 ∷ 0 ∷ 2000000 ∷ [])
    ∷ receives (two_slots []) (created 0x00 0x00 0x01 0xF3) 0 [] (0 ∷ []) link
    (3 ∷ 0x40 ∷ 0 ∷ 1 ∷ 0x66 ∷ 0x55 ∷ 0x44 ∷ 0x33 ∷ 0x22 ∷ 0x11 ∷ 30000 ∷ 243 ∷ 2000000 ∷ [])
    -- 3E 0A 03 ..; 4 stores the parameters all the same and counts what is lost
    ∷ receives (two_slots two_links) (updated 0x00 0x41) 0 [] [] queued (1 ∷ 2 ∷ 7500 ∷ 1 ∷ 1000000 ∷ [])
    ∷ receives (two_slots full_queue) (updated 0x00 0x40) 4 [] [] lost_and_interval (1 ∷ 7500 ∷ [])
    -- 05 ..: the link's four are woken, and the other link stays; the reason is queued
    ∷ receives (two_slots two_links) (closed 0x00 0x41 0x00) 0 [] (7 ∷ 8 ∷ 9 ∷ 10 ∷ []) states (4 ∷ 0 ∷ [])
    ∷ receives (two_slots two_links) (closed 0x00 0x41 0x00) 0 [] (7 ∷ 8 ∷ 9 ∷ 10 ∷ []) queued (1 ∷ 0 ∷ 0x13 ∷ [])
    -- it brings the link's packets of the pool back and ends its wait; the other link's stays
    ∷ receives (two_slots both_wait) (closed 0x00 0x40 0x00) 0 [] (3 ∷ 4 ∷ 5 ∷ 6 ∷ []) credits_and_pool (0 ∷ 0 ∷ 4 ∷ 4 ∷ 2 ∷ 1 ∷ 0 ∷ 0 ∷ [])
    ∷ receives (two_slots both_wait) (closed 0x00 0x41 0x00) 0 [] (7 ∷ 8 ∷ 9 ∷ 10 ∷ []) credits_and_pool (0 ∷ 0 ∷ 4 ∷ 2 ∷ 1 ∷ 1 ∷ 2 ∷ 0 ∷ [])
    -- 2 where there is no link, and no slot
    ∷ receives (two_slots one_link) (closed 0x00 0x41 0x00) 2 [] [] states (4 ∷ 0 ∷ [])
    ∷ receives (two_slots one_link) (updated 0x00 0x41) 2 [] [] states (4 ∷ 0 ∷ [])
    ∷ receives (two_slots two_links) (created 0x00 0x01 0x00 0x00) 2 [] [] states (4 ∷ 4 ∷ [])
    -- 15 where the slot that is chosen is at its last life
    ∷ receives last_life (created 0x00 0x01 0x00 0x00) 15 [] [] states (0 ∷ 0 ∷ [])
    -- a message's handle has 12 bits: 40 10 is the link 0x040, and a link 0x1040 is not found by it
    ∷ receives (two_slots one_link) (closed 0x00 0x40 0x10) 0 [] (3 ∷ 4 ∷ 5 ∷ 6 ∷ []) states (0 ∷ 0 ∷ [])
    ∷ receives (two_slots wide_link) (closed 0x00 0x40 0x10) 2 [] [] states (4 ∷ 0 ∷ [])
    -- a status other than 0 changes nothing
    ∷ receives (two_slots one_link) (closed 0x01 0x40 0x00) 0 [] [] states (4 ∷ 0 ∷ [])
    ∷ receives (two_slots one_link) (updated 0x01 0x40) 0 [] [] lost_and_interval (0 ∷ 30000 ∷ [])
    ∷ receives (two_slots []) (created 0x3E 0x01 0x00 0x00) 0 [] [] link
    (0 ∷ 0 ∷ 0 ∷ 0 ∷ 0 ∷ 0 ∷ 0 ∷ 0 ∷ 0 ∷ 0 ∷ 0 ∷ 0 ∷ 0 ∷ [])
    -- 9 first, then 8, also where no call is run
    ∷ receives no_table [] 9 [] [] states (0 ∷ 0 ∷ [])
    ∷ receives no_table (0x13 ∷ 0x01 ∷ 0x00 ∷ []) 8 [] [] states (0 ∷ 0 ∷ [])
    ∷ receives no_table (closed 0x00 0x40 0x00) 8 [] [] states (0 ∷ 0 ∷ [])
    ∷ receives no_table (closed 0x01 0x40 0x00) 8 [] [] states (0 ∷ 0 ∷ [])
    ∷ receives no_table (created 0x00 0x01 0x00 0x00) 8 [] [] states (0 ∷ 0 ∷ [])
    ∷ receives no_table (created 0x01 0x01 0x00 0x00) 8 [] [] states (0 ∷ 0 ∷ [])
    ∷ receives no_table (updated 0x00 0x40) 8 [] [] states (0 ∷ 0 ∷ [])
    ∷ receives no_table (updated 0x01 0x40) 8 [] [] states (0 ∷ 0 ∷ [])
    ∷ receives bad_queue (closed 0x00 0x40 0x00) 8 [] [] states (4 ∷ 0 ∷ [])
    ∷ receives bad_queue (closed 0x01 0x40 0x00) 8 [] [] states (4 ∷ 0 ∷ [])
    ∷ []

-- ---- ATT messages, on the link handle that the caller gives

abbrev pub att_cases : List Case
att_cases =
    -- an exchange of 185, asked or answered; a confirmation; an indication's handle
    receives_att (two_slots two_links) 0x41 (asked 0xB9 0x00) 0 (185 ∷ []) [] mtus (0 ∷ 185 ∷ [])
    ∷ receives_att (two_slots two_links) 0x41 (answered 0xB9 0x00) 0 (185 ∷ []) [] mtus (0 ∷ 185 ∷ [])
    -- an offer of 5: the size stays 23
    ∷ receives_att (two_slots two_links) 0x41 (asked 0x05 0x00) 0 (23 ∷ []) [] mtus (0 ∷ 23 ∷ [])
    ∷ receives_att (two_slots two_links) 0x41 (answered 0x05 0x00) 0 (23 ∷ []) [] mtus (0 ∷ 23 ∷ [])
    ∷ receives_att (two_slots two_links) 0x41 confirmation 0 [] (10 ∷ []) confirmed (0 ∷ 1 ∷ [])
    ∷ receives_att (two_slots two_links) 0x41 indicated 0 (0x1D ∷ 3 ∷ []) [] confirmed (0 ∷ 0 ∷ [])
    -- all 16 bits of the link handle count. An exchange of 500: 247 is stored on a link; on none, 23 is answered.
    ∷ receives_att (two_slots wide_link) 0x1040 (asked 0xF4 0x01) 0 (247 ∷ []) [] mtus (247 ∷ 0 ∷ [])
    ∷ receives_att (two_slots wide_link) 0x0040 (asked 0xF4 0x01) 0 (23 ∷ []) [] mtus (0 ∷ 0 ∷ [])
    ∷ receives_att (two_slots one_link) 0x1040 (answered 0xF4 0x01) 0 (23 ∷ []) [] mtus (0 ∷ 0 ∷ [])
    ∷ receives_att (two_slots wide_link) 0x1040 confirmation 0 [] (6 ∷ []) confirmed (1 ∷ 0 ∷ [])
    ∷ receives_att (two_slots wide_link) 0x0040 confirmation 0 [] [] confirmed (0 ∷ 0 ∷ [])
    ∷ receives_att (two_slots one_link) 0x1040 confirmation 0 [] [] confirmed (0 ∷ 0 ∷ [])
    -- 9 first, then 8, also where no call is run
    ∷ receives_att no_table 0x41 [] 9 [] [] states (0 ∷ 0 ∷ [])
    ∷ receives_att no_table 0x41 (asked 0xB9 0x00) 8 [] [] mtus (0 ∷ 0 ∷ [])
    ∷ receives_att no_table 0x41 (answered 0xB9 0x00) 8 [] [] mtus (0 ∷ 0 ∷ [])
    ∷ receives_att no_table 0x41 confirmation 8 [] [] confirmed (0 ∷ 0 ∷ [])
    ∷ receives_att no_table 0x41 indicated 8 [] [] states (0 ∷ 0 ∷ [])
    ∷ []

-- ---- each waiter in the set; those of one link do not touch another's, and a slot that is not there has none

abbrev pub woken_cases : List Case
woken_cases =
    wakes (Nobody ∷ []) []
    ∷ wakes (Central ∷ []) (0 ∷ [])
    ∷ wakes (Peripheral ∷ []) (1 ∷ [])
    ∷ wakes (Disconnect ∷ []) (2 ∷ [])
    ∷ wakes (LinkCredit 0 ∷ []) (3 ∷ [])
    ∷ wakes (AclSendLock 0 ∷ []) (4 ∷ [])
    ∷ wakes (IndicationSlot 0 ∷ []) (5 ∷ [])
    ∷ wakes (IndicationCfm 0 ∷ []) (6 ∷ [])
    ∷ wakes (Link 15 ∷ []) (63 ∷ 64 ∷ 65 ∷ 66 ∷ [])
    ∷ wakes (Link 16 ∷ []) []
    ∷ wakes (LinkCredit 1 ∷ IndicationCfm 0 ∷ Disconnect ∷ AclSendLock 1 ∷ Central ∷ LinkCredit 1 ∷ []) (0 ∷ 2 ∷ 6 ∷ 7 ∷ 8 ∷ [])
    ∷ []

-- Recordings run through the table, byte by byte as a file has them. Assumes nothing.
use Rattle.std.specs.Prelude.{ℕ, List, [], ◌∷◌, ◌++◌, length, take, drop, replicate}
use Rattle.slot.specs.declared.ConnectionManager.{ConnectionManager}
use Rattle.slot.specs.Fresh.{fresh_slot}
use Rattle.slot.specs.Set.{set_life}
use Rattle.event_queue.specs.declared.ConnectionEvent.TheVariants.{ConnectionParamsUpdated}
use Rattle.model.specs.Link.{confirm_sent, disconnected, post_handle_event}
use Rattle.model.specs.Calls.{Call, put, on_link}
use Rattle.model.specs.History.{new, after, no_table}
use Rattle.table_rows.specs.Shared.{connect_to, accept, data_length}
use Rattle.recording_rows.specs.Case.{Case, replays}

-- ---- bytes

-- `btsnoop` and zero, the version's and the datalink's last byte
abbrev pub head : ℕ → ℕ → List ℕ
head version datalink =
    0x62 ∷ 0x74 ∷ 0x73 ∷ 0x6E ∷ 0x6F ∷ 0x6F ∷ 0x70 ∷ 0x00 ∷ 0x00 ∷ 0x00 ∷ 0x00 ∷ version ∷ 0x00 ∷ 0x00 ∷ 0x03 ∷ datalink ∷ []

-- 1001 and 1002
abbrev pub hci : List ℕ
hci = head 1 0xE9

abbrev uart : List ℕ
uart = head 1 0xEA

abbrev word : ℕ → List ℕ
word n = 0x00 ∷ 0x00 ∷ 0x00 ∷ n ∷ []

-- original and included length, flags, no drops, a timestamp, bytes
abbrev entry : ℕ → ℕ → ℕ → List ℕ → List ℕ
entry original included flags bytes = word original ++ word included ++ word flags ++ word 0 ++ word 0 ++ word 5 ++ bytes

-- whole, with these four bytes of flags
abbrev flagged : List ℕ → List ℕ → List ℕ
flagged flags bytes = word (length bytes) ++ word (length bytes) ++ flags ++ word 0 ++ word 0 ++ word 5 ++ bytes

-- whole, received, an event
abbrev event : List ℕ → List ℕ
event bytes = entry (length bytes) (length bytes) 3 bytes

-- a link with handle 0x40 is made; the status
abbrev created : ℕ → List ℕ
created status =
    0x3E ∷ 0x13 ∷ 0x01 ∷ status ∷ 0x40 ∷ 0x00 ∷ 0x01 ∷ 0x00 ∷ 0x01 ∷ 0x55 ∷ 0x44 ∷ 0x33 ∷ 0x22 ∷ 0x11 ∷ 0x18 ∷ 0x00 ∷ 0x00 ∷ 0x00 ∷ 0xC8
    ∷ 0x00 ∷ 0x00 ∷ []

-- two of the packets of a link are completed
abbrev sent : ℕ → List ℕ
sent handle = 0x13 ∷ 0x05 ∷ 0x01 ∷ handle ∷ 0x00 ∷ 0x02 ∷ 0x00 ∷ []

-- its interval is 50,000 µs now
abbrev updated : List ℕ
updated = 0x3E ∷ 0x0A ∷ 0x03 ∷ 0x00 ∷ 0x40 ∷ 0x00 ∷ 0x28 ∷ 0x00 ∷ 0x00 ∷ 0x00 ∷ 0xC8 ∷ 0x00 ∷ []

abbrev closed : List ℕ
closed = 0x05 ∷ 0x04 ∷ 0x00 ∷ 0x40 ∷ 0x00 ∷ 0x13 ∷ []

-- Command Complete, which is not read
abbrev unread : List ℕ
unread = 0x0E ∷ 0x04 ∷ 0x01 ∷ 0x03 ∷ 0x0C ∷ 0x00 ∷ []

abbrev four : List ℕ
four = event (created 0) ++ event (sent 0x40) ++ event updated ++ event closed

abbrev four_uart : List ℕ
four_uart = event (0x04 ∷ created 0) ++ event (0x04 ∷ sent 0x40) ++ event (0x04 ∷ updated) ++ event (0x04 ∷ closed)

-- ---- tables and calls

abbrev fresh : ConnectionManager
fresh = (new 1 251 4).table

abbrev linked : ConnectionManager
linked = after (connect_to 0x40 1 ∷ accept ∷ []) fresh

-- four events in its queue
abbrev full : ConnectionManager
full = after (posted ∷ posted ∷ posted ∷ posted ∷ []) linked
  where
    posted : Call
    posted = on_link data_length 0x40

abbrev last_life : ConnectionManager
last_life = put fresh 0 (set_life fresh_slot 4294967295)

abbrev makes : Call
makes = connect_to 0x40 1

abbrev completes : Call
completes = on_link (confirm_sent 2) 0x40

abbrev updates : Call
updates = on_link (post_handle_event (ConnectionParamsUpdated 0 50000 2000000)) 0x40

abbrev closes : Call
closes = on_link (disconnected 0x13) 0x40

-- ---- rows

-- a header alone, of both datalinks; "11 for a wrong header": no byte, 15 of 16, another letter, version 0 and 2, datalink 1000 and 1003
abbrev headers : List Case
headers =
    replays fresh hci 0 (0 ∷ 0 ∷ 0 ∷ []) [] []
    ∷ replays fresh uart 0 (0 ∷ 0 ∷ 0 ∷ []) [] []
    ∷ replays fresh [] 11 [] [] []
    ∷ replays fresh (take 15 hci) 11 [] [] []
    ∷ replays fresh (0x42 ∷ 0x74 ∷ 0x73 ∷ 0x6E ∷ 0x6F ∷ 0x6F ∷ 0x70 ∷ 0x00 ∷ word 1 ++ (0x00 ∷ 0x00 ∷ 0x03 ∷ 0xE9 ∷ four)) 11 [] [] []
    ∷ replays fresh (head 0 0xE9 ++ four) 11 [] [] []
    ∷ replays fresh (head 2 0xE9 ++ four) 11 [] [] []
    ∷ replays fresh (head 1 0xE8 ++ four) 11 [] [] []
    ∷ replays fresh (head 1 0xEB ++ four) 11 [] [] []
    -- 8 before 11, and before the records
    ∷ replays no_table (hci ++ four) 8 [] [] []
    ∷ replays no_table [] 8 [] [] []
    ∷ []

-- which records are run
abbrev records : List Case
records =
    -- the update meets a link that is not Connected: 2, refused, and the run goes on. Waiters are those of all together.
    replays fresh (hci ++ four) 0 (3 ∷ 0 ∷ 1 ∷ []) (1 ∷ 3 ∷ 4 ∷ 5 ∷ 6 ∷ []) (makes ∷ completes ∷ closes ∷ [])
    ∷ replays fresh (uart ++ four_uart) 0 (3 ∷ 0 ∷ 1 ∷ []) (1 ∷ 3 ∷ 4 ∷ 5 ∷ 6 ∷ []) (makes ∷ completes ∷ closes ∷ [])
    -- with 1002 an event without its byte 04, another byte, none at all; with 1001 a byte 04 too many
    ∷ replays fresh (uart ++ four) 0 (0 ∷ 4 ∷ 0 ∷ []) [] []
    ∷ replays fresh (uart ++ event (0x02 ∷ created 0) ++ event []) 0 (0 ∷ 2 ∷ 0 ∷ []) [] []
    ∷ replays fresh
    (uart ++ event (0x00 ∷ created 0) ++ event (0x01 ∷ created 0) ++ event (0x03 ∷ created 0) ++ event (0x05 ∷ created 0)) 0 (0 ∷ 4 ∷ 0 ∷ [])
    [] []
    ∷ replays fresh (hci ++ four_uart ++ event []) 0 (0 ∷ 5 ∷ 0 ∷ []) [] []
    -- received or an event alone, neither: passed over; flags above bit 1 are of no account
    ∷ replays fresh (hci ++ entry 21 21 1 (created 0) ++ entry 21 21 2 (created 0) ++ entry 21 21 0 (created 0)) 0 (0 ∷ 3 ∷ 0 ∷ []) [] []
    ∷ replays fresh (hci ++ entry 21 21 7 (created 0)) 0 (1 ∷ 0 ∷ 0 ∷ []) (1 ∷ []) (makes ∷ [])
    ∷ replays fresh (hci ++ flagged (0xFF ∷ 0xFF ∷ 0xFF ∷ 0xFF ∷ []) (created 0) ++ flagged (0x80 ∷ 0x00 ∷ 0x00 ∷ 0x03 ∷ []) (sent 0x40)) 0
    (2 ∷ 0 ∷ 0 ∷ []) (1 ∷ 3 ∷ []) (makes ∷ completes ∷ [])
    ∷ replays fresh (hci ++ flagged (0xFF ∷ 0xFF ∷ 0xFF ∷ 0xFE ∷ []) (created 0) ++ flagged (0x03 ∷ 0x03 ∷ 0x03 ∷ 0x00 ∷ []) (created 0)) 0
    (0 ∷ 2 ∷ 0 ∷ []) [] []
    -- events that are refused with 9: a handle of 0xF00, a byte more, a role of 2, a pair's handle of 0xF00; one of which a part is there
    ∷ replays fresh
    (hci
    ++ event (0x05 ∷ 0x04 ∷ 0x00 ∷ 0x00 ∷ 0x0F ∷ 0x13 ∷ [])
    ++ event (closed ++ (0x00 ∷ []))
    ++ event (take 6 (created 0) ++ (0x02 ∷ []) ++ drop 7 (created 0))
    ++ event (0x13 ∷ 0x05 ∷ 0x01 ∷ 0x00 ∷ 0x0F ∷ 0x02 ∷ 0x00 ∷ [])
    ++ entry 21 10 3 (take 10 (created 0)))
    0 (0 ∷ 5 ∷ 0 ∷ []) [] []
    -- 256 bytes, and an event behind them
    ∷ replays fresh
    (hci
    ++ (0x00 ∷ 0x00 ∷ 0x01 ∷ 0x00 ∷ 0x00 ∷ 0x00 ∷ 0x01 ∷ 0x00 ∷ [])
    ++ word 3 ++ word 0 ++ word 0 ++ word 5
    ++ replicate 256 0x00
    ++ event (created 0))
    0 (1 ∷ 1 ∷ 0 ∷ []) (1 ∷ []) (makes ∷ [])
    -- an event that is not read, between two that are
    ∷ replays fresh (hci ++ event (created 0) ++ event unread ++ event (sent 0x40)) 0 (2 ∷ 1 ∷ 0 ∷ []) (1 ∷ 3 ∷ []) (makes ∷ completes ∷ [])
    -- a status other than 0, and pairs that are all skipped, are run
    ∷ replays fresh (hci ++ event (created 1) ++ event (sent 0x41)) 0 (2 ∷ 0 ∷ 0 ∷ []) [] []
    -- 2, 15 and 4 are refused; with 4 the parameters change and the lost count rises
    ∷ replays fresh (hci ++ event closed) 0 (0 ∷ 0 ∷ 1 ∷ []) [] []
    ∷ replays last_life (hci ++ event (created 0) ++ event (created 0)) 0 (0 ∷ 0 ∷ 2 ∷ []) [] []
    ∷ replays full (hci ++ event updated) 0 (0 ∷ 0 ∷ 1 ∷ []) [] (updates ∷ [])
    ∷ replays linked (hci ++ event updated) 0 (1 ∷ 0 ∷ 0 ∷ []) [] (updates ∷ [])
    ∷ []

-- "12 for a record cut short or longer included than original; calls before the bad record stand, with the counts so far told"
abbrev cut : List Case
cut =
    -- less included than there was
    replays fresh (hci ++ entry 22 21 3 (created 0)) 0 (1 ∷ 0 ∷ 0 ∷ []) (1 ∷ []) (makes ∷ [])
    -- more included than there was, as the first record and behind one that is run
    ∷ replays fresh (hci ++ entry 20 21 3 (created 0) ++ event (created 0)) 12 (0 ∷ 0 ∷ 0 ∷ []) [] []
    ∷ replays fresh (hci ++ event (created 0) ++ entry 6 7 3 (closed ++ (0x00 ∷ [])) ++ event closed) 12 (1 ∷ 0 ∷ 0 ∷ []) (1 ∷ []) (makes ∷ [])
    -- one byte behind the header, 23 of a head, a head without its bytes, the last byte missing, one byte behind the last record
    ∷ replays fresh (hci ++ (0x00 ∷ [])) 12 (0 ∷ 0 ∷ 0 ∷ []) [] []
    ∷ replays fresh (hci ++ take 23 four) 12 (0 ∷ 0 ∷ 0 ∷ []) [] []
    ∷ replays fresh (hci ++ take 24 four) 12 (0 ∷ 0 ∷ 0 ∷ []) [] []
    ∷ replays fresh (hci ++ take 141 four) 12 (2 ∷ 0 ∷ 1 ∷ []) (1 ∷ 3 ∷ []) (makes ∷ completes ∷ [])
    ∷ replays fresh (hci ++ four ++ (0x00 ∷ [])) 12 (3 ∷ 0 ∷ 1 ∷ []) (1 ∷ 3 ∷ 4 ∷ 5 ∷ 6 ∷ []) (makes ∷ completes ∷ closes ∷ [])
    -- a bad record behind one that was passed over, and a good one behind it that is not reached
    ∷ replays fresh (hci ++ event unread ++ entry 0 1 3 (0x00 ∷ []) ++ event (created 0)) 12 (0 ∷ 1 ∷ 0 ∷ []) [] []
    ∷ []

abbrev pub replayed_cases : List Case
replayed_cases = headers ++ records ++ cut

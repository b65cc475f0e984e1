-- Recordings of events, written. Assumes nothing.
use Rattle.std.specs.Prelude.{ℕ, List, [], ◌∷◌, ◌++◌, replicate}
use Rattle.recording_rows.specs.Case.{Case, Given, writes}
use Rattle.recording_rows.specs.Replayed.{hci}

abbrev closed : List ℕ
closed = 0x05 ∷ 0x04 ∷ 0x00 ∷ 0x40 ∷ 0x00 ∷ 0x13 ∷ []

abbrev sent : List ℕ
sent = 0x13 ∷ 0x05 ∷ 0x01 ∷ 0x40 ∷ 0x00 ∷ 0x02 ∷ 0x00 ∷ []

-- Command Complete, which is not read
abbrev unread : List ℕ
unread = 0x0E ∷ 0x04 ∷ 0x01 ∷ 0x03 ∷ 0x0C ∷ 0x00 ∷ []

abbrev failure : List ℕ
failure = 0x05 ∷ 0x04 ∷ 0x01 ∷ 0x40 ∷ 0x00 ∷ 0x13 ∷ []

abbrev no_pairs : List ℕ
no_pairs = 0x13 ∷ 0x01 ∷ 0x00 ∷ []

abbrev created : List ℕ
created =
    0x3E ∷ 0x13 ∷ 0x01 ∷ 0x00 ∷ 0x40 ∷ 0x00 ∷ 0x01 ∷ 0x00 ∷ 0x01 ∷ 0x55 ∷ 0x44 ∷ 0x33 ∷ 0x22 ∷ 0x11 ∷ 0x18 ∷ 0x00 ∷ 0x00 ∷ 0x00 ∷ 0xC8
    ∷ 0x00 ∷ 0x00 ∷ []

-- a record of an event of n bytes, without drops, at 5 µs
abbrev alone : ℕ → List ℕ → List ℕ
alone n bytes = word n ++ word n ++ word 3 ++ word 0 ++ word 0 ++ word 5 ++ bytes
  where
    word : ℕ → List ℕ
    word k = 0x00 ∷ 0x00 ∷ 0x00 ∷ k ∷ []

-- the events' bytes and lengths, the drops and timestamps
abbrev given : List ℕ → List ℕ → List ℕ → List ℕ → Given
given es ns ds ts = record { events = es; lengths = ns; drops = ds; timestamps = ts }

-- two events; drops and timestamps at both ends of their fields
abbrev two : Given
two = given (closed ++ sent) (6 ∷ 7 ∷ []) (1 ∷ 0xFFFFFFFF ∷ []) (0x8000000000000000 ∷ 0x00E03AB44A676002 ∷ [])

-- as it stands in a file: original and included length, flags 3, drops, timestamp, bytes
abbrev two_bytes : List ℕ
two_bytes =
    hci
    ++ (0x00 ∷ 0x00 ∷ 0x00 ∷ 0x06 ∷ 0x00 ∷ 0x00 ∷ 0x00 ∷ 0x06 ∷ 0x00 ∷ 0x00 ∷ 0x00 ∷ 0x03 ∷ 0x00 ∷ 0x00 ∷ 0x00 ∷ 0x01
    ∷ 0x80 ∷ 0x00 ∷ 0x00 ∷ 0x00 ∷ 0x00 ∷ 0x00 ∷ 0x00 ∷ 0x00 ∷ closed)
    ++ (0x00 ∷ 0x00 ∷ 0x00 ∷ 0x07 ∷ 0x00 ∷ 0x00 ∷ 0x00 ∷ 0x07 ∷ 0x00 ∷ 0x00 ∷ 0x00 ∷ 0x03 ∷ 0xFF ∷ 0xFF ∷ 0xFF ∷ 0xFF
    ∷ 0x00 ∷ 0xE0 ∷ 0x3A ∷ 0xB4 ∷ 0x4A ∷ 0x67 ∷ 0x60 ∷ 0x02 ∷ sent)

-- a slice of n bytes
abbrev room : ℕ → List ℕ
room n = replicate n 0xAA

-- refused: every byte as it was
abbrev kept : Given → ℕ → ℕ → Case
kept g n number = writes g (room n) number [] (room n)

abbrev pub written_cases : List Case
written_cases =
    -- exactly full, a byte behind it, a byte short
    writes two (room 77) 0 (77 ∷ []) two_bytes
    ∷ writes two (room 78) 0 (77 ∷ []) (two_bytes ++ (0xAA ∷ []))
    ∷ kept two 76 10
    -- no events: the header alone
    ∷ writes (given [] [] [] []) (room 16) 0 (16 ∷ []) hci
    ∷ kept (given [] [] [] []) 15 10
    ∷ kept (given [] [] [] []) 0 10
    -- an event with a status other than 0, one without pairs, LE Connection Complete
    ∷ writes (given failure (6 ∷ []) (0 ∷ []) (5 ∷ [])) (room 46) 0 (46 ∷ []) (hci ++ alone 6 failure)
    ∷ writes (given no_pairs (3 ∷ []) (0 ∷ []) (5 ∷ [])) (room 43) 0 (43 ∷ []) (hci ++ alone 3 no_pairs)
    ∷ writes (given created (21 ∷ []) (0 ∷ []) (5 ∷ [])) (room 61) 0 (61 ∷ []) (hci ++ alone 21 created)
    -- a length that is one more than the event's, one fewer
    ∷ kept (given closed (7 ∷ []) (1 ∷ []) (5 ∷ [])) 90 9
    ∷ kept (given closed (5 ∷ []) (1 ∷ []) (5 ∷ [])) 90 9
    -- an event that is not read, first or last; none of the bytes
    ∷ kept (given unread (6 ∷ []) (0 ∷ []) (0 ∷ [])) 60 9
    ∷ kept (given (closed ++ unread) (6 ∷ 6 ∷ []) (0 ∷ 0 ∷ []) (0 ∷ 0 ∷ [])) 90 9
    ∷ kept (given closed (6 ∷ 0 ∷ []) (0 ∷ 0 ∷ []) (0 ∷ 0 ∷ [])) 90 9
    -- slices that do not fit each other: a drop or a timestamp fewer or more, a byte of the events fewer or more
    ∷ kept (given (closed ++ sent) (6 ∷ 7 ∷ []) (1 ∷ []) (5 ∷ 6 ∷ [])) 90 9
    ∷ kept (given (closed ++ sent) (6 ∷ 7 ∷ []) (1 ∷ 2 ∷ 3 ∷ []) (5 ∷ 6 ∷ [])) 90 9
    ∷ kept (given (closed ++ sent) (6 ∷ 7 ∷ []) (1 ∷ 2 ∷ []) (5 ∷ [])) 90 9
    ∷ kept (given (closed ++ sent) (6 ∷ 7 ∷ []) (1 ∷ 2 ∷ []) (5 ∷ 6 ∷ 7 ∷ [])) 90 9
    ∷ kept (given (closed ++ sent) (6 ∷ []) (1 ∷ []) (5 ∷ [])) 90 9
    ∷ kept (given closed (6 ∷ 7 ∷ []) (1 ∷ 2 ∷ []) (5 ∷ 6 ∷ [])) 90 9
    ∷ kept (given (0x05 ∷ 0x04 ∷ 0x00 ∷ 0x40 ∷ 0x00 ∷ []) (6 ∷ []) (1 ∷ []) (5 ∷ [])) 90 9
    -- 9 before 10
    ∷ kept (given unread (6 ∷ []) (0 ∷ []) (0 ∷ [])) 0 9
    ∷ []

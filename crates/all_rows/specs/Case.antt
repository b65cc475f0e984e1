-- A case: a table and calls (`table_rows`), or a message, or the roster; and whether it holds. Assumes nothing.
use Rattle.std.specs.Prelude.{ℕ, ◌+◌, Bool, true, false, ◌&&◌, List, [], ◌∷◌, eqb}
use Rattle.slot.specs.declared.ConnectionManager.{ConnectionManager}
use Rattle.slot.specs.declared.Woken.{Woken}
use Rattle.model.specs.Answer.{Reply}
use Rattle.hci.specs.Read.{event_in, event_reply}
use Rattle.completed_packets.specs.Read.{completed_in}
use Rattle.completed_packets.specs.Answer.{count_reply, pair_of}
use Rattle.att_pdu.specs.Read.{message_in, message_reply}
use Rattle.woken_set.specs.declared.LinkWoken.{LinkWoken}
use Rattle.woken_set.specs.declared.WokenSet.{WokenSet}
use Rattle.woken_set.specs.WokenSet.{nobody, added}
use Rattle.messages.specs.Received.{Received, received, received_att}
use Rattle.roster.specs.Roster.{Entry, entries, roster_of, roster_left}
use Rattle.table_rows.specs.Row.{Row, holds, same}

pub data Case : Type 0 where
  -- a case of the table
  table : Row → Case
  -- an event's bytes; the number and values of what they are read as
  reads : List ℕ → ℕ → List ℕ → Case
  -- the same of Number Of Completed Packets, and of its pair i
  counts : List ℕ → ℕ → List ℕ → Case
  pair : List ℕ → ℕ → ℕ → List ℕ → Case
  -- the same of an ATT message
  reads_att : List ℕ → ℕ → List ℕ → Case
  -- a table and an event's bytes: the number and values of the answer, who is woken, what the table shows then
  receives : ConnectionManager → List ℕ → ℕ → List ℕ → List ℕ → (ConnectionManager → List ℕ) → List ℕ → Case
  -- the same of an ATT message on a link handle
  receives_att : ConnectionManager → ℕ → List ℕ → ℕ → List ℕ → List ℕ → (ConnectionManager → List ℕ) → List ℕ → Case
  -- the waiters of several calls, as a set
  wakes : List Woken → List ℕ → Case
  -- a table and a slice: the number and values of the roster's answer
  lists : ConnectionManager → List ℕ → ℕ → List ℕ → Case
  -- a table's entries, in the order of the slots: handle and index of each
  enters : ConnectionManager → List ℕ → Case
  -- a table and a slice: what the roster leaves in it
  writes : ConnectionManager → List ℕ → List ℕ → Case

abbrev pub is : Reply → ℕ → List ℕ → Bool
is r n vs = eqb r.number n && same r.values vs

-- who is woken, as places: Central 0, Peripheral 1, Disconnect 2, and of slot i 3 + 4 i and the three after it: credit, lock,
-- indication slot, confirmation
abbrev pub woken_places : WokenSet → List ℕ
woken_places w = places (w.central ∷ w.peripheral ∷ w.disconnect ∷ flags w.links) 0
  where
    flags : List LinkWoken → List Bool
    flags [] = []
    flags (l ∷ ls) = l.link_credit ∷ l.acl_send_lock ∷ l.indication_slot ∷ l.indication_cfm ∷ flags ls

    keep : Bool → ℕ → List ℕ → List ℕ
    keep true i is = i ∷ is
    keep false i is = is

    places : List Bool → ℕ → List ℕ
    places [] i = []
    places (b ∷ bs) i = keep b i (places bs (i + 1))

abbrev all_of : List Woken → WokenSet
all_of [] = nobody
all_of (w ∷ ws) = added (all_of ws) w

abbrev is_received : Received → ℕ → List ℕ → List ℕ → (ConnectionManager → List ℕ) → List ℕ → Bool
is_received r n vs ws shows shown = is r.reply n vs && (same (woken_places r.woken) ws && same (shows r.table) shown)

-- handle and index of each entry
abbrev numbers : List Entry → List ℕ
numbers [] = []
numbers ((handle, index) ∷ es) = handle ∷ index ∷ numbers es

abbrev pub case_holds : Case → Bool
case_holds (table r) = holds r
case_holds (reads s n vs) = is (event_reply (event_in s)) n vs
case_holds (counts s n vs) = is (count_reply (completed_in s)) n vs
case_holds (pair s i n vs) = is (pair_of (completed_in s) i) n vs
case_holds (reads_att s n vs) = is (message_reply (message_in s)) n vs
case_holds (receives t s n vs ws shows shown) = is_received (received s t) n vs ws shows shown
case_holds (receives_att t h s n vs ws shows shown) = is_received (received_att h s t) n vs ws shows shown
case_holds (wakes ws places) = same (woken_places (all_of ws)) places
case_holds (lists t out n vs) = is (roster_of t out) n vs
case_holds (enters t es) = same (numbers (entries t)) es
case_holds (writes t before after) = same (roster_left t before) after

abbrev pub all_hold : List Case → Bool
all_hold [] = true
all_hold (c ∷ cs) = case_holds c && all_hold cs

-- The queue of at most four events, oldest first. Assumes nothing.
use Rattle.std.specs.Prelude.{ℕ, ◌+◌, ◌-◌, Bool, true, false, Option, None, Some, cond, [], ◌∷◌, get_or, set, replicate, leb, eqb}
use Rattle.event_queue.specs.declared.ConnectionEvent.{ConnectionEvent}
use Rattle.event_queue.specs.declared.ConnectionEvent.TheVariants as event
use Rattle.event_queue.specs.declared.PhyKind.{PhyKind}
use Rattle.event_queue.specs.declared.PhyKind.TheVariants as phy
use Rattle.event_queue.specs.declared.EventQueue.{EventQueue}

-- the number of a PHY
abbrev pub phy_value : PhyKind → ℕ
phy_value phy.Le1M = 1
phy_value phy.Le2M = 2
phy_value phy.LeCoded = 3

-- what stands at a place past the last event
abbrev pub fresh_entry : ConnectionEvent
fresh_entry = event.Disconnected 0

abbrev pub empty_queue : EventQueue
empty_queue = record { entries = replicate 4 fresh_entry; len = 0 }

abbrev pub entry_at : EventQueue → ℕ → ConnectionEvent
entry_at q i = get_or q.entries i fresh_entry

-- the queue with one event more, at its end
abbrev pub with_last : EventQueue → ConnectionEvent → EventQueue
with_last q e = record { entries = set q.entries q.len e; len = q.len + 1 }

-- the queue after a push, and whether it was full, so that the event is lost
pub record Pushed : Type 0 where
  pub queue : EventQueue
  pub full : Bool

-- a full queue stays as it is, and the event is lost
abbrev pub pushed : EventQueue → ConnectionEvent → Pushed
pushed q e =
    cond (leb 4 q.len)
    (record { queue = q; full = true })
    (record { queue = with_last q e; full = false })

-- the queue without its oldest event: each other entry one place nearer the front
abbrev pub without_first : EventQueue → EventQueue
without_first q = record { entries = entry_at q 1 ∷ entry_at q 2 ∷ entry_at q 3 ∷ fresh_entry ∷ []; len = q.len - 1 }

-- the queue after a pop, and the event that it gave
pub record Popped : Type 0 where
  pub queue : EventQueue
  pub oldest : Option ConnectionEvent

abbrev pub popped : EventQueue → Popped
popped q =
    cond (eqb q.len 0)
    (record { queue = q; oldest = None })
    (record { queue = without_first q; oldest = Some (entry_at q 0) })

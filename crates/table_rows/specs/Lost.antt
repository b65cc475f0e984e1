-- Rows for the lost counts, link by link, and their total. Assumes nothing.
use Rattle.std.specs.Prelude.{ℕ, List, [], ◌∷◌, ◌++◌, replicate}
use Rattle.slot.specs.declared.ConnectionManager.{ConnectionManager}
use Rattle.slot.specs.Fresh.{fresh_slot}
use Rattle.slot.specs.Set.{set_lost}
use Rattle.slot.specs.declared.Woken.TheVariants.{Nobody, Peripheral, Link}
use Rattle.model.specs.Find.{slot_at}
use Rattle.model.specs.Link.{Op, dec_ref, disconnected, next}
use Rattle.model.specs.Calls.{Call, put, on_link, total_lost_call}
use Rattle.model.specs.History.{fresh_table}
use Rattle.table_rows.specs.Row.{Item, gives, shows, Row, fresh, from, shuffled}
use Rattle.table_rows.specs.Shared.{connect_to, accept, quiet, data_length}

-- of the first two slots
abbrev lost_counts : ConnectionManager → List ℕ
lost_counts t = (slot_at t 0).lost ∷ (slot_at t 1).lost ∷ []

-- two links, handles 64 and 65, each with a full queue
abbrev full : List Call
full =
    (connect_to 64 1 ∷ accept ∷ connect_to 65 2 ∷ accept ∷ [])
    ++ replicate 4 (on_link data_length 64)
    ++ replicate 4 (on_link data_length 65)

abbrev setup : List Item
setup =
    gives (connect_to 64 1) 0 [] Peripheral
    ∷ gives accept 0 (0 ∷ []) Nobody
    ∷ gives (connect_to 65 2) 0 [] Peripheral
    ∷ gives accept 0 (1 ∷ []) Nobody
    ∷ replicate 4 (quiet data_length 64)
    ++ replicate 4 (quiet data_length 65)

-- calls of both links: posts that are lost, an event taken and the next one queued, and a loss by `disconnected`
abbrev lossy : List (ℕ × Op)
lossy =
    (1, data_length)
    ∷ (0, data_length)
    ∷ (0, next)
    ∷ (1, data_length)
    ∷ (0, data_length)
    ∷ (1, disconnected 8)
    ∷ (0, data_length)
    ∷ []

abbrev lossy_given : List (List ℕ)
lossy_given = (4 ∷ []) ∷ (4 ∷ []) ∷ (0 ∷ 4 ∷ 1 ∷ 2 ∷ 3 ∷ 4 ∷ []) ∷ (4 ∷ []) ∷ (0 ∷ []) ∷ (0 ∷ []) ∷ (4 ∷ []) ∷ []

abbrev pub lost_by_link : List Row
lost_by_link =
    -- each link's own count is raised, by a post and by `disconnected`, which keeps it; the total is over both
    fresh 2 251 4
    (setup
    ++ (gives (on_link data_length 65) 4 [] Nobody
    ∷ shows lost_counts (0 ∷ 1 ∷ [])
    ∷ gives total_lost_call 0 (1 ∷ []) Nobody
    ∷ gives (on_link (disconnected 8) 64) 0 [] (Link 0)
    ∷ gives (on_link (disconnected 8) 65) 0 [] (Link 1)
    ∷ shows lost_counts (1 ∷ 2 ∷ [])
    ∷ gives total_lost_call 0 (3 ∷ []) Nobody
    -- a `connect` that is refused keeps the counts
    ∷ gives (connect_to 66 3) 2 [] Nobody
    ∷ shows lost_counts (1 ∷ 2 ∷ [])
    -- one that takes the slot begins at 0, so the total falls
    ∷ quiet dec_ref 1
    ∷ gives (connect_to 66 3) 0 [] Peripheral
    ∷ shows lost_counts (1 ∷ 0 ∷ [])
    ∷ gives total_lost_call 0 (1 ∷ []) Nobody
    ∷ []))
    -- the total wraps
    ∷ from (put (put (fresh_table 2 251 4) 0 (set_lost fresh_slot 4294967295)) 1 (set_lost fresh_slot 2))
    (gives total_lost_call 0 (1 ∷ []) Nobody ∷ [])
    -- a slot past the count is not counted
    ∷ from (put (fresh_table 1 251 4) 1 (set_lost fresh_slot 2)) (gives total_lost_call 0 (0 ∷ []) Nobody ∷ [])
    -- shuffled, and in turn in both orders: the same table, and so equal counts, link by link
    ∷ shuffled 2 251 4 full lossy lossy_given ((0 ∷ 1 ∷ []) ∷ (1 ∷ 0 ∷ []) ∷ [])
    ∷ []

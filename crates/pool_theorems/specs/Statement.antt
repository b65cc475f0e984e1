-- What is promised of the packet pool: `PoolBalance`, `PoolTurns` and `ClosedIdle` over histories of calls, and `PoolWaits` of each
-- call. The first two speak of every sound table and its figures, of which a new one is one; the last of every table. They are
-- proved in Balance.antt, Turns.antt, Idle.antt and Waits.antt; Cases.antt has cases of each. Assumes nothing.
use Rattle.std.specs.Prelude.{ℕ, ◌+◌, ◌-◌, ◌≤◌, ◌<◌, ◌≡◌, ◌≢◌, Bool, true, false, cond, ◌&&◌, List, [], ◌∷◌, length, eqb, ltb}
use Rattle.state.specs.State.{is_open}
use Rattle.slot.specs.declared.ConnectionManager.{ConnectionManager}
use Rattle.slot.specs.declared.Located.{Located}
use Rattle.slot.specs.declared.Located.TheVariants.{Setup, Absent, At}
use Rattle.turn.specs.Turn.{waits}
use Rattle.model.specs.Answer.{Reply}
use Rattle.model.specs.Find.{slot_at, locate, by_index, by_live, fits}
use Rattle.model.specs.Link.{Op, way_of, closing}
use Rattle.model.specs.Calls.{Call, on_link, connects, poll_accept_call, get_connection_by_peer_address_call, poll_disconnecting_call, set_link_credits_call, total_lost_call, poll_request_from_pool_call, pool_confirm_sent_call, pool_grant_end_call, grant_confirm, run}
use Rattle.model.specs.History.{Reached, after}
use Rattle.model_theorems.specs.Lost.{is_at, sum}
use Rattle.model_theorems.specs.Sound.{Sound}

-- ---- what a call moved between the pool and slot i: by the call, the slot that it found and its answer

pub data Move : Type 0 where
  -- granted; completed; returned with the end of a grant
  draws completes returns : (packets : ℕ) → Move
  -- all that the link held, by its closing; nothing
  brings_back nothing : Move

abbrev pub accepted : Reply → Bool
accepted r = eqb r.number 0

-- accepted, and not Stale, which is a value
abbrev pub in_its_life : Reply → Bool
in_its_life r = accepted r && eqb (length r.values) 0

-- what was moved at the slot found
abbrev pub by_link : Op → Reply → Move
by_link op r = cond (closing op && accepted r) brings_back nothing

abbrev pub by_ask : ℕ → Reply → Move
by_ask k r = cond (accepted r) (draws k) nothing

abbrev pub by_completion : ℕ → Reply → Move
by_completion k r = cond (accepted r) (completes k) nothing

abbrev pub by_end : ℕ → Reply → Move
by_end k r = cond (in_its_life r) (returns k) nothing

-- the same at slot i
abbrev pub at : ℕ → Located → Move → Move
at i f m = cond (is_at i f) m nothing

abbrev pub moves_at : ℕ → Call → ConnectionManager → Move
moves_at i (on_link op n) t = at i (locate (fits (way_of op) n) t) (by_link op (run (on_link op n) t).reply)
moves_at i (connects h a o p) t = nothing
moves_at i (poll_accept_call o ps) t = nothing
moves_at i (get_connection_by_peer_address_call a) t = nothing
moves_at i poll_disconnecting_call t = nothing
moves_at i (set_link_credits_call c) t = nothing
moves_at i total_lost_call t = nothing
moves_at i (poll_request_from_pool_call h k) t = at i (locate (fits by_live h) t) (by_ask k (run (poll_request_from_pool_call h k) t).reply)
moves_at i (pool_confirm_sent_call h k) t = at i (locate (fits by_live h) t) (by_completion k (run (pool_confirm_sent_call h k) t).reply)
moves_at i (pool_grant_end_call g) t = at i (locate (fits by_index g.index) t) (by_end g.packets (run (pool_grant_end_call g) t).reply)
moves_at i (grant_confirm g n) t = nothing

-- ---- the sums of a slot over a history, beside what it held at the start

pub record Sums : Type 0 where
  pub start : ℕ
  pub granted : ℕ
  pub completed : ℕ
  pub returned : ℕ
  pub brought : ℕ

-- what came back
abbrev pub back : Sums → ℕ
back b = b.completed + b.returned + b.brought

abbrev pub held : Sums → ℕ
held b = b.start + b.granted - back b

-- "`disconnected` .. brings all of that link's packets back": all that the sums say it held
abbrev pub added : Move → Sums → Sums
added (draws k) b =
    record { start = b.start; granted = b.granted + k; completed = b.completed; returned = b.returned; brought = b.brought }
added (completes k) b =
    record { start = b.start; granted = b.granted; completed = b.completed + k; returned = b.returned; brought = b.brought }
added (returns k) b =
    record { start = b.start; granted = b.granted; completed = b.completed; returned = b.returned + k; brought = b.brought }
added brings_back b =
    record { start = b.start; granted = b.granted; completed = b.completed; returned = b.returned; brought = b.brought + held b }
added nothing b = b

abbrev pub sums_from : ℕ → List Call → ConnectionManager → Sums → Sums
sums_from i [] t b = b
sums_from i (c ∷ cs) t b = sums_from i cs (run c t).table (added (moves_at i c t) b)

abbrev pub at_start : ℕ → Sums
at_start n = record { start = n; granted = 0; completed = 0; returned = 0; brought = 0 }

abbrev pub sums : ℕ → List Call → ConnectionManager → Sums
sums i cs t = sums_from i cs t (at_start (slot_at t i).pool_held)

-- "Free plus held by links is c after any history, the held part summed from grants, completions, returns and
-- disconnections." For each slot no more came back than it held at the start and was granted, and what is left is what the
-- table says that it holds. c stays ("fixed when the table is made").
abbrev pub InBalance : List Call → ConnectionManager → Type 0
InBalance cs t =
    ((i : ℕ) → i < t.count
    → (back (sums i cs t) ≤ (slot_at t i).pool_held + (sums i cs t).granted)
    × ((slot_at (after cs t) i).pool_held ≡ held (sums i cs t)))
    × ((after cs t).pool.packets ≡ t.pool.packets)
    × ((after cs t).pool.free + sum (λ i. held (sums i cs t)) t.count 0 ≡ t.pool.packets)

unfoldable pub PoolBalance : Type 0
PoolBalance = (t : ConnectionManager) → Sound t → (cs : List Call) → InBalance cs t

-- ---- waits

-- an ask of k was granted packets
abbrev pub is_granted : ℕ → Reply → Bool
is_granted k r = accepted r && ltb 0 k

-- whether the slot of an ask of k waits after it, where w says whether it did before: "Any other ask puts its slot among the
-- waiting"; "A grant above 0 ends the wait"
abbrev pub waits_asking : ℕ → Reply → Bool → Bool
waits_asking k r w = cond (eqb r.number 5) true (cond (is_granted k r) false w)

-- whether slot i waits after a call: "`disconnected` ends it too", and nothing else begins or ends a wait
abbrev pub waits_after : ℕ → Call → ConnectionManager → Bool
waits_after i (on_link op n) t = cond (closing op && is_at i (locate (fits (way_of op) n) t)) false (waits i t.pool.waiting)
waits_after i (connects h a o p) t = waits i t.pool.waiting
waits_after i (poll_accept_call o ps) t = waits i t.pool.waiting
waits_after i (get_connection_by_peer_address_call a) t = waits i t.pool.waiting
waits_after i poll_disconnecting_call t = waits i t.pool.waiting
waits_after i (set_link_credits_call c) t = waits i t.pool.waiting
waits_after i total_lost_call t = waits i t.pool.waiting
waits_after i (poll_request_from_pool_call h k) t =
    cond (is_at i (locate (fits by_live h) t))
    (waits_asking k (run (poll_request_from_pool_call h k) t).reply (waits i t.pool.waiting))
    (waits i t.pool.waiting)
waits_after i (pool_confirm_sent_call h k) t = waits i t.pool.waiting
waits_after i (pool_grant_end_call g) t = waits i t.pool.waiting
waits_after i (grant_confirm g n) t = waits i t.pool.waiting

-- the turn after an ask, from what the search found: one after the slot that was granted packets, else as before
abbrev pub turn_asking : Located → Bool → ℕ → ℕ
turn_asking Setup g n = n
turn_asking Absent g n = n
turn_asking (At i) g n = cond g (i + 1) n

-- the turn after a call
abbrev pub turn_after : Call → ConnectionManager → ℕ
turn_after (on_link op n) t = t.pool.turn
turn_after (connects h a o p) t = t.pool.turn
turn_after (poll_accept_call o ps) t = t.pool.turn
turn_after (get_connection_by_peer_address_call a) t = t.pool.turn
turn_after poll_disconnecting_call t = t.pool.turn
turn_after (set_link_credits_call c) t = t.pool.turn
turn_after total_lost_call t = t.pool.turn
turn_after (poll_request_from_pool_call h k) t =
    turn_asking (locate (fits by_live h) t) (is_granted k (run (poll_request_from_pool_call h k) t).reply) t.pool.turn
turn_after (pool_confirm_sent_call h k) t = t.pool.turn
turn_after (pool_grant_end_call g) t = t.pool.turn
turn_after (grant_confirm g n) t = t.pool.turn

abbrev pub WaitsBy : Call → ConnectionManager → Type 0
WaitsBy c t =
    ((i : ℕ) → waits i (run c t).table.pool.waiting ≡ waits_after i c t) × ((run c t).table.pool.turn ≡ turn_after c t)

-- of every table, well formed or not
unfoldable pub PoolWaits : Type 0
PoolWaits = (c : Call) (t : ConnectionManager) → WaitsBy c t

-- ---- turns

-- slot i waits before each call; the last may end the wait
abbrev pub WaitsOn : ℕ → List Call → ConnectionManager → Type 0
WaitsOn i [] t = Unit {0}
WaitsOn i (c ∷ cs) t = (waits i t.pool.waiting ≡ true) × WaitsOn i cs (run c t).table

-- "asks of 0 aside"
abbrev pub above : Move → ℕ
above (draws k) = cond (ltb 0 k) 1 0
above (completes k) = 0
above (returns k) = 0
above brings_back = 0
above nothing = 0

-- how often slot j is granted packets
abbrev pub grants : ℕ → List Call → ConnectionManager → ℕ
grants j [] t = 0
grants j (c ∷ cs) t = above (moves_at j c t) + grants j cs (run c t).table

-- "While a slot waits, asks of 0 aside, no other slot is granted more than once": in any history that is made while slot i waits
unfoldable pub PoolTurns : Type 0
PoolTurns =
    (t : ConnectionManager) → Sound t → (i j : ℕ) → j ≢ i → (cs : List Call) → WaitsOn i cs t → grants j cs t ≤ 1

-- ---- closed slots

-- what is held is "held by links": a slot of a reached table that is not open neither waits nor holds packets
unfoldable pub ClosedIdle : Type 0
ClosedIdle =
    (t : ConnectionManager) → Reached t → (i : ℕ) → i < t.count → is_open (slot_at t i).state ≡ false
    → (waits i t.pool.waiting ≡ false) × ((slot_at t i).pool_held ≡ 0)

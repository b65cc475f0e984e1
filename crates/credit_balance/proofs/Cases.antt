-- A case of `CreditBalance` and one of `CreditBound`, so that no hypothesis is empty; and histories that leave out one part of the
-- bound's premise each, in which stored credits exceed those at `connect`. Assumes nothing.
use Rattle.std.specs.Prelude.{ℕ, ◌+◌, ◌≤◌, ◌≡◌, refl, List, [], ◌∷◌, ◌++◌, map}
use Rattle.std.proofs.lemmas.Bool.{false≢true}
use Rattle.std.proofs.Common.{arith}
use Rattle.turn.specs.Turn.{waits, with_wait, lowest_waiting}
use Rattle.slot.specs.declared.ConnectionManager.{ConnectionManager}
use Rattle.slot.specs.declared.LeConnRole.TheVariants.{Peripheral}
use Rattle.slot.specs.declared.Address.{Address}
use Rattle.slot.specs.declared.ConnParams.{ConnParams}
use Rattle.slot.specs.declared.Located.TheVariants.{At}
use Rattle.slot.specs.Set.{set_life, set_link_credits}
use Rattle.slot.specs.Fresh.{fresh_slot}
use Rattle.model.specs.Answer.{Outcome}
use Rattle.model.specs.Find.{slot_at, slots_ok, held_by, well_formed, lowest, locate}
use Rattle.model.specs.Link.{poll_request_to_send, confirm_sent, grant_end, disconnected}
use Rattle.model.specs.Calls.{Call, on_link, connects, set_link_credits_call, poll_request_from_pool_call, pool_confirm_sent_call, pool_grant_end_call, run, put, is_free}
use Rattle.model.specs.History.{Reached, new, after, outcomes}
use Rattle.credit_balance.specs.Statement.{Act, does, confirms, ends, Session, acted, acted_all, sent_by, sums, OneLife, Disciplined, CreditBalance, CreditBound}
use Rattle.credit_balance.proofs.Balance.{credit_balance}
use Rattle.credit_balance.proofs.Bound.{credit_bound}

-- ---- two slots, 3 credits. The first link, in slot 0, has handle 63. The second, in slot 1 and with handle 64, is in its second
-- life: in the first it was granted one packet, and the grant was not ended.

abbrev peer : Address
peer = record { kind = 0; addr = record { 0 = 1; 1 = 2; 2 = 3; 3 = 4; 4 = 5; 5 = 6 } }

abbrev params : ConnParams
params = record { conn_interval = 30000; peripheral_latency = 0; supervision_timeout = 2000000 }

abbrev connect_to : ℕ → Call
connect_to h = connects h peer Peripheral params

abbrev ask : ℕ → Call
ask n = on_link (poll_request_to_send 1 1 n) 64

abbrev completed : ℕ → Call
completed n = on_link (confirm_sent n) 64

-- the same of the packet pool
abbrev ask_pool : ℕ → Call
ask_pool n = poll_request_from_pool_call 64 n

abbrev pool_end : ℕ → Call
pool_end n = pool_grant_end_call (record { handle = 64; packets = n; index = 1; life = 2 })

abbrev calls : List Call
calls = set_link_credits_call 3 ∷ connect_to 63 ∷ connect_to 64 ∷ ask 1 ∷ on_link (disconnected 8) 64 ∷ []

abbrev before : ConnectionManager
before = after calls (new 2 251 4).table

reached : Reached before
reached = record { slots = 2; packet_mtu = 251; packets = 4; fresh = refl; calls = calls; leads = refl }

abbrev made : ConnectionManager
made = (run (connect_to 64) before).table

-- ---- the balance: granted 2 and 1; an ask that is pending; two packets completed, and one for another link; an end that is stale, one
-- of another link's grant, and one that gives 1 back; then the link closes, and an end does nothing. Of the pool it draws 3 and waits
-- for 2 more; one is completed, one returned, and the closing brings one back.

abbrev one_life : List Call
one_life =
    ask 2
    ∷ ask 1
    ∷ ask 1
    ∷ ask_pool 3
    ∷ ask_pool 2
    ∷ completed 2
    ∷ pool_confirm_sent_call 64 1
    ∷ pool_end 1
    ∷ on_link (confirm_sent 1) 63
    ∷ on_link (grant_end 64 1 1) 1
    ∷ on_link (grant_end 63 1 1) 0
    ∷ on_link (grant_end 64 2 1) 1
    ∷ on_link (disconnected 8) 64
    ∷ on_link (grant_end 64 2 1) 1
    ∷ []

-- two of these are pending
answered : map (λ (o : Outcome). o.reply.number) (outcomes one_life made) ≡ 0 ∷ 0 ∷ 5 ∷ 0 ∷ 5 ∷ 0 ∷ 0 ∷ 0 ∷ 0 ∷ 0 ∷ 0 ∷ 0 ∷ 0 ∷ 0 ∷ []
unfolding locate well_formed slots_ok held_by lowest waits with_wait lowest_waiting
answered = refl

lives_once : OneLife 1 2 one_life made
unfolding locate well_formed slots_ok held_by lowest waits with_wait lowest_waiting
lives_once =
    (refl, refl, (refl, refl, (refl, refl, (refl, refl, (refl, refl, (refl, refl, (refl, refl, (refl, refl, (refl, refl, (refl, refl, (refl, refl, (refl, refl, (refl, refl, (refl, refl, refl))))))))))))))

-- at `connect` the credits are the default, in every reached table
pub the_default : (t : ConnectionManager) → Reached t → (i : ℕ) → locate is_free t ≡ At i → (run (connect_to 64) t).reply.number ≡ 0
    → (slot_at (run (connect_to 64) t).table i).link_credits ≡ t.default_link_credits
unfolding CreditBalance
the_default t r i e z = (credit_balance t r 64 peer Peripheral params i e z [] refl).0

pub balanced :
    (slot_at (after one_life made) 1).link_credits + (sums 1 one_life made).granted
    ≡ (slot_at made 1).link_credits + (sums 1 one_life made).completed + (sums 1 one_life made).given
unfolding CreditBalance locate well_formed slots_ok held_by lowest waits with_wait lowest_waiting
balanced = (credit_balance before reached 64 peer Peripheral params 1 refl refl one_life lives_once).1

-- the sums are those
pub summed : sums 1 one_life made ≡ record { granted = 3; completed = 2; given = 1 }
unfolding locate well_formed slots_ok held_by lowest waits with_wait lowest_waiting
summed = refl

-- ---- the bound, over the same life: two grants, one of them confirmed beyond its size; the old grant ended twice, and two ends
-- that are made up, at the other slot and in the life before; and a grant of the pool, of which one packet is completed and one
-- returned

abbrev fresh : Session
fresh = record { table = (new 2 251 4).table; held = [] }

abbrev earlier : List Act
earlier = does (set_link_credits_call 3) ∷ does (connect_to 63) ∷ does (connect_to 64) ∷ does (ask 1) ∷ does (on_link (disconnected 8) 64) ∷ []

abbrev start : Session
start = acted (does (connect_to 64)) (acted_all earlier fresh)

abbrev credits : Session → ℕ
credits p = (slot_at p.table 1).link_credits

abbrev asks : ℕ → Act
asks n = does (ask n)

abbrev completes : ℕ → Act
completes n = does (completed n)

abbrev acts : List Act
acts =
    asks 2
    ∷ asks 1
    ∷ asks 1
    ∷ confirms 1 3
    ∷ does (ask_pool 3)
    ∷ completes 2
    ∷ does (pool_confirm_sent_call 64 1)
    ∷ does (pool_end 1)
    ∷ ends 0
    ∷ ends 0
    ∷ does (on_link (grant_end 63 2 1) 0)
    ∷ does (on_link (grant_end 64 1 1) 1)
    ∷ ends 2
    ∷ []

abbrev later : List Act
later = does (on_link (disconnected 8) 64) ∷ ends 1 ∷ []

disciplined : Disciplined 1 2 0 (acts ++ later) start
unfolding locate well_formed slots_ok held_by lowest waits with_wait lowest_waiting
disciplined = (
  (refl, omega arith),
  (refl, refl),
  (
    (refl, omega arith),
    (refl, refl),
    (
      (refl, omega arith),
      (refl, refl),
      (
        (refl, omega arith),
        (omega arith, λ q. refl),
        (
          (refl, omega arith),
          (refl, refl),
          (
            (refl, omega arith),
            (refl, refl),
            (
              (refl, omega arith),
              (refl, refl),
              (
                (refl, omega arith),
                (refl, refl),
                (
                  (refl, omega arith),
                  (omega arith, λ q. absurd (false≢true q)),
                  (
                    (refl, omega arith),
                    (omega arith, λ q. absurd (false≢true q)),
                    (
                      (refl, omega arith),
                      (refl, refl),
                      (
                        (refl, omega arith),
                        (refl, refl),
                        (
                          (refl, omega arith),
                          (omega arith, λ q. refl),
                          (
                            (refl, omega arith),
                            (refl, refl),
                            (
                              (refl, omega arith),
                              (omega arith, λ q. refl),
                              (
                                refl,
                                omega arith,
                              ),
                            ),
                          ),
                        ),
                      ),
                    ),
                  ),
                ),
              ),
            ),
          ),
        ),
      ),
    ),
  ),
)

pub bounded : credits (acted_all acts start) ≤ 3
unfolding CreditBound locate well_formed slots_ok held_by lowest waits with_wait lowest_waiting
bounded = credit_bound 2 251 4 refl earlier 64 peer Peripheral params 1 refl refl acts later disciplined

-- all are back
pub all_back : credits (acted_all acts start) ≡ 3
unfolding locate well_formed slots_ok held_by lowest waits with_wait lowest_waiting
all_back = refl

-- ---- without one part of the premise: 3 credits at `connect`, and 4 afterwards. Grant 0 is of the life before, grant 1 of this one.

-- "each at most once"
pub ended_twice : credits (acted_all (asks 1 ∷ ends 1 ∷ ends 1 ∷ []) start) ≡ 4
unfolding locate well_formed slots_ok held_by lowest waits with_wait lowest_waiting
ended_twice = refl

-- "and used no further after that": no more is completed than was confirmed
abbrev afterwards : List Act
afterwards = asks 1 ∷ ends 1 ∷ confirms 1 1 ∷ []

pub used_after : credits (acted_all (afterwards ++ (completes 1 ∷ [])) start) ≡ 4
unfolding locate well_formed slots_ok held_by lowest waits with_wait lowest_waiting
used_after = refl

pub used_after_confirmed : sent_by 1 2 (acted_all afterwards start).held ≡ 1
unfolding locate well_formed slots_ok held_by lowest waits with_wait lowest_waiting
used_after_confirmed = refl

-- completions beyond what was confirmed so far, though at the end they are not
pub completed_first : credits (acted (completes 1) start) ≡ 4
unfolding locate well_formed slots_ok held_by lowest waits with_wait lowest_waiting
completed_first = refl

pub confirmed_later : sent_by 1 2 (acted_all (completes 1 ∷ asks 1 ∷ confirms 1 1 ∷ []) start).held ≡ 1
unfolding locate well_formed slots_ok held_by lowest waits with_wait lowest_waiting
confirmed_later = refl

-- "counted for each grant up to its size": 2 were confirmed on a grant of 1
abbrev beyond : List Act
beyond = asks 1 ∷ confirms 1 2 ∷ []

pub beyond_its_size : credits (acted_all (beyond ++ (completes 2 ∷ [])) start) ≡ 4
unfolding locate well_formed slots_ok held_by lowest waits with_wait lowest_waiting
beyond_its_size = refl

pub up_to_its_size : sent_by 1 2 (acted_all beyond start).held ≡ 1
unfolding locate well_formed slots_ok held_by lowest waits with_wait lowest_waiting
up_to_its_size = refl

-- "only grants that the table gave are ended"
pub made_up : credits (acted_all (does (on_link (grant_end 64 2 1) 1) ∷ []) start) ≡ 4
unfolding locate well_formed slots_ok held_by lowest waits with_wait lowest_waiting
made_up = refl

-- "as its confirms left it": an end of the holder's, with all that the grant was given with, is an end that is made up
pub ended_whole : credits (acted_all (asks 3 ∷ confirms 1 1 ∷ completes 1 ∷ does (on_link (grant_end 64 2 3) 1) ∷ []) start) ≡ 4
unfolding locate well_formed slots_ok held_by lowest waits with_wait lowest_waiting
ended_whole = refl

-- what was confirmed on the grant of the life before is not counted in this one
pub earlier_life : credits (acted_all (confirms 0 1 ∷ completes 1 ∷ []) start) ≡ 4
unfolding locate well_formed slots_ok held_by lowest waits with_wait lowest_waiting
earlier_life = refl

pub none_of_this_life : sent_by 1 2 (acted (confirms 0 1) start).held ≡ 0
unfolding locate well_formed slots_ok held_by lowest waits with_wait lowest_waiting
none_of_this_life = refl

pub of_the_life_before : sent_by 1 1 (acted (confirms 0 1) start).held ≡ 1
unfolding locate well_formed slots_ok held_by lowest waits with_wait lowest_waiting
of_the_life_before = refl

-- a packet of the pool that is reported as completed to the link's credits: no grant of link credits sent it
pub from_the_pool : credits (acted_all (does (ask_pool 1) ∷ completes 1 ∷ []) start) ≡ 4
unfolding locate well_formed slots_ok held_by lowest waits with_wait lowest_waiting
from_the_pool = refl

pub none_confirmed : sent_by 1 2 (acted (does (ask_pool 1)) start).held ≡ 0
unfolding locate well_formed slots_ok held_by lowest waits with_wait lowest_waiting
none_confirmed = refl

-- the life ends with the next `connect`: a grant, and then 3 credits again without a completion or an end
pub next_life : credits (acted_all (asks 1 ∷ does (on_link (disconnected 8) 64) ∷ does (connect_to 64) ∷ []) start) ≡ 3
unfolding locate well_formed slots_ok held_by lowest waits with_wait lowest_waiting
next_life = refl

-- ---- a `connect` that is refused with 15 at the slot that it chose begins no life: its credits are not the default. (A table with
-- such a slot is reached after 4,294,967,295 `connect`s; this one is put together.)

abbrev last : ConnectionManager
last = put before 1 (set_link_credits (set_life fresh_slot 4294967295) 2)

pub chosen : locate is_free last ≡ At 1
unfolding locate well_formed slots_ok held_by lowest waits with_wait lowest_waiting
chosen = refl

pub refused : (run (connect_to 64) last).reply.number ≡ 15
unfolding locate well_formed slots_ok held_by lowest waits with_wait lowest_waiting
refused = refl

pub not_the_default : (slot_at (run (connect_to 64) last).table 1).link_credits ≡ 2
unfolding locate well_formed slots_ok held_by lowest waits with_wait lowest_waiting
not_the_default = refl

-- What a call gives back: document 01's number and values, who is woken, and the table. Assumes nothing.
use Rattle.std.specs.Prelude.{ℕ, ◌+◌, ◌%◌, ◌^◌, Bool, true, false, List, [], ◌∷◌, Option, None, Some, Result, Ok, Err}
pub use Rattle.refusal.specs.declared.Refusal.{Refusal}
pub use Rattle.refusal.specs.declared.Refusal.TheVariants as Refusal
pub use Rattle.refusal.specs.Number.{number_of}
pub use Rattle.state.specs.State.{reason_value}
pub use Rattle.event_queue.specs.Queue.{phy_value}
use Rattle.event_queue.specs.declared.ConnectionEvent.{ConnectionEvent}
use Rattle.event_queue.specs.declared.ConnectionEvent.TheVariants as event
use Rattle.pool.specs.declared.Share.{Share}
use Rattle.pool.specs.declared.Share.TheVariants.{Untouched}
use Rattle.slot.specs.declared.ConnectionStorage.{ConnectionStorage}
use Rattle.slot.specs.declared.ConnectionManager.{ConnectionManager}
use Rattle.slot.specs.declared.Woken.{Woken}
use Rattle.slot.specs.declared.Woken.TheVariants.{Nobody}

-- the number, 0 where nothing is refused, and the values
pub record Reply : Type 0 where
  pub number : ℕ
  pub values : List ℕ

abbrev pub ok : List ℕ → Reply
ok vs = record { number = 0; values = vs }

abbrev pub refusal : Refusal → Reply
refusal r = record { number = number_of r; values = [] }

-- an answer of the code: what it gives has these values
abbrev pub reply_of : {A : Type 0} → (A → List ℕ) → Result A Refusal → Reply
reply_of values (Ok a) = ok (values a)
reply_of values (Err r) = refusal r

-- it gives nothing
abbrev pub no_value : Unit {0} → List ℕ
no_value u = []

-- it gives one number
abbrev pub one_value : ℕ → List ℕ
one_value n = n ∷ []

-- ---- the values that stand for an event

-- the event's kind, and its fields in the order of the Rust
abbrev pub event_values : ConnectionEvent → List ℕ
event_values (event.Disconnected reason) = 0 ∷ reason ∷ []
event_values (event.PhyUpdated tx rx) = 1 ∷ phy_value tx ∷ phy_value rx ∷ []
event_values (event.ConnectionParamsUpdated latency interval timeout) = 2 ∷ interval ∷ latency ∷ timeout ∷ []
event_values (event.SubratingParamsUpdated factor latency continuation timeout) =
    3 ∷ factor ∷ latency ∷ continuation ∷ timeout ∷ []
event_values (event.DataLengthUpdated tx_octets tx_time rx_octets rx_time) = 4 ∷ tx_octets ∷ tx_time ∷ rx_octets ∷ rx_time ∷ []
event_values (event.ConnectionRateChanged factor latency continuation interval timeout) =
    5 ∷ interval ∷ factor ∷ latency ∷ continuation ∷ timeout ∷ []

-- `next` polled once: the oldest event, or 5
abbrev pub oldest_reply : Option ConnectionEvent → Reply
oldest_reply None = refusal Refusal.Pending
oldest_reply (Some e) = ok (event_values e)

-- ---- what a call does to the one slot that it is about

-- the reply, who is woken, the slot afterwards, and what the call does to the pool: links share nothing else that a call about
-- one of them writes
pub record Local : Type 0 where
  pub reply : Reply
  pub woken : Woken
  pub slot : ConnectionStorage
  pub share : Share

-- the pool is left alone
abbrev pub unshared : Reply → Woken → ConnectionStorage → Local
unshared r w s = record { reply = r; woken = w; slot = s; share = Untouched }

-- accepted with these values; the slot afterwards; nobody is woken
abbrev pub accept : List ℕ → ConnectionStorage → Local
accept vs s = unshared (ok vs) Nobody s

-- accepted, and this waiter is woken
abbrev pub wake : Woken → ConnectionStorage → Local
wake w s = unshared (ok []) w s

-- refused; the slot that is left behind; nobody is woken
abbrev pub refuse : Refusal → ConnectionStorage → Local
refuse r s = unshared (refusal r) Nobody s

-- ---- what a call does to the table

pub record Outcome : Type 0 where
  pub reply : Reply
  pub woken : Woken
  pub table : ConnectionManager

-- an answer that leaves the table as it was and wakes nobody
abbrev pub unmoved : Reply → ConnectionManager → Outcome
unmoved r t = record { reply = r; woken = Nobody; table = t }

-- `blocked_sends` and the lost counts wrap: from 4,294,967,295 the next is 0
abbrev pub next_count : ℕ → ℕ
next_count n = (n + 1) % 2 ^ 32

-- a count, raised or not
abbrev pub raised : Bool → ℕ → ℕ
raised true n = next_count n
raised false n = n

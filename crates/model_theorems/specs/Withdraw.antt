-- "Asking and then withdrawing, from a Connected slot with a reference, must leave the whole table as before." For both calls
-- that ask, every reason and every table that is not refused with 8, reached or not. This file is the statement, `AskWithdraw`.
-- It is proved in proofs/Withdrawn.antt. Assumes nothing.
use Rattle.std.specs.Prelude.{ℕ, ◌<◌, ◌≡◌, ◌≢◌, true, []}
use Rattle.state.specs.declared.DisconnectReason.{DisconnectReason}
use Rattle.state.specs.declared.ConnectionState.TheVariants.{Connected}
use Rattle.slot.specs.declared.ConnectionManager.{ConnectionManager}
use Rattle.slot.specs.declared.Located.TheVariants.{At}
use Rattle.model.specs.Answer.{ok, unmoved}
use Rattle.model.specs.Find.{slot_at, well_formed, locate, fits, by_live}
use Rattle.model.specs.Link.{request_disconnect, request_handle_disconnect, withdraw_disconnect}
use Rattle.model.specs.Calls.{Call, on_link, run}

-- the whole outcome of the withdrawal: answered 0, nobody woken, the table as it was before the asking
abbrev pub CalledOff : Call → ℕ → ConnectionManager → Type 0
CalledOff asks i t = run (on_link withdraw_disconnect i) (run asks t).table ≡ unmoved (ok []) t

unfoldable pub AskWithdraw : Type 0
AskWithdraw =
    (t : ConnectionManager) (i : ℕ) (r : DisconnectReason) → (slot_at t i).state ≡ Connected → (slot_at t i).refcount ≢ 0
    -- asked by the slot's index, on a table that is not refused with 8
    → (well_formed t ≡ true → i < t.count → CalledOff (on_link (request_disconnect r) i) i t)
    -- asked by a handle whose live slot this is
    × ((h : ℕ) → locate (fits by_live h) t ≡ At i → CalledOff (on_link (request_handle_disconnect r) h) i t)

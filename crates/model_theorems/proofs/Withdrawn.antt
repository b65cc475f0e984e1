-- Asking and then withdrawing leaves the table as it was: the proof of `AskWithdraw`, and a case of it. Assumes nothing.
use Rattle.std.specs.Prelude.{ℕ, ◌<◌, ◌≡◌, refl, ◌≢◌, true, [], length, leb}
use Rattle.std.proofs.Common.{sym, ap, ◌∙◌, arith, set-set, eq-eqb, ne_eqb, eqb-true, leb-true, leb-false}
use Rattle.std.proofs.lemmas.Bool.{false≢true}
use Rattle.std.proofs.Math.ListN.{get_or-eq_default}
use Rattle.state.specs.declared.DisconnectReason.{DisconnectReason}
use Rattle.state.specs.declared.DisconnectReason.TheVariants.{AuthenticationFailure, RemoteUserTerminatedConn}
use Rattle.state.specs.declared.ConnectionState.TheVariants.{DisconnectRequest, Connected}
use Rattle.turn.specs.Turn.{waits, with_wait, lowest_waiting}
use Rattle.slot.specs.declared.ConnectionStorage.{ConnectionStorage}
use Rattle.slot.specs.declared.ConnectionManager.{ConnectionManager}
use Rattle.slot.specs.declared.Located.TheVariants.{At}
use Rattle.slot.specs.declared.Woken.TheVariants.{Nobody}
use Rattle.slot.specs.Fresh.{blank_slot}
use Rattle.slot.specs.Set.{set_state, set_connections}
use Rattle.state.specs.State.{is_open}
use Rattle.model.specs.Answer.{ok, unmoved}
use Rattle.model.specs.Find.{slot_at, slots_ok, held_by, well_formed, lowest, locate, fits, by_index, by_live}
use Rattle.model.specs.Link.{Op, request_disconnect, request_handle_disconnect, withdraw_disconnect, absent}
use Rattle.model.specs.Calls.{on_link, run, put, settle, done}
use Rattle.model.proofs.Laws.{split, WellFormed, well_formed_lem, formed_well, lowest_only, locate_formed, located, put_same}
use Rattle.model.proofs.Alike.{locate_alike}
use Rattle.model_theorems.specs.Withdraw.{AskWithdraw, CalledOff}
use Rattle.model_theorems.proofs.Reach.{put_here}
use Rattle.model_theorems.proofs.Shuffled.{start}

-- ---- a slot by its index

-- an open slot is one of the array's
pub open_place : (t : ConnectionManager) (i : ℕ) → is_open (slot_at t i).state ≡ true → i < length t.connections
open_place t i o =
    split (leb (length t.connections) i)
    (λ f.
    absurd
    (false≢true
    (ap (λ (s : ConnectionStorage). is_open s.state) (sym (get_or-eq_default t.connections blank_slot (leb-true _ _ f))) ∙ o)))
    (λ f. omega (arith, leb-false (length t.connections) i f))

pub at_index : (t : ConnectionManager) (i : ℕ) → WellFormed t → i < t.count → locate (fits by_index i) t ≡ At i
at_index t i w h =
    locate_formed (fits by_index i) t (well_formed_lem t w)
    ∙ lowest_only (fits by_index i) t.connections t.count 0 i (omega arith) (omega arith) (λ j a b e. eqb-true j i e)
    ∙ rw (eq-eqb i i refl)

-- ---- asking, then withdrawing

module _ (t : ConnectionManager) (i : ℕ) (r : DisconnectReason) (here : i < t.count) (formed : well_formed t ≡ true)
    (connected : (slot_at t i).state ≡ Connected) (referenced : (slot_at t i).refcount ≢ 0) where
  abbrev asking : ConnectionStorage
  asking = set_state (slot_at t i) (DisconnectRequest r)

  abbrev asked : ConnectionManager
  asked = put t i asking

  place : i < length t.connections
  place = open_place t i (ap is_open connected)

  -- the search does not look at the state
  asked_at_lem : locate (fits by_index i) asked ≡ At i
  asked_at_lem = locate_alike t i asking refl refl (fits by_index i) (λ j. refl) ∙ at_index t i (formed_well t formed) here

  -- the slot as it was
  restored : set_state asking Connected ≡ slot_at t i
  restored = ap (set_state (slot_at t i)) (sym connected)

  back : put asked i (set_state asking Connected) ≡ t
  back =
      ap (set_connections t) (set-set t.connections i asking (set_state asking Connected))
      ∙ ap (put t i) restored
      ∙ put_same t i

  withdrawal : run (on_link withdraw_disconnect i) asked ≡ unmoved (ok []) t
  withdrawal =
      ap (λ f. settle (absent withdraw_disconnect t.default_att_mtu) (done withdraw_disconnect asked) asked f)
      asked_at_lem
      ∙ rw (put_here t i asking place, ne_eqb (slot_at t i).refcount 0 referenced) (ap (unmoved (ok [])) back)

  asks : (op : Op) (n : ℕ) → (run (on_link op n) t).table ≡ asked → CalledOff (on_link op n) i t
  asks op n e = rw e withdrawal

  asks_by_index : (run (on_link (request_disconnect r) i) t).table ≡ asked
  asks_by_index = rw (at_index t i (formed_well t formed) here, connected)

  asks_by_handle : (h : ℕ) → locate (fits by_live h) t ≡ At i → (run (on_link (request_handle_disconnect r) h) t).table ≡ asked
  asks_by_handle h e = rw (e, connected)

pub ask_withdraw : AskWithdraw
unfolding AskWithdraw
ask_withdraw t i r c n = (
  λ w b. asks t i r b w c n (request_disconnect r) i (asks_by_index t i r b w c n),
  λ h e.
      let l = located (fits by_live h) t i e in
      asks t i r l.1 l.0 c n (request_handle_disconnect r) h (asks_by_handle t i r l.1 l.0 c n h e),
)

-- ---- a case: the second slot of the table of Shuffled.antt is Connected, with a reference and handle 65; it holds packets of the
-- pool and waits for more

pub back_by_index :
    run (on_link withdraw_disconnect 1) (run (on_link (request_disconnect RemoteUserTerminatedConn) 1) start).table
    ≡ record { reply = ok []; woken = Nobody; table = start }
unfolding AskWithdraw locate well_formed slots_ok held_by lowest waits with_wait lowest_waiting
back_by_index = (ask_withdraw start 1 RemoteUserTerminatedConn refl (omega arith)).0 refl (omega arith)

pub back_by_handle : CalledOff (on_link (request_handle_disconnect AuthenticationFailure) 65) 1 start
unfolding AskWithdraw locate well_formed slots_ok held_by lowest waits with_wait lowest_waiting
back_by_handle = (ask_withdraw start 1 AuthenticationFailure refl (omega arith)).1 65 refl

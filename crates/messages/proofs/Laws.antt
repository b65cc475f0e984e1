-- What the code's proofs cite. Assumes nothing.
use Rattle.std.specs.Prelude.{ℕ, ◌≡◌, refl, Bool, false, cond, List, [], ◌∷◌, eqb}
use Rattle.std.proofs.Common.{sym, ap, ◌∙◌}
use Rattle.std.proofs.Math.Option.{none, some}
use Rattle.slot.specs.declared.ConnectionManager.{ConnectionManager}
use Rattle.slot.specs.declared.Located.{Located}
use Rattle.slot.specs.declared.LeConnRole.{LeConnRole}
use Rattle.slot.specs.declared.Address.{Address}
use Rattle.slot.specs.declared.ConnParams.{ConnParams}
use Rattle.model.specs.Answer.{Refusal, Reply, Local, Outcome}
use Rattle.model.specs.Find.{Test, well_formed}
use Rattle.model.specs.Link.{Op}
use Rattle.model.specs.Calls.{Call, on_link, connects, run, outcome, settle}
use Rattle.model.proofs.Laws.{split, locate_setup}
use Rattle.woken_set.specs.WokenSet.{nobody, added}
use Rattle.hci.specs.declared.HciEvent.{HciEvent}
use Rattle.hci.specs.Format.{of_form}
use Rattle.hci.specs.Read.{event_in}
use Rattle.hci.proofs.Laws.{of_form_lem}
use Rattle.completed_packets.specs.Read.{completed_in}
use Rattle.messages.specs.Received.{Received, refused_with, ran_all, run_all, only_reply, if_status0, received_as, received}

-- what one call gives back, as a message's outcome
abbrev pub lifted : Outcome → Received
lifted o = record { reply = o.reply; woken = added nobody o.woken; table = o.table }

-- a table that is not well formed: 8 from every search
outcome_setup : (test : Test) (absent : Reply) (done : ℕ → Local) (t : ConnectionManager) → well_formed t ≡ false
    → lifted (outcome test absent done t) ≡ refused_with Refusal.Setup t
outcome_setup test absent done t e =
    ap (λ (f : Located). lifted (settle absent done t f)) (locate_setup test t e)

-- a message that runs one call, which looks at the table itself
one : (c : Call) (t : ConnectionManager) → (well_formed t ≡ false → lifted (run c t) ≡ refused_with Refusal.Setup t)
    → lifted (run c t) ≡ run_all only_reply (c ∷ []) t
one c t h = split (well_formed t) (λ e. rw e refl) (λ e. rw e (h e))

pub runs_on_link : (op : Op) (n : ℕ) (t : ConnectionManager)
    → lifted (run (on_link op n) t) ≡ run_all only_reply (on_link op n ∷ []) t
runs_on_link op n t = one (on_link op n) t (λ e. outcome_setup _ _ _ t e)

pub runs_connect : (handle : ℕ) (peer : Address) (role : LeConnRole) (params : ConnParams) (t : ConnectionManager)
    → lifted (run (connects handle peer role params) t) ≡ run_all only_reply (connects handle peer role params ∷ []) t
runs_connect handle peer role params t = one (connects handle peer role params) t (λ e. outcome_setup _ _ _ t e)

-- by the check of the table
pub by_check : (reply : List Outcome → Reply) (cs : List Call) (t : ConnectionManager) (b : Bool) {x : Received} → well_formed t ≡ b
    → x ≡ cond b (ran_all reply cs t) (refused_with Refusal.Setup t) → x ≡ run_all reply cs t
by_check reply cs t b h e = rw h e

-- by the status
pub by_status : (status : ℕ) (c : Call) (t : ConnectionManager) (b : Bool) {x : Received} → eqb status 0 ≡ b
    → x ≡ run_all only_reply (cond b (c ∷ []) []) t → x ≡ run_all only_reply (if_status0 status c) t
by_status status c t b h e = rw h e

-- ---- by what the reader found

pub event_read : (s : List ℕ) (e : HciEvent) (t : ConnectionManager) {x : Received} → some e ≡ event_in s
    → x ≡ received_as (cond (of_form e) (some e) none) none t → x ≡ received s t
event_read s e t q h =
    h
    ∙ ap (λ b. received_as (cond b (some e) none) none t) (of_form_lem s e (sym q))
    ∙ ap (λ o. received_as o (completed_in s) t) q

pub no_event_read : (s : List ℕ) (t : ConnectionManager) {x : Received} → none ≡ event_in s → x ≡ received_as none (completed_in s) t
    → x ≡ received s t
no_event_read s t q h = h ∙ ap (λ o. received_as o (completed_in s) t) q

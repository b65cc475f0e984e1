-- Demand 3 of the code, shown: of any outcomes that the contract of `calls::run_call` ensures of the calls that are made; and the tables
-- that they lead to are reached. Its words are in specs/Code.antt. Assumes nothing.
use Rattle.std.specs.Prelude.{ℕ, ◌≡◌, refl, List, [], ◌∷◌, map}
use Rattle.std.proofs.Math.Path.{sym, ap}
use Rattle.std.proofs.Common.{◌∙◌}
use Rattle.slot.specs.declared.ConnectionManager.{ConnectionManager}
use Rattle.model.specs.Answer.{Outcome}
use Rattle.model.specs.Link.{Op, get_connected_handle, inc_ref, dec_ref, request_disconnect, request_handle_disconnect, withdraw_disconnect, confirm, disconnected, post_handle_event, next, poll_acquire_acl_send_lock, unlock_acl_send, poll_request_to_send, grant_end, confirm_sent, has_link_credits, exchange_att_mtu, get_att_mtu_handle, negotiate_att_mtu, get_stored_att_mtu, acquire_indication_slot, release_indication_slot, signal_indication_confirmation, wait_indication_confirmation, way_of}
use Rattle.model.specs.Calls.{Call as ModelCall, on_link, run}
use Rattle.model.specs.History.{Reached, after}
use Rattle.model.specs.Demand3.{OwnHandles, own_number, Trace, of_link, Answer, answer_of, answers_from, table_from, Lists, OnLinks, alone, Shuffle, in_turn, Order, Demand3}
use Rattle.model.specs.Demand3 as links
use Rattle.model_theorems.proofs.Reach.{reached_by}
use Rattle.model_theorems.proofs.Order.{demand3}
use Rattle.calls.specs.declared.Call.{Call}
use Rattle.calls.specs.declared.CallOutcome.{CallOutcome}
use Rattle.calls.specs.Answer.{call_of, call_outcome}
use Rattle.calls.proofs.run_call.Reads as contract
use Rattle.isolation.specs.Code.{code_at, code_of, Ran, Ensured, code_table, code_answers, code_calls, EnsuredOf}

code_at_lem : (op : Op) (n : ℕ) → call_of (code_at op n) ≡ on_link op n
code_at_lem get_connected_handle n = refl
code_at_lem inc_ref n = refl
code_at_lem dec_ref n = refl
code_at_lem (request_disconnect r) n = refl
code_at_lem (request_handle_disconnect r) n = refl
code_at_lem withdraw_disconnect n = refl
code_at_lem (confirm h v r) n = refl
code_at_lem (disconnected v) n = refl
code_at_lem (post_handle_event e) n = refl
code_at_lem next n = refl
code_at_lem poll_acquire_acl_send_lock n = refl
code_at_lem (unlock_acl_send h v) n = refl
code_at_lem (poll_request_to_send i v k) n = refl
code_at_lem (grant_end h v k) n = refl
code_at_lem (confirm_sent k) n = refl
code_at_lem (has_link_credits k) n = refl
code_at_lem (exchange_att_mtu m) n = refl
code_at_lem get_att_mtu_handle n = refl
code_at_lem (negotiate_att_mtu m) n = refl
code_at_lem get_stored_att_mtu n = refl
code_at_lem acquire_indication_slot n = refl
code_at_lem release_indication_slot n = refl
code_at_lem signal_indication_confirmation n = refl
code_at_lem wait_indication_confirmation n = refl

-- ---- what a call ensures

-- it is what the contract in the code says
pub run_call_ensures : (κs : _) (t : ConnectionManager) (c : Call) (r : CallOutcome) (end : _) → contract.Post κs (t, (c, tt)) r end → Ran t c r
run_call_ensures κs t c r end p = p.0

pub same_after : (cs : List Call) (t : ConnectionManager) (rs : List CallOutcome) → Ensured cs t rs
    → code_table rs t ≡ after (map call_of cs) t
same_after [] t [] h = refl
same_after [] t (r ∷ rs) h = absurd h
same_after (c ∷ cs) t [] h = absurd h
same_after (c ∷ cs) t (r ∷ rs) h =
    same_after cs r.table rs h.1 ∙ ap (λ (o : Outcome). after (map call_of cs) o.table) h.0

-- the tables that the code's calls lead to are reached
pub code_reached : (cs : List Call) (t : ConnectionManager) (rs : List CallOutcome) → Reached t → Ensured cs t rs → Reached (code_table rs t)
code_reached cs t rs r h = reached_by (map call_of cs) t (code_table rs t) (same_after cs t rs h) r

-- ---- demand 3

module _ (start : ConnectionManager) where
  step : (e : ℕ × Op) (t : ConnectionManager) (r : CallOutcome) → Ran t (code_of start e) r
      → call_outcome r ≡ run (links.call_of start e) t
  step e t r h = h ∙ ap (λ (c : ModelCall). run c t) (code_at_lem e.1 (own_number (way_of e.1) start e.0))

  same_answers : (es : Trace) (t : ConnectionManager) (rs : List CallOutcome) → Ensured (code_calls start es) t rs
      → code_answers es rs ≡ answers_from start es t
  same_answers [] t rs h = refl
  same_answers (e ∷ es) t [] h = absurd h
  same_answers (e ∷ es) t (r ∷ rs) h =
      ap (λ (as' : List (ℕ × Answer)). (e.0, answer_of (call_outcome r)) ∷ as') (same_answers es r.table rs h.1)
      ∙ ap (λ (o : Outcome). (e.0, answer_of o) ∷ answers_from start es o.table) (step e t r h.0)

  same_table : (es : Trace) (t : ConnectionManager) (rs : List CallOutcome) → Ensured (code_calls start es) t rs
      → code_table rs t ≡ table_from start es t
  same_table [] t [] h = refl
  same_table [] t (r ∷ rs) h = absurd h
  same_table (e ∷ es) t [] h = absurd h
  same_table (e ∷ es) t (r ∷ rs) h =
      same_table es r.table rs h.1 ∙ ap (λ (o : Outcome). table_from start es o.table) (step e t r h.0)

  -- demand 3, of the code's answers and tables
  pub code_demand3 : Reached start → OwnHandles start
      → (lists : Lists) → OnLinks start lists
      → (trace : Trace) → Shuffle lists trace → (rs : List CallOutcome) → EnsuredOf start trace rs
      → ((i : ℕ) (rs' : List CallOutcome) → EnsuredOf start (alone lists i) rs' → of_link i (code_answers trace rs) ≡ of_link i (code_answers (alone lists i) rs'))
      × ((order : List ℕ) → Order lists order → (rs' : List CallOutcome) → EnsuredOf start (in_turn lists order) rs'
      → ((i : ℕ) → of_link i (code_answers trace rs) ≡ of_link i (code_answers (in_turn lists order) rs'))
      × (code_table rs start ≡ code_table rs' start))
  unfolding Demand3
  code_demand3 reached own lists on trace s rs h =
      let d = demand3 start reached own lists on trace s in (
        λ i rs' h'.
            ap (of_link i) (same_answers trace start rs h) ∙ d.0 i ∙ sym (ap (of_link i) (same_answers (alone lists i) start rs' h')),
        λ order o rs' h'. (
          λ i.
              ap (of_link i) (same_answers trace start rs h)
              ∙ (d.1 order o).0 i
              ∙ sym (ap (of_link i) (same_answers (in_turn lists order) start rs' h')),
          same_table trace start rs h ∙ (d.1 order o).1 ∙ sym (same_table (in_turn lists order) start rs' h'),
        ),
      )

-- Demand 1 of received bytes, shown: whatever bytes are in the memory, the machine's run of `host::received` or
-- `host_att::received_att` on a slice of them ends, and as the contract says, in any program that has their code. Assumes nothing.
use Rattle.std.specs.Prelude.{ℕ, ◌<◌, ◌^◌, ◌≡◌, refl, List, [], ◌∷◌}
use Rattle.std.proofs.Common.{ap, arith}
use Rattle.std.proofs.Math.Logic.{∥∥₁_prop, ∥∥₁_elim, ∥∥₁_map}
use base.Logic.{SProp, id⊢}
use mir.Syntax.{w8, w16}
use mir.Val.{vint, Fits}
use prog.Memory.{Memory}
use prog.Routine.{Env, ends}
use prog.Wired.{Wired}
use ghost.Model.{𝓤}
use contract.BorrowModel.{logic₀}
use contract.Monad.{fact}
use denote.Builtin.{u16}
use denote.Plain.{uint_Makes}
use denote.Struct.Laws as struct
use Rattle.slot.specs.declared.ConnectionManager.{ConnectionManager}
use Rattle.slot.specs.contracts.ConnectionManager as table
use Rattle.slot.proofs.ConnectionManager.TheLaws as of_table
use Rattle.model.specs.Answer.{Outcome}
use Rattle.model.specs.History.{new as new_of}
use Rattle.messages.specs.Received.{received as received_of, received_att as received_att_of}
use Rattle.table.proofs.new.Symbol as of_new
use Rattle.received.specs.declared.Received.{Received}
use Rattle.received.specs.Answer.{received_of as given_of}
use Rattle.received.specs.contracts.Received as given
use Rattle.host_event.specs.declared.EventGives.{EventGives}
use Rattle.host_event.specs.Answer.{event_gives_values}
use Rattle.host_event.specs.contracts.EventGives as event
use Rattle.host.specs.contracts.received as received
use Rattle.host.proofs.received.Symbol as of_received
use Rattle.host.proofs.received.Met as met_received
use Rattle.host_att.specs.declared.AttGives.{AttGives}
use Rattle.host_att.specs.Answer.{att_gives_values}
use Rattle.host_att.specs.contracts.AttGives as att
use Rattle.host_att.specs.contracts.received_att as received_att
use Rattle.host_att.proofs.received_att.Symbol as of_received_att
use Rattle.host_att.proofs.received_att.Met as met_received_att
use Rattle.machine.specs.Returns.{returns}
use Rattle.machine.specs.Values.{stated}
use Rattle.machine.proofs.Bytes.{on_bytes}
use Rattle.isolation.specs.Machine.{table_value, TableHeld}
use Rattle.isolation.proofs.Calls.{new_returns}
use Rattle.host_machine.specs.Received.{Bytes, memory_of, slice_of, event_type, event_laws, event_value, att_type, att_laws, att_value}

pub received_returns : (γ : Env) → Wired γ of_received.code → (t : ConnectionManager) → TableHeld t → (xs : List ℕ) → Bytes xs
    → ∥ ((r : Received EventGives) × (σ' : Memory)
    × ends (γ of_received.name) (table_value t ∷ slice_of xs ∷ []) (memory_of xs) (event_value r) σ'
    × TableHeld r.table × (given_of event_gives_values r ≡ received_of xs t)) ∥₁
received_returns γ code t ht xs ok =
    ∥∥₁_map
    (on_bytes (table.the_row ∷ []) (given.the_row event.the_row) (λ 𝓤. received.spec) (γ of_received.name)
    ((t, table_value t, struct.makes table.the_type of_table.the_plain logic₀, ht), tt) xs
    (returns of_received.code (λ κs a. (tt, refl)) met_received.met γ code)
    event_value (struct.tells event_type event_laws) (λ r. given_of event_gives_values r ≡ received_of xs t)
    (λ α g r.
    let is : SProp 𝓤 = fact 𝓤 (given_of event_gives_values r ≡ received_of xs t) in
    stated received.signature (received.ended).kept (α ∷ [], tt) (t, (record { ref_ptr = (0, 0); now = xs }, tt)) (λ e. is) (given_of event_gives_values r ≡ received_of xs t) (λ e. id⊢ 𝓤 is))
    ok.0 ok.1)
    (λ p. (p.1, p.2, p.3, (struct.owed event_type event_laws p.1 (event_value p.1 ∷ []) p.4).1.1.0, p.5))

pub received_att_returns : (γ : Env) → Wired γ of_received_att.code → (t : ConnectionManager) → TableHeld t → (handle : ℕ) → handle < 2 ^ 16 → (xs : List ℕ) → Bytes xs
    → ∥ ((r : Received AttGives) × (σ' : Memory)
    × ends (γ of_received_att.name) (table_value t ∷ vint w16 handle ∷ slice_of xs ∷ []) (memory_of xs) (att_value r) σ'
    × TableHeld r.table × (given_of att_gives_values r ≡ received_att_of handle xs t)) ∥₁
received_att_returns γ code t ht handle small xs ok =
    ∥∥₁_map
    (on_bytes (table.the_row ∷ u16 ∷ []) (given.the_row att.the_row) (λ 𝓤. received_att.spec) (γ of_received_att.name)
    ((t, table_value t, struct.makes table.the_type of_table.the_plain logic₀, ht), ((handle, vint w16 handle, uint_Makes logic₀ w16, (refl, small)), tt)) xs
    (returns of_received_att.code (λ κs a. (tt, refl)) met_received_att.met γ code)
    att_value (struct.tells att_type att_laws) (λ r. given_of att_gives_values r ≡ received_att_of handle xs t)
    (λ α g r.
    let is : SProp 𝓤 = fact 𝓤 (given_of att_gives_values r ≡ received_att_of handle xs t) in
    stated received_att.signature (received_att.ended).kept (α ∷ [], tt) (t, (handle, (record { ref_ptr = (0, 0); now = xs }, tt))) (λ e. is) (given_of att_gives_values r ≡ received_att_of handle xs t) (λ e. id⊢ 𝓤 is))
    ok.0 ok.1)
    (λ p. (p.1, p.2, p.3, (struct.owed att_type att_laws p.1 (att_value p.1 ∷ []) p.4).1.1.0, p.5))

-- ---- a message and a table that they speak of: Number Of Completed Packets, on a fresh table of one slot

abbrev pub completed : List ℕ
completed = 0x13 ∷ 0x05 ∷ 0x01 ∷ 0x40 ∷ 0x00 ∷ 0x02 ∷ 0x00 ∷ []

completed_bytes_lem : Bytes completed
completed_bytes_lem =
    let f : (n : ℕ) → n < 2 ^ 8 → Fits w8 n = λ n h. record { fits = h } in (
      (f 0x13 (omega arith), (f 0x05 (omega arith), (f 0x01 (omega arith), (f 0x40 (omega arith), (f 0x00 (omega arith), (f 0x02 (omega arith), (f 0x00 (omega arith), tt))))))),
      (omega arith, omega arith),
    )

pub completed_run : (γ : Env) → Wired γ of_new.code → Wired γ of_received.code
    → ∥ ((t : ConnectionManager) × (r : Received EventGives) × (σ' : Memory)
    × ends (γ of_received.name) (table_value t ∷ slice_of completed ∷ []) (memory_of completed) (event_value r) σ'
    × (t ≡ (new_of 1 251 10).table) × (given_of event_gives_values r ≡ received_of completed t)) ∥₁
completed_run γ code here =
    ∥∥₁_elim (new_returns γ code 1 251 10 (omega arith) (omega arith) (omega arith) (memory_of [])) ∥∥₁_prop (λ m.
    ∥∥₁_map (received_returns γ here m.0.table m.3 completed completed_bytes_lem) (λ p.
    (m.0.table, p.0, p.1, p.2, ap (λ (o : Outcome). o.table) m.4, p.4)))

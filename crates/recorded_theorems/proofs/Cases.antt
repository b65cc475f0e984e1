-- A case of each statement, which uses every hypothesis of it. Assumes nothing.
use Rattle.std.specs.Prelude.{ℕ, ◌≡◌, refl, ◌≢◌, true, List, [], ◌∷◌}
use Rattle.std.proofs.Common.{arith}
use Rattle.slot.specs.declared.LeConnRole.TheVariants.{Central, Peripheral}
use Rattle.model.specs.Answer.{Refusal, refusal, unmoved}
use Rattle.model.specs.Find.{slots_ok, held_by, well_formed, lowest, locate}
use Rattle.model.specs.Calls.{poll_accept_call, run}
use Rattle.model.specs.History.{Reached, no_table}
use Rattle.number_theorems.specs.Numbers.{is_in}
use Rattle.peer_records.specs.Below.{all_below}
use Rattle.peer_records.specs.Format.{earliest, record_at}
use Rattle.peer_records.specs.Force.{peers_below, peers_in}
use Rattle.accept_recorded.specs.Recorded.{poll_recorded}
use Rattle.table_rows.specs.Shared.{peer}
use Rattle.peer_rows.specs.Files.{connecting, waiting, held, of, file, kind_role}
use Rattle.recorded_theorems.specs.Statement.{RecordedRuns, RecordedRefusals, RecordedReached, RecordedNumbers, recorded_numbers, Recorded, RecordedAccepts}
use Rattle.recorded_theorems.proofs.Runs.{recorded_runs, recorded_refusals, recorded_reached, recorded_numbers_lem}
use Rattle.recorded_theorems.proofs.Accepts.{recorded_accepts}

-- three records of peers 1 and 2: one of each is in force, both for a Peripheral
abbrev records : List ℕ
records = file (of 1 5 0 ∷ of 2 5 1 ∷ of 1 6 1 ∷ [])

some_there : peers_in records Peripheral ≢ []
unfolding all_below record_at peers_below
some_there e = let z : ◌≡◌ {A = ℕ} 0 1 = cc in omega arith

-- with peers 1 and 2 the Peripheral's poll is the old one; for a Central there is none
pub runs_listed : poll_recorded Peripheral records waiting ≡ run (poll_accept_call Peripheral (peer 1 ∷ peer 2 ∷ [])) waiting
unfolding locate well_formed slots_ok held_by lowest all_below earliest record_at peers_below RecordedRuns
runs_listed = (recorded_runs Peripheral records waiting refl refl refl).0 some_there

pub runs_none : poll_recorded Central records waiting ≡ unmoved (refusal Refusal.Pending) waiting
unfolding locate well_formed slots_ok held_by lowest all_below earliest record_at peers_below RecordedRuns
runs_none = (recorded_runs Central records waiting refl refl refl).1 refl

-- 8, 22, 23, and 5, which leaves the table too
pub refuses_setup : poll_recorded Peripheral [] no_table ≡ unmoved (refusal Refusal.Setup) no_table
unfolding well_formed RecordedRefusals
refuses_setup = (recorded_refusals Peripheral [] no_table).0 refl

pub refuses_pairs : poll_recorded Peripheral [] waiting ≡ unmoved (refusal Refusal.Pairs) waiting
unfolding well_formed slots_ok held_by locate lowest RecordedRefusals
refuses_pairs = (recorded_refusals Peripheral [] waiting).1 refl refl

pub refuses_values : poll_recorded Peripheral (file (kind_role 14 2 0 ∷ [])) waiting ≡ unmoved (refusal Refusal.Values) waiting
unfolding locate well_formed slots_ok held_by lowest all_below earliest record_at RecordedRefusals
refuses_values = (recorded_refusals Peripheral (file (kind_role 14 2 0 ∷ [])) waiting).2 refl refl refl

pub pending_leaves : (poll_recorded Central records waiting).table ≡ waiting
unfolding locate well_formed slots_ok held_by lowest all_below earliest record_at peers_below RecordedRefusals
pending_leaves = (recorded_refusals Central records waiting).3 (λ e. omega (arith, e))

-- the table that is left is reached
pub reached : Reached (poll_recorded Peripheral records waiting).table
unfolding locate well_formed slots_ok held_by lowest RecordedReached
reached =
    recorded_reached Peripheral records waiting
    (record { slots = 3; packet_mtu = 251; packets = 4; fresh = refl; calls = connecting; leads = refl })

-- slot 0 is accepted, by a record of its peer
pub accepts_recorded : Recorded Peripheral records waiting 0
unfolding locate well_formed slots_ok held_by lowest all_below earliest record_at peers_below RecordedAccepts
accepts_recorded = recorded_accepts Peripheral records waiting 0 refl

-- ---- every number is answered: 0, 5, 6, 8, 22, 23

abbrev answers : List ℕ
answers =
    (poll_recorded Peripheral records waiting).reply.number
    ∷ (poll_recorded Central records waiting).reply.number
    ∷ (poll_recorded Peripheral records held).reply.number
    ∷ (poll_recorded Peripheral records no_table).reply.number
    ∷ (poll_recorded Peripheral [] waiting).reply.number
    ∷ (poll_recorded Peripheral (file (kind_role 14 2 0 ∷ [])) waiting).reply.number
    ∷ []

pub none_idle : answers ≡ recorded_numbers
unfolding locate well_formed slots_ok held_by lowest all_below earliest record_at peers_below
none_idle = refl

pub numbers_of_a_file : (s : List ℕ) → is_in (poll_recorded Peripheral s waiting).reply.number recorded_numbers ≡ true
unfolding RecordedNumbers
numbers_of_a_file s = recorded_numbers_lem Peripheral s waiting

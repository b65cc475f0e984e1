-- Pairs of a received Number Of Completed Packets that are applied are completions in the sums of credits (crates/credit_balance):
-- the message is the run of its `confirm_sent`s (`received_runs`). A case: two packets of a link are applied, and a pair without a
-- link is skipped. Assumes nothing.
use Rattle.std.specs.Prelude.{ℕ, ◌+◌, ◌≡◌, refl, List, [], ◌∷◌}
use Rattle.slot.specs.declared.ConnectionManager.{ConnectionManager}
use Rattle.slot.specs.declared.LeConnRole.TheVariants.{Peripheral}
use Rattle.slot.specs.declared.Address.{Address}
use Rattle.slot.specs.declared.ConnParams.{ConnParams}
use Rattle.model.specs.Find.{slot_at, slots_ok, held_by, well_formed, lowest, locate}
use Rattle.model.specs.Calls.{connects, set_link_credits_call, run}
use Rattle.model.specs.History.{Reached, new, after}
use Rattle.credit_balance.specs.Statement.{sums, CreditBalance}
use Rattle.credit_balance.proofs.Balance.{credit_balance}
use Rattle.limits.specs.Limits.{within}
use Rattle.completed_packets.specs.Format.{handles_fit}
use Rattle.completed_packets.specs.Read.{raw_pairs}
use Rattle.messages.specs.Received.{received}
use Rattle.message_theorems.specs.Reach.{calls_of}
use Rattle.message_theorems.proofs.Runs.{received_runs}

abbrev peer : Address
peer = record { kind = 0; addr = record { 0 = 1; 1 = 2; 2 = 3; 3 = 4; 4 = 5; 5 = 6 } }

abbrev params : ConnParams
params = record { conn_interval = 30000; peripheral_latency = 0; supervision_timeout = 2000000 }

-- 3 credits; then one link, with handle 0x40
abbrev before : ConnectionManager
before = after (set_link_credits_call 3 ∷ []) (new 1 251 4).table

reached : Reached before
reached = record { slots = 1; packet_mtu = 251; packets = 4; fresh = refl; calls = set_link_credits_call 3 ∷ []; leads = refl }

abbrev pub one : ConnectionManager
one = (run (connects 0x40 peer Peripheral params) before).table

-- two packets of 0x40, one of 0x41
abbrev pub pairs : List ℕ
pairs = 0x13 ∷ 0x09 ∷ 0x02 ∷ 0x40 ∷ 0x00 ∷ 0x02 ∷ 0x00 ∷ 0x41 ∷ 0x00 ∷ 0x01 ∷ 0x00 ∷ []

pub run_as_calls : (received pairs one).table ≡ after (calls_of pairs one) one
run_as_calls = (received_runs pairs one).0

pub pairs_completed : sums 0 (calls_of pairs one) one ≡ record { granted = 0; completed = 2; given = 0 }
unfolding locate well_formed slots_ok held_by lowest within raw_pairs handles_fit
pairs_completed = refl

pub credited : (slot_at (received pairs one).table 0).link_credits ≡ 5
unfolding locate well_formed slots_ok held_by lowest within raw_pairs handles_fit
credited = refl

-- the balance over them: 5 + 0 = 3 + 2 + 0
pub balanced :
    (slot_at (after (calls_of pairs one) one) 0).link_credits + (sums 0 (calls_of pairs one) one).granted
    ≡ (slot_at one 0).link_credits + (sums 0 (calls_of pairs one) one).completed + (sums 0 (calls_of pairs one) one).given
unfolding CreditBalance locate well_formed slots_ok held_by lowest within raw_pairs handles_fit
balanced = (credit_balance before reached 0x40 peer Peripheral params 0 refl refl (calls_of pairs one) (refl, refl, (refl, refl, refl))).1

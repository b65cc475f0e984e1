-- The fresh table, histories of calls, and the tables that they reach. Assumes nothing.
use Rattle.std.specs.Prelude.{ℕ, ◌-◌, ◌≡◌, Bool, cond, ◌&&◌, List, [], ◌∷◌, replicate, leb}
use Rattle.slot.specs.declared.ConnectionManager.{ConnectionManager}
use Rattle.pool.specs.Pool.{fresh_pool}
use Rattle.slot.specs.Fresh.{fresh_slot}
use Rattle.model.specs.Answer.{Refusal, Outcome, ok, refusal, unmoved}
use Rattle.model.specs.Calls.{Call, run}

-- ---- new

-- slots 1 to 16, packet MTU 4 to 65,539, 1 to 255 packets of the pool
abbrev pub setup_ok : ℕ → ℕ → ℕ → Bool
setup_ok slots packet_mtu packets =
    leb 1 slots && (leb slots 16 && (leb 4 packet_mtu && (leb packet_mtu 65539 && (leb 1 packets && leb packets 255))))

abbrev pub fresh_with : ℕ → ℕ → ℕ → ConnectionManager
fresh_with slots att_mtu packets =
    record {
      connections = replicate 16 fresh_slot;
      count = slots;
      default_link_credits = 0;
      default_att_mtu = att_mtu;
      pool = fresh_pool packets;
    }

-- "The default ATT MTU is packet MTU less 4"
abbrev pub fresh_table : ℕ → ℕ → ℕ → ConnectionManager
fresh_table slots packet_mtu packets = fresh_with slots (packet_mtu - 4) packets

-- "no table": a table without slots, on which every call answers 8
abbrev pub no_table : ConnectionManager
no_table = fresh_with 0 0 0

abbrev pub refused : Outcome
refused = unmoved (refusal Refusal.Setup) no_table

abbrev pub new : ℕ → ℕ → ℕ → Outcome
new slots packet_mtu packets =
    cond (setup_ok slots packet_mtu packets) (unmoved (ok []) (fresh_table slots packet_mtu packets)) refused

-- ---- histories: each call is given the table that the last one returned, refused or not

abbrev pub after : List Call → ConnectionManager → ConnectionManager
after [] t = t
after (c ∷ cs) t = after cs (run c t).table

-- what each call gave
abbrev pub outcomes : List Call → ConnectionManager → List Outcome
outcomes [] t = []
outcomes (c ∷ cs) t = run c t ∷ outcomes cs (run c t).table

-- document 01's "reached": some list of calls, refused ones included, leads there from a fresh table. Arguments are
-- any natural numbers here, so that more tables are reached than in the code, and what is proved of all of them is proved
-- of those too.
pub record Reached (t : ConnectionManager) : Type 0 where
  pub slots : ℕ
  pub packet_mtu : ℕ
  pub packets : ℕ
  pub fresh : (new slots packet_mtu packets).reply.number ≡ 0
  pub calls : List Call
  pub leads : after calls (new slots packet_mtu packets).table ≡ t

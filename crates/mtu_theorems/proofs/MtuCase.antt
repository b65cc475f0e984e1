-- Cases of the statements of Mtu.antt: the table of Shuffled.antt has the default 247; its second link, with handle 65, is
-- Connected, its first Connecting. Assumes nothing.
use Rattle.std.specs.Prelude.{◌≡◌, refl, [], ◌∷◌}
use Rattle.std.proofs.Common.{ap, arith}
use Rattle.turn.specs.Turn.{waits, with_wait, lowest_waiting}
use Rattle.model.specs.Answer.{Outcome, ok, unmoved}
use Rattle.model.specs.Find.{slots_ok, held_by, well_formed, lowest, locate}
use Rattle.model.specs.Link.{exchange_att_mtu, negotiate_att_mtu}
use Rattle.model.specs.Calls.{on_link, run}
use Rattle.model.specs.History.{no_table}
use Rattle.model_theorems.proofs.Shuffled.{start}
use Rattle.mtu_theorems.specs.Mtu.{SameExchange, same_exchange, Stays23, stays_23, NotLive, not_live}

pub as_before : run (on_link (negotiate_att_mtu 185) 65) start ≡ run (on_link (exchange_att_mtu 185) 65) start
unfolding SameExchange locate well_formed slots_ok held_by lowest waits with_wait lowest_waiting
as_before = same_exchange 65 185 1 start refl (omega arith)

pub at_23 : run (on_link (negotiate_att_mtu 23) 65) start ≡ run (on_link (exchange_att_mtu 23) 65) start
unfolding SameExchange locate well_formed slots_ok held_by lowest waits with_wait lowest_waiting
at_23 = same_exchange 65 23 1 start refl (omega arith)

pub while_connecting : run (on_link (negotiate_att_mtu 500) 64) start ≡ run (on_link (exchange_att_mtu 500) 64) start
unfolding SameExchange locate well_formed slots_ok held_by lowest waits with_wait lowest_waiting
while_connecting = same_exchange 64 500 0 start refl (omega arith)

pub stays : (run (on_link (negotiate_att_mtu 5) 65) start).reply ≡ ok (23 ∷ [])
unfolding Stays23 locate well_formed slots_ok held_by lowest waits with_wait lowest_waiting
stays = ap (λ (o : Outcome). o.reply) (stays_23 65 5 1 start refl (omega arith))

-- a handle that no slot has, and a table without slots
pub not_there : run (on_link (negotiate_att_mtu 185) 99) start ≡ unmoved (ok (23 ∷ [])) start
unfolding NotLive locate well_formed slots_ok held_by lowest waits with_wait lowest_waiting
not_there = ((not_live 99 185 start).1 refl).0

pub bad_table : run (on_link (negotiate_att_mtu 185) 64) no_table ≡ run (on_link (exchange_att_mtu 185) 64) no_table
unfolding NotLive locate well_formed slots_ok held_by lowest waits with_wait lowest_waiting
bad_table = (not_live 64 185 no_table).0 refl

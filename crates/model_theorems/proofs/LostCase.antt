-- A table that `LostByLink` speaks of: two links; one has lost an event by a post and one by `disconnected`, the other an event of
-- its own and two before its last `connect`. The statement is applied to both slots and to the total, so that it is not empty.
-- Assumes nothing.
use Rattle.std.specs.Prelude.{ℕ, ◌≡◌, refl, List, [], ◌∷◌, ◌++◌, replicate}
use Rattle.std.proofs.Common.{arith}
use Rattle.turn.specs.Turn.{with_wait}
use Rattle.slot.specs.declared.ConnectionManager.{ConnectionManager}
use Rattle.slot.specs.declared.LeConnRole.TheVariants.{Peripheral}
use Rattle.model.specs.Answer.{ok, unmoved}
use Rattle.model.specs.Find.{slot_at, slots_ok, held_by, well_formed, lowest, locate}
use Rattle.model.specs.Link.{dec_ref, disconnected}
use Rattle.model.specs.Calls.{Call, on_link, poll_accept_call, total_lost_call, run}
use Rattle.model.specs.History.{Reached, new, after}
use Rattle.model_theorems.specs.Lost.{LostByLink}
use Rattle.model_theorems.proofs.Losses.{lost_by_link_lem}
use Rattle.model_theorems.proofs.Shuffled.{connect_to, post}

-- five events for a link: the fifth is lost
abbrev five : ℕ → List Call
five h = replicate 5 (on_link post h)

abbrev calls : List Call
calls =
    (connect_to Peripheral 64 ∷ connect_to Peripheral 65 ∷ poll_accept_call Peripheral [] ∷ poll_accept_call Peripheral [] ∷ [])
    ++ five 64
    ++ (on_link (disconnected 8) 64 ∷ [])
    ++ five 65
    ++ (on_link (disconnected 8) 65 ∷ on_link dec_ref 1 ∷ connect_to Peripheral 66 ∷ poll_accept_call Peripheral [] ∷ [])
    ++ five 66

abbrev lossy : ConnectionManager
lossy = after calls (new 3 251 4).table

abbrev reached : Reached lossy
reached = record { slots = 3; packet_mtu = 251; packets = 4; fresh = refl; calls = calls; leads = refl }

pub two_lost : (slot_at lossy 0).lost ≡ 2
unfolding LostByLink locate well_formed slots_ok held_by lowest with_wait
two_lost = (lost_by_link_lem lossy reached).0 0 (omega arith)

pub one_lost_lem : (slot_at lossy 1).lost ≡ 1
unfolding LostByLink locate well_formed slots_ok held_by lowest with_wait
one_lost_lem = (lost_by_link_lem lossy reached).0 1 (omega arith)

pub three_lost : run total_lost_call lossy ≡ unmoved (ok (3 ∷ [])) lossy
unfolding LostByLink locate well_formed slots_ok held_by lowest with_wait
three_lost = (lost_by_link_lem lossy reached).1

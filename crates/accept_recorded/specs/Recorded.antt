-- The second `poll_accept`: document 02, L13. Assumes nothing.
use Rattle.std.specs.Prelude.{ℕ, cond, List, [], ◌∷◌}
use Rattle.slot.specs.declared.Address.{Address}
use Rattle.slot.specs.declared.LeConnRole.{LeConnRole}
use Rattle.slot.specs.declared.ConnectionManager.{ConnectionManager}
use Rattle.model.specs.Answer.{Refusal, Outcome, refusal, unmoved}
use Rattle.model.specs.Find.{well_formed}
use Rattle.model.specs.Calls.{poll_accept}
use Rattle.peer_records.specs.Format.{is_file, records_fit}
use Rattle.peer_records.specs.Force.{peers_in}

-- "with none in force nothing is accepted and the poll is Pending": not the old poll on an empty list, which fits all
abbrev pub poll_peers : LeConnRole → List Address → ConnectionManager → Outcome
poll_peers r [] t = unmoved (refusal Refusal.Pending) t
poll_peers r (p ∷ ps) t = poll_accept r (p ∷ ps) t

-- 8; 22; "then 23"; "both before the slot search", with the peers "from the records in force for its role"
abbrev pub poll_recorded : LeConnRole → List ℕ → ConnectionManager → Outcome
poll_recorded r s t =
    cond (well_formed t)
    (cond (is_file s)
    (cond (records_fit s) (poll_peers r (peers_in s r) t) (unmoved (refusal Refusal.Values) t))
    (unmoved (refusal Refusal.Pairs) t))
    (unmoved (refusal Refusal.Setup) t)

-- The values of what an event gives. Assumes nothing.
use Rattle.std.specs.Prelude.{ℕ, List, [], ◌∷◌}
use Rattle.connect.specs.declared.NewLink.{NewLink}
use Rattle.hci.specs.declared.LeConnectionComplete.{LeConnectionComplete}
use Rattle.messages.specs.Received.{peer_of, role_of, params_of}
use Rattle.host_event.specs.declared.EventGives.{EventGives}
use Rattle.host_event.specs.declared.EventGives.TheVariants as gives

abbrev pub event_gives_values : EventGives → List ℕ
event_gives_values gives.Done = []
event_gives_values (gives.Completed c) = c.applied ∷ c.skipped ∷ []

-- the arguments of `connect`
abbrev pub new_link_of : LeConnectionComplete → NewLink
new_link_of e = record { handle = e.handle; peer = peer_of e; role = role_of e.role; params = params_of e }

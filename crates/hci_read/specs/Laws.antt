-- What `read` answers, from the tests that it made. Assumes nothing.
use Rattle.std.specs.Prelude.{ℕ, ◌≡◌, refl, true, false, cond, List, Option, None, Some}
use Rattle.std.proofs.Common.{sym, ap, ◌∙◌}
use Rattle.std.proofs.Math.Option.{none, some}
use Rattle.hci.specs.declared.HciEvent.{HciEvent}
use Rattle.hci.specs.declared.HciEvent.TheVariants as event
use Rattle.hci.specs.Format.{of_form, masked}
use Rattle.hci.specs.Read.{is_event, is_le_event, disconnection_at, connection_at, update_at, raw_event_in, checked, event_in, event_reply}
use Rattle.hci_read.specs.Answer.{event_of, read_reply}

-- both clauses of `read`
abbrev pub Answers : Option HciEvent → List ℕ → Type 0
Answers r s = (event_of r ≡ event_in s) × (read_reply r ≡ event_reply (event_in s))

same : (r : Option HciEvent) → read_reply r ≡ event_reply (event_of r)
same None = refl
same (Some e) = refl

answers : (r : Option HciEvent) (s : List ℕ) → event_of r ≡ event_in s → Answers r s
answers r s e = (e, same r ∙ ap event_reply e)

-- the event x stands in s, and the answer r is that of its check
found : (r : Option HciEvent) (s : List ℕ) (x e : HciEvent) → raw_event_in s ≡ some x → e ≡ masked x →
    event_of r ≡ cond (of_form e) (some e) none → Answers r s
found r s x e p q h =
    answers r s (h ∙ ap (λ y. cond (of_form y) (some y) none) q ∙ sym (ap checked p))

pub disconnection : (r : Option HciEvent) (s : List ℕ) (e : HciEvent) → is_event 0x05 4 s ≡ true →
    e ≡ masked (event.DisconnectionComplete (disconnection_at s)) → event_of r ≡ cond (of_form e) (some e) none → Answers r s
disconnection r s e t q h = found r s (event.DisconnectionComplete (disconnection_at s)) e (simp t) q h

pub connection : (r : Option HciEvent) (s : List ℕ) (e : HciEvent) → is_event 0x05 4 s ≡ false → is_le_event 0x01 19 s ≡ true →
    e ≡ masked (event.LeConnectionComplete (connection_at s)) → event_of r ≡ cond (of_form e) (some e) none → Answers r s
connection r s e t u q h = found r s (event.LeConnectionComplete (connection_at s)) e (simp (t, u)) q h

pub update : (r : Option HciEvent) (s : List ℕ) (e : HciEvent) → is_event 0x05 4 s ≡ false → is_le_event 0x01 19 s ≡ false →
    is_le_event 0x03 10 s ≡ true → e ≡ masked (event.LeConnectionUpdateComplete (update_at s)) →
    event_of r ≡ cond (of_form e) (some e) none → Answers r s
update r s e t u v q h = found r s (event.LeConnectionUpdateComplete (update_at s)) e (simp (t, u, v)) q h

pub other : (s : List ℕ) → is_event 0x05 4 s ≡ false → is_le_event 0x01 19 s ≡ false → is_le_event 0x03 10 s ≡ false → Answers None s
other s t u v = answers None s (simp (t, u, v))

-- A record by the tests that the code makes of it. Assumes nothing.
use Rattle.std.specs.Prelude.{ℕ, ◌-◌, ◌%◌, ◌<◌, ◌≡◌, refl, List, [], ◌∷◌, length, get_or, take, drop}
use Rattle.std.proofs.Common.{ap, ◌∙◌, arith, eq-eqb, ne_eqb, length-drop, take_all}
use Rattle.std.proofs.Math.Option.{none, some}
use Rattle.slot.specs.declared.ConnectionManager.{ConnectionManager}
use Rattle.model.specs.Answer.{Refusal}
use Rattle.messages.specs.Received.{Received, refused_with, received}
use Rattle.recordings.specs.Recording.{behind04, event_of, received_event, received_record}

behind_empty : (bs : List ℕ) → length bs ≡ 0 → behind04 bs ≡ none
behind_empty [] h = refl
behind_empty (x ∷ bs) h = absurd (omega arith)

behind_other : (bs : List ℕ) → (get_or bs 0 0 ≡ 4 → ⊥) → behind04 bs ≡ none
behind_other [] h = refl
behind_other (x ∷ bs) h = rw (ne_eqb x 4 h)

behind_event : (bs : List ℕ) → 0 < length bs → get_or bs 0 0 ≡ 4 → behind04 bs ≡ some (drop 1 bs)
behind_event [] l h = absurd (omega arith)
behind_event (x ∷ bs) l h = rw (eq-eqb x 4 h)

module _ (d flags : ℕ) (bytes : List ℕ) (t : ConnectionManager) {r : Received} where
  passed_over : r ≡ refused_with Refusal.Packet t → event_of d flags bytes ≡ none → r ≡ received_record received d flags bytes t
  unfolding received_event
  passed_over e f = rw f e

  as_event : (s : List ℕ) → r ≡ received s t → event_of d flags bytes ≡ some s → r ≡ received_record received d flags bytes t
  unfolding received_event
  as_event s e f = rw f e

  pub other_flags : r ≡ refused_with Refusal.Packet t → (flags % 4 ≡ 3 → ⊥) → r ≡ received_record received d flags bytes t
  other_flags e h = passed_over e (rw (ne_eqb (flags % 4) 3 h))

  pub as_it_is : r ≡ received bytes t → flags % 4 ≡ 3 → (d ≡ 1002 → ⊥) → r ≡ received_record received d flags bytes t
  as_it_is e h k = as_event bytes e (rw (eq-eqb (flags % 4) 3 h, ne_eqb d 1002 k))

  pub no_byte : r ≡ refused_with Refusal.Packet t → flags % 4 ≡ 3 → d ≡ 1002 → length bytes ≡ 0 → r ≡ received_record received d flags bytes t
  no_byte e h k l = passed_over e (rw (eq-eqb (flags % 4) 3 h, eq-eqb d 1002 k) (behind_empty bytes l))

  pub other_byte : r ≡ refused_with Refusal.Packet t → flags % 4 ≡ 3 → d ≡ 1002 → (get_or bytes 0 0 ≡ 4 → ⊥)
      → r ≡ received_record received d flags bytes t
  other_byte e h k l = passed_over e (rw (eq-eqb (flags % 4) 3 h, eq-eqb d 1002 k) (behind_other bytes l))

  pub behind_byte : r ≡ received (take (length bytes - 1) (drop 1 bytes)) t → flags % 4 ≡ 3 → d ≡ 1002 → (length bytes ≡ 0 → ⊥)
      → get_or bytes 0 0 ≡ 4 → r ≡ received_record received d flags bytes t
  behind_byte e h k l q =
      as_event (drop 1 bytes)
      (e ∙ ap (λ (s : List ℕ). received s t) (take_all (length bytes - 1) (drop 1 bytes) (omega (arith, length-drop 1 bytes))))
      (rw (eq-eqb (flags % 4) 3 h, eq-eqb d 1002 k) (behind_event bytes (omega arith) q))

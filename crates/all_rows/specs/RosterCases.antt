-- Cases of the theorems about the roster. `EachOnce` alone settles the bytes where one slot is open, since a permutation of one entry
-- is that entry; `in_order` is applied to a slot in every state. Assumes nothing.
use Rattle.std.specs.Prelude.{ℕ, ◌*◌, ◌≡◌, refl, cond, ◌&&◌, length, drop}
use Rattle.std.proofs.Common.{sym, ap, ◌∙◌}
use mathlib.Core.HLevel.{Σ_set}
use mathlib.Core.List.Perm
use mathlib.Core.List.{List, [], ◌∷◌, ◌++◌, Perm, length-eq-one_iff, mem-singleton, mem-cons_self}
use Rattle.std.proofs.Math.Nat.{ℕ_set}
use Rattle.state.specs.declared.DisconnectReason.TheVariants.{AuthenticationFailure}
use Rattle.state.specs.declared.ConnectionState.TheVariants.{Disconnecting}
use Rattle.slot.specs.declared.ConnectionManager.{ConnectionManager}
use Rattle.model.specs.Find.{slots_ok, held_by, well_formed}
use Rattle.model.proofs.Laws.{split}
use Rattle.roster.specs.Roster.{Entry, roster_bytes, entries_from, entries, sorted, InOrder, room_for, roster_left, EachOnce}
use Rattle.roster.proofs.Laws.{each_once, in_order}
use Rattle.all_rows.specs.Roster.{second, every_state, slice}

-- the entries in the order of the slots, and every byte past them as it was
abbrev slot_by_slot : ConnectionManager → List ℕ → List ℕ
slot_by_slot t before =
    cond (well_formed t && room_for t before) (roster_bytes (entries t) ++ drop (3 * length (entries t)) before) before

entry_set : IsSet Entry
entry_set = Σ_set ℕ_set (λ h. ℕ_set)

one_of : (e : Entry) (es : List Entry) → Perm es (e ∷ []) → es ≡ e ∷ []
one_of e es p = let x = (length-eq-one_iff {l = es}).0 (Perm.length-eq p) in go x.0 x.1
  where
    go : (y : Entry) → es ≡ y ∷ [] → es ≡ e ∷ []
    go y q = q ∙ ap (λ (z : Entry). z ∷ []) ((mem-singleton entry_set).0 ((Perm.mem_iff p).0 (rw q mem-cons_self)))

left_by_one : (t : ConnectionManager) (e : Entry) (before after : List ℕ) → entries t ≡ e ∷ [] → EachOnce t before after
    → after ≡ slot_by_slot t before
left_by_one t e before after h l =
    split (well_formed t && room_for t before)
    (λ f.
    let a = l.accepted f in
    rw f
    (a.2
    ∙ ap (λ (es : List Entry). roster_bytes es ++ drop (3 * length (entries t)) before)
    (one_of e a.0 (rw h at a.1) ∙ sym h)))
    (λ f. rw f (l.refused f))

pub one_slot_left : (after : List ℕ) → EachOnce (second (Disconnecting AuthenticationFailure)) (slice 4) after
    → after ≡ 0x40 ∷ 0x10 ∷ 1 ∷ 0xAA ∷ []
unfolding well_formed slots_ok held_by entries_from roster_bytes
one_slot_left after l = left_by_one (second (Disconnecting AuthenticationFailure)) (0x1040, 1) (slice 4) after refl l

-- and the roster leaves such bytes
pub one_slot_is : roster_left (second (Disconnecting AuthenticationFailure)) (slice 4) ≡ 0x40 ∷ 0x10 ∷ 1 ∷ 0xAA ∷ []
one_slot_is = one_slot_left _ (each_once (second (Disconnecting AuthenticationFailure)) (slice 4))

pub every_state_in_order : InOrder (sorted (entries every_state))
unfolding well_formed slots_ok held_by
every_state_in_order = in_order every_state refl

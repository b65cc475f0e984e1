-- The reader's definition is the format's inverse, in both directions. Assumes nothing.
use Rattle.std.specs.Prelude.{ℕ, suc, ◌≤◌, ◌≡◌, refl, Bool, true, false, cond, List, [], ◌∷◌, ◌++◌, eqb, length, get_or, drop}
use Rattle.std.proofs.Common.{subst, ◌∙◌, arith, eqb-true, le-leb, length-drop, drop_of_length-le}
use Rattle.std.proofs.lemmas.Bool.{false≢true}
use Rattle.std.proofs.Math.Option.{Option, none, some}
use Rattle.model.proofs.Laws.{and_left, and_right}
use Rattle.limits.specs.declared.Field.TheVariants as field
use Rattle.limits.specs.Limits.{within}
use Rattle.wire.specs.Wire.{le16, u16_at}
use Rattle.wire.specs.Numbers.{Bytes, low_byte, high_byte, number_of}
use Rattle.att_pdu.specs.Format.{Message, exchange_mtu_req, exchange_mtu_rsp, handle_value_ind, handle_value_cfm, message_bytes, message_of_form}
use Rattle.att_pdu.specs.Read.{is_pdu, is_indication, message_in}
use Rattle.att_pdu.specs.Indication.{long_enough, has_opcode, fits, indication_in, less_three}

-- ---- what is read

-- the first three bytes and the rest, put together again
whole : (s : List ℕ) → Bytes s → 3 ≤ length s → get_or s 0 0 ∷ (le16 (u16_at s 1) ++ drop 3 s) ≡ s
whole [] b h = absurd (omega arith)
whole (x ∷ []) b h = absurd (omega arith)
whole (x ∷ y ∷ []) b h = absurd (omega arith)
whole (x ∷ y ∷ z ∷ t) b h = simp (low_byte y z (b 1), high_byte y z (b 1))

three : (s : List ℕ) (code : ℕ) → Bytes s → is_pdu code 3 s ≡ true → code ∷ le16 (u16_at s 1) ≡ s
three s code b e =
    let l = eqb-true (length s) 3 (and_left _ _ e) in
    let w = whole s b (omega arith) in
    let d = drop_of_length-le s {i = 3} (omega arith) in
    rw (← eqb-true (get_or s 0 0) code (and_right (eqb (length s) 3) _ e)) (rw d at w)

alone : (s : List ℕ) → is_pdu 0x1E 1 s ≡ true → 0x1E ∷ [] ≡ s
alone [] e = absurd (false≢true e)
alone (x ∷ t) e =
    let l = eqb-true (length (x ∷ t)) 1 (and_left _ _ e) in
    let d = drop_of_length-le t {i = 0} (omega arith) in
    rw (eqb-true x 0x1E (and_right (eqb (length (x ∷ t)) 1) _ e), d)

-- what is read of s
abbrev Right : List ℕ → Option Message → Type 0
Right s none = Unit
Right s (some m) = (message_bytes m ≡ s) × (message_of_form m ≡ true)

by_tests : (s : List ℕ) (p q r i : Bool) → Bytes s → is_pdu 0x02 3 s ≡ p → is_pdu 0x03 3 s ≡ q → is_pdu 0x1E 1 s ≡ r → is_indication s ≡ i →
    Right s (cond p (some (exchange_mtu_req (u16_at s 1))) (cond q (some (exchange_mtu_rsp (u16_at s 1))) (cond r (some handle_value_cfm) (cond i (some (handle_value_ind (u16_at s 1) (drop 3 s))) none))))
by_tests s true q r i b hp hq hr hi = (three s 0x02 b hp, refl)
by_tests s false true r i b hp hq hr hi = (three s 0x03 b hq, refl)
by_tests s false false true i b hp hq hr hi = (alone s hr, refl)
by_tests s false false false true b hp hq hr hi = (rw (← has_opcode s hi) (whole s b (long_enough s hi)), rw length-drop (fits s hi))
by_tests s false false false false b hp hq hr hi = tt

right : (s : List ℕ) → Bytes s → Right s (message_in s)
right s b = by_tests s _ _ _ _ b refl refl refl refl

-- Bytes that are read as a message are that message as it is written, and its values are of the form: nothing else is accepted.
pub accepted : (s : List ℕ) (m : Message) → Bytes s → message_in s ≡ some m → (message_bytes m ≡ s) × (message_of_form m ≡ true)
accepted s m b e = subst (Right s) e (right s b)

-- ---- what is written

is_one : (handle : ℕ) (value : List ℕ) → within field.ValueLen (length value) ≡ true → is_indication (message_bytes (handle_value_ind handle value)) ≡ true
is_one handle value e = simp (le-leb 3 (suc (suc (suc (length value)))) (omega arith), less_three (length value), e)

-- What is written of values of the form is read as the same values: no message is refused, and reading gives back what was written.
pub not_refused : (m : Message) → message_of_form m ≡ true → message_in (message_bytes m) ≡ some m
not_refused (exchange_mtu_req mtu) e = simp (number_of mtu)
not_refused (exchange_mtu_rsp mtu) e = simp (number_of mtu)
not_refused (handle_value_ind handle value) e =
    indication_in (message_bytes (handle_value_ind handle value)) (is_one handle value e)
    ∙ simp (number_of handle)
not_refused handle_value_cfm e = refl

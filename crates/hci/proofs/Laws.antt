-- The format and its reading undo each other. Assumes nothing.
use Rattle.std.specs.Prelude.{ℕ, ◌+◌, ◌/◌, ◌%◌, ◌≡◌, refl, Bool, true, false, cond, ◌&&◌, List, eqb, leb, length, get_or, set}
use Rattle.std.proofs.Common.{sym, ap, ◌∙◌, arith, eqb-true, leb-true}
use Rattle.std.proofs.Math.Option.{Option, none, some}
use Rattle.model.proofs.Laws.{and_left, and_right}
use Rattle.limits.specs.declared.Field.TheVariants as field
use Rattle.limits.specs.Limits.{high, within}
use Rattle.wire.specs.Numbers.{Bytes, low_of, high_of, number_of, elements_of}
use Rattle.hci.specs.declared.HciEvent.{HciEvent}
use Rattle.hci.specs.declared.HciEvent.TheVariants.{DisconnectionComplete, LeConnectionComplete, LeConnectionUpdateComplete}
use Rattle.hci.specs.Format.{event_bytes, of_form, handle_bits, masked}
use Rattle.hci.specs.Read.{is_event, is_le_event, disconnection_at, connection_at, update_at, raw_event_in, checked, event_in}

-- ---- with all bits of the handle, whatever the values

-- the bytes of an event are read as that event
pub raw_read : (e : HciEvent) → raw_event_in (event_bytes e) ≡ some e
raw_read (DisconnectionComplete e) = simp number_of
raw_read (LeConnectionComplete e) = simp number_of
raw_read (LeConnectionUpdateComplete e) = simp number_of

-- what the tests of a reader say
three : (a b c : Bool) → (a && (b && c)) ≡ true → (a ≡ true) × (b ≡ true) × (c ≡ true)
three a b c h = (and_left a (b && c) h, and_left b c (and_right a (b && c) h), and_right b c (and_right a (b && c) h))

shape : (code n : ℕ) (s : List ℕ) → is_event code n s ≡ true → (length s ≡ 2 + n) × (get_or s 0 0 ≡ code) × (get_or s 1 0 ≡ n)
shape code n s h =
    let t = three (eqb (length s) (2 + n)) (eqb (get_or s 0 0) code) (eqb (get_or s 1 0) n) h in (
      eqb-true _ _ t.0,
      eqb-true _ _ t.1,
      eqb-true _ _ t.2,
    )

subevent : (code n : ℕ) (s : List ℕ) → is_le_event code n s ≡ true → get_or s 2 0 ≡ code
subevent code n s h = eqb-true _ _ (and_right (is_event 0x3E n s) _ h)

disconnection : (s : List ℕ) → Bytes s → is_event 0x05 4 s ≡ true → event_bytes (DisconnectionComplete (disconnection_at s)) ≡ s
disconnection s b h =
    let t = shape 0x05 4 s h in
    simp (low_of s b, high_of s b) (simp (t.1, t.2) at (elements_of s 6 t.0))

connection : (s : List ℕ) → Bytes s → is_le_event 0x01 19 s ≡ true → event_bytes (LeConnectionComplete (connection_at s)) ≡ s
connection s b h =
    let t = shape 0x3E 19 s (and_left (is_event 0x3E 19 s) _ h) in
    simp (low_of s b, high_of s b) (simp (t.1, t.2, subevent 0x01 19 s h) at (elements_of s 21 t.0))

update : (s : List ℕ) → Bytes s → is_le_event 0x03 10 s ≡ true → event_bytes (LeConnectionUpdateComplete (update_at s)) ≡ s
update s b h =
    let t = shape 0x3E 10 s (and_left (is_event 0x3E 10 s) _ h) in
    simp (low_of s b, high_of s b) (simp (t.1, t.2, subevent 0x03 10 s h) at (elements_of s 12 t.0))

-- bytes that are read as an event are the bytes of that event
pub raw_written : (s : List ℕ) (e : HciEvent) → Bytes s → raw_event_in s ≡ some e → event_bytes e ≡ s
raw_written s e b = go (is_event 0x05 4 s) (is_le_event 0x01 19 s) (is_le_event 0x03 10 s) refl refl refl
  where
    go : (x y z : Bool) → is_event 0x05 4 s ≡ x → is_le_event 0x01 19 s ≡ y → is_le_event 0x03 10 s ≡ z →
        cond x (some (DisconnectionComplete (disconnection_at s)))
        (cond y (some (LeConnectionComplete (connection_at s))) (cond z (some (LeConnectionUpdateComplete (update_at s))) none)) ≡
        some e → event_bytes e ≡ s
    go true y z p q r h = let k : DisconnectionComplete (disconnection_at s) ≡ e = cc in ap event_bytes (sym k) ∙ disconnection s b p
    go false true z p q r h = let k : LeConnectionComplete (connection_at s) ≡ e = cc in ap event_bytes (sym k) ∙ connection s b q
    go false false true p q r h = let k : LeConnectionUpdateComplete (update_at s) ≡ e = cc in ap event_bytes (sym k) ∙ update s b r
    go false false false p q r h = let z : ◌≡◌ {A = ℕ} 0 1 = cc in absurd (omega arith)

-- ---- as a reader takes them

-- an event that is taken is w without the ignored bits of its handle, and of the form
taken : (w e : HciEvent) → checked (some w) ≡ some e → (masked w ≡ e) × (of_form e ≡ true)
taken w e = go (of_form (masked w)) refl
  where
    go : (x : Bool) → of_form (masked w) ≡ x → cond x (some (masked w)) none ≡ some e → (masked w ≡ e) × (of_form e ≡ true)
    go true p q = let k : masked w ≡ e = cc in (k, ap of_form (sym k) ∙ p)
    go false p q = let z : ◌≡◌ {A = ℕ} 0 1 = cc in absurd (omega arith)

-- bytes that are taken are those of an event w that is, but for the ignored bits of its handle, the one taken; that one is of the form
pub accepted : (s : List ℕ) (e : HciEvent) → Bytes s → event_in s ≡ some e →
    (w : HciEvent) × (event_bytes w ≡ s) × (masked w ≡ e) × (of_form e ≡ true)
accepted s e b = go (raw_event_in s) refl
  where
    go : (o : Option HciEvent) → raw_event_in s ≡ o → checked o ≡ some e →
        (w : HciEvent) × (event_bytes w ≡ s) × (masked w ≡ e) × (of_form e ≡ true)
    go none p q = let z : ◌≡◌ {A = ℕ} 0 1 = cc in absurd (omega arith)
    go (some w) p q = let t = taken w e q in (w, raw_written s w b p, t.0, t.1)

pub of_form_lem : (s : List ℕ) (e : HciEvent) → event_in s ≡ some e → of_form e ≡ true
of_form_lem s e = go (raw_event_in s)
  where
    go : (o : Option HciEvent) → checked o ≡ some e → of_form e ≡ true
    go none q = let z : ◌≡◌ {A = ℕ} 0 1 = cc in absurd (omega arith)
    go (some w) q = (taken w e q).1

-- an event that is of the form, but for the ignored bits of its handle, is not refused
pub not_refused : (w : HciEvent) → of_form (masked w) ≡ true → event_in (event_bytes w) ≡ some (masked w)
not_refused w h = ap checked (raw_read w) ∙ ap (λ x. cond x (some (masked w)) none) h

-- a value of the form has a handle of 12 bits
twelve_bits : (h : ℕ) → within field.RawHandle h ≡ true → handle_bits h ≡ h
unfolding within
twelve_bits h e = let k = leb-true h (high field.RawHandle) (and_right (leb 0 h) _ e) in omega arith

kept : (e : HciEvent) → of_form e ≡ true → masked e ≡ e
kept (DisconnectionComplete e) h = simp (twelve_bits e.handle (and_left _ _ h))
kept (LeConnectionComplete e) h = simp (twelve_bits e.handle (and_left _ _ h))
kept (LeConnectionUpdateComplete e) h = simp (twelve_bits e.handle (and_left _ _ h))

-- an event of the form that is written is read back as it was
pub read_written : (e : HciEvent) → of_form e ≡ true → event_in (event_bytes e) ≡ some e
read_written e h =
    let k = kept e h in
    not_refused e (ap of_form k ∙ h) ∙ ap some k

-- ---- what was read, written again

pub handle_low : (h : ℕ) → handle_bits h % 256 ≡ h % 256
handle_low h = omega arith

pub handle_high_lem : (h : ℕ) → handle_bits h / 256 ≡ h / 256 % 16
handle_high_lem h = omega arith

-- where the upper byte of the handle stands
abbrev pub handle_high : HciEvent → ℕ
handle_high (DisconnectionComplete e) = 4
handle_high (LeConnectionComplete e) = 5
handle_high (LeConnectionUpdateComplete e) = 5

-- the byte at i with its upper four bits 0
abbrev pub low_bits : List ℕ → ℕ → List ℕ
low_bits s i = set s i (get_or s i 0 % 16)

masked_bytes : (w : HciEvent) → event_bytes (masked w) ≡ low_bits (event_bytes w) (handle_high w)
masked_bytes (DisconnectionComplete e) = simp (handle_low e.handle, handle_high_lem e.handle)
masked_bytes (LeConnectionComplete e) = simp (handle_low e.handle, handle_high_lem e.handle)
masked_bytes (LeConnectionUpdateComplete e) = simp (handle_low e.handle, handle_high_lem e.handle)

same_place : (w : HciEvent) → handle_high (masked w) ≡ handle_high w
same_place (DisconnectionComplete e) = refl
same_place (LeConnectionComplete e) = refl
same_place (LeConnectionUpdateComplete e) = refl

-- an event that was read is written as the bytes that it was read from, with the ignored bits of its handle 0
pub written_read : (s : List ℕ) (e : HciEvent) → Bytes s → event_in s ≡ some e → event_bytes e ≡ low_bits s (handle_high e)
written_read s e b h =
    let a = accepted s e b h in
    let place = sym (same_place a.0) ∙ ap handle_high a.2 in
    ap event_bytes (sym a.2) ∙ masked_bytes a.0 ∙ λ k. low_bits (a.1 k) (place k)

-- The records of the writer one after another, and the bytes that it leaves: what its proofs cite. Assumes nothing.
use Rattle.std.specs.Prelude.{ℕ, zero, suc, ◌+◌, ◌-◌, ◌*◌, ◌<◌, ◌≤◌, ◌≡◌, refl, Bool, true, false, ◌&&◌, eqb, leb, take, drop, Option as Option', Some, None, Ok, Err}
use Rattle.std.proofs.Common.{sym, ◌∙◌, zero-add, le_of_suc-le-suc, not-suc-le-zero, arith, length-append, drop_of_length-le}
use Rattle.std.proofs.Math.Path.{ap}
use Rattle.std.proofs.Math.Bool.{and-false}
use mathlib.Core.List.{List, [], ◌∷◌}
use Rattle.std.proofs.Math.Option.{Option, none, some}
use Rattle.std.proofs.Math.Numerals.{add-one}
use borrow.Author.Tests.{eq-eqb, ne_eqb, le-leb, lt-leb, eqb-true, eqb-false, leb-true}
use Rattle.std.proofs.Math.ListN.{length, get_or, length-drop}
use Rattle.std.proofs.Math.Seq.{sets, drop-cons, drop-drop, length-take-le}
use Rattle.std.proofs.lemmas.List.Edits.{sets-eq}
use Rattle.model.specs.Answer.{Reply, Refusal}
use Rattle.model.proofs.Laws.{and_left, and_right}
use Rattle.wire.specs.Wire.{write_reply, writing, written}
use Rattle.hci.specs.declared.HciEvent.{HciEvent}
use Rattle.hci_read.specs.Answer.{event_of}
use Rattle.completed_packets.specs.Format.{Pair}
use Rattle.completed_packets.specs.Read.{completed_in}
use Rattle.hci.specs.Read.{event_in}
use Rattle.completed_packets.specs.Answer.{completed_reply, count_reply}
use Rattle.big_endian_write.specs.Laws.{put_behind}
use Rattle.btsnoop_read.specs.Format.{Record, record_of, record_bytes, records_bytes, header, recording_bytes}
use Rattle.btsnoop_read.proofs.Inverse.{header_length}
use Rattle.btsnoop_put.specs.Put.{put_record, put_whole, length_record, length_header}
use Rattle.std.proofs.lemmas.List.{length-map, get_or-map}
use Rattle.btsnoop_write.specs.declared.EventHead.{EventHead}
use Rattle.btsnoop_write.specs.Heads.{lengths, drops, timestamps, headed}
use Rattle.btsnoop_write.specs.Events.{is_some, is_read, event_records, parts_read, events_of_form}

-- ---- an event that is read

pub read_first : (s : List ℕ) {o : Option' HciEvent} (e : HciEvent) → event_of o ≡ event_in s → o ≡ Some e → true ≡ is_read s
unfolding is_read
read_first s e p q = rw (sym p ∙ ap event_of q)

module _ (s : List ℕ) {o : Option' HciEvent} (p : event_of o ≡ event_in s) (q : o ≡ None) where
  pub read_second : {r : Option' ℕ} (n : ℕ) → completed_reply r ≡ count_reply (completed_in s) → r ≡ Some n → true ≡ is_read s
  unfolding is_read
  read_second n e f = rw (sym p ∙ ap event_of q) (sym (go (completed_in s) (sym (ap completed_reply f) ∙ e)))
    where
      go : (o : Option (List Pair)) → completed_reply (Some n) ≡ count_reply o → is_some o ≡ true
      go none e = absurd (omega (arith, ap (λ (r : Reply). r.number) e))
      go (some ps) e = refl

  pub unread : {r : Option' ℕ} → completed_reply r ≡ count_reply (completed_in s) → r ≡ None → false ≡ is_read s
  unfolding is_read
  unread e f = rw (sym p ∙ ap event_of q) (sym (go (completed_in s) (sym (ap completed_reply f) ∙ e)))
    where
      go : (o : Option (List Pair)) → completed_reply None ≡ count_reply o → is_some o ≡ false
      go none e = refl
      go (some ps) e = absurd (omega (arith, ap (λ (r : Reply). r.number) e))

-- ---- a part further

module _ (es ns : List ℕ) (from i : ℕ) where
  pub parts_next : i < length ns
      → parts_read (drop from es) (drop i ns)
      ≡ (leb (get_or ns i 0) (length (drop from es))
      && (is_read (take (get_or ns i 0) (drop from es)) && parts_read (drop (from + get_or ns i 0) es) (drop (i + 1) ns)))
  unfolding parts_read
  parts_next h = rw (drop-cons ns i 0 h, add-one i, drop-drop (get_or ns i 0) from es)

  pub parts_end : length ns ≤ i → parts_read (drop from es) (drop i ns) ≡ eqb 0 (length es - from)
  unfolding parts_read
  parts_end h = rw (drop_of_length-le ns h, length-drop from es)

-- the part of the slice that holds an event
pub part_is : (es : List ℕ) (from n : ℕ) → take (from + n - from) (drop from es) ≡ take n (drop from es)
part_is es from n = let p : from + n - from ≡ n = omega arith in rw p

module _ (es ns : List ℕ) (from i : ℕ) (h : i < length ns) where
  pub part_short : length es - from < get_or ns i 0 → parts_read (drop from es) (drop i ns) ≡ false
  part_short k =
      parts_next es ns from i h ∙ rw (lt-leb (get_or ns i 0) (length (drop from es)) (omega (arith, length-drop from es)))

  pub part_unread : is_read (take (from + get_or ns i 0 - from) (drop from es)) ≡ false → parts_read (drop from es) (drop i ns) ≡ false
  part_unread e =
      parts_next es ns from i h ∙ rw (sym (ap is_read (part_is es from (get_or ns i 0))) ∙ e, and-false)

  pub part_read : get_or ns i 0 ≤ length es - from → is_read (take (from + get_or ns i 0 - from) (drop from es)) ≡ true
      → parts_read (drop from es) (drop i ns) ≡ parts_read (drop (from + get_or ns i 0) es) (drop (i + 1) ns)
  part_read k e =
      parts_next es ns from i h
      ∙ rw (sym (ap is_read (part_is es from (get_or ns i 0))) ∙ e, le-leb (get_or ns i 0) (length (drop from es)) (omega (arith, length-drop from es)))

-- nothing is left
pub none_left : (from n : ℕ) → from ≤ n → eqb from n ≡ eqb 0 (n - from)
none_left from n h = go (eqb from n) refl
  where
    go : (b : Bool) → eqb from n ≡ b → b ≡ eqb 0 (n - from)
    go true e = sym (eq-eqb 0 (n - from) (omega (arith, eqb-true from n e)))
    go false e = sym (ne_eqb 0 (n - from) (λ q. eqb-false from n e (omega arith)))

-- ---- the form

pub heads_length : (hs : List EventHead) → length (lengths hs) ≡ length hs
heads_length hs = length-map hs (λ (h : EventHead). h.length)

-- the lists of one list of heads are equally long
pub form_parts : (es : List ℕ) (hs : List EventHead) → events_of_form es (lengths hs) (drops hs) (timestamps hs) ≡ parts_read es (lengths hs)
unfolding events_of_form
form_parts es hs =
    rw (
      eq-eqb (length (lengths hs)) (length (drops hs)) (omega (arith, heads_length hs, length-map hs (λ (h : EventHead). h.drops))),
      eq-eqb (length (lengths hs)) (length (timestamps hs)) (omega (arith, heads_length hs, length-map hs (λ (h : EventHead). h.timestamp))),
    )

-- those of three lists
abbrev pub head_of_three : ℕ → ℕ → ℕ → EventHead
head_of_three n d t = record { length = n; drops = d; timestamp = t }

lengths_headed : (ns ds ts : List ℕ) → length ns ≡ length ds → length ns ≡ length ts → lengths (headed ns ds ts) ≡ ns
unfolding headed
lengths_headed [] ds ts h k = refl
lengths_headed (n ∷ ns) [] ts h k = absurd (omega arith)
lengths_headed (n ∷ ns) (d ∷ ds) [] h k = absurd (omega arith)
lengths_headed (n ∷ ns) (d ∷ ds) (t ∷ ts) h k = ap (λ (xs : List ℕ). n ∷ xs) (lengths_headed ns ds ts (omega arith) (omega arith))

drops_headed : (ns ds ts : List ℕ) → length ns ≡ length ds → length ns ≡ length ts → drops (headed ns ds ts) ≡ ds
unfolding headed
drops_headed [] [] ts h k = refl
drops_headed [] (d ∷ ds) ts h k = absurd (omega arith)
drops_headed (n ∷ ns) [] ts h k = absurd (omega arith)
drops_headed (n ∷ ns) (d ∷ ds) [] h k = absurd (omega arith)
drops_headed (n ∷ ns) (d ∷ ds) (t ∷ ts) h k = ap (λ (xs : List ℕ). d ∷ xs) (drops_headed ns ds ts (omega arith) (omega arith))

timestamps_headed : (ns ds ts : List ℕ) → length ns ≡ length ds → length ns ≡ length ts → timestamps (headed ns ds ts) ≡ ts
unfolding headed
timestamps_headed [] ds [] h k = refl
timestamps_headed [] ds (t ∷ ts) h k = absurd (omega arith)
timestamps_headed (n ∷ ns) [] ts h k = absurd (omega arith)
timestamps_headed (n ∷ ns) (d ∷ ds) [] h k = absurd (omega arith)
timestamps_headed (n ∷ ns) (d ∷ ds) (t ∷ ts) h k = ap (λ (xs : List ℕ). t ∷ xs) (timestamps_headed ns ds ts (omega arith) (omega arith))

drop_headed : (ns ds ts : List ℕ) (i : ℕ) → length ns ≡ length ds → length ns ≡ length ts → i < length ns →
    drop i (headed ns ds ts) ≡ head_of_three (get_or ns i 0) (get_or ds i 0) (get_or ts i 0) ∷ drop (suc i) (headed ns ds ts)
unfolding headed
drop_headed [] ds ts i h k l = absurd (not-suc-le-zero l)
drop_headed (n ∷ ns) [] ts i h k l = absurd (omega arith)
drop_headed (n ∷ ns) (d ∷ ds) [] i h k l = absurd (omega arith)
drop_headed (n ∷ ns) (d ∷ ds) (t ∷ ts) zero h k l = refl
drop_headed (n ∷ ns) (d ∷ ds) (t ∷ ts) (suc i) h k l = drop_headed ns ds ts i (omega arith) (omega arith) (le_of_suc-le-suc l)

module _ (ns ds ts : List ℕ) (h : length ns ≡ length ds) (k : length ns ≡ length ts) where
  pub length_headed : length (headed ns ds ts) ≡ length ns
  length_headed = sym (heads_length (headed ns ds ts)) ∙ ap length (lengths_headed ns ds ts h k)

  pub headed_next : (i : ℕ) → i < length (headed ns ds ts) →
      drop i (headed ns ds ts) ≡ head_of_three (get_or ns i 0) (get_or ds i 0) (get_or ts i 0) ∷ drop (i + 1) (headed ns ds ts)
  headed_next i l = rw (add-one i) (drop_headed ns ds ts i h k (omega (arith, length_headed)))

  -- what is said of the heads is said of the lists
  pub of_columns : {A : Type 0} (f : List ℕ → List ℕ → List ℕ → A) →
      f (lengths (headed ns ds ts)) (drops (headed ns ds ts)) (timestamps (headed ns ds ts)) ≡ f ns ds ts
  of_columns f = λ j. f (lengths_headed ns ds ts h k j) (drops_headed ns ds ts h k j) (timestamps_headed ns ds ts h k j)

pub form_drops : (es ns ds ts : List ℕ) → (length ns ≡ length ds → ⊥) → events_of_form es ns ds ts ≡ false
unfolding events_of_form
form_drops es ns ds ts h = rw (ne_eqb (length ns) (length ds) h)

pub form_timestamps : (es ns ds ts : List ℕ) → (length ns ≡ length ts → ⊥) → events_of_form es ns ds ts ≡ false
unfolding events_of_form
form_timestamps es ns ds ts h = rw (ne_eqb (length ns) (length ts) h, and-false)

-- the head at i, and those behind it
pub head_next : (hs : List EventHead) (i : ℕ) (x : EventHead) → i < length hs → drop i hs ≡ get_or hs i x ∷ drop (i + 1) hs
head_next hs i x h = rw add-one (drop-cons hs i x h)

module _ (hs : List EventHead) (i : ℕ) (x : EventHead) (h : i < length hs) (e : drop i hs ≡ x ∷ drop (i + 1) hs) where
  head_at : get_or hs i x ≡ x
  head_at = ap (λ (xs : List EventHead). get_or xs 0 x) (sym (drop-cons hs i x h) ∙ e)

  length_at : get_or (lengths hs) i 0 ≡ x.length
  length_at = get_or-map (λ (h : EventHead). h.length) hs i x 0 h ∙ ap (λ (y : EventHead). y.length) head_at

  drops_at : get_or (drops hs) i 0 ≡ x.drops
  drops_at = get_or-map (λ (h : EventHead). h.drops) hs i x 0 h ∙ ap (λ (y : EventHead). y.drops) head_at

  timestamp_at : get_or (timestamps hs) i 0 ≡ x.timestamp
  timestamp_at = get_or-map (λ (h : EventHead). h.timestamp) hs i x 0 h ∙ ap (λ (y : EventHead). y.timestamp) head_at

-- the part of a head
module _ (es : List ℕ) (hs : List EventHead) (from i : ℕ) (x : EventHead) (h : i < length hs) (at : drop i hs ≡ x ∷ drop (i + 1) hs) where
  l : i < length (lengths hs)
  l = omega (arith, heads_length hs)

  here : get_or (lengths hs) i 0 ≡ x.length
  here = length_at hs i x h at

  pub head_short : length es - from < x.length → parts_read (drop from es) (drop i (lengths hs)) ≡ false
  head_short k = part_short es (lengths hs) from i l (omega (arith, here))

  pub head_unread : is_read (take (from + x.length - from) (drop from es)) ≡ false → parts_read (drop from es) (drop i (lengths hs)) ≡ false
  head_unread e = part_unread es (lengths hs) from i l (ap (λ (n : ℕ). is_read (take (from + n - from) (drop from es))) here ∙ e)

  pub head_read : x.length ≤ length es - from → is_read (take (from + x.length - from) (drop from es)) ≡ true
      → parts_read (drop from es) (drop i (lengths hs)) ≡ parts_read (drop (from + x.length) es) (drop (i + 1) (lengths hs))
  head_read k e =
      part_read es (lengths hs) from i l (omega (arith, here)) (ap (λ (n : ℕ). is_read (take (from + n - from) (drop from es))) here ∙ e)
      ∙ ap (λ (n : ℕ). parts_read (drop (from + n) es) (drop (i + 1) (lengths hs))) here

pub heads_end : (es : List ℕ) (hs : List EventHead) (from i : ℕ) → length hs ≤ i → parts_read (drop from es) (drop i (lengths hs)) ≡ eqb 0 (length es - from)
heads_end es hs from i h = parts_end es (lengths hs) from i (omega (arith, heads_length hs))

-- what it says
pub record Fit (es ns ds ts : List ℕ) : Type 0 where
  pub drops : length ns ≡ length ds
  pub timestamps : length ns ≡ length ts
  pub parts : parts_read es ns ≡ true

pub fit : (es ns ds ts : List ℕ) → events_of_form es ns ds ts ≡ true → Fit es ns ds ts
unfolding events_of_form
fit es ns ds ts e =
    let r = and_right (eqb (length ns) (length ds)) _ e in
    record {
      drops = eqb-true _ _ (and_left (eqb (length ns) (length ds)) _ e);
      timestamps = eqb-true _ _ (and_left (eqb (length ns) (length ts)) _ r);
      parts = and_right (eqb (length ns) (length ts)) _ r;
    }

-- what one part more says
pub part_fits : (es ns : List ℕ) (from i : ℕ) → i < length ns → parts_read (drop from es) (drop i ns) ≡ true
    → (get_or ns i 0 ≤ length es - from) × (parts_read (drop (from + get_or ns i 0) es) (drop (i + 1) ns) ≡ true)
part_fits es ns from i h e =
    let f = sym (parts_next es ns from i h) ∙ e in
    let r = and_right (leb (get_or ns i 0) (length (drop from es))) _ f in
    let k = leb-true (get_or ns i 0) (length (drop from es)) (and_left (leb (get_or ns i 0) (length (drop from es))) _ f) in
    (omega (arith, length-drop from es), and_right (is_read (take (get_or ns i 0) (drop from es))) _ r)

-- ---- a record further

-- the records from part i on
abbrev pub recorded_from : List ℕ → List ℕ → List ℕ → List ℕ → ℕ → ℕ → List Record
recorded_from es ns ds ts from i = event_records (drop from es) (drop i ns) (drop i ds) (drop i ts)

module _ (es ns ds ts : List ℕ) (from i : ℕ) where
  recorded_next : i < length ns → i < length ds → i < length ts
      → recorded_from es ns ds ts from i
      ≡ record_of (get_or ns i 0) 3 (get_or ds i 0) (get_or ts i 0) (take (get_or ns i 0) (drop from es))
      ∷ recorded_from es ns ds ts (from + get_or ns i 0) (i + 1)
  unfolding event_records
  recorded_next h k l = rw (drop-cons ns i 0 h, drop-cons ds i 0 k, drop-cons ts i 0 l, add-one i, drop-drop (get_or ns i 0) from es)

  pub records_put : (out next : List ℕ) (at to : ℕ) → to ≡ at + 24 + get_or ns i 0 → i < length ns → i < length ds → i < length ts → from ≤ length es
      → get_or ns i 0 ≤ length es - from → at + 24 + (length es - from) ≤ length out
      → next ≡ put_record out at (record_of (get_or ns i 0) 3 (get_or ds i 0) (get_or ts i 0) (take (from + get_or ns i 0 - from) (drop from es)))
      → sets out at (records_bytes (recorded_from es ns ds ts from i))
      ≡ sets next to (records_bytes (recorded_from es ns ds ts (from + get_or ns i 0) (i + 1)))
  unfolding records_bytes
  records_put out next at to q h k l f g m e =
      let r = record_of (get_or ns i 0) 3 (get_or ds i 0) (get_or ts i 0) (take (get_or ns i 0) (drop from es)) in
      let n : length (take (get_or ns i 0) (drop from es)) ≡ get_or ns i 0 = length-take-le (get_or ns i 0) (drop from es) (omega (arith, length-drop from es)) in
      let w : next ≡ sets out at (record_bytes r) =
      e ∙ ap (λ (b : List ℕ). put_record out at (record_of (get_or ns i 0) 3 (get_or ds i 0) (get_or ts i 0) b)) (part_is es from (get_or ns i 0))
      ∙ put_whole out at r (omega arith) in
      ap (λ (rs : List Record). sets out at (records_bytes rs)) (recorded_next h k l)
      ∙ put_behind (record_bytes r) _ out next at to w (omega (arith, length_record r))

  pub records_end : length ns ≤ i → (out : List ℕ) (at : ℕ) → sets out at (records_bytes (recorded_from es ns ds ts from i)) ≡ out
  unfolding event_records records_bytes
  records_end h out at = rw (drop_of_length-le ns h)

-- the same by the heads
module _ (es : List ℕ) (hs : List EventHead) (from i : ℕ) where
  abbrev pub heads_from : List Record
  heads_from = recorded_from es (lengths hs) (drops hs) (timestamps hs) from i

  pub head_fits : (x : EventHead) → i < length hs → drop i hs ≡ x ∷ drop (i + 1) hs → parts_read (drop from es) (drop i (lengths hs)) ≡ true
      → (x.length ≤ length es - from) × (parts_read (drop (from + x.length) es) (drop (i + 1) (lengths hs)) ≡ true)
  head_fits x h k e =
      let q = length_at hs i x h k in
      let p = part_fits es (lengths hs) from i (omega (arith, heads_length hs)) e in
      (omega (arith, p.0, q), ap (λ (n : ℕ). parts_read (drop (from + n) es) (drop (i + 1) (lengths hs))) (sym q) ∙ p.1)

  pub head_put : (x : EventHead) → i < length hs → drop i hs ≡ x ∷ drop (i + 1) hs → (out next : List ℕ) (at to : ℕ) → to ≡ at + 24 + x.length → from ≤ length es
      → x.length ≤ length es - from → at + 24 + (length es - from) ≤ length out
      → next ≡ put_record out at (record_of x.length 3 x.drops x.timestamp (take (from + x.length - from) (drop from es)))
      → sets out at (records_bytes heads_from)
      ≡ sets next to (records_bytes (recorded_from es (lengths hs) (drops hs) (timestamps hs) (from + x.length) (i + 1)))
  head_put x h w out next at to p f g m e =
      let n = length_at hs i x h w in
      let d = drops_at hs i x h w in
      let t = timestamp_at hs i x h w in
      records_put es (lengths hs) (drops hs) (timestamps hs) from i out next at to (omega (arith, p, n))
      (omega (arith, heads_length hs)) (omega (arith, length-map hs (λ (h : EventHead). h.drops))) (omega (arith, length-map hs (λ (h : EventHead). h.timestamp)))
      f (omega (arith, n)) m
      (e ∙ (λ k. put_record out at (record_of (sym n k) 3 (sym d k) (sym t k) (take (from + sym n k - from) (drop from es)))))
      ∙ ap (λ (z : ℕ). sets next to (records_bytes (recorded_from es (lengths hs) (drops hs) (timestamps hs) (from + z) (i + 1)))) n

  pub heads_put_all : length hs ≤ i → (out : List ℕ) (at : ℕ) → sets out at (records_bytes heads_from) ≡ out
  heads_put_all h out at = records_end es (lengths hs) (drops hs) (timestamps hs) from i (omega (arith, heads_length hs)) out at

-- ---- the whole

pub length_records : (es ns ds ts : List ℕ) → length ns ≡ length ds → length ns ≡ length ts → parts_read es ns ≡ true
    → length (records_bytes (event_records es ns ds ts)) ≡ 24 * length ns + length es
unfolding event_records records_bytes parts_read
length_records es [] ds ts h k e = omega (arith, eqb-true 0 (length es) e)
length_records es (n ∷ ns) [] ts h k e = absurd (omega arith)
length_records es (n ∷ ns) (d ∷ ds) [] h k e = absurd (omega arith)
length_records es (n ∷ ns) (d ∷ ds) (t ∷ ts) h k e =
    let r = record_of n 3 d t (take n es) in
    let m = leb-true n (length es) (and_left (leb n (length es)) _ e) in
    let p = and_right (is_read (take n es)) _ (and_right (leb n (length es)) _ e) in
    omega (
      arith,
      length-append (record_bytes r) (records_bytes (event_records (drop n es) ns ds ts)),
      length_record r,
      length-take-le n es m,
      length-drop n es,
      length_records (drop n es) ns ds ts (omega arith) (omega arith) p,
    )

module _ (es ns ds ts : List ℕ) where
  abbrev message : List ℕ
  message = recording_bytes 1001 (event_records es ns ds ts)

  length_message : Fit es ns ds ts → length message ≡ 16 + 24 * length ns + length es
  length_message f =
      omega (
        arith,
        header_length 1001 (records_bytes (event_records es ns ds ts)) refl,
        length_records es ns ds ts f.drops f.timestamps f.parts,
      )

  -- nothing is written
  pub unwritten : (out : List ℕ) → events_of_form es ns ds ts ≡ false →
      (write_reply (Err Refusal.Packet) ≡ writing (events_of_form es ns ds ts) message out) × (out ≡ written (events_of_form es ns ds ts) message out)
  unwritten out e = (rw e, rw e)

  pub no_room : (out : List ℕ) → events_of_form es ns ds ts ≡ true → length out < 16 + 24 * length ns + length es →
      (write_reply (Err Refusal.Space) ≡ writing (events_of_form es ns ds ts) message out) × (out ≡ written (events_of_form es ns ds ts) message out)
  no_room out e h =
      let f = lt-leb (length message) (length out) (omega (arith, length_message (fit es ns ds ts e))) in
      (rw (e, f), rw (e, f))

  pub all_written : (out head now : List ℕ) → events_of_form es ns ds ts ≡ true → 16 + 24 * length ns + length es ≤ length out →
      head ≡ sets out 0 (header 1001) → now ≡ sets head 16 (records_bytes (event_records es ns ds ts)) →
      (write_reply (Ok (16 + 24 * length ns + length es)) ≡ writing (events_of_form es ns ds ts) message out)
      × (now ≡ written (events_of_form es ns ds ts) message out)
  all_written out head now e h p q =
      let m = length_message (fit es ns ds ts e) in
      let f = le-leb (length message) (length out) (omega arith) in
      let w = put_behind (header 1001) (records_bytes (event_records es ns ds ts)) out head 0 16 p (omega (arith, length_header 1001)) in
      (rw (e, f, m), rw (e, f) (q ∙ sym w ∙ sets-eq message out 0 (omega arith) ∙ rw zero-add))

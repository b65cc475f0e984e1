-- Reading and writing are each other's inverse. What is accepted is a message of the format, with pairs of the form (`accepted`);
-- every such message is accepted (`not_refused`), so that what is written is read back (`read_written`); what was read is
-- written as it was, with the ignored bits 0 (`written_read`). Assumes nothing.
use Rattle.std.specs.Prelude.{ℕ, zero, suc, ◌+◌, ◌*◌, ◌%◌, ◌≤◌, ◌≡◌, refl, Bool, true, cond, List, [], ◌∷◌, eqb, leb, length, get_or, drop}
use Rattle.std.proofs.Common.{sym, ap, ◌∙◌, inl, inr, add-zero, add_assoc, add-one, arith, eq-eqb, eqb-true, leb-true, drop_of_length-le, get_or-drop, drop-drop, drop-cons}
use Rattle.std.proofs.Math.Option.{none, some}
use Rattle.std.proofs.Math.Numerals.{add-two, add-four}
use Rattle.std.proofs.lemmas.List.{length-map}
use Rattle.limits.specs.declared.Field.TheVariants as field
use Rattle.limits.specs.Limits.{high, within}
use Rattle.model.proofs.Laws.{and_left, and_right}
use Rattle.hci.specs.Format.{handle_bits}
use Rattle.hci.proofs.Laws.{handle_low, handle_high_lem}
use Rattle.wire.specs.Wire.{u16_at}
use Rattle.wire.specs.Numbers.{Bytes, low_byte, high_byte}
use Rattle.completed_packets.specs.Format.{Pair, pairs_bytes, completed_bytes, handles_fit, pairs_of_form, masked_pair, masked_pairs}
use Rattle.completed_packets.specs.Read.{raw_pairs, said_pairs, is_completed, pairs_at, completed_in}
use Rattle.completed_packets.specs.Laws.{length_raw, length_bytes, Tested, tested}

-- ---- the two tests of `completed_in`

form_in : (s : List ℕ) (ps : List Pair) → is_completed s ≡ true → pairs_at s ≡ ps → pairs_of_form ps ≡ true → completed_in s ≡ some ps
form_in s ps e q f =
    ap (λ (b : Bool). cond b (cond (pairs_of_form (pairs_at s)) (some (pairs_at s)) none) none) e
    ∙ ap (λ (l : List Pair). cond (pairs_of_form l) (some l) none) q
    ∙ ap (λ (b : Bool). cond b (some ps) none) f

in_form : (s : List ℕ) (ps : List Pair) → completed_in s ≡ some ps →
    (is_completed s ≡ true) × (pairs_at s ≡ ps) × (pairs_of_form ps ≡ true)
in_form s ps e = go (tested s)
  where
    go : Tested s → (is_completed s ≡ true) × (pairs_at s ≡ ps) × (pairs_of_form ps ≡ true)
    go (inl h) = let z : ◌≡◌ {A = ℕ} 0 1 = cc in absurd (omega arith)
    go (inr t) = let q : pairs_at s ≡ ps = cc in (t.0, q, sym (ap pairs_of_form q) ∙ t.1)

-- ---- the pairs of the bytes of pairs

at_first : (s t : List ℕ) (at : ℕ) → drop at s ≡ t → get_or s at 0 ≡ get_or t 0 0
at_first s t at e = ap (λ (n : ℕ). get_or s n 0) (sym (add-zero at)) ∙ sym (get_or-drop at s 0 0) ∙ ap (λ (l : List ℕ). get_or l 0 0) e

at_later : (s t : List ℕ) (at i : ℕ) → drop at s ≡ t → get_or s (at + i) 0 ≡ get_or t i 0
at_later s t at i e = sym (get_or-drop at s i 0) ∙ ap (λ (l : List ℕ). get_or l i 0) e

at_last : (s t : List ℕ) (at : ℕ) → drop at s ≡ t → get_or s (at + 2 + 1) 0 ≡ get_or t 3 0
at_last s t at e = ap (λ (n : ℕ). get_or s n 0) (add_assoc at 2 1) ∙ at_later s t at 3 e

-- where the bytes of ws stand, ws is read
raw_back : (ws : List Pair) (s : List ℕ) (at : ℕ) → drop at s ≡ pairs_bytes ws → raw_pairs s (length ws) at ≡ ws
unfolding raw_pairs pairs_bytes
raw_back [] s at e = refl
raw_back (p ∷ ws) s at e =
    let t = pairs_bytes (p ∷ ws) in
    let h : u16_at s at ≡ p.handle = omega (arith, at_first s t at e, at_later s t at 1 e) in
    let k : u16_at s (at + 2) ≡ p.num_completed_packets = omega (arith, at_later s t at 2 e, at_last s t at e) in
    rw (h, k, raw_back ws s (at + 4) (sym (drop-drop 4 at s) ∙ ap (drop 4) e))

-- ---- what is written is read

module _ (ws : List Pair) where
  written_form : is_completed (completed_bytes ws) ≡ true
  written_form =
      let b = length_bytes ws in
      let h = eq-eqb (length (completed_bytes ws)) (2 + (1 + 4 * length ws)) (omega arith) in
      let k = eq-eqb (length (length ws ∷ pairs_bytes ws)) (1 + 4 * length ws) (omega arith) in
      rw (h, k)

  -- bytes of pairs that are of the form but for the ignored bits are read as those pairs
  pub not_refused : pairs_of_form (masked_pairs ws) ≡ true → completed_in (completed_bytes ws) ≡ some (masked_pairs ws)
  not_refused e = form_in (completed_bytes ws) (masked_pairs ws) written_form (ap masked_pairs (raw_back ws (completed_bytes ws) 3 refl)) e

below : (p : Pair) → within field.Handle p.handle ≡ true → masked_pair p ≡ p
unfolding within
below p e =
    let h = leb-true p.handle (high field.Handle) (and_right (leb 0 p.handle) _ e) in
    let k : handle_bits p.handle ≡ p.handle = omega arith in
    rw k

masked_same : (ps : List Pair) → handles_fit ps ≡ true → masked_pairs ps ≡ ps
unfolding handles_fit
masked_same [] e = refl
masked_same (p ∷ ps) e =
    rw (below p (and_left _ (handles_fit ps) e), masked_same ps (and_right (within field.Handle p.handle) _ e))

-- pairs of the form that are written are read back as they were
pub read_written : (ps : List Pair) → pairs_of_form ps ≡ true → completed_in (completed_bytes ps) ≡ some ps
read_written ps e =
    let q = masked_same ps (and_right (within field.Pairs (length ps)) _ e) in
    not_refused ps (ap pairs_of_form q ∙ e) ∙ ap some q

-- ---- what is read is written

-- the four bytes from a position on
four : (s : List ℕ) (at : ℕ) → at + 4 ≤ length s →
    drop at s ≡ get_or s at 0 ∷ get_or s (at + 1) 0 ∷ get_or s (at + 2) 0 ∷ get_or s (at + 2 + 1) 0 ∷ drop (at + 4) s
four s at h =
    let e : at + 2 + 1 ≡ suc (suc (suc at)) = omega arith in
    rw (e, add-one at, add-two at, add-four at)
    (drop-cons s at 0 (omega arith)
    ∙ rw (drop-cons s (suc at) 0 (omega arith), drop-cons s (suc (suc at)) 0 (omega arith), drop-cons s (suc (suc (suc at))) 0 (omega arith)))

-- the bytes of the n pairs from a position on are all that stands there
bytes_back : (s : List ℕ) (n at : ℕ) → Bytes s → length s ≡ at + 4 * n → pairs_bytes (raw_pairs s n at) ≡ drop at s
unfolding raw_pairs pairs_bytes
bytes_back s zero at b e = sym (drop_of_length-le s {i = at} (omega arith))
bytes_back s (suc n) at b e =
    rw (low_byte _ _ (b at), high_byte _ _ (b at), low_byte _ _ (b (at + 2)), high_byte _ _ (b (at + 2)), bytes_back s n (at + 4) b (omega arith)) (sym (four s at (omega arith)))

three : (s : List ℕ) → 3 ≤ length s → s ≡ get_or s 0 0 ∷ get_or s 1 0 ∷ get_or s 2 0 ∷ drop 3 s
three s h = drop-cons s 0 0 (omega arith) ∙ rw (drop-cons s 1 0 (omega arith), drop-cons s 2 0 (omega arith))

whole_back : (s : List ℕ) → Bytes s → is_completed s ≡ true → completed_bytes (raw_pairs s (said_pairs s) 3) ≡ s
whole_back s b e =
    let n = said_pairs s in
    let ws = raw_pairs s n 3 in
    let rest = and_right (eqb (length s) (2 + (1 + 4 * n))) _ e in
    let size = eqb-true (length s) (2 + (1 + 4 * n)) (and_left _ _ e) in
    let code = eqb-true (get_or s 0 0) 0x13 (and_left _ _ rest) in
    let said = eqb-true (get_or s 1 0) (1 + 4 * n) (and_right (eqb (get_or s 0 0) 0x13) _ rest) in
    let count = length_raw s n 3 in
    let parameters : suc (length (pairs_bytes ws)) ≡ get_or s 1 0 = omega (arith, length_bytes ws) in
    let pairs = bytes_back s n 3 b (omega arith) in
    (λ k. sym code k ∷ parameters k ∷ count k ∷ pairs k) ∙ sym (three s (omega arith))

-- Bytes that are read as pairs are the bytes of pairs that differ from them in the ignored bits alone, and their values are of the
-- form: nothing else is accepted.
pub accepted : (s : List ℕ) (ps : List Pair) → Bytes s → completed_in s ≡ some ps →
    (ws : List Pair) × (completed_bytes ws ≡ s) × (masked_pairs ws ≡ ps) × (pairs_of_form ps ≡ true)
accepted s ps b e =
    let t = in_form s ps e in
    (raw_pairs s (said_pairs s) 3, whole_back s b t.0, t.1, t.2)

-- ---- what was read, written again

-- the byte at k, and every fourth behind it, with its upper four bits 0
abbrev pub low_bits : ℕ → List ℕ → List ℕ
low_bits k [] = []
low_bits zero (b ∷ s) = b % 16 ∷ low_bits 3 s
low_bits (suc k) (b ∷ s) = b ∷ low_bits k s

masked_bytes : (ws : List Pair) → pairs_bytes (masked_pairs ws) ≡ low_bits 1 (pairs_bytes ws)
unfolding pairs_bytes
masked_bytes [] = refl
masked_bytes (p ∷ ws) = rw (handle_low p.handle, handle_high_lem p.handle, masked_bytes ws)

whole_masked : (ws : List Pair) → completed_bytes (masked_pairs ws) ≡ low_bits 4 (completed_bytes ws)
whole_masked ws =
    let size : length (pairs_bytes (masked_pairs ws)) ≡ length (pairs_bytes ws) = omega (arith, length_bytes ws, length_bytes (masked_pairs ws), length-map ws masked_pair) in
    rw (length-map ws masked_pair, size, masked_bytes ws)

-- pairs that were read are written as the bytes that they were read from, with the ignored bits of each handle 0: the upper byte of
-- the first stands at 4
pub written_read : (s : List ℕ) (ps : List Pair) → Bytes s → completed_in s ≡ some ps → completed_bytes ps ≡ low_bits 4 s
written_read s ps b e =
    let a = accepted s ps b e in
    ap completed_bytes (sym a.2) ∙ whole_masked a.0 ∙ ap (low_bits 4) a.1

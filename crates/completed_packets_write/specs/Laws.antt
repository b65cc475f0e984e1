-- The pairs of the writer one after another, and the bytes that it leaves: what its proofs cite. Assumes nothing.
use Rattle.std.specs.Prelude.{ℕ, zero, suc, ◌+◌, ◌*◌, ◌<◌, ◌≤◌, ◌≡◌, refl, true, false, List, [], ◌∷◌, ◌++◌, leb, length, get_or, drop, set, Ok, Err}
use Rattle.std.proofs.Common.{sym, ap, ◌∙◌, zero-add, le_of_suc-le-suc, not-suc-le-zero, add-one, arith, drop_of_length-le, drop-cons}
use Rattle.std.proofs.Math.Bool.{and-false}
use Rattle.std.proofs.Math.Numerals.{add-two, add-three}
use borrow.Author.Tests.{eq-eqb, ne_eqb, le-leb, lt-leb, leb-true}
use Rattle.std.proofs.lemmas.List.Edits.{sets, sets-eq}
use Rattle.std.proofs.Math.Seq.{length-sets}
use Rattle.model.specs.Answer.{Refusal}
use Rattle.model.proofs.Laws.{and_left, and_right}
use Rattle.limits.specs.declared.Field.TheVariants as field
use Rattle.limits.specs.Limits.{high, within}
use Rattle.wire.specs.Wire.{le16, write_reply, writing, written}
use Rattle.completed_packets.specs.Format.{Pair, pairs_bytes, completed_bytes, handles_fit, pairs_of_form}
use Rattle.completed_packets.specs.Laws.{length_bytes}
use Rattle.completed_packets_write.specs.Paired.{paired, paired_of_form}

-- the pair at i, and those behind it
pub pair_next : (ps : List Pair) (i : ℕ) (d : Pair) → i < length ps → drop i ps ≡ get_or ps i d ∷ drop (i + 1) ps
pair_next ps i d h = rw add-one (drop-cons ps i d h)

-- ---- the pairs of two lists

abbrev pub pair_of_two : ℕ → ℕ → Pair
pair_of_two h c = record { handle = h; num_completed_packets = c }

pub length_paired : (hs cs : List ℕ) → length hs ≡ length cs → length (paired hs cs) ≡ length hs
unfolding paired
length_paired [] cs e = refl
length_paired (h ∷ hs) [] e = sym e
length_paired (h ∷ hs) (c ∷ cs) e = ap suc (length_paired hs cs (omega arith))

drop_paired : (hs cs : List ℕ) (i : ℕ) → length hs ≡ length cs → i < length hs →
    drop i (paired hs cs) ≡ pair_of_two (get_or hs i 0) (get_or cs i 0) ∷ drop (suc i) (paired hs cs)
unfolding paired
drop_paired [] cs i e h = absurd (not-suc-le-zero h)
drop_paired (x ∷ hs) [] i e h = absurd (omega arith)
drop_paired (x ∷ hs) (c ∷ cs) zero e h = refl
drop_paired (x ∷ hs) (c ∷ cs) (suc i) e h = drop_paired hs cs i (omega arith) (le_of_suc-le-suc h)

module _ (hs cs : List ℕ) where
  pub paired_next : length hs ≡ length cs → (i : ℕ) → i < length (paired hs cs) →
      drop i (paired hs cs) ≡ pair_of_two (get_or hs i 0) (get_or cs i 0) ∷ drop (i + 1) (paired hs cs)
  paired_next same i h = rw (add-one i) (drop_paired hs cs i same (omega (arith, length_paired hs cs same)))

  pub form_lengths : (length hs ≡ length cs → ⊥) → paired_of_form hs cs ≡ false
  form_lengths h = rw (ne_eqb (length hs) (length cs) h)

  pub form_paired : length hs ≡ length cs → pairs_of_form (paired hs cs) ≡ paired_of_form hs cs
  form_paired same = rw (eq-eqb (length hs) (length cs) same)

-- ---- the form

module _ (ps : List Pair) where
  pub form_unfit : handles_fit ps ≡ false → pairs_of_form ps ≡ false
  form_unfit e = rw (e, and-false)

  pub form_fit : within field.Pairs (length ps) ≡ true → handles_fit ps ≡ true → pairs_of_form ps ≡ true
  form_fit e f = rw (e, f)

-- ---- the bytes, one pair further

pub put_four : (out : List ℕ) (at a b c d : ℕ) →
    set (set (set (set out at a) (at + 1) b) (at + 2) c) (at + 3) d ≡ sets out at (a ∷ b ∷ c ∷ d ∷ [])
put_four out at a b c d = rw (add-one at, add-two at, add-three at)

next_place : (i : ℕ) → 3 + 4 * (i + 1) ≡ suc (suc (suc (suc (3 + 4 * i))))
next_place i = omega arith

-- the bytes of the pairs from i on, put into `now`
abbrev pub put_from : List Pair → List ℕ → ℕ → List ℕ
put_from ps now i = sets now (3 + 4 * i) (pairs_bytes (drop i ps))

module _ (ps : List Pair) where
  pub put_next : (now next : List ℕ) (i : ℕ) (p : Pair) → drop i ps ≡ p ∷ drop (i + 1) ps →
      next ≡ sets now (3 + 4 * i) (le16 p.handle ++ le16 p.num_completed_packets) →
      put_from ps now i ≡ put_from ps next (i + 1)
  unfolding pairs_bytes
  put_next now next i p h e = rw (e, next_place i, h)

  pub put_end_lem : (now : List ℕ) (i : ℕ) → length ps ≤ i → put_from ps now i ≡ now
  unfolding pairs_bytes
  put_end_lem now i h = rw (drop_of_length-le ps h)

pub put_same : (p : Pair) (now next : List ℕ) (at : ℕ) → next ≡ sets now at (le16 p.handle ++ le16 p.num_completed_packets) →
    length next ≡ length now
put_same p now next at e = ap length e ∙ length-sets now at (le16 p.handle ++ le16 p.num_completed_packets)

-- ---- the whole

pub message_length : (ps : List Pair) → length (completed_bytes ps) ≡ 2 + (1 + 4 * length ps)
message_length ps = omega (arith, length_bytes ps)

pub form_few : (ps : List Pair) → pairs_of_form ps ≡ true → length ps ≤ high field.Pairs
unfolding within
form_few ps form =
    leb-true (length ps) (high field.Pairs) (and_right (leb 0 (length ps)) _ (and_left _ (handles_fit ps) form))

-- the header's three bytes, and then those of n pairs, put into `out`
abbrev pub put_whole : List Pair → ℕ → List ℕ → List ℕ
put_whole ps n out = sets (set (set (set out 0 0x13) 1 (1 + 4 * n)) 2 n) 3 (pairs_bytes ps)

whole : (ps : List Pair) (out : List ℕ) → put_whole ps (length ps) out ≡ sets out 0 (completed_bytes ps)
whole ps out =
    let p : 1 + 4 * length ps ≡ suc (length (pairs_bytes ps)) = omega (arith, length_bytes ps) in
    rw p

module _ (ps : List Pair) (out : List ℕ) where
  pub no_room : pairs_of_form ps ≡ true → length out < 2 + (1 + 4 * length ps) →
      (write_reply (Err Refusal.Space) ≡ writing (pairs_of_form ps) (completed_bytes ps) out)
      × (out ≡ written (pairs_of_form ps) (completed_bytes ps) out)
  no_room e h =
      let f = lt-leb (length (completed_bytes ps)) (length out) (omega (arith, message_length ps)) in
      (rw (e, f), rw (e, f))

  pub all_written : (now : List ℕ) (n : ℕ) → n ≡ length ps → pairs_of_form ps ≡ true → 2 + (1 + 4 * n) ≤ length out → now ≡ put_whole ps n out →
      (write_reply (Ok (2 + (1 + 4 * n))) ≡ writing (pairs_of_form ps) (completed_bytes ps) out)
      × (now ≡ written (pairs_of_form ps) (completed_bytes ps) out)
  all_written now n q e h k =
      let m = message_length ps in
      let f = le-leb (length (completed_bytes ps)) (length out) (omega arith) in
      (rw (e, f, m, q), rw (e, f) (k ∙ ap (λ (n : ℕ). put_whole ps n out) q ∙ whole ps out ∙ sets-eq (completed_bytes ps) out 0 (omega arith) ∙ rw zero-add))

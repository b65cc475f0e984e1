-- A record further: what the loops over a recording go by. Assumes nothing.
use Rattle.std.specs.Prelude.{ℕ, zero, suc, ◌+◌, ◌-◌, ◌<◌, ◌≤◌, ◌≡◌, refl, Bool, true, false, cond, not, List, [], Option, Some, None, leb, ltb, length, take, drop}
use Rattle.std.proofs.Common.{sym, ap, ◌∙◌, arith, lt-ltb, le-ltb, le-leb, leb-true}
use Rattle.std.proofs.lemmas.Bool.{not-true, not-false}
use Rattle.std.proofs.lemmas.Option.{none-some, cond_some}
use Rattle.model.proofs.Laws.{and_left, and_right}
use Rattle.btsnoop_read.specs.declared.RecordHead.{RecordHead}
use Rattle.btsnoop_read.specs.Format.{Record}
use Rattle.btsnoop_read.specs.Read.{Records, ahead, head_at, record_at, original_at, included_at, next_at, is_whole, records_from, records_at, told}

-- ---- what a whole record is

pub record Whole (s : List ℕ) (at : ℕ) : Type 0 where
  pub within : next_at s at ≤ length s
  pub included : included_at s at ≤ original_at s at

pub whole : (s : List ℕ) (at : ℕ) → is_whole s at ≡ true → Whole s at
unfolding is_whole
whole s at e =
    let r = and_right (leb (at + 24) (length s)) _ e in
    record {
      within = leb-true _ _ (and_left (leb (next_at s at) (length s)) _ r);
      included = leb-true _ _ (and_right (leb (next_at s at) (length s)) _ r);
    }

pub is_whole_lem : (s : List ℕ) (at : ℕ) → next_at s at ≤ length s → included_at s at ≤ original_at s at → is_whole s at ≡ true
unfolding is_whole
is_whole_lem s at h k =
    rw (le-leb (at + 24) (length s) (omega arith), le-leb (next_at s at) (length s) h, le-leb (included_at s at) (original_at s at) k)

-- ---- the number of records that are looked for does not matter once it is enough

enough : (s : List ℕ) (n m at : ℕ) → length s ≤ at + n → length s ≤ at + m → records_from s n at ≡ records_from s m at
unfolding records_from
enough s zero zero at h k = refl
enough s zero (suc m) at h k = rw (le-ltb at (length s) (omega arith))
enough s (suc n) zero at h k = rw (le-ltb at (length s) (omega arith))
enough s (suc n) (suc m) at h k =
    ap
    (λ (w : Records).
    cond (ltb at (length s)) (cond (is_whole s at) (ahead (record_at s at) w) (record { records = []; whole = false }))
    (record { records = []; whole = true }))
    (enough s n m (next_at s at) (omega arith) (omega arith))

one_more : (n i : ℕ) → i < n → n - i ≡ suc (n - (i + 1))
one_more n i h = omega arith

pub records_next : (s : List ℕ) (at : ℕ) → at < length s → is_whole s at ≡ true
    → records_at s at ≡ ahead (record_at s at) (records_at s (next_at s at))
unfolding records_from
records_next s at h e =
    rw (one_more (length s) at h, lt-ltb at (length s) h, e)
    (ap (ahead (record_at s at)) (enough s (length s - (at + 1)) (length s - next_at s at) (next_at s at) (omega arith) (omega arith)))

pub records_cut : (s : List ℕ) (at : ℕ) → at < length s → is_whole s at ≡ false
    → records_at s at ≡ record { records = []; whole = false }
unfolding records_from
records_cut s at h e = rw (one_more (length s) at h, lt-ltb at (length s) h, e)

pub records_end : (s : List ℕ) (at : ℕ) → length s ≤ at → records_at s at ≡ record { records = []; whole = true }
unfolding records_from
records_end s at h = let e : length s - at ≡ 0 = omega arith in rw e

-- ---- record by record, by any step

module _ {A : Type 0} (step : A → Record → A) (s : List ℕ) where
  pub walk_next : (a : A) (at : ℕ) → at < length s → is_whole s at ≡ true
      → told step a (records_at s at) ≡ told step (step a (record_at s at)) (records_at s (next_at s at))
  walk_next a at h e = ap (told step a) (records_next s at h e)

  pub walk_cut : (a : A) (at : ℕ) → at < length s → is_whole s at ≡ false → told step a (records_at s at) ≡ (a, false)
  walk_cut a at h e = ap (told step a) (records_cut s at h e)

  pub walk_end : (a : A) (at : ℕ) → length s ≤ at → told step a (records_at s at) ≡ (a, true)
  walk_end a at h = ap (told step a) (records_end s at h)

-- the part of the slice that holds a record's bytes, from the included length that was read
pub part_is : (s : List ℕ) (at : ℕ) {n : ℕ} → n ≡ included_at s at → take (at + 24 + n - (at + 24)) (drop (at + 24) s) ≡ (record_at s at).bytes
part_is s at {n} e = let p : at + 24 + n - (at + 24) ≡ included_at s at = omega arith in rw p

-- ---- what the code found at a position

pub no_head : (s : List ℕ) (at : ℕ) {o : Option RecordHead} → o ≡ cond (is_whole s at) (Some (head_at s at)) None → o ≡ None → is_whole s at ≡ false
no_head s at {o} e n = go (is_whole s at) refl
  where
    go : (b : Bool) → is_whole s at ≡ b → is_whole s at ≡ false
    go false p = p
    go true p = absurd (none-some (head_at s at) (sym n ∙ e ∙ rw p))

-- a whole record, and its head
pub record Found (s : List ℕ) (at : ℕ) (h : RecordHead) : Type 0 where
  pub whole : is_whole s at ≡ true
  pub head : h ≡ head_at s at
  pub included : h.included ≡ included_at s at
  pub within : at + 24 + h.included ≤ length s
  pub bytes : take (at + 24 + h.included - (at + 24)) (drop (at + 24) s) ≡ (record_at s at).bytes

pub found_head : (s : List ℕ) (at : ℕ) {o : Option RecordHead} (h : RecordHead) → o ≡ cond (is_whole s at) (Some (head_at s at)) None → o ≡ Some h
    → Found s at h
found_head s at h e f =
    let p = cond_some (is_whole s at) (head_at s at) h (sym e ∙ f) in
    let i : h.included ≡ included_at s at = ap (λ (x : RecordHead). x.included) (sym p.1) in
    let w = whole s at p.0 in
    record { whole = p.0; head = sym p.1; included = i; within = omega (arith, w.within); bytes = part_is s at i }

-- ---- a test b of the code, negated, that is known to be a

pub failed : {a b : Bool} → b ≡ a → not b ≡ true → a ≡ false
failed {a} {b} e t = sym e ∙ not-true b t

pub passed : {a b : Bool} → b ≡ a → not b ≡ false → a ≡ true
passed {a} {b} e t = sym e ∙ not-false b t

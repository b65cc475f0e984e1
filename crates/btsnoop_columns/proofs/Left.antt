-- The round trips of the bytes that `to_columns` and `from_columns` leave, and the limit of what they answer. Assumes nothing.
use Rattle.std.specs.Prelude.{ℕ, ◌<◌, ◌≤◌, ◌≡◌, refl, Bool, true, false, cond, List, [], ◌∷◌, leb, length, get_or, take, drop}
use Rattle.std.proofs.Common.{ap, ◌∙◌, zero-add, arith, le-leb}
use Rattle.std.proofs.Math.Option.{Option, none, some}
use Rattle.std.proofs.lemmas.Bool.{lt-leb}
use Rattle.std.proofs.lemmas.List.Edits.{sets, sets-eq}
use Rattle.std.proofs.Math.Seq.{take-append_seam}
use Rattle.model.specs.Answer.{Refusal, Reply, ok, refusal}
use Rattle.wire.specs.Wire.{writing, written}
use Rattle.btsnoop_read.specs.Read.{is_header, records_in}
use Rattle.btsnoop_read.proofs.Inverse.{in_form}
use Rattle.btsnoop_columns.specs.Read.{arranged, recorded}
use Rattle.btsnoop_columns.specs.Answer.{writing_of, written_of, to_columns_of, to_columns_left, from_columns_of, from_columns_left}
use Rattle.btsnoop_columns.specs.Statement.{LeftThereAndBack, LeftBackAndThere, SizeLimit}
use Rattle.btsnoop_columns.proofs.Accepted.{columns_tests, by_recording, by_columns, arranged_recorded, recorded_arranged, within_limit, past_limit}

-- ---- a message put from the start of a slice on, and one that has no room

module _ (m out : List ℕ) where
  pub wrote : (now : List ℕ) → length m ≤ length out → now ≡ sets out 0 m → (ok (length m ∷ []) ≡ writing true m out) × (now ≡ written true m out)
  wrote now h e =
      let f = le-leb (length m) (length out) h in
      (rw f, rw f (e ∙ sets-eq m out 0 (omega arith) ∙ rw zero-add))

  pub unwritten : length out < length m → (refusal Refusal.Space ≡ writing true m out) × (out ≡ written true m out)
  unwritten h = let f = lt-leb (length m) (length out) h in (rw f, rw f)

-- ---- what was written

-- n bytes were written: the message, and they are it
pub record Made (o : Option (List ℕ)) (out : List ℕ) (n : ℕ) : Type 0 where
  pub message : List ℕ
  pub made : o ≡ some message
  pub bytes : take n (written_of o out) ≡ message

made_of : (o : Option (List ℕ)) (out : List ℕ) (n : ℕ) → writing_of o out ≡ ok (n ∷ []) → Made o out n
made_of none out n e = absurd (omega (arith, ap (λ (r : Reply). r.number) e))
made_of (some m) out n e = go (leb (length m) (length out)) refl e
  where
    go : (b : Bool) → leb (length m) (length out) ≡ b → cond b (ok (length m ∷ [])) (refusal Refusal.Space) ≡ ok (n ∷ []) → Made (some m) out n
    go true p t =
        let q : length m ≡ n = ap (λ (r : Reply). get_or r.values 0 0) t in
        record { message = m; made = refl; bytes = rw (p, ← q) (take-append_seam m (drop (length m) out)) }
    go false p t = absurd (omega (arith, ap (λ (r : Reply). r.number) t))

pub columns_made : (s out : List ℕ) (n : ℕ) → to_columns_of s out ≡ ok (n ∷ []) → Made (arranged s) out n
columns_made s out n e = go (is_header s) (records_in s).whole e
  where
    go : (a b : Bool) → cond a (cond b (writing_of (arranged s) out) (refusal Refusal.Record)) (refusal Refusal.Header) ≡ ok (n ∷ []) → Made (arranged s) out n
    go true true t = made_of (arranged s) out n t
    go true false t = absurd (omega (arith, ap (λ (r : Reply). r.number) t))
    go false b t = absurd (omega (arith, ap (λ (r : Reply). r.number) t))

pub recording_made : (c out : List ℕ) (n : ℕ) → from_columns_of c out ≡ ok (n ∷ []) → Made (recorded c) out n
recording_made c out n e = go (is_header c) e
  where
    go : (a : Bool) → cond a (writing_of (recorded c) out) (refusal Refusal.Header) ≡ ok (n ∷ []) → Made (recorded c) out n
    go true t = made_of (recorded c) out n t
    go false t = absurd (omega (arith, ap (λ (r : Reply). r.number) t))

-- ---- the round trips

-- what is answered past 11 and 12
pub to_columns_past : (s out : List ℕ) (o : Option (List ℕ)) → is_header s ≡ true → (records_in s).whole ≡ true → arranged s ≡ o
    → to_columns_of s out ≡ writing_of o out
to_columns_past s out o h w e =
    ap (λ (a : Bool). cond a (cond (records_in s).whole (writing_of (arranged s) out) (refusal Refusal.Record)) (refusal Refusal.Header)) h
    ∙ ap (λ (a : Bool). cond a (writing_of (arranged s) out) (refusal Refusal.Record)) w
    ∙ ap (λ (x : Option (List ℕ)). writing_of x out) e

pub from_columns_past : (c out : List ℕ) (o : Option (List ℕ)) → is_header c ≡ true → recorded c ≡ o → from_columns_of c out ≡ writing_of o out
from_columns_past c out o h e =
    ap (λ (a : Bool). cond a (writing_of (recorded c) out) (refusal Refusal.Header)) h ∙ ap (λ (x : Option (List ℕ)). writing_of x out) e

pub left_there_and_back : LeftThereAndBack
left_there_and_back s out next n y e =
    let k = columns_made s out n e in
    let c = k.message in
    let r : recorded c ≡ some s = arranged_recorded s c y k.made in
    let b = by_columns c s r in
    let t = columns_tests c b.0 b.1 b.2 in (
      ap (λ (x : List ℕ). from_columns_of x next) k.bytes ∙ from_columns_past c next (some s) t.0 r,
      ap (λ (x : List ℕ). from_columns_left x next) k.bytes ∙ ap (λ (o : Option (List ℕ)). written_of o next) r,
    )

pub left_back_and_there : LeftBackAndThere
left_back_and_there c out next n y e =
    let k = recording_made c out n e in
    let s = k.message in
    let r : arranged s ≡ some c = recorded_arranged c s y k.made in
    let b = by_recording s c r in
    let t = in_form s b.0 b.1 b.2 in (
      ap (λ (x : List ℕ). to_columns_of x next) k.bytes ∙ to_columns_past s next (some c) t.0 t.1 r,
      ap (λ (x : List ℕ). to_columns_left x next) k.bytes ∙ ap (λ (o : Option (List ℕ)). written_of o next) r,
    )

-- ---- the limit

pub size_limit : SizeLimit
size_limit s out d rs y e =
    let t = in_form s d rs e in (
      λ h. let w = within_limit s d rs y e (omega arith) in (
        to_columns_past s out _ t.0 t.1 w,
        ap (λ (o : Option (List ℕ)). written_of o out) w,
      ),
      λ h. to_columns_past s out _ t.0 t.1 (past_limit s d rs y e (omega arith)),
    )

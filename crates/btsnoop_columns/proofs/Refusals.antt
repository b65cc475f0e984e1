-- What the two functions refuse, in which order, and that a refusal keeps every byte. Assumes nothing.
use Rattle.std.specs.Prelude.{ℕ, ◌<◌, ◌≡◌, refl, ◌≢◌, Bool, true, false, cond, ◌&&◌, List, leb, length}
use Rattle.std.proofs.Common.{ap, ◌∙◌}
use Rattle.std.proofs.Math.Option.{Option, none, some}
use Rattle.std.proofs.lemmas.Bool.{lt-leb}
use Rattle.model.specs.Answer.{Refusal, refusal}
use Rattle.btsnoop_read.specs.Read.{Recording, is_header, datalink_in, records_in}
use Rattle.btsnoop_columns.specs.Read.{count_in, none_longer, size_fits, pairs_stand, length_is, bytes_agree, is_arranged, gathered_in, summed, arranged_as, arranged, recorded_as, recorded}
use Rattle.btsnoop_columns.specs.Answer.{writing_of, written_of}
use Rattle.btsnoop_columns.specs.Statement.{ToColumnsRefused, FromColumnsRefused, ColumnsRefusals}
use Rattle.btsnoop_columns.proofs.Left.{from_columns_past}

kept_of : (o : Option (List ℕ)) (out : List ℕ) → (writing_of o out).number ≢ 0 → written_of o out ≡ out
kept_of none out n = refl
kept_of (some m) out n = go (leb (length m) (length out)) refl
  where
    go : (b : Bool) → leb (length m) (length out) ≡ b → written_of (some m) out ≡ out
    go true p = absurd (n (rw p))
    go false p = rw p

and-false : (a b : Bool) → b ≡ false → (a && b) ≡ false
and-false true b e = e
and-false false b e = refl

-- ---- to columns

module _ (s out : List ℕ) where
  to_kept : (a b : Bool) (o : Option Recording)
      → (cond a (cond b (writing_of (arranged_as (cond a (cond b o none) none)) out) (refusal Refusal.Record)) (refusal Refusal.Header)).number ≢ 0
      → written_of (arranged_as (cond a (cond b o none) none)) out ≡ out
  to_kept true true o n = kept_of (arranged_as o) out n
  to_kept true false o n = refl
  to_kept false b o n = refl

  to_columns_refused : ToColumnsRefused s out
  to_columns_refused = record {
    header = λ h. ap (λ (a : Bool). cond a (cond (records_in s).whole (writing_of (arranged s) out) (refusal Refusal.Record)) (refusal Refusal.Header)) h;
    records = λ h w.
        ap (λ (a : Bool). cond a (cond (records_in s).whole (writing_of (arranged s) out) (refusal Refusal.Record)) (refusal Refusal.Header)) h
        ∙ ap (λ (b : Bool). cond b (writing_of (arranged s) out) (refusal Refusal.Record)) w;
    kept = to_kept (is_header s) (records_in s).whole (some (datalink_in s, (records_in s).records));
  }

-- ---- from columns

module _ (c out : List ℕ) where
  from_kept : (a : Bool) (o : Option Recording)
      → (cond a (writing_of (recorded_as (cond a o none)) out) (refusal Refusal.Header)).number ≢ 0
      → written_of (recorded_as (cond a o none)) out ≡ out
  from_kept true o n = kept_of (recorded_as o) out n
  from_kept false o n = refl

  not_recorded_lem : is_header c ≡ true → is_arranged c ≡ false → recorded c ≡ none
  not_recorded_lem h e =
      ap (λ (a : Bool). recorded_as (cond a (cond (is_arranged c) (some (datalink_in c, summed 0 (gathered_in c))) none) none)) h
      ∙ ap (λ (b : Bool). recorded_as (cond b (some (datalink_in c, summed 0 (gathered_in c))) none)) e

  too_long : 4294967295 < length c → is_arranged c ≡ false
  unfolding is_arranged
  too_long h =
      and-false (length_is c) _
      (and-false (pairs_stand c) _
      (and-false (bytes_agree c) _ (and-false (none_longer c (count_in c) 56) (size_fits c) (lt-leb (length c) 4294967295 h))))

  from_columns_refused : FromColumnsRefused c out
  from_columns_refused = record {
    header = λ h. ap (λ (a : Bool). cond a (writing_of (recorded c) out) (refusal Refusal.Header)) h;
    columns = λ h e. from_columns_past c out none h (not_recorded_lem h e);
    long = λ h l. from_columns_past c out none h (not_recorded_lem h (too_long l));
    kept = from_kept (is_header c) (cond (is_arranged c) (some (datalink_in c, summed 0 (gathered_in c))) none);
  }

pub columns_refusals : ColumnsRefusals
columns_refusals f out = (to_columns_refused f out, from_columns_refused f out)

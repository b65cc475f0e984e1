-- What a refused recording leaves behind, and which numbers there are. Assumes nothing.
use Rattle.std.specs.Prelude.{ℕ, ◌-◌, ◌≡◌, refl, ◌≢◌, Bool, true, false, cond, List, [], ◌∷◌, ◌++◌, length, drop}
use Rattle.std.proofs.Common.{sym, ap, ◌∙◌, append_assoc, arith}
use Rattle.std.proofs.Math.Seq.{drop-append_seam}
use Rattle.slot.specs.declared.ConnectionManager.{ConnectionManager}
use Rattle.model.specs.Answer.{Reply, ok}
use Rattle.model.specs.Find.{well_formed}
use Rattle.number_theorems.specs.Numbers.{is_in}
use Rattle.woken_set.specs.WokenSet.{nobody}
use Rattle.messages.specs.Received.{Received, received}
use Rattle.big_endian.specs.Laws.{Bytes}
use Rattle.btsnoop_read.specs.Format.{records_bytes, header}
use Rattle.btsnoop_read.specs.Read.{Records, is_header, datalink_in, records_in, told}
use Rattle.btsnoop_read.proofs.Inverse.{Cut, records_stand, records_back, header_in, header_back, header_length, head_16, datalink_back}
use Rattle.recordings.specs.Recording.{started, ran_record, told_of, replayed, recording_numbers}
use Rattle.recording_theorems.specs.Statement.{before, RecordingLeft, RecordingRefusals, RecordingNumbers}

-- ---- the recording of the records before the first that is not whole

module _ (s : List ℕ) (b : Bytes s) (h : is_header s ≡ true) where
  stands : before s ++ drop (length (before s)) s ≡ s
  stands =
      let f = records_stand s b (length s - 16) 16 (omega arith) in
      let whole : before s ++ f.rest ≡ s =
      append_assoc (header (datalink_in s)) (records_bytes (records_in s).records) f.rest
      ∙ ap (λ (l : List ℕ). header (datalink_in s) ++ l) f.bytes
      ∙ (header_in s b h).2 in
      ap (λ (l : List ℕ). before s ++ l)
      (ap (drop (length (before s))) (sym whole) ∙ drop-append_seam (before s) f.rest)
      ∙ whole

  cut : (records_in s).whole ≡ false → Cut s (length (before s))
  cut e =
      let f = records_stand s b (length s - 16) 16 (omega arith) in
      let q = records_bytes (records_in s).records in
      rw (header_length (datalink_in s) q (header_in s b h).1) (f.cut e)

  reads : records_in (before s) ≡ record { records = (records_in s).records; whole = true }
  reads =
      let q = records_bytes (records_in s).records in
      let known = (header_in s b h).1 in
      records_back (records_in s).records (records_stand s b (length s - 16) 16 (omega arith)).form (before s) 16
      (omega (arith, header_length (datalink_in s) q known)) (head_16 (datalink_in s) q known)

  runs : (t : ConnectionManager) → well_formed t ≡ true
      → replayed (before s) t
      ≡ told_of (told (ran_record received (datalink_in s)) (started t) (record { records = (records_in s).records; whole = true }))
  runs t f =
      let q = records_bytes (records_in s).records in
      let known = (header_in s b h).1 in
      rw (f, header_back (datalink_in s) q known)
      (λ k. told_of (told (ran_record received (datalink_back (datalink_in s) q known k)) (started t) (reads k)))

-- ---- by the tests of `replayed`

module _ (s : List ℕ) (t : ConnectionManager) where
  left : (x y w : Bool) → well_formed t ≡ x → is_header s ≡ y → (records_in s).whole ≡ w → RecordingLeft s t (replayed s t)
  left true true true p q r =
      record {
        unchanged = λ h k. absurd (h (rw (p, q, r)));
        cut_short = λ n b. absurd (let z : ◌≡◌ {A = ℕ} 0 12 = rw (p, q, r) at n in omega arith);
      }
  left true true false p q r =
      record {
        unchanged = λ h k. absurd (k (rw (p, q, r)));
        cut_short = λ n b. (stands s b q, (cut s b q r).0, (cut s b q r).1, runs s b q t p ∙ rw (p, q));
      }
  left true false w p q r =
      record {
        unchanged = λ h k. rw (p, q) (refl, refl);
        cut_short = λ n b. absurd (let z : ◌≡◌ {A = ℕ} 11 12 = rw (p, q) at n in omega arith);
      }
  left false y w p q r =
      record {
        unchanged = λ h k. rw p (refl, refl);
        cut_short = λ n b. absurd (let z : ◌≡◌ {A = ℕ} 8 12 = rw p at n in omega arith);
      }

  number_in : (x y w : Bool) → well_formed t ≡ x → is_header s ≡ y → (records_in s).whole ≡ w
      → is_in (replayed s t).reply.number recording_numbers ≡ true
  number_in true true true p q r = rw (p, q, r)
  number_in true true false p q r = rw (p, q, r)
  number_in true false w p q r = rw (p, q)
  number_in false y w p q r = rw p

pub recording_refusals : RecordingRefusals
unfolding RecordingRefusals
recording_refusals s t = left s t (well_formed t) (is_header s) (records_in s).whole refl refl refl

pub recording_numbers_lem : RecordingNumbers
unfolding RecordingNumbers
recording_numbers_lem s t = number_in s t (well_formed t) (is_header s) (records_in s).whole refl refl refl

-- The limit on both its sides: one record of k bytes 0, whose file has k + 40 bytes and its arrangement k + 80. Assumes nothing.
use Rattle.std.specs.Prelude.{ℕ, zero, suc, ◌+◌, ◌/◌, ◌%◌, ◌^◌, ◌≤◌, ◌<◌, ◌≡◌, true, List, [], ◌∷◌, ◌++◌, length, replicate}
use Rattle.std.proofs.Math.Path.{refl}
use Rattle.std.proofs.Common.{◌∙◌}
use native.Mathlib.Omega.{arith}
use Rattle.std.proofs.Math.ListN.{length-replicate}
use Rattle.model.specs.Answer.{Refusal, refusal}
use Rattle.wire.specs.Wire.{writing, written}
use Rattle.big_endian.specs.BigEndian.{be}
use Rattle.big_endian.specs.Laws.{Bytes}
use Rattle.btsnoop_read.specs.Format.{Record, record_of, records_bytes, identification, header, recording_bytes, AllOfForm}
use Rattle.btsnoop_read.proofs.Inverse.{read_written}
use Rattle.btsnoop_columns.specs.Format.{data_length, columns_bytes}
use Rattle.btsnoop_columns.specs.Answer.{to_columns_of, to_columns_left}
use Rattle.btsnoop_columns.proofs.RoundTrip.{length_recording}
use Rattle.btsnoop_columns.proofs.Left.{size_limit}
use Rattle.btsnoop_columns.proofs.Cases.{all_bytes_lem}

-- ---- bytes, part by part

record ByteList (l : List ℕ) : Type 0 where
  bytes : Bytes l

bytes_append : (a b : List ℕ) → Bytes a → Bytes b → Bytes (a ++ b)
bytes_append [] b h k i = k i
bytes_append (x ∷ a) b h k zero = h 0
bytes_append (x ∷ a) b h k (suc i) = bytes_append a b (λ i. h (suc i)) k i

then : (a : List ℕ) {b : List ℕ} → Bytes a → ByteList b → ByteList (a ++ b)
then a {b} h k = record { bytes = bytes_append a b h k.bytes }

bytes_be : (n x : ℕ) → Bytes (be n x)
unfolding be
bytes_be zero x i = omega arith
bytes_be (suc n) x i = bytes_append (be n (x / 256)) (x % 256 ∷ []) (bytes_be n (x / 256)) (last (x % 256) (omega arith)) i
  where
    last : (y : ℕ) → y < 256 → Bytes (y ∷ [])
    last y h zero = h
    last y h (suc i) = omega arith

bytes_zeros : (k : ℕ) → Bytes (replicate k 0)
bytes_zeros zero i = omega arith
bytes_zeros (suc k) zero = omega arith
bytes_zeros (suc k) (suc i) = bytes_zeros k i

-- ---- the file

module _ (k : ℕ) (h : k < 2 ^ 32) where
  abbrev zeros : List ℕ
  zeros = replicate k 0

  abbrev pub one_record : List Record
  one_record = record_of k 3 0 0 (replicate k 0) ∷ []

  abbrev pub long_file : List ℕ
  long_file = recording_bytes 1001 one_record

  head_bytes : Bytes (header 1001)
  unfolding be
  head_bytes = all_bytes_lem (header 1001) refl

  long_form : AllOfForm one_record
  long_form = (
    record {
      original = h;
      included = omega (arith, length-replicate {A = ℕ} k 0);
      flags = omega arith;
      drops = omega arith;
      timestamp = omega arith;
      bytes = bytes_zeros k;
    },
    tt,
  )

  long_bytes : ByteList long_file
  unfolding records_bytes
  long_bytes =
      then (be 8 identification ++ (be 4 1 ++ be 4 1001)) head_bytes
      (then (be 4 k ++ (be 4 (length zeros) ++ (be 4 3 ++ (be 4 0 ++ (be 8 0 ++ zeros)))))
      (then (be 4 k) (bytes_be 4 k)
      (then (be 4 (length zeros)) (bytes_be 4 (length zeros))
      (then (be 4 3) (bytes_be 4 3)
      (then (be 4 0) (bytes_be 4 0)
      (then (be 8 0) (bytes_be 8 0) (record { bytes = bytes_zeros k })))))).bytes
      (record { bytes = λ i. omega arith }))

  long_length : length long_file ≡ k + 40
  unfolding data_length
  long_length = length_recording 1001 one_record refl ∙ omega (arith, length-replicate {A = ℕ} k 0)

  -- 4,294,967,215 bytes and no more can be arranged
  pub at_limit : (out : List ℕ)
      → (k ≤ 4294967215
      → (to_columns_of long_file out ≡ writing true (columns_bytes 1001 one_record) out)
      × (to_columns_left long_file out ≡ written true (columns_bytes 1001 one_record) out))
      × (4294967215 < k → to_columns_of long_file out ≡ refusal Refusal.Columns)
  at_limit out =
      let l = size_limit long_file out 1001 one_record long_bytes.bytes (read_written 1001 one_record refl long_form) in
      (λ n. l.0 (omega (arith, long_length)), λ n. l.1 (omega (arith, long_length)))

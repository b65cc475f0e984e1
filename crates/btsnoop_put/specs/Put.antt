-- The header and a record put into a slice. Assumes nothing.
use Rattle.std.specs.Prelude.{ℕ, ◌+◌, ◌<◌, ◌≤◌, ◌≡◌, Bool, cond, List, leb}
use Rattle.std.proofs.Math.Path.{refl}
use Rattle.std.proofs.Common.{sym, ◌∙◌, arith, le-leb, length-append}
use Rattle.std.proofs.Math.Bool.{true, false}
use Rattle.std.proofs.lemmas.Bool.{lt-leb}
use Rattle.std.proofs.Math.ListN.{length}
use Rattle.std.proofs.lemmas.List.Edits.{sets}
use Rattle.std.proofs.Math.Seq.{length-sets}
use Rattle.big_endian.specs.BigEndian.{be}
use Rattle.big_endian.specs.Laws.{length_be}
use Rattle.big_endian_write.specs.Laws.{number_behind}
use Rattle.btsnoop_read.specs.Format.{Record, record_bytes, header, identification}

-- whole, or not at all
unfoldable pub put_record : List ℕ → ℕ → Record → List ℕ
put_record out at r = cond (leb (at + 24 + length r.bytes) (length out)) (sets out at (record_bytes r)) out

pub length_record : (r : Record) → length (record_bytes r) ≡ 24 + length r.bytes
length_record r = simp (length-append, length_be) (omega arith)

pub length_header : (d : ℕ) → length (header d) ≡ 16
length_header d = simp (length-append, length_be)

module _ (out : List ℕ) (at : ℕ) (r : Record) where
  pub put_whole : at + 24 + length r.bytes ≤ length out → put_record out at r ≡ sets out at (record_bytes r)
  unfolding put_record
  put_whole h = rw (le-leb (at + 24 + length r.bytes) (length out) h)

  pub put_nothing : length out < at + 24 + length r.bytes → put_record out at r ≡ out
  unfolding put_record
  put_nothing h = rw (lt-leb (at + 24 + length r.bytes) (length out) h)

  pub put_length : length (put_record out at r) ≡ length out
  unfolding put_record
  put_length = go (leb (at + 24 + length r.bytes) (length out))
    where
      go : (b : Bool) → length (cond b (sets out at (record_bytes r)) out) ≡ length out
      go true = length-sets out at (record_bytes r)
      go false = refl

  -- number by number
  pub put_fields : (o1 o2 o3 o4 o5 o6 : List ℕ)
      → o1 ≡ sets out at (be 4 r.original)
      → o2 ≡ sets o1 (at + 4) (be 4 (length r.bytes))
      → o3 ≡ sets o2 (at + 8) (be 4 r.flags)
      → o4 ≡ sets o3 (at + 12) (be 4 r.drops)
      → o5 ≡ sets o4 (at + 16) (be 8 r.timestamp)
      → o6 ≡ sets o5 (at + 24) r.bytes
      → o6 ≡ sets out at (record_bytes r)
  put_fields o1 o2 o3 o4 o5 o6 e1 e2 e3 e4 e5 e6 =
      sym (number_behind 4 r.original _ out o1 at (at + 4) e1 refl
      ∙ number_behind 4 (length r.bytes) _ o1 o2 (at + 4) (at + 8) e2 (omega arith)
      ∙ number_behind 4 r.flags _ o2 o3 (at + 8) (at + 12) e3 (omega arith)
      ∙ number_behind 4 r.drops _ o3 o4 (at + 12) (at + 16) e4 (omega arith)
      ∙ number_behind 8 r.timestamp _ o4 o5 (at + 16) (at + 24) e5 (omega arith)
      ∙ sym e6)

pub put_head : (out o1 o2 o3 : List ℕ) (d : ℕ) → o1 ≡ sets out 0 (be 8 identification) → o2 ≡ sets o1 8 (be 4 1) → o3 ≡ sets o2 12 (be 4 d)
    → o3 ≡ sets out 0 (header d)
put_head out o1 o2 o3 d e1 e2 e3 =
    sym (number_behind 8 identification _ out o1 0 8 e1 refl ∙ number_behind 4 1 _ o1 o2 8 12 e2 refl ∙ sym e3)

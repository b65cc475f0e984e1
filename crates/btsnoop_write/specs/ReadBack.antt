-- "reading it must return the same records": of the recording of events. Assumes nothing.
use Rattle.std.specs.Prelude.{ℕ, suc, ◌+◌, ◌<◌, ◌^◌, ◌≡◌, refl, Bool, true, false, List, [], ◌∷◌, ltb, length, get_or, take, drop}
use Rattle.std.proofs.Math.Option.{some}
use Rattle.std.proofs.Common.{arith, ltb-true, ltb-false, length-take, get_or-take, get_or-drop}
use Rattle.std.proofs.Math.ListN.{get_or-eq_default}
use Rattle.std.proofs.Math.Nat.{min-le_left}
use Rattle.big_endian.specs.Laws.{Bytes}
use Rattle.btsnoop_read.specs.Format.{recording_bytes, AllOfForm}
use Rattle.btsnoop_read.specs.Read.{recording_in}
use Rattle.btsnoop_read.proofs.Inverse.{read_written}
use Rattle.btsnoop_write.specs.Events.{event_records}

-- numbers below m
abbrev pub Below : ℕ → List ℕ → Type 0
Below m xs = (i : ℕ) → get_or xs i 0 < m

bytes_take : (n : ℕ) (es : List ℕ) → Bytes es → Bytes (take n es)
bytes_take n es y i = go (ltb i n) refl
  where
    go : (b : Bool) → ltb i n ≡ b → get_or (take n es) i 0 < 256
    go true e = rw (get_or-take n es i 0 (ltb-true i n e)) (y i)
    go false e =
        let h = ltb-false i n e in
        omega (arith, get_or-eq_default (take n es) 0 {n = i} (omega (arith, length-take n es, min-le_left n (length es))))

bytes_drop : (n : ℕ) (es : List ℕ) → Bytes es → Bytes (drop n es)
bytes_drop n es y i = rw (get_or-drop n es i 0) (y (n + i))

recorded_form : (es ns ds ts : List ℕ) → Bytes es → Below (2 ^ 16) ns → Below (2 ^ 32) ds → Below (2 ^ 64) ts → AllOfForm (event_records es ns ds ts)
unfolding event_records
recorded_form es [] ds ts y h k l = tt
recorded_form es (n ∷ ns) [] ts y h k l = tt
recorded_form es (n ∷ ns) (d ∷ ds) [] y h k l = tt
recorded_form es (n ∷ ns) (d ∷ ds) (t ∷ ts) y h k l =
    let f : n < 2 ^ 16 = h 0 in (
      record {
        original = omega arith;
        included = omega (arith, length-take n es, min-le_left n (length es));
        flags = omega arith;
        drops = k 0;
        timestamp = l 0;
        bytes = bytes_take n es y;
      },
      recorded_form (drop n es) ns ds ts (bytes_drop n es y) (λ i. h (suc i)) (λ i. k (suc i)) (λ i. l (suc i)),
    )

-- whatever the slices: those of the writer have numbers of 8, 16, 32 and 64 bits
pub recorded_read : (es ns ds ts : List ℕ) → Bytes es → Below (2 ^ 16) ns → Below (2 ^ 32) ds → Below (2 ^ 64) ts
    → recording_in (recording_bytes 1001 (event_records es ns ds ts)) ≡ some (1001, event_records es ns ds ts)
recorded_read es ns ds ts y h k l = read_written 1001 (event_records es ns ds ts) refl (recorded_form es ns ds ts y h k l)

-- Bytes read one behind the other: what the loop of `bytes_at` goes by. Assumes nothing.
use Rattle.std.specs.Prelude.{ℕ, Option, None, Some, ◌+◌, ◌-◌, ◌≤◌, ◌<◌, ◌≡◌, refl, Bool, true, false, cond, ◌&&◌, List, [], ◌∷◌, ltb, leb, length, drop, get_or}
use Rattle.std.proofs.Common.{ap, ◌∙◌, arith, ltb-true, ltb-false, leb-true, length-drop}
use Rattle.std.proofs.lemmas.Bool.{false≢true}
use lib.ListN.{get_or-eq_default}
use Rattle.text.specs.Bytes.{next}
use Rattle.text_read.specs.Read.{hex_digit, octet_at, hex_bytes, octet_then}

-- ---- a byte's two digits

and_right : (x y : Bool) → (x && y) ≡ true → y ≡ true
and_right true y e = e
and_right false y e = absurd (false≢true e)

case_small : (t : Bool) (x v : ℕ) (rest : Option ℕ) → (t ≡ true → x < 16) → (rest ≡ Some v → v < 16) →
    cond t (Some x) rest ≡ Some v → v < 16
case_small true x v rest f g e = let z : x ≡ v = cc in omega (arith, f refl)
case_small false x v rest f g e = g e

range_small : (l h d b : ℕ) → h < d + 16 → (leb l b && leb b h) ≡ true → b - d < 16
range_small l h d b k e = omega (arith, leb-true b h (and_right (leb l b) (leb b h) e))

-- a digit's value
pub digit_small : (b v : ℕ) → hex_digit b ≡ Some v → v < 16
digit_small b v =
    case_small _ _ v _ (range_small 48 57 48 b (omega arith))
    (case_small _ _ v _ (range_small 65 70 55 b (omega arith))
    (case_small _ _ v _ (range_small 97 102 87 b (omega arith)) (λ e. let z : ◌≡◌ {A = ℕ} 0 1 = cc in omega arith)))

-- where a byte's digits stand there is room for them
pub octet_room : (s : List ℕ) (i v : ℕ) → octet_at s i ≡ Some v → i + 1 < length s
octet_room s i v = go (ltb (i + 1) (length s)) refl
  where
    go : (t : Bool) → ltb (i + 1) (length s) ≡ t → octet_at s i ≡ Some v → i + 1 < length s
    go true e f = ltb-true (i + 1) (length s) e
    go false e f = let g : None ≡ Some v = simp e at f in let z : ◌≡◌ {A = ℕ} 0 1 = cc in absurd (omega arith)

-- ---- bytes in hexadecimal

short : (s : List ℕ) → length s ≤ 1 → hex_bytes s ≡ []
unfolding hex_bytes
short [] h = refl
short (a ∷ []) h = refl
short (a ∷ b ∷ s) h = absurd (omega arith)

two : (s : List ℕ) (i : ℕ) → i + 1 < length s → drop i s ≡ get_or s i 0 ∷ get_or s (i + 1) 0 ∷ drop (i + 2) s
two s i h =
    let e : i + 1 + 1 ≡ i + 2 = omega arith in
    next s i (omega arith) ∙ ap (λ (l : List ℕ). get_or s i 0 ∷ l) (rw e at (next s (i + 1) h))

-- the bytes from i on: the one whose digits stand there, if any, then those from i + 2 on
pub hex_next : (s : List ℕ) (i : ℕ) → hex_bytes (drop i s) ≡ octet_then (octet_at s i) (hex_bytes (drop (i + 2) s))
unfolding hex_bytes
hex_next s i = go (ltb (i + 1) (length s)) refl
  where
    go : (t : Bool) → ltb (i + 1) (length s) ≡ t → hex_bytes (drop i s) ≡ octet_then (octet_at s i) (hex_bytes (drop (i + 2) s))
    go true e = ap hex_bytes (two s i (ltb-true (i + 1) (length s) e)) ∙ simp e
    go false e =
        let h : length s ≤ i + 1 = ltb-false (i + 1) (length s) e in
        short (drop i s) (simp length-drop (omega arith)) ∙ simp e

-- where a byte's digits stand at i, and where they do not
pub next_octet : (s : List ℕ) (i v : ℕ) → octet_at s i ≡ Some v → hex_bytes (drop i s) ≡ v ∷ hex_bytes (drop (i + 2) s)
next_octet s i v d = rw (hex_next s i, d)

pub no_octet : (s : List ℕ) (i : ℕ) → octet_at s i ≡ None → hex_bytes (drop i s) ≡ []
no_octet s i d = rw (hex_next s i, d)

pub ruleset octets = (next_octet, no_octet, octet_room)

-- past the end there is none
pub none_past : (s : List ℕ) (i : ℕ) → length s ≤ i → get_or s i 0 ≡ 0
none_past s i h = get_or-eq_default s 0 h

pub no_bytes_past : (s : List ℕ) (i : ℕ) → length s ≤ i → hex_bytes (drop i s) ≡ []
no_bytes_past s i h = short (drop i s) (simp length-drop (omega arith))

pub ruleset past = (none_past, no_bytes_past)

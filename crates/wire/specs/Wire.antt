-- Numbers as bytes, least significant first, and what a writer answers and leaves. Assumes nothing.
use Rattle.std.specs.Prelude.{ℕ, ◌+◌, ◌*◌, ◌/◌, ◌%◌, Bool, cond, ◌&&◌, List, [], ◌∷◌, ◌++◌, leb, length, get_or, drop, Result}
use Rattle.model.specs.Answer.{Refusal, Reply, ok, refusal, reply_of, one_value}

-- a number of 16 bits
abbrev pub le16 : ℕ → List ℕ
le16 x = x % 256 ∷ x / 256 ∷ []

-- the number at a position
abbrev pub u16_at : List ℕ → ℕ → ℕ
u16_at s at = get_or s at 0 + 256 * get_or s (at + 1) 0

-- ---- writers

-- 9 for values that are no message, 10 for a slice that is too short, or the number of bytes
abbrev pub write_reply : Result ℕ Refusal → Reply
write_reply r = reply_of one_value r

-- `form`: whether the values are of the form. 9 first, then 10; else the number of bytes written.
abbrev pub writing : Bool → List ℕ → List ℕ → Reply
writing form message out =
    cond form
    (cond (leb (length message) (length out)) (ok (length message ∷ [])) (refusal Refusal.Space))
    (refusal Refusal.Packet)

-- the message stands at the start and every byte past it is kept; on refusal all are
abbrev pub written : Bool → List ℕ → List ℕ → List ℕ
written form message out =
    cond (form && leb (length message) (length out)) (message ++ drop (length message) out) out

-- The number and values of each answer. Assumes nothing.
use Rattle.std.specs.Prelude.{ℕ, cond, List, [], ◌∷◌, ltb, length, get_or, Option as Found, None, Some}
use Rattle.std.proofs.Math.Option.{Option, none, some}
use Rattle.model.specs.Answer.{Refusal, Reply, ok, refusal}
use Rattle.completed_packets.specs.Format.{Pair}

-- ---- the reader: 9, or the number of pairs

abbrev pub completed_reply : Found ℕ → Reply
completed_reply None = refusal Refusal.Packet
completed_reply (Some n) = ok (n ∷ [])

abbrev pub count_reply : Option (List Pair) → Reply
count_reply none = refusal Refusal.Packet
count_reply (some ps) = ok (length ps ∷ [])

-- ---- the pair at i: 9 where the bytes are no such event, or where i is not below the number of pairs

abbrev pub pair_reply : Found Pair → Reply
pair_reply None = refusal Refusal.Packet
pair_reply (Some p) = ok (p.handle ∷ p.num_completed_packets ∷ [])

-- what `get_or` gives past the end
abbrev pub blank : Pair
blank = record { handle = 0; num_completed_packets = 0 }

abbrev pub pair_of : Option (List Pair) → ℕ → Reply
pair_of none i = refusal Refusal.Packet
pair_of (some ps) i =
    cond (ltb i (length ps))
    (ok ((get_or ps i blank).handle ∷ (get_or ps i blank).num_completed_packets ∷ []))
    (refusal Refusal.Packet)

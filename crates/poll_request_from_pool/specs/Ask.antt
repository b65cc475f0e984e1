-- An ask as the code decides it, over sixteen places and in bytes, and the law that in a table that is not refused with 8 it is the
-- ask of its slots. Assumes nothing.
use Rattle.std.specs.Prelude.{◌≡◌, ℕ, ◌-◌, ◌≤◌, Bool, true, ◌&&◌, nat_le, nat_lt, refl}
use Rattle.std.proofs.Common.{ap, arith, le-leb}
use Rattle.std.proofs.Math.Bool.{and-true}
use Rattle.slot.specs.declared.ConnectionStorage.{ConnectionStorage}
use Rattle.slot.specs.declared.ConnectionManager.{ConnectionManager}
use Rattle.slot.specs.declared.Located.{Located}
use Rattle.slot.specs.declared.Located.TheVariants.{Setup, Absent, At}
use Rattle.pool.specs.declared.Pool.{Pool}
use Rattle.pool.specs.Pool.{joined, may_draw}
use Rattle.pool.specs.Laws.{draws_slots}
use Rattle.model.specs.Answer.{Refusal, Local, refusal}
use Rattle.model.specs.Find.{slot_at, locate, by_live, fits}
use Rattle.model.specs.Calls.{asked_if, asked_at, settle, outcome, poll_request_from_pool}
use Rattle.model.proofs.Laws.{and_left, and_right, split, located, formed_well}
use Rattle.model.proofs.Pooled.{PoolMoved, held_each, asked_if_moved, may_free}

-- it is granted if it may be, and the slot's count of packets stays a byte
abbrev pub draws_in : ℕ → ℕ → ℕ → Pool → Bool
draws_in k i held p = (nat_lt i 16 && may_draw 16 i k (joined i p)) && nat_le k (255 - held)

abbrev pub asked_in : ℕ → ℕ → ConnectionStorage → Pool → Local
asked_in k i s p = asked_if (draws_in k i s.pool_held p) k i s p

pub asked_in_moved : (k i : ℕ) (s : ConnectionStorage) (p : Pool) → PoolMoved s p (asked_in k i s p)
asked_in_moved k i s p =
    asked_if_moved (draws_in k i s.pool_held p) k i s p
    (λ d. may_free 16 i k (joined i p) (and_right (nat_lt i 16) _ (and_left (nat_lt i 16 && may_draw 16 i k (joined i p)) _ d)))

module _ (t : ConnectionManager) (h k : ℕ) where
  -- what is free and what the slot holds are together no more than all packets, which are a byte
  draws_here : (i : ℕ) → locate (fits by_live h) t ≡ At i → draws_in k i (slot_at t i).pool_held t.pool ≡ may_draw t.count i k (joined i t.pool)
  draws_here i e =
      let l = located (fits by_live h) t i e in
      let w = formed_well t l.0 in
      let each = held_each t.connections t.count 0 i (omega arith) (omega (arith, l.1)) in
      let slots = draws_slots t.count i k t.pool w.most l.1 w.waits w.turn in
      split (may_draw t.count i k (joined i t.pool))
      (λ d.
      let free = may_free t.count i k (joined i t.pool) d in
      let byte : k ≤ 255 - (slot_at t i).pool_held = omega (arith, each, free, w.whole, w.byte) in
      rw (slots, le-leb k (255 - (slot_at t i).pool_held) byte) (and-true (may_draw t.count i k (joined i t.pool))))
      (λ d. rw (slots, d))

  pub asks : outcome (fits by_live h) (refusal Refusal.Disconnected) (λ i. asked_in k i (slot_at t i) t.pool) t ≡ poll_request_from_pool h k t
  asks = by_found (locate (fits by_live h) t) refl
    where
      by_found : (f : Located) → locate (fits by_live h) t ≡ f
          → settle (refusal Refusal.Disconnected) (λ i. asked_in k i (slot_at t i) t.pool) t f
          ≡ settle (refusal Refusal.Disconnected) (λ i. asked_at t.count k i (slot_at t i) t.pool) t f
      by_found Setup e = refl
      by_found Absent e = refl
      by_found (At i) e =
          ap (λ (b : Bool). settle (refusal Refusal.Disconnected) (λ j. asked_if b k i (slot_at t i) t.pool) t (At i)) (draws_here i e)

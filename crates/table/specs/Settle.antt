-- A call is a search, what it does with what was found, and the slot put back: the law that every call's proof cites.
-- Assumes nothing.
use Rattle.std.specs.Prelude.{ℕ, ◌-◌, ◌≤◌, ◌≡◌, refl, true, cond, ◌&&◌, ltb}
use Rattle.std.proofs.Common.{sym, ap, ◌∙◌, arith, lt-ltb, le-leb}
use Rattle.slot.specs.declared.ConnectionStorage.{ConnectionStorage}
use Rattle.slot.specs.declared.ConnectionManager.{ConnectionManager}
use Rattle.slot.specs.declared.Located.{Located}
use Rattle.slot.specs.declared.Located.TheVariants.{Setup, Absent, At}
use Rattle.pool.specs.declared.Pool.{Pool}
use Rattle.pool.specs.declared.Share.{Share}
use Rattle.pool.specs.declared.Share.TheVariants.{Untouched, Waits, Draws, GivesBack, Closes}
use Rattle.pool.specs.Shared.{shared}
use Rattle.pool.specs.Code.{within, shared_in}
use Rattle.model.specs.Answer.{Reply, Local, Outcome}
use Rattle.model.specs.Find.{Test, slot_at, locate}
use Rattle.model.specs.Calls.{put_with, settle, outcome}
use Rattle.model.proofs.Laws.{either, put_same, located, formed_well}
use Rattle.model.proofs.Pooled.{Moved, held_each}
use Rattle.search.specs.declared.Found.{Found}
use Rattle.search.specs.Found.{place_of, found}
use Rattle.search.specs.Search.{place_below}
use Rattle.table.specs.Resolve.{resolve, resolved, put_shared}

module _ (test : Test) (none : Reply) (at : ℕ → ConnectionStorage → Local) (t : ConnectionManager) where
  abbrev answer : Local → ConnectionManager → Outcome
  answer l u = record { reply = l.reply; woken = l.woken; table = u }

  abbrev after : Located → Local
  after f = resolve none at f (slot_at t (place_of f))

  -- the slot put back at i, and what the call does to the pool
  abbrev back : ℕ → Local → ConnectionManager
  back i l = put_with t i l.slot (shared i l.share t.pool)

  -- the slot that stands in where nothing was found goes back as it was
  stored : (f : Located) → answer (after f) (back (place_of f) (after f)) ≡ settle none (λ i. at i (slot_at t i)) t f
  stored Setup = ap (answer (after Setup)) (put_same t 0)
  stored Absent = ap (answer (after Absent)) (put_same t 0)
  stored (At i) = refl

  -- from what the search, the call's work on the slot and the putting back ensure
  pub stores : {f : Found} → f ≡ found test t → {l : Local} → l ≡ resolved none at f
      → {u : ConnectionManager} → u ≡ put_with t f.index l.slot (shared f.index l.share t.pool)
      → answer l u ≡ outcome test none (λ i. at i (slot_at t i)) t
  stores {f} p {l} q {u} r =
      ap (answer l) r
      ∙ ap (λ (k : Local). answer k (back f.index k)) q
      ∙ ap (λ (g : Found). answer (resolved none at g) (back g.index (resolved none at g))) p
      ∙ stored (locate test t)

  -- at the place that a search gave, the slot is put back
  abbrev here : ConnectionManager → ℕ → ConnectionManager
  here u i = cond (ltb i t.count && ltb i 16) u t

  stands : (f : Located) → locate test t ≡ f → here (back (place_of f) (after f)) (place_of f) ≡ back (place_of f) (after f)
  stands Setup e =
      either (λ (u : ConnectionManager). u ≡ back 0 (after Setup)) (ltb 0 t.count && ltb 0 16) _ _ refl (sym (put_same t 0))
  stands Absent e =
      either (λ (u : ConnectionManager). u ≡ back 0 (after Absent)) (ltb 0 t.count && ltb 0 16) _ _ refl (sym (put_same t 0))
  stands (At i) e = rw (lt-ltb i t.count (located test t i e).1, lt-ltb i 16 (place_below test t (At i) e))

  pub settles : {f : Found} → f ≡ found test t → {l : Local} → l ≡ resolved none at f
      → {u : ConnectionManager} → u ≡ here (back f.index l) f.index
      → answer l u ≡ outcome test none (λ i. at i (slot_at t i)) t
  settles {f} p {l} q r = stores p q (r ∙ rw (q, p) (stands (locate test t) refl))

  -- where no more is drawn than is free, and no more given back than the slot holds, the code does to the pool what it should
  module _ (moves : (i : ℕ) (s : ConnectionStorage) → Moved (at i s).share t.pool.free s.pool_held (at i s).slot.pool_held) where
    room : (i : ℕ) → locate test t ≡ At i → (n : ℕ) → n ≤ (slot_at t i).pool_held → n ≤ 255 - t.pool.free
    room i e n h =
        let l = located test t i e in
        let w = formed_well t l.0 in
        omega (arith, held_each t.connections t.count 0 i (omega arith) (omega (arith, l.1)), w.whole, w.byte)

    in_bounds : (i : ℕ) → locate test t ≡ At i → (x : Share) (h : ℕ) → Moved x t.pool.free (slot_at t i).pool_held h
        → within x t.pool ≡ true
    in_bounds i e Untouched h m = refl
    in_bounds i e Waits h m = refl
    in_bounds i e (Draws n) h m = le-leb n t.pool.free m.0
    in_bounds i e (GivesBack n) h m = le-leb n (255 - t.pool.free) (room i e n (omega arith))
    in_bounds i e (Closes n) h m = le-leb n (255 - t.pool.free) (room i e n (omega (arith, m.0)))

    shares : (f : Located) → locate test t ≡ f
        → shared_in (place_of f) (after f).share t.pool ≡ shared (place_of f) (after f).share t.pool
    shares Setup e = refl
    shares Absent e = refl
    shares (At i) e =
        rw (lt-ltb i 16 (place_below test t (At i) e), in_bounds i e (at i (slot_at t i)).share _ (moves i (slot_at t i)))

    pub shared_found : {f : Found} → f ≡ found test t → {l : Local} → l ≡ resolved none at f
        → shared_in f.index l.share t.pool ≡ shared f.index l.share t.pool
    shared_found p q = rw (q, p) (shares (locate test t) refl)

    -- a call that touches the pool
    pub settles_shared : {f : Found} → f ≡ found test t → {l : Local} → l ≡ resolved none at f
        → {u : ConnectionManager} → u ≡ put_shared t f.index l.slot l.share
        → answer l u ≡ outcome test none (λ i. at i (slot_at t i)) t
    settles_shared {f} p {l} q r =
        settles p q (r ∙ ap (λ (k : Pool). here (put_with t f.index l.slot k) f.index) (shared_found p q))

  -- a call that only looks leaves the table out
  pub looks : {f : Found} → f ≡ found test t → {l : Local} → l ≡ resolved none at f
      → ((i : ℕ) (s : ConnectionStorage) → ((at i s).slot ≡ s) × ((at i s).share ≡ Untouched))
      → answer l t ≡ outcome test none (λ i. at i (slot_at t i)) t
  looks {f} p {l} q k =
      ap (λ (m : Local). answer m t) (q ∙ ap (resolved none at) p) ∙ by_cases (locate test t)
    where
      by_cases : (g : Located) → answer (resolve none at g (slot_at t (place_of g))) t ≡ settle none (λ i. at i (slot_at t i)) t g
      by_cases Setup = refl
      by_cases Absent = refl
      by_cases (At i) =
          ap (answer (at i (slot_at t i))) (sym (put_same t i) ∙ rw ((k i (slot_at t i)).0, (k i (slot_at t i)).1))

-- A slot put back that a test does not tell from the one before: the table is well formed as before, and a search finds what it found.
-- Assumes nothing.
use Prim.Native.Nat.{ℕ, zero, suc, ◌+◌, ◌-◌, ◌^◌, ◌<◌, ◌≤◌}
use Rattle.std.proofs.Math.Path.{◌≡◌, refl}
use Rattle.std.proofs.Common.{ap, ◌∙◌, get_or-set_same, get_or-set_other}
use Rattle.std.specs.Prelude.{◌≢◌, Bool, ◌&&◌, List, get_or, length, ltb, eqb}
use Rattle.std.proofs.Math.Bool.{true, false, cond}
use Rattle.std.proofs.lemmas.Bool.{false≢true}
use native.Mathlib.Omega.{arith}
use Rattle.std.proofs.lemmas.List.{set-get_or}
use Rattle.std.proofs.Math.Seq.{set_out}
use Rattle.std.proofs.Math.Dec.{leb}
use borrow.Author.Tests.{leb-true, leb-false, le-leb, eqb-true, eqb-false, eq-eqb, ltb-true, lt-ltb}
use Rattle.slot.specs.declared.ConnectionStorage.{ConnectionStorage}
use Rattle.slot.specs.declared.ConnectionManager.{ConnectionManager}
use Rattle.slot.specs.declared.Located.{Located}
use Rattle.slot.specs.declared.Located.TheVariants.{Setup, Absent, At}
use Rattle.slot.specs.Fresh.{blank_slot}
use Rattle.slot.specs.Set.{set_connections}
use Rattle.model.specs.Find.{Test, slot_at, slot_ok, slots_ok, held_by, well_formed, lowest, locate}
use Rattle.model.specs.Calls.{put}
use Rattle.model.proofs.Laws.{split}

module _ (t : ConnectionManager) (i : ℕ) (s : ConnectionStorage) where
  -- what is the same of both is the same of every slot
  pub put_alike : {X : Type 0} (P : ConnectionStorage → X) → P s ≡ P (slot_at t i) → (j : ℕ) → P (slot_at (put t i s) j) ≡ P (slot_at t j)
  put_alike P p j =
      split (leb (length t.connections) i)
      (λ f. ap (λ (ss : List ConnectionStorage). P (get_or ss j blank_slot)) (set_out t.connections i s (leb-true _ _ f)))
      (λ f.
      split (eqb j i)
      (λ g.
      rw (
        eqb-true j i g,
        get_or-set_same t.connections i s blank_slot (omega (arith, leb-false (length t.connections) i f)),
      )
      p)
      (λ g. rw (get_or-set_other t.connections i j s blank_slot (eqb-false j i g))))

  lowest_alike : (test : Test) → ((j : ℕ) → test j s ≡ test j (slot_at t i))
      → (n j : ℕ) → lowest test (put t i s).connections n j ≡ lowest test t.connections n j
  unfolding lowest
  lowest_alike test p zero j = refl
  lowest_alike test p (suc n) j = rw (put_alike (test j) (p j) j, lowest_alike test p n (j + 1))

  oks_alike : slot_ok s ≡ slot_ok (slot_at t i) → (n j : ℕ) → slots_ok (put t i s).connections n j ≡ slots_ok t.connections n j
  unfolding slots_ok
  oks_alike p zero j = refl
  oks_alike p (suc n) j = rw (put_alike slot_ok p j, oks_alike p n (j + 1))

  held_alike : s.pool_held ≡ (slot_at t i).pool_held
      → (n j : ℕ) → held_by (put t i s).connections n j ≡ held_by t.connections n j
  unfolding held_by
  held_alike p zero j = refl
  held_alike p (suc n) j = rw (put_alike (λ u. u.pool_held) p j, held_alike p n (j + 1))

  formed_alike : slot_ok s ≡ slot_ok (slot_at t i) → s.pool_held ≡ (slot_at t i).pool_held → well_formed (put t i s) ≡ well_formed t
  unfolding well_formed
  formed_alike p h = rw (oks_alike p t.count 0, held_alike h t.count 0)

  -- the search finds what it found
  pub locate_alike : slot_ok s ≡ slot_ok (slot_at t i) → s.pool_held ≡ (slot_at t i).pool_held
      → (test : Test) → ((j : ℕ) → test j s ≡ test j (slot_at t i)) → locate test (put t i s) ≡ locate test t
  unfolding locate
  locate_alike p h test q = rw (formed_alike p h, lowest_alike test q t.count 0)

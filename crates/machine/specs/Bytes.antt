-- What `Returns` says of a function of values and a lent slice of bytes to a value: from the memory in which the bytes are, whatever
-- they are, its routine ends, with the value of a result of which the contract's fact holds. Assumes nothing.
use Rattle.std.specs.Prelude.{ℕ, ◌+◌, ◌≡◌, refl, List, [], ◌∷◌, length}
use Rattle.std.proofs.Math.Logic.{∥∥₁_map}
use base.Fraction.{full_share}
use base.Logic.{SProp, ent, sep, ex, emp, id⊢, via, mono∗, mono_l, fst∗, emp∗, comm∗, guard_i}
use base.Fml.{Lft, Incl-refl}
use types.Logic.{sem}
use mir.Syntax.{named, w8}
use prog.Memory.{Memory}
use prog.Wp.{run}
use prog.Model.{AllFit}
use prog.AdequacyRun.{start_mem}
use prog.Routine.{Routine}
use ghost.Model.{𝓤, H, A}
use contract.BorrowModel.{logic₀}
use contract.Closed.{model⁺}
use contract.Lifetimes.{Lfts}
use contract.Adequate.{Satisfies, sat_weaken, sat_⇛, sat_ex∗, start_Satisfies}
use types.Share.{parts, arr_parts}
use denote.RattleType.{RattleType, Denots, Valss}
use denote.Builtin.{u8, SliceRefOf}
use denote.Memory.{mem, shares}
use denote.Plain.{uint_in}
use denote.Lend.{lends_shr_slice}
use denote.Copied.{uint_Copied}
use denote.Slice.{Room, ShrSlice, slice_val}
use denote.Signature.{Slot, Signature, plain, types_at}
use denote.Triple.Bound.{Bound}
use Rattle.machine.specs.Returns.{Contract}
use Rattle.machine.specs.Values.{Handed, slots, args, vals, beside}

-- bytes in memory are elements of a slice
elements : (xs : List ℕ) (o : ℕ) → ent 𝓤 (run 𝓤 H full_share w8 0 o xs) (sem logic₀ (parts (mem u8) (shares u8) full_share xs 0 o))
elements [] o = id⊢ 𝓤 (emp 𝓤)
elements (x ∷ xs) o = mono∗ 𝓤 (uint_in logic₀ full_share w8 x 0 o) (elements xs (o + 1))

-- ---- the bytes lent: a lifetime is made, and they are lent for it

abbrev pub slice : ℕ → List ℕ → SProp 𝓤
slice α xs = sem logic₀ ((ShrSlice (named 0) (α ∷ []) u8).own_val (record { ref_ptr = (0, 0); now = xs }) (slice_val (0, 0) (length xs) ∷ []))

pub lent : (xs : List ℕ) → AllFit w8 xs → Room u8 (length xs)
    → ∥ ((α : ℕ) × Satisfies 𝓤 H model⁺ (start_mem xs []) (sep 𝓤 (A.lft (α ∷ []) full_share) (slice α xs))) ∥₁
lent xs fits room =
    let σ : Memory = start_mem xs [] in
    let bytes : SProp 𝓤 = run 𝓤 H full_share w8 0 0 xs in
    let rest : SProp 𝓤 = run 𝓤 H full_share w8 1 0 [] in
    let part : SProp 𝓤 = sem logic₀ ((arr_parts (shares u8) (length xs)).part full_share xs 0 0) in
    let life : ℕ → SProp 𝓤 = λ α. A.lft (α ∷ []) full_share in
    let made : ent 𝓤 bytes part = via 𝓤 (sep 𝓤 (emp 𝓤) bytes) (emp∗ 𝓤 bytes) (mono∗ 𝓤 (guard_i 𝓤 (length xs ≡ length xs) (emp 𝓤) refl) (elements xs 0)) in
    let begun : ent 𝓤 (sep 𝓤 bytes rest) (sep 𝓤 (H.⇛ (ex 𝓤 life)) part) =
    via 𝓤 bytes (fst∗ 𝓤 bytes rest) (via 𝓤 part made (via 𝓤 (sep 𝓤 (emp 𝓤) part) (emp∗ 𝓤 part) (mono_l 𝓤 part logic₀.lfts.lft_new))) in
    ∥∥₁_map (sat_ex∗ 𝓤 H model⁺ σ life part (sat_⇛ 𝓤 H model⁺ σ (ex 𝓤 life) part (sat_weaken 𝓤 H model⁺ σ begun (start_Satisfies 𝓤 H model⁺ xs [] fits tt)))) (λ t.
    let α : ℕ = t.0 in
    let κ : Lft = α ∷ [] in
    let back : SProp 𝓤 = A.lent κ ((arr_parts (shares u8) (length xs)).part full_share xs 0 0) in
    let shared : SProp 𝓤 = sep 𝓤 (sep 𝓤 (slice α xs) back) (life α) in
    let lends : ent 𝓤 (sep 𝓤 (life α) part) (sep 𝓤 (H.⇛ shared) (emp 𝓤)) =
    via 𝓤 (sep 𝓤 part (life α)) (comm∗ 𝓤 (life α) part)
    (via 𝓤 (H.⇛ shared) (lends_shr_slice logic₀ u8 (named 0) κ full_share xs 0 0 room κ ((uint_Copied logic₀ w8).shares full_share κ) ((κ, full_share) ∷ []) (Incl-refl κ) (Incl-refl κ))
    (beside (H.⇛ shared))) in (
      α,
      sat_weaken 𝓤 H model⁺ σ
          (via 𝓤 shared (fst∗ 𝓤 shared (emp 𝓤))
          (via 𝓤 (sep 𝓤 (slice α xs) (life α)) (mono_l 𝓤 (life α) (fst∗ 𝓤 (slice α xs) back)) (comm∗ 𝓤 (slice α xs) (life α))))
          (sat_⇛ 𝓤 H model⁺ σ shared (emp 𝓤) (sat_weaken 𝓤 H model⁺ σ lends t.1)),
    ))

-- ---- a function of values and the bytes

module _ (Ps : List RattleType) (R : RattleType) where
  abbrev pub bytes : List (Slot 1)
  bytes = SliceRefOf (0 ∷ []) tt (plain (λ κs. u8)) (λ κs. tt) ∷ []

  abbrev pub values_and_bytes : Signature
  values_and_bytes = record { lifetimes = 1; outlives = []; params = slots bytes Ps; result = plain (λ κs. R) }

  module _ (c : Contract values_and_bytes) (ρ : Routine) (h : Handed Ps) (xs : List ℕ) where
    -- the arguments: the values, and the slice for a lifetime α
    module _ (α : ℕ) where
      abbrev pub bound : Bound logic₀ values_and_bytes
      bound =
          let κs : Lfts 1 = (α ∷ [], tt) in
          let s : Denots (types_at bytes κs) = (record { ref_ptr = (0, 0); now = xs }, tt) in
          let v : Valss (types_at bytes κs) = (slice_val (0, 0) (length xs) ∷ [], tt) in
          (κs, (full_share, tt), tt, args bytes κs s v Ps h, vals bytes κs s v Ps h)

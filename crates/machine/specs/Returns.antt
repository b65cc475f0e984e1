-- What the checker's theorem about a function says of the machine: on every argument that the function's types hold, from every
-- memory in which the arguments are, its routine ends, and as its contract says.
--
-- A routine is what the machine does on a call: `step r n vs σ` runs it, with no other thread beside it, on the values vs from the
-- memory σ and gives `done` with the value returned and the memory after it, `stuck` where the run comes to something undefined (a
-- sum or cast that does not fit, a load or store outside its block), `timeout` where n turns of a loop, or n calls inside each
-- other, were not enough, or `ask` where it ends the process (prog.Machine).
-- A function is a name, with its code and the code of all that it names (prog.Wired). An environment says which routine each name
-- means, and `Wired γ code` says that in γ each of those names means the machine's run of its code.
-- Assumes nothing.
use Rattle.std.specs.Prelude.{ℕ, ◌≡◌}
use mathlib.Core.Bool.{true}
use Rattle.std.proofs.Common.{subst}
use Rattle.std.proofs.Math.Logic.{∥∥₁_prop, ∥∥₁_elim, ∥∥₁_map}
use seplogic.Ra.Ura.{Ura}
use base.Logic.{SProp, ent, sep, ex, emp, via, mono_l, emp∗, comm∗}
use mir.Syntax.{Callee, Symbol}
use mir.Val.{Val}
use prog.Memory.{Memory}
use prog.Machine.{done}
use prog.Model.{Model}
use prog.Routine.{Routine, Env, step}
use prog.Wired.{Code, Wired}
use prog.Linked.{Entry}
use prog.LinkedThreads.{HasT, has-wired_t, tie_t, tie_t-follows, tie_t-threads}
use ghost.Model.{Res as Resource, 𝓤, H}
use types.Logic.{Logic}
use contract.Monad.{Fun}
use contract.Lifetimes.{Lfts}
use contract.Running.{Running, tables, within}
use contract.BorrowModel.{logic₀}
use contract.Closed.{model⁺, real⁺, real⁺_strict}
use contract.Adequate.{Satisfies, sat_weaken, sat_⇛, sat_ex∗}
use denote.Signature.{Signature}
use denote.Triple.Entry.{Args, Res, on_entry}
use denote.Triple.Bound.{Bound, passed}
use denote.Triple.Spec.{Spec, Meets, Back, triple_of}
use denote.Triple.Adequate.{adequate}

-- a function's contract as the checker has it: for every model of the logic
abbrev pub Contract : Signature → Type 2
Contract S = (𝓤' : Ura Resource) (𝓛' : Logic 𝓤') → (Memory → SProp 𝓤') → (Routine → Fun 𝓤') → Spec 𝓤' S

-- its theorem: where the function's code is, the routine that its name means meets the contract, in every model. It is the type
-- `statement` of the function's module `Statement`.
abbrev pub Theorem : (S : Signature) → Contract S → Code → Callee → Type 2
Theorem S c code f =
    (𝓤' : Ura Resource) (𝓛' : Logic 𝓤') (𝓜 : Model 𝓤' 𝓛'.H) (𝓡 : Running 𝓤' 𝓛'.H 𝓜) → Wired 𝓡.env code
    → Meets 𝓛' S (𝓡.run (𝓡.env f)) (c 𝓤' 𝓛' 𝓜.mem 𝓡.returns)

module _ (S : Signature) (c : Contract S) where
  -- the contract in the model that the machine has
  abbrev pub clauses : Spec 𝓤 S
  clauses = c 𝓤 logic₀ model⁺.mem real⁺.returns

  -- it has no `requires`
  abbrev pub AsksNothing : Type 2
  AsksNothing = (κs : Lfts S.lifetimes) (a : Args S κs) → (g : (clauses κs a).ghost) × (emp 𝓤 ≡ (clauses κs a).requires g)

  -- in the memory σ there is what the arguments own, and F beside it. A value owns nothing: then this says only that the machine's
  -- values are those of the arguments, and that these are values of their types (`Values.antt`).
  abbrev pub Before : Bound logic₀ S → Memory → SProp 𝓤 → Type 1
  Before x σ F = Satisfies 𝓤 H model⁺ σ (sep 𝓤 (on_entry logic₀ S x.0 x.1 x.3 x.4) F)

  -- in the memory σ there is what the value v of the result r owns, with what the contract ensures of r; and F as it was
  abbrev pub After : (x : Bound logic₀ S) → Val → Memory → SProp 𝓤 → Type 1
  After x v σ F =
      (g : (clauses x.0 x.3).ghost) × (r : Res S x.0)
      × Satisfies 𝓤 H model⁺ σ (sep 𝓤 (sep 𝓤 (Back logic₀ S x v r) ((clauses x.0 x.3).ensures g r)) F)

-- the routine ends, on every argument and from every memory
pub record Returns (S : Signature) (c : Contract S) (ρ : Routine) : Type 2 where
  pub on_every : (x : Bound logic₀ S) (σ : Memory) (F : SProp 𝓤) → Before S c x σ F
      → ∥ ((n : ℕ) × (v : Val) × (σ' : Memory) × (step ρ n (passed logic₀ S x) σ ≡ done (v, σ')) × After S c x v σ' F) ∥₁

-- of a function: the routine that its name means does so, in every environment that has its code
abbrev pub Everywhere : (S : Signature) → Contract S → Code → Callee → Type 2
Everywhere S c code f = (γ : Env) → Wired γ code → Returns S c (γ f)

-- a theorem of the checker says it, where the contract has no `requires`
pub returns : {S : Signature} {c : Contract S} (code : Code) {f : Callee} → AsksNothing S c → Theorem S c code f
    → Everywhere S c code f
returns {S} {c} code {f} none met γ wired =
    let 𝓡 : Running 𝓤 H model⁺ = within 𝓤 H model⁺ real⁺ γ in
    record {
      on_every = λ x σ F before.
          let g : (clauses S c x.0 x.3).ghost = (none x.0 x.3).0 in
          let here : SProp 𝓤 = on_entry logic₀ S x.0 x.1 x.3 x.4 in
          let asked : ent 𝓤 here (sep 𝓤 here ((clauses S c x.0 x.3).requires g)) =
          subst (λ (P : SProp 𝓤). ent 𝓤 here (sep 𝓤 here P)) (none x.0 x.3).1 (via 𝓤 (sep 𝓤 (emp 𝓤) here) (emp∗ 𝓤 here) (comm∗ 𝓤 (emp 𝓤) here)) in
          let left : Val → Res S x.0 → SProp 𝓤 = λ v r. sep 𝓤 (Back logic₀ S x v r) ((clauses S c x.0 x.3).ensures g r) in
          ∥∥₁_elim
          (adequate 𝓤 H model⁺ (tables 𝓤 H model⁺ 𝓡 γ) real⁺_strict f (triple_of logic₀ S (clauses S c))
          (met 𝓤 logic₀ model⁺ 𝓡 wired) (x, g) σ F (sat_weaken 𝓤 H model⁺ σ (mono_l 𝓤 F asked) before))
          ∥∥₁_prop
          (λ t.
          ∥∥₁_map (sat_ex∗ 𝓤 H model⁺ t.2 (left t.1) F (sat_⇛ 𝓤 H model⁺ t.2 (ex 𝓤 (left t.1)) F t.4))
          (λ u. (t.0, t.1, t.2, t.3, (g, u.0, u.1))));
    }

-- a program says what each symbol stands for, and `tie_t` is the machine's run of it. Where it has the function's code, it is such
-- an environment.
pub in_program : (look : Symbol → Entry) (code : Code) → HasT look true code → Wired (tie_t look) code
in_program look code has = has-wired_t look (tie_t look) (tie_t-follows look) (tie_t-threads look) code has

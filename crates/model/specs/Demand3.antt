-- Demand 3: nobody who works one link can be affected by how other links' calls fall between theirs.
--
-- "Take any table reached from a fresh one, no two of its open links with the same handle; any of those links; and for each
-- of them any list of per-link calls (named in 01), refused ones included. Start from that table. Each call gets the table
-- that the last one returned, and nobody else writes it meanwhile. Then for every shuffle that keeps each list's own order,
-- each call has exactly the answer that it gets when its list runs alone from that table. These answers, and the whole table
-- at the end, are those of running whole lists one after another, in every order of the lists."
--
-- This file is the statement, `Demand3`. It is proved in the crate `model_theorems`. Assumes nothing.
use Rattle.std.specs.Prelude.{ℕ, ◌<◌, ◌≡◌, ◌≢◌, true, cond, eqb}
use mathlib.Core.List.{List, [], ◌∷◌, ◌++◌, map, Memᴰ}
use Rattle.slot.specs.declared.ConnectionManager.{ConnectionManager}
use Rattle.slot.specs.declared.Woken.{Woken}
use Rattle.state.specs.State.{is_open}
use Rattle.model.specs.Answer.{Reply, Outcome}
use Rattle.model.specs.Find.{slot_at, Way, by_index, by_live, by_connected, by_open}
use Rattle.model.specs.Link.{Op, way_of}
use Rattle.model.specs.Calls.{Call, on_link, run}
use Rattle.model.specs.History.{Reached}

-- document 01's "link": a slot open in the table at the start, known by its index
abbrev pub Link : ConnectionManager → ℕ → Type 0
Link start i = (i < start.count) × (is_open (slot_at start i).state ≡ true)

-- no two open links have the same handle
abbrev pub OwnHandles : ConnectionManager → Type 0
OwnHandles start = (i j : ℕ) → Link start i → Link start j → (slot_at start i).handle ≡ (slot_at start j).handle → i ≡ j

-- the index or handle by which a call of link i goes: those that the link has in the table at the start stay its own
abbrev pub own_number : Way → ConnectionManager → ℕ → ℕ
own_number by_index start i = i
own_number by_live start i = (slot_at start i).handle
own_number by_connected start i = (slot_at start i).handle
own_number by_open start i = (slot_at start i).handle

-- any per-link call, made for link i; its other arguments are free. (The end of a lock, a grant or a ticket is at the link's own
-- index; the life and the handle that it carries are free, so stale ends are covered, whatever handle they carry.)
abbrev pub call_of : ConnectionManager → ℕ × Op → Call
call_of start (i, op) = on_link op (own_number (way_of op) start i)

-- ---- a trace: calls of several links, each with its link

abbrev pub Trace : Type 0
Trace = List (ℕ × Op)

-- what belongs to link i, in order: of a trace its calls, of the answers its answers
abbrev pub of_link : {X : Type 0} → ℕ → List (ℕ × X) → List X
of_link i [] = []
of_link i (e ∷ es) = cond (eqb i e.0) (e.1 ∷ of_link i es) (of_link i es)

-- a call's whole answer: number, values, and who is woken
abbrev pub Answer : Type 0
Answer = Reply × Woken

abbrev pub answer_of : Outcome → Answer
answer_of o = (o.reply, o.woken)

-- each call is given the table t that the last one returned; its answer stands beside its link
abbrev pub answers_from : ConnectionManager → Trace → ConnectionManager → List (ℕ × Answer)
answers_from start [] t = []
answers_from start (e ∷ es) t =
    (e.0, answer_of (run (call_of start e) t)) ∷ answers_from start es (run (call_of start e) t).table

abbrev pub table_from : ConnectionManager → Trace → ConnectionManager → ConnectionManager
table_from start [] t = t
table_from start (e ∷ es) t = table_from start es (run (call_of start e) t).table

-- run from the start
abbrev pub answers : ConnectionManager → Trace → List (ℕ × Answer)
answers start es = answers_from start es start

abbrev pub end_table : ConnectionManager → Trace → ConnectionManager
end_table start es = table_from start es start

-- ---- the lists: one for each link, which may be empty

abbrev pub Lists : Type 0
Lists = ℕ → List Op

-- only links have calls
abbrev pub OnLinks : ConnectionManager → Lists → Type 0
OnLinks start lists = (i : ℕ) → lists i ≢ [] → Link start i

-- the list of link i, alone
abbrev pub alone : Lists → ℕ → Trace
alone lists i = map (λ op. (i, op)) (lists i)

-- a trace whose calls of each link, in order, are that link's list
abbrev pub Shuffle : Lists → Trace → Type 0
Shuffle lists trace = (i : ℕ) → of_link i trace ≡ lists i

-- whole lists, one after another
abbrev pub in_turn : Lists → List ℕ → Trace
in_turn lists [] = []
in_turn lists (i ∷ is) = alone lists i ++ in_turn lists is

-- an order of the lists: no link twice, and each link that has a call
abbrev pub Distinct : List ℕ → Type 0
Distinct [] = Unit {0}
Distinct (i ∷ is) = (Memᴰ i is → ⊥) × Distinct is

abbrev pub Order : Lists → List ℕ → Type 0
Order lists links = Distinct links × ((i : ℕ) → lists i ≢ [] → Memᴰ i links)

-- ---- the demand

unfoldable pub Demand3 : Type 0
Demand3 =
    (start : ConnectionManager) → Reached start → OwnHandles start
    → (lists : Lists) → OnLinks start lists
    → (trace : Trace) → Shuffle lists trace
    -- each call has exactly the answer that it gets when its list runs alone
    → ((i : ℕ) → of_link i (answers start trace) ≡ of_link i (answers start (alone lists i)))
    -- these answers, and the whole table at the end, are those of whole lists one after another, in every order
    × ((links : List ℕ) → Order lists links
    → ((i : ℕ) → of_link i (answers start trace) ≡ of_link i (answers start (in_turn lists links)))
    × (end_table start trace ≡ end_table start (in_turn lists links)))

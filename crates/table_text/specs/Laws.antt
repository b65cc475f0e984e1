-- The number that `total_lost` answers: what `lost` goes by. Assumes nothing.
use Rattle.std.specs.Prelude.{ℕ, ◌≡◌, refl, Bool, true, false, cond, [], ◌∷◌, length, get_or, Result, Ok, Err}
use Rattle.std.proofs.Common.{ap, ◌∙◌, arith}
use Rattle.slot.specs.declared.ConnectionManager.{ConnectionManager}
use Rattle.model.specs.Answer.{Refusal, Reply, Outcome, ok, refusal, unmoved, reply_of, one_value}
use Rattle.model.specs.Find.{well_formed}
use Rattle.model.specs.Calls.{lost_in, total_lost}
use Rattle.table.specs.declared.Look.{Look}
use Rattle.table.specs.Answer.{look_of}
use Rattle.table_text.specs.Table.{lost_number}

-- the number in the answer, 0 for a refusal
abbrev pub number_in : Result ℕ Refusal → ℕ
number_in (Ok n) = n
number_in (Err r) = 0

by_check : (b : Bool) (a : Result ℕ Refusal) (n : ℕ) → reply_of one_value a ≡ cond b (ok (n ∷ [])) (refusal Refusal.Setup)
    → number_in a ≡ cond b n 0
by_check true (Ok m) n e = ap (λ (r : Reply). get_or r.values 0 0) e
by_check true (Err r) n e = let z : ◌≡◌ {A = ℕ} 0 1 = ap (λ (r : Reply). length r.values) e in absurd (omega arith)
by_check false (Ok m) n e = let z : ◌≡◌ {A = ℕ} 0 8 = ap (λ (r : Reply). r.number) e in absurd (omega arith)
by_check false (Err r) n e = refl

by_case : (b : Bool) (x y : Outcome) → (cond b x y).reply ≡ cond b x.reply y.reply
by_case true x y = refl
by_case false x y = refl

pub lost_answer : (t : ConnectionManager) (r : Look ℕ) → look_of one_value r t ≡ total_lost t → number_in r.answer ≡ lost_number t
lost_answer t r e =
    by_check (well_formed t) r.answer (lost_in t)
    (ap (λ (o : Outcome). o.reply) e
    ∙ by_case (well_formed t) (unmoved (ok (lost_in t ∷ [])) t) (unmoved (refusal Refusal.Setup) t))

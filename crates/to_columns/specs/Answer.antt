-- The number and values of an answer: of the bytes that were written. Assumes nothing.
use Rattle.std.specs.Prelude.{ℕ, Result, Ok, Err, [], ◌∷◌}
use Rattle.model.specs.Answer.{Refusal, Reply, ok, refusal}

abbrev pub to_columns_reply : Result ℕ Refusal → Reply
to_columns_reply (Ok n) = ok (n ∷ [])
to_columns_reply (Err r) = refusal r

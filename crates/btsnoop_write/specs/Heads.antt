-- The lengths, drops and timestamps of events, each as a list. Assumes nothing.
use Rattle.std.specs.Prelude.{ℕ, List, [], ◌∷◌, map}
use Rattle.btsnoop_write.specs.declared.EventHead.{EventHead}

abbrev pub lengths : List EventHead → List ℕ
lengths hs = map (λ (h : EventHead). h.length) hs

abbrev pub drops : List EventHead → List ℕ
drops hs = map (λ (h : EventHead). h.drops) hs

abbrev pub timestamps : List EventHead → List ℕ
timestamps hs = map (λ (h : EventHead). h.timestamp) hs

-- the heads of three lists
unfoldable pub headed : List ℕ → List ℕ → List ℕ → List EventHead
headed (n ∷ ns) (d ∷ ds) (t ∷ ts) = record { length = n; drops = d; timestamp = t } ∷ headed ns ds ts
headed [] ds ts = []
headed (n ∷ ns) [] ts = []
headed (n ∷ ns) (d ∷ ds) [] = []

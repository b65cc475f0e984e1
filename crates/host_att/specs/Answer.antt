-- The values of what an ATT message gives. Assumes nothing.
use Rattle.std.specs.Prelude.{ℕ, List, [], ◌∷◌}
use Rattle.host_att.specs.declared.AttGives.{AttGives}
use Rattle.host_att.specs.declared.AttGives.TheVariants as gives

-- an indication has its opcode too, so that no two answers are the same
abbrev pub att_gives_values : AttGives → List ℕ
att_gives_values (gives.Mtu m) = m ∷ []
att_gives_values gives.Done = []
att_gives_values (gives.HandleValueInd attribute) = 0x1D ∷ attribute ∷ []

-- The number of a role, as HCI has it. Assumes nothing.
use Rattle.std.specs.Prelude.{ℕ}
use Rattle.slot.specs.declared.LeConnRole.{LeConnRole}
use Rattle.slot.specs.declared.LeConnRole.TheVariants as role

abbrev pub role_value : LeConnRole → ℕ
role_value role.Central = 0
role_value role.Peripheral = 1

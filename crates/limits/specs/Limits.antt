-- "each field has a smallest and a largest value" (document 01, Messages). Assumes nothing.
use Rattle.std.specs.Prelude.{ℕ, Bool, ◌&&◌, leb}
use Rattle.limits.specs.declared.Field.{Field}
use Rattle.limits.specs.declared.Limits.{Limits}
use Rattle.limits.specs.declared.Field.TheVariants.{Handle, Role, AddrKind, ConnInterval, PeripheralLatency, SupervisionTimeout, ClockAccuracy, RawHandle, Pairs, ValueLen}

abbrev pub low : Field → ℕ
low Handle = 0
low Role = 0
low AddrKind = 0
low ConnInterval = 6
low PeripheralLatency = 0
low SupervisionTimeout = 10
low ClockAccuracy = 0
low RawHandle = 0
low Pairs = 0
low ValueLen = 0

abbrev pub high : Field → ℕ
high Handle = 0xEFF
high Role = 1
high AddrKind = 1
high ConnInterval = 3200
high PeripheralLatency = 499
high SupervisionTimeout = 3200
high ClockAccuracy = 7
high RawHandle = 0xFFF
high Pairs = 63
high ValueLen = 512

unfoldable pub within : Field → ℕ → Bool
within f v = leb (low f) v && leb v (high f)

-- both, as the code gives them
abbrev pub limits_of : Field → Limits
limits_of f = record { low = low f; high = high f }

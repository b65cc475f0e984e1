-- What a slot's state says of its link. Assumes nothing.
use Rattle.std.specs.Prelude.{ℕ, Bool, true, false}
use Rattle.state.specs.declared.DisconnectReason.{DisconnectReason}
use Rattle.state.specs.declared.DisconnectReason.TheVariants as reason
use Rattle.state.specs.declared.ConnectionState.{ConnectionState}
use Rattle.state.specs.declared.ConnectionState.TheVariants.{Disconnected, DisconnectRequest, Disconnecting, Connecting, Connected}

-- the number of a reason
abbrev pub reason_value : DisconnectReason → ℕ
reason_value reason.AuthenticationFailure = 0x05
reason_value reason.RemoteUserTerminatedConn = 0x13
reason_value reason.RemoteDeviceTerminatedConnLowResources = 0x14
reason_value reason.RemoteDeviceTerminatedConnPowerOff = 0x15
reason_value reason.UnsupportedRemoteFeature = 0x1A
reason_value reason.PairingWithUnitKeyNotSupported = 0x29
reason_value reason.UnacceptableConnParameters = 0x3B

-- document 01's "live": Connecting or Connected
abbrev pub is_live : ConnectionState → Bool
is_live Disconnected = false
is_live (DisconnectRequest r) = false
is_live (Disconnecting r) = false
is_live Connecting = true
is_live Connected = true

-- document 01's "open": not Disconnected
abbrev pub is_open : ConnectionState → Bool
is_open Disconnected = false
is_open (DisconnectRequest r) = true
is_open (Disconnecting r) = true
is_open Connecting = true
is_open Connected = true

abbrev pub is_connected : ConnectionState → Bool
is_connected Disconnected = false
is_connected (DisconnectRequest r) = false
is_connected (Disconnecting r) = false
is_connected Connecting = false
is_connected Connected = true

-- the slot asks to be disconnected
abbrev pub is_requesting : ConnectionState → Bool
is_requesting Disconnected = false
is_requesting (DisconnectRequest r) = true
is_requesting (Disconnecting r) = false
is_requesting Connecting = false
is_requesting Connected = false

abbrev pub is_connecting : ConnectionState → Bool
is_connecting Disconnected = false
is_connecting (DisconnectRequest r) = false
is_connecting (Disconnecting r) = false
is_connecting Connecting = true
is_connecting Connected = false

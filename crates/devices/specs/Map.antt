-- Where each register lies that does something of its own.
use Rattle.std.specs.Prelude.{ℕ}
use Rattle.devices.specs.declared.map.Register.{Register}
use Rattle.devices.specs.declared.map.Register.TheVariants as register
use Rattle.devices.specs.Devices.{halt, timer, transmit, receive, status, control_register}

-- the address at which a register begins
abbrev pub address_of : Register → ℕ
address_of register.Halt = halt
address_of register.Timer = timer
address_of register.Transmit = transmit
address_of register.Receive = receive
address_of register.Status = status
address_of register.Control = control_register

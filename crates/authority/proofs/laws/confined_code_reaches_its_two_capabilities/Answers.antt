use Rattle.std.proofs.Common.{lit<}
use Rattle.devices.specs.Devices.{transmit, halt, timer_compare, timer, control_register}
use Rattle.authority.specs.ConfinedLaws.{reached, writable, readable, system, below_ram}
use Rattle.authority.proofs.laws.confined_code_reaches_its_two_capabilities.Goals as goal

pub returns-clause-reachable : goal.returns-clause-reachable
returns-clause-reachable c = reached

pub returns-clause-writable : goal.returns-clause-writable
returns-clause-writable c = writable

pub returns-clause-readable : goal.returns-clause-readable
returns-clause-readable c = readable

pub returns-clause-transmit : goal.returns-clause-transmit
returns-clause-transmit c = λ s confined. below_ram s confined transmit (lit< tt)

pub returns-clause-halt : goal.returns-clause-halt
returns-clause-halt c = λ s confined. below_ram s confined halt (lit< tt)

pub returns-clause-timer_compare : goal.returns-clause-timer_compare
returns-clause-timer_compare c = λ s confined. below_ram s confined timer_compare (lit< tt)

pub returns-clause-timer : goal.returns-clause-timer
returns-clause-timer c = λ s confined. below_ram s confined timer (lit< tt)

pub returns-clause-control : goal.returns-clause-control
returns-clause-control c = λ s confined. below_ram s confined control_register (lit< tt)

pub returns-clause-system : goal.returns-clause-system
returns-clause-system c = system

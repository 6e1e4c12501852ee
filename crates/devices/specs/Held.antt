-- What devices with these fields are.
use Rattle.devices.specs.declared.devices.Devices.TheInside.{Inside}
use Rattle.devices.specs.Devices.{Devices}

-- the queue as the list of its bytes, and each other field as it is
abbrev pub devices_of : Inside → Devices
devices_of d = record {
  mtime = d.mtime;
  kept = d.kept;
  queue = d.queue.items;
  overrun = d.overrun;
  control = d.control;
  halted = d.halted;
}

-- the fields that give these devices
abbrev pub fields_of : Devices → Inside
fields_of d = record {
  mtime = d.mtime;
  kept = d.kept;
  queue = record { items = d.queue };
  overrun = d.overrun;
  control = d.control;
  halted = d.halted;
}

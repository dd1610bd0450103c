-- The state of a device over a file, which tells only its counts.
use Rattle.wb_geometry.specs.Device.{State, IsDevice}
use Rattle.wb_device.specs.Silent.{silent_state, silent_is_device}
use Rattle.wb_device.specs.declared.file.FileDevice.{FileDevice}

abbrev pub file_state : FileDevice → State
file_state d = silent_state d.sectors d.faults d.syncs d.reads

pub file_is_device : (d : FileDevice) → IsDevice (file_state d)
file_is_device d = silent_is_device d.sectors d.faults d.syncs d.reads

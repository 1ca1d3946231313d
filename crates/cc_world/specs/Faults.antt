-- Faults as the World keeps them.
use Rattle.cc_model.specs.Faults as model
use Rattle.cc_world.specs.declared.faults.Fault.{Fault}
use Rattle.cc_world.specs.declared.faults.Fault.TheVariants as fault

-- the fault that one of the World's stands for
abbrev pub fault_in : Fault → model.Fault
fault_in (fault.Read page) = model.ReadFailed page
fault_in (fault.Write page) = model.WriteFailed page
fault_in fault.Sync = model.SyncFailed
fault_in (fault.Log handle) = model.LogFailed handle

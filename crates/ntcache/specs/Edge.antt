-- What the program hands to the top call: disks, logs and post routines that nobody has used.
use Rattle.std.specs.Prelude.{[], None, false}
use Rattle.cc_filedev.specs.Devices.{DiskState as FileDiskState, LogState as FileLogState}
use Rattle.cc_memdev.specs.Devices.{DiskState, LogState}
use Rattle.ntcache.specs.declared.outside.Routine.{Routine}

-- a disk in memory whose bytes are 5A and none of whose calls is to fail, as it is made
abbrev pub new_disk : DiskState
new_disk =
    record {
      disk = record { fill = 90; holds = []; may = [] };
      reads = record { fails = []; made = 0 };
      writes = record { fails = []; made = 0 };
      syncs = record { fails = []; made = 0 };
      stop = record { after = None; made = 0 };
      faults = 0;
    }

-- a log in memory without entries, none of whose calls is to fail, as it is made
abbrev pub new_log : LogState
new_log =
    record {
      log = record { entries = []; durable = 0 };
      appends = record { fails = []; made = 0 };
      flushes = record { fails = []; made = 0 };
      reads = record { fails = []; made = 0 };
      stop = record { after = None; made = 0 };
      faults = 0;
    }

-- a post routine that was not posted
abbrev pub new_routine : Routine
new_routine = record { posted = false }

-- a disk over a file, as it is made: no sync and no other call of it has failed
abbrev pub new_file_disk : FileDiskState
new_file_disk = record { has_lost = false; faults = 0 }

-- a log over a file, as it is made
abbrev pub new_file_log : FileLogState
new_file_log = record { has_lost = false; is_broken = false; faults = 0 }

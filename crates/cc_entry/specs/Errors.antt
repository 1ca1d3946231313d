-- The number and the name of each refusal, as they are printed.
use Rattle.std.specs.Prelude.{ℕ, List, codes}
use Rattle.cc_entry.specs.declared.error.CcError.{CcError}
use Rattle.cc_entry.specs.declared.error.CcError.TheVariants as error

-- the refusal for want of memory
abbrev pub out_of_memory : CcError
out_of_memory = error.NoMemory

-- the number of a refusal
abbrev pub number_of : CcError → ℕ
number_of error.NotCached = 1
number_of (error.BeyondSize _) = 2
number_of (error.BeyondValid _) = 3
number_of (error.TooLong _) = 4
number_of error.ViewBoundary = 5
number_of error.Unaligned = 6
number_of error.BadSizes = 7
number_of (error.Held _) = 8
number_of (error.Busy _) = 9
number_of (error.NoViews _ _) = 10
number_of (error.NotResident _) = 11
number_of (error.NoVacbs _) = 12
number_of (error.JournalFull _) = 13
number_of (error.ReadFault _) = 14
number_of (error.WriteFault _) = 15
number_of (error.LogFault _) = 16
number_of (error.LogFull _) = 17
number_of error.QueueFull = 18
number_of error.NoMemory = 19
number_of error.BadGranularity = 20
number_of (error.NoLog _) = 21
number_of (error.Unsettled _) = 22
number_of (error.Grown _) = 23
number_of (error.GapTooLong _) = 24
number_of (error.LockConflict _) = 25

-- the name of a refusal
abbrev pub name_of : CcError → List ℕ
name_of error.NotCached = codes "NotCached"
name_of (error.BeyondSize _) = codes "BeyondSize"
name_of (error.BeyondValid _) = codes "BeyondValid"
name_of (error.TooLong _) = codes "TooLong"
name_of error.ViewBoundary = codes "ViewBoundary"
name_of error.Unaligned = codes "Unaligned"
name_of error.BadSizes = codes "BadSizes"
name_of (error.Held _) = codes "Held"
name_of (error.Busy _) = codes "Busy"
name_of (error.NoViews _ _) = codes "NoViews"
name_of (error.NotResident _) = codes "NotResident"
name_of (error.NoVacbs _) = codes "NoVacbs"
name_of (error.JournalFull _) = codes "JournalFull"
name_of (error.ReadFault _) = codes "ReadFault"
name_of (error.WriteFault _) = codes "WriteFault"
name_of (error.LogFault _) = codes "LogFault"
name_of (error.LogFull _) = codes "LogFull"
name_of error.QueueFull = codes "QueueFull"
name_of error.NoMemory = codes "NoMemory"
name_of error.BadGranularity = codes "BadGranularity"
name_of (error.NoLog _) = codes "NoLog"
name_of (error.Unsettled _) = codes "Unsettled"
name_of (error.Grown _) = codes "Grown"
name_of (error.GapTooLong _) = codes "GapTooLong"
name_of (error.LockConflict _) = codes "LockConflict"

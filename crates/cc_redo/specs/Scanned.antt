-- What the functions of the crate show of a log that is read and of pages that are kept.
use Rattle.std.specs.Prelude.{◌≡◌, ℕ, ◌<◌, ◌≤◌, ◌==◌, true, false, List, [], ◌∷◌, length, Contains, ◌⊎◌, unwrap_or, Result, Ok, Err, if◌then◌else◌}
use Rattle.std.specs.declared.option.Option.{Option}
use Rattle.std.specs.declared.option.Option.TheVariants.{None}
use Rattle.std.specs.Ordering.{nat_cmp}
use Rattle.std.specs.BTreeMap.{get, BTreeMap}
use Rattle.cc_entry.specs.declared.error.CcError.{CcError}
use Rattle.cc_entry.specs.declared.error.CcError.TheVariants as error
use Rattle.cc_traits.specs.declared.stop.Stop.{Stop}
use Rattle.cc_traits.specs.declared.stop.Stop.TheVariants as stop
use Rattle.cc_traits.specs.Told.{Both, IfTold}
use Rattle.cc_traits.specs.Disk.{Disk, page_of, may_of}
use Rattle.cc_traits.specs.Log.{Log}
use Rattle.cc_redo.specs.Changes.{is_changed}
use Rattle.cc_redo.specs.Disks.{IsLeftOrMade, RecordStands, record_number}
use Rattle.cc_redo.specs.Heard.{Change}

-- what is answered where the log stopped
abbrev pub log_refusal_of : Stop → CcError
log_refusal_of stop.Failed = error.LogFault 255
log_refusal_of stop.NoMemory = error.NoMemory

-- why a log was not read
abbrev pub IsLogRefusal : Option Log → CcError → Type 0
IsLogRefusal log (error.TooLong limit) = (limit ≡ 4194304) × IfTold log (λ told. 4194304 < length told.entries)
IsLogRefusal log (error.LogFault handle) = handle ≡ 255
IsLogRefusal log error.NoMemory = Unit {0}
IsLogRefusal log other = ⊥

-- what is answered where a disk stopped at a write
abbrev pub write_refusal_of : ℕ → Stop → CcError
write_refusal_of page stop.Failed = error.WriteFault page
write_refusal_of page stop.NoMemory = error.NoMemory

-- by how much an answer raises the disk's count of faults
abbrev pub disk_faults : CcError → ℕ
disk_faults (error.ReadFault page) = 1
disk_faults (error.WriteFault page) = 1
disk_faults other = 0

abbrev pub disk_faults_by : {A : Type 0} → Result A CcError → ℕ
disk_faults_by (Ok a) = 0
disk_faults_by (Err e) = disk_faults e

-- why a disk was not read: the page that a fault names is one of which this holds
abbrev pub IsReadRefusal : (ℕ → Type 0) → CcError → Type 0
IsReadRefusal P (error.ReadFault page) = P page
IsReadRefusal P error.NoMemory = Unit {0}
IsReadRefusal P other = ⊥

abbrev pub IsRecordRefusal : CcError → Type 0
IsRecordRefusal (error.ReadFault page) = page ≡ record_number
IsRecordRefusal error.NoMemory = Unit {0}
IsRecordRefusal other = ⊥

-- why it was not written or not synced
abbrev pub IsWriteRefusal : (ℕ → Type 0) → CcError → Type 0
IsWriteRefusal P (error.WriteFault page) = P page
IsWriteRefusal P error.NoMemory = Unit {0}
IsWriteRefusal P other = ⊥

-- Why the pages of a stream were not redone: a fault names one that the changes change; all are read before the first is written.
abbrev pub IsPagesRefusal : List Change → Option Disk → Option Disk → CcError → Type 0
IsPagesRefusal changes old new (error.ReadFault page) = (is_changed changes page ≡ true) × (new ≡ old)
IsPagesRefusal changes old new (error.WriteFault page) = is_changed changes page ≡ true
IsPagesRefusal changes old new error.NoMemory = Unit {0}
IsPagesRefusal changes old new other = ⊥

-- a page as it will stand once the pages that are kept are written
abbrev pub page_with : BTreeMap ℕ (List ℕ) → Disk → ℕ → List ℕ
page_with kept disk page = unwrap_or (get nat_cmp kept page) (page_of disk page)

-- a change ends below 2 ^ 63, so no page of it is that of the record or behind it
abbrev pub KeepsData : BTreeMap ℕ (List ℕ) → Type 0
KeepsData kept = (page : ℕ) → record_number ≤ page → get nat_cmp kept page ≡ None

-- Pages were written, maybe not all: what was not written is as it was, and so is the record.
pub record IsPartlyWritten (made : ℕ → List ℕ) (old new : Disk) : Type 0 where
  pub pages : IsLeftOrMade made old new
  pub stands : RecordStands old new

-- all were written
abbrev pub HoldsMadePages : (ℕ → List ℕ) → Disk → Type 0
HoldsMadePages made disk = (page : ℕ) → page_of disk page ≡ made page

-- of no page a crash can leave anything but what it holds
abbrev pub IsAllSettled : Disk → Type 0
IsAllSettled disk = (page : ℕ) → may_of disk page ≡ page_of disk page ∷ []

-- all pages but the record hold what they held, and a crash leaves that alone
abbrev pub DataIsSettled : Disk → Disk → Type 0
DataIsSettled old new =
    (page : ℕ) → (record_number == page) ≡ false → (page_of new page ≡ page_of old page) × (may_of new page ≡ page_of old page ∷ [])

-- The record of a stream is written behind a sync, and a sync behind it. Before the first sync the disk is as it was.
pub record IsSettling (told : List ℕ) (old new : Disk) : Type 0 where
  pub others : DataIsSettled old new
  pub record_is : Contains (may_of new record_number) (page_of new record_number)
  pub record_may : (bytes : List ℕ) → Contains (may_of new record_number) bytes → (bytes ≡ page_of old record_number) ⊎ (bytes ≡ told)

abbrev pub DiskIsSettled : List ℕ → Disk → Disk → Type 0
DiskIsSettled told old new =
    (page : ℕ) → (page_of new page ≡ (if record_number == page then told else page_of old page)) × (may_of new page ≡ page_of new page ∷ [])

-- Which page a fault names as the record of a stream is written: page 0 that of the first sync, which left the disk as it was; and the
-- page of the record that of its write or of the sync behind it, where all other pages are settled.
abbrev pub IsSettleFault : ℕ → Option Disk → Option Disk → Type 0
IsSettleFault page old new = ((page ≡ 0) × (new ≡ old)) ⊎ ((page ≡ record_number) × Both old new DataIsSettled)

abbrev pub IsSettleRefusal : Option Disk → Option Disk → CcError → Type 0
IsSettleRefusal old new e = IsWriteRefusal (λ page. IsSettleFault page old new) e

-- A page of a noncached read with the disk and the book of its stream in hand: its looks, its write, its read of the disk.
use Rattle.std.specs.Prelude.{◌≡◌, ℕ, ◌<◌, ◌≤◌, ◌+◌, true, false, Result, Ok, Err, List, length, refl}
use Rattle.std.proofs.Common.{ap, sym, subst, arith}
use Rattle.std.proofs.lemmas.Bool.{and_from}
use Rattle.cc_entry.specs.Place.{File}
use Rattle.cc_entry.specs.declared.call.Call.TheVariants as call
use Rattle.cc_entry.specs.declared.entry.Entry.{Entry}
use Rattle.cc_entry.specs.declared.error.CcError.{CcError}
use Rattle.cc_entry.specs.declared.error.CcError.TheVariants as error
use Rattle.cc_effects.specs.Asked.{Calls, is_admitted, may_write, reaches}
use Rattle.cc_effects.specs.Calls.{IsUnderWay}
use Rattle.cc_model.specs.Setup.{Setup}
use Rattle.cc_turns.specs.Standing.{Standing}
use Rattle.cc_writes.specs.Hands.{WentWith}
use Rattle.cc_writes.specs.Ways.{IsFull, IsFullError, IsCallReason}
use Rattle.cc_writes.specs.Calls.{MayFaultInWriting, PageStepLeft}
use Rattle.cc_writes.proofs.Halting.{no-memory}
use Rattle.cc_ranges.specs.ReadVisits.{file_page, ReadEnded, IsReading}
use Rattle.cc_ranges.proofs.Misshapen.{read-unshaped}

-- what is said of a pass as it stands is said of it as it stood, and the other way round
pub said-before : (Says : Setup → ℕ → Type 0) (flight : ℕ) (w v : Standing) → WentWith flight w v → Says v.setup v.number → Says w.setup w.number
said-before Says flight w v went says =
    subst (λ (n : ℕ). Says w.setup n) (ap (λ (x : Standing). x.number) went.same)
    (subst (λ (u : Setup). Says u v.number) (ap (λ (x : Standing). x.setup) went.same) says)

pub said-after : (Says : Setup → ℕ → Type 0) (flight : ℕ) (w v : Standing) → WentWith flight w v → Says w.setup w.number → Says v.setup v.number
said-after Says flight w v went says =
    subst (λ (n : ℕ). Says v.setup n) (sym (ap (λ (x : Standing). x.number) went.same))
    (subst (λ (u : Setup). Says u w.number) (sym (ap (λ (x : Standing). x.setup) went.same)) says)

-- the read of a page may answer each fault of the writing of its page
pub may-fault : (file : File) (page : ℕ) → MayFaultInWriting (call.NcRead file page)
may-fault file page = record { disk = λ p. refl; log = λ handle. refl }

-- a read begins with no page written
pub begins-reading : (me : ℕ) (file : File) (page : ℕ) (begun new : List Entry) → IsUnderWay me (call.NcRead file page) begun new → IsReading me file page false begun new
begins-reading me file page begun new way = record { way = way; wrote = λ yes. absurd (cc) }

-- its page may be written for it, where nothing refuses it
pub asks-page : (file : File) (page : ℕ) (past : List Entry) → is_admitted (call.NcRead file page) file.stream past ≡ true → reaches (call.NcRead file page) (file_page file page) past ≡ true → may_write (Calls (call.NcRead file page)) (file_page file page) past ≡ true
asks-page file page past admitted reached = and_from (is_admitted (call.NcRead file page) file.stream past) _ admitted reached

-- the writing of its page failed
pub failed-write : (u : Setup) (me s : ℕ) (file : File) (page : ℕ) (e : CcError) (begun new : List Entry) (was : List ℕ) → PageStepLeft u me (call.NcRead file page) (Err e) begun new → IsCallReason u s (call.NcRead file page) e → ReadEnded u me file page (Err e) begun new was was
failed-write u me s file page e begun new was left reason = record { left = left; behind = refl; unshaped = read-unshaped u s file page e reason }

-- the disk found no memory
pub no-room : (u : Setup) (me : ℕ) (file : File) (page : ℕ) (begun new : List Entry) (was : List ℕ) → IsUnderWay me (call.NcRead file page) begun new → ReadEnded u me file page (Err error.NoMemory) begun new was was
no-room u me file page begun new was way = record {
  left = no-memory me (call.NcRead file page) begun new refl refl way;
  behind = refl;
  unshaped = refl;
}

-- A page that a call waits for was wanted, and one in its way may be written.
use Rattle.std.specs.Prelude.{◌≡◌, ℕ, true, List, refl}
use Rattle.cc_entry.specs.Place.{Page}
use Rattle.cc_entry.specs.declared.call.Call.{Call}
use Rattle.cc_entry.specs.declared.entry.Entry.{Entry}
use Rattle.cc_entry.specs.declared.error.CcError.TheVariants as error
use Rattle.cc_effects.specs.Asked.{Calls, brings_in, is_in_the_way, may_write}
use Rattle.cc_effects.specs.Calls.{IsUnderWay}
use Rattle.cc_effects.specs.Moments.{IsIdle}
use Rattle.cc_model.specs.Setup.{Setup}
use Rattle.cc_step.specs.Step.{is_stepped}
use Rattle.cc_step.proofs.Failing.{stepped-answered}
use Rattle.cc_writes.specs.Ways.{WasWanted}
use Rattle.cc_writes.specs.Visits.{CallIsOfStream, IsWaitedFor}
use Rattle.cc_writes.proofs.Refusals.{may-tell}
use Rattle.cc_writes.specs.Calls.{MayFaultInWriting}
use Rattle.cc_writes.proofs.Reached.{reached}

-- the page that it waited for at a moment was wanted since it began
pub wanted : (u : Setup) (me s page : ℕ) (it : Call) (old mid new : List Entry) → is_stepped it ≡ true → brings_in it ≡ true → CallIsOfStream it s → IsUnderWay me it old mid → IsIdle me mid new → IsWaitedFor u s it page mid → WasWanted u it (record { stream = s; page = page }) old new
wanted u me s page it old mid new stepped brings filed way idle waited = record {
  moment = mid;
  later = idle.during;
  since = way.during;
  ends = idle.grew;
  begins = way.grew;
  holds = (waited.admitted, reached it s page mid stepped brings filed waited.least);
}

-- a page in the way of a call may be written for it
pub may-write : (it : Call) (page : Page) (past : List Entry) → is_in_the_way it page past ≡ true → may_write (Calls it) page past ≡ true
may-write it page past is = rw is refl

-- and the call may answer each fault of the writing
pub may-fault : (it : Call) → is_stepped it ≡ true → brings_in it ≡ true → MayFaultInWriting it
may-fault it stepped brings = record {
  disk = λ page. may-tell it (error.WriteFault page) (stepped-answered it stepped) brings refl;
  log = λ handle. may-tell it (error.LogFault handle) (stepped-answered it stepped) brings refl;
}

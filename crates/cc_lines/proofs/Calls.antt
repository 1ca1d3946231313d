-- What a line leaves whose call was not made for want of memory.
use Rattle.std.specs.Prelude.{◌≡◌, ℕ, Bool, true, false, List, [], refl}
use Rattle.std.proofs.Common.{arith, inl}
use Rattle.cc_entry.specs.Place.{File}
use Rattle.cc_entry.specs.declared.call.Call.{Call}
use Rattle.cc_entry.specs.declared.call.Call.TheVariants as call
use Rattle.cc_entry.specs.declared.error.CcError.TheVariants as error
use Rattle.cc_entry.specs.declared.entry.Entry.{Entry}
use Rattle.cc_effects.specs.Calls.{IsUnplaced}
use Rattle.cc_effects.specs.Refusals.{may_refuse, may_want}
use Rattle.cc_effects.proofs.Stretches.{some-begin}

-- a call that may be refused so, for which nothing was placed
pub unplaced : (me : ℕ) (it : Call) (past : List Entry) → may_refuse it error.NoMemory ≡ true → may_want it past ≡ true → IsUnplaced me it error.NoMemory past past
unplaced me it past listed wants = record {
  during = [];
  grew = refl;
  works = record { each = tt; one_sync = omega arith; whole = refl };
  came = inl refl;
  listed = listed;
  wants = some-begin (λ moment. may_want it moment ≡ true) [] past wants;
}

pub unplaced-read : (me : ℕ) (file : File) (at len : ℕ) (wait : Bool) (past : List Entry) → IsUnplaced me (call.CopyRead file at len wait) error.NoMemory past past
unplaced-read me file at len true past = unplaced me (call.CopyRead file at len true) past refl refl
unplaced-read me file at len false past = unplaced me (call.CopyRead file at len false) past refl refl

pub unplaced-write : (me : ℕ) (file : File) (at : ℕ) (bytes : List ℕ) (past : List Entry) → IsUnplaced me (call.CopyWrite file at bytes) error.NoMemory past past
unplaced-write me file at bytes past = unplaced me (call.CopyWrite file at bytes) past refl refl

-- What a call leaves that copies bytes or changes them, by how it ended with its pages.
use Rattle.std.specs.Prelude.{◌≡◌, ℕ, Bool, true, List, length, Result, Ok, Err, refl}
use Rattle.std.specs.Result.{IsErrAnd}
use Rattle.std.proofs.Common.{arith, inl}
use Rattle.cc_entry.specs.Place.{File}
use Rattle.cc_entry.specs.declared.call.Call.{Call}
use Rattle.cc_entry.specs.declared.call.Call.TheVariants as call
use Rattle.cc_entry.specs.declared.error.CcError.{CcError}
use Rattle.cc_entry.specs.declared.error.CcError.TheVariants as error
use Rattle.cc_entry.specs.declared.reply.Reply.TheVariants as reply
use Rattle.cc_effects.specs.Refusals.{may_refuse, may_want}
use Rattle.cc_effects.proofs.Starts.{begins, gives_up}
use Rattle.cc_turns.specs.Standing.{Standing}
use Rattle.cc_writes.specs.declared.tell.Returned.{Returned}
use Rattle.cc_writes.specs.declared.tell.Returned.TheVariants as returned
use Rattle.cc_writes.specs.Ways.{IsTold}
use Rattle.cc_writes.specs.Fetch.{CanCall}
use Rattle.cc_calls.specs.Paged.{Paged}
use Rattle.cc_calls.specs.Pages.{ChangeEnds, ReadEnds}
use Rattle.cc_calls.proofs.Replies.{IsRead, answers_nothing, read-reply, told-nothing}

module _ (w v : Standing) (file : File) (at : ℕ) (wait : Bool) (was now : List ℕ) where
  -- a read is told its bytes
  told-bytes : (told : Returned) (c : Paged w v (call.CopyRead file at (length was) wait) (Ok told) was now) → (read : IsRead c.left.0 (length was)) × IsTold (reply.Read read.bytes) told was now
  told-bytes told c =
      let read = read-reply w.setup w.number file at (length was) wait c.left.0 w.seen v.seen c.good c.left.1 in
      (read, rw read.is at c.left.2)

  -- in the front of what its caller handed in
  pub read-done : (n : ℕ) → Paged w v (call.CopyRead file at (length was) wait) (Ok (returned.Bytes n)) was now → ReadEnds w v file at wait (Ok n) was now
  read-done n c =
      let read = told-bytes (returned.Bytes n) c in
      let is : n ≡ length read.0.bytes = inner (length read.0.bytes) read.1.0 in
      record {
        pages = record {
          left = rw (is, read.1.1) (rw read.0.is at c.left.1);
          goes_on = c.goes_on;
          good = λ was_good. c.good;
          missed = c.missed;
        };
        full = inl (tt, inl tt);
        rest = (omega (arith, is, read.0.within), rw is read.1.2);
        no_wait = c.no_wait;
      }
    where
      inner : (m : ℕ) → returned.Bytes n ≡ returned.Bytes m → n ≡ m
      inner m same = cc

  -- and nothing else
  pub read-told : (told : Returned) → ((n : ℕ) → told ≡ returned.Bytes n → ⊥) → Paged w v (call.CopyRead file at (length was) wait) (Ok told) was now → ⊥
  read-told told other c =
      let read = told-bytes told c in
      other (length read.0.bytes) read.1.0

  pub read-failed : (e : CcError) → Paged w v (call.CopyRead file at (length was) wait) (Err e) was now → ReadEnds w v file at wait (Err e) was now
  read-failed e c = record {
    pages = record { left = c.left.0; goes_on = c.goes_on; good = λ was_good. c.good; missed = c.missed };
    full = c.full;
    rest = c.left.1;
    no_wait = c.no_wait;
  }

-- a change that is done answers no value
pub change-done : (w v : Standing) (it : Call) (told : Returned) (was now : List ℕ) → answers_nothing it ≡ true → Paged w v it (Ok told) was now → ChangeEnds w v it (Ok tt)
change-done w v it told was now none c = record {
  pages = record {
    left = told-nothing w.setup w.number it c.left.0 w.seen v.seen none c.good c.left.1;
    goes_on = c.goes_on;
    good = λ was_good. c.good;
    missed = c.missed;
  };
  full = inl (tt, inl tt);
}

-- one for whose bytes no memory was found left nothing
pub change-none : (w : Standing) (s : ℕ) (it : Call) (answer : Result (Unit {0}) CcError) → CanCall w s → may_refuse it error.NoMemory ≡ true → may_want it w.seen ≡ true → IsErrAnd answer (λ e. e ≡ error.NoMemory) → ChangeEnds w w it answer
change-none w s it (Ok done) can listed wants none = absurd none
change-none w s it (Err e) can listed wants none = rw none (record {
  pages = record {
    left = gives_up w.number it error.NoMemory w.seen w.seen (begins w.number it w.seen) listed wants;
    goes_on = record { same = refl };
    good = λ was_good. was_good;
    missed = inl refl;
  };
  full = inl (tt, inl tt);
})

-- A call on a hold: what it leaves, and the hold of its caller after it.
use Rattle.std.specs.Prelude.{◌≡◌, ℕ, ◌≤◌, Bool, true, false, List, [], length, take, drop, Result, Ok, Err, refl}
use Rattle.std.specs.Result.{IsErrAnd}
use Rattle.std.proofs.Common.{ap, sym, ◌∙◌, subst, arith, inl}
use Rattle.std.proofs.lemmas.List.{drop_all, length-drop, take_all}
use Rattle.cc_entry.specs.Kinds.{is_map}
use Rattle.cc_entry.specs.declared.call.Call.{Call}
use Rattle.cc_entry.specs.declared.call.Call.TheVariants as call
use Rattle.cc_entry.specs.declared.error.CcError.{CcError}
use Rattle.cc_entry.specs.declared.error.CcError.TheVariants as error
use Rattle.cc_entry.specs.declared.hold.HoldKind.{HoldKind}
use Rattle.cc_entry.specs.declared.reply.Outcome.TheVariants as outcome
use Rattle.cc_entry.specs.declared.reply.Reply.TheVariants as reply
use Rattle.cc_calls.specs.Answers.{CanCall}
use Rattle.cc_calls.specs.Paged.{CalledAtOnce}
use Rattle.cc_effects.specs.Refusals.{may_refuse, may_want}
use Rattle.cc_effects.proofs.Starts.{begins, gives_up}
use Rattle.cc_own.specs.Own.{changes_it}
use Rattle.cc_step.specs.Step.{most_asked}
use Rattle.cc_turns.specs.Standing.{Standing}
use Rattle.cc_writes.specs.Hands.{Went}
use Rattle.cc_writes.specs.Ways.{IsFullOn}
use Rattle.cc_writes.specs.declared.tell.Returned.{Returned}
use Rattle.cc_calls.specs.Held.{IsHolding}
use Rattle.cc_calls.specs.Ends.{HeldReadEnds, HoldEnded, PinMappedEnds, UseEnds, fills, writes_through}
use Rattle.cc_calls.specs.declared.held.Held.{Held}
use Rattle.cc_calls.proofs.Answered.{end-told, pinned-told, read-told, write-told}
use Rattle.cc_calls.proofs.Holding.{call-still, failed-still, pinned-now, write-still}

number-is : (w v : Standing) → Went w v → v.number ≡ w.number
number-is w v went = ap (λ (x : Standing). x.number) went.same

-- what a read through a hold is to a call
module _ (n : ℕ) where
  fill-asks : (it : Call) → fills it n ≡ true → most_asked it ≡ 1
  fill-asks (call.MappedRead hold at len) full = refl
  fill-asks (call.PinnedRead hold at len) full = refl
  fill-asks (call.MdlBytes hold at len) full = refl
  fill-asks other full = absurd (cc)

  fill-keeps : (id : ℕ) (it : Call) → fills it n ≡ true → changes_it id it ≡ false
  fill-keeps id (call.MappedRead hold at len) full = refl
  fill-keeps id (call.PinnedRead hold at len) full = refl
  fill-keeps id (call.MdlBytes hold at len) full = refl
  fill-keeps id other full = absurd (cc)

-- bytes that fill all that was handed in are what is there then
all-of : (n : ℕ) (bytes was now : List ℕ) → length bytes ≡ n → length was ≡ n → take (length bytes) now ≡ bytes → drop (length bytes) now ≡ drop (length bytes) was → now ≡ bytes
all-of n bytes was now long same front rest =
    let none : drop (length bytes) was ≡ [] = drop_all (length bytes) was (omega (arith, long, same)) in
    sym (take_all (length bytes) now (short (length bytes) now (rest ∙ none))) ∙ front
  where
    short : (n : ℕ) (xs : List ℕ) → drop n xs ≡ [] → length xs ≤ n
    short n xs none = omega (arith, length-drop n xs, ap length none)

module _ (w v : Standing) (of_kind : HoldKind → Bool) (held : Held) (it : Call) (was now : List ℕ) (h : IsHolding w of_kind held) where
  pub read-ends : (told : Returned) → fills it (length was) ≡ true → CalledAtOnce w v it (Ok told) was now → HeldReadEnds w v of_kind held it (Ok tt) was now
  read-ends told full ended =
      let read = read-told w.setup w.number (length was) it ended.left.0 w.seen v.seen full ended.good ended.left.1 in
      let tells = rw read.1.0 at ended.left.2 in
      let same = all-of (length was) read.0 was now read.1.1 refl tells.1 tells.2 in
      let left = rw (read.1.0, sym same) at ended.left.1 in
      record {
        left = left;
        full = tt;
        goes_on = ended.goes_on;
        good = λ was_good. ended.good;
        kept = ap length same ∙ read.1.1;
        holding = call-still w v of_kind held (number-is w v ended.goes_on) h it (outcome.Done (reply.Read now)) left ended.good (fill-keeps (length was) held.id it full);
      }

  pub read-failed : (e : CcError) → fills it (length was) ≡ true → CalledAtOnce w v it (Err e) was now → HeldReadEnds w v of_kind held it (Err e) was now
  read-failed e full ended = record {
    left = ended.left.0;
    full = rw (fill-asks (length was) it full) at ended.full;
    goes_on = ended.goes_on;
    good = λ was_good. ended.good;
    kept = ended.left.1;
    holding = failed-still w v of_kind held (number-is w v ended.goes_on) h it (outcome.Failed e) e refl ended.left.0 ended.good;
  }

  pub write-ends : (told : Returned) → writes_through it ≡ true → CalledAtOnce w v it (Ok told) was now → UseEnds w v of_kind held it (Ok tt)
  write-ends told writes ended =
      let left = write-told w.setup w.number w.seen v.seen ended.good it ended.left.0 writes ended.left.1 in
      record {
        call_ends = record { left = left; full = tt; goes_on = ended.goes_on; good = λ was_good. ended.good };
        room = (tt, inl tt);
        holding = write-still w v of_kind held (number-is w v ended.goes_on) h it (outcome.Done reply.Unit) writes left ended.good;
      }

  pub write-failed : (e : CcError) → CalledAtOnce w v it (Err e) was now → IsFullOn {A = Returned} held.file.stream it v (Err e) → UseEnds w v of_kind held it (Err e)
  write-failed e ended full = record {
    call_ends = record { left = ended.left.0; full = ended.full; goes_on = ended.goes_on; good = λ was_good. ended.good };
    room = full;
    holding = failed-still w v of_kind held (number-is w v ended.goes_on) h it (outcome.Failed e) e refl ended.left.0 ended.good;
  }

-- whether a call keeps bytes of its caller
abbrev stores_bytes : Call → Bool
stores_bytes (call.PinnedWrite hold at bytes) = true
stores_bytes (call.MdlStore hold at bytes) = true
stores_bytes other = false

-- one for whose bytes no memory was found left all as it was
no-memory : (w : Standing) (s : ℕ) (of_kind : HoldKind → Bool) (held : Held) (it : Call) → CanCall w s → stores_bytes it ≡ true → IsHolding w of_kind held → UseEnds w w of_kind held it (Err error.NoMemory)
no-memory w s of_kind held it can stores h = record {
  call_ends = record {
    left = gives_up w.number it error.NoMemory w.seen w.seen (begins w.number it w.seen) (listed it stores) (wants it stores);
    full = tt;
    goes_on = record { same = refl };
    good = λ good. good;
  };
  room = (tt, inl tt);
  holding = h;
}
  where
    listed : (it : Call) → stores_bytes it ≡ true → may_refuse it error.NoMemory ≡ true
    listed (call.PinnedWrite hold at bytes) stores = refl
    listed (call.MdlStore hold at bytes) stores = refl
    listed other stores = absurd (cc)

    wants : (it : Call) → stores_bytes it ≡ true → may_want it w.seen ≡ true
    wants (call.PinnedWrite hold at bytes) stores = refl
    wants (call.MdlStore hold at bytes) stores = refl
    wants other stores = absurd (cc)

pub use-none : (w : Standing) (s : ℕ) (of_kind : HoldKind → Bool) (held : Held) (it : Call) (answer : Result (Unit {0}) CcError) → CanCall w s → stores_bytes it ≡ true → IsHolding w of_kind held → IsErrAnd answer (λ e. e ≡ error.NoMemory) → UseEnds w w of_kind held it answer
use-none w s of_kind held it (Ok done) can stores h none = absurd none
use-none w s of_kind held it (Err e) can stores h none = rw none (no-memory w s of_kind held it can stores h)

module _ (w v : Standing) (held : Held) (was now : List ℕ) where
  pub hold-ended : (told : Returned) → CalledAtOnce w v (call.EndHold held.id) (Ok told) was now → HoldEnded w v held
  hold-ended told ended = record {
    left = end-told w.setup w.number w.seen v.seen ended.good held.id ended.left.0 ended.left.1;
    goes_on = ended.goes_on;
    good = ended.good;
  }

  -- the map is a pin with its id and its range
  pub pinned-ends : (exclusive : Bool) (told : Returned) → IsHolding w is_map held → CalledAtOnce w v (call.PinMapped held.id exclusive) (Ok told) was now → PinMappedEnds w v held exclusive (Ok held)
  pinned-ends exclusive told h ended =
      let is = pinned-told w.setup w.number w.seen v.seen ended.good held.id exclusive ended.left.0 ended.left.1 in
      let left = rw is at ended.left.1 in
      record {
        call_ends = record { left = left; full = tt; goes_on = ended.goes_on; good = λ was_good. ended.good };
        pinned = (refl, pinned-now w v held exclusive (reply.Hold held.id) (number-is w v ended.goes_on) h left ended.good);
        back = tt;
      }

  -- or comes back
  pub pinned-failed : (exclusive : Bool) (e : CcError) → IsHolding w is_map held → CalledAtOnce w v (call.PinMapped held.id exclusive) (Err e) was now → PinMappedEnds w v held exclusive (Err (held, e))
  pinned-failed exclusive e h ended = record {
    call_ends = record { left = ended.left.0; full = ended.full; goes_on = ended.goes_on; good = λ was_good. ended.good };
    pinned = tt;
    back = (refl, failed-still w v is_map held (number-is w v ended.goes_on) h (call.PinMapped held.id exclusive) (outcome.Failed e) e refl ended.left.0 ended.good);
  }

-- the error that a call met is handed on
pub handed-on : (P : Result (Unit {0}) CcError → Type 0) (answer : Result (Unit {0}) CcError) (e : CcError) → IsErrAnd answer (λ x. x ≡ e) → P (Err e) → P answer
handed-on P (Ok done) e is p = absurd is
handed-on P (Err x) e is p = subst (λ x. P (Err x)) (sym is) p

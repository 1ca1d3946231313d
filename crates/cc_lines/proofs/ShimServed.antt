-- The lines of the shim, and the question for levels: what their calls left explains them, and the words stand on.
use Rattle.std.specs.Prelude.{ℕ, Bool, List, refl}
use Rattle.std.specs.declared.option.Option.TheVariants.{None}
use Rattle.std.proofs.Common.{arith, inl, inr}
use Rattle.cc_entry.specs.Place.{File, Range}
use Rattle.cc_entry.specs.declared.answer.Answer.{Answer}
use Rattle.cc_entry.specs.declared.answer.Answer.TheVariants as answer
use Rattle.cc_entry.specs.declared.error.CcError.{CcError}
use Rattle.cc_entry.specs.declared.error.CcError.TheVariants as error
use Rattle.cc_entry.specs.declared.reply.Reply.TheVariants as reply
use Rattle.cc_entry.specs.declared.query.Value.TheVariants as value
use Rattle.cc_script.specs.declared.bound.Bound.{Bound}
use Rattle.cc_script.specs.declared.script.Action.TheVariants as action
use Rattle.cc_script.specs.declared.script.ReadPath.{ReadPath}
use Rattle.cc_model.specs.Good.{IsGood}
use Rattle.cc_effects.specs.Moments.{IsIdle}
use Rattle.cc_own.specs.Own.{IsUnchanged}
use Rattle.cc_own.proofs.Unchanged.{unchanged-idle, unchanged-only}
use Rattle.cc_pieces.specs.Answered.{LevelsAnswered}
use Rattle.cc_pieces.specs.Bindings.{Binding}
use Rattle.cc_pieces.specs.Locks.{LockAnswered, LockedReadAnswered, LockedUpdateAnswered, LockedWriteAnswered, UnlockAnswered}
use Rattle.cc_vacb.specs.Levels.{levels_of}
use Rattle.cc_turns.specs.Standing.{Standing}
use Rattle.cc_calls.specs.Pages.{WentOn}
use Rattle.cc_shim.specs.Ends.{WasFullError}
use Rattle.cc_lines.specs.Holds.{NamesState, named_held}
use Rattle.cc_lines.specs.Line.{IsFullTold, LineServed, NamesStandFor, WasFullTold}
use Rattle.cc_lines.proofs.KeptByShim.{Keeps, read-keeps, update-keeps, write-keeps}
use Rattle.cc_lines.proofs.KeptWords.{stand-kept}
use Rattle.cc_lines.proofs.WordLines.{has-at, so_far, stand-now, stand-on}

-- where there was no room for two places, there was none for three
pub full-three : (old new : Standing) (e : CcError) → WasFullError 2 old new e → WasFullTold old new (answer.Refused e)
full-three old new (error.JournalFull entries) full = record {
  moment = full.moment;
  later = full.later;
  since = full.since;
  ends = full.ends;
  begins = full.begins;
  holds = (full.holds.0, full.holds.1, (full.holds.2.0, omega (arith, full.holds.2.1)));
}
full-three old new other full = tt

module _ (old new : Standing) (told : Answer) (names : NamesState) (full : WasFullTold old new told) (went : WentOn old new) (good : IsGood old.setup new.seen) where
  -- no hold changed that the pass had
  stand-shim : (bounds : List Bound) (bindings : List Binding) → Keeps old.setup old.number None old.seen new.seen → NamesStandFor old bounds bindings names → NamesStandFor new bounds bindings names
  stand-shim bounds bindings keeps stand =
      let goodness = so_far old.setup new.seen good in
      stand-now old new went good bounds bindings names
      (stand-kept old.setup old.streams old.number old.seen new.seen goodness bounds bindings names.named stand
      (λ word it named.
      let has = (has-at old.streams old.number old.seen bounds bindings names.named word it stand named).1 in
      keeps.1 (named_held it).file.stream (named_held it).id has.holds.hold goodness has.holds.has tt))

  pub read-line : (file : File) (path : ReadPath) (at len : ℕ) → LockedReadAnswered old.setup old.number file path at len told old.seen new.seen → LineServed old new (action.Read file path at len) told names names
  read-line file path at len left = record {
    served = λ bounds bindings stand right. (left, stand-shim bounds bindings (read-keeps old.setup old.number file path at len told old.seen new.seen left) stand);
    full = inr (tt, full);
    goes_on = went;
    good = good;
    room = refl;
    placed = refl;
  }

  pub write-line : (file : File) (at : ℕ) (bytes : List ℕ) → LockedWriteAnswered old.setup old.number file at bytes told old.seen new.seen → LineServed old new (action.Write file at bytes) told names names
  write-line file at bytes left = record {
    served = λ bounds bindings stand right. (left, stand-shim bounds bindings (write-keeps old.setup old.number file at bytes told old.seen new.seen left) stand);
    full = inr (tt, full);
    goes_on = went;
    good = good;
    room = refl;
    placed = refl;
  }

  pub update-line : (file : File) (at : ℕ) (bytes : List ℕ) → LockedUpdateAnswered old.setup old.number file at bytes told old.seen new.seen → LineServed old new (action.Update file at bytes) told names names
  update-line file at bytes left = record {
    served = λ bounds bindings stand right. (left, stand-shim bounds bindings (update-keeps old.setup old.number file at bytes told old.seen new.seen left) stand);
    full = inr (tt, full);
    goes_on = went;
    good = good;
    room = refl;
    placed = refl;
  }

-- a lock, the end of one, and a question for levels
module _ (old new : Standing) (told : Answer) (names : NamesState) (full : IsFullTold new told) (went : WentOn old new) (good : IsGood old.setup new.seen) where
  lock-unchanged : (file : File) (range : Range) (exclusive : Bool) (told : Answer) → LockAnswered old.number file range exclusive told old.seen new.seen → (hold : ℕ) → IsUnchanged old.number hold old.seen new.seen
  lock-unchanged file range exclusive (answer.LockId id) left hold = unchanged-only old.number hold _ old.seen new.seen left refl
  lock-unchanged file range exclusive (answer.Refused (error.LockConflict id)) left hold = unchanged-only old.number hold _ old.seen new.seen left refl
  lock-unchanged file range exclusive (answer.Refused (error.JournalFull entries)) left hold = unchanged-idle old.number hold old.seen new.seen left
  lock-unchanged file range exclusive (answer.Refused error.NoMemory) left hold = unchanged-idle old.number hold old.seen new.seen left
  lock-unchanged file range exclusive (answer.Refused other) left hold = absurd left
  lock-unchanged file range exclusive other left hold = absurd left

  unlock-unchanged : (file : File) (id : ℕ) (told : Answer) → UnlockAnswered old.number file id told old.seen new.seen → (hold : ℕ) → IsUnchanged old.number hold old.seen new.seen
  unlock-unchanged file id (answer.Given (reply.Value (value.Flag gone))) left hold = unchanged-only old.number hold _ old.seen new.seen left refl
  unlock-unchanged file id (answer.Refused (error.JournalFull entries)) left hold = unchanged-idle old.number hold old.seen new.seen left
  unlock-unchanged file id (answer.Refused error.NoMemory) left hold = unchanged-idle old.number hold old.seen new.seen left
  unlock-unchanged file id (answer.Refused other) left hold = absurd left
  unlock-unchanged file id other left hold = absurd left

  pub lock-line : (file : File) (range : Range) (exclusive : Bool) → LockAnswered old.number file range exclusive told old.seen new.seen → LineServed old new (action.Lock file range exclusive) told names names
  lock-line file range exclusive left = record {
    served = λ bounds bindings stand right. (left, stand-on old new went good bounds bindings names (lock-unchanged file range exclusive told left) stand);
    full = inl full;
    goes_on = went;
    good = good;
    room = refl;
    placed = refl;
  }

  pub unlock-line : (file : File) (id : ℕ) → UnlockAnswered old.number file id told old.seen new.seen → LineServed old new (action.Unlock file id) told names names
  unlock-line file id left = record {
    served = λ bounds bindings stand right. (left, stand-on old new went good bounds bindings names (unlock-unchanged file id told left) stand);
    full = inl full;
    goes_on = went;
    good = good;
    room = refl;
    placed = refl;
  }

  levels-idle : (file : File) (told : Answer) → LevelsAnswered levels_of old.number file told old.seen new.seen → IsIdle old.number old.seen new.seen
  levels-idle file (answer.Levels n) left = left.idle
  levels-idle file (answer.Refused error.NotCached) left = left.idle
  levels-idle file (answer.Refused error.NoMemory) left = left
  levels-idle file other left = absurd left

  pub levels-line : (file : File) → LevelsAnswered levels_of old.number file told old.seen new.seen → LineServed old new (action.Levels file) told names names
  levels-line file left = record {
    served = λ bounds bindings stand right. (
      left,
      stand-on old new went good bounds bindings names (λ id. unchanged-idle old.number id old.seen new.seen (levels-idle file told left)) stand,
    );
    full = inl full;
    goes_on = went;
    good = good;
    room = refl;
    placed = refl;
  }

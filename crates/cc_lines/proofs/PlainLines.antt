-- Lines that make a call on no hold that they name: that they end as a line is to.
use Rattle.std.specs.Prelude.{◌≡◌, ℕ, Result, Ok, Err, List, refl}
use Rattle.std.specs.declared.option.Option.{Option}
use Rattle.std.specs.declared.option.Option.TheVariants.{Some, None}
use Rattle.std.proofs.Common.{sym, subst, inl}
use Rattle.cc_entry.specs.Place.{File}
use Rattle.cc_entry.specs.declared.answer.Answer.{Answer}
use Rattle.cc_entry.specs.declared.answer.Answer.TheVariants as answer
use Rattle.cc_entry.specs.declared.reply.Reply.TheVariants as reply
use Rattle.cc_entry.specs.declared.call.Call.{Call}
use Rattle.cc_entry.specs.declared.call.Call.TheVariants as call
use Rattle.cc_entry.specs.declared.entry.Entry.{Entry}
use Rattle.cc_entry.specs.declared.error.CcError.{CcError}
use Rattle.cc_script.specs.HoldWords.{bound_after}
use Rattle.cc_script.specs.declared.bound.Bound.{Bound}
use Rattle.cc_script.specs.declared.script.Action.{Action}
use Rattle.cc_script.specs.declared.script.Action.TheVariants as action
use Rattle.cc_model.specs.Good.{IsGood}
use Rattle.cc_model.specs.Setup.{Setup}
use Rattle.cc_effects.specs.LogCalls.{LogFlushLeft}
use Rattle.cc_own.specs.Own.{IsUnchanged}
use Rattle.cc_own.proofs.VerbsKeep.{append-unchanged, log_flush-unchanged, nc_read-unchanged, nc_write-unchanged}
use Rattle.cc_pieces.specs.Answered.{AppendAnswered, CallAnswered, LogFlushAnswered, NcReadAnswered, NcWriteAnswered}
use Rattle.cc_pieces.specs.Bindings.{Binding}
use Rattle.cc_pieces.specs.Served.{Served, bindings_after}
use Rattle.cc_calls.specs.Pages.{WentOn}
use Rattle.cc_turns.specs.Standing.{Standing}
use Rattle.cc_lines.specs.Holds.{NamesState}
use Rattle.cc_lines.specs.Line.{IsFullTold, LineServed, NamesStandFor, told_answer}
use Rattle.cc_lines.proofs.WordLines.{answered-unchanged, stand-on}

-- the call of an action that is served by one call on no hold
abbrev pub plain_call : Action → Option Call
plain_call (action.Initialise file sizes quota temporary) = Some (call.Initialise file sizes quota temporary)
plain_call (action.Uninitialise file truncate) = Some (call.Uninitialise file truncate)
plain_call (action.CopyRead file at len wait) = Some (call.CopyRead file at len wait)
plain_call (action.CopyWrite file at bytes) = Some (call.CopyWrite file at bytes)
plain_call (action.Zero file span) = Some (call.Zero file span)
plain_call (action.SetSizes file allocation size) = Some (call.SetSizes file allocation size)
plain_call (action.Query asked) = Some (call.Query asked)
plain_call (action.Purge file span) = Some (call.Purge file span)
plain_call (action.Discard file span) = Some (call.Discard file span)
plain_call (action.SetLog file handle) = Some (call.SetLog file handle)
plain_call (action.SetGranularity file bytes) = Some (call.SetGranularity file bytes)
plain_call (action.SetAttributes file no_read_ahead no_write_behind) = Some (call.SetAttributes file no_read_ahead no_write_behind)
plain_call (action.SetThreshold file pages) = Some (call.SetThreshold file pages)
plain_call other = None

some-same : (a b : Call) → Some a ≡ Some b → a ≡ b
some-same a b is = cc is

module _ (u : Setup) (me : ℕ) (it : Call) (told : Answer) (old new : List Entry) (left : CallAnswered u me it told old new) where
  is-call : (one : Call) → Some one ≡ Some it → CallAnswered u me one told old new
  is-call one is = subst (λ c. CallAnswered u me c told old new) (sym (some-same one it is)) left

  pub plain-unchanged : (asked : Action) → plain_call asked ≡ Some it → (id : ℕ) → IsUnchanged me id old new
  plain-unchanged (action.Initialise file sizes quota temporary) is id = answered-unchanged u me id (call.Initialise file sizes quota temporary) told old new (is-call _ is) refl
  plain-unchanged (action.Uninitialise file truncate) is id = answered-unchanged u me id (call.Uninitialise file truncate) told old new (is-call _ is) refl
  plain-unchanged (action.CopyRead file at len wait) is id = answered-unchanged u me id (call.CopyRead file at len wait) told old new (is-call _ is) refl
  plain-unchanged (action.CopyWrite file at bytes) is id = answered-unchanged u me id (call.CopyWrite file at bytes) told old new (is-call _ is) refl
  plain-unchanged (action.Zero file span) is id = answered-unchanged u me id (call.Zero file span) told old new (is-call _ is) refl
  plain-unchanged (action.SetSizes file allocation size) is id = answered-unchanged u me id (call.SetSizes file allocation size) told old new (is-call _ is) refl
  plain-unchanged (action.Query asked) is id = answered-unchanged u me id (call.Query asked) told old new (is-call _ is) refl
  plain-unchanged (action.Purge file span) is id = answered-unchanged u me id (call.Purge file span) told old new (is-call _ is) refl
  plain-unchanged (action.Discard file span) is id = answered-unchanged u me id (call.Discard file span) told old new (is-call _ is) refl
  plain-unchanged (action.SetLog file handle) is id = answered-unchanged u me id (call.SetLog file handle) told old new (is-call _ is) refl
  plain-unchanged (action.SetGranularity file bytes) is id = answered-unchanged u me id (call.SetGranularity file bytes) told old new (is-call _ is) refl
  plain-unchanged (action.SetAttributes file no_read_ahead no_write_behind) is id = answered-unchanged u me id (call.SetAttributes file no_read_ahead no_write_behind) told old new (is-call _ is) refl
  plain-unchanged (action.SetThreshold file pages) is id = answered-unchanged u me id (call.SetThreshold file pages) told old new (is-call _ is) refl
  plain-unchanged other is id = absurd (cc is)

  pub plain-served : (bindings : List Binding) (asked : Action) → plain_call asked ≡ Some it → Served u me bindings asked told old new
  plain-served bindings (action.Initialise file sizes quota temporary) is = is-call _ is
  plain-served bindings (action.Uninitialise file truncate) is = is-call _ is
  plain-served bindings (action.CopyRead file at len wait) is = is-call _ is
  plain-served bindings (action.CopyWrite file at bytes) is = is-call _ is
  plain-served bindings (action.Zero file span) is = is-call _ is
  plain-served bindings (action.SetSizes file allocation size) is = is-call _ is
  plain-served bindings (action.Query asked) is = is-call _ is
  plain-served bindings (action.Purge file span) is = is-call _ is
  plain-served bindings (action.Discard file span) is = is-call _ is
  plain-served bindings (action.SetLog file handle) is = is-call _ is
  plain-served bindings (action.SetGranularity file bytes) is = is-call _ is
  plain-served bindings (action.SetAttributes file no_read_ahead no_write_behind) is = is-call _ is
  plain-served bindings (action.SetThreshold file pages) is = is-call _ is
  plain-served bindings other is = absurd (cc is)

-- such a line leaves the words as they were
plain-stand : (new : Standing) (asked : Action) (it : Call) (told : Answer) (bounds : List Bound) (bindings : List Binding) (names : NamesState) → plain_call asked ≡ Some it → NamesStandFor new bounds bindings names → NamesStandFor new (bound_after asked bounds) (bindings_after asked told bindings) names
plain-stand new (action.Initialise file sizes quota temporary) it told bounds bindings names is stand = stand
plain-stand new (action.Uninitialise file truncate) it told bounds bindings names is stand = stand
plain-stand new (action.CopyRead file at len wait) it told bounds bindings names is stand = stand
plain-stand new (action.CopyWrite file at bytes) it told bounds bindings names is stand = stand
plain-stand new (action.Zero file span) it told bounds bindings names is stand = stand
plain-stand new (action.SetSizes file allocation size) it told bounds bindings names is stand = stand
plain-stand new (action.Query asked) it told bounds bindings names is stand = stand
plain-stand new (action.Purge file span) it told bounds bindings names is stand = stand
plain-stand new (action.Discard file span) it told bounds bindings names is stand = stand
plain-stand new (action.SetLog file handle) it told bounds bindings names is stand = stand
plain-stand new (action.SetGranularity file bytes) it told bounds bindings names is stand = stand
plain-stand new (action.SetAttributes file no_read_ahead no_write_behind) it told bounds bindings names is stand = stand
plain-stand new (action.SetThreshold file pages) it told bounds bindings names is stand = stand
plain-stand new other it told bounds bindings names is stand = absurd (cc is)

module _ (old new : Standing) (told : Answer) (names : NamesState) (full : IsFullTold new told) (went : WentOn old new) (good : IsGood old.setup new.seen) where
  pub plain-line : (asked : Action) (it : Call) → plain_call asked ≡ Some it → CallAnswered old.setup old.number it told old.seen new.seen → LineServed old new asked told names names
  plain-line asked it is left = record {
    served = λ bounds bindings stand right. (
      plain-served old.setup old.number it told old.seen new.seen left bindings asked is,
      plain-stand new asked it told bounds bindings names is
          (stand-on old new went good bounds bindings names (plain-unchanged old.setup old.number it told old.seen new.seen left asked is) stand),
    );
    full = inl full;
    goes_on = went;
    good = good;
    room = refl;
    placed = refl;
  }

  pub append-line : (handle : ℕ) (bytes : List ℕ) → AppendAnswered old.setup old.number handle bytes told old.seen new.seen → LineServed old new (action.Append handle bytes) told names names
  append-line handle bytes left = record {
    served = λ bounds bindings stand right. (left, stand-on old new went good bounds bindings names (unchanged left) stand);
    full = inl full;
    goes_on = went;
    good = good;
    room = refl;
    placed = refl;
  }
    where
      by : (told : Answer) → AppendAnswered old.setup old.number handle bytes told old.seen new.seen → (id : ℕ) → IsUnchanged old.number id old.seen new.seen
      by (answer.NewLsn lsn) left id = append-unchanged old.setup old.number id handle bytes (Ok lsn) old.seen new.seen left
      by (answer.Refused e) left id = append-unchanged old.setup old.number id handle bytes (Err e) old.seen new.seen left
      by other left id = absurd left

      unchanged : AppendAnswered old.setup old.number handle bytes told old.seen new.seen → (id : ℕ) → IsUnchanged old.number id old.seen new.seen
      unchanged left = by told left

  pub nc_read-line : (file : File) (at len : ℕ) → NcReadAnswered old.setup old.number file at len told old.seen new.seen → LineServed old new (action.NcRead file at len) told names names
  nc_read-line file at len left = record {
    served = λ bounds bindings stand right. (left, stand-on old new went good bounds bindings names (by told left) stand);
    full = inl full;
    goes_on = went;
    good = good;
    room = refl;
    placed = refl;
  }
    where
      by : (told : Answer) → NcReadAnswered old.setup old.number file at len told old.seen new.seen → (id : ℕ) → IsUnchanged old.number id old.seen new.seen
      by (answer.Given (reply.Read bytes)) left id = nc_read-unchanged old.setup old.number id file at len (Ok bytes) old.seen new.seen left
      by (answer.NcRefused done cause) left id = nc_read-unchanged old.setup old.number id file at len (Err (done, cause)) old.seen new.seen left
      by other left id = absurd left

  pub nc_write-line : (file : File) (at : ℕ) (bytes : List ℕ) → NcWriteAnswered old.setup old.number file at bytes told old.seen new.seen → LineServed old new (action.NcWrite file at bytes) told names names
  nc_write-line file at bytes left = record {
    served = λ bounds bindings stand right. (left, stand-on old new went good bounds bindings names (by told left) stand);
    full = inl full;
    goes_on = went;
    good = good;
    room = refl;
    placed = refl;
  }
    where
      by : (told : Answer) → NcWriteAnswered old.setup old.number file at bytes told old.seen new.seen → (id : ℕ) → IsUnchanged old.number id old.seen new.seen
      by (answer.Count n) left id = nc_write-unchanged old.setup old.number id file at bytes (Ok n) old.seen new.seen left
      by (answer.NcRefused done cause) left id = nc_write-unchanged old.setup old.number id file at bytes (Err (done, cause)) old.seen new.seen left
      by other left id = absurd left

  pub log_flush-line : (handle lsn : ℕ) (ended : Result (Unit {0}) CcError) → told ≡ told_answer ended → LogFlushLeft {T = Unit {0}} old.setup old.number handle lsn ended old.seen new.seen → LineServed old new (action.LogFlush handle lsn) told names names
  log_flush-line handle lsn ended is left = record {
    served = λ bounds bindings stand right. (
      subst (λ t. LogFlushAnswered old.setup old.number handle lsn t old.seen new.seen) (sym is) (by ended left),
      stand-on old new went good bounds bindings names (λ id. log_flush-unchanged old.setup old.number id handle lsn ended old.seen new.seen left) stand,
    );
    full = inl full;
    goes_on = went;
    good = good;
    room = refl;
    placed = refl;
  }
    where
      by : (ended : Result (Unit {0}) CcError) → LogFlushLeft {T = Unit {0}} old.setup old.number handle lsn ended old.seen new.seen → LogFlushAnswered old.setup old.number handle lsn (told_answer ended) old.seen new.seen
      by (Ok done) left = left
      by (Err e) left = left

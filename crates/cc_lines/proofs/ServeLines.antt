-- How a line that is served goes by its action and its answer: what its call asks, and that it ends as a line is to.
use Rattle.std.specs.Prelude.{◌≡◌, ℕ, ◌<◌, ◌≤◌, Bool, Result, Ok, Err, List, length, refl}
use Rattle.std.specs.declared.option.Option.{Option}
use Rattle.std.specs.declared.option.Option.TheVariants.{Some}
use Rattle.std.proofs.Common.{sym, ap, subst, ◌∙◌, arith, inl}
use Rattle.cc_entry.specs.Place.{File, Range}
use Rattle.cc_entry.specs.declared.answer.Answer.{Answer}
use Rattle.cc_entry.specs.declared.call.Call.{Call}
use Rattle.cc_entry.specs.declared.call.Call.TheVariants as call
use Rattle.cc_entry.specs.declared.entry.Entry.{Entry}
use Rattle.cc_entry.specs.declared.error.CcError.{CcError}
use Rattle.cc_entry.specs.declared.query.Query.{Query}
use Rattle.cc_entry.specs.declared.reply.Reply.{Reply}
use Rattle.cc_script.specs.declared.script.Action.{Action}
use Rattle.cc_script.specs.declared.script.Action.TheVariants as action
use Rattle.cc_model.specs.Good.{IsGood}
use Rattle.cc_model.specs.Setup.{Setup}
use Rattle.cc_effects.specs.Calls.{CallLeft}
use Rattle.cc_effects.specs.LogCalls.{LogFlushLeft}
use Rattle.cc_pieces.specs.Answered.{CallAnswered, FlushAnswered}
use Rattle.cc_step.specs.Step.{most_asked}
use Rattle.cc_calls.specs.Answers.{CallEnds, CanCall, IsFree, flag_outcome, outcome_of}
use Rattle.cc_calls.specs.Flushes.{FlushEnds}
use Rattle.cc_calls.specs.Logs.{LogEnds}
use Rattle.cc_calls.specs.Pages.{ChangeEnds}
use Rattle.cc_calls.specs.Discards.{DiscardEnds}
use Rattle.cc_calls.specs.Queries.{AskEnds, reply_outcome}
use Rattle.cc_calls.specs.Purges.{PurgeEnds}
use Rattle.cc_turns.specs.Standing.{Standing}
use Rattle.cc_writes.specs.Ways.{IsFull}
use Rattle.cc_lines.specs.Holds.{NamesState}
use Rattle.cc_lines.specs.Line.{CanServe, IsFullTold, LineServed, flag_told, reply_answer, told_answer}
use Rattle.cc_calls.proofs.Paging.{full-within, most_room, writing-within}
use Rattle.cc_lines.proofs.WordLines.{answered-unchanged, full-told, stand-on, went-on}
use Rattle.cc_lines.proofs.UseLines.{told-answered, told-full}
use Rattle.cc_lines.proofs.PlainLines.{log_flush-line, plain-line, plain_call}

-- ---- the same line by another name of its answer, or of its action

pub told-as : (old new : Standing) (asked : Action) (told it : Answer) (was now : NamesState) → told ≡ it → LineServed old new asked it was now → LineServed old new asked told was now
told-as old new asked told it was now is ends = subst (λ t. LineServed old new asked t was now) (sym is) ends

pub asked-as : (old new : Standing) (asked it : Action) (told : Answer) (was now : NamesState) → asked ≡ it → LineServed old new it told was now → LineServed old new asked told was now
asked-as old new asked it told was now is ends = subst (λ a. LineServed old new a told was now) (sym is) ends

pub can-as : (w : Standing) (asked it : Action) (names : NamesState) → asked ≡ it → CanServe w asked names → CanServe w it names
can-as w asked it names is can = subst (λ a. CanServe w a names) is can

-- what a call on a stream asks, and one on none
pub may-on : (w : Standing) (asked : Action) (names : NamesState) (stream : ℕ) → CanServe w asked names → stream < w.streams → CanCall w stream
may-on w asked names stream can known = record { known = known; free = can.free; none = can.none }

pub may-free : (w : Standing) (asked : Action) (names : NamesState) → CanServe w asked names → IsFree w
may-free w asked names can = record { free = can.free; none = can.none }

-- ---- a line that binds a word binds the next one

module _ (w : Standing) (asked : Action) (names : NamesState) (can : CanServe w asked names) where
  pub next-map : (file : File) (at len word : ℕ) → asked ≡ action.Map file at len word → asked ≡ action.Map file at len (length names.named)
  next-map file at len word is =
      let there = can-as w asked (action.Map file at len word) names is can in
      is ∙ ap (λ n. action.Map file at len n) (there.right ∙ sym there.stand.counted)

  pub next-pin : (file : File) (at len word : ℕ) (exclusive : Bool) → asked ≡ action.PinRead file at len word exclusive → asked ≡ action.PinRead file at len (length names.named) exclusive
  next-pin file at len word exclusive is =
      let there = can-as w asked (action.PinRead file at len word exclusive) names is can in
      is ∙ ap (λ n. action.PinRead file at len n exclusive) (there.right ∙ sym there.stand.counted)

  pub next-prepare : (file : File) (at len word : ℕ) (zero exclusive : Bool) → asked ≡ action.PreparePin file at len word zero exclusive → asked ≡ action.PreparePin file at len (length names.named) zero exclusive
  next-prepare file at len word zero exclusive is =
      let there = can-as w asked (action.PreparePin file at len word zero exclusive) names is can in
      is ∙ ap (λ n. action.PreparePin file at len n zero exclusive) (there.right ∙ sym there.stand.counted)

  pub next-chain : (file : File) (at len word : ℕ) → asked ≡ action.MdlRead file at len word → asked ≡ action.MdlRead file at len (length names.named)
  next-chain file at len word is =
      let there = can-as w asked (action.MdlRead file at len word) names is can in
      is ∙ ap (λ n. action.MdlRead file at len n) (there.right ∙ sym there.stand.counted)

  pub next-write_chain : (file : File) (at len word : ℕ) → asked ≡ action.MdlWrite file at len word → asked ≡ action.MdlWrite file at len (length names.named)
  next-write_chain file at len word is =
      let there = can-as w asked (action.MdlWrite file at len word) names is can in
      is ∙ ap (λ n. action.MdlWrite file at len n) (there.right ∙ sym there.stand.counted)

  pub next-repin : (word made : ℕ) → asked ≡ action.Repin word made → asked ≡ action.Repin word (length names.named)
  next-repin word made is =
      let there = can-as w asked (action.Repin word made) names is can in
      is ∙ ap (λ n. action.Repin word n) (there.right.1 ∙ sym there.stand.counted)

-- ---- a line that makes a call on no hold

flag-answered : (u : Setup) (me : ℕ) (it : Call) (ended : Result Bool CcError) (old new : List Entry) → CallLeft u me it (flag_outcome ended) old new → CallAnswered u me it (flag_told ended) old new
flag-answered u me it (Ok flag) old new left = left
flag-answered u me it (Err e) old new left = left

flag-full : (n : ℕ) (w : Standing) (ended : Result Bool CcError) → n ≤ 3 → IsFull n w ended → IsFullTold w (flag_told ended)
flag-full n w (Ok flag) less full = tt
flag-full n w (Err e) less full = full-told n w e less full

reply-answered : (u : Setup) (me : ℕ) (it : Call) (ended : Result Reply CcError) (old new : List Entry) → CallLeft u me it (reply_outcome ended) old new → CallAnswered u me it (reply_answer ended) old new
reply-answered u me it (Ok r) old new left = left
reply-answered u me it (Err e) old new left = left

reply-full : (n : ℕ) (w : Standing) (ended : Result Reply CcError) → n ≤ 3 → IsFull n w ended → IsFullTold w (reply_answer ended)
reply-full n w (Ok r) less full = tt
reply-full n w (Err e) less full = full-told n w e less full

module _ (old new : Standing) (names : NamesState) (asked : Action) (told : Answer) (good : IsGood old.setup old.seen) where
  -- a change of bytes that is not through a hold
  pub change-line : (it : Call) (ended : Result (Unit {0}) CcError) → plain_call asked ≡ Some it → most_room it ≤ 3 → told ≡ told_answer ended → ChangeEnds old new it ended → LineServed old new asked told names names
  change-line it ended is less tells ends =
      told-as old new asked told (told_answer ended) names names tells
      (plain-line old new (told_answer ended) names (told-full (most_room it) new ended less (full-within it old new ended ends.full)) ends.pages.goes_on (ends.pages.good good) asked it is
      (told-answered old.setup old.number it ended old.seen new.seen ends.pages.left))

  -- a call that sets something
  pub set-line : (it : Call) (ended : Result (Unit {0}) CcError) → plain_call asked ≡ Some it → most_asked it ≤ 3 → told ≡ told_answer ended → CallEnds outcome_of old new it ended → LineServed old new asked told names names
  set-line it ended is less tells ends =
      told-as old new asked told (told_answer ended) names names tells
      (plain-line old new (told_answer ended) names (told-full (most_asked it) new ended less ends.full) (went-on old new ends.goes_on) (ends.good good) asked it is
      (told-answered old.setup old.number it ended old.seen new.seen ends.left))

  -- a flush, of which the order of its begins is asked too
  pub flush-line : (file : File) (span : Option Range) (ended : Result (Unit {0}) CcError) → asked ≡ action.Flush file span → told ≡ told_answer ended → FlushEnds old new file span ended → LineServed old new asked told names names
  flush-line file span ended is tells ends = asked-as old new asked (action.Flush file span) told names names is (told-as old new (action.Flush file span) told (told_answer ended) names names tells line)
    where
      flushed : FlushAnswered old.setup old.number file span (told_answer ended) old.seen new.seen
      flushed = record { left = told-answered old.setup old.number (call.Flush file span) ended old.seen new.seen ends.left; ascending = ends.ascending }

      line : LineServed old new (action.Flush file span) (told_answer ended) names names
      line = record {
        served = λ bounds bindings stand right. (
          flushed,
          stand-on old new ends.goes_on ends.good bounds bindings names
              (λ id. answered-unchanged old.setup old.number id (call.Flush file span) (told_answer ended) old.seen new.seen flushed.left refl)
              stand,
        );
        full = inl (told-full 2 new ended (omega arith) (writing-within (call.Flush file span) new ended ends.full));
        goes_on = ends.goes_on;
        good = ends.good;
        room = refl;
        placed = refl;
      }

  pub purge-line : (file : File) (span : Option Range) (ended : Result (Unit {0}) CcError) → plain_call asked ≡ Some (call.Purge file span) → told ≡ told_answer ended → PurgeEnds old new file span ended → LineServed old new asked told names names
  purge-line file span ended is tells ends =
      told-as old new asked told (told_answer ended) names names tells
      (plain-line old new (told_answer ended) names (told-full 2 new ended (omega arith) (writing-within (call.Purge file span) new ended ends.full)) ends.goes_on ends.good asked (call.Purge file span) is
      (told-answered old.setup old.number (call.Purge file span) ended old.seen new.seen ends.left))

  pub discard-line : (file : File) (span : Option Range) (ended : Result (Unit {0}) CcError) → plain_call asked ≡ Some (call.Discard file span) → told ≡ told_answer ended → DiscardEnds old new file span ended → LineServed old new asked told names names
  discard-line file span ended is tells ends =
      told-as old new asked told (told_answer ended) names names tells
      (plain-line old new (told_answer ended) names (told-full 1 new ended (omega arith) ends.full) ends.goes_on ends.good asked (call.Discard file span) is
      (told-answered old.setup old.number (call.Discard file span) ended old.seen new.seen ends.left))

  -- a query
  pub query-line : (it : Query) (ended : Result Reply CcError) → plain_call asked ≡ Some (call.Query it) → told ≡ reply_answer ended → AskEnds old new it ended → LineServed old new asked told names names
  query-line it ended is tells ends =
      told-as old new asked told (reply_answer ended) names names tells
      (plain-line old new (reply_answer ended) names (reply-full (most_room (call.Query it)) new ended (omega arith) (full-within (call.Query it) old new ended ends.full)) ends.pages.goes_on (ends.pages.good good) asked (call.Query it) is
      (reply-answered old.setup old.number (call.Query it) ended old.seen new.seen ends.pages.left))

  -- a call that answers a flag
  pub flag-line : (it : Call) (ended : Result Bool CcError) → plain_call asked ≡ Some it → most_asked it ≤ 3 → told ≡ flag_told ended → CallEnds flag_outcome old new it ended → LineServed old new asked told names names
  flag-line it ended is less tells ends =
      told-as old new asked told (flag_told ended) names names tells
      (plain-line old new (flag_told ended) names (flag-full (most_asked it) new ended less ends.full) (went-on old new ends.goes_on) (ends.good good) asked it is
      (flag-answered old.setup old.number it ended old.seen new.seen ends.left))

  -- a flush of a log
  pub flushed-line : (handle lsn : ℕ) (ended : Result (Unit {0}) CcError) → told ≡ told_answer ended → LogEnds old new (LogFlushLeft old.setup old.number handle lsn) ended → LineServed old new (action.LogFlush handle lsn) told names names
  flushed-line handle lsn ended tells ends =
      log_flush-line old new told names (subst (IsFullTold new) (sym tells) (told-full 1 new ended (omega arith) ends.full)) (went-on old new ends.goes_on) (ends.good good) handle lsn ended tells ends.left

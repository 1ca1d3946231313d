-- Lines that end the hold that a word names, pin it or hold it again: that they end as a line is to.
use Rattle.std.specs.Prelude.{◌≡◌, ◌≢◌, ℕ, ◌^◌, ◌||◌, Bool, true, false, Result, Ok, Err, List, slice_get, slice_set, refl}
use Rattle.std.specs.declared.option.Option.TheVariants.{Some, None}
use Rattle.std.proofs.Common.{sym, ap, arith, inl}
use Rattle.std.proofs.lemmas.Bool.{ne_eqb}
use Rattle.cc_entry.specs.Kinds.{is_map, is_pin, is_repin, is_read_chain, is_write_chain}
use Rattle.cc_entry.specs.declared.answer.Answer.{Answer}
use Rattle.cc_entry.specs.declared.answer.Answer.TheVariants as answer
use Rattle.cc_entry.specs.declared.call.Call.TheVariants as call
use Rattle.cc_entry.specs.declared.error.CcError.{CcError}
use Rattle.cc_entry.specs.declared.hold.HoldKind.{HoldKind}
use Rattle.cc_entry.specs.declared.reply.Reply.TheVariants as reply
use Rattle.cc_script.specs.HoldWords.{UsesHold, UsesRight, as_ended, bound_after, with_hold_changed}
use Rattle.cc_script.specs.declared.bound.Bound.{Bound}
use Rattle.cc_script.specs.declared.bound.Need.{Need}
use Rattle.cc_script.specs.declared.bound.Need.TheVariants as need
use Rattle.cc_script.specs.declared.script.Action.{Action}
use Rattle.cc_script.specs.declared.script.Action.TheVariants as action
use Rattle.cc_model.specs.Good.{IsGood}
use Rattle.cc_model.specs.Setup.{Setup}
use Rattle.cc_effects.specs.Begins.{BeginsAscending}
use Rattle.cc_effects.specs.Repins.{UnpinLeft}
use Rattle.cc_effects.proofs.Stretches.{idle-none}
use Rattle.cc_own.specs.Own.{IsUnchanged}
use Rattle.cc_own.proofs.Unchanged.{unchanged-idle}
use Rattle.cc_own.proofs.VerbsKeep.{unpin-unchanged}
use Rattle.cc_pieces.specs.Answered.{CallAnswered}
use Rattle.cc_pieces.specs.Bindings.{Binding, hold_named}
use Rattle.cc_pieces.specs.HoldLines.{UnpinAnswered}
use Rattle.cc_pieces.specs.Served.{Served, bindings_after}
use Rattle.cc_calls.specs.Answers.{outcome_of}
use Rattle.cc_calls.specs.Pages.{WentOn}
use Rattle.cc_turns.specs.Standing.{Standing}
use Rattle.cc_calls.specs.Ends.{HoldEnded, UnpinEnds}
use Rattle.cc_calls.specs.Held.{held_range}
use Rattle.cc_calls.specs.declared.held.Held.{Held}
use Rattle.cc_calls.proofs.Paging.{writing-within}
use Rattle.cc_lines.specs.Holds.{NamesState, named_held, kind_of, named_at}
use Rattle.cc_lines.specs.Line.{CanServe, IsFullTold, LineServed, NamesStandFor, told_answer}
use Rattle.cc_lines.specs.declared.holds.Named.{Named}
use Rattle.cc_lines.specs.declared.holds.Named.TheVariants as named
use Rattle.cc_lines.proofs.WordChanges.{others-kept, stand-ended}
use Rattle.cc_lines.proofs.WordLines.{named-hold, on-hold, on-none, serves_word, went-none, went-on}
use Rattle.cc_lines.proofs.UseLines.{has-word, no-word, told-full}

-- ---- the end of a hold

-- A line that takes out what a word names.
module _ (old new : Standing) (names now : NamesState) (word : ℕ) (taken : now ≡ record names { named = slice_set names.named word None }) where
  taking : (asked : Action) (told : Answer) (n : Need) → WentOn old new → IsGood old.setup new.seen → IsFullTold new told → ((bounds : List Bound) → UsesRight bounds asked → UsesHold n bounds word) → ((bounds : List Bound) (bindings : List Binding) → NamesStandFor old bounds bindings names → UsesHold n bounds word → (other : ℕ) (another : Named) → other ≢ word → named_at names.named other ≡ Some another → IsUnchanged old.number (named_held another).id old.seen new.seen) → ((bounds : List Bound) (bindings : List Binding) → NamesStandFor old bounds bindings names → UsesHold n bounds word → Served old.setup old.number bindings asked told old.seen new.seen) → ((bounds : List Bound) (bindings : List Binding) → NamesStandFor new (with_hold_changed as_ended (slice_get bounds word) bounds word) bindings now → NamesStandFor new (bound_after asked bounds) (bindings_after asked told bindings) now) → LineServed old new asked told names now
  taking asked told n went good full uses keeps left stands = record {
    served = λ bounds bindings stand right. (
      left bounds bindings stand (uses bounds right),
      stands bounds bindings (stand-ended old new went good bounds bindings names stand n word (uses bounds right) now (ap (λ m. m.named) taken) (keeps bounds bindings stand (uses bounds right))),
    );
    full = inl full;
    goes_on = went;
    good = good;
    room = ap (λ m. m.room) taken;
    placed = ap (λ m. m.places) taken;
  }

  -- it ends the hold
  module _ (it : Named) (is : named_at names.named word ≡ Some it) (ends : HoldEnded old new (named_held it)) where
    ending : (asked : Action) (n : Need) → ((bounds : List Bound) → UsesRight bounds asked → UsesHold n bounds word) → ((bounds : List Bound) (bindings : List Binding) → NamesStandFor old bounds bindings names → UsesHold n bounds word → Served old.setup old.number bindings asked (answer.Given reply.Unit) old.seen new.seen) → ((bounds : List Bound) (bindings : List Binding) → NamesStandFor new (with_hold_changed as_ended (slice_get bounds word) bounds word) bindings now → NamesStandFor new (bound_after asked bounds) (bindings_after asked (answer.Given reply.Unit) bindings) now) → LineServed old new asked (answer.Given reply.Unit) names now
    ending asked n uses left stands =
        taking asked (answer.Given reply.Unit) n went ends.good tt uses
        (λ bounds bindings stand used. others-kept old new went ends.good bounds bindings names stand n word used now it (call.EndHold (named_held it).id) (answer.Given reply.Unit) is ends.left (λ id apart. apart))
        left stands
      where
        went : WentOn old new
        went = went-on old new ends.goes_on

    by-kind : (bounds : List Bound) (bindings : List Binding) (n : Need) (of_kind : HoldKind → Bool) → NamesStandFor old bounds bindings names → UsesHold n bounds word → of_kind (kind_of it) ≡ true → hold_named bindings word of_kind ≡ Some (named_held it).id
    by-kind bounds bindings n of_kind stand used serves =
        named-hold old.streams old.number old.seen word used.bound bindings it of_kind (has-word old names bounds bindings n word it stand used is) serves

    pub unpin-line : (is_map (kind_of it) || is_pin (kind_of it)) ≡ true → LineServed old new (action.Unpin word) (answer.Given reply.Unit) names now
    unpin-line serves =
        ending (action.Unpin word) need.MapOrPin (λ bounds right. right)
        (λ bounds bindings stand used. on-hold old.number (named_held it).id _ (λ id. CallAnswered old.setup old.number (call.EndHold id)) (answer.Given reply.Unit) old.seen new.seen
        (by-kind bounds bindings need.MapOrPin (λ its_kind. is_map its_kind || is_pin its_kind) stand used serves) ends.left)
        (λ bounds bindings stand. stand)

    pub done-line : (is_read_chain (kind_of it) || is_write_chain (kind_of it)) ≡ true → LineServed old new (action.MdlDone word) (answer.Given reply.Unit) names now
    done-line serves =
        ending (action.MdlDone word) need.Chain (λ bounds right. right)
        (λ bounds bindings stand used. on-hold old.number (named_held it).id _ (λ id. CallAnswered old.setup old.number (call.EndHold id)) (answer.Given reply.Unit) old.seen new.seen
        (by-kind bounds bindings need.Chain (λ its_kind. is_read_chain its_kind || is_write_chain its_kind) stand used serves) ends.left)
        (λ bounds bindings stand. stand)

    pub abort-line : is_write_chain (kind_of it) ≡ true → LineServed old new (action.MdlAbort word) (answer.Given reply.Unit) names now
    abort-line serves =
        ending (action.MdlAbort word) need.WriteChain (λ bounds right. right)
        (λ bounds bindings stand used. on-hold old.number (named_held it).id _ (λ id. CallAnswered old.setup old.number (call.EndHold id)) (answer.Given reply.Unit) old.seen new.seen
        (by-kind bounds bindings need.WriteChain is_write_chain stand used serves) ends.left)
        (λ bounds bindings stand. stand)

  unrepin-answered : (u : Setup) (me id : ℕ) (through : Bool) (ended : Result (Unit {0}) CcError) → UnpinLeft u me id through (outcome_of ended) old.seen new.seen → BeginsAscending me 0 (2 ^ 51) old.seen new.seen → UnpinAnswered u me through id (told_answer ended) old.seen new.seen
  unrepin-answered u me id through (Ok done) left ascending = record { left = left; ascending = ascending }
  unrepin-answered u me id through (Err e) left ascending = record { left = left; ascending = ascending }

  pub unrepin-line : (held : Held) (through : Bool) (ended : Result (Unit {0}) CcError) → named_at names.named word ≡ Some (named.Repin held) → UnpinEnds old new held through ended → LineServed old new (action.UnpinRepinned word through) (told_answer ended) names now
  unrepin-line held through ended is ends =
      taking (action.UnpinRepinned word through) (told_answer ended) need.Repin ends.goes_on ends.good (told-full 2 new ended (omega arith) (writing-within (call.Flush held.file (Some (held_range held))) new ended ends.full)) (λ bounds right. right)
      (λ bounds bindings stand used other another differ also. unpin-unchanged old.setup old.number (named_held another).id held.id through (outcome_of ended) old.seen new.seen ends.left
      (ne_eqb held.id (named_held another).id (stand.apart word other (named.Repin held) another (λ e. differ (sym e)) is also)))
      (λ bounds bindings stand used. on-hold old.number held.id _ (UnpinAnswered old.setup old.number through) (told_answer ended) old.seen new.seen
      (named-hold old.streams old.number old.seen word used.bound bindings (named.Repin held) is_repin (has-word old names bounds bindings need.Repin word (named.Repin held) stand used is) refl)
      (unrepin-answered old.setup old.number held.id through ended ends.left ends.ascending))
      (λ bounds bindings stand. stand)

-- The word names no hold that the line may end.
module _ (w : Standing) (names now : NamesState) (word : ℕ) (taken : now ≡ record names { named = slice_set names.named word None }) where
  none-ended : (asked : Action) (n : Need) → CanServe w asked names → ((bounds : List Bound) → UsesRight bounds asked → UsesHold n bounds word) → ((bounds : List Bound) (bindings : List Binding) → NamesStandFor w bounds bindings names → UsesHold n bounds word → Served w.setup w.number bindings asked answer.NoHold w.seen w.seen) → ((bounds : List Bound) (bindings : List Binding) → NamesStandFor w (with_hold_changed as_ended (slice_get bounds word) bounds word) bindings now → NamesStandFor w (bound_after asked bounds) (bindings_after asked answer.NoHold bindings) now) → LineServed w w asked answer.NoHold names now
  none-ended asked n can uses left stands =
      taking w w names now word taken asked answer.NoHold n (went-none w) can.good tt uses
      (λ bounds bindings stand used other another differ also. unchanged-idle w.number (named_held another).id w.seen w.seen (idle-none w.number w.seen))
      left stands

  pub no-unpin : CanServe w (action.Unpin word) names → serves_word (λ its_kind. is_map its_kind || is_pin its_kind) (named_at names.named word) ≡ false → LineServed w w (action.Unpin word) answer.NoHold names now
  no-unpin can none =
      none-ended (action.Unpin word) need.MapOrPin can (λ bounds right. right)
      (λ bounds bindings stand used. on-none w.number _ (λ id. CallAnswered w.setup w.number (call.EndHold id)) w.seen (no-word w names bounds bindings need.MapOrPin word (λ its_kind. is_map its_kind || is_pin its_kind) stand used none))
      (λ bounds bindings stand. stand)

  pub no-done : CanServe w (action.MdlDone word) names → serves_word (λ its_kind. is_read_chain its_kind || is_write_chain its_kind) (named_at names.named word) ≡ false → LineServed w w (action.MdlDone word) answer.NoHold names now
  no-done can none =
      none-ended (action.MdlDone word) need.Chain can (λ bounds right. right)
      (λ bounds bindings stand used. on-none w.number _ (λ id. CallAnswered w.setup w.number (call.EndHold id)) w.seen (no-word w names bounds bindings need.Chain word (λ its_kind. is_read_chain its_kind || is_write_chain its_kind) stand used none))
      (λ bounds bindings stand. stand)

  pub no-abort : CanServe w (action.MdlAbort word) names → serves_word is_write_chain (named_at names.named word) ≡ false → LineServed w w (action.MdlAbort word) answer.NoHold names now
  no-abort can none =
      none-ended (action.MdlAbort word) need.WriteChain can (λ bounds right. right)
      (λ bounds bindings stand used. on-none w.number _ (λ id. CallAnswered w.setup w.number (call.EndHold id)) w.seen (no-word w names bounds bindings need.WriteChain word is_write_chain stand used none))
      (λ bounds bindings stand. stand)

  pub no-unrepin : (through : Bool) → CanServe w (action.UnpinRepinned word through) names → serves_word is_repin (named_at names.named word) ≡ false → LineServed w w (action.UnpinRepinned word through) answer.NoHold names now
  no-unrepin through can none =
      none-ended (action.UnpinRepinned word through) need.Repin can (λ bounds right. right)
      (λ bounds bindings stand used. on-none w.number _ (UnpinAnswered w.setup w.number through) w.seen (no-word w names bounds bindings need.Repin word is_repin stand used none))
      (λ bounds bindings stand. stand)

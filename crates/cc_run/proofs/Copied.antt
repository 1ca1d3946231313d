-- What the callers have at the one queue of copied reads of a run.
use Rattle.std.specs.Prelude.{◌≡◌, ℕ, zero, suc, ◌+◌, ◌<◌, ◌≤◌, ◌==◌, Bool, true, false, List, [], ◌∷◌, ◌++◌, cond, length, map, drop, slice_get, refl, if◌then◌else◌}
use Rattle.std.specs.declared.option.Option.TheVariants.{Some}
use Rattle.std.specs.List.{AllByRecursion, count_by}
use Rattle.std.proofs.Common.{ap, sym, subst, ◌∙◌, arith}
use Rattle.std.proofs.lemmas.List.{length-map}
use Rattle.std.proofs.lemmas.List.Sums.{sum_by-append}
use Rattle.std.proofs.lemmas.Option.{slice_get_within}
use Rattle.cc_async.specs.declared.queue.QueuedRead.{QueuedRead}
use Rattle.cc_entry.specs.declared.answer.Answer.{Answer}
use Rattle.cc_entry.specs.declared.answer.LineReply.{LineReply}
use Rattle.cc_entry.specs.declared.entry.Entry.{Entry}
use Rattle.cc_entry.specs.declared.place.Request.{Request}
use Rattle.cc_script.specs.declared.script.Action.{Action}
use Rattle.cc_script.specs.declared.script.Action.TheVariants as action
use Rattle.cc_script.specs.declared.script.ActionLine.{ActionLine}
use Rattle.cc_script.specs.declared.script.Script.{Script}
use Rattle.cc_script.specs.Within.{ScriptIsWithin}
use Rattle.cc_model.specs.Setup.{Setup}
use Rattle.cc_lines.specs.Holds.{NamesState}
use Rattle.cc_lines.specs.Queues.{copies_of, new_places}
use Rattle.cc_lines.specs.declared.queues.Queues.{Queues}
use Rattle.cc_pieces.specs.AsyncQueue.{AsyncPlace, AsyncRan, HasQueued, finds_empty, finds_full, reads_done, reads_queued, with_done, with_queued}
use Rattle.cc_pieces.specs.Queue.{lines_told}
use Rattle.cc_pieces.specs.Runs.{asked_of}
use Rattle.cc_pieces.proofs.AsyncPlaces.{has-queued, untouched}
use Rattle.cc_queue.specs.Places.{PlaceState}
use Rattle.cc_restarts.specs.declared.ended.LogRestart.{LogRestart}
use Rattle.cc_run.specs.Lines.{asked_by_caller}
use Rattle.cc_program.specs.Runs.{given_of, run_answered}
use Rattle.cc_run.specs.Once.{AllTellPart, AreToldOnce, TellsPart}
use Rattle.cc_run.specs.Phases.{PhasesServed}
use Rattle.cc_run.specs.Places.{AreAsyncQueued, PlacesRan}
use Rattle.cc_run.proofs.Lists.{there}
use Rattle.cc_run.proofs.Queued.{few-asked}
use Rattle.cc_run.specs.Begun.{RunHasBegun}
use Rattle.cc_run.proofs.Begins.{kept-behind}
use Rattle.cc_run.proofs.ToldOnce.{told-parts}

-- ---- what the lines of the queue are told is told still

-- lines are told the same at the queue
record TellSame (after before : List (Action × Answer)) : Type 0 where
  queued : reads_queued after ≡ reads_queued before
  done : reads_done after ≡ reads_done before
  empties : count_by finds_empty after ≡ count_by finds_empty before
  fulls : count_by finds_full after ≡ count_by finds_full before

-- a line in front of others counts with them
counted-more : (test : Action × Answer → Bool) (line : Action × Answer) (lines : List (Action × Answer)) → count_by test (line ∷ lines) ≡ count_by test (line ∷ []) + count_by test lines
counted-more test line lines = sum_by-append (λ l. cond (test l) 1 0) (line ∷ []) lines

same-line : (asked : Action) (told kept : Answer) (after before : List (Action × Answer)) → TellsPart asked told kept → TellSame after before → TellSame ((asked, kept) ∷ after) ((asked, told) ∷ before)
same-line action.Post told kept after before part rest =
    record { queued = rest.queued; done = rest.done; empties = rest.empties; fulls = rest.fulls }
same-line asked told kept after before part rest =
    let is : kept ≡ told = part in
    subst (λ answer. TellSame ((asked, answer) ∷ after) ((asked, told) ∷ before)) (sym is)
    (record {
      queued = ap (with_queued asked told) rest.queued;
      done = ap (with_done asked told) rest.done;
      empties =
          counted-more finds_empty (asked, told) after
          ∙ (ap (λ n. count_by finds_empty ((asked, told) ∷ []) + n) rest.empties ∙ sym (counted-more finds_empty (asked, told) before));
      fulls =
          counted-more finds_full (asked, told) after
          ∙ (ap (λ n. count_by finds_full ((asked, told) ∷ []) + n) rest.fulls ∙ sym (counted-more finds_full (asked, told) before));
    })

none-same : TellSame [] []
none-same = record { queued = refl; done = refl; empties = refl; fulls = refl }

part-same : (own : ActionLine → Bool) (lines : List ActionLine) (replies kept : List LineReply) → AllTellPart lines replies kept → TellSame (asked_of own lines kept) (asked_of own lines replies)
part-same own [] [] [] part = none-same
part-same own [] [] (reply ∷ kept) part = absurd part
part-same own [] (reply ∷ replies) kept part = absurd part
part-same own (line ∷ lines) [] kept part = absurd part
part-same own (line ∷ lines) (reply ∷ replies) [] part = absurd part
part-same own (line ∷ lines) (reply ∷ replies) (one ∷ kept) part = by (own line) (part-same own lines replies kept part.2)
  where
    after : List (Action × Answer)
    after = asked_of own lines kept

    before : List (Action × Answer)
    before = asked_of own lines replies

    by : (b : Bool) → TellSame after before → TellSame (if b then (line.action, one.answer) ∷ after else after) (if b then (line.action, reply.answer) ∷ before else before)
    by true rest = same-line line.action reply.answer one.answer after before part.1 rest
    by false rest = rest

-- so they did the same
same-ran : (me : ℕ) (after before : List (Action × Answer)) (was now : AsyncPlace) → TellSame after before → AsyncRan me before was now → AsyncRan me after was now
same-ran me after before was now same ran = record {
  queued = ran.queued ∙ ap (λ l. was.queued ++ l) (sym same.queued);
  numbered = rw same.queued ran.numbered;
  done = ran.done ∙ ap (λ l. was.done ++ l) (sym same.done);
  empties = rw same.empties ran.empties;
  fulls = rw same.fulls ran.fulls;
}

-- ---- the places of the callers

-- the place at a number, and the names that it is of
copied-at : (rows : List NamesState) (n : ℕ) (own : NamesState) (place : PlaceState QueuedRead) → slice_get rows n ≡ Some own → slice_get (map (λ (own : NamesState). own.places.copies) rows) n ≡ Some place → own.places.copies ≡ place
copied-at [] n own place at there = absurd (cc at)
copied-at (row ∷ rows) zero own place at there =
    let is : row ≡ own = cc at in
    let same : row.places.copies ≡ place = cc there in
    ap (λ (c : NamesState). c.places.copies) (sym is) ∙ same
copied-at (row ∷ rows) (suc n) own place at there = copied-at rows n own place at there

-- a new place is untouched
fresh-at : (queues : Queues) (rows : List NamesState) (n : ℕ) (own : NamesState) → AllByRecursion (λ (own : NamesState). own.places ≡ new_places queues) rows → slice_get rows n ≡ Some own → copies_of own.places.copies ≡ untouched
fresh-at queues [] n own fresh at = absurd (cc at)
fresh-at queues (row ∷ rows) zero own fresh at =
    let is : row ≡ own = cc at in
    ap (λ (c : NamesState). copies_of c.places.copies) (sym is) ∙ ap (λ p. copies_of p.copies) fresh.0
fresh-at queues (row ∷ rows) (suc n) own fresh at = fresh-at queues rows n own fresh.1 at

-- from where a run began
pub run-copied : (u v : Setup) (script : Script) (restarted : List LogRestart) (ended between replies kept all ticked stepped : List LineReply) (took : List Request) (ends begun past : List Entry) (was now : List NamesState) (places : List (PlaceState QueuedRead)) (queues : Queues) → ScriptIsWithin script → all ≡ ended ++ kept → places ≡ map (λ (own : NamesState). own.places.copies) now → RunHasBegun u script restarted ended between ends begun → PhasesServed v script.ticks script.aheads script.phases script.lines between replies ticked stepped took begun past → AreToldOnce script.streams script.lines replies kept → PlacesRan script.lines between replies was now begun past → length was ≡ 16 → length now ≡ 16 → AllByRecursion (λ (own : NamesState). own.places ≡ new_places queues) was → AreAsyncQueued (given_of script) (run_answered all ticked stepped) places
run-copied u v script restarted ended between replies kept all ticked stepped took ends begun past was now places queues within all_is are begins served told_once placed sixteen_was sixteen fresh = record {
  counted = ap length are ∙ (length-map now (λ (own : NamesState). own.places.copies) ∙ sixteen);
  each = λ n place at. caller n place (subst (λ l. slice_get l n ≡ Some place) are at);
}
  where
    all_kept : drop (length script.restarts) all ≡ kept
    all_kept = kept-behind u script restarted ended between kept all ends begun begins all_is

    part : AllTellPart script.lines served.answers (drop (length script.streams) (drop (length script.restarts) all))
    part =
        subst (λ l. AllTellPart script.lines served.answers (drop (length script.streams) l)) (sym all_kept)
        (subst (λ l. AllTellPart script.lines l (drop (length script.streams) kept))
        (told-parts script.streams begins.opened.answers served.answers between replies begins.opened.grew served.grew (sym (length-map begins.opened.answers (λ r. r.line)) ∙ (ap length begins.opened.lines_are ∙ length-map script.streams (λ s. s.line)))) told_once.part)

    caller : (n : ℕ) (place : PlaceState QueuedRead) → slice_get (map (λ (own : NamesState). own.places.copies) now) n ≡ Some place → HasQueued (given_of script) (run_answered all ticked stepped) (suc n) (copies_of place)
    caller n place at =
        let low : n < 16 = omega (arith, slice_get_within (map (λ (own : NamesState). own.places.copies) now) n place at, length-map now (λ (own : NamesState). own.places.copies), sixteen) in
        let a = there was n (omega (arith, low, sixteen_was)) in
        let b = there now n (omega (arith, low, sixteen)) in
        let own : ActionLine → Bool = λ line. line.caller == suc n in
        let went = (placed.each served.answers n a.0 b.0 served.grew a.1 b.1).copies.ran in
        let ran : AsyncRan (suc n) (asked_by_caller (suc n) script.lines served.answers) untouched (copies_of b.0.places.copies) =
        subst (λ p. AsyncRan (suc n) (asked_by_caller (suc n) script.lines served.answers) p (copies_of b.0.places.copies)) (fresh-at queues was n a.0 fresh a.1) went in
        let told = same-ran (suc n) (asked_of own script.lines (drop (length script.streams) (drop (length script.restarts) all))) (asked_by_caller (suc n) script.lines served.answers) untouched (copies_of b.0.places.copies)
        (part-same own script.lines served.answers (drop (length script.streams) (drop (length script.restarts) all)) part) ran in
        let few : length (lines_told (given_of script) (run_answered all ticked stepped) (suc n)) ≤ length script.lines =
        few-asked own script.lines (drop (length script.streams) (drop (length script.restarts) all)) in
        subst (λ p. HasQueued (given_of script) (run_answered all ticked stepped) (suc n) (copies_of p)) (copied-at now n b.0 place b.1 at)
        (has-queued (given_of script) (run_answered all ticked stepped) (suc n) (copies_of b.0.places.copies) told (omega (arith, few, within.few_lines)))

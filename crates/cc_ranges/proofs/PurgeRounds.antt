-- How a purge goes up its span once, and then empties it with nobody else there.
use Rattle.std.specs.Prelude.{◌≡◌, ℕ, ◌+◌, ◌<◌, ◌≤◌, ◌⊎◌, Bool, true, Result, Ok, Err, IfErr, OnOk, List, refl}
use Rattle.std.specs.declared.option.Option.{Option}
use Rattle.std.specs.declared.option.Option.TheVariants.{Some, None}
use Rattle.std.proofs.Common.{sym, subst, arith, inl, inr}
use Rattle.std.proofs.lemmas.Bool.{eq-eqb}
use Rattle.cc_entry.specs.Place.{File, Range}
use Rattle.cc_entry.specs.declared.call.Call.{Call}
use Rattle.cc_entry.specs.declared.call.Call.TheVariants as call
use Rattle.cc_entry.specs.declared.entry.Entry.{Entry}
use Rattle.cc_entry.specs.declared.entry.Entry.TheVariants as entry
use Rattle.cc_entry.specs.declared.error.CcError.{CcError}
use Rattle.cc_entry.specs.declared.reply.Outcome.TheVariants as outcome
use Rattle.cc_entry.specs.declared.reply.Reply.TheVariants as reply
use Rattle.cc_effects.specs.Moments.{IsIdle}
use Rattle.cc_effects.proofs.Stretches.{idle-none}
use Rattle.cc_model.specs.History.{Did, WentOut}
use Rattle.cc_turns.specs.Standing.{Standing}
use Rattle.cc_turns.specs.Takes.{Grows}
use Rattle.cc_writes.specs.Alone.{NobodyElseChanged}
use Rattle.cc_effects.specs.Begins.{BeginsAscending, BeginsNone, TakesNoneOut}
use Rattle.cc_writes.proofs.Alone.{alone-effectless, alone-grows, alone-placed, alone-then}
use Rattle.cc_effects.proofs.Begun.{ascend-none, ascend-then, none-behind, none-idle}
use Rattle.cc_writes.proofs.Begun.{stays-behind, stays-idle, stays-then}
use Rattle.cc_ranges.specs.Purge.{PurgeCameSoFar, PurgeHasFailed, PurgeHasLess, PurgeHasWritten, RoundPlaced, PurgeStepPlaced, WasEmptiedAlone, WentUpOnce, ended_of, left_to_empty, purge_round_of}
use Rattle.cc_ranges.specs.declared.purge.Round.{Round}
use Rattle.cc_ranges.specs.declared.purge.Round.TheVariants as round
use Rattle.cc_ranges.specs.declared.purge_visits.PurgeStep.TheVariants as step

idle-grows : (w : Standing) (seen : List Entry) → Grows w seen → IsIdle w.number w.seen seen
idle-grows w seen grows = record { during = grows.later; grew = grows.grew; others = grows.others }

-- it begins
pub up-begins : (me : ℕ) (past : List Entry) → WentUpOnce me 0 past past
up-begins me past =
    let idle = idle-none me past in
    record { begun = ascend-none me 0 0 past past (omega arith) (none-idle me past past idle); stays = stays-idle me past past idle }

-- it writes the next page
pub up-wrote : (me from to : ℕ) (old between new : List Entry) → WentUpOnce me from old between → PurgeHasWritten me from to between new → WentUpOnce me to old new
up-wrote me from to old between new first wrote = record {
  begun = ascend-then me 0 from to old between new first.begun wrote.begun;
  stays = stays-then me old between new first.stays wrote.stays;
}

-- others went on, and then a page was written
written-since : (me from to : ℕ) (old between new : List Entry) → IsIdle me old between → PurgeHasWritten me from to between new → PurgeHasWritten me from to old new
written-since me from to old between new idle wrote = record {
  begun = ascend-then me from from to old between new (ascend-none me from from old between (omega arith) (none-idle me old between idle)) wrote.begun;
  stays = stays-then me old between new (stays-idle me old between idle) wrote.stays;
}

-- the page lies from one page on
written-from : (me from page to : ℕ) (old new : List Entry) → from ≤ page → BeginsAscending me page to old new → TakesNoneOut me old new → PurgeHasWritten me from to old new
written-from me from page to old new from_is begun stays = record {
  begun = ascend-then me from page to old old new (ascend-none me from page old old from_is (none-idle me old old (idle-none me old))) begun;
  stays = stays;
}

-- the entry of a purge that failed
abbrev failing : ℕ → File → Option Range → CcError → ℕ → Entry
failing me file span e nth = entry.Call me nth (Some file.stream) (call.Purge file span) (outcome.Failed e)

-- what a round placed, by what its step did
module _ (w : Standing) (file : File) (span : Option Range) (from : ℕ) (keeps : Bool) (book : w.held.book ≡ Some file.stream) (device : w.held.device ≡ Some file.stream) where
  pub placed-ended : (answer : Result (Unit {0}) CcError) (seen : List Entry) → PurgeStepPlaced w file span from (step.Ended answer) seen → RoundPlaced w.number file.stream from keeps (round.Ended answer) w.seen seen
  placed-ended (Ok done) seen ended =
      alone-placed w file.stream book device (entry.Call w.number ended.nth (Some file.stream) (call.Purge file span) (outcome.Done reply.Unit)) (Did w.number (call.Purge file span) reply.Unit) seen
      (rw (eq-eqb file.stream file.stream refl) refl) refl ended.placed
  placed-ended (Err e) seen failed = (
    (from, record { begun = ascend-none w.number from from w.seen seen (omega arith) (none-failed failed); stays = stays-failed failed }),
    λ kept. alone-failed failed,
  )
    where
      none-failed : PurgeHasFailed w file span e seen → BeginsNone w.number w.seen seen
      none-failed (inl (nth, placed)) =
          subst (λ (past : List Entry). BeginsNone w.number w.seen past) (sym placed.placed)
          (none-behind w.number (failing w.number file span e nth) w.seen placed.front refl (none-idle w.number w.seen placed.front (idle-grows w placed.front placed.grows)))
      none-failed (inr grows) = none-idle w.number w.seen seen (idle-grows w seen grows)

      stays-failed : PurgeHasFailed w file span e seen → TakesNoneOut w.number w.seen seen
      stays-failed (inl (nth, placed)) =
          subst (λ (past : List Entry). TakesNoneOut w.number w.seen past) (sym placed.placed)
          (stays-behind w.number (failing w.number file span e nth) w.seen placed.front refl (stays-idle w.number w.seen placed.front (idle-grows w placed.front placed.grows)))
      stays-failed (inr grows) = stays-idle w.number w.seen seen (idle-grows w seen grows)

      alone-failed : PurgeHasFailed w file span e seen → NobodyElseChanged w.number file.stream w.seen seen
      alone-failed (inl (nth, placed)) = alone-effectless w file.stream book device (failing w.number file span e nth) seen refl placed
      alone-failed (inr grows) = alone-grows w file.stream book device seen grows

  pub placed-went : (seen : List Entry) → PurgeStepPlaced w file span from step.GoesOn seen → RoundPlaced w.number file.stream from keeps round.GoesOn w.seen seen
  placed-went seen (inl gone) =
      alone-placed w file.stream book device (entry.PageOut w.number (record { stream = file.stream; page = gone.page })) (WentOut w.number gone.page) seen
      (rw (eq-eqb file.stream file.stream refl) refl) refl gone.placed
  placed-went seen (inr (later, grows)) = alone-grows w file.stream book device seen grows

-- where the step asked for a page, which was written, or failed
pub placed-wrote : (w v : Standing) (file : File) (s from page : ℕ) (keeps : Bool) (written : Result Call CcError) (seen : List Entry) → w.held.book ≡ Some file.stream → w.held.device ≡ Some file.stream → v.number ≡ w.number → s ≡ file.stream → from ≤ page → Grows w v.seen → BeginsAscending v.number page (page + 1) v.seen seen → TakesNoneOut v.number v.seen seen → (keeps ≡ true → NobodyElseChanged v.number s v.seen seen) → RoundPlaced w.number file.stream from keeps (purge_round_of written page) w.seen seen
placed-wrote w v file s from page keeps written seen book device number here from_is grows begun stays alone = by written
  where
    wrote : PurgeHasWritten w.number from (page + 1) w.seen seen
    wrote =
        written-since w.number from (page + 1) w.seen v.seen seen (idle-grows w v.seen grows)
        (subst (λ (n : ℕ). PurgeHasWritten n from (page + 1) v.seen seen) number (written-from v.number from page (page + 1) v.seen seen from_is begun stays))

    alone-on : keeps ≡ true → NobodyElseChanged w.number file.stream w.seen seen
    alone-on kept =
        alone-then w.number file.stream w.seen v.seen seen (alone-grows w file.stream book device v.seen grows)
        (subst (λ (n : ℕ). NobodyElseChanged n file.stream v.seen seen) number
        (subst (λ (t : ℕ). NobodyElseChanged v.number t v.seen seen) here (alone kept)))

    by : (r : Result Call CcError) → RoundPlaced w.number file.stream from keeps (purge_round_of r page) w.seen seen
    by (Ok again) = (wrote, alone-on)
    by (Err e) = ((page + 1, wrote), alone-on)

-- a round that did not end the purge, with the book kept
pub still-alone : (me s from : ℕ) (came : Round) (old new : List Entry) → ended_of came ≡ None → RoundPlaced me s from true came old new → NobodyElseChanged me s old new
still-alone me s from (round.Ended answer) old new none placed = absurd (cc)
still-alone me s from (round.CameTo to) old new none placed = placed.1 refl
still-alone me s from round.GoesOn old new none placed = placed

pub still-less : (s : ℕ) (came : Round) (old new : List Entry) → ended_of came ≡ None → PurgeHasLess s came old new → left_to_empty s new < left_to_empty s old
still-less s (round.Ended answer) old new none less = absurd (cc)
still-less s (round.CameTo to) old new none less = less
still-less s round.GoesOn old new none less = less

-- one that ended it
pub ended-alone : (me s from : ℕ) (came : Round) (answer : Result (Unit {0}) CcError) (old between new : List Entry) → ended_of came ≡ Some answer → NobodyElseChanged me s old between → RoundPlaced me s from true came between new → NobodyElseChanged me s old new
ended-alone me s from (round.Ended (Ok done)) answer old between new is first placed = alone-then me s old between new first placed
ended-alone me s from (round.Ended (Err e)) answer old between new is first placed = alone-then me s old between new first (placed.1 refl)
ended-alone me s from (round.CameTo to) answer old between new is first placed = absurd (cc)
ended-alone me s from round.GoesOn answer old between new is first placed = absurd (cc)

-- the purge ended on its way up: it was done with nobody else there, or it failed
pub emptied-ended : (me s from : ℕ) (keeps : Bool) (answer : Result (Unit {0}) CcError) (old between new : List Entry) → WentUpOnce me from old between → RoundPlaced me s from keeps (round.Ended answer) between new → OnOk answer (WasEmptiedAlone me s old new)
emptied-ended me s from keeps (Ok done) old between new first placed = record { to = from; moment = between; first = first; alone = placed }
emptied-ended me s from keeps (Err e) old between new first placed = tt

pub failed-ended : (me s from : ℕ) (keeps : Bool) (answer : Result (Unit {0}) CcError) (old between new : List Entry) → WentUpOnce me from old between → RoundPlaced me s from keeps (round.Ended answer) between new → IfErr answer (λ e. PurgeCameSoFar me s old new)
failed-ended me s from keeps (Ok done) old between new first placed = tt
failed-ended me s from keeps (Err e) old between new first placed = inl (placed.0.0, up-wrote me from placed.0.0 old between new first placed.0.1)

-- or it had gone up its span once, and then nobody else changed the stream, whatever it answers
pub emptied-then : (me s from : ℕ) (old between then new : List Entry) → WentUpOnce me from old between → NobodyElseChanged me s between then → NobodyElseChanged me s then new → WasEmptiedAlone me s old new
emptied-then me s from old between then new first on alone = record { to = from; moment = between; first = first; alone = alone-then me s between then new on alone }

pub emptied-done : (me s : ℕ) (answer : Result (Unit {0}) CcError) (old new : List Entry) → WasEmptiedAlone me s old new → OnOk answer (WasEmptiedAlone me s old new)
emptied-done me s (Ok done) old new emptied = emptied
emptied-done me s (Err e) old new emptied = tt

pub emptied-failed : (me s : ℕ) (answer : Result (Unit {0}) CcError) (old new : List Entry) → WasEmptiedAlone me s old new → IfErr answer (λ e. PurgeCameSoFar me s old new)
emptied-failed me s (Ok done) old new emptied = tt
emptied-failed me s (Err e) old new emptied = inr emptied

-- nor was anything placed by the pass before it began
up-since : (me to : ℕ) (older old new : List Entry) → IsIdle me older old → WentUpOnce me to old new → WentUpOnce me to older new
up-since me to older old new idle up = record {
  begun = ascend-then me 0 0 to older old new (ascend-none me 0 0 older old (omega arith) (none-idle me older old idle)) up.begun;
  stays = stays-then me older old new (stays-idle me older old idle) up.stays;
}

alone-since : (me s : ℕ) (older old new : List Entry) → IsIdle me older old → WasEmptiedAlone me s old new → WasEmptiedAlone me s older new
alone-since me s older old new idle emptied = record {
  to = emptied.to;
  moment = emptied.moment;
  first = up-since me emptied.to older old emptied.moment idle emptied.first;
  alone = emptied.alone;
}

pub emptied-since : (me s : ℕ) (answer : Result (Unit {0}) CcError) (older old new : List Entry) → IsIdle me older old → OnOk answer (WasEmptiedAlone me s old new) → OnOk answer (WasEmptiedAlone me s older new)
emptied-since me s (Ok done) older old new idle emptied = alone-since me s older old new idle emptied
emptied-since me s (Err e) older old new idle emptied = tt

pub failed-since : (me s : ℕ) (answer : Result (Unit {0}) CcError) (older old new : List Entry) → IsIdle me older old → IfErr answer (λ e. PurgeCameSoFar me s old new) → IfErr answer (λ e. PurgeCameSoFar me s older new)
failed-since me s (Ok done) older old new idle came = tt
failed-since me s (Err e) older old new idle (inl (to, up)) = inl (to, up-since me to older old new idle up)
failed-since me s (Err e) older old new idle (inr emptied) = inr (alone-since me s older old new idle emptied)

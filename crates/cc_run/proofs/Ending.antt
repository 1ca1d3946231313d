-- The restarts that were ended so far.
use Rattle.std.specs.Prelude.{◌≡◌, ◌≢◌, ℕ, zero, suc, ◌+◌, ◌<◌, ◌≤◌, ◌^◌, nat_lt, ◌||◌, Bool, true, false, List, [], ◌∷◌, ◌++◌, length, map, take, Result, Ok, Err, refl, ◌⊎◌}
use Rattle.std.specs.declared.option.Option.{Option}
use Rattle.std.specs.declared.option.Option.TheVariants.{Some, None}
use Rattle.std.specs.List.{AllByRecursion, list_all, list_any}
use Rattle.std.proofs.Common.{inl, inr, subst, ap, sym, ◌∙◌, arith}
use Rattle.std.proofs.lemmas.List.{length-map, take_at}
use Rattle.cc_entry.specs.declared.answer.Answer.{Answer}
use Rattle.cc_entry.specs.declared.answer.Answer.TheVariants as answer
use Rattle.cc_entry.specs.declared.answer.LineReply.{LineReply}
use Rattle.cc_entry.specs.declared.entry.Entry.{Entry}
use Rattle.cc_entry.specs.declared.entry.Entry.TheVariants as entry
use Rattle.cc_entry.specs.declared.error.CcError.{CcError}
use Rattle.cc_entry.specs.declared.error.CcError.TheVariants as error
use Rattle.cc_script.specs.declared.script.Action.TheVariants as action
use Rattle.cc_script.specs.declared.script.RestartLine.{RestartLine}
use Rattle.cc_model.specs.Setup.{Setup}
use Rattle.cc_model.specs.Passes.{HasSeen}
use Rattle.cc_effects.specs.LogCalls.{LogFlushLeft, WasFlushed}
use Rattle.cc_effects.specs.Moments.{IsIdle, PlacedOnly}
use Rattle.cc_effects.proofs.Stretches.{idle-none}
use Rattle.cc_pieces.specs.Explained.{answered_lines}
use Rattle.cc_pieces.specs.Faultless.{tells_fault}
use Rattle.cc_pieces.specs.Restarts.{LastFlushed, RestartAnswered, RestartEnded, RestartsInOrder}
use Rattle.cc_pieces.specs.Rooms.{HadNoRoom}
use Rattle.cc_pieces.proofs.Faultless.{ShowsNone, TellNone, none-front, served-none}
use Rattle.cc_pieces.proofs.Grown.{grew-only, grew-then}
use Rattle.cc_turns.specs.Standing.{Standing}
use Rattle.cc_lines.specs.Line.{IsFullTold, WentOn}
use Rattle.cc_restarts.specs.Restarting.{IsOwnRefusal}
use Rattle.cc_restarts.specs.Whole.{has_failed}
use Rattle.cc_restarts.specs.declared.ended.LogRestart.{LogRestart}
use Rattle.cc_restarts.specs.declared.ended.Numbers.{Numbers}
use Rattle.cc_program.specs.Restarting.{AreEndsOf, EndLeft, RestartsEnded, RestartsTold, TellsEnd, last_number}
use Rattle.cc_run.proofs.Acting.{room-left}

-- one restart more
pub ended-more : (u : Setup) (ended : List LogRestart) (replies : List LineReply) (one : LogRestart) (reply : LineReply) (old between new : List Entry) → RestartsEnded u ended replies old between → EndLeft u one reply between new → RestartsEnded u (ended ++ one ∷ []) (replies ++ reply ∷ []) old new
ended-more u [] [] one reply old between new before left =
    let same : between ≡ old = before in
    (new, subst (λ (l : List Entry). EndLeft u one reply l new) same left, refl)
ended-more u [] (r ∷ replies) one reply old between new before left = absurd before
ended-more u (first ∷ ended) [] one reply old between new before left = absurd before
ended-more u (first ∷ ended) (r ∷ replies) one reply old between new before left =
    (before.0, before.1, ended-more u ended replies one reply before.0 between new before.2 left)

-- what the end of a restart left is what explains its line
answered-ended : (u : Setup) (handle last updates : ℕ) (told : Answer) (old new : List Entry) → RestartEnded u handle last updates told old new → RestartAnswered u handle told old new
answered-ended u handle last updates (answer.Restarted n) old new left = (last, left.1)
answered-ended u handle last updates (answer.Refused e) old new left = inr (last, left)
answered-ended u handle last updates other old new left = absurd left

answered-end : (u : Setup) (handle : ℕ) (ended : Result Numbers CcError) (told : Answer) (old new : List Entry) → TellsEnd u handle ended told old new → RestartAnswered u handle told old new
answered-end u handle (Ok numbers) told old new left = answered-ended u handle (last_number numbers.last) numbers.updates told old new left
answered-end u handle (Err e) told old new left = subst (λ (a : Answer). RestartAnswered u handle a old new) (sym left.0) (inl left.1)

pub restarted-ended : (u : Setup) (restarts : List RestartLine) (ended : List LogRestart) (replies : List LineReply) (old new : List Entry) → map (λ restart. restart.handle) ended ≡ map (λ restart. restart.handle) restarts → RestartsEnded u ended replies old new → RestartsInOrder u restarts replies old new
restarted-ended u [] [] [] old new handles left = let same : new ≡ old = left in rw same (idle-none 0 old)
restarted-ended u [] [] (r ∷ replies) old new handles left = absurd left
restarted-ended u [] (one ∷ ended) replies old new handles left = absurd (cc handles)
restarted-ended u (restart ∷ restarts) [] replies old new handles left = absurd (cc handles)
restarted-ended u (restart ∷ restarts) (one ∷ ended) [] old new handles left = absurd left
restarted-ended u (restart ∷ restarts) (one ∷ ended) (r ∷ replies) old new handles left =
    let head : one.handle ≡ restart.handle = cc handles in
    let tail : map (λ (x : LogRestart). x.handle) ended ≡ map (λ (x : RestartLine). x.handle) restarts = cc handles in (
      left.0,
      record {
        left = subst (λ (h : ℕ). RestartAnswered u h r.answer old left.0) head (answered-end u one.handle one.ended r.answer old left.0 left.1.told);
        room = left.1.room;
      },
      restarted-ended u restarts ended replies left.0 new tail left.2,
    )

-- each restart has a reply
pub ended-lines : (u : Setup) (ended : List LogRestart) (replies : List LineReply) (old new : List Entry) → RestartsEnded u ended replies old new → answered_lines replies ≡ map (λ restart. restart.line) ended
ended-lines u [] [] old new left = refl
ended-lines u [] (r ∷ replies) old new left = absurd left
ended-lines u (one ∷ ended) [] old new left = absurd left
ended-lines u (one ∷ ended) (r ∷ replies) old new left =
    ap (λ (l : ℕ). l ∷ answered_lines replies) left.1.line_is ∙ ap (λ (l : List ℕ). one.line ∷ l) (ended-lines u ended replies left.0 new left.2)

pub ended-long : (u : Setup) (restarts : List RestartLine) (ended : List LogRestart) (replies : List LineReply) (old new : List Entry) → AreEndsOf restarts ended → RestartsEnded u ended replies old new → length replies ≡ length restarts
ended-long u restarts ended replies old new ends left =
    sym (length-map replies (λ r. r.line)) ∙ (ap length (ended-lines u ended replies old new left ∙ ends.lines) ∙ length-map restarts (λ r. r.line))

-- ---- the journal grows by it

seen-idle : (old new : List Entry) → IsIdle 0 old new → HasSeen old new
seen-idle old new idle = record { later = idle.during; grew = idle.grew }

seen-flush : (u : Setup) (handle lsn : ℕ) (answered : Result (Unit {0}) CcError) (old new : List Entry) → LogFlushLeft u 0 handle lsn answered old new → HasSeen old new
seen-flush u handle lsn (Ok done) old new left = by left.1
  where
    by : PlacedOnly 0 (entry.Flushed 0 handle lsn) old new ⊎ WasFlushed 0 handle lsn old new → HasSeen old new
    by (inl placed) = grew-only 0 (entry.Flushed 0 handle lsn) old new placed
    by (inr was) = seen-idle old new was.idle
seen-flush u handle lsn (Err (error.NoLog missing)) old new left = seen-idle old new left.2
seen-flush u handle lsn (Err (error.LogFault failed)) old new left = grew-only 0 (entry.LogFailed 0 handle) old new left.2.1
seen-flush u handle lsn (Err (error.JournalFull entries)) old new left = seen-idle old new left
seen-flush u handle lsn (Err error.NoMemory) old new left = seen-idle old new left
seen-flush u handle lsn (Err other) old new left = absurd left

seen-ended : (u : Setup) (handle last updates : ℕ) (told : Answer) (old new : List Entry) → RestartEnded u handle last updates told old new → HasSeen old new
seen-ended u handle zero updates (answer.Restarted n) old new left = seen-idle old new left.1
seen-ended u handle (suc last) updates (answer.Restarted n) old new left = seen-flush u handle (suc last) (Ok tt) old new left.1.1
seen-ended u handle last updates (answer.Refused e) old new left = seen-flush u handle last (Err e) old new left
seen-ended u handle last updates other old new left = absurd left

seen-end : (u : Setup) (handle : ℕ) (ended : Result Numbers CcError) (told : Answer) (old new : List Entry) → TellsEnd u handle ended told old new → HasSeen old new
seen-end u handle (Ok numbers) told old new left = seen-ended u handle (last_number numbers.last) numbers.updates told old new left
seen-end u handle (Err e) told old new left = seen-idle old new left.1

-- the line of a restart left what it tells, and tells that the journal is full only where it was
pub end-one : (w0 w1 : Standing) (restart : LogRestart) (told : Answer) → WentOn w0 w1 → w1.in_flight ≡ 0 → w1.others ≡ 0 → TellsEnd w0.setup restart.handle restart.ended told w0.seen w1.seen → IsFullTold w1 told → EndLeft w0.setup restart (record { line = restart.line; answer = told }) w0.seen w1.seen
end-one w0 w1 restart told went rest alone left full = record {
  line_is = refl;
  told = left;
  room = subst (λ u. HadNoRoom u 4 told w0.seen w1.seen) (ap (λ w. w.setup) went.same) (room-left w1 told w0.seen (seen-end w0.setup restart.handle restart.ended told w0.seen w1.seen left) rest alone full);
}

-- ---- no restart tells a fault, where none ended by one and the journal shows none

end-none : (u : Setup) (handle : ℕ) (ended : Result Numbers CcError) (told : Answer) (old new : List Entry) → TellsEnd u handle ended told old new → has_failed ended ≡ false → ShowsNone new → tells_fault told ≡ false
end-none u handle (Ok numbers) (answer.Restarted n) old new left calm none = refl
end-none u handle (Ok numbers) (answer.Refused e) old new left calm none =
    served-none u 0 [] (action.LogFlush handle (last_number numbers.last)) (answer.Refused e) old new left none
end-none u handle (Ok numbers) other old new left calm none = absurd left
end-none u handle (Err e) told old new left calm none = ap tells_fault left.0 ∙ calm

or-false : (a b : Bool) → (a || b) ≡ false → (a ≡ false) × (b ≡ false)
or-false true b is = absurd (cc is)
or-false false b is = (refl, is)

ended-seen : (u : Setup) (ended : List LogRestart) (replies : List LineReply) (old new : List Entry) → RestartsEnded u ended replies old new → HasSeen old new
ended-seen u [] [] old new left = record { later = []; grew = left }
ended-seen u [] (r ∷ replies) old new left = absurd left
ended-seen u (one ∷ ended) [] old new left = absurd left
ended-seen u (one ∷ ended) (r ∷ replies) old new left =
    grew-then old left.0 new (seen-end u one.handle one.ended r.answer old left.0 left.1.told) (ended-seen u ended replies left.0 new left.2)

ended-none : (u : Setup) (ended : List LogRestart) (replies : List LineReply) (old new : List Entry) → RestartsEnded u ended replies old new → list_any (λ restart. has_failed restart.ended) ended ≡ false → ShowsNone new → TellNone replies
ended-none u [] [] old new left calm none = tt
ended-none u [] (r ∷ replies) old new left calm none = absurd left
ended-none u (one ∷ ended) [] old new left calm none = absurd left
ended-none u (one ∷ ended) (r ∷ replies) old new left calm none =
    let parts = or-false (has_failed one.ended) (list_any (λ (restart : LogRestart). has_failed restart.ended) ended) calm in
    let rest = ended-seen u ended replies left.0 new left.2 in
    let front : ShowsNone left.0 = none-front rest.later left.0 (subst ShowsNone rest.grew none) in
    (end-none u one.handle one.ended r.answer old left.0 left.1.told parts.0 front, ended-none u ended replies left.0 new left.2 parts.1 none)

-- so it is of the first replies of a run
pub told-none : (u : Setup) (restarts : List RestartLine) (ended : List LogRestart) (replies : List LineReply) (past : List Entry) → map (λ restart. restart.line) ended ≡ map (λ restart. restart.line) restarts → RestartsTold u ended replies past → list_any (λ restart. has_failed restart.ended) ended ≡ false → ShowsNone past → TellNone (take (length restarts) replies)
told-none u restarts ended replies past lines told calm none =
    subst TellNone (sym front) (ended-none u ended told.first [] told.begun told.ended_are calm (none-front told.later told.begun (subst ShowsNone told.grew none)))
  where
    as-many : length told.first ≡ length restarts
    as-many = sym (length-map told.first (λ r. r.line)) ∙ (ap length (ended-lines u ended told.first [] told.begun told.ended_are ∙ lines) ∙ length-map restarts (λ r. r.line))

    front : take (length restarts) replies ≡ told.first
    front = ap (take (length restarts)) told.replies_are ∙ take_at told.first told.others (length restarts) as-many

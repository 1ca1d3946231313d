-- The run of the callers of a phase, from what its lines left one after the other.
use Rattle.std.specs.declared.option.Option.TheVariants.{Some}
use Rattle.std.specs.Prelude.{◌≡◌, ◌≢◌, ℕ, zero, suc, ◌<◌, ◌≤◌, ◌==◌, ◌&&◌, Bool, true, false, List, [], ◌∷◌, ◌++◌, length, map, slice_get, slice_set, Result, Err, refl, if◌then◌else◌}
use Rattle.std.specs.List.{AllByRecursion}
use Rattle.std.proofs.Common.{sym, ap, subst, ◌∙◌, arith, append_assoc, get_or}
use Rattle.std.proofs.lemmas.Bool.{eqb-true, eqb-false, eq-eqb, ne_eqb}
use Rattle.std.proofs.lemmas.List.{length-map}
use Rattle.std.proofs.lemmas.Option.{slice_get_within}
use Rattle.cc_entry.specs.declared.error.CcError.{CcError}
use Rattle.cc_entry.specs.declared.error.CcError.TheVariants as error
use Rattle.cc_entry.specs.declared.answer.Answer.{Answer}
use Rattle.cc_entry.specs.declared.answer.Answer.TheVariants as answer
use Rattle.cc_entry.specs.declared.answer.LineReply.{LineReply}
use Rattle.cc_entry.specs.declared.entry.Entry.{Entry}
use Rattle.cc_script.specs.declared.script.Action.{Action}
use Rattle.cc_script.specs.declared.script.ActionLine.{ActionLine}
use Rattle.cc_model.specs.Setup.{Setup}
use Rattle.cc_effects.specs.Moments.{IsIdle}
use Rattle.cc_effects.proofs.Stretches.{idle-none, idle-then}
use Rattle.cc_pieces.specs.Bindings.{Binding}
use Rattle.cc_pieces.specs.Served.{bindings_after}
use Rattle.cc_pieces.specs.Rooms.{JournalWasFull, HadNoRoom, ToldNoRoom, is_alone, room_limit}
use Rattle.cc_pieces.specs.Runs.{Explains, Ran, asked_of}
use Rattle.cc_pieces.specs.Phases.{is_of_phase, lazy_writer, read_ahead_worker}
use Rattle.cc_pieces.specs.Explained.{answered_lines}
use Rattle.cc_pieces.proofs.LineSteps.{explains-before, ran-idle}
use Rattle.cc_script.specs.declared.bound.Bound.{Bound}
use Rattle.cc_script.specs.HoldWords.{AreUsedRight, UsesRight, bound_after}
use Rattle.cc_model.specs.Good.{IsGood}
use Rattle.cc_turns.specs.Standing.{Standing}
use Rattle.cc_lines.specs.Holds.{NamesStand, NamesState}
use Rattle.cc_run.specs.Lines.{AllStand, HaveRoom, IsCaller, KeepRoom, LineEnd, LineLeft, LinesEnd, LinesLeft, LinesServed, MayServe, MayServeLine, after_line, after_lines, bound_by}
use Rattle.cc_run.specs.Phases.{PhaseEnds}
use Rattle.cc_lines.proofs.NamesKept.{names-keep}
use Rattle.cc_run.proofs.WordSteps.{after-first, after-other, after-own, bound-other, bound-own, right-back, right-first, right-front, room-rest, words-first}

-- the replies have the numbers of their lines
left-lines : (u : Setup) (bindings : ℕ → List Binding) (lines : List ActionLine) (replies : List LineReply) (old new : List Entry) → LinesLeft u bindings lines replies old new → answered_lines replies ≡ map (λ line. line.line) lines
left-lines u bindings [] [] old new left = refl
left-lines u bindings [] (reply ∷ replies) old new left = absurd left
left-lines u bindings (line ∷ lines) [] old new left = absurd left
left-lines u bindings (line ∷ lines) (reply ∷ replies) old new left =
    ap (λ n. n ∷ answered_lines replies) left.1 ∙ ap (λ ns. line.line ∷ ns) (left-lines u (after_line line reply.answer bindings) lines replies left.0 new left.3)

-- one line more
left-more : (u : Setup) (bindings : ℕ → List Binding) (lines : List ActionLine) (replies : List LineReply) (line : ActionLine) (reply : LineReply) (old between new : List Entry) → LinesLeft u bindings lines replies old between → reply.line ≡ line.line → LineLeft u (after_lines lines replies bindings line.caller) line reply.answer between new → LinesLeft u bindings (lines ++ line ∷ []) (replies ++ reply ∷ []) old new
left-more u bindings [] [] line reply old between new left is one =
    let same : between ≡ old = left in (new, is, rw same at one, refl)
left-more u bindings [] (r ∷ replies) line reply old between new left is one = absurd left
left-more u bindings (l ∷ lines) [] line reply old between new left is one = absurd left
left-more u bindings (l ∷ lines) (r ∷ replies) line reply old between new left is one = (
  left.0,
  left.1,
  left.2,
  left-more u (after_line l r.answer bindings) lines replies line reply left.0 between new left.3 is
      (subst (λ b. LineLeft u b line reply.answer between new) (after-first line.caller bindings l lines r replies) one),
)

-- a journal that was full within one limit was so within a greater one
full-more : (u : Setup) (limit more entries : ℕ) (old new : List Entry) → limit ≤ more → JournalWasFull u limit entries old new → JournalWasFull u more entries old new
full-more u limit more entries old new least was = record {
  moment = was.moment;
  later = was.later;
  since = was.since;
  ends = was.ends;
  begins = was.begins;
  holds = (was.holds.0, omega (arith, least, was.holds.1));
}

room-more : (u : Setup) (limit more : ℕ) (told : Answer) (old new : List Entry) → limit ≤ more → HadNoRoom u limit told old new → HadNoRoom u more told old new
room-more u limit more (answer.Refused (error.JournalFull entries)) old new least had = full-more u limit more entries old new least had
room-more u limit more (answer.NcRefused done (error.JournalFull entries)) old new least had = full-more u limit more entries old new least had
room-more u limit more (answer.Completed (Some done)) old new least had = by done.answer had
  where
    by : (o : Result (List ℕ) CcError) → ToldNoRoom u limit o old new → ToldNoRoom u more o old new
    by (Err (error.JournalFull entries)) had = full-more u limit more entries old new least had
    by other had = tt
room-more u limit more other old new least had = tt

least-limit : (ticks aheads : ℕ) (alone : Bool) → 4 ≤ room_limit ticks aheads alone
least-limit ticks aheads alone = by (alone && (ticks == 0 && aheads == 0))
  where
    by : (b : Bool) → 4 ≤ (if b then 4 else 32)
    by true = omega arith
    by false = omega arith

explains-more : (u : Setup) (limit more me : ℕ) (bindings : List Binding) (asked : Action) (told : Answer) (old new : List Entry) → limit ≤ more → Explains u limit me bindings asked told old new → Explains u more me bindings asked told old new
explains-more u limit more me bindings asked told old new least explains = record {
  served = explains.served;
  room = room-more u limit more told old new least explains.room;
}

-- entries of others before a caller's run
ran-before : (u : Setup) (limit me : ℕ) (bindings : List Binding) (lines : List (Action × Answer)) (older old new : List Entry) → IsIdle me older old → Ran u limit me bindings lines old new → Ran u limit me bindings lines older new
ran-before u limit me bindings [] older old new idle ran = idle-then me older old new idle ran
ran-before u limit me bindings (line ∷ lines) older old new idle ran =
    (ran.0, explains-before u limit me bindings line.0 line.1 older old ran.0 idle ran.1, ran.2)

-- each caller ran its lines of a phase
ran-lines : (u : Setup) (limit phase me : ℕ) (bindings : ℕ → List Binding) (lines : List ActionLine) (replies : List LineReply) (old new : List Entry) → 4 ≤ limit → AllByRecursion (λ line. line.phase ≡ phase) lines → LinesLeft u bindings lines replies old new → Ran u limit me (bindings me) (asked_of (is_of_phase phase me) lines replies) old new
ran-lines u limit phase me bindings [] [] old new least all left = let same : new ≡ old = left in rw same (idle-none me old)
ran-lines u limit phase me bindings [] (reply ∷ replies) old new least all left = absurd left
ran-lines u limit phase me bindings (line ∷ lines) [] old new least all left = absurd left
ran-lines u limit phase me bindings (line ∷ lines) (reply ∷ replies) old new least all left =
    rw (all.0, eq-eqb phase phase refl) (by (line.caller == me) refl (ran-lines u limit phase me (after_line line reply.answer bindings) lines replies left.0 new least all.1 left.3))
  where
    asked : List (Action × Answer)
    asked = asked_of (is_of_phase phase me) lines replies

    by : (b : Bool) → (line.caller == me) ≡ b → Ran u limit me (if line.caller == me then bindings_after line.action reply.answer (bindings me) else bindings me) asked left.0 new → Ran u limit me (bindings me) (if b && true then (line.action, reply.answer) ∷ asked else asked) old new
    by true is rest =
        let own = explains-more u 4 limit line.caller (bindings line.caller) line.action reply.answer old left.0 least left.2.explained in
        (left.0, rw (eqb-true line.caller me is) at own, rw is at rest)
    by false is rest =
        ran-before u limit me (bindings me) asked old left.0 new (left.2.alone me (λ e. eqb-false line.caller me is (sym e))) (rw is at rest)

-- the lines so far, with the replies that they gave
pub served-more : (u : Setup) (bindings : ℕ → List Binding) (lines : List ActionLine) (line : ActionLine) (told : Answer) (before after : List LineReply) (old between new : List Entry) (served : LinesServed u bindings lines before after old between) → LineLeft u (after_lines lines served.answers bindings line.caller) line told between new → LinesServed u bindings (lines ++ line ∷ []) before (after ++ record { line = line.line; answer = told } ∷ []) old new
served-more u bindings lines line told before after old between new served one = record {
  answers = served.answers ++ record { line = line.line; answer = told } ∷ [];
  grew = ap (λ l. l ++ record { line = line.line; answer = told } ∷ []) served.grew ∙ append_assoc before served.answers (record { line = line.line; answer = told } ∷ []);
  left = left-more u bindings lines served.answers line (record { line = line.line; answer = told }) old between new served.left refl one;
}

pub served-long : (u : Setup) (bindings : ℕ → List Binding) (lines : List ActionLine) (before after : List LineReply) (old new : List Entry) (served : LinesServed u bindings lines before after old new) → length lines ≡ length served.answers
served-long u bindings lines before after old new served =
    sym (length-map lines (λ line. line.line)) ∙ (sym (ap length (left-lines u bindings lines served.answers old new served.left)) ∙ length-map served.answers (λ reply. reply.line))

-- a row in whose place another was put
pub put-same : {A : Type 0} (rows : List A) (k : ℕ) (now one : A) → slice_get (slice_set rows k now) k ≡ Some one → now ≡ one
put-same [] k now one at = absurd (cc at)
put-same (r ∷ rows) zero now one at = cc at
put-same (r ∷ rows) (suc k) now one at = put-same rows k now one at

pub put-other : {A : Type 0} (rows : List A) (k n : ℕ) (now one : A) → k ≢ n → slice_get (slice_set rows k now) n ≡ Some one → slice_get rows n ≡ Some one
put-other [] k n now one apart at = absurd (cc at)
put-other (r ∷ rows) zero zero now one apart at = absurd (apart refl)
put-other (r ∷ rows) zero (suc n) now one apart at = at
put-other (r ∷ rows) (suc k) zero now one apart at = at
put-other (r ∷ rows) (suc k) (suc n) now one apart at = put-other rows k n now one (λ e. apart (ap suc e)) at

pub put-long : {A : Type 0} (rows : List A) (k : ℕ) (now : A) → length (slice_set rows k now) ≡ length rows
put-long [] k now = refl
put-long (r ∷ rows) zero now = refl
put-long (r ∷ rows) (suc k) now = ap suc (put-long rows k now)

pub put-keeps : (rows : List NamesState) (k : ℕ) (was now : NamesState) → slice_get rows k ≡ Some was → now.room ≡ was.room → KeepRoom rows (slice_set rows k now)
put-keeps [] k was now at same = refl
put-keeps (r ∷ rows) zero was now at same =
    let is : r ≡ was = cc at in
    ap (λ n. n ∷ map (λ names. names.room) rows) (same ∙ ap (λ (names : NamesState). names.room) (sym is))
put-keeps (r ∷ rows) (suc k) was now at same = ap (λ ns. r.room ∷ ns) (put-keeps rows k was now at same)

-- a row that is there
pub row-at : {A : Type 0} (rows : List A) (k : ℕ) (d : A) → k < length rows → slice_get rows k ≡ Some (get_or rows k d)
row-at [] k d low = absurd (omega (arith, low))
row-at (r ∷ rows) zero d low = refl
row-at (r ∷ rows) (suc k) d low = row-at rows k d (omega (arith, low))

-- What is kept of the words of the callers stands behind one line more: of its caller that is said, and others placed
-- nothing.
pub stand-more : (u : Setup) (streams k : ℕ) (bounds : ℕ → List Bound) (bindings : ℕ → List Binding) (lines : List ActionLine) (answers : List LineReply) (line : ActionLine) (reply : LineReply) (between new : List Entry) (rows : List NamesState) (now : NamesState) → length lines ≡ length answers → line.caller ≡ suc k → IsGood u new → ((me : ℕ) → me ≢ line.caller → IsIdle me between new) → AllStand streams between (bound_by lines bounds) (after_lines lines answers bindings) rows → NamesStand streams line.caller new (bound_after line.action (bound_by lines bounds line.caller)) (bindings_after line.action reply.answer (after_lines lines answers bindings line.caller)) now.named → AllStand streams new (bound_by (lines ++ line ∷ []) bounds) (after_lines (lines ++ line ∷ []) (answers ++ reply ∷ []) bindings) (slice_set rows k now)
stand-more u streams k bounds bindings lines answers line reply between new rows now same is good alone stand one = record {
  counted = put-long rows k now ∙ stand.counted;
  each = λ n names at. by n names at (k == n) refl;
}
  where
    by : (n : ℕ) (names : NamesState) → slice_get (slice_set rows k now) n ≡ Some names → (b : Bool) → (k == n) ≡ b → NamesStand streams (suc n) new (bound_by (lines ++ line ∷ []) bounds (suc n)) (after_lines (lines ++ line ∷ []) (answers ++ reply ∷ []) bindings (suc n)) names.named
    by n names at true which =
        let here : k ≡ n = eqb-true k n which in
        let caller : line.caller ≡ suc n = is ∙ ap suc here in
        let names_is : now ≡ names = put-same rows k now names (subst (λ m. slice_get (slice_set rows k now) m ≡ Some names) (sym here) at) in
        rw (bound-own (suc n) (bounds (suc n)) lines line caller, after-own (suc n) bindings lines answers line reply same caller, ← names_is) (rw caller at one)
    by n names at false which =
        let away : k ≢ n = eqb-false k n which in
        let apart : line.caller ≢ suc n = λ e. away (omega (arith, is, e)) in
        rw (bound-other (suc n) (bounds (suc n)) lines line apart, after-other (suc n) bindings lines answers line reply same apart)
        (names-keep u streams (suc n) between new (bound_by lines bounds (suc n)) (after_lines lines answers bindings (suc n)) names.named good (alone (suc n) (λ e. apart (sym e))) (stand.each n names (put-other rows k n now names away at)))

-- nothing that the workers placed is a matter of a caller's words
stand-on : (u : Setup) (streams : ℕ) (bounds : ℕ → List Bound) (bindings : ℕ → List Binding) (old new : List Entry) (rows : List NamesState) → IsGood u new → ((me : ℕ) → me ≢ lazy_writer → me ≢ read_ahead_worker → IsIdle me old new) → AllStand streams old bounds bindings rows → AllStand streams new bounds bindings rows
stand-on u streams bounds bindings old new rows good alone stand = record {
  counted = stand.counted;
  each = λ n names at.
      let within : n < 16 = omega (arith, slice_get_within rows n names at, stand.counted) in
      names-keep u streams (suc n) old new (bounds (suc n)) (bindings (suc n)) names.named good (alone (suc n) (λ e. omega (arith, e, within)) (λ e. omega (arith, e, within))) (stand.each n names at);
}

-- the line that is next may be served
pub may-line : (w : Standing) (lines front rest : List ActionLine) (line : ActionLine) (before after : List LineReply) (old between : List Entry) (was rows : List NamesState) (k : ℕ) (names : NamesState) (may : MayServe w.streams old lines was) → lines ≡ front ++ line ∷ rest → line.caller ≡ suc k → slice_get rows k ≡ Some names → KeepRoom was rows → LinesEnd w may.bounds may.bindings front before after old between rows → MayServeLine w.streams between line names
may-line w lines front rest line before after old between was rows k names may parts is at keep ended =
    let right : (me : ℕ) → AreUsedRight me (may.bounds me) (front ++ line ∷ rest) = λ me. subst (AreUsedRight me (may.bounds me)) parts (may.right me) in
    let named = after_lines front ended.served.answers may.bindings in
    record {
      bounds = bound_by front may.bounds line.caller;
      bindings = named line.caller;
      stand = rw is (ended.stand.each k names at);
      right = right-first line.caller (bound_by front may.bounds line.caller) line rest refl (right-back line.caller (may.bounds line.caller) front (line ∷ rest) (right line.caller));
      room = λ binds_one.
          let room = room-rest w.streams old between may.bounds may.bindings named front (line ∷ rest) was rows may.stand ended.stand
          (λ me. right-front me (may.bounds me) front (line ∷ rest) (right me)) keep (subst (λ l. HaveRoom l was) parts may.room) k names at in
          omega (arith, room, words-first (suc k) line rest is binds_one);
    }

-- the lines so far and one more, with what is kept of the words of its caller
pub lines-more : (w v : Standing) (bounds : ℕ → List Bound) (bindings : ℕ → List Binding) (lines front rest : List ActionLine) (line : ActionLine) (told : Answer) (before after : List LineReply) (old between new : List Entry) (rows : List NamesState) (k : ℕ) (names now : NamesState) → v.setup ≡ w.setup → v.streams ≡ w.streams → lines ≡ front ++ line ∷ rest → line.caller ≡ suc k → slice_get rows k ≡ Some names → IsGood w.setup new → ((me : ℕ) → AreUsedRight me (bounds me) lines) → LinesEnd w bounds bindings front before after old between rows → ((b : List Bound) (g : List Binding) → NamesStand v.streams line.caller between b g names.named → UsesRight b line.action → LineEnd v b g line told between new now) → LinesEnd w bounds bindings (front ++ line ∷ []) before (after ++ record { line = line.line; answer = told } ∷ []) old new (slice_set rows k now)
unfolding served-more
lines-more w v bounds bindings lines front rest line told before after old between new rows k names now setup streams parts is at good right ended one =
    let served = ended.served in
    let bound = bound_by front bounds line.caller in
    let named = after_lines front served.answers bindings line.caller in
    let stands : NamesStand v.streams line.caller between bound named names.named = rw (streams, is) (ended.stand.each k names at) in
    let so = one bound named stands (right-first line.caller bound line rest refl
    (right-back line.caller (bounds line.caller) front (line ∷ rest) (subst (AreUsedRight line.caller (bounds line.caller)) parts (right line.caller)))) in
    let left : LineLeft w.setup named line told between new = rw setup at so.left in
    record {
      served = served-more w.setup bindings front line told before after old between new served left;
      stand = stand-more w.setup w.streams k bounds bindings front served.answers line (record { line = line.line; answer = told }) between new rows now
          (served-long w.setup bindings front before after old between served) is good left.alone ended.stand (rw streams at so.stand);
    }

-- A pass that no caller has placed nothing for the lines.
pub idle-lines : (u : Setup) (me : ℕ) (bindings : ℕ → List Binding) (lines : List ActionLine) (replies : List LineReply) (old new : List Entry) → 16 < me → AllByRecursion (λ line. IsCaller line.caller) lines → LinesLeft u bindings lines replies old new → IsIdle me old new
idle-lines u me bindings [] [] old new above all left = let same : new ≡ old = left in rw same (idle-none me old)
idle-lines u me bindings [] (reply ∷ replies) old new above all left = absurd left
idle-lines u me bindings (line ∷ lines) [] old new above all left = absurd left
idle-lines u me bindings (line ∷ lines) (reply ∷ replies) old new above all left =
    idle-then me old left.0 new (left.2.alone me (λ e. omega (arith, e, above, all.0.last)))
    (idle-lines u me (after_line line reply.answer bindings) lines replies left.0 new above all.1 left.3)

-- What lines of a phase left in their order is what the phase left, from where it began, also where the workers go on behind
-- them.
pub phase-ends : (u v : Standing) (phase ticks aheads : ℕ) (bounds : ℕ → List Bound) (bindings : ℕ → List Binding) (lines : List ActionLine) (before between after : List LineReply) (old middle new newer : List Entry) (rows : List NamesState) → v.setup ≡ u.setup → v.streams ≡ u.streams → between ≡ before → middle ≡ old → AllByRecursion (λ line. line.phase ≡ phase) lines → LinesEnd v bounds bindings lines between after middle new rows → ((me : ℕ) → me ≢ lazy_writer → me ≢ read_ahead_worker → IsIdle me new newer) → IsGood v.setup newer → PhaseEnds u.setup u.streams phase ticks aheads bounds bindings lines before after old newer rows
phase-ends u v phase ticks aheads bounds bindings lines before between after old middle new newer rows setup streams replies entries all ended alone good =
    let served = ended.served in
    record {
      served = record {
        answers = served.answers;
        grew = rw replies at served.grew;
        left = record {
          lines_are = left-lines v.setup bindings lines served.answers middle new served.left;
          ran = λ me lazy ahead.
              let limit = room_limit ticks aheads (is_alone phase lines) in
              let asked = asked_of (is_of_phase phase me) lines served.answers in
              let ran = ran-lines v.setup limit phase me bindings lines served.answers middle new (least-limit ticks aheads (is_alone phase lines)) all served.left in
              let on : Ran v.setup limit me (bindings me) asked middle newer = ran-idle v.setup limit me (bindings me) asked middle new newer ran (alone me lazy ahead) in
              rw (setup, entries) at on;
        };
      };
      stand = rw streams at (stand-on v.setup v.streams (bound_by lines bounds) (after_lines lines served.answers bindings) new newer rows good alone ended.stand);
    }

-- no line of a phase is of a number that no caller has
pub of_none : (phase me : ℕ) (lines : List ActionLine) → ((line : ActionLine) → IsCaller line.caller → line.caller ≢ me) → AllByRecursion (λ line. IsCaller line.caller) lines → AllByRecursion (λ line. is_of_phase phase me line ≡ false) lines
of_none phase me [] apart callers = tt
of_none phase me (line ∷ lines) apart callers = (rw (ne_eqb line.caller me (apart line callers.0)) refl, of_none phase me lines apart callers.1)

-- At the line of a stored stream no record of it was written yet, so what the line read is what the page spelled at first.
use Rattle.std.specs.Prelude.{◌≡◌, ◌≢◌, ℕ, zero, suc, ◌+◌, ◌<◌, ◌≤◌, ◌==◌, cond, true, false, List, [], ◌∷◌, ◌++◌, length, map, slice_get, refl}
use Rattle.std.specs.declared.option.Option.{Option}
use Rattle.std.specs.declared.option.Option.TheVariants.{Some, None}
use Rattle.std.specs.List.{list_any}
use Rattle.std.proofs.Common.{sym, ap, subst, ◌∙◌, append_assoc, arith, inl, inr}
use Rattle.std.proofs.lemmas.List.{append_cancel_right, length-map}
use Rattle.std.proofs.lemmas.Option.{slice_get_within}
use Rattle.cc_entry.specs.declared.answer.Answer.{Answer}
use Rattle.cc_entry.specs.declared.answer.LineReply.{LineReply}
use Rattle.cc_entry.specs.declared.entry.Entry.{Entry}
use Rattle.cc_entry.specs.declared.place.Request.{Request}
use Rattle.cc_entry.specs.declared.error.CcError.{CcError}
use Rattle.cc_script.specs.declared.script.RestartLine.{RestartLine}
use Rattle.cc_script.specs.declared.script.StreamLine.{StreamLine}
use Rattle.cc_model.specs.Passes.{HasSeen, is_mine}
use Rattle.cc_model.specs.Setup.{Setup}
use Rattle.cc_effects.specs.Moments.{IsIdle, Others}
use Rattle.cc_effects.proofs.Stretches.{idle-none}
use Rattle.cc_pieces.specs.Explained.{Answered, GivenToRun, IsExplained}
use Rattle.cc_pieces.specs.Openings.{Opened, OpeningBehind, StreamOpening, is_record_of}
use Rattle.cc_pieces.specs.Restarts.{RestartsInOrder, RestartAnswered, refusal_told, refused_for, refused_restart}
use Rattle.cc_pieces.specs.Phases.{PhasesRan, Plan}
use Rattle.cc_pieces.proofs.Grown.{grew-then}
use Rattle.cc_pieces.proofs.LeftStreams.{IsLeft, left-restart}
use Rattle.cc_turns.proofs.Handles.{handle-below}
use Rattle.cc_pieces.proofs.TickSteps.{left-ticks}
use Rattle.cc_pieces.proofs.Unrecorded.{lines-unrecorded, restarts-unrecorded}
use Rattle.cc_run.specs.StoredLines.{OpensAsSpelled, StoredLine}
use Rattle.cc_run.proofs.Lists.{all-back, all-front, there}
use Rattle.cc_run.proofs.Opening.{seen-behind, seen-opening, seen-recorded}
use Rattle.cc_run.proofs.Rooms.{before}

-- ---- a stretch in which a pass placed nothing, at a moment between

idle-parts : (me : ℕ) (old between new : List Entry) → HasSeen old between → HasSeen between new → IsIdle me old new → IsIdle me old between × IsIdle me between new
idle-parts me old between new first second idle = (
  record { during = first.later; grew = first.grew; others = all-back (λ e. is_mine me e ≡ false) second.later first.later others },
  record { during = second.later; grew = second.grew; others = all-front (λ e. is_mine me e ≡ false) second.later first.later others },
)
  where
    grew : new ≡ (second.later ++ first.later) ++ old
    grew = second.grew ∙ (ap (λ l. second.later ++ l) first.grew ∙ sym (append_assoc second.later first.later old))

    others : Others me (second.later ++ first.later)
    others = subst (Others me) (append_cancel_right idle.during (second.later ++ first.later) old (sym idle.grew ∙ grew)) idle.others

-- pass 0 alone placed anything, and so it is up to a moment between, and from there on
abbrev Alone : List Entry → List Entry → Type 0
Alone old new = (me : ℕ) → me ≢ 0 → IsIdle me old new

alone-front : (old between new : List Entry) → HasSeen old between → HasSeen between new → Alone old new → Alone old between
alone-front old between new first second alone me other = (idle-parts me old between new first second (alone me other)).0

alone-back : (old between new : List Entry) → HasSeen old between → HasSeen between new → Alone old new → Alone between new
alone-back old between new first second alone me other = (idle-parts me old between new first second (alone me other)).1

-- ---- the lines of the streams

module _ (u : Setup) (restarts : List RestartLine) (ended : List LineReply) where
  seen-opened : (s : ℕ) (streams : List StreamLine) (replies : List LineReply) (old new : List Entry) → Opened u restarts ended s streams replies old new → HasSeen old new
  seen-opened s [] [] old new opened = record { later = opened.during; grew = opened.grew }
  seen-opened s [] (reply ∷ replies) old new opened = absurd opened
  seen-opened s (stream ∷ streams) [] old new opened = absurd opened
  seen-opened s (stream ∷ streams) (reply ∷ replies) old new opened =
      grew-then old opened.0 new (seen-behind u s stream (refused_for stream.log restarts ended) reply.answer old opened.0 opened.1.opened)
      (seen-opened (suc s) streams replies opened.0 new opened.2)

  -- the line of a stored stream of which no record was written before
  line-at : (s : ℕ) (stream : StreamLine) (told : Answer) (old new past : List Entry) → Alone old new → HasSeen new past → list_any (is_record_of s) old ≡ false → StreamOpening u s stream true told old new → StoredLine u s stream told past
  line-at s stream told old new past alone since none (inl unread) = record { old = old; new = new; since = since; left = inl unread }
  line-at s stream told old new past alone since none (inr is) = record {
    old = old;
    new = new;
    since = since;
    left = inr
        (record {
          read = is.read;
          spelled = λ pages opens. is.at_first pages opens (lines-unrecorded u s restarts ended s [] [] old is.loaded is.load first (omega arith) none);
          loaded = is.loaded;
          load = is.load;
          opened = is.opened;
        });
  }
    where
      first : Alone old is.loaded
      first =
          alone-front old is.loaded new (record { later = is.load.during; grew = is.load.grew })
          (seen-recorded u s stream is.read told is.loaded new is.opened) alone

  -- and each of several, numbered from one on, whose log was not refused
  lines-at : (s : ℕ) (streams : List StreamLine) (replies : List LineReply) (old new past : List Entry) → Opened u restarts ended s streams replies old new → Alone old new → HasSeen new past → ((t : ℕ) → s ≤ t → list_any (is_record_of t) old ≡ false) → (n : ℕ) (stream : StreamLine) (reply : LineReply) → slice_get streams n ≡ Some stream → slice_get replies n ≡ Some reply → stream.stored ≡ true → refused_for stream.log restarts ended ≡ None → StoredLine u (s + n) stream reply.answer past
  lines-at s [] replies old new past opened alone since none n stream reply at answered stored kept = absurd (cc at)
  lines-at s (first ∷ streams) [] old new past opened alone since none n stream reply at answered stored kept = absurd (cc answered)
  lines-at s (first ∷ streams) (told ∷ replies) old new past opened alone since none n stream reply at answered stored kept =
      by (λ n at answered. lines-at (suc s) streams replies opened.0 new past opened.2 (alone-back old opened.0 new here behind alone) since unwritten n stream reply at answered stored kept) n at answered
    where
      here : HasSeen old opened.0
      here = seen-behind u s first (refused_for first.log restarts ended) told.answer old opened.0 opened.1.opened

      behind : HasSeen opened.0 new
      behind = seen-opened (suc s) streams replies opened.0 new opened.2

      alone_here : Alone old opened.0
      alone_here = alone-front old opened.0 new here behind alone

      unwritten : (t : ℕ) → suc s ≤ t → list_any (is_record_of t) opened.0 ≡ false
      unwritten t less =
          lines-unrecorded u t restarts ended s (first ∷ []) (told ∷ []) old opened.0 (opened.0, opened.1, idle-none 0 opened.0) alone_here
          (omega (arith, less)) (none t (omega (arith, less)))

      by : ((n : ℕ) → slice_get streams n ≡ Some stream → slice_get replies n ≡ Some reply → StoredLine u (suc s + n) stream reply.answer past) → (n : ℕ) → slice_get (first ∷ streams) n ≡ Some stream → slice_get (told ∷ replies) n ≡ Some reply → StoredLine u (s + n) stream reply.answer past
      by later zero at answered =
          let is : first ≡ stream = cc at in
          let same : told ≡ reply = cc answered in
          let own : OpeningBehind u s stream (refused_for stream.log restarts ended) reply.answer old opened.0 =
          subst (λ (r : LineReply). OpeningBehind u s stream (refused_for stream.log restarts ended) r.answer old opened.0) same
          (subst (λ (l : StreamLine). OpeningBehind u s l (refused_for l.log restarts ended) told.answer old opened.0) is opened.1.opened) in
          let left : StreamOpening u s stream stream.stored reply.answer old opened.0 =
          subst (λ (o : Option CcError). OpeningBehind u s stream o reply.answer old opened.0) kept own in
          let number : s ≡ s + 0 = omega arith in
          subst (λ m. StoredLine u m stream reply.answer past) number
          (line-at s stream reply.answer old opened.0 past alone_here (grew-then opened.0 new past behind since) (none s (omega arith))
          (subst (λ b. StreamOpening u s stream b reply.answer old opened.0) stored left))
      by later (suc n) at answered =
          let number : suc s + n ≡ s + suc n = omega arith in
          subst (λ m. StoredLine u m stream reply.answer past) number (later n at answered)

module _ (u : Setup) where
  -- the journal grew by the phases
  left-seen : (me : ℕ) (old new : List Entry) → IsLeft u 0 me old new → HasSeen old new
  left-seen me old new left = record { later = left.during; grew = left.grew }

  seen-phases : (plan : Plan) (phase left : ℕ) (ticked stepped : List LineReply) (taken : List Request) (old new : List Entry) → PhasesRan u plan phase left ticked stepped taken old new → HasSeen old new
  seen-phases plan phase zero ticked stepped taken old new ran = record { later = []; grew = ran.3 }
  seen-phases plan phase (suc left) ticked stepped taken old new ran =
      grew-then old ran.0 new (left-seen _ old ran.0 (left-ticks u 0 (λ past s handle legal is. handle-below u past s handle legal is) 32 phase _ old ran.0 ran.3.ticks))
      (seen-phases plan (suc phase) left _ _ _ ran.0 new ran.4)

-- ---- the lines of the restarts

-- the journal grew by the end of a restart
seen-restart : (u : Setup) (handle : ℕ) (told : Answer) (old new : List Entry) → RestartAnswered u handle told old new → HasSeen old new
seen-restart u handle told old new left =
    left-seen u 0 old new (left-restart u 0 (λ past s handle legal is. handle-below u past s handle legal is) handle told old new left)

seen-restarts : (u : Setup) (restarts : List RestartLine) (ended : List LineReply) (old new : List Entry) → RestartsInOrder u restarts ended old new → HasSeen old new
seen-restarts u [] [] old new done = record { later = done.during; grew = done.grew }
seen-restarts u [] (reply ∷ ended) old new done = absurd done
seen-restarts u (restart ∷ restarts) [] old new done = absurd done
seen-restarts u (restart ∷ restarts) (reply ∷ ended) old new done =
    grew-then old done.0 new (seen-restart u restart.handle reply.answer old done.0 done.1.left) (seen-restarts u restarts ended done.0 new done.2)

-- what refused a restart is told among the first replies
refused-front : (handle : ℕ) (restarts : List RestartLine) (ended more : List LineReply) → length ended ≡ length restarts → refused_restart handle restarts (ended ++ more) ≡ refused_restart handle restarts ended
refused-front handle [] [] [] same = refl
refused-front handle [] [] (reply ∷ more) same = refl
refused-front handle [] (reply ∷ ended) more same = absurd (omega (arith, same))
refused-front handle (restart ∷ restarts) [] more same = absurd (omega (arith, same))
refused-front handle (restart ∷ restarts) (reply ∷ ended) more same =
    ap (λ o. cond (restart.handle == handle) (refusal_told reply.answer) o) (refused-front handle restarts ended more (omega (arith, same)))

for-front : (log : Option ℕ) (restarts : List RestartLine) (ended more : List LineReply) → length ended ≡ length restarts → refused_for log restarts (ended ++ more) ≡ refused_for log restarts ended
for-front None restarts ended more same = refl
for-front (Some handle) restarts ended more same = refused-front handle restarts ended more same

get-behind : {A : Type 0} (xs ys : List A) (n m : ℕ) → m ≡ length xs + n → slice_get (xs ++ ys) m ≡ slice_get ys n
get-behind [] ys n m is =
    let same : m ≡ n = omega (arith, is) in
    ap (slice_get ys) same
get-behind (x ∷ xs) ys n zero is = absurd (omega (arith, is))
get-behind (x ∷ xs) ys n (suc m) is = get-behind xs ys n m (omega (arith, is))

-- So it is in a run.
pub stored-lines : (u : Setup) (given : GivenToRun) (told : Answered) (taken : List Request) (past : List Entry) → IsExplained u given told taken past → (s : ℕ) (stream : StreamLine) (reply : LineReply) → slice_get given.streams s ≡ Some stream → slice_get told.replies (length given.restarts + s) ≡ Some reply → stream.stored ≡ true → refused_for stream.log given.restarts told.replies ≡ None → StoredLine u s stream reply.answer past
stored-lines u given told taken past is s stream reply at answered stored kept =
    let number : 0 + s ≡ s = omega arith in
    subst (λ m. StoredLine u m stream reply.answer past) number
    (lines-at u given.restarts is.ended 0 given.streams is.setup is.restarted is.begun past is.opened (alone-back [] is.restarted is.begun first behind is.alone)
    (seen-phases u _ 1 given.phases told.ticked told.stepped taken is.begun past is.ran)
    (λ t less. restarts-unrecorded u t given.restarts is.ended [] is.restarted is.restarts_ended (alone-front [] is.restarted is.begun first behind is.alone) refl) s stream reply at own stored unrefused)
  where
    first : HasSeen [] is.restarted
    first = seen-restarts u given.restarts is.ended [] is.restarted is.restarts_ended

    behind : HasSeen is.restarted is.begun
    behind = seen-opened u given.restarts is.ended 0 given.streams is.setup is.restarted is.begun is.opened

    ended_long : length is.ended ≡ length given.restarts
    ended_long = sym (length-map is.ended (λ r. r.line)) ∙ (ap length is.restart_lines ∙ length-map given.restarts (λ l. l.line))

    unrefused : refused_for stream.log given.restarts is.ended ≡ None
    unrefused =
        sym (for-front stream.log given.restarts is.ended (is.setup ++ is.answers) ended_long)
        ∙ (sym (ap (λ (l : List LineReply). refused_for stream.log given.restarts l) is.replies_are) ∙ kept)

    long : length is.setup ≡ length given.streams
    long = sym (length-map is.setup (λ r. r.line)) ∙ (ap length is.setup_lines ∙ length-map given.streams (λ l. l.line))

    one : (r : LineReply) × (slice_get is.setup s ≡ Some r)
    one = there is.setup s (omega (arith, slice_get_within given.streams s stream at, long))

    own : slice_get is.setup s ≡ Some reply
    own =
        let place : slice_get told.replies (length given.restarts + s) ≡ slice_get (is.setup ++ is.answers) s =
        ap (λ (l : List LineReply). slice_get l (length given.restarts + s)) is.replies_are
        ∙ (ap (λ (n : ℕ). slice_get (is.ended ++ (is.setup ++ is.answers)) (n + s)) (sym ended_long) ∙ get-behind is.ended (is.setup ++ is.answers) s (length is.ended + s) refl) in
        let whole : slice_get told.replies (length given.restarts + s) ≡ Some one.0 = place ∙ before is.setup is.answers one.0 s one.1 in
        let same : one.0 ≡ reply = cc (whole, answered) in
        subst (λ (r : LineReply). slice_get is.setup s ≡ Some r) same one.1

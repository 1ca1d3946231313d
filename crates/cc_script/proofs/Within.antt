-- Every script of the grammar keeps within what its run may rely on, and has the actions of its mode alone.
use Rattle.std.proofs.Common.{◌≡◌, ℕ, zero, suc, ◌+◌, ◌<◌, ◌≤◌, ◌==◌, Bool, true, false, ◌&&◌, ◌||◌, not, Some, None, Option, Result, Ok, Err, IfOk, IfSome, option_map, List, [], ◌∷◌, ◌++◌, length, nat_lt, nat_le, if◌then◌else◌, slice_index, codes, refl, ap, sym, ◌∙◌, subst, length-append, lit≤, arith, ◌≢◌, get_or, replicate}
use Rattle.std.specs.List.{AllByRecursion, list_all, AllPairs, slice_index_or}
use Rattle.std.specs.Str.Lines.{strip_carriage_return}
use Rattle.std.specs.Prelude.{slice_set}
use Rattle.std.proofs.lemmas.List.{nil_from_length, length-set, get_or-set_same, get_or-set_other}
use Rattle.std.proofs.lemmas.Bool.{eqb-true, eqb-false}
use Rattle.std.proofs.lemmas.Bool.Decides.{nat_tests}
use Rattle.cc_script.specs.declared.script.Mode.{Mode}
use Rattle.cc_script.specs.declared.script.Mode.TheVariants as mode
use Rattle.cc_script.specs.declared.script.Script.{Script}
use Rattle.cc_script.specs.declared.script.StreamLine.{StreamLine}
use Rattle.cc_script.specs.declared.script.RestartLine.{RestartLine}
use Rattle.cc_script.specs.declared.script.Action.{Action}
use Rattle.cc_script.specs.declared.script.ActionLine.{ActionLine}
use Rattle.cc_script.specs.declared.verb.Verb.{Verb}
use Rattle.cc_script.specs.declared.verb.Verb.TheVariants as verb
use Rattle.cc_script.specs.declared.reading.Reading.{Reading}
use Rattle.cc_script.specs.declared.reading.Workers.{Workers}
use Rattle.cc_script.specs.declared.phase_lines.PhaseLines.{PhaseLines}
use Rattle.cc_script.specs.Text.{lines, words}
use Rattle.cc_script.specs.Words.{parsed_number, number_between, name_of_word, parsed_caller}
use Rattle.cc_script.specs.Modes.{RunAlone, StepsAlone, stands, verb_modes, is_call, IsLineOf, HasPhases, HasRestarts, IsOfMode, IsStreamOf}
use Rattle.cc_script.specs.Verbs.{takes_caller, verb_in}
use Rattle.cc_script.specs.declared.bound.Bound.{Bound}
use Rattle.cc_script.specs.declared.caller_words.CallerWords.{CallerWords}
use Rattle.cc_script.specs.Actions.{next, flag, parsed_quota}
use Rattle.cc_script.specs.ActionTable.{action_of, bytes_counted, dirty_lines}
use Rattle.cc_script.specs.HoldWords.{may_use, bound_after, IsRightIf, bound_so_far, UsesRight}
use Rattle.cc_script.specs.Checkpoints.{is_checkpoint, no_lines_yet, is_other, phase_with, is_kept_apart, StandApart, CheckpointsStandApart}
use Rattle.cc_script.specs.Grammar.{nothing_read, may_add, with_stream_line, parsed_log, parsed_stored, parsed_stream, parsed_setting, with_journal_line, with_threshold, parsed_workers, with_workers, parsed_restart, has_restart, with_restart, with_phase, placed_line, no_words, words_by, keeps_totals, keeps_apart, with_action, action_line, caller_line, verb_line, called_line, uncalled_line, line_by, words_line, is_printable, text_line, line_of, or_wrong, lines_of, script_of}
use Rattle.cc_script.specs.declared.script.ScriptFault.{ScriptFault}
use Rattle.cc_script.specs.Answers.{ReadsScript}
use Rattle.cc_script.specs.Within.{IsStreamWithin, IsLineWithin, PhasesAscend, AreRestartsWithin, ScriptIsWithin}
use Rattle.cc_script.proofs.Steps.{then-gives, if-gives, both, next-gives, ended-gives, between-gives, verb-gives, caller-gives}
use Rattle.cc_script.proofs.Plain.{IsNumbered}
use Rattle.cc_script.proofs.ActionsRead.{action-gives}
use Rattle.cc_script.proofs.UsedRight.{no_no, used-right, after-length, numbered-length, so_far-onto, right-onto}

-- a quota is in its range
quota-gives : (ws : List (List ℕ)) (q : ℕ) (more : List (List ℕ)) → parsed_quota ws ≡ Some (q, more) → (8 ≤ q) × (q ≤ 64)
unfolding parsed_quota
quota-gives ws q more e = either (flag (codes "quota") ws).0 e
  where
    either : (t : Bool) → (if t then next (number_between 8 64) (flag (codes "quota") ws).1 else Some (16, ws)) ≡ Some (q, more) → (8 ≤ q) × (q ≤ 64)
    either true g =
        let w = next-gives (number_between 8 64) (flag (codes "quota") ws).1 q more g in
        let b = between-gives 8 64 w.word q w.reads in (b.least, b.most)
    either false g =
        let pair : (let it : ℕ × List (List ℕ) = (16, ws) in it) ≡ (q, more) = cc in
        let same : 16 ≡ q = ap (λ (it : ℕ × List (List ℕ)). it.0) pair in (omega (arith, same), omega (arith, same))

-- and a log one of four
log-gives : (ws : List (List ℕ)) (log : Option ℕ) (more : List (List ℕ)) → parsed_log ws ≡ Some (log, more) → IfSome log (λ handle. handle < 4)
unfolding parsed_log
log-gives ws log more e = either (flag (codes "log") ws).0 e
  where
    found : (o : Option (ℕ × List (List ℕ))) → next (number_between 0 3) (flag (codes "log") ws).1 ≡ o → option_map (λ (it : ℕ × List (List ℕ)). (let pair : Option ℕ × List (List ℕ) = (Some it.0, it.1) in pair)) o ≡ Some (log, more) → IfSome log (λ handle. handle < 4)
    found (Some it) f g =
        let pair : (let both : Option ℕ × List (List ℕ) = (Some it.0, it.1) in both) ≡ (log, more) = cc in
        let same : Some it.0 ≡ log = ap (λ (both : Option ℕ × List (List ℕ)). both.0) pair in
        let w = next-gives (number_between 0 3) (flag (codes "log") ws).1 it.0 it.1 f in
        let b = between-gives 0 3 w.word it.0 w.reads in
        let most = b.most in
        subst (λ (log : Option ℕ). IfSome log (λ handle. handle < 4)) same (omega (arith, most))
    found None f g = absurd (cc)

    either : (t : Bool) → (if t then option_map (λ (it : ℕ × List (List ℕ)). (let pair : Option ℕ × List (List ℕ) = (Some it.0, it.1) in pair)) (next (number_between 0 3) (flag (codes "log") ws).1) else Some (None, ws)) ≡ Some (log, more) → IfSome log (λ handle. handle < 4)
    either true g = found (next (number_between 0 3) (flag (codes "log") ws).1) refl g
    either false g =
        let pair : (let it : Option ℕ × List (List ℕ) = (None, ws) in it) ≡ (log, more) = cc in
        let same : None ≡ log = ap (λ (it : Option ℕ × List (List ℕ)). it.0) pair in
        subst (λ (log : Option ℕ). IfSome log (λ handle. handle < 4)) same tt

-- in steps no stream is stored
stored-gives : (m : Mode) (ws : List (List ℕ)) (stream : StreamLine) → stream.stored ≡ (parsed_stored m ws).0 → IsStreamOf m stream
unfolding parsed_stored
stored-gives mode.Run ws stream is = tt
stored-gives mode.Steps ws stream is = is

stream-gives : (m : Mode) (n : ℕ) (ws : List (List ℕ)) (stream : StreamLine) → parsed_stream m n ws ≡ Some stream → IsStreamWithin stream × IsStreamOf m stream
unfolding parsed_stream
stream-gives m n ws stream e =
    let name = then-gives (next name_of_word ws) _ stream e in
    let size = then-gives (next parsed_number name.0.1) _ stream name.2 in
    let valid = then-gives (next parsed_number size.0.1) _ stream size.2 in
    let quota = then-gives (parsed_quota valid.0.1) _ stream valid.2 in
    let log = then-gives (parsed_log (flag (codes "temporary") quota.0.1).1) _ stream quota.2 in
    let end = ended-gives _ _ stream log.2 in
    let q = quota-gives valid.0.1 quota.0.0 quota.0.1 quota.1 in
    let l = log-gives (flag (codes "temporary") quota.0.1).1 log.0.0 log.0.1 log.1 in
    subst (λ (stream : StreamLine). IsStreamWithin stream × IsStreamOf m stream) end.1 (record { least_quota = q.0; most_quota = q.1; log = l }, stored-gives m log.0.1 _ refl)

-- a number that is set is in its range
setting-gives : (low high : ℕ) (ws : List (List ℕ)) (n : ℕ) → parsed_setting low high ws ≡ Some n → (low ≤ n) × (n ≤ high)
unfolding parsed_setting
setting-gives low high ws n e =
    let found = then-gives (next (number_between low high) ws) _ n e in
    let end = ended-gives _ _ n found.2 in
    let w = next-gives (number_between low high) ws found.0.0 found.0.1 found.1 in
    let b = between-gives low high w.word found.0.0 w.reads in
    (omega (arith, end.1, b.least), omega (arith, end.1, b.most))

-- so are the ticks, and the steps of read-ahead
workers-gives : (ws : List (List ℕ)) (set : Workers) → parsed_workers ws ≡ Some set → (set.ticks ≤ 1000) × (set.aheads ≤ 1000)
unfolding parsed_workers
workers-gives ws set e =
    let ticks = then-gives (next (number_between 0 1000) ws) _ set e in
    let aheads = then-gives (next (number_between 0 1000) ticks.0.1) _ set ticks.2 in
    let end = ended-gives _ _ set aheads.2 in
    let t = next-gives (number_between 0 1000) ws ticks.0.0 ticks.0.1 ticks.1 in
    let a = next-gives (number_between 0 1000) ticks.0.1 aheads.0.0 aheads.0.1 aheads.1 in
    let few = (between-gives 0 1000 t.word ticks.0.0 t.reads).most in
    let fewer = (between-gives 0 1000 a.word aheads.0.0 a.reads).most in
    subst (λ (set : Workers). (set.ticks ≤ 1000) × (set.aheads ≤ 1000)) end.1 (few, fewer)

-- of lists
all-onto : {A : Type 0} (P : A → Type 0) (xs : List A) (x : A) → AllByRecursion P xs → P x → AllByRecursion P (xs ++ x ∷ [])
all-onto P [] x all is = (is, tt)
all-onto P (y ∷ xs) x all is = (all.0, all-onto P xs x all.1 is)

all-weaker : {A : Type 0} (P Q : A → Type 0) → ((x : A) → P x → Q x) → (xs : List A) → AllByRecursion P xs → AllByRecursion Q xs
all-weaker P Q more [] all = tt
all-weaker P Q more (x ∷ xs) all = (more x all.0, all-weaker P Q more xs all.1)

-- a line of the last phase may follow
ascend-onto : (streams : List StreamLine) (from : ℕ) (lines : List ActionLine) (line : ActionLine) → from ≤ line.phase → AllByRecursion (IsLineWithin streams line.phase) lines → PhasesAscend from lines → PhasesAscend from (lines ++ line ∷ [])
ascend-onto streams from [] line low all order = (low, tt)
ascend-onto streams from (first ∷ lines) line low all order =
    (order.0, ascend-onto streams first.phase lines line all.0.last_phase all.1 order.1)

-- what the reader keeps of a caller's words is what the lines so far bind
record IsKept (caller : ℕ) (own : CallerWords) (lines : List ActionLine) : Type 0 where
  bounds : own.bounds ≡ bound_so_far caller [] lines
  names : length own.names ≡ length own.bounds

-- one phase is as many as either mode may have
one-phase : (m : Mode) → HasPhases m 1
one-phase mode.Run = tt
one-phase mode.Steps = refl

-- and only a run has one more
more-phases : (m : Mode) (phases : ℕ) → stands RunAlone m ≡ true → HasPhases m phases
more-phases mode.Run phases e = tt
more-phases mode.Steps phases e = absurd (cc)

in-steps : (m : Mode) → stands StepsAlone m ≡ true → m ≡ mode.Steps
in-steps mode.Run e = absurd (cc)
in-steps mode.Steps e = refl

-- and only a run has a restart
no-restarts : (m : Mode) → HasRestarts m []
no-restarts mode.Run = tt
no-restarts mode.Steps = refl

more-restarts : (m : Mode) (restarts : List RestartLine) → stands RunAlone m ≡ true → HasRestarts m restarts
more-restarts mode.Run restarts e = tt
more-restarts mode.Steps restarts e = absurd (cc)

-- What the reader keeps of the phase that is under way, of a line of it: no other caller has had one while they are of one
-- alone, and it is no checkpoint while none was.
record IsInPhase (phases : ℕ) (phase : PhaseLines) (line : ActionLine) : Type 0 where
  caller : line.phase ≡ phases → phase.many ≡ false → phase.caller ≡ Some line.caller
  checkpoint : line.phase ≡ phases → phase.checkpoint ≡ false → is_checkpoint line.action ≡ false

neither : (s t : Bool) → (s || t) ≡ false → (s ≡ false) × (t ≡ false)
neither false false e = (refl, refl)
neither false true e = absurd (cc)
neither true t e = absurd (cc)

same-as : (last : Option ℕ) (first caller : ℕ) → last ≡ Some first → is_other last caller ≡ false → first ≡ caller
same-as None first caller is e = absurd (cc)
same-as (Some last) first caller is e = either (last == caller) refl e
  where
    either : (t : Bool) → (last == caller) ≡ t → not t ≡ false → first ≡ caller
    either true f g = let same = eqb-true last caller f in cc
    either false f g = absurd (cc)

phase-kept : (phases : ℕ) (phase : PhaseLines) (caller : ℕ) (a : Action) (line : ActionLine) → IsInPhase phases phase line → IsInPhase phases (phase_with caller a phase) line
phase-kept phases phase caller a line is = record {
  caller = λ here few.
      let one = neither phase.many (is_other phase.caller caller) few in
      ap Some (sym (same-as phase.caller line.caller caller (is.caller here one.0) one.1));
  checkpoint = λ here none. is.checkpoint here (neither phase.checkpoint (is_checkpoint a) none).0;
}

phase-kept-all : (phases : ℕ) (phase : PhaseLines) (caller : ℕ) (a : Action) (lines : List ActionLine) → AllByRecursion (IsInPhase phases phase) lines → AllByRecursion (IsInPhase phases (phase_with caller a phase)) lines
phase-kept-all phases phase caller a lines all =
    all-weaker (IsInPhase phases phase) (IsInPhase phases (phase_with caller a phase)) (phase-kept phases phase caller a) lines all

phase-has : (phases : ℕ) (phase : PhaseLines) (line : ActionLine) → IsInPhase phases (phase_with line.caller line.action phase) line
phase-has phases phase line = record {
  caller = λ here few. refl;
  checkpoint = λ here none. (neither phase.checkpoint (is_checkpoint line.action) none).1;
}

-- a phase has no line before its first
phase-begun : (streams : List StreamLine) (phases : ℕ) (line : ActionLine) → IsLineWithin streams phases line → IsInPhase (phases + 1) no_lines_yet line
phase-begun streams phases line is =
    let last = is.last_phase in
    record {
      caller = λ here few. absurd (omega (arith, last, here));
      checkpoint = λ here none. absurd (omega (arith, last, here));
    }

-- so a line that is added stands apart from those before it
one-caller : (many checkpoint : Bool) → not (many && checkpoint) ≡ true → checkpoint ≡ true → many ≡ false
one-caller false checkpoint e is = refl
one-caller true true e is = absurd (cc)
one-caller true false e is = absurd (cc)

has-one : (before one other : Bool) → (before ≡ false → one ≡ false) → (one || other) ≡ true → (before || other) ≡ true
has-one true one other none e = refl
has-one false one other none e = either one (none refl) e
  where
    either : (one : Bool) → one ≡ false → (one || other) ≡ true → other ≡ true
    either false f g = g
    either true f g = absurd (cc)

stands-apart : (phases : ℕ) (phase : PhaseLines) (last line : ActionLine) → last.phase ≡ phases → is_kept_apart (phase_with last.caller last.action phase) ≡ true → IsInPhase phases phase line → StandApart line last
stands-apart phases phase last line now kept is =
    λ same one.
    let here : line.phase ≡ phases = same ∙ now in
    let checkpoint = has-one phase.checkpoint (is_checkpoint line.action) (is_checkpoint last.action) (is.checkpoint here) one in
    let few = one-caller (phase.many || is_other phase.caller last.caller) (phase.checkpoint || is_checkpoint last.action) kept checkpoint in
    let parts = neither phase.many (is_other phase.caller last.caller) few in
    same-as phase.caller line.caller last.caller (is.caller here parts.0) parts.1

apart-before : (phases : ℕ) (phase : PhaseLines) (last : ActionLine) → last.phase ≡ phases → is_kept_apart (phase_with last.caller last.action phase) ≡ true → (lines : List ActionLine) → AllByRecursion (IsInPhase phases phase) lines → AllByRecursion (λ line. StandApart line last) lines
apart-before phases phase last now kept lines all =
    all-weaker (IsInPhase phases phase) (λ line. StandApart line last) (λ line is. stands-apart phases phase last line now kept is) lines all

apart-onto : (lines : List ActionLine) (last : ActionLine) → CheckpointsStandApart lines → AllByRecursion (λ line. StandApart line last) lines → CheckpointsStandApart (lines ++ last ∷ [])
apart-onto [] last apart all = (tt, tt)
apart-onto (line ∷ lines) last apart all =
    (all-onto (StandApart line) lines last apart.0 all.0, apart-onto lines last apart.1 all.1)

-- an action that may fail is a call where it fails
fails-call : (fails call : Bool) → (not fails || call) ≡ true → fails ≡ true → call ≡ true
fails-call true call e f = e
fails-call false call e f = absurd (cc)

-- The script so far keeps within that and is of its mode, has no more lines than were read, and its words are kept.
record IsSoFar (m : Mode) (n : ℕ) (r : Reading) : Type 0 where
  within : ScriptIsWithin r.script
  streams : AllByRecursion (IsStreamOf m) r.script.streams
  lines : AllByRecursion (IsLineOf m) r.script.lines
  phases : HasPhases m r.script.phases
  few : length r.script.lines ≤ n
  callers : length r.words ≡ 17
  kept : (caller : ℕ) → caller ≤ 16 → IsKept caller (words_by caller r) r.script.lines
  restarts : HasRestarts m r.script.restarts
  in_phase : AllByRecursion (IsInPhase r.script.phases r.phase) r.script.lines

none-kept : (n caller : ℕ) → get_or (replicate n no_words) caller no_words ≡ no_words
none-kept zero zero = refl
none-kept zero (suc caller) = refl
none-kept (suc n) zero = refl
none-kept (suc n) (suc caller) = none-kept n caller

nothing-so_far : (m : Mode) → IsSoFar m 0 nothing_read
nothing-so_far m =
    record {
      within = record {
        header = record {
          least_journal = lit≤ tt;
          most_journal = lit≤ tt;
          least_threshold = lit≤ tt;
          most_threshold = lit≤ tt;
          most_ticks = lit≤ tt;
          most_aheads = lit≤ tt;
        };
        first_phase = lit≤ tt;
        last_phase = lit≤ tt;
        few_streams = omega arith;
        streams = tt;
        few_lines = lit≤ tt;
        lines = tt;
        in_order = tt;
        words = λ caller. tt;
        restarts = tt;
        apart = tt;
      };
      streams = tt;
      lines = tt;
      phases = one-phase m;
      few = lit≤ tt;
      callers = refl;
      kept = λ caller low. subst (λ (own : CallerWords). IsKept caller own []) (sym (none-kept 17 caller)) (record { bounds = refl; names = refl });
      restarts = no-restarts m;
      in_phase = tt;
    }

-- a line that adds no action leaves room for it
later : (m : Mode) (n : ℕ) (r : Reading) → IsSoFar m n r → IsSoFar m (n + 1) r
later m n r is = record { within = is.within; streams = is.streams; lines = is.lines; phases = is.phases; few = let few = is.few in omega (arith, few); callers = is.callers; kept = is.kept; restarts = is.restarts; in_phase = is.in_phase }

no_lines : (xs : List ActionLine) → (length xs == 0) ≡ true → xs ≡ []
no_lines xs e = let z : length xs ≡ 0 = grind (arith, nat_tests, e) in nil_from_length xs z

stream-so_far : (m : Mode) (n : ℕ) (stream : StreamLine) (r new : Reading) → IsStreamWithin stream × IsStreamOf m stream → IsSoFar m n r → with_stream_line stream r ≡ Some new → IsSoFar m n new
unfolding with_stream_line may_add
stream-so_far m n stream r new one is e =
    let t = if-gives (may_add stream r) _ new e in
    let none = both (length r.script.lines == 0) _ t.0 in
    let room = both (nat_lt (length r.script.streams) 16) _ none.1 in
    let w = is.within in
    let below : length r.script.streams < 16 = grind (arith, nat_tests, room.0) in
    let len : length (r.script.streams ++ stream ∷ []) ≡ length r.script.streams + 1 = length-append r.script.streams (stream ∷ []) in
    let empty : r.script.lines ≡ [] = no_lines r.script.lines none.0 in
    let same : (let made : Reading = record r { script = record r.script { streams = r.script.streams ++ stream ∷ [] } } in made) ≡ new = cc in
    subst (IsSoFar m n) same
    (record {
      within = record {
        header = record {
          least_journal = w.header.least_journal;
          most_journal = w.header.most_journal;
          least_threshold = w.header.least_threshold;
          most_threshold = w.header.most_threshold;
          most_ticks = w.header.most_ticks;
          most_aheads = w.header.most_aheads;
        };
        first_phase = w.first_phase;
        last_phase = w.last_phase;
        few_streams = omega (arith, len, below);
        streams = all-onto IsStreamWithin r.script.streams stream w.streams one.0;
        few_lines = w.few_lines;
        lines = subst (AllByRecursion (IsLineWithin (r.script.streams ++ stream ∷ []) r.script.phases)) (sym empty) tt;
        in_order = w.in_order;
        words = w.words;
        restarts = w.restarts;
        apart = w.apart;
      };
      streams = all-onto (IsStreamOf m) r.script.streams stream is.streams one.1;
      lines = is.lines;
      phases = is.phases;
      few = is.few;
      callers = is.callers;
      kept = is.kept;
      restarts = is.restarts;
      in_phase = is.in_phase;
    })

journal-so_far : (m : Mode) (n capacity : ℕ) (r new : Reading) → (64 ≤ capacity) × (capacity ≤ 1048576) → IsSoFar m n r → with_journal_line capacity r ≡ Some new → IsSoFar m n new
unfolding with_journal_line
journal-so_far m n capacity r new range is e =
    let w = is.within in
    let made : Reading = record r { script = record r.script { journal = capacity }; has_journal = true } in
    let t = if-gives ((length r.script.lines == 0) && not r.has_journal) (Some made) new e in
    let same : made ≡ new = cc in
    subst (IsSoFar m n) same
    (record {
      within = record {
        header = record {
          least_journal = range.0;
          most_journal = range.1;
          least_threshold = w.header.least_threshold;
          most_threshold = w.header.most_threshold;
          most_ticks = w.header.most_ticks;
          most_aheads = w.header.most_aheads;
        };
        first_phase = w.first_phase;
        last_phase = w.last_phase;
        few_streams = w.few_streams;
        streams = w.streams;
        few_lines = w.few_lines;
        lines = w.lines;
        in_order = w.in_order;
        words = w.words;
        restarts = w.restarts;
        apart = w.apart;
      };
      streams = is.streams;
      lines = is.lines;
      phases = is.phases;
      few = is.few;
      callers = is.callers;
      kept = is.kept;
      restarts = is.restarts;
      in_phase = is.in_phase;
    })

threshold-so_far : (m : Mode) (n pages : ℕ) (r new : Reading) → (1 ≤ pages) × (pages ≤ 16384) → IsSoFar m n r → with_threshold pages r ≡ Some new → IsSoFar m n new
unfolding with_threshold
threshold-so_far m n pages r new range is e =
    let w = is.within in
    let made : Reading = record r { script = record r.script { threshold = pages }; has_threshold = true } in
    let t = if-gives ((length r.script.lines == 0) && not r.has_threshold) (Some made) new e in
    let same : made ≡ new = cc in
    subst (IsSoFar m n) same
    (record {
      within = record {
        header = record {
          least_journal = w.header.least_journal;
          most_journal = w.header.most_journal;
          least_threshold = range.0;
          most_threshold = range.1;
          most_ticks = w.header.most_ticks;
          most_aheads = w.header.most_aheads;
        };
        first_phase = w.first_phase;
        last_phase = w.last_phase;
        few_streams = w.few_streams;
        streams = w.streams;
        few_lines = w.few_lines;
        lines = w.lines;
        in_order = w.in_order;
        words = w.words;
        restarts = w.restarts;
        apart = w.apart;
      };
      streams = is.streams;
      lines = is.lines;
      phases = is.phases;
      few = is.few;
      callers = is.callers;
      kept = is.kept;
      restarts = is.restarts;
      in_phase = is.in_phase;
    })

workers-so_far : (m : Mode) (n : ℕ) (set : Workers) (r new : Reading) → (set.ticks ≤ 1000) × (set.aheads ≤ 1000) → IsSoFar m n r → with_workers set r ≡ Some new → IsSoFar m n new
unfolding with_workers
workers-so_far m n set r new range is e =
    let w = is.within in
    let made : Reading = record r { script = record r.script { ticks = set.ticks; aheads = set.aheads }; has_workers = true } in
    let t = if-gives ((length r.script.lines == 0) && not r.has_workers) (Some made) new e in
    let same : made ≡ new = cc in
    subst (IsSoFar m n) same
    (record {
      within = record {
        header = record {
          least_journal = w.header.least_journal;
          most_journal = w.header.most_journal;
          least_threshold = w.header.least_threshold;
          most_threshold = w.header.most_threshold;
          most_ticks = range.0;
          most_aheads = range.1;
        };
        first_phase = w.first_phase;
        last_phase = w.last_phase;
        few_streams = w.few_streams;
        streams = w.streams;
        few_lines = w.few_lines;
        lines = w.lines;
        in_order = w.in_order;
        words = w.words;
        restarts = w.restarts;
        apart = w.apart;
      };
      streams = is.streams;
      lines = is.lines;
      phases = is.phases;
      few = is.few;
      callers = is.callers;
      kept = is.kept;
      restarts = is.restarts;
      in_phase = is.in_phase;
    })

-- the log of a restart is one of four
restart-gives : (n : ℕ) (ws : List (List ℕ)) (restart : RestartLine) → parsed_restart n ws ≡ Some restart → restart.handle < 4
unfolding parsed_restart
restart-gives n ws restart e =
    let found = then-gives (next (number_between 0 3) ws) _ restart e in
    let end = ended-gives _ _ restart found.2 in
    let w = next-gives (number_between 0 3) ws found.0.0 found.0.1 found.1 in
    let most = (between-gives 0 3 w.word found.0.0 w.reads).most in
    subst (λ (restart : RestartLine). restart.handle < 4) end.1 (omega (arith, most))

restarts-onto : (restarts : List RestartLine) (last : RestartLine) → last.handle < 4 → has_restart last.handle restarts ≡ false → AreRestartsWithin restarts → AreRestartsWithin (restarts ++ last ∷ [])
restarts-onto [] last low none all = (low, refl, tt)
restarts-onto (restart ∷ restarts) last low none all =
    let parts = neither (restart.handle == last.handle) (has_restart last.handle restarts) none in
    (all.0, other-onto restart.handle restarts last all.1 (other-way restart.handle last.handle parts.0), restarts-onto restarts last low parts.1 all.2)
  where
    other-way : (a b : ℕ) → (a == b) ≡ false → (b == a) ≡ false
    other-way a b e = grind (arith, nat_tests, e)

    other-onto : (handle : ℕ) (restarts : List RestartLine) (last : RestartLine) → has_restart handle restarts ≡ false → (last.handle == handle) ≡ false → has_restart handle (restarts ++ last ∷ []) ≡ false
    other-onto handle [] last none other = rw other refl
    other-onto handle (restart ∷ restarts) last none other =
        let parts = neither (restart.handle == handle) (has_restart handle restarts) none in
        rw (parts.0, other-onto handle restarts last parts.1 other) refl

restart-so_far : (m : Mode) (n : ℕ) (restart : RestartLine) (r new : Reading) → stands RunAlone m ≡ true → restart.handle < 4 → IsSoFar m n r → with_restart restart r ≡ Some new → IsSoFar m n new
unfolding with_restart
restart-so_far m n restart r new in_mode low is e =
    let w = is.within in
    let made : Reading = record r { script = record r.script { restarts = r.script.restarts ++ restart ∷ [] } } in
    let t = if-gives ((length r.script.lines == 0) && ((length r.script.streams == 0) && not (has_restart restart.handle r.script.restarts))) (Some made) new e in
    let none = both (length r.script.lines == 0) _ t.0 in
    let first = both (length r.script.streams == 0) (not (has_restart restart.handle r.script.restarts)) none.1 in
    let same : made ≡ new = cc in
    subst (IsSoFar m n) same
    (record {
      within = record {
        header = record {
          least_journal = w.header.least_journal;
          most_journal = w.header.most_journal;
          least_threshold = w.header.least_threshold;
          most_threshold = w.header.most_threshold;
          most_ticks = w.header.most_ticks;
          most_aheads = w.header.most_aheads;
        };
        first_phase = w.first_phase;
        last_phase = w.last_phase;
        few_streams = w.few_streams;
        streams = w.streams;
        few_lines = w.few_lines;
        lines = w.lines;
        in_order = w.in_order;
        words = w.words;
        restarts = restarts-onto r.script.restarts restart low (no_no (has_restart restart.handle r.script.restarts) first.1) w.restarts;
        apart = w.apart;
      };
      streams = is.streams;
      lines = is.lines;
      phases = is.phases;
      few = is.few;
      callers = is.callers;
      kept = is.kept;
      restarts = more-restarts m (r.script.restarts ++ restart ∷ []) in_mode;
      in_phase = is.in_phase;
    })

-- a line keeps within one phase more
one_phase-more : (streams : List StreamLine) (phases : ℕ) (line : ActionLine) → IsLineWithin streams phases line → IsLineWithin streams (phases + 1) line
one_phase-more streams phases line is =
    let last = is.last_phase in
    record {
      first_caller = is.first_caller;
      last_caller = is.last_caller;
      first_phase = is.first_phase;
      last_phase = omega (arith, last);
      file = is.file;
      moved = is.moved;
    }

phase-so_far : (m : Mode) (n : ℕ) (ws : List (List ℕ)) (r new : Reading) → stands RunAlone m ≡ true → IsSoFar m n r → with_phase ws r ≡ Some new → IsSoFar m n new
unfolding with_phase
phase-so_far m n ws r new in_mode is e =
    let t = if-gives ((length ws == 0) && nat_le r.script.phases 1000) _ new e in
    let w = is.within in
    let first = w.first_phase in
    let below : r.script.phases ≤ 1000 = grind (arith, nat_tests, (both (length ws == 0) (nat_le r.script.phases 1000) t.0).1) in
    let same : (let made : Reading = record r { script = record r.script { phases = r.script.phases + 1 }; phase = no_lines_yet } in made) ≡ new = cc in
    subst (IsSoFar m n) same
    (record {
      within = record {
        header = record {
          least_journal = w.header.least_journal;
          most_journal = w.header.most_journal;
          least_threshold = w.header.least_threshold;
          most_threshold = w.header.most_threshold;
          most_ticks = w.header.most_ticks;
          most_aheads = w.header.most_aheads;
        };
        first_phase = omega (arith, first);
        last_phase = omega (arith, below);
        few_streams = w.few_streams;
        streams = w.streams;
        few_lines = w.few_lines;
        lines = all-weaker (IsLineWithin r.script.streams r.script.phases) (IsLineWithin r.script.streams (r.script.phases + 1)) (one_phase-more r.script.streams r.script.phases) r.script.lines w.lines;
        in_order = w.in_order;
        words = w.words;
        restarts = w.restarts;
        apart = w.apart;
      };
      streams = is.streams;
      lines = is.lines;
      phases = more-phases m (r.script.phases + 1) in_mode;
      few = is.few;
      callers = is.callers;
      kept = is.kept;
      restarts = is.restarts;
      in_phase = all-weaker (IsLineWithin r.script.streams r.script.phases) (IsInPhase (r.script.phases + 1) no_lines_yet) (phase-begun r.script.streams r.script.phases) r.script.lines w.lines;
    })

-- a line of another caller changes nothing of a caller's words
right-if : (caller c : ℕ) (a : Action) (lines : List ActionLine) (t : Bool) → (caller == c) ≡ t → UsesRight (bound_so_far caller [] lines) a → IsRightIf t (bound_so_far c [] lines) a
right-if caller c a lines true e is = subst (λ (c : ℕ). UsesRight (bound_so_far c [] lines) a) (eqb-true caller c e) is
right-if caller c a lines false e is = tt

-- the words of each caller behind a line
kept-on : (caller : ℕ) (own : CallerWords) (line : ActionLine) (r : Reading) → line.caller ≡ caller → caller < length r.words → IsKept caller own (r.script.lines ++ line ∷ []) → ((c : ℕ) → c ≤ 16 → IsKept c (words_by c r) r.script.lines) → (c : ℕ) → c ≤ 16 → IsKept c (get_or (slice_set r.words caller own) c no_words) (r.script.lines ++ line ∷ [])
kept-on caller own line r by low is kept c few = either (caller == c) refl
  where
    either : (t : Bool) → (caller == c) ≡ t → IsKept c (get_or (slice_set r.words caller own) c no_words) (r.script.lines ++ line ∷ [])
    either true e =
        let here : get_or (slice_set r.words caller own) caller no_words ≡ own = get_or-set_same r.words caller own no_words low in
        subst (λ (c : ℕ). IsKept c (get_or (slice_set r.words caller own) c no_words) (r.script.lines ++ line ∷ [])) (eqb-true caller c e)
        (subst (λ (own : CallerWords). IsKept caller own (r.script.lines ++ line ∷ [])) (sym here) is)
    either false e =
        let other : c ≢ caller = λ same. eqb-false caller c e (sym same) in
        let there : get_or (slice_set r.words caller own) c no_words ≡ get_or r.words c no_words = get_or-set_other r.words caller c own no_words other in
        let k = kept c few in
        let bound : bound_so_far c [] (r.script.lines ++ line ∷ []) ≡ bound_so_far c [] r.script.lines =
        so_far-onto c [] r.script.lines line ∙ rw (by, e) refl in
        subst (λ (own : CallerWords). IsKept c own (r.script.lines ++ line ∷ [])) (sym there)
        (record { bounds = k.bounds ∙ sym bound; names = k.names })

same-caller : (c : ℕ) (t : Bool) → (c == c) ≡ t → t ≡ true
same-caller c true e = refl
same-caller c false e = absurd (eqb-false c c e refl)

-- a line of a caller's action
action-so_far : (m : Mode) (n line caller : ℕ) (fails : Bool) (v : Verb) (ws : List (List ℕ)) (r new : Reading) → n < 65536 → (1 ≤ caller) × (caller ≤ 16) → (fails ≡ true → m ≡ mode.Steps) → stands (verb_modes v) m ≡ true → IsSoFar m n r → action_line m line caller fails v ws r ≡ Some new → IsSoFar m (n + 1) new
unfolding action_line with_action
action-so_far m n line caller fails v ws r new room range may_fail in_mode is e =
    let own = words_by caller r in
    let found = then-gives (action_of m r.script.streams own.names v ws) _ new e in
    let a = found.0.0 in
    let read = action-gives m r.script.streams own.names v ws found.0 in_mode found.1 in
    let t = if-gives (keeps_totals a r && (keeps_apart caller a r && (may_use a own.bounds && (not fails || is_call a)))) _ new found.2 in
    let all = both (keeps_totals a r) (keeps_apart caller a r && (may_use a own.bounds && (not fails || is_call a))) t.0 in
    let tests = both (keeps_apart caller a r) (may_use a own.bounds && (not fails || is_call a)) all.1 in
    let may = both (may_use a own.bounds) (not fails || is_call a) tests.1 in
    let w = is.within in
    let few = is.few in
    let k = is.kept caller range.1 in
    let last : ActionLine = placed_line line caller fails a r in
    let len : length (r.script.lines ++ last ∷ []) ≡ length r.script.lines + 1 = length-append r.script.lines (last ∷ []) in
    let numbered : IsNumbered a (length own.bounds) (length found.0.1) = subst (λ (old : ℕ). IsNumbered a old (length found.0.1)) k.names read.numbered in
    let right : UsesRight own.bounds a = used-right a own.bounds (length found.0.1) numbered may.0 in
    let so_far : UsesRight (bound_so_far caller [] r.script.lines) a = subst (λ (bounds : List Bound). UsesRight bounds a) k.bounds right in
    let after : CallerWords = record { names = found.0.1; bounds = bound_after a own.bounds } in
    let is_own : (caller == caller) ≡ true = same-caller caller (caller == caller) refl in
    let kept : IsKept caller after (r.script.lines ++ last ∷ []) = record {
      bounds = ap (bound_after a) k.bounds ∙ sym (so_far-onto caller [] r.script.lines last ∙ rw is_own refl);
      names = numbered-length a (length own.bounds) (length found.0.1) numbered ∙ sym (after-length a own.bounds right);
    } in
    let same : (let made : Reading = record r { script = record r.script { lines = r.script.lines ++ last ∷ [] }; total = r.total + bytes_counted a; dirty = r.dirty + dirty_lines a; words = slice_set r.words caller after; phase = phase_with caller a r.phase } in made) ≡ new = cc in
    let one : IsLineWithin r.script.streams r.script.phases last = record {
      first_caller = range.0;
      last_caller = range.1;
      first_phase = w.first_phase;
      last_phase = omega arith;
      file = read.file;
      moved = read.moved;
    } in
    let of_mode : IsLineOf m last = record { in_mode = read.in_mode; fails = λ f. (may_fail f, fails-call fails (is_call a) may.1 f) } in
    let each = is.callers in
    let most = range.1 in
    let low : caller < length r.words = omega (arith, each, most) in
    subst (IsSoFar m (n + 1)) same
    (record {
      within = record {
        header = record {
          least_journal = w.header.least_journal;
          most_journal = w.header.most_journal;
          least_threshold = w.header.least_threshold;
          most_threshold = w.header.most_threshold;
          most_ticks = w.header.most_ticks;
          most_aheads = w.header.most_aheads;
        };
        first_phase = w.first_phase;
        last_phase = w.last_phase;
        few_streams = w.few_streams;
        streams = w.streams;
        few_lines = omega (arith, len, few, room);
        lines = all-onto (IsLineWithin r.script.streams r.script.phases) r.script.lines last w.lines one;
        in_order = ascend-onto r.script.streams 1 r.script.lines last w.first_phase w.lines w.in_order;
        words = λ c. right-onto c [] r.script.lines last (w.words c) (right-if caller c a r.script.lines (caller == c) refl so_far);
        restarts = w.restarts;
        apart = apart-onto r.script.lines last w.apart (apart-before r.script.phases r.phase last refl tests.0 r.script.lines is.in_phase);
      };
      streams = is.streams;
      lines = all-onto (IsLineOf m) r.script.lines last is.lines of_mode;
      phases = is.phases;
      few = omega (arith, len, few);
      callers = length-set r.words caller after ∙ is.callers;
      kept = kept-on caller after last r refl low kept is.kept;
      restarts = is.restarts;
      in_phase = all-onto (IsInPhase r.script.phases (phase_with caller a r.phase)) r.script.lines last (phase-kept-all r.script.phases r.phase caller a r.script.lines is.in_phase) (phase-has r.script.phases r.phase last);
    })

-- a line of a caller, with `fail` before its action or without
caller-so_far : (m : Mode) (n line caller : ℕ) (v : Verb) (ws : List (List ℕ)) (r new : Reading) → n < 65536 → (1 ≤ caller) × (caller ≤ 16) → stands (verb_modes v) m ≡ true → IsSoFar m n r → caller_line m line caller v ws r ≡ Some new → IsSoFar m (n + 1) new
unfolding caller_line
caller-so_far m n line caller verb.Fail ws r new room range in_mode is e =
    let found = then-gives (next (verb_in m) ws) _ new e in
    let w = next-gives (verb_in m) ws found.0.0 found.0.1 found.1 in
    action-so_far m n line caller true found.0.0 found.0.1 r new room range (λ _. in-steps m in_mode) (verb-gives m w.word found.0.0 w.reads) is found.2
caller-so_far m n line caller v ws r new room range in_mode is e =
    action-so_far m n line caller false v ws r new room range (λ f. absurd (cc)) in_mode is e

verb-so_far : (m : Mode) (n line : ℕ) (v : Verb) (ws : List (List ℕ)) (r new : Reading) → n < 65536 → stands (verb_modes v) m ≡ true → IsSoFar m n r → verb_line m line v ws r ≡ Some new → IsSoFar m (n + 1) new
unfolding verb_line
verb-so_far m n line verb.Stream ws r new room in_mode is e =
    let found = then-gives (parsed_stream m line ws) _ new e in
    later m n new (stream-so_far m n found.0 r new (stream-gives m line ws found.0 found.1) is found.2)
verb-so_far m n line verb.Journal ws r new room in_mode is e =
    let found = then-gives (parsed_setting 64 1048576 ws) _ new e in
    later m n new (journal-so_far m n found.0 r new (setting-gives 64 1048576 ws found.0 found.1) is found.2)
verb-so_far m n line verb.Threshold ws r new room in_mode is e =
    let found = then-gives (parsed_setting 1 16384 ws) _ new e in
    later m n new (threshold-so_far m n found.0 r new (setting-gives 1 16384 ws found.0 found.1) is found.2)
verb-so_far m n line verb.Workers ws r new room in_mode is e =
    let found = then-gives (parsed_workers ws) _ new e in
    later m n new (workers-so_far m n found.0 r new (workers-gives ws found.0 found.1) is found.2)
verb-so_far m n line verb.Restart ws r new room in_mode is e =
    let found = then-gives (parsed_restart line ws) _ new e in
    later m n new (restart-so_far m n found.0 r new in_mode (restart-gives line ws found.0 found.1) is found.2)
verb-so_far m n line verb.Phase ws r new room in_mode is e = later m n new (phase-so_far m n ws r new in_mode is e)
verb-so_far m n line v ws r new room in_mode is e = caller-so_far m n line 1 v ws r new room (lit≤ tt, lit≤ tt) in_mode is e

-- a line by a caller, or without a caller word
by-so_far : (m : Mode) (n line : ℕ) (caller : Option ℕ) (word : List ℕ) (more : List (List ℕ)) (r new : Reading) → n < 65536 → parsed_caller word ≡ caller → IsSoFar m n r → line_by m line caller word more r ≡ Some new → IsSoFar m (n + 1) new
unfolding called_line uncalled_line
by-so_far m n line (Some caller) word more r new room by is e =
    let c = caller-gives word caller by in
    let found = then-gives (next (verb_in m) more) _ new e in
    let w = next-gives (verb_in m) more found.0.0 found.0.1 found.1 in
    let t = if-gives (takes_caller found.0.0) _ new found.2 in
    caller-so_far m n line caller found.0.0 found.0.1 r new room c (verb-gives m w.word found.0.0 w.reads) is t.1
by-so_far m n line None word more r new room by is e =
    let found = then-gives (next (verb_in m) (word ∷ more)) _ new e in
    let w = next-gives (verb_in m) (word ∷ more) found.0.0 found.0.1 found.1 in
    verb-so_far m n line found.0.0 found.0.1 r new room (verb-gives m w.word found.0.0 w.reads) is found.2

words-so_far : (m : Mode) (n line : ℕ) (ws : List (List ℕ)) (r new : Reading) → n < 65536 → IsSoFar m n r → words_line m line ws r ≡ Some new → IsSoFar m (n + 1) new
unfolding words_line
words-so_far m n line [] r new room is e = let same : r ≡ new = cc in subst (IsSoFar m (n + 1)) same (later m n r is)
words-so_far m n line (word ∷ more) r new room is e = by-so_far m n line (parsed_caller word) word more r new room refl is e

text-so_far : (m : Mode) (n line : ℕ) (text : List ℕ) (r new : Reading) → n < 65536 → IsSoFar m n r → text_line m line text r ≡ Some new → IsSoFar m (n + 1) new
unfolding text_line
text-so_far m n line text r new room is e = either (slice_index text 0 == 35) (if-gives (list_all is_printable text) _ new e).1
  where
    either : (t : Bool) → (if t then Some r else words_line m line (words text) r) ≡ Some new → IsSoFar m (n + 1) new
    either true g = let same : r ≡ new = cc in subst (IsSoFar m (n + 1)) same (later m n r is)
    either false g = words-so_far m n line (words text) r new room is g

line-so_far : (m : Mode) (n line : ℕ) (bytes : List ℕ) (r new : Reading) → n < 65536 → IsSoFar m n r → line_of m line bytes r ≡ Some new → IsSoFar m (n + 1) new
unfolding line_of
line-so_far m n line bytes r new room is e = text-so_far m n line (strip_carriage_return bytes) r new room is e

lines-so_far : (m : Mode) (n : ℕ) (ls : List (List ℕ)) (r : Reading) (script : Script) → IsSoFar m n r → lines_of m n ls r ≡ Ok script → ScriptIsWithin script × IsOfMode m script
unfolding lines_of
lines-so_far m n [] r script is e =
    let same : r.script ≡ script = cc in
    subst (λ (script : Script). ScriptIsWithin script × IsOfMode m script) same (is.within, record { streams = is.streams; lines = is.lines; phases = is.phases; restarts = is.restarts })
lines-so_far m n (line ∷ more) r script is e = either (nat_lt n 65536) refl e (λ new. lines-so_far m (n + 1) more new script)
  where
    on : (o : Option Reading) → line_of m (n + 1) line r ≡ o → n < 65536 → or_wrong (n + 1) o (λ next. lines_of m (n + 1) more next) ≡ Ok script → ((new : Reading) → IsSoFar m (n + 1) new → lines_of m (n + 1) more new ≡ Ok script → ScriptIsWithin script × IsOfMode m script) → ScriptIsWithin script × IsOfMode m script
    on None f room g go = absurd (cc)
    on (Some new) f room g go = go new (line-so_far m n (n + 1) line r new room is f) g

    either : (t : Bool) → nat_lt n 65536 ≡ t → (if t then or_wrong (n + 1) (line_of m (n + 1) line r) (λ next. lines_of m (n + 1) more next) else Err (n + 1)) ≡ Ok script → ((new : Reading) → IsSoFar m (n + 1) new → lines_of m (n + 1) more new ≡ Ok script → ScriptIsWithin script × IsOfMode m script) → ScriptIsWithin script × IsOfMode m script
    either true f g go = on (line_of m (n + 1) line r) refl (grind (arith, nat_tests, f)) g go
    either false f g go = absurd (cc)

script-gives : (m : Mode) (bytes : List ℕ) (script : Script) → script_of m bytes ≡ Ok script → ScriptIsWithin script × IsOfMode m script
unfolding script_of
script-gives m bytes script e = lines-so_far m 0 (lines bytes) nothing_read script (nothing-so_far m) e

pub script-within : (m : Mode) (bytes : List ℕ) (script : Script) → script_of m bytes ≡ Ok script → ScriptIsWithin script
script-within m bytes script e = (script-gives m bytes script e).0

pub script-of_mode : (m : Mode) (bytes : List ℕ) (script : Script) → script_of m bytes ≡ Ok script → IsOfMode m script
script-of_mode m bytes script e = (script-gives m bytes script e).1

-- so what is read does
pub reads-within : (m : Mode) (bytes : List ℕ) (answer : Result Script ScriptFault) → ReadsScript (script_of m bytes) answer → IfOk answer (ScriptIsWithin)
reads-within m bytes (Ok script) reads = script-within m bytes script reads
reads-within m bytes (Err why) reads = tt

pub reads-of_mode : (m : Mode) (bytes : List ℕ) (answer : Result Script ScriptFault) → ReadsScript (script_of m bytes) answer → IfOk answer (IsOfMode m)
reads-of_mode m bytes (Ok script) reads = script-of_mode m bytes script reads
reads-of_mode m bytes (Err why) reads = tt

-- a line is of no earlier phase than the one from which they ascend
phase-from : (from : ℕ) (lines : List ActionLine) (i : ℕ) (d : ActionLine) → i < length lines → PhasesAscend from lines → from ≤ (slice_index_or lines i d).phase
phase-from from [] i d low order = absurd (omega (arith, low))
phase-from from (line ∷ lines) zero d low order = order.0
phase-from from (line ∷ lines) (suc i) d low order =
    let behind : line.phase ≤ (slice_index_or lines i d).phase = phase-from line.phase lines i d (omega (arith, low)) order.1 in
    omega (arith, order.0, behind)

pub phases-rise : (from : ℕ) (lines : List ActionLine) → PhasesAscend from lines → AllPairs (λ first later. first.phase ≤ later.phase) lines
phases-rise from [] order i j d before low = absurd (omega (arith, low))
phases-rise from (line ∷ lines) order zero zero d before low = absurd (omega (arith, before))
phases-rise from (line ∷ lines) order zero (suc j) d before low = phase-from line.phase lines j d (omega (arith, low)) order.1
phases-rise from (line ∷ lines) order (suc i) zero d before low = absurd (omega (arith, before))
phases-rise from (line ∷ lines) order (suc i) (suc j) d before low =
    phases-rise line.phase lines order.1 i j d (omega (arith, before)) (omega (arith, low))

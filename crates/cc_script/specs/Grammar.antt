-- The script that bytes spell: line after line, or the first line that is not in the grammar.
use Rattle.std.specs.Prelude.{ℕ, ◌+◌, ◌==◌, Bool, true, false, ◌&&◌, ◌||◌, not, Option, Some, None, Result, Ok, Err, is_some, option_map, List, [], ◌∷◌, ◌++◌, length, nat_lt, nat_le, slice_index, slice_set, get_or, replicate, if◌then◌else◌, codes}
use Rattle.std.specs.List.{list_all, list_any}
use Rattle.std.specs.Str.Lines.{strip_carriage_return}
use Rattle.cc_script.specs.declared.script.Mode.{Mode}
use Rattle.cc_script.specs.declared.script.Mode.TheVariants as mode
use Rattle.cc_script.specs.declared.script.Script.{Script}
use Rattle.cc_script.specs.declared.script.StreamLine.{StreamLine}
use Rattle.cc_script.specs.declared.script.RestartLine.{RestartLine}
use Rattle.cc_script.specs.declared.script.Action.{Action}
use Rattle.cc_script.specs.declared.script.ActionLine.{ActionLine}
use Rattle.cc_script.specs.declared.verb.Verb.{Verb}
use Rattle.cc_script.specs.declared.verb.Verb.TheVariants as verb
use Rattle.cc_script.specs.declared.reading.Reading.{Reading}
use Rattle.cc_script.specs.declared.reading.Workers.{Workers}
use Rattle.cc_script.specs.declared.caller_words.CallerWords.{CallerWords}
use Rattle.cc_script.specs.Outcome.{◌>>=◌}
use Rattle.cc_script.specs.Text.{lines, words}
use Rattle.cc_script.specs.Words.{parsed_number, number_between, name_of_word, parsed_caller}
use Rattle.cc_script.specs.Verbs.{takes_caller, verb_in}
use Rattle.cc_script.specs.Modes.{is_call}
use Rattle.cc_script.specs.Actions.{next, flag, ended, stream_named, parsed_quota}
use Rattle.cc_script.specs.ActionTable.{action_of, bytes_counted, dirty_lines}
use Rattle.cc_script.specs.HoldWords.{may_use, bound_after}
use Rattle.cc_script.specs.Checkpoints.{no_lines_yet, phase_with, is_kept_apart}

-- no words, of a caller that has bound none
abbrev pub no_words : CallerWords
no_words = record { names = []; bounds = [] }

-- before the first line; the words of the callers stand by their numbers, from 0 on, which binds none
abbrev pub nothing_read : Reading
nothing_read = record {
  script = record { journal = 1048576; threshold = 1024; ticks = 0; aheads = 0; phases = 1; restarts = []; streams = []; lines = [] };
  total = 0;
  has_journal = false;
  has_threshold = false;
  has_workers = false;
  dirty = 0;
  words = replicate 17 no_words;
  phase = no_lines_yet;
}

-- the words that a caller bound so far
abbrev pub words_by : ℕ → Reading → CallerWords
words_by caller r = get_or r.words caller no_words

-- a stream may follow: before the first action, while there are fewer than 16, by a new name
unfoldable pub may_add : StreamLine → Reading → Bool
may_add stream r =
    (length r.script.lines == 0) && (nat_lt (length r.script.streams) 16
    && not (is_some (stream_named r.script.streams stream.name)))

unfoldable pub with_stream_line : StreamLine → Reading → Option Reading
with_stream_line stream r =
    if may_add stream r
    then Some (record r { script = record r.script { streams = r.script.streams ++ stream ∷ [] } })
    else None

-- [log LOG]: the log of a stream, none where it is not said
unfoldable pub parsed_log : List (List ℕ) → Option (Option ℕ × List (List ℕ))
parsed_log ws =
    if (flag (codes "log") ws).0
    then option_map (λ log. (Some log.0, log.1)) (next (number_between 0 3) (flag (codes "log") ws).1)
    else Some (None, ws)

-- [stored]: whether the stream is opened with the sizes of its record; a word of run alone
unfoldable pub parsed_stored : Mode → List (List ℕ) → Bool × List (List ℕ)
parsed_stored mode.Run ws = flag (codes "stored") ws
parsed_stored mode.Steps ws = (false, ws)

-- stream NAME SIZE VALID [quota Q] [temporary] [log LOG] [stored]
unfoldable pub parsed_stream : Mode → ℕ → List (List ℕ) → Option StreamLine
parsed_stream m n ws = do
  name ← next name_of_word ws
  size ← next parsed_number name.1
  valid ← next parsed_number size.1
  quota ← parsed_quota valid.1
  log ← parsed_log (flag (codes "temporary") quota.1).1
  ended (parsed_stored m log.1).1 (record {
    line = n;
    name = name.0;
    size = size.0;
    valid = valid.0;
    quota = quota.0;
    temporary = (flag (codes "temporary") quota.1).0;
    log = log.0;
    stored = (parsed_stored m log.1).0;
  })

-- the number of a line that sets one
unfoldable pub parsed_setting : ℕ → ℕ → List (List ℕ) → Option ℕ
parsed_setting low high ws = do
  n ← next (number_between low high) ws
  ended n.1 n.0

-- journal N: at most once, before the first action
unfoldable pub with_journal_line : ℕ → Reading → Option Reading
with_journal_line capacity r =
    if (length r.script.lines == 0) && not r.has_journal
    then Some (record r { script = record r.script { journal = capacity }; has_journal = true })
    else None

-- threshold N: likewise
unfoldable pub with_threshold : ℕ → Reading → Option Reading
with_threshold pages r =
    if (length r.script.lines == 0) && not r.has_threshold
    then Some (record r { script = record r.script { threshold = pages }; has_threshold = true })
    else None

-- L A: up to 1000 ticks of the lazy writer in each phase, and up to 1000 steps of the read-ahead worker
unfoldable pub parsed_workers : List (List ℕ) → Option Workers
parsed_workers ws = do
  ticks ← next (number_between 0 1000) ws
  aheads ← next (number_between 0 1000) ticks.1
  ended aheads.1 (record { ticks = ticks.0; aheads = aheads.0 })

-- workers L A: at most once, before the first action
unfoldable pub with_workers : Workers → Reading → Option Reading
with_workers set r =
    if (length r.script.lines == 0) && not r.has_workers
    then Some (record r { script = record r.script { ticks = set.ticks; aheads = set.aheads }; has_workers = true })
    else None

-- restart LOG
unfoldable pub parsed_restart : ℕ → List (List ℕ) → Option RestartLine
parsed_restart n ws = do
  handle ← next (number_between 0 3) ws
  ended handle.1 (record { line = n; handle = handle.0 })

-- whether a restart is of a log
abbrev pub has_restart : ℕ → List RestartLine → Bool
has_restart handle restarts = list_any (λ restart. restart.handle == handle) restarts

-- before the first stream and the first action, at most once of each log
unfoldable pub with_restart : RestartLine → Reading → Option Reading
with_restart restart r =
    if (length r.script.lines == 0)
    && ((length r.script.streams == 0) && not (has_restart restart.handle r.script.restarts))
    then Some (record r { script = record r.script { restarts = r.script.restarts ++ restart ∷ [] } })
    else None

-- phase: at most 1000 times
unfoldable pub with_phase : List (List ℕ) → Reading → Option Reading
with_phase ws r =
    if (length ws == 0) && nat_le r.script.phases 1000
    then Some (record r { script = record r.script { phases = r.script.phases + 1 }; phase = no_lines_yet })
    else None

-- a line of a caller's action, in the phase that is under way, and whether it fails
abbrev pub placed_line : ℕ → ℕ → Bool → Action → Reading → ActionLine
placed_line n caller fails action r = record { line = n; phase = r.script.phases; caller = caller; fails = fails; action = action }

-- the totals that one more line keeps to: in all 33554432 bytes, and 64 lines `dirty`
abbrev pub keeps_totals : Action → Reading → Bool
keeps_totals action r = nat_le (r.total + bytes_counted action) 33554432 && nat_le (r.dirty + dirty_lines action) 64

-- what a caller's words stand for behind its line
abbrev pub words_after : Action → CallerWords → CallerWords
words_after action own = record own { bounds = bound_after action own.bounds }

-- a phase that has a checkpoint has lines of one caller alone
abbrev pub keeps_apart : ℕ → Action → Reading → Bool
keeps_apart caller action r = is_kept_apart (phase_with caller action r.phase)

-- An action of a caller with these words, of which those that it binds are known already: within the totals, beside no
-- checkpoint of another caller, on holds as the words allow, and a call where it fails.
unfoldable pub with_action : ℕ → ℕ → Bool → CallerWords → Action → Reading → Option Reading
with_action n caller fails own action r =
    if keeps_totals action r && (keeps_apart caller action r && (may_use action own.bounds && (not fails || is_call action)))
    then Some (record r {
      script = record r.script { lines = r.script.lines ++ placed_line n caller fails action r ∷ [] };
      total = r.total + bytes_counted action;
      dirty = r.dirty + dirty_lines action;
      words = slice_set r.words caller (words_after action own);
      phase = phase_with caller action r.phase;
    })
    else None

unfoldable pub action_line : Mode → ℕ → ℕ → Bool → Verb → List (List ℕ) → Reading → Option Reading
action_line mode n caller fails v ws r = do
  found ← action_of mode r.script.streams (words_by caller r).names v ws
  with_action n caller fails (record (words_by caller r) { names = found.1 }) found.0 r

-- a line of a caller: an action, or `fail` and an action
unfoldable pub caller_line : Mode → ℕ → ℕ → Verb → List (List ℕ) → Reading → Option Reading
caller_line mode n caller verb.Fail ws r = do
  v ← next (verb_in mode) ws
  action_line mode n caller true v.0 v.1 r
caller_line mode n caller v ws r = action_line mode n caller false v ws r

-- a line of a verb, without a caller word
unfoldable pub verb_line : Mode → ℕ → Verb → List (List ℕ) → Reading → Option Reading
verb_line mode n verb.Stream ws r = do
  stream ← parsed_stream mode n ws
  with_stream_line stream r
verb_line mode n verb.Journal ws r = do
  capacity ← parsed_setting 64 1048576 ws
  with_journal_line capacity r
verb_line mode n verb.Threshold ws r = do
  pages ← parsed_setting 1 16384 ws
  with_threshold pages r
verb_line mode n verb.Workers ws r = do
  set ← parsed_workers ws
  with_workers set r
verb_line mode n verb.Restart ws r = do
  restart ← parsed_restart n ws
  with_restart restart r
verb_line mode n verb.Phase ws r = with_phase ws r
verb_line mode n v ws r = caller_line mode n 1 v ws r

-- an action behind a caller word
unfoldable pub called_line : Mode → ℕ → ℕ → List (List ℕ) → Reading → Option Reading
called_line mode n caller ws r = do
  v ← next (verb_in mode) ws
  if takes_caller v.0 then caller_line mode n caller v.0 v.1 r else None

-- a line that doesn't begin with a caller word
unfoldable pub uncalled_line : Mode → ℕ → List (List ℕ) → Reading → Option Reading
uncalled_line mode n ws r = do
  v ← next (verb_in mode) ws
  verb_line mode n v.0 v.1 r

-- a line, by the caller that its first word names, if any
abbrev pub line_by : Mode → ℕ → Option ℕ → List ℕ → List (List ℕ) → Reading → Option Reading
line_by mode n (Some caller) word more r = called_line mode n caller more r
line_by mode n None word more r = uncalled_line mode n (word ∷ more) r

-- a line of these words; one of no words says nothing
unfoldable pub words_line : Mode → ℕ → List (List ℕ) → Reading → Option Reading
words_line mode n [] r = Some r
words_line mode n (word ∷ more) r = line_by mode n (parsed_caller word) word more r

-- printable ASCII, or a space
abbrev pub is_printable : ℕ → Bool
is_printable b = nat_le 32 b && nat_le b 126

-- a line without the carriage return at its end: one that begins with `#` says nothing
unfoldable pub text_line : Mode → ℕ → List ℕ → Reading → Option Reading
text_line mode n text r =
    if list_all is_printable text
    then (if slice_index text 0 == 35 then Some r else words_line mode n (words text) r)
    else None

unfoldable pub line_of : Mode → ℕ → List ℕ → Reading → Option Reading
line_of mode n line r = text_line mode n (strip_carriage_return line) r

-- line n is wrong where it gives nothing
abbrev pub or_wrong : ℕ → Option Reading → (Reading → Result Script ℕ) → Result Script ℕ
or_wrong n None go = Err n
or_wrong n (Some next) go = go next

-- the lines after the first n; there are at most 65536
unfoldable pub lines_of : Mode → ℕ → List (List ℕ) → Reading → Result Script ℕ
lines_of mode n [] r = Ok r.script
lines_of mode n (line ∷ more) r =
    if nat_lt n 65536
    then or_wrong (n + 1) (line_of mode (n + 1) line r) (λ next. lines_of mode (n + 1) more next)
    else Err (n + 1)

-- the script of the bytes, or the first line that is not in the grammar
unfoldable pub script_of : Mode → List ℕ → Result Script ℕ
script_of mode bytes = lines_of mode 0 (lines bytes) nothing_read

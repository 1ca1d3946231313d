-- The script that a number gives: two streams, and 4000 lines of `steps`, drawn one after another.
use Rattle.std.specs.Prelude.{ℕ, zero, suc, ◌+◌, ◌*◌, ◌/◌, ◌%◌, ◌^◌, ◌==◌, ◌||◌, true, false, Some, None, List, [], ◌∷◌, replicate, codes, if◌then◌else◌}
use Rattle.cc_entry.specs.Place.{File, Page}
use Rattle.cc_script.specs.declared.generator.Draws.{Draws}
use Rattle.cc_script.specs.declared.script.StreamLine.{StreamLine}
use Rattle.cc_script.specs.declared.script.Action.{Action}
use Rattle.cc_script.specs.declared.script.Action.TheVariants as action
use Rattle.cc_script.specs.declared.script.ActionLine.{ActionLine}
use Rattle.cc_script.specs.declared.script.Script.{Script}

-- the state behind one draw
unfoldable pub state_after : ℕ → ℕ
state_after x = (x * 6364136223846793005 + 1442695040888963407) % 2 ^ 64

-- what a draw of a number below m gives, from the state behind it
unfoldable pub draw_of : ℕ → ℕ → ℕ
draw_of m x = (x / 2 ^ 33) % m

-- the states behind the five draws of a line, from the state before it
abbrev pub caller_state : ℕ → ℕ
caller_state x = state_after x

abbrev pub verb_state : ℕ → ℕ
verb_state x = state_after (caller_state x)

abbrev pub stream_state : ℕ → ℕ
stream_state x = state_after (verb_state x)

abbrev pub page_state : ℕ → ℕ
page_state x = state_after (stream_state x)

abbrev pub byte_state : ℕ → ℕ
byte_state x = state_after (page_state x)

-- what is drawn for a line, in this order: a caller of four, the number of its verb, a stream, a page and a byte
unfoldable pub draws_of : ℕ → Draws
draws_of x = record {
  caller = draw_of 4 (caller_state x) + 1;
  verb = draw_of 8 (verb_state x);
  stream = draw_of 2 (stream_state x);
  page = draw_of 2 (page_state x);
  byte = draw_of 256 (byte_state x);
}

-- the file of a line is object 0 of its stream
abbrev pub drawn_file : Draws → File
drawn_file d = record { stream = d.stream; object = 0 }

abbrev pub drawn_page : Draws → Page
drawn_page d = record { stream = d.stream; page = d.page }

-- The action of a line, by the number of its verb: `fill S P`, `out S P`, `begin S P`, `end S P`, `cread S AT 16`,
-- `cwrite S AT` with the byte four times, `append 0 01` and `scan`, where AT is where the page starts.
unfoldable pub drawn_action : Draws → Action
drawn_action d =
    if d.verb == 0 then action.Fill (drawn_page d) else (
    if d.verb == 1 then action.Drop (drawn_page d) else (
    if d.verb == 2 then action.WriteBegin (drawn_page d) else (
    if d.verb == 3 then action.WriteEnd (drawn_page d) else (
    if d.verb == 4 then action.CopyRead (drawn_file d) (4096 * d.page) 16 true else (
    if d.verb == 5 then action.CopyWrite (drawn_file d) (4096 * d.page) (replicate 4 d.byte) else (
    if d.verb == 6 then action.Append 0 (1 ∷ []) else action.Scan))))))

-- `out`, `end` and `scan` have no caller word, and so the first caller
unfoldable pub drawn_caller : Draws → ℕ
drawn_caller d = if d.verb == 1 || (d.verb == 3 || d.verb == 7) then 1 else d.caller

-- a line of this number
abbrev pub drawn_line : ℕ → Draws → ActionLine
drawn_line number d = record { line = number; phase = 1; caller = drawn_caller d; fails = false; action = drawn_action d }

-- so many lines, numbered on from this one, from a state
unfoldable pub drawn_lines : ℕ → ℕ → ℕ → List ActionLine
drawn_lines zero number x = []
drawn_lines (suc more) number x = drawn_line number (draws_of x) ∷ drawn_lines more (suc number) (byte_state x)

-- `stream a 1048576 1048576 log 0` and `stream b 8192 5000`
abbrev pub drawn_streams : List StreamLine
drawn_streams =
    record { line = 1; name = codes "a"; size = 1048576; valid = 1048576; quota = 16; temporary = false; log = Some 0; stored = false }
    ∷ record { line = 2; name = codes "b"; size = 8192; valid = 5000; quota = 16; temporary = false; log = None; stored = false }
    ∷ []

-- the streams on lines 1 and 2, and the lines behind them
unfoldable pub generated : ℕ → Script
generated n = record {
  journal = 1048576;
  threshold = 1024;
  ticks = 0;
  aheads = 0;
  phases = 1;
  restarts = [];
  streams = drawn_streams;
  lines = drawn_lines 4000 3 n;
}

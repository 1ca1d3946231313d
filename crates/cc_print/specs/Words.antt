-- The words that lines are made of: names, files, pages, numbers that may be absent, bytes.
use Rattle.std.specs.Prelude.{ℕ, ◌/◌, ◌%◌, ◌==◌, Bool, true, List, [], ◌∷◌, ◌++◌, Option, Some, None, codes, decimal, slice_get, if◌then◌else◌}
use Rattle.std.specs.List.{flat_map}
use Rattle.std.specs.Fmt.{digit_glyph}
use Rattle.cc_entry.specs.Place.{File, Page, Range}
use Rattle.cc_entry.specs.Runs.{runs_of}
use Rattle.cc_entry.specs.declared.place.Request.{Request}
use Rattle.cc_entry.specs.declared.runs.Run.{Run}
use Rattle.cc_script.specs.declared.script.StreamLine.{StreamLine}
use Rattle.cc_print.specs.Append.{◌&◌}

-- the name of a stream's line, empty where there is none
abbrev pub name_in : Option StreamLine → List ℕ
name_in (Some line) = line.name
name_in None = []

-- the name of a stream, by its number
abbrev pub name_at : List StreamLine → ℕ → List ℕ
name_at streams stream = name_in (slice_get streams stream)

-- a file object: its stream's name and its number
abbrev pub file_text : List StreamLine → File → List ℕ
file_text streams file = name_at streams file.stream ++ (codes ":" ++ decimal file.object)

-- a verb and a file
abbrev pub of_file : List ℕ → List StreamLine → File → List ℕ → List ℕ
of_file verb streams file behind = verb & codes " " & file_text streams file & behind

-- a verb, a file and a number
abbrev pub of_file_number : List ℕ → List StreamLine → File → ℕ → List ℕ
of_file_number verb streams file number = verb & codes " " & file_text streams file & codes " " & decimal number

-- a page: its stream's name and its number
abbrev pub page_text : List StreamLine → Page → List ℕ
page_text streams page = name_at streams page.stream ++ (codes " " ++ decimal page.page)

-- a word that stands only where a flag is set
abbrev pub word_if : Bool → List ℕ → List ℕ
word_if is_set word = if is_set then word else []

-- a number behind a space, or nothing
abbrev pub number_if : Option ℕ → List ℕ
number_if (Some n) = codes " " ++ decimal n
number_if None = []

-- a number, as that of a log or an LSN; `-` where there is none
abbrev pub number_or_dash : Option ℕ → List ℕ
number_or_dash (Some n) = decimal n
number_or_dash None = codes "-"

-- the ends of a range, each behind a space, or nothing
abbrev pub span_if : Option Range → List ℕ
span_if (Some range) = codes " " ++ (decimal range.from ++ (codes " " ++ decimal range.to))
span_if None = []

-- a read-ahead request: its file, place and length
abbrev pub request_text : List StreamLine → Request → List ℕ
request_text streams request =
    codes "ahead " & file_text streams request.file & codes " " & decimal request.at & codes " " & decimal request.len

-- a byte as two upper-case hexadecimal digits
abbrev pub hex_pair : ℕ → List ℕ
hex_pair byte = digit_glyph true (byte / 16) ∷ digit_glyph true (byte % 16) ∷ []

-- a run of one byte is its digits, a longer one has `x` and its length
abbrev pub run_text : Run → List ℕ
run_text run = if run.count == 1 then hex_pair run.byte else hex_pair run.byte ++ (codes "x" ++ decimal run.count)

-- runs behind others, each behind a comma
abbrev pub more_runs : List Run → List ℕ
more_runs runs = flat_map (λ run. codes "," ++ run_text run) runs

-- runs parted by commas; `-` where there is none
abbrev pub runs_text : List Run → List ℕ
runs_text [] = codes "-"
runs_text (run ∷ runs) = run_text run ++ more_runs runs

-- bytes as their longest runs
abbrev pub bytes_text : List ℕ → List ℕ
bytes_text bytes = runs_text (runs_of bytes)

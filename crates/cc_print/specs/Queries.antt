-- Queries and what they find, as they are printed.
use Rattle.std.specs.Prelude.{ℕ, Bool, true, false, List, [], Option, Some, None, codes, decimal}
use Rattle.cc_entry.specs.declared.place.FileState.{FileState}
use Rattle.cc_entry.specs.declared.query.Query.{Query}
use Rattle.cc_entry.specs.declared.query.Query.TheVariants as query
use Rattle.cc_entry.specs.declared.query.Value.{Value}
use Rattle.cc_entry.specs.declared.query.Value.TheVariants as value
use Rattle.cc_script.specs.declared.script.StreamLine.{StreamLine}
use Rattle.cc_print.specs.Append.{◌&◌}
use Rattle.cc_print.specs.Words.{of_file, of_file_number, number_or_dash}

-- a query with its arguments
abbrev pub query_text : List StreamLine → Query → List ℕ
query_text streams (query.State file) = of_file (codes "state") streams file []
query_text streams (query.DirtyPages handle) = codes "dirty " & decimal handle
query_text streams (query.LsnForFile file) = of_file (codes "lsns") streams file []
query_text streams query.IsDirtyData = codes "isdirty"
query_text streams (query.CanWrite file bytes) = of_file_number (codes "canwrite") streams file bytes

abbrev pub flag_text : Bool → List ℕ
flag_text true = codes "true"
flag_text false = codes "false"

-- the least and the greatest LSN that is not yet written, if there is one
abbrev pub lsns_text : Option (ℕ × ℕ) → List ℕ
lsns_text (Some lsns) = codes "lsns " & decimal lsns.0 & codes " " & decimal lsns.1
lsns_text None = codes "none"

-- the sizes of a stream, and the handle of its log
abbrev pub state_text : FileState → List ℕ
state_text state =
    codes "state " & decimal state.sizes.allocation
    & codes " " & decimal state.sizes.size
    & codes " " & decimal state.sizes.valid
    & codes " " & number_or_dash state.log

-- what was found
abbrev pub value_text : Value → List ℕ
value_text (value.Flag flag) = flag_text flag
value_text (value.Lsns lsns) = lsns_text lsns
value_text (value.State state) = state_text state

-- What a query names, and the bytes whose pages it needs.
use Rattle.std.specs.Prelude.{ℕ, Bool, is_some}
use Rattle.std.specs.declared.option.Option.{Option}
use Rattle.std.specs.declared.option.Option.TheVariants.{Some, None}
use Rattle.cc_entry.specs.Place.{File}
use Rattle.cc_entry.specs.declared.query.Query.{Query}
use Rattle.cc_entry.specs.declared.query.Query.TheVariants as query

-- the file object that a query names
abbrev pub file_of_query : Query → Option File
file_of_query (query.State file) = Some file
file_of_query (query.DirtyPages handle) = None
file_of_query (query.LsnForFile file) = Some file
file_of_query query.IsDirtyData = None
file_of_query (query.CanWrite file bytes) = Some file

-- whether it is of a stream, that of its file; one that names no file is answered from the journal
abbrev pub is_of_stream : Query → Bool
is_of_stream asked = is_some (file_of_query asked)

-- the log that it names
abbrev pub log_of_query : Query → Option ℕ
log_of_query (query.DirtyPages handle) = Some handle
log_of_query other = None

-- the bytes whose pages it needs, as far as they lie below the size: from where, and how many
abbrev pub extent_of_query : Query → Option (ℕ × ℕ)
extent_of_query (query.State file) = None
extent_of_query (query.DirtyPages handle) = None
extent_of_query (query.LsnForFile file) = None
extent_of_query query.IsDirtyData = None
extent_of_query (query.CanWrite file bytes) = None

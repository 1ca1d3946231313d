-- The lines of queries: the verb of each, and its words.
use Rattle.std.specs.Prelude.{ℕ, Option, option_map, List, codes}
use Rattle.cc_entry.specs.declared.query.Query.{Query}
use Rattle.cc_entry.specs.declared.query.Query.TheVariants as query
use Rattle.cc_script.specs.declared.script.StreamLine.{StreamLine}
use Rattle.cc_script.specs.declared.script.Action.{Action}
use Rattle.cc_script.specs.declared.script.Action.TheVariants as action
use Rattle.cc_script.specs.declared.verb.QueryVerb.{QueryVerb}
use Rattle.cc_script.specs.declared.verb.QueryVerb.TheVariants as query_verb
use Rattle.cc_script.specs.Outcome.{◌>>=◌}
use Rattle.cc_script.specs.Words.{parsed_number, number_between}
use Rattle.cc_script.specs.Actions.{next, ended, parsed_file}

-- the word that the verb of a query is written by
abbrev pub query_verb_text : QueryVerb → List ℕ
query_verb_text query_verb.State = codes "state"
query_verb_text query_verb.DirtyPages = codes "dirty"
query_verb_text query_verb.LsnForFile = codes "lsns"
query_verb_text query_verb.IsDirtyData = codes "isdirty"
query_verb_text query_verb.CanWrite = codes "canwrite"

-- state FILE
unfoldable pub parsed_state : List StreamLine → List (List ℕ) → Option Query
parsed_state streams ws = do
  file ← next (parsed_file streams) ws
  ended file.1 (query.State file.0)

-- dirty LOG
unfoldable pub parsed_dirty_pages : List (List ℕ) → Option Query
parsed_dirty_pages ws = do
  log ← next (number_between 0 3) ws
  ended log.1 (query.DirtyPages log.0)

-- lsns FILE
unfoldable pub parsed_lsn_for_file : List StreamLine → List (List ℕ) → Option Query
parsed_lsn_for_file streams ws = do
  file ← next (parsed_file streams) ws
  ended file.1 (query.LsnForFile file.0)

-- canwrite FILE N
unfoldable pub parsed_can_write : List StreamLine → List (List ℕ) → Option Query
parsed_can_write streams ws = do
  file ← next (parsed_file streams) ws
  bytes ← next parsed_number file.1
  ended bytes.1 (query.CanWrite file.0 bytes.0)

-- the query of a verb, by the words behind it
abbrev pub query_in : List StreamLine → QueryVerb → List (List ℕ) → Option Query
query_in streams query_verb.State ws = parsed_state streams ws
query_in streams query_verb.DirtyPages ws = parsed_dirty_pages ws
query_in streams query_verb.LsnForFile ws = parsed_lsn_for_file streams ws
query_in streams query_verb.IsDirtyData ws = ended ws query.IsDirtyData
query_in streams query_verb.CanWrite ws = parsed_can_write streams ws

-- and the action that makes it
unfoldable pub parsed_query : List StreamLine → QueryVerb → List (List ℕ) → Option Action
parsed_query streams asked ws = option_map (λ found. action.Query found) (query_in streams asked ws)

-- What the line of a query that is read names: a file of a stream of the script, or none.
use Rattle.std.proofs.Common.{◌≡◌, ℕ, Some, None, Option, List, IfSome, option_map, refl, subst, arith}
use Rattle.cc_entry.specs.Queries.{file_of_query}
use Rattle.cc_entry.specs.declared.query.Query.{Query}
use Rattle.cc_entry.specs.declared.query.Query.TheVariants as query
use Rattle.cc_script.specs.declared.script.Mode.{Mode}
use Rattle.cc_script.specs.declared.script.StreamLine.{StreamLine}
use Rattle.cc_script.specs.declared.script.Action.{Action}
use Rattle.cc_script.specs.declared.script.Action.TheVariants as action
use Rattle.cc_script.specs.declared.verb.QueryVerb.{QueryVerb}
use Rattle.cc_script.specs.declared.verb.QueryVerb.TheVariants as query_verb
use Rattle.cc_script.specs.Words.{parsed_number, number_between}
use Rattle.cc_script.specs.Actions.{next, ended, parsed_file}
use Rattle.cc_script.specs.QueryLines.{parsed_can_write, parsed_dirty_pages, parsed_lsn_for_file, parsed_query, parsed_state, query_in}
use Rattle.cc_script.specs.Within.{IsFileWithin}
use Rattle.cc_script.proofs.Steps.{then-gives, next-gives, ended-gives, file-gives}
use Rattle.cc_script.proofs.Plain.{IsPlain}

abbrev IsQueryWithin : List StreamLine → Query → Type 0
IsQueryWithin streams asked = IfSome (file_of_query asked) (λ file. IsFileWithin streams file)

state-within : (streams : List StreamLine) (ws : List (List ℕ)) (asked : Query) → parsed_state streams ws ≡ Some asked → IsQueryWithin streams asked
unfolding parsed_state
state-within streams ws asked e =
    let file = then-gives (next (parsed_file streams) ws) _ asked e in
    let end = ended-gives _ _ asked file.2 in
    let f = next-gives (parsed_file streams) ws file.0.0 file.0.1 file.1 in
    subst (IsQueryWithin streams) end.1 (file-gives streams f.word file.0.0 f.reads)

dirty_pages-within : (streams : List StreamLine) (ws : List (List ℕ)) (asked : Query) → parsed_dirty_pages ws ≡ Some asked → IsQueryWithin streams asked
unfolding parsed_dirty_pages
dirty_pages-within streams ws asked e =
    let log = then-gives (next (number_between 0 3) ws) _ asked e in
    let end = ended-gives _ _ asked log.2 in
    subst (IsQueryWithin streams) end.1 tt

lsn_for_file-within : (streams : List StreamLine) (ws : List (List ℕ)) (asked : Query) → parsed_lsn_for_file streams ws ≡ Some asked → IsQueryWithin streams asked
unfolding parsed_lsn_for_file
lsn_for_file-within streams ws asked e =
    let file = then-gives (next (parsed_file streams) ws) _ asked e in
    let end = ended-gives _ _ asked file.2 in
    let f = next-gives (parsed_file streams) ws file.0.0 file.0.1 file.1 in
    subst (IsQueryWithin streams) end.1 (file-gives streams f.word file.0.0 f.reads)

can_write-within : (streams : List StreamLine) (ws : List (List ℕ)) (asked : Query) → parsed_can_write streams ws ≡ Some asked → IsQueryWithin streams asked
unfolding parsed_can_write
can_write-within streams ws asked e =
    let file = then-gives (next (parsed_file streams) ws) _ asked e in
    let bytes = then-gives (next parsed_number file.0.1) _ asked file.2 in
    let end = ended-gives _ _ asked bytes.2 in
    let f = next-gives (parsed_file streams) ws file.0.0 file.0.1 file.1 in
    subst (IsQueryWithin streams) end.1 (file-gives streams f.word file.0.0 f.reads)

query-within : (streams : List StreamLine) (v : QueryVerb) (ws : List (List ℕ)) (asked : Query) → query_in streams v ws ≡ Some asked → IsQueryWithin streams asked
query-within streams query_verb.State ws asked e = state-within streams ws asked e
query-within streams query_verb.DirtyPages ws asked e = dirty_pages-within streams ws asked e
query-within streams query_verb.LsnForFile ws asked e = lsn_for_file-within streams ws asked e
query-within streams query_verb.IsDirtyData ws asked e = subst (IsQueryWithin streams) (ended-gives ws query.IsDirtyData asked e).1 tt
query-within streams query_verb.CanWrite ws asked e = can_write-within streams ws asked e

-- it moves no byte, binds no word, and stands in both modes
pub query-gives : (m : Mode) (streams : List StreamLine) (v : QueryVerb) (ws : List (List ℕ)) (a : Action) → parsed_query streams v ws ≡ Some a → IsPlain m streams a
unfolding parsed_query
query-gives m streams v ws a e = by (query_in streams v ws) refl e
  where
    by : (found : Option Query) → query_in streams v ws ≡ found → option_map (λ asked. action.Query asked) found ≡ Some a → IsPlain m streams a
    by None is same = absurd (cc)
    by (Some asked) is same =
        let equal : action.Query asked ≡ a = cc in
        subst (IsPlain m streams) equal
        (record { file = query-within streams v ws asked is; moved = omega arith; numbered = λ n. refl; in_mode = refl })

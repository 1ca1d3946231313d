-- The calls of a checkpoint, put together.
use Rattle.std.specs.Prelude.{◌≡◌, ◌≢◌, ℕ, zero, suc, ◌+◌, ◌<◌, ◌≤◌, Bool, true, false, List, [], ◌∷◌, ◌++◌, All, length, map, take, drop, get_or, Result, Ok, Err, Vec, OnOk, if◌then◌else◌, refl}
use Rattle.std.specs.Global.{Global}
use Rattle.std.specs.declared.option.Option.TheVariants.{Some, None}
use Rattle.std.proofs.Common.{ap, sym, ◌∙◌, subst, inl, inr, append-nil, append_assoc, arith}
use Rattle.std.proofs.Math.Seq.{drop-cons}
use Rattle.std.proofs.lemmas.List.{map-append, take-append-drop, take_more}
use Rattle.std.proofs.lemmas.List.Elements.{All-append, All-from_get_or, All-weaker}
use Rattle.cc_entry.specs.Place.{File, Range}
use Rattle.cc_entry.specs.declared.call.Call.{Call}
use Rattle.cc_entry.specs.declared.call.Call.TheVariants as call
use Rattle.cc_entry.specs.declared.query.Query.TheVariants as query
use Rattle.cc_entry.specs.declared.error.CcError.{CcError}
use Rattle.cc_entry.specs.declared.error.CcError.TheVariants as error
use Rattle.cc_entry.specs.declared.place.DirtyRow.{DirtyRow}
use Rattle.cc_entry.specs.declared.place.FileState.{FileState}
use Rattle.cc_model.specs.Records.{little_endian}
use Rattle.cc_model.specs.Setup.{Setup}
use Rattle.cc_format.specs.declared.log.OldestRow.{OldestRow}
use Rattle.cc_format.specs.LogRecords.{spelled_rows}
use Rattle.std.specs.Int.{bytes_low_first}
use Rattle.cc_shim.proofs.Recording.{low-first}
use Rattle.cc_effects.specs.LogCalls.{AppendLeft, LogFlushLeft}
use Rattle.cc_effects.specs.Moments.{Between}
use Rattle.cc_effects.proofs.Stretches.{idle-none}
use Rattle.cc_own.proofs.VerbsKeep.{log_flush-unchanged}
use Rattle.cc_pieces.proofs.Grown.{grew-call}
use Rattle.cc_turns.specs.Standing.{Standing}
use Rattle.cc_calls.specs.Answers.{CallEnds, CanCall, IsFree, outcome_of, rows_outcome, state_outcome}
use Rattle.cc_calls.specs.Flushes.{FlushEnds}
use Rattle.cc_calls.specs.Logs.{LogEnds}
use Rattle.cc_calls.specs.Pages.{WentOn}
use Rattle.cc_calls.proofs.Paging.{writing-within}
use Rattle.cc_pieces.specs.Shim.{CallsLeft}
use Rattle.cc_pieces.specs.Checkpoints.{AskingStopped, CheckpointLeft, RecordFlushed, RecordLogged, RowsLogged, StatesAsked, SyncedLogged, first_object, state_has_log, oldest_row, record_of_rows, sync_call}
use Rattle.cc_shim.specs.Checkpoints.{LogAsked, LogsAsked, SyncCallLeft}
use Rattle.cc_shim.specs.Ends.{FirstLeft, ListEnds}
use Rattle.cc_shim.proofs.Going.{HasGone, ends-after, ends-here, full-now, gone-append, gone-ends, gone-list, gone-none, gone-then, moved, on-went}
use Rattle.cc_shim.proofs.Lists.{first-more, first-none}

-- a pass that holds no turn goes on without one, in the run that it was in
pub free-then : (w v : Standing) → IsFree w → WentOn w v → IsFree v
free-then w v is on = subst IsFree (sym on.same) (record { free = is.free; none = is.none })

pub streams-then : (w v : Standing) → WentOn w v → v.streams ≡ w.streams
streams-then w v on = ap (λ (x : Standing). x.streams) on.same

pub can-call : (w : Standing) (s n : ℕ) → IsFree w → s < n → n ≤ w.streams → CanCall w s
can-call w s n is below known = record { known = omega (arith, below, known); free = is.free; none = is.none }

-- a refusal is handed on
pub ends-refused : {A B : Type 0} (w v : Standing) (Left : Result A CcError → Between) (More : Result B CcError → Between) (e : CcError) → ListEnds w v Left (Err e) → (Left (Err e) w.seen v.seen → More (Err e) w.seen v.seen) → ListEnds w v More (Err e)
ends-refused w v Left More e ends leads = record { left = leads ends.left; full = ends.full; goes_on = ends.goes_on; grew = ends.grew; good = ends.good }

pub same-file : (file : File) (stream : ℕ) → file.stream ≡ stream → file.object ≡ 0 → file ≡ first_object stream
same-file file stream is first =
    ap (λ (n : ℕ). record { stream = n; object = file.object }) is ∙ ap (λ (n : ℕ). record { stream = stream; object = n }) first

pub same-range : (range : Range) (from to : ℕ) → range.from ≡ from → range.to ≡ to → range ≡ record { from = from; to = to }
same-range range from to begins ends =
    ap (λ (n : ℕ). record { from = n; to = range.to }) begins ∙ ap (λ (n : ℕ). record { from = from; to = n }) ends

-- ---- the state of a stream

module _ (w v : Standing) (handle stream : ℕ) (file : File) (is : file ≡ first_object stream) where
  ends-at : (answer : Result FileState CcError) → CallEnds state_outcome w v (call.Query (query.State file)) answer → CallEnds state_outcome w v (call.Query (query.State (first_object stream))) answer
  ends-at answer ends = subst (λ (f : File). CallEnds state_outcome w v (call.Query (query.State f)) answer) is ends

  -- it was told
  pub log-told : (state : FileState) (has : Bool) → CallEnds state_outcome w v (call.Query (query.State file)) (Ok state) → has ≡ state_has_log handle (Some state) → ListEnds w v (LogAsked w.setup w.number handle stream) (Ok has)
  log-told state has ends same =
      let at = ends-at (Ok state) ends in
      ends-here w v (LogAsked w.setup w.number handle stream) (Ok has) (gone-ends state_outcome w v (call.Query (query.State (first_object stream))) (Ok state) at) tt
      (Some state, same, at.left)

  -- the stream is not open
  pub log-not_open : CallEnds state_outcome w v (call.Query (query.State file)) (Err error.NotCached) → ListEnds w v (LogAsked w.setup w.number handle stream) (Ok false)
  log-not_open ends =
      let at = ends-at (Err error.NotCached) ends in
      ends-here w v (LogAsked w.setup w.number handle stream) (Ok false) (gone-ends state_outcome w v (call.Query (query.State (first_object stream))) (Err error.NotCached) at) tt
      (None, refl, at.left)

  -- it was not told
  pub log-untold : (e : CcError) → e ≢ error.NotCached → v.others ≤ v.most_others → CallEnds state_outcome w v (call.Query (query.State file)) (Err e) → ListEnds w v (LogAsked w.setup w.number handle stream) (Err e)
  log-untold e other few ends =
      let at = ends-at (Err e) ends in
      let gone = gone-ends state_outcome w v (call.Query (query.State (first_object stream))) (Err e) at in
      ends-here w v (LogAsked w.setup w.number handle stream) (Err e) gone (full-now {A = FileState} w v 1 (Err e) gone few (omega arith) at.full)
      (other, at.left)

-- ---- the states of the first streams

none-below : All (λ stream. stream < 0) []
none-below = All-from_get_or (λ stream. stream < 0) [] 0 (λ i low. absurd (omega (arith, low)))

-- the first n were asked
pub record HasAsked (w v : Standing) (handle n : ℕ) (found : List ℕ) : Type 0 where
  pub gone : HasGone w v
  pub asked : StatesAsked w.setup w.number handle n found w.seen v.seen
  pub below : All (λ stream. stream < n) found

pub asked-none : (w : Standing) (handle : ℕ) → HasAsked w w handle 0 []
asked-none w handle = record { gone = gone-none w; asked = (refl, idle-none w.number w.seen); below = none-below }

all-more : (n : ℕ) (found : List ℕ) → All (λ stream. stream < n) found → All (λ stream. stream < suc n) found
all-more n found all = All-weaker (λ stream. stream < n) (λ stream. stream < suc n) (λ stream low. omega (arith, low)) found all

one-below : (n : ℕ) → All (λ stream. stream < suc n) (n ∷ [])
one-below n = All-from_get_or (λ stream. stream < suc n) (n ∷ []) 0 at
  where
    at : (i : ℕ) → i < length (n ∷ []) → get_or (n ∷ []) i 0 < suc n
    at zero low = omega arith
    at (suc i) low = absurd (omega (arith, low))

module _ (w v x : Standing) (handle n : ℕ) (found : List ℕ) (was : HasAsked w v handle n found) where
  here : (Left : Setup → ℕ → Type 0) → Left v.setup v.number → Left w.setup w.number
  here Left left = moved w v was.gone.on Left left

  -- one more
  pub asked-more : (has : Bool) (now : List ℕ) → ListEnds v x (LogAsked v.setup v.number handle n) (Ok has) → now ≡ (if has then found ++ n ∷ [] else found) → HasAsked w x handle (n + 1) now
  asked-more has now ends is =
      let left = here (λ u me. LogAsked u me handle n (Ok has) v.seen x.seen) ends.left in
      let gone = gone-then w v x was.gone (gone-list v x (LogAsked v.setup v.number handle n) (Ok has) ends) in
      let one : suc n ≡ n + 1 = omega arith in
      subst (λ (m : ℕ). HasAsked w x handle m now) one
      (record {
        gone = gone;
        asked = (found, left.0, v.seen, is ∙ ap (λ (t : Bool). if t then found ++ n ∷ [] else found) left.1, was.asked, left.2);
        below = subst (All (λ stream. stream < suc n)) (sym is) (both has);
      })
    where
      both : (t : Bool) → All (λ stream. stream < suc n) (if t then found ++ n ∷ [] else found)
      both true = All-append (λ stream. stream < suc n) found (n ∷ []) (all-more n found was.below) (one-below n)
      both false = all-more n found was.below

  -- one was refused
  pub asked-refused : (streams : ℕ) (e : CcError) → n < streams → ListEnds v x (LogAsked v.setup v.number handle n) (Err e) → ListEnds w x (LogsAsked w.setup w.number handle streams) (Err e)
  asked-refused streams e low ends =
      let rest = ends-refused v x (LogAsked v.setup v.number handle n) (λ answered old new. LogAsked v.setup v.number handle n (Err e) old new) e ends (λ left. left) in
      ends-after {A = Vec ℕ Global} w v x (LogsAsked w.setup w.number handle streams) (λ answered old new. LogAsked v.setup v.number handle n (Err e) old new) (Err e) was.gone rest
      (λ left.
      let left = here (λ u me. LogAsked u me handle n (Err e) v.seen x.seen) left in
      inr (record { n = n; found = found; between = v.seen; below = low; asked = was.asked; other = left.0; refused = left.1 }))

-- memory was wanting
pub asked-stopped : (w v : Standing) (handle n streams : ℕ) (found : List ℕ) → n ≤ streams → HasAsked w v handle n found → ListEnds w v (LogsAsked w.setup w.number handle streams) (Err error.NoMemory)
asked-stopped w v handle n streams found low was =
    ends-here w v (LogsAsked w.setup w.number handle streams) (Err error.NoMemory) was.gone tt
    (inl (record { n = n; found = found; within = low; wanting = refl; asked = was.asked }))

-- all were asked
pub asked-all : (w v : Standing) (handle n streams : ℕ) (found : Vec ℕ Global) → HasAsked w v handle n found.items → n ≡ streams → ListEnds w v (LogsAsked w.setup w.number handle streams) (Ok found)
asked-all w v handle n streams found was all =
    ends-here w v (LogsAsked w.setup w.number handle streams) (Ok found) was.gone tt
    (subst (λ (n : ℕ). StatesAsked w.setup w.number handle n found.items w.seen v.seen) all was.asked)

-- ---- the syncs

pub synced : (w v : Standing) (stream : ℕ) (file : File) (answer : Result (Unit {0}) CcError) → file ≡ first_object stream → v.others ≤ v.most_others → FlushEnds w v file (Some (record { from = 0; to = 0 })) answer → ListEnds w v (SyncCallLeft w.setup w.number stream) answer
synced w v stream file answer is few ends =
    let at : FlushEnds w v (first_object stream) (Some (record { from = 0; to = 0 })) answer = subst (λ (f : File). FlushEnds w v f (Some (record { from = 0; to = 0 })) answer) is ends in
    let gone : HasGone w v = record {
      on = at.goes_on;
      grew = grew-call w.setup w.number (sync_call stream) (outcome_of answer) w.seen v.seen at.left;
      good = λ good. at.good;
    } in
    ends-here w v (SyncCallLeft w.setup w.number stream) answer gone
    (full-now w v 2 answer gone few (omega arith) (writing-within (sync_call stream) v answer at.full))
    at.left

-- the first k of the streams were synced
pub record HasSynced (w v : Standing) (found : List ℕ) (k : ℕ) : Type 0 where
  pub gone : HasGone w v
  pub first : FirstLeft w.setup w.number (map sync_call (take k found)) (Ok tt) w.seen v.seen

pub synced-none : (w : Standing) (found : List ℕ) → HasSynced w w found 0
synced-none w found = record { gone = gone-none w; first = first-none w.setup w.number w.seen }

module _ (w v x : Standing) (found : List ℕ) (k d one : ℕ) (is : get_or found k d ≡ one) (low : k < length found) (was : HasSynced w v found k) where
  more-is : take (k + 1) found ≡ take k found ++ one ∷ []
  more-is = take_more found k d low ∙ ap (λ (s : ℕ). take k found ++ s ∷ []) is

  -- one more
  pub synced-more : ListEnds v x (SyncCallLeft v.setup v.number one) (Ok tt) → HasSynced w x found (k + 1)
  synced-more ends = record {
    gone = gone-then w v x was.gone (gone-list v x (SyncCallLeft v.setup v.number one) (Ok tt) ends);
    first =
        subst (λ (l : List Call). FirstLeft w.setup w.number l (Ok tt) w.seen x.seen)
        (sym (ap (map sync_call) more-is ∙ map-append sync_call (take k found) (one ∷ [])))
        (first-more w.setup w.number (map sync_call (take k found)) (sync_call one) w.seen v.seen x.seen was.first
        (moved w v was.gone.on (λ u me. SyncCallLeft u me one (Ok tt) v.seen x.seen) ends.left));
  }

  -- one was refused
  pub synced-refused : (e : CcError) → ListEnds v x (SyncCallLeft v.setup v.number one) (Err e) → ListEnds w x (CallsLeft w.setup w.number (map sync_call found)) (Err e)
  synced-refused e ends =
      ends-after w v x (CallsLeft w.setup w.number (map sync_call found)) (SyncCallLeft v.setup v.number one) (Err e) was.gone ends
      (λ left.
      let split : found ≡ take k found ++ one ∷ drop (suc k) found =
      sym (take-append-drop k found) ∙ (ap (λ l. take k found ++ l) (drop-cons found k d low) ∙ ap (λ (s : ℕ). take k found ++ s ∷ drop (suc k) found) is) in
      let whole : map sync_call found ≡ map sync_call (take k found) ++ sync_call one ∷ map sync_call (drop (suc k) found) =
      ap (map sync_call) split ∙ map-append sync_call (take k found) (one ∷ drop (suc k) found) in
      subst (λ (l : List Call). CallsLeft w.setup w.number l (Err e) w.seen x.seen) (sym whole)
      (was.first (sync_call one ∷ map sync_call (drop (suc k) found)) (Err e) x.seen
      (inl (moved w v was.gone.on (λ u me. SyncCallLeft u me one (Err e) v.seen x.seen) left))))

-- all were
pub synced-all : (w v : Standing) (found : List ℕ) (k : ℕ) → HasSynced w v found k → take k found ≡ found → ListEnds w v (CallsLeft w.setup w.number (map sync_call found)) (Ok tt)
synced-all w v found k was all =
    let first = subst (λ (l : List ℕ). FirstLeft w.setup w.number (map sync_call l) (Ok tt) w.seen v.seen) all was.first in
    ends-here w v (CallsLeft w.setup w.number (map sync_call found)) (Ok tt) was.gone tt
    (subst (λ (l : List Call). CallsLeft w.setup w.number l (Ok tt) w.seen v.seen) (append-nil (map sync_call found))
    (first [] (Ok tt) v.seen (idle-none w.number v.seen)))

-- ---- the record

gone-log_flush : (w v : Standing) (handle lsn : ℕ) (answer : Result (Unit {0}) CcError) → LogEnds w v (LogFlushLeft {T = Unit {0}} w.setup w.number handle lsn) answer → HasGone w v
gone-log_flush w v handle lsn answer ends =
    let kept = log_flush-unchanged w.setup w.number 0 handle lsn answer w.seen v.seen ends.left in
    record { on = on-went w v ends.goes_on; grew = record { later = kept.during; grew = kept.grew }; good = ends.good }

-- the log was flushed, or not
pub record-flushed : (w v : Standing) (handle lsn : ℕ) → LogEnds {A = Unit {0}} w v (LogFlushLeft {T = Unit {0}} w.setup w.number handle lsn) (Ok tt) → ListEnds w v (RecordFlushed w.setup w.number handle lsn) (Ok lsn)
record-flushed w v handle lsn ends =
    ends-here w v (RecordFlushed w.setup w.number handle lsn) (Ok lsn) (gone-log_flush w v handle lsn (Ok tt) ends) tt (refl, ends.left)

pub record-unflushed : (w v : Standing) (handle lsn : ℕ) (e : CcError) → v.others ≤ v.most_others → LogEnds {A = Unit {0}} w v (LogFlushLeft {T = Unit {0}} w.setup w.number handle lsn) (Err e) → ListEnds w v (RecordFlushed w.setup w.number handle lsn) (Err e)
record-unflushed w v handle lsn e few ends =
    let gone = gone-log_flush w v handle lsn (Err e) ends in
    ends-here w v (RecordFlushed w.setup w.number handle lsn) (Err e) gone (full-now {A = Unit {0}} w v 1 (Err e) gone few (omega arith) ends.full) ends.left

-- the record was appended, or not
module _ (w v : Standing) (handle : ℕ) (spelled : List ℕ) where
  pub record-logged : (x : Standing) (lsn : ℕ) (answer : Result ℕ CcError) → LogEnds w v (AppendLeft w.setup w.number handle spelled) (Ok lsn) → ListEnds v x (RecordFlushed v.setup v.number handle lsn) answer → ListEnds w x (RecordLogged w.setup w.number handle spelled) answer
  record-logged x lsn answer ends rest =
      let gone = gone-append w v handle spelled (Ok lsn) ends in
      ends-after w v x (RecordLogged w.setup w.number handle spelled) (RecordFlushed v.setup v.number handle lsn) answer gone rest
      (λ left. inr (v.seen, lsn, ends.left, moved w v gone.on (λ u me. RecordFlushed u me handle lsn answer v.seen x.seen) left))

  pub record-unlogged : (e : CcError) → v.others ≤ v.most_others → LogEnds w v (AppendLeft w.setup w.number handle spelled) (Err e) → ListEnds w v (RecordLogged w.setup w.number handle spelled) (Err e)
  record-unlogged e few ends =
      let gone = gone-append w v handle spelled (Err e) ends in
      ends-here w v (RecordLogged w.setup w.number handle spelled) (Err e) gone (full-now {A = ℕ} w v 1 (Err e) gone few (omega arith) ends.full)
      (inl (e, refl, ends.left))

-- the streams were synced, or not
module _ (w v : Standing) (handle : ℕ) (found spelled : List ℕ) where
  pub all-synced : (x : Standing) (answer : Result ℕ CcError) → ListEnds w v (CallsLeft w.setup w.number (map sync_call found)) (Ok tt) → ListEnds v x (RecordLogged v.setup v.number handle spelled) answer → ListEnds w x (SyncedLogged w.setup w.number handle found spelled) answer
  all-synced x answer first rest =
      let gone = gone-list w v (CallsLeft w.setup w.number (map sync_call found)) (Ok tt) first in
      ends-after w v x (SyncedLogged w.setup w.number handle found spelled) (RecordLogged v.setup v.number handle spelled) answer gone rest
      (λ left. inr (v.seen, first.left, moved w v gone.on (λ u me. RecordLogged u me handle spelled answer v.seen x.seen) left))

  pub not-synced : (e : CcError) → ListEnds w v (CallsLeft w.setup w.number (map sync_call found)) (Err e) → ListEnds w v (SyncedLogged w.setup w.number handle found spelled) (Err e)
  not-synced e ends =
      ends-refused w v (CallsLeft w.setup w.number (map sync_call found)) (SyncedLogged w.setup w.number handle found spelled) e ends (λ left. inl (e, refl, left))

-- the states were asked, or not
module _ (w v : Standing) (streams handle : ℕ) (rows : List DirtyRow) where
  pub all-asked : (x : Standing) (found : Vec ℕ Global) (spelled : List ℕ) (answer : Result ℕ CcError) → spelled ≡ record_of_rows rows → ListEnds w v (LogsAsked w.setup w.number handle streams) (Ok found) → ListEnds v x (SyncedLogged v.setup v.number handle found.items spelled) answer → ListEnds w x (RowsLogged w.setup w.number streams handle rows) answer
  all-asked x found spelled answer is first rest =
      let gone = gone-list w v (LogsAsked w.setup w.number handle streams) (Ok found) first in
      ends-after w v x (RowsLogged w.setup w.number streams handle rows) (SyncedLogged v.setup v.number handle found.items spelled) answer gone rest
      (λ left.
      inr (v.seen, found.items, first.left, moved w v gone.on (λ u me. SyncedLogged u me handle found.items (record_of_rows rows) answer v.seen x.seen) (subst (λ (l : List ℕ). SyncedLogged v.setup v.number handle found.items l answer v.seen x.seen) is left)))

  pub not-asked : (e : CcError) → ListEnds w v (LogsAsked w.setup w.number handle streams) (Err e) → ListEnds w v (RowsLogged w.setup w.number streams handle rows) (Err e)
  not-asked e ends =
      ends-refused w v (LogsAsked w.setup w.number handle streams) (RowsLogged w.setup w.number streams handle rows) e ends (λ left. inl (e, refl, left))

-- no memory for the record
pub not-spelled : (w : Standing) (streams handle : ℕ) (rows : List DirtyRow) → ListEnds w w (RowsLogged w.setup w.number streams handle rows) (Err error.NoMemory)
not-spelled w streams handle rows =
    let stopped : AskingStopped w.setup w.number handle streams error.NoMemory w.seen w.seen = record { n = 0; found = []; within = omega arith; wanting = refl; asked = (refl, idle-none w.number w.seen) } in
    ends-here w w (RowsLogged w.setup w.number streams handle rows) (Err error.NoMemory) (gone-none w) tt (inl (error.NoMemory, refl, inl stopped))

-- the table was told, or not
module _ (w v : Standing) (streams handle : ℕ) where
  pub table-told : (x : Standing) (rows : List DirtyRow) (answer : Result ℕ CcError) → CallEnds rows_outcome w v (call.Query (query.DirtyPages handle)) (Ok rows) → ListEnds v x (RowsLogged v.setup v.number streams handle rows) answer → ListEnds w x (CheckpointLeft w.setup w.number streams handle) answer
  table-told x rows answer ends rest =
      let gone = gone-ends rows_outcome w v (call.Query (query.DirtyPages handle)) (Ok rows) ends in
      ends-after w v x (CheckpointLeft w.setup w.number streams handle) (RowsLogged v.setup v.number streams handle rows) answer gone rest
      (λ left. inr (v.seen, rows, ends.left, moved w v gone.on (λ u me. RowsLogged u me streams handle rows answer v.seen x.seen) left))

  pub table-untold : (e : CcError) → v.others ≤ v.most_others → CallEnds rows_outcome w v (call.Query (query.DirtyPages handle)) (Err e) → ListEnds w v (CheckpointLeft w.setup w.number streams handle) (Err e)
  table-untold e few ends =
      let gone = gone-ends rows_outcome w v (call.Query (query.DirtyPages handle)) (Err e) ends in
      ends-here w v (CheckpointLeft w.setup w.number streams handle) (Err e) gone (full-now {A = List DirtyRow} w v 1 (Err e) gone few (omega arith) ends.full)
      (inl (e, refl, ends.left))

-- ---- the record's bytes

-- rows behind rows
pub rows-append : (first second : List OldestRow) → spelled_rows (first ++ second) ≡ spelled_rows first ++ spelled_rows second
rows-append [] second = refl
rows-append (row ∷ first) second =
    ap (λ l. row.stream ∷ (little_endian 8 row.page ++ (little_endian 8 row.oldest ++ l))) (rows-append first second)
    ∙ sym (ap (λ l. row.stream ∷ l) (append_assoc (little_endian 8 row.page) (little_endian 8 row.oldest ++ spelled_rows first) (spelled_rows second) ∙ ap (λ l. little_endian 8 row.page ++ l) (append_assoc (little_endian 8 row.oldest) (spelled_rows first) (spelled_rows second))))

-- one row more
pub rows-more : (rows : List DirtyRow) (k : ℕ) (row : DirtyRow) (out before after : List ℕ) → k < length rows → row ≡ get_or rows k row → before ≡ out ++ spelled_rows (map oldest_row (take k rows)) → after ≡ before ++ spelled_rows (oldest_row row ∷ []) → after ≡ out ++ spelled_rows (map oldest_row (take (k + 1) rows))
rows-more rows k row out before after low is so_far more =
    let taken : take (k + 1) rows ≡ take k rows ++ row ∷ [] = take_more rows k row low ∙ ap (λ (r : DirtyRow). take k rows ++ r ∷ []) (sym is) in
    let spelled : spelled_rows (map oldest_row (take (k + 1) rows)) ≡ spelled_rows (map oldest_row (take k rows)) ++ spelled_rows (oldest_row row ∷ []) =
    ap (λ l. spelled_rows (map oldest_row l)) taken ∙ (ap spelled_rows (map-append oldest_row (take k rows) (row ∷ [])) ∙ rows-append (map oldest_row (take k rows)) (oldest_row row ∷ [])) in
    more
    ∙ (ap (λ l. l ++ spelled_rows (oldest_row row ∷ [])) so_far
    ∙ (append_assoc out (spelled_rows (map oldest_row (take k rows))) (spelled_rows (oldest_row row ∷ [])) ∙ ap (λ l. out ++ l) (sym spelled)))

-- the numbers of one row behind what there is
pub row-spelled : {E : Type 0} (row : OldestRow) (out one two three : List ℕ) (r : Result (Unit {0}) E) → one ≡ out ++ (row.stream ∷ []) → two ≡ one ++ bytes_low_first 0 8 row.page → OnOk r (three ≡ two ++ bytes_low_first 0 8 row.oldest) → OnOk r (three ≡ out ++ spelled_rows (row ∷ []))
row-spelled row out one two three (Err e) first second last = tt
row-spelled row out one two three (Ok done) first second last =
    let pages = low-first 8 row.page in
    let oldest = low-first 8 row.oldest in
    last
    ∙ (ap (λ l. l ++ bytes_low_first 0 8 row.oldest) (second ∙ ap (λ l. l ++ bytes_low_first 0 8 row.page) first)
    ∙ (append_assoc (out ++ (row.stream ∷ [])) (bytes_low_first 0 8 row.page) (bytes_low_first 0 8 row.oldest)
    ∙ (append_assoc out (row.stream ∷ []) (bytes_low_first 0 8 row.page ++ bytes_low_first 0 8 row.oldest)
    ∙ (ap (λ l. out ++ (row.stream ∷ (l ++ bytes_low_first 0 8 row.oldest))) pages
    ∙ (ap (λ l. out ++ (row.stream ∷ (little_endian 8 row.page ++ l))) oldest
    ∙ sym (ap (λ l. out ++ (row.stream ∷ (little_endian 8 row.page ++ l))) (append-nil (little_endian 8 row.oldest))))))))

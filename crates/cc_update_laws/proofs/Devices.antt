-- From what a run leaves of a disk and of a log: what a stop leaves of them is redone, and the next run goes on with it.
use Rattle.std.specs.Prelude.{◌≡◌, ℕ, ◌*◌, ◌^◌, ◌<◌, ◌≤◌, Bool, true, false, nat_le, ◌==◌, max, List, [], ◌∷◌, ◌++◌, Contains, refl, ◌⊎◌, if◌then◌else◌}
use Rattle.std.specs.List.{AllByRecursion}
use Rattle.std.proofs.Common.{ap, sym, subst, ◌∙◌, inl, inr, arith}
use Rattle.std.proofs.lemmas.Bool.{le-leb, leb-false, leb-true}
use Rattle.cc_entry.specs.declared.entry.Entry.{Entry}
use Rattle.cc_entry.specs.declared.entry.Entry.TheVariants as entry
use Rattle.cc_laws.proofs.LogSteps.{floor_of-appended_other, floor_of-flushed, floor_of-flushed_other, floor_of-other, flushed_to-flushed, flushed_to-flushed_other, flushed_to-other}
use Rattle.cc_log.specs.Turn.{HoldsLogEntries, appended}
use Rattle.cc_model.specs.Good.{IsGoodSoFar}
use Rattle.cc_model.specs.History.{history}
use Rattle.cc_model.specs.Images.{crash_pages}
use Rattle.cc_model.specs.Logs.{floor_of, flushed_to}
use Rattle.cc_model.specs.Objects.{had_map}
use Rattle.cc_model.specs.Setup.{Setup}
use Rattle.cc_model.specs.Touches.{size_of}
use Rattle.cc_traits.specs.Disk.{Disk, page_of}
use Rattle.cc_traits.specs.Log.{Log, LogEntry}
use Rattle.cc_turns.specs.Disk.{HasGone}
use Rattle.cc_turns.proofs.RecordPage.{apart}
use Rattle.cc_redo.specs.Disks.{DiskIsMade}
use Rattle.cc_redo.specs.Ends.{made_by_log}
use Rattle.cc_redo.specs.Heard.{last_behind, last_lsn_of, lsn_read, reading, readings, redone_valid}
use Rattle.cc_redo.specs.Reading.{said_by}
use Rattle.cc_redo.specs.declared.redo.Redo.{Redo}
use Rattle.cc_restart_laws.proofs.Again.{made-file, valid-more}
use Rattle.cc_restart_laws.proofs.Files.{first-file, later-file}
use Rattle.cc_restart_laws.proofs.Left.{log-left}
use Rattle.cc_restart_laws.proofs.Logs.{all-among, all-both, all-first, among-all, among-cases, are-rising, is-appended, is-listed, lsn-fits, rising-first}
use Rattle.cc_restart_laws.proofs.Records.{IsAppended, appended-before, flushed-grows}
use Rattle.cc_restart_laws.proofs.Redoing.{IsAmong}
use Rattle.cc_restart_laws.specs.Stops.{AreAscending, HadBegun, IsGivenAs, LogKeeps, MakesFile, file_byte, redone_byte, updated_byte, updates_in}
use Rattle.cc_restart_laws.specs.Updates.{IsUpdated}
use Rattle.cc_update_laws.specs.Devices.{AreLeft, GoesOnFrom, IsWholeDisk}
use Rattle.cc_update_laws.specs.Logs.{EndsWithin, IsLogOf}
use Rattle.cc_update_laws.proofs.Within.{appended-within}

-- ---- a stop

module _ (u : Setup) (past : List Entry) (s log first : ℕ) (opening now : Disk) (begun after : Log) (below : s < 16) (good : IsGoodSoFar u past) (updated : IsUpdated s log past) (whole : IsWholeDisk opening) (gone : HasGone (history past s) opening now)
    (holds : HoldsLogEntries (appended past log) (flushed_to past log) begun after) (streams : List Redo) (redo : Redo) (handed : Contains streams redo) (given : IsGivenAs s first past redo) where
  crash-left : (disk : ℕ → List ℕ) → AreLeft now redo.size disk → (p : ℕ) → 4096 * p < redo.size → Contains (crash_pages (page_of opening) (history past s) p) (disk p)
  crash-left disk left p in_size =
      let fits : redo.size < 2 ^ 63 = redo.in_range in
      gone.crash p (disk p) (apart p (omega (arith, in_size, fits))) (whole.alone p) (left p in_size)

  kept-of : (kept : List LogEntry) → begun.entries ≡ [] → LogKeeps after.durable after.entries kept → LogKeeps after.durable (appended past log) kept
  kept-of kept none keeps = record {
    rest = keeps.rest;
    splits = sym (holds.entries_are ∙ ap (λ (l : List LogEntry). l ++ appended past log) none) ∙ keeps.splits;
    beyond = keeps.beyond;
  }

  pub first-redone : begun.entries ≡ [] → (kept : List LogEntry) → LogKeeps after.durable after.entries kept → (disk : ℕ → List ℕ) → AreLeft now redo.size disk → (i : ℕ) →
      redone_byte streams kept redo disk i ≡ updated_byte (page_of opening) first (updates_in redo kept) i
  first-redone none kept keeps disk left i =
      first-file u past s log first after.durable (page_of opening) below good updated whole.long streams redo handed given kept holds.durable (kept-of kept none keeps) disk (crash-left disk left) i

  pub later-redone : AllByRecursion (λ entry. entry.lsn ≤ after.durable) begun.entries → (old_pages : ℕ → List ℕ) (old_first : ℕ) → HadBegun redo begun.entries (appended past log) (page_of opening) first old_pages old_first →
      (kept : List LogEntry) → LogKeeps after.durable after.entries kept → (disk : ℕ → List ℕ) → AreLeft now redo.size disk → (i : ℕ) →
      redone_byte streams kept redo disk i ≡ updated_byte old_pages old_first (updates_in redo kept) i
  later-redone durables old_pages old_first had kept keeps disk left i =
      let k = log-left past log begun after kept holds durables keeps in
      subst (λ (l : List LogEntry). redone_byte streams l redo disk i ≡ updated_byte old_pages old_first (updates_in redo l) i) (sym k.is)
      (later-file u past s log first after.durable (page_of opening) below good updated whole.long streams redo handed given k.kept holds.durable k.keeps begun.entries old_pages old_first had disk (crash-left disk left) i)

-- ---- the next run

last-grows : (n : ℕ) (kept : List LogEntry) → n ≤ last_behind n (readings kept)
last-grows n [] = omega arith
last-grows n (x ∷ kept) =
    let rest = last-grows (max n (lsn_read (reading x))) kept in
    let here : n ≤ max n (lsn_read (reading x)) = over n (lsn_read (reading x)) in
    omega (arith, rest, here)
  where
    over : (a b : ℕ) → a ≤ max a b
    over a b = omega arith

pub last-least : (n : ℕ) (kept : List LogEntry) (x : LogEntry) → IsAmong kept x → x.lsn ≤ 2 ^ 62 → x.lsn ≤ last_behind n (readings kept)
last-least n [] x among fits = absurd among
last-least n (y ∷ kept) x (inl same) fits =
    let its : x.lsn ≡ y.lsn = ap (λ (e : LogEntry). e.lsn) same in
    let read : lsn_read (reading y) ≡ y.lsn = by (nat_le y.lsn (2 ^ 62)) (le-leb y.lsn (2 ^ 62) (omega (arith, its, fits))) in
    let here : lsn_read (reading y) ≤ max n (lsn_read (reading y)) = over n (lsn_read (reading y)) in
    let rest = last-grows (max n (lsn_read (reading y))) kept in
    omega (arith, its, read, here, rest)
  where
    by : (b : Bool) → b ≡ true → (if b then y.lsn else 0) ≡ y.lsn
    by true is = refl
    by false is = absurd (cc)

    over : (a b : ℕ) → b ≤ max a b
    over a b = omega arith
last-least n (y ∷ kept) x (inr among) fits = last-least (max n (lsn_read (reading y))) kept x among fits

ascending-both : (xs ys : List LogEntry) → AreAscending xs → AreAscending ys → ((x y : LogEntry) → IsAmong xs x → IsAmong ys y → x.lsn < y.lsn) → AreAscending (xs ++ ys)
ascending-both [] ys first second across = second
ascending-both (x ∷ xs) ys first second across = (
  all-among (λ (later : LogEntry). x.lsn < later.lsn) (xs ++ ys) (λ y among. by y (among-cases xs ys y among)),
  ascending-both xs ys first.1 second (λ a b here there. across a b (inr here) there),
)
  where
    by : (y : LogEntry) → IsAmong xs y ⊎ IsAmong ys y → x.lsn < y.lsn
    by y (inl here) = among-all (λ (later : LogEntry). x.lsn < later.lsn) xs y first.0 here
    by y (inr there) = across x y (inl refl) there

none-among : (xs : List LogEntry) (x : LogEntry) → xs ≡ [] → IsAmong xs x → ⊥
none-among [] x none among = among
none-among (y ∷ ys) x none among = absurd (cc)

-- what a run appends behind such a moment has greater LSNs
appended-above : (u : Setup) (log lsn : ℕ) (past : List Entry) → IsGoodSoFar u past → GoesOnFrom log lsn past → (y : LogEntry) → IsAmong (appended past log) y → lsn < y.lsn
appended-above u log lsn past good goes y among = go (nat_le y.lsn (floor_of goes.front log)) refl
  where
    is : IsAppended log y.lsn y.bytes (goes.later ++ goes.front)
    is = subst (λ (l : List Entry). IsAppended log y.lsn y.bytes l) goes.splits (is-appended log y past among)

    go : (b : Bool) → nat_le y.lsn (floor_of goes.front log) ≡ b → lsn < y.lsn
    go true le =
        let before = appended-before u log y.lsn y.bytes goes.later goes.front (subst (λ (l : List Entry). IsGoodSoFar u l) goes.splits good) is (leb-true y.lsn (floor_of goes.front log) le) in
        absurd (none-among (appended goes.front log) y goes.none (is-listed log y.lsn y.bytes goes.front before))
    go false above = let higher = leb-false y.lsn (floor_of goes.front log) above in let reached = goes.reached in omega (arith, higher, reached)

-- so the LSNs of all entries ascend
rising-on : (u : Setup) (past : List Entry) (log : ℕ) (kept : List LogEntry) → IsGoodSoFar u past → GoesOnFrom log (last_lsn_of (readings kept)) past → AreAscending kept → AllByRecursion (λ entry. entry.lsn ≤ 2 ^ 62) kept → AreAscending (kept ++ appended past log)
rising-on u past log kept good goes rising fits =
    ascending-both kept (appended past log) rising (are-rising u log past good)
    (λ x y here there.
    let low = last-least 0 kept x here (among-all (λ (e : LogEntry). e.lsn ≤ 2 ^ 62) kept x fits here) in
    let high = appended-above u log (last_lsn_of (readings kept)) past good goes y there in
    omega (arith, low, high))

pub next-begins : (u : Setup) (past : List Entry) (log : ℕ) (streams : List Redo) (kept : List LogEntry) (redo : Redo) (old_pages : ℕ → List ℕ) (old_first first : ℕ) (old new : Disk) → IsGoodSoFar u past → GoesOnFrom log (last_lsn_of (readings kept)) past →
    AreAscending kept → AllByRecursion (λ entry. entry.lsn ≤ 2 ^ 62) kept → ((p : ℕ) → 4096 * p < redo.size → MakesFile streams kept redo old_pages old_first p (page_of old p)) → DiskIsMade (made_by_log streams (readings kept) redo old) new →
    old_first ≤ redo.valid → first ≡ redone_valid (readings kept) redo → HadBegun redo kept (appended past log) (page_of new) first old_pages old_first
next-begins u past log streams kept redo old_pages old_first first old new good goes rising fits makes made least is = record {
  ascending = rising-on u past log kept good goes rising fits;
  valid = let more = valid-more kept redo old_first least in omega (arith, more, is);
  file = λ i below. ap (λ (n : ℕ). file_byte (page_of new) n i) is ∙ made-file streams kept redo old_pages old_first old new makes made i below;
}

-- ---- the log of a run that went on so

floor-none : (log : ℕ) → floor_of [] log ≤ flushed_to [] log
unfolding floor_of flushed_to
floor-none log = omega arith

-- where nothing was appended, the floor is what was flushed
floor-flushed : (log : ℕ) (past : List Entry) → appended past log ≡ [] → floor_of past log ≤ flushed_to past log
unfolding appended
floor-flushed log [] none = floor-none log
floor-flushed log (entry.Append pass handle lsn bytes ∷ past) none = go (handle == log) refl (λ is. floor-flushed log past is)
  where
    pushed : (xs : List LogEntry) (x : LogEntry) → xs ++ x ∷ [] ≡ [] → ⊥
    pushed [] x is = cc
    pushed (y ∷ ys) x is = cc

    put : (handle == log) ≡ true → appended (entry.Append pass handle lsn bytes ∷ past) log ≡ appended past log ++ record { lsn = lsn; bytes = bytes } ∷ []
    put same = rw same refl

    aside : (handle == log) ≡ false → appended (entry.Append pass handle lsn bytes ∷ past) log ≡ appended past log
    aside other = rw other refl

    go : (b : Bool) → (handle == log) ≡ b → (appended past log ≡ [] → floor_of past log ≤ flushed_to past log) → floor_of (entry.Append pass handle lsn bytes ∷ past) log ≤ flushed_to (entry.Append pass handle lsn bytes ∷ past) log
    go true same rest = absurd (pushed (appended past log) (record { lsn = lsn; bytes = bytes }) (sym (put same) ∙ none))
    go false other rest =
        let floor = floor_of-appended_other pass handle lsn bytes past log other in
        let flushed = flushed_to-other (entry.Append pass handle lsn bytes) past log refl in
        let before = rest (sym (aside other) ∙ none) in
        omega (arith, floor, flushed, before)
floor-flushed log (entry.Flushed pass handle to ∷ past) none = go (handle == log) refl (floor-flushed log past none)
  where
    both : (a b c : ℕ) → a ≤ b → max c a ≤ max c b
    both a b c le = omega arith

    go : (b : Bool) → (handle == log) ≡ b → floor_of past log ≤ flushed_to past log → floor_of (entry.Flushed pass handle to ∷ past) log ≤ flushed_to (entry.Flushed pass handle to ∷ past) log
    go true same before =
        let floor = floor_of-flushed pass handle to past log same in
        let flushed = flushed_to-flushed pass handle to past log same in
        let more = both (floor_of past log) (flushed_to past log) to before in
        omega (arith, floor, flushed, more)
    go false other before =
        let floor = floor_of-flushed_other pass handle to past log other in
        let flushed = flushed_to-flushed_other pass handle to past log other in
        omega (arith, floor, flushed, before)
floor-flushed log (other ∷ past) none =
    let floor = floor_of-other other past log refl in
    let flushed = flushed_to-other other past log refl in
    let before = floor-flushed log past none in
    omega (arith, floor, flushed, before)

-- the entries with which it began are durable
pub begun-durable : (past : List Entry) (log : ℕ) (begun after : Log) → GoesOnFrom log (last_lsn_of (readings begun.entries)) past → AllByRecursion (λ entry. entry.lsn ≤ 2 ^ 62) begun.entries → HoldsLogEntries (appended past log) (flushed_to past log) begun after →
    AllByRecursion (λ entry. entry.lsn ≤ after.durable) begun.entries
begun-durable past log begun after goes fits holds = all-among (λ (x : LogEntry). x.lsn ≤ after.durable) begun.entries durable
  where
    flushed : last_lsn_of (readings begun.entries) ≤ flushed_to past log
    flushed =
        let reached = goes.reached in
        let floor = floor-flushed log goes.front goes.none in
        let grows = flushed-grows log goes.later goes.front in
        let is : flushed_to past log ≡ flushed_to (goes.later ++ goes.front) log = ap (λ (l : List Entry). flushed_to l log) goes.splits in
        omega (arith, reached, floor, grows, is)

    durable : (x : LogEntry) → IsAmong begun.entries x → x.lsn ≤ after.durable
    durable x among =
        let low = last-least 0 begun.entries x among (among-all (λ (e : LogEntry). e.lsn ≤ 2 ^ 62) begun.entries x fits among) in
        let high = flushed in
        let its = holds.durable in
        omega (arith, low, high, its)

-- what it leaves of the log is again the log of the stream
pub log-whole : (u : Setup) (past : List Entry) (s log size : ℕ) (begun : List LogEntry) → IsGoodSoFar u past → IsUpdated s log past → (had_map (history past s) ≡ true → size_of (history past s) ≡ size) → GoesOnFrom log (last_lsn_of (readings begun)) past →
    IsLogOf s size begun → IsLogOf s size (begun ++ appended past log)
log-whole u past s log size begun good updated sized goes is = record {
  ascending = rising-on u past log begun good goes is.ascending is.in_range;
  in_range = all-both (λ (x : LogEntry). x.lsn ≤ 2 ^ 62) begun (appended past log) is.in_range
      (all-among (λ (x : LogEntry). x.lsn ≤ 2 ^ 62) (appended past log) (λ x among. lsn-fits u log x.lsn x.bytes past good (is-appended log x past among)));
  within = all-both (λ (x : LogEntry). EndsWithin s size (said_by x.bytes)) begun (appended past log) is.within (appended-within u past s log size good updated sized);
}

-- and so is each front of it
pub log-front : (s size durable : ℕ) (all kept : List LogEntry) → IsLogOf s size all → LogKeeps durable all kept → IsLogOf s size kept
log-front s size durable all kept is keeps = record {
  ascending = rising-first kept keeps.rest whole.ascending;
  in_range = all-first (λ (x : LogEntry). x.lsn ≤ 2 ^ 62) kept keeps.rest whole.in_range;
  within = all-first (λ (x : LogEntry). EndsWithin s size (said_by x.bytes)) kept keeps.rest whole.within;
}
  where
    whole : IsLogOf s size (kept ++ keeps.rest)
    whole = subst (IsLogOf s size) keeps.splits is

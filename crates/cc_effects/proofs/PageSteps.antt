-- The same for the writing of one page, and for a tick.
use Rattle.std.specs.Prelude.{◌≡◌, ℕ, true, List, [], ◌∷◌, ◌++◌, Result, Ok, Err}
use Rattle.std.proofs.Common.{sym, ap, ◌∙◌, inl, inr, append_assoc}
use Rattle.cc_entry.specs.Place.{Page}
use Rattle.cc_entry.specs.declared.answer.Tick.{Tick}
use Rattle.cc_entry.specs.declared.error.CcError.{CcError}
use Rattle.cc_entry.specs.declared.error.CcError.TheVariants as error
use Rattle.cc_entry.specs.declared.entry.Entry.{Entry}
use Rattle.cc_entry.specs.declared.entry.Entry.TheVariants as entry
use Rattle.cc_effects.specs.Moments.{Others, IsIdle}
use Rattle.cc_effects.specs.Asked.{Writes}
use Rattle.cc_effects.specs.PageWrites.{PageWrite, Written, Skipped, NotWritten, NotLogged, HasLogFailed, is_passed_over, BecameOf, IsCutOff, CutOffSo, PageWriteLeft, BecameOfAll, HasScanned, HasTicked, TickCutOff, TickLeft}
use Rattle.cc_effects.proofs.Stretches.{others-append, own-after, own-before, idle-then, grew-after, some-after, some-before}
use Rattle.cc_effects.proofs.WorkSteps.{works-others, works-append, works-after, unsynced-others}

log-failed-after : (me : ℕ) (page : Page) (gap during old : List Entry) → HasLogFailed me page during old → HasLogFailed me page (gap ++ during) old
log-failed-after me page gap during old has = record {
  handle = has.handle;
  after = gap ++ has.after;
  before = has.before;
  split = ap (λ l. gap ++ l) has.split ∙ sym (append_assoc gap has.after (entry.LogFailed me has.handle ∷ has.before));
  log = has.log;
}

log-failed-before : (me : ℕ) (page : Page) (during gap older : List Entry) → HasLogFailed me page during (gap ++ older) → HasLogFailed me page (during ++ gap) older
log-failed-before me page during gap older has = record {
  handle = has.handle;
  after = has.after;
  before = has.before ++ gap;
  split = ap (λ l. l ++ gap) has.split ∙ append_assoc has.after (entry.LogFailed me has.handle ∷ has.before) gap;
  log = rw (append_assoc has.before gap older) has.log;
}

became-after : (me : ℕ) (page : Page) (written : PageWrite) (gap during old : List Entry) → Others me gap → BecameOf me page written during old → BecameOf me page written (gap ++ during) old
became-after me page Written gap during old others is = rw (own-after me gap during others) is
became-after me page Skipped gap during old others is = record {
  untouched = rw (own-after me gap during others) is.untouched;
  moment = rw (append_assoc gap during old) (some-after (λ moment. is_passed_over page moment ≡ true) old (during ++ old) gap is.moment);
}
became-after me page NotWritten gap during old others is = rw (own-after me gap during others) is
became-after me page NotLogged gap during old others is = log-failed-after me page gap during old is

became-before : (me : ℕ) (page : Page) (written : PageWrite) (during gap older : List Entry) → Others me gap → BecameOf me page written during (gap ++ older) → BecameOf me page written (during ++ gap) older
became-before me page Written during gap older others is = rw (own-before me during gap others) is
became-before me page Skipped during gap older others is = record {
  untouched = rw (own-before me during gap others) is.untouched;
  moment = rw (append_assoc during gap older) (some-before (λ moment. is_passed_over page moment ≡ true) older gap (during ++ (gap ++ older)) is.moment);
}
became-before me page NotWritten during gap older others is = rw (own-before me during gap others) is
became-before me page NotLogged during gap older others is = log-failed-before me page during gap older is

-- what may stand where room or memory were wanting, with others' entries after, and before
so-after : (me : ℕ) (pages : List Page) (e : CcError) (gap during : List Entry) → Others me gap → CutOffSo me pages e during → CutOffSo me pages e (gap ++ during)
so-after me pages error.NoMemory gap during others (inl memory) = inl (rw (own-after me gap during others) memory)
so-after me pages error.NoMemory gap during others (inr wanted) = inr (record {
  since = gap ++ wanted.since;
  want = wanted.want;
  before = wanted.before;
  split = ap (λ l. gap ++ l) wanted.split ∙ sym (append_assoc gap wanted.since (wanted.want ∷ wanted.before));
  is_own = wanted.is_own;
  is_want = wanted.is_want;
  quiet = others-append me gap wanted.since others wanted.quiet;
  memory = wanted.memory;
})
so-after me pages other gap during others so = rw (own-after me gap during others) so

so-before : (me : ℕ) (pages : List Page) (e : CcError) (during gap : List Entry) → Others me gap → CutOffSo me pages e during → CutOffSo me pages e (during ++ gap)
so-before me pages error.NoMemory during gap others (inl memory) = inl (rw (own-before me during gap others) memory)
so-before me pages error.NoMemory during gap others (inr wanted) = inr (record {
  since = wanted.since;
  want = wanted.want;
  before = wanted.before ++ gap;
  split = ap (λ l. l ++ gap) wanted.split ∙ append_assoc wanted.since (wanted.want ∷ wanted.before) gap;
  is_own = wanted.is_own;
  is_want = wanted.is_want;
  quiet = wanted.quiet;
  memory = rw (own-before me wanted.before gap others) wanted.memory;
})
so-before me pages other during gap others so = rw (own-before me during gap others) so

cut-off-after : (me : ℕ) (pages : List Page) (e : CcError) (old new newer : List Entry) → IsCutOff me pages e old new → IsIdle me new newer → IsCutOff me pages e old newer
cut-off-after me pages e old new newer left idle = record {
  during = idle.during ++ left.during;
  grew = grew-after idle.during left.during old new newer idle.grew left.grew;
  works = works-after me (Writes pages) idle.during left.during old idle.others left.works;
  so = so-after me pages e idle.during left.during idle.others left.so;
}

cut-off-before : (me : ℕ) (pages : List Page) (e : CcError) (gap older new : List Entry) → Others me gap → IsCutOff me pages e (gap ++ older) new → IsCutOff me pages e older new
cut-off-before me pages e gap older new others left = record {
  during = left.during ++ gap;
  grew = rw (append_assoc left.during gap older) left.grew;
  works = works-append me (Writes pages) left.during gap older left.works (works-others me (Writes pages) gap older others) (unsynced-others me gap others);
  so = so-before me pages e left.during gap others left.so;
}

pub write-after : (me : ℕ) (page : Page) (answered : Result PageWrite CcError) (old new newer : List Entry) → PageWriteLeft me page answered old new → IsIdle me new newer → PageWriteLeft me page answered old newer
write-after me page (Ok written) old new newer left idle = record {
  during = idle.during ++ left.during;
  grew = grew-after idle.during left.during old new newer idle.grew left.grew;
  works = works-after me (Writes (page ∷ [])) idle.during left.during old idle.others left.works;
  memory = rw (own-after me idle.during left.during idle.others) left.memory;
  once = rw (own-after me idle.during left.during idle.others) left.once;
  became = became-after me page written idle.during left.during old idle.others left.became;
}
write-after me page (Err (error.JournalFull entries)) old new newer left idle = cut-off-after me (page ∷ []) (error.JournalFull entries) old new newer left idle
write-after me page (Err error.NoMemory) old new newer left idle = cut-off-after me (page ∷ []) error.NoMemory old new newer left idle
write-after me page (Err other) old new newer left idle = absurd left

write-behind : (me : ℕ) (page : Page) (answered : Result PageWrite CcError) (gap older new : List Entry) → Others me gap → PageWriteLeft me page answered (gap ++ older) new → PageWriteLeft me page answered older new
write-behind me page (Ok written) gap older new others left = record {
  during = left.during ++ gap;
  grew = rw (append_assoc left.during gap older) left.grew;
  works = works-append me (Writes (page ∷ [])) left.during gap older left.works (works-others me (Writes (page ∷ [])) gap older others) (unsynced-others me gap others);
  memory = rw (own-before me left.during gap others) left.memory;
  once = rw (own-before me left.during gap others) left.once;
  became = became-before me page written left.during gap older others left.became;
}
write-behind me page (Err (error.JournalFull entries)) gap older new others left = cut-off-before me (page ∷ []) (error.JournalFull entries) gap older new others left
write-behind me page (Err error.NoMemory) gap older new others left = cut-off-before me (page ∷ []) error.NoMemory gap older new others left
write-behind me page (Err other) gap older new others left = absurd left

pub write-before : (me : ℕ) (page : Page) (answered : Result PageWrite CcError) (older old new : List Entry) → IsIdle me older old → PageWriteLeft me page answered old new → PageWriteLeft me page answered older new
write-before me page answered older old new idle left = write-behind me page answered idle.during older new idle.others (rw idle.grew at left)

became-all-after : (me : ℕ) (pages : List Page) (all : List PageWrite) (gap during old : List Entry) → Others me gap → BecameOfAll me pages all during old → BecameOfAll me pages all (gap ++ during) old
became-all-after me [] [] gap during old others is = tt
became-all-after me [] (one ∷ all) gap during old others is = absurd is
became-all-after me (page ∷ pages) [] gap during old others is = absurd is
became-all-after me (page ∷ pages) (one ∷ all) gap during old others is =
    (became-after me page one gap during old others is.0, became-all-after me pages all gap during old others is.1)

abbrev scanned-after : (me : ℕ) (picked : List Page) (gap during old new newer : List Entry) → Others me gap → newer ≡ gap ++ new → HasScanned me picked during old new → HasScanned me picked (gap ++ during) old newer
scanned-after me picked gap during old new newer others grew has = record {
  before = has.before;
  grew = grew-after gap during (entry.Scan me picked ∷ (has.before ++ old)) new newer grew has.grew;
  quiet = has.quiet;
  works = works-after me (Writes picked) gap during (entry.Scan me picked ∷ (has.before ++ old)) others has.works;
  in_order = rw (own-after me gap during others) has.in_order;
}

abbrev scanned-before : (me : ℕ) (picked : List Page) (during gap older new : List Entry) → Others me gap → HasScanned me picked during (gap ++ older) new → HasScanned me picked during older new
scanned-before me picked during gap older new others has = record {
  before = has.before ++ gap;
  grew = rw (append_assoc has.before gap older) has.grew;
  quiet = others-append me has.before gap has.quiet others;
  works = rw (append_assoc has.before gap older) has.works;
  in_order = has.in_order;
}

cut-tick-after : (me : ℕ) (e : CcError) (old new newer : List Entry) → TickCutOff me e old new → IsIdle me new newer → TickCutOff me e old newer
cut-tick-after me e old new newer (inl was) idle = inl (idle-then me old new newer was idle)
cut-tick-after me e old new newer (inr has) idle =
    inr (has.0, idle.during ++ has.1, scanned-after me has.0 idle.during has.1 old new newer idle.others idle.grew has.2, so-after me has.0 e idle.during has.1 idle.others has.3)

pub tick-after : (me : ℕ) (answered : Result Tick CcError) (old new newer : List Entry) → TickLeft me answered old new → IsIdle me new newer → TickLeft me answered old newer
tick-after me (Ok tick) old new newer left idle = record {
  during = idle.during ++ left.during;
  scanned = scanned-after me tick.picked idle.during left.during old new newer idle.others idle.grew left.scanned;
  memory = rw (own-after me idle.during left.during idle.others) left.memory;
  once = rw (own-after me idle.during left.during idle.others) left.once;
  ends = left.ends;
  became = became-all-after me tick.picked left.ends idle.during left.during (entry.Scan me tick.picked ∷ (left.scanned.before ++ old)) idle.others left.became;
  written = left.written;
  skipped = left.skipped;
  failed = left.failed;
  by_logs = rw (own-after me idle.during left.during idle.others) left.by_logs;
}
tick-after me (Err (error.JournalFull entries)) old new newer left idle = cut-tick-after me (error.JournalFull entries) old new newer left idle
tick-after me (Err error.NoMemory) old new newer left idle = cut-tick-after me error.NoMemory old new newer left idle
tick-after me (Err other) old new newer left idle = absurd left

cut-tick-before : (me : ℕ) (e : CcError) (older old new : List Entry) → IsIdle me older old → TickCutOff me e old new → TickCutOff me e older new
cut-tick-before me e older old new idle (inl was) = inl (idle-then me older old new idle was)
cut-tick-before me e older old new idle (inr has) =
    inr (has.0, has.1, scanned-before me has.0 has.1 idle.during older new idle.others (rw idle.grew at has.2), has.3)

tick-behind : (me : ℕ) (tick : Tick) (gap older new : List Entry) → Others me gap → HasTicked me tick (gap ++ older) new → HasTicked me tick older new
tick-behind me tick gap older new others left = record {
  during = left.during;
  scanned = scanned-before me tick.picked left.during gap older new others left.scanned;
  memory = left.memory;
  once = left.once;
  ends = left.ends;
  became = rw (append_assoc left.scanned.before gap older) left.became;
  written = left.written;
  skipped = left.skipped;
  failed = left.failed;
  by_logs = left.by_logs;
}

pub tick-before : (me : ℕ) (answered : Result Tick CcError) (older old new : List Entry) → IsIdle me older old → TickLeft me answered old new → TickLeft me answered older new
tick-before me (Ok tick) older old new idle left = tick-behind me tick idle.during older new idle.others (rw idle.grew at left)
tick-before me (Err (error.JournalFull entries)) older old new idle left = cut-tick-before me (error.JournalFull entries) older old new idle left
tick-before me (Err error.NoMemory) older old new idle left = cut-tick-before me error.NoMemory older old new idle left
tick-before me (Err other) older old new idle left = absurd left

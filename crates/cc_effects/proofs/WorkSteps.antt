-- What a pass placed for a call stays such work in a longer stretch, and two stretches of work are one.
use Rattle.std.specs.Prelude.{◌≡◌, ℕ, Bool, true, false, cond, ◌||◌, List, [], ◌∷◌, ◌++◌, refl, ◌&&◌}
use Rattle.std.specs.List.{list_any, filter}
use Rattle.std.proofs.Common.{sym, ap, ◌∙◌, arith, append_assoc, append-nil}
use Rattle.cc_entry.specs.Place.{Page}
use Rattle.std.specs.declared.option.Option.{Option}
use Rattle.std.specs.declared.option.Option.TheVariants.{Some, None}
use Rattle.cc_entry.specs.Place.{Page}
use Rattle.cc_model.specs.Passes.{is_same_page}
use Rattle.cc_entry.specs.declared.entry.Entry.{Entry}
use Rattle.cc_entry.specs.declared.entry.Entry.TheVariants as entry
use Rattle.cc_effects.specs.Moments.{own, Others}
use Rattle.cc_effects.specs.Asked.{Work, Calls, Writes, is_admitted}
use Rattle.cc_effects.specs.Places.{MayPlace, MayFailToRead, MaySync, WasAsked, Works, is_sync, are_whole, syncs_of}
use Rattle.cc_effects.specs.Stops.{stops, IsUnstopped, IsStopped}
use Rattle.cc_effects.proofs.Stretches.{others-append, own-others, own-after, own-append, some-before, each-others, each-append, each-implies}

-- a failed read of a call that began earlier
may-fail-before : (work : Work) (older gap : List Entry) (page : Page) (past : List Entry) → MayFailToRead work (gap ++ older) page past → MayFailToRead work older page past
may-fail-before (Calls it) older gap page past may = (may.0, some-before (WasAsked it page) older gap past may.1)
may-fail-before (Writes pages) older gap page past may = absurd may

-- a sync of a call that began earlier
may-sync-before : (work : Work) (older gap : List Entry) (s : ℕ) (past : List Entry) → MaySync work (gap ++ older) s past → MaySync work older s past
may-sync-before (Calls it) older gap s past may = (may.0, some-before (λ moment. is_admitted it s moment ≡ true) older gap past may.1)
may-sync-before (Writes pages) older gap s past may = absurd may

pub may-place-before : (me : ℕ) (work : Work) (older gap past : List Entry) (e : Entry) → MayPlace me work (gap ++ older) past e → MayPlace me work older past e
may-place-before me work older gap past (entry.PageIn pass page from_disk) may = may
may-place-before me work older gap past (entry.PageOut pass page) may = may
may-place-before me work older gap past (entry.FillFailed pass page) may = may-fail-before work older gap page past may
may-place-before me work older gap past (entry.WriteBegin pass page) may = may
may-place-before me work older gap past (entry.WriteEnd pass page how) may = may
may-place-before me work older gap past (entry.Sync pass stream how) may = may-sync-before work older gap stream past may
may-place-before me work older gap past (entry.Flushed pass handle to) may = may
may-place-before me work older gap past (entry.LogFailed pass handle) may = may
may-place-before me work older gap past (entry.Append pass handle lsn bytes) may = may
may-place-before me work older gap past (entry.Defer pass id file pages retrying) may = may
may-place-before me work older gap past (entry.Posted id) may = may
may-place-before me work older gap past (entry.Scan pass picked) may = may
may-place-before me work older gap past (entry.Record pass stream size valid how) may = may
may-place-before me work older gap past (entry.RecordFailed pass stream) may = may
may-place-before me work older gap past (entry.Locked pass file span exclusive granted id) may = may
may-place-before me work older gap past (entry.Unlocked pass file id gone) may = may
may-place-before me work older gap past (entry.Tested pass file span write conflict) may = may
may-place-before me work older gap past (entry.Call pass nth stream call ended) may = may

-- others' entries alone are such work
pub works-others : (me : ℕ) (work : Work) (gap old : List Entry) → Others me gap → Works me work gap old
works-others me work gap old others = record {
  each = each-others me (MayPlace me work old) gap old others;
  one_sync = rw (own-others me gap others) (omega arith);
  whole = rw (own-others me gap others) refl;
}

filter-append : (test : Entry → Bool) (xs ys : List Entry) → filter test (xs ++ ys) ≡ filter test xs ++ filter test ys
filter-append test [] ys = refl
filter-append test (x ∷ xs) ys = by (test x) (filter-append test xs ys)
  where
    by : (t : Bool) → filter test (xs ++ ys) ≡ filter test xs ++ filter test ys → cond t (x ∷ filter test (xs ++ ys)) (filter test (xs ++ ys)) ≡ cond t (x ∷ filter test xs) (filter test xs) ++ filter test ys
    by true same = ap (λ l. x ∷ l) same
    by false same = same

syncs-append : (me : ℕ) (xs ys : List Entry) → syncs_of me (xs ++ ys) ≡ syncs_of me xs ++ syncs_of me ys
syncs-append me xs ys = ap (filter is_sync) (own-append me xs ys) ∙ filter-append is_sync (own me xs) (own me ys)

both : (same whole joined : Bool) → (same && whole) ≡ true → (whole ≡ true → joined ≡ true) → (same && joined) ≡ true
both true whole joined is so = so is
both false whole joined is so = absurd (cc)

whole-append : (ended : Option Page) (xs ys : List Entry) → are_whole ended xs ≡ true → are_whole None ys ≡ true → are_whole ended (xs ++ ys) ≡ true
whole-append None [] ys a b = b
whole-append (Some page) [] ys a b = absurd (cc)
whole-append None (entry.WriteEnd pass page how ∷ xs) ys a b = whole-append (Some page) xs ys a b
whole-append (Some after) (entry.WriteEnd pass page how ∷ xs) ys a b = absurd (cc)
whole-append None (entry.WriteBegin pass page ∷ xs) ys a b = absurd (cc)
whole-append (Some after) (entry.WriteBegin pass page ∷ xs) ys a b =
    both (is_same_page page after) (are_whole None xs) (are_whole None (xs ++ ys)) a (λ is. whole-append None xs ys is b)
whole-append None (entry.PageIn pass page from_disk ∷ xs) ys a b = whole-append None xs ys a b
whole-append (Some after) (entry.PageIn pass page from_disk ∷ xs) ys a b = absurd (cc)
whole-append None (entry.PageOut pass page ∷ xs) ys a b = whole-append None xs ys a b
whole-append (Some after) (entry.PageOut pass page ∷ xs) ys a b = absurd (cc)
whole-append None (entry.FillFailed pass page ∷ xs) ys a b = whole-append None xs ys a b
whole-append (Some after) (entry.FillFailed pass page ∷ xs) ys a b = absurd (cc)
whole-append None (entry.Sync pass stream how ∷ xs) ys a b = whole-append None xs ys a b
whole-append (Some after) (entry.Sync pass stream how ∷ xs) ys a b = absurd (cc)
whole-append None (entry.Append pass handle lsn bytes ∷ xs) ys a b = whole-append None xs ys a b
whole-append (Some after) (entry.Append pass handle lsn bytes ∷ xs) ys a b = absurd (cc)
whole-append None (entry.Flushed pass handle to ∷ xs) ys a b = whole-append None xs ys a b
whole-append (Some after) (entry.Flushed pass handle to ∷ xs) ys a b = absurd (cc)
whole-append None (entry.LogFailed pass handle ∷ xs) ys a b = whole-append None xs ys a b
whole-append (Some after) (entry.LogFailed pass handle ∷ xs) ys a b = absurd (cc)
whole-append None (entry.Defer pass id file pages retrying ∷ xs) ys a b = whole-append None xs ys a b
whole-append (Some after) (entry.Defer pass id file pages retrying ∷ xs) ys a b = absurd (cc)
whole-append None (entry.Posted id ∷ xs) ys a b = whole-append None xs ys a b
whole-append (Some after) (entry.Posted id ∷ xs) ys a b = absurd (cc)
whole-append None (entry.Scan pass picked ∷ xs) ys a b = whole-append None xs ys a b
whole-append None (entry.Record pass stream size valid how ∷ xs) ys a b = whole-append None xs ys a b
whole-append None (entry.RecordFailed pass stream ∷ xs) ys a b = whole-append None xs ys a b
whole-append None (entry.Locked pass file span exclusive granted id ∷ xs) ys a b = whole-append None xs ys a b
whole-append None (entry.Unlocked pass file id gone ∷ xs) ys a b = whole-append None xs ys a b
whole-append None (entry.Tested pass file span write conflict ∷ xs) ys a b = whole-append None xs ys a b
whole-append (Some after) (entry.Scan pass picked ∷ xs) ys a b = absurd (cc)
whole-append (Some after) (entry.Record pass stream size valid how ∷ xs) ys a b = absurd (cc)
whole-append (Some after) (entry.RecordFailed pass stream ∷ xs) ys a b = absurd (cc)
whole-append (Some after) (entry.Locked pass file span exclusive granted id ∷ xs) ys a b = absurd (cc)
whole-append (Some after) (entry.Unlocked pass file id gone ∷ xs) ys a b = absurd (cc)
whole-append (Some after) (entry.Tested pass file span write conflict ∷ xs) ys a b = absurd (cc)
whole-append None (entry.Call pass nth stream call ended ∷ xs) ys a b = whole-append None xs ys a b
whole-append (Some after) (entry.Call pass nth stream call ended ∷ xs) ys a b = absurd (cc)

-- two stretches of work are one, where the first has no sync
pub works-append : (me : ℕ) (work : Work) (later during old : List Entry) → Works me work later (during ++ old) → Works me work during old → syncs_of me during ≡ [] → Works me work (later ++ during) old
works-append me work later during old second first unsynced = record {
  each =
      each-append me (MayPlace me work old) later during old
      (each-implies me (MayPlace me work (during ++ old)) (MayPlace me work old) (λ past e may. may-place-before me work old during past e may) later (during ++ old) second.each)
      first.each;
  one_sync = rw (syncs-append me later during) (rw unsynced (rw (append-nil (syncs_of me later)) second.one_sync));
  whole = rw (own-append me later during) (whole-append None (own me later) (own me during) second.whole first.whole);
}

pub unsynced-append : (me : ℕ) (later during : List Entry) → syncs_of me later ≡ [] → syncs_of me during ≡ [] → syncs_of me (later ++ during) ≡ []
unsynced-append me later during a b = syncs-append me later during ∙ rw a b

pub unsynced-others : (me : ℕ) (gap : List Entry) → Others me gap → syncs_of me gap ≡ []
unsynced-others me gap others = rw (own-others me gap others) refl

-- and that went on
pub works-after : (me : ℕ) (work : Work) (gap during old : List Entry) → Others me gap → Works me work during old → Works me work (gap ++ during) old
works-after me work gap during old others works = record {
  each = each-append me (MayPlace me work old) gap during old (each-others me (MayPlace me work old) gap (during ++ old) others) works.each;
  one_sync = rw (own-after me gap during others) works.one_sync;
  whole = rw (own-after me gap during others) works.whole;
}

pub unstopped-others : (me : ℕ) (gap : List Entry) → Others me gap → IsUnstopped me gap
unstopped-others me gap others = rw (own-others me gap others) refl

pub unstopped-after : (me : ℕ) (gap during : List Entry) → Others me gap → IsUnstopped me during → IsUnstopped me (gap ++ during)
unstopped-after me gap during others is = rw (own-after me gap during others) is

pub stopped-after : (me : ℕ) (stop : Entry) (gap during : List Entry) → Others me gap → IsStopped me stop during → IsStopped me stop (gap ++ during)
stopped-after me stop gap during others is = record {
  since = gap ++ is.since;
  before = is.before;
  split = ap (λ l. gap ++ l) is.split ∙ sym (append_assoc gap is.since (stop ∷ is.before));
  is_own = is.is_own;
  quiet = others-append me gap is.since others is.quiet;
  unstopped = is.unstopped;
}

any-append : (test : Entry → Bool) (xs ys : List Entry) → list_any test xs ≡ false → list_any test ys ≡ false → list_any test (xs ++ ys) ≡ false
any-append test [] ys a b = b
any-append test (x ∷ xs) ys a b = by (test x) a (λ is. any-append test xs ys is b)
  where
    by : (t : Bool) → (t || list_any test xs) ≡ false → (list_any test xs ≡ false → list_any test (xs ++ ys) ≡ false) → (t || list_any test (xs ++ ys)) ≡ false
    by true is rest = is
    by false is rest = rest is

pub unstopped-append : (me : ℕ) (later during : List Entry) → IsUnstopped me later → IsUnstopped me during → IsUnstopped me (later ++ during)
unstopped-append me later during a b = rw (own-append me later during) (any-append stops (own me later) (own me during) a b)

abbrev pub stopped-before : (me : ℕ) (stop : Entry) (during gap : List Entry) → IsUnstopped me gap → IsStopped me stop during → IsStopped me stop (during ++ gap)
stopped-before me stop during gap unstopped is = record {
  since = is.since;
  before = is.before ++ gap;
  split = ap (λ l. l ++ gap) is.split ∙ append_assoc is.since (stop ∷ is.before) gap;
  is_own = is.is_own;
  quiet = is.quiet;
  unstopped = unstopped-append me is.before gap is.unstopped unstopped;
}

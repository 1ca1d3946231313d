-- The read of a page as a call that is under way: it goes on while others do, writes its page, and is done.
use Rattle.std.specs.Prelude.{◌≡◌, ℕ, ◌+◌, ◌*◌, ◌<◌, ◌^◌, Bool, true, false, not, ◌||◌, min, List, [], ◌∷◌, ◌++◌, Some, None, refl}
use Rattle.std.specs.List.{list_any}
use Rattle.std.proofs.Common.{ap, sym, ◌∙◌, subst, arith, inl, inr, append_assoc}
use Rattle.std.proofs.lemmas.Bool.{and_from, eq-eqb, lt-ltb}
use Rattle.std.proofs.lemmas.List.{append_cancel_right}
use Rattle.cc_entry.specs.Place.{File, Page}
use Rattle.cc_entry.specs.Pages.{has_page}
use Rattle.cc_entry.specs.declared.call.Call.{Call}
use Rattle.cc_entry.specs.declared.call.Call.TheVariants as call
use Rattle.cc_entry.specs.declared.entry.End.TheVariants as how
use Rattle.cc_entry.specs.declared.entry.Entry.{Entry}
use Rattle.cc_entry.specs.declared.entry.Entry.TheVariants as entry
use Rattle.cc_entry.specs.declared.reply.Outcome.TheVariants as outcome
use Rattle.cc_entry.specs.declared.reply.Reply.{Reply}
use Rattle.cc_effects.specs.Asked.{Calls, reaches}
use Rattle.cc_effects.specs.Calls.{CallLeft, IsUnderWay, WasWritten, has_no_write}
use Rattle.cc_effects.specs.Moments.{AtSome, IsIdle, Others}
use Rattle.cc_effects.specs.PageWrites.{has_end, is_end_of}
use Rattle.cc_effects.proofs.Stretches.{grew-after, own-after, some-after, some-end}
use Rattle.cc_effects.proofs.WorkSteps.{works-after, unsynced-append, unsynced-others, unstopped-after}
use Rattle.cc_step.proofs.Below.{resident-below}
use Rattle.cc_laws.proofs.DirtyFacts.{dirty-resident}
use Rattle.cc_laws.proofs.SafeJournals.{good-safe}
use Rattle.cc_laws.proofs.SoundFacts.{size_of-good}
use Rattle.cc_model.specs.Good.{IsGood}
use Rattle.cc_model.specs.History.{history}
use Rattle.cc_model.specs.Refusals.{refusal}
use Rattle.cc_model.specs.Setup.{Setup}
use Rattle.cc_model.specs.Sizes.{ended_ok, stored_range}
use Rattle.cc_model.specs.Stamps.{is_unstamped}
use Rattle.cc_model.specs.Touches.{is_dirty, size_of}
use Rattle.cc_step.proofs.Placed.{so-far}
use Rattle.cc_turns.specs.Standing.{Standing}
use Rattle.cc_writes.specs.Visits.{CallIsOfStream}
use Rattle.cc_writes.proofs.Others.{some-on}
use Rattle.cc_writes.specs.Writes.{HasTransferred, IsToWrite}
use Rattle.cc_ranges.specs.ReadVisits.{file_page, IsReading, IsAtRead, IsToWriteFirst}

-- the read of a page is filed under the stream of its file
pub read-filed : (file : File) (page : ℕ) (s : ℕ) → s ≡ file.stream → CallIsOfStream (call.NcRead file page) s
read-filed file page s here holds pass = ap Some here

-- others end no transfer of the pass
end-after : (me : ℕ) (page : Page) (gap during : List Entry) → Others me gap → has_end ended_ok me page during ≡ true → has_end ended_ok me page (gap ++ during) ≡ true
end-after me page gap during others is = ap (λ l. list_any (is_end_of ended_ok page) l) (own-after me gap during others) ∙ is

written-after : (me : ℕ) (page : Page) (gap during old : List Entry) → Others me gap → WasWritten me page during old → WasWritten me page (gap ++ during) old
written-after me page gap during old others (inl is) = inl (end-after me page gap during others is)
written-after me page gap during old others (inr some) =
    inr (subst (λ (past : List Entry). AtSome (λ moment. has_no_write page moment ≡ true) old past) (sym (append_assoc gap during old))
    (some-after (λ moment. has_no_write page moment ≡ true) old (during ++ old) gap some))

-- it is under way after others went on
way-on : (me : ℕ) (it : Call) (begun old new : List Entry) (way : IsUnderWay me it begun old) (idle : IsIdle me old new) → IsUnderWay me it begun new
way-on me it begun old new way idle = record {
  during = idle.during ++ way.during;
  grew = grew-after idle.during way.during begun old new idle.grew way.grew;
  works = works-after me (Calls it) idle.during way.during begun idle.others way.works;
  unsynced = unsynced-append me idle.during way.during (unsynced-others me idle.during idle.others) way.unsynced;
  unstopped = unstopped-after me idle.during way.during idle.others way.unstopped;
}

pub reading-on : (me : ℕ) (file : File) (page : ℕ) (written : Bool) (begun old new : List Entry) → IsReading me file page written begun old → IsIdle me old new → IsReading me file page written begun new
unfolding way-on
reading-on me file page written begun old new is idle = record {
  way = way-on me (call.NcRead file page) begun old new is.way idle;
  wrote = λ yes. end-after me (file_page file page) idle.during is.way.during idle.others (is.wrote yes);
}

pub at_read-on : (u : Setup) (me : ℕ) (file : File) (page : ℕ) (begun old new : List Entry) → IsAtRead u me file page begun old → IsIdle me old new → IsAtRead u me file page begun new
unfolding way-on
at_read-on u me file page begun old new is idle = record {
  way = way-on me (call.NcRead file page) begun old new is.way idle;
  written = written-after me (file_page file page) idle.during is.way.during begun idle.others is.written;
  wanted = some-on (λ moment. (refusal u moment (history moment file.stream) (call.NcRead file page) ≡ None) × (reaches (call.NcRead file page) (file_page file page) moment ≡ true)) me begun old new is.wanted idle;
}

-- the page was written for it, or has no bytes now that could be
pub clean-written : (me : ℕ) (file : File) (page : ℕ) (written : Bool) (begun new : List Entry) (on : IsReading me file page written begun new) → (written ≡ false → has_no_write (file_page file page) new ≡ true) → WasWritten me (file_page file page) on.way.during begun
clean-written me file page true begun new on clean = inl (on.wrote refl)
clean-written me file page false begun new on clean =
    inr (some-end (λ moment. has_no_write (file_page file page) moment ≡ true) on.way.during begun
    (subst (λ (past : List Entry). has_no_write (file_page file page) past ≡ true) on.way.grew (clean refl)))

-- its entry stands behind what it did
pub done-left : (u : Setup) (me s : ℕ) (file : File) (page : ℕ) → s ≡ file.stream → (nth : ℕ) (r : Reply) (begun front : List Entry) (way : IsUnderWay me (call.NcRead file page) begun front) → WasWritten me (file_page file page) way.during begun → CallLeft u me (call.NcRead file page) (outcome.Done r) begun (entry.Call me nth (Some s) (call.NcRead file page) (outcome.Done r) ∷ front)
done-left u me s file page here nth r begun front way written = record {
  earlier = way.during;
  placed = record {
    nth = nth;
    stream = Some s;
    later = [];
    grew = ap (λ l. entry.Call me nth (Some s) (call.NcRead file page) (outcome.Done r) ∷ l) way.grew;
    quiet = tt;
    filed = read-filed file page s here [] me;
    works = way.works;
  };
  unstopped = way.unstopped;
  has_done = written;
}

-- a page that starts below the size is of the range of its read
has-stored : (page size : ℕ) → 4096 * page < size → has_page (stored_range page size) page ≡ true
has-stored page size below =
    subst (λ (to : ℕ). has_page (record { from = 4096 * page; to = to }) page ≡ true) (sym end)
    (and_from _ _ (lt-ltb (4096 * page) (min (4096 * page + 4096) size) (omega (arith, below)))
    (and_from _ _ (lt-ltb (4096 * page) (4096 * page + 4096) (omega arith)) (lt-ltb (4096 * page) (min (4096 * page + 4096) size) (omega (arith, below)))))
  where
    end : (stored_range page size).to ≡ min (4096 * page + 4096) size
    end = rw (lt-ltb (4096 * page) size below) refl

pub reached-at : (file : File) (page s : ℕ) (past : List Entry) → s ≡ file.stream → 4096 * page < size_of (history past s) → reaches (call.NcRead file page) (file_page file page) past ≡ true
reached-at file page s past here below =
    and_from _ _ (eq-eqb file.stream file.stream refl)
    (has-stored page (size_of (history past file.stream)) (subst (λ (n : ℕ). 4096 * page < size_of (history past n)) here below))

-- so it has a number
pub numbered : (u : Setup) (s page : ℕ) (past : List Entry) → IsGood u past → 4096 * page < size_of (history past s) → page < 2 ^ 51
numbered u s page past good below = number (size_of (history past s)) below (size_of-good u past s (so-far u past good))
  where
    number : (size : ℕ) → 4096 * page < size → size < 2 ^ 63 → page < 2 ^ 51
    number size inside most = omega (arith, inside, most)

-- a dirty page starts below the size
pub dirty-below : (u : Setup) (s page : ℕ) (past : List Entry) → IsGood u past → is_dirty (history past s) page ≡ true → 4096 * page < size_of (history past s)
dirty-below u s page past good dirty =
    resident-below u past s page (so-far u past good) (dirty-resident (history past s) page (good-safe u past s (so-far u past good)) dirty)

pub has-write : (dirty unstamped : Bool) → (not dirty || unstamped) ≡ false → (dirty ≡ true) × (unstamped ≡ false)
has-write true false is = (refl, refl)
has-write true true is = absurd (cc)
has-write false unstamped is = absurd (cc)

-- where its page has bytes that can be written, it may write them
pub write-asked : (u : Setup) (file : File) (page s : ℕ) (past : List Entry) → s ≡ file.stream → IsGood u past → refusal u past (history past s) (call.NcRead file page) ≡ None → has_no_write (record { stream = s; page = page }) past ≡ false → IsToWriteFirst u file page past
write-asked u file page s past here good admitted has = record {
  admitted = rw here at admitted;
  reached = reached-at file page s past here (dirty-below u s page past good both.0);
  to_write = subst (λ (n : ℕ). IsToWrite (record { stream = n; page = page }) past) here (record { dirty = both.0; stamped = both.1 });
}
  where
    both : (is_dirty (history past s) page ≡ true) × (is_unstamped (history past s) page ≡ false)
    both = has-write (is_dirty (history past s) page) (is_unstamped (history past s) page) has

-- A transfer of its page that ended well stands among what it placed.
is-end : (me : ℕ) (page : Page) (rest : List Entry) → has_end ended_ok me page (entry.WriteEnd me page how.Good ∷ rest) ≡ true
is-end me page rest = rw (eq-eqb me me refl, eq-eqb page.stream page.stream refl, eq-eqb page.page page.page refl) refl

ends : (me : ℕ) (page : Page) (during rest : List Entry) → during ≡ entry.WriteEnd me page how.Good ∷ rest → has_end ended_ok me page during ≡ true
ends me page during rest is = ap (λ l. has_end ended_ok me page l) is ∙ is-end me page rest

-- the page was written for a read that is under way from before to behind the transfer
pub wrote : (w : Standing) (file : File) (page : ℕ) (begun new : List Entry) → IsUnderWay w.number (call.NcRead file page) begun w.seen → HasTransferred w (file_page file page) how.Good false new → (way : IsUnderWay w.number (call.NcRead file page) begun new) → IsReading w.number file page true begun new
wrote w file page begun new was shown way = record {
  way = way;
  wrote = λ yes. ends w.number (file_page file page) way.during (middle ++ was.during) (append_cancel_right way.during (end ∷ (middle ++ was.during)) begun same);
}
  where
    end : Entry
    end = entry.WriteEnd w.number (file_page file page) how.Good

    middle : List Entry
    middle = shown.later ++ (entry.WriteBegin w.number (file_page file page) ∷ shown.is_before.since)

    parts : new ≡ end ∷ (shown.later ++ (entry.WriteBegin w.number (file_page file page) ∷ (shown.is_before.since ++ (was.during ++ begun))))
    parts =
        shown.placed
        ∙ (ap (λ past. end ∷ (shown.later ++ (entry.WriteBegin w.number (file_page file page) ∷ past))) shown.is_before.grew
        ∙ ap (λ past. end ∷ (shown.later ++ (entry.WriteBegin w.number (file_page file page) ∷ (shown.is_before.since ++ past)))) was.grew)

    joined : (xs : List Entry) (e : Entry) (ys zs rest : List Entry) → xs ++ (e ∷ (ys ++ (zs ++ rest))) ≡ ((xs ++ (e ∷ ys)) ++ zs) ++ rest
    joined xs e ys zs rest =
        ap (λ l. xs ++ (e ∷ l)) (sym (append_assoc ys zs rest))
        ∙ (sym (append_assoc xs (e ∷ (ys ++ zs)) rest)
        ∙ ap (λ l. l ++ rest) (sym (append_assoc xs (e ∷ ys) zs)))

    same : way.during ++ begun ≡ (end ∷ (middle ++ was.during)) ++ begun
    same = sym way.grew ∙ (parts ∙ ap (λ l. end ∷ l) (joined shown.later (entry.WriteBegin w.number (file_page file page)) shown.is_before.since was.during begun))

-- How a call is shown to have left what it left: it begins, brings its pages in one by one, and ends.
use Rattle.std.specs.Prelude.{◌≡◌, ℕ, Bool, true, List, [], ◌∷◌, ◌++◌, refl}
use Rattle.std.specs.declared.option.Option.{Option}
use Rattle.std.proofs.Common.{ap, inl, eq-eqb}
use Rattle.cc_entry.specs.Place.{Page}
use Rattle.cc_entry.specs.declared.call.Call.{Call}
use Rattle.cc_entry.specs.declared.error.CcError.{CcError}
use Rattle.cc_entry.specs.declared.error.CcError.TheVariants as error
use Rattle.cc_entry.specs.declared.reply.Reply.{Reply}
use Rattle.cc_entry.specs.declared.reply.Outcome.{Outcome}
use Rattle.cc_entry.specs.declared.reply.Outcome.TheVariants as outcome
use Rattle.cc_entry.specs.declared.entry.Entry.{Entry}
use Rattle.cc_entry.specs.declared.entry.Entry.TheVariants as entry
use Rattle.cc_model.specs.Acts.{file_of}
use Rattle.cc_model.specs.Holds.{holds_of}
use Rattle.cc_model.specs.Legal.{stream_history}
use Rattle.cc_model.specs.Faults.{ReadFailed}
use Rattle.cc_model.specs.Filing.{IsFiled}
use Rattle.cc_model.specs.Passes.{is_mine}
use Rattle.cc_effects.specs.Moments.{AtSome}
use Rattle.cc_effects.specs.Asked.{Calls, is_admitted, reaches, brings_in}
use Rattle.cc_effects.specs.Places.{WasAsked, Works, may_read}
use Rattle.cc_effects.specs.Stops.{IsUnstopped, IsToldBy}
use Rattle.cc_effects.specs.Refusals.{may_refuse, may_want}
use Rattle.cc_effects.specs.Calls.{IsUnderWay, IsPlaced, HasDone, IsDone, IsRefused, IsFaulted, IsUnplaced}
use Rattle.cc_effects.proofs.Stretches.{some-end}
use Rattle.cc_effects.proofs.WorkSteps.{works-others}

-- a call begins
pub begins : (me : ℕ) (it : Call) (old : List Entry) → IsUnderWay me it old old
begins me it old = record { during = []; grew = refl; works = works-others me (Calls it) [] old tt; unsynced = refl; unstopped = refl }

-- it brings in a page of its range as it is, where nothing refuses it
pub brings : (me : ℕ) (it : Call) (old new : List Entry) (page : Page) (from_disk : Bool) → IsUnderWay me it old new → brings_in it ≡ true → is_admitted it page.stream new ≡ true → reaches it page new ≡ true → IsUnderWay me it old (entry.PageIn me page from_disk ∷ new)
brings me it old new page from_disk way may admitted reached = record {
  during = entry.PageIn me page from_disk ∷ way.during;
  grew = ap (λ l. entry.PageIn me page from_disk ∷ l) way.grew;
  works = record {
    each = ((λ is. rw (may, ← way.grew, admitted) reached), way.works.each);
    one_sync = rw (eq-eqb me me refl) way.works.one_sync;
    whole = rw (eq-eqb me me refl) way.works.whole;
  };
  unsynced = rw (eq-eqb me me refl) way.unsynced;
  unstopped = rw (eq-eqb me me refl) way.unstopped;
}

-- The entry of the call behind its work. It is filed where the front says.
placed-at : (me nth : ℕ) (stream : Option ℕ) (it : Call) (ended : Outcome) (earlier old front : List Entry) → front ≡ earlier ++ old → Works me (Calls it) earlier old → IsFiled (holds_of (stream_history front stream)) me stream it (file_of it) → IsPlaced me it ended earlier old (entry.Call me nth stream it ended ∷ front)
placed-at me nth stream it ended earlier old front is works filed = record {
  nth = nth;
  stream = stream;
  later = [];
  grew = ap (λ l. entry.Call me nth stream it ended ∷ l) is;
  quiet = tt;
  filed = rw is at filed;
  works = works;
}

-- it is done
pub ends_done : (me nth : ℕ) (stream : Option ℕ) (it : Call) (r : Reply) (old new : List Entry) → IsUnderWay me it old new → IsFiled (holds_of (stream_history new stream)) me stream it (file_of it) → ((during : List Entry) → HasDone me it during old) → IsDone me it r old (entry.Call me nth stream it (outcome.Done r) ∷ new)
ends_done me nth stream it r old new way filed has = record {
  earlier = way.during;
  placed = placed-at me nth stream it (outcome.Done r) way.during old new way.grew way.works filed;
  unstopped = way.unstopped;
  has_done = has way.during;
}

-- it is refused, by the list of its refusals
pub ends_refused : (me nth : ℕ) (stream : Option ℕ) (it : Call) (e : CcError) (old new : List Entry) → IsUnderWay me it old new → IsFiled (holds_of (stream_history new stream)) me stream it (file_of it) → may_refuse it e ≡ true → IsRefused me it e old (entry.Call me nth stream it (outcome.Failed e) ∷ new)
ends_refused me nth stream it e old new way filed listed = record {
  earlier = way.during;
  placed = placed-at me nth stream it (outcome.Failed e) way.during old new way.grew way.works filed;
  unstopped = way.unstopped;
  listed = listed;
}

-- the disk fails to read a page of its range that is on the disk alone, and it is told that fault
pub ends_unread : (me nth : ℕ) (stream : Option ℕ) (it : Call) (page : Page) (old new : List Entry) → IsUnderWay me it old new → IsFiled (holds_of (stream_history (entry.FillFailed me page ∷ new) stream)) me stream it (file_of it) → may_refuse it (error.ReadFault page.page) ≡ true → may_read it page new ≡ true → is_admitted it page.stream new ≡ true → reaches it page new ≡ true → IsFaulted me it (error.ReadFault page.page) old (entry.Call me nth stream it (outcome.Failed (error.ReadFault page.page)) ∷ entry.FillFailed me page ∷ new)
ends_unread me nth stream it page old new way filed listed read admitted reached = record {
  earlier = entry.FillFailed me page ∷ way.during;
  placed = placed-at me nth stream it (outcome.Failed (error.ReadFault page.page)) (entry.FillFailed me page ∷ way.during) old (entry.FillFailed me page ∷ new) (ap (λ l. entry.FillFailed me page ∷ l) way.grew) works filed;
  listed = listed;
  stop = entry.FillFailed me page;
  stopped = record { since = []; before = way.during; split = refl; is_own = eq-eqb me me refl; quiet = tt; unstopped = way.unstopped };
  told = record { fault = ReadFailed page.page; shown = rw (eq-eqb me me refl) refl; told = eq-eqb page.page page.page refl };
}
  where
    failed : (during : List Entry) → new ≡ during ++ old → (may_read it page (during ++ old) ≡ true) × AtSome (WasAsked it page) old (during ++ old)
    failed during is = (rw is at read, some-end (WasAsked it page) during old (record { admitted = rw is at admitted; reached = rw is at reached }))

    works : Works me (Calls it) (entry.FillFailed me page ∷ way.during) old
    works = record {
      each = ((λ is. failed way.during way.grew), way.works.each);
      one_sync = rw (eq-eqb me me refl) way.works.one_sync;
      whole = rw (eq-eqb me me refl) way.works.whole;
    }

-- memory is wanting, and it leaves no entry of its own
pub gives_up : (me : ℕ) (it : Call) (e : CcError) (old new : List Entry) → IsUnderWay me it old new → may_refuse it e ≡ true → may_want it new ≡ true → IsUnplaced me it e old new
gives_up me it e old new way listed wants = record {
  during = way.during;
  grew = way.grew;
  works = way.works;
  came = inl way.unstopped;
  listed = listed;
  wants = rw way.grew (some-end (λ moment. may_want it moment ≡ true) way.during old (rw way.grew at wants));
}

-- The same from what the pass placed before the entry of the call, as a whole.
pub done_by : (me nth : ℕ) (stream : Option ℕ) (it : Call) (r : Reply) (earlier old : List Entry) → Works me (Calls it) earlier old → IsFiled (holds_of (stream_history (earlier ++ old) stream)) me stream it (file_of it) → IsUnstopped me earlier → HasDone me it earlier old → IsDone me it r old (entry.Call me nth stream it (outcome.Done r) ∷ (earlier ++ old))
done_by me nth stream it r earlier old works filed unstopped has = record {
  earlier = earlier;
  placed = placed-at me nth stream it (outcome.Done r) earlier old (earlier ++ old) refl works filed;
  unstopped = unstopped;
  has_done = has;
}

pub faulted_by : (me nth : ℕ) (stream : Option ℕ) (it : Call) (e : CcError) (stop : Entry) (before old : List Entry) → Works me (Calls it) (stop ∷ before) old → IsFiled (holds_of (stream_history (stop ∷ (before ++ old)) stream)) me stream it (file_of it) → may_refuse it e ≡ true → is_mine me stop ≡ true → IsUnstopped me before → IsToldBy me it e stop → IsFaulted me it e old (entry.Call me nth stream it (outcome.Failed e) ∷ (stop ∷ (before ++ old)))
faulted_by me nth stream it e stop before old works filed listed mine unstopped told = record {
  earlier = stop ∷ before;
  placed = placed-at me nth stream it (outcome.Failed e) (stop ∷ before) old (stop ∷ (before ++ old)) refl works filed;
  listed = listed;
  stop = stop;
  stopped = record { since = []; before = before; split = refl; is_own = mine; quiet = tt; unstopped = unstopped };
  told = told;
}

-- What explains a call between two moments explains it in each longer stretch: what the call placed before
-- joins it, and others' entries before and after change nothing.
use Rattle.std.specs.Prelude.{◌≡◌, ℕ, ◌<◌, ◌≤◌, Bool, true, false, not, ◌||◌, nat_lt, List, [], ◌∷◌, ◌++◌, length, refl, ◌⊎◌}
use Rattle.std.specs.declared.option.Option.{Option}
use Rattle.std.specs.declared.option.Option.TheVariants.{Some, None}
use Rattle.std.specs.List.{list_all, list_any, cons_option}
use Rattle.std.proofs.Common.{ap, ◌∙◌, inl, inr, arith, append_assoc}
use Rattle.std.proofs.lemmas.Bool.{and_parts, ltb-true, lt-ltb}
use Rattle.cc_entry.specs.Place.{Page, Range}
use Rattle.cc_entry.specs.declared.call.Call.{Call}
use Rattle.cc_entry.specs.declared.call.Call.TheVariants as call
use Rattle.cc_entry.specs.declared.error.CcError.{CcError}
use Rattle.cc_entry.specs.declared.error.CcError.TheVariants as error
use Rattle.cc_entry.specs.declared.reply.Reply.{Reply}
use Rattle.cc_entry.specs.declared.reply.Outcome.{Outcome}
use Rattle.cc_entry.specs.declared.reply.Outcome.TheVariants as outcome
use Rattle.cc_entry.specs.declared.entry.End.TheVariants as how
use Rattle.cc_entry.specs.declared.entry.Entry.{Entry}
use Rattle.cc_entry.specs.declared.entry.Entry.TheVariants as entry
use Rattle.cc_model.specs.Setup.{Setup}
use Rattle.cc_model.specs.History.{Effect, history, effect_of}
use Rattle.cc_model.specs.Sizes.{Touch, ended_ok}
use Rattle.cc_model.specs.Ranges.{span_has}
use Rattle.cc_model.specs.Touches.{unwritten, dirty_pages}
use Rattle.cc_model.specs.Refusals.{refusal}
use Rattle.cc_model.specs.Legal.{stream_history}
use Rattle.cc_effects.specs.Moments.{own, Others, IsIdle}
use Rattle.cc_effects.specs.Asked.{Calls}
use Rattle.cc_effects.specs.Places.{Works, syncs_of}
use Rattle.cc_effects.specs.Stops.{IsUnstopped}
use Rattle.cc_effects.specs.Refusals.{may_want}
use Rattle.cc_effects.specs.Calls.{IsUnderWay, IsPlaced, IsSynced, WasWritten, has_no_write, HasDone, IsDone, IsRefused, IsOvertaken, IsFaulted, CameSoFar, IsUnplaced, CallLeft}
use Rattle.cc_effects.specs.PageWrites.{is_end_of}
use Rattle.cc_effects.proofs.Stretches.{own-append, others-append, grew-after, some-after, some-before}
use Rattle.cc_effects.proofs.WorkSteps.{works-others, works-append, works-after, unsynced-others, unstopped-others, unstopped-append, unstopped-after, stopped-before, stopped-after}

-- what joins a call from before: such work, without a sync, by which nothing stopped it
pub record IsJoined (me : ℕ) (it : Call) (gap older : List Entry) : Type 0 where
  pub works : Works me (Calls it) gap older
  pub unsynced : syncs_of me gap ≡ []
  pub unstopped : IsUnstopped me gap

pub joined-others : (me : ℕ) (it : Call) (gap older : List Entry) → Others me gap → IsJoined me it gap older
joined-others me it gap older others = record {
  works = works-others me (Calls it) gap older others;
  unsynced = unsynced-others me gap others;
  unstopped = unstopped-others me gap others;
}

abbrev placed-after : (me : ℕ) (it : Call) (ended : Outcome) (earlier old new newer : List Entry) → IsPlaced me it ended earlier old new → IsIdle me new newer → IsPlaced me it ended earlier old newer
placed-after me it ended earlier old new newer p idle = record {
  nth = p.nth;
  stream = p.stream;
  later = idle.during ++ p.later;
  grew = grew-after idle.during p.later (entry.Call me p.nth p.stream it ended ∷ (earlier ++ old)) new newer idle.grew p.grew;
  quiet = others-append me idle.during p.later idle.others p.quiet;
  filed = p.filed;
  works = p.works;
}

abbrev placed-before : (me : ℕ) (it : Call) (ended : Outcome) (earlier gap older new : List Entry) → IsJoined me it gap older → IsPlaced me it ended earlier (gap ++ older) new → IsPlaced me it ended (earlier ++ gap) older new
placed-before me it ended earlier gap older new joined p = record {
  nth = p.nth;
  stream = p.stream;
  later = p.later;
  grew = rw (append_assoc earlier gap older) p.grew;
  quiet = p.quiet;
  filed = rw (append_assoc earlier gap older) p.filed;
  works = works-append me (Calls it) earlier gap older p.works joined.works joined.unsynced;
}

-- a history gains no less than nothing
history-longer : (gap older : List Entry) (s : ℕ) → length (history older s) ≤ length (history (gap ++ older) s)
unfolding history
history-longer [] older s = omega arith
history-longer (e ∷ gap) older s = by (effect_of e s) (history-longer gap older s)
  where
    by : (o : Option Effect) → length (history older s) ≤ length (history (gap ++ older) s) → length (history older s) ≤ length (cons_option o (history (gap ++ older) s))
    by None le = le
    by (Some effect) le = omega (arith, le)

-- touches that came after so many effects came after fewer
later-touches : (seen fewer : ℕ) (touches : List Touch) → fewer ≤ seen → list_all (λ touch. nat_lt seen touch.place) touches ≡ true → list_all (λ touch. nat_lt fewer touch.place) touches ≡ true
later-touches seen fewer [] le all = refl
later-touches seen fewer (touch ∷ touches) le all =
    let parts = and_parts (nat_lt seen touch.place) _ all in
    let here : fewer < touch.place = omega (arith, le, ltb-true seen touch.place parts.0) in
    rw (lt-ltb fewer touch.place here) (later-touches seen fewer touches le parts.1)

settled-of : (seen fewer : ℕ) (h : List Effect) (span : Option Range) (pages : List ℕ) → fewer ≤ seen → list_all (λ p. not (span_has span p) || list_all (λ touch. nat_lt seen touch.place) (unwritten h p)) pages ≡ true → list_all (λ p. not (span_has span p) || list_all (λ touch. nat_lt fewer touch.place) (unwritten h p)) pages ≡ true
settled-of seen fewer h span [] le all = refl
settled-of seen fewer h span (p ∷ pages) le all =
    let parts = and_parts (not (span_has span p) || list_all (λ touch. nat_lt seen touch.place) (unwritten h p)) _ all in
    rw (here (span_has span p) parts.0) (settled-of seen fewer h span pages le parts.1)
  where
    here : (b : Bool) → (not b || list_all (λ touch. nat_lt seen touch.place) (unwritten h p)) ≡ true → (not b || list_all (λ touch. nat_lt fewer touch.place) (unwritten h p)) ≡ true
    here true is = later-touches seen fewer (unwritten h p) le is
    here false is = refl

synced-before : (me s : ℕ) (span : Option Range) (during gap older : List Entry) → IsSynced me s span during (gap ++ older) → IsSynced me s span (during ++ gap) older
synced-before me s span during gap older p = record {
  after = p.after;
  before = p.before ++ gap;
  split = ap (λ l. l ++ gap) p.split ∙ append_assoc p.after (entry.Sync me s how.Good ∷ p.before) gap;
  quiet = p.quiet;
  settled =
      rw (append_assoc p.before gap older)
      (settled-of (length (history (gap ++ older) s)) (length (history older s)) (history (p.before ++ (gap ++ older)) s) span (dirty_pages (history (p.before ++ (gap ++ older)) s)) (history-longer gap older s) p.settled);
}

-- a page that was written is, in each longer stretch
any-longer : (test : Entry → Bool) (xs ys : List Entry) → list_any test xs ≡ true → list_any test (xs ++ ys) ≡ true
any-longer test [] ys is = absurd (cc)
any-longer test (x ∷ xs) ys is = by (test x) is (any-longer test xs ys)
  where
    by : (t : Bool) → (t || list_any test xs) ≡ true → (list_any test xs ≡ true → list_any test (xs ++ ys) ≡ true) → (t || list_any test (xs ++ ys)) ≡ true
    by true one rest = refl
    by false one rest = rest one

written-before : (me : ℕ) (page : Page) (during gap older : List Entry) → WasWritten me page during (gap ++ older) → WasWritten me page (during ++ gap) older
written-before me page during gap older (inl ended) = inl (rw (own-append me during gap) (any-longer (is_end_of ended_ok page) (own me during) (own me gap) ended))
written-before me page during gap older (inr some) =
    inr (rw (append_assoc during gap older) (some-before (λ moment. has_no_write page moment ≡ true) older gap (during ++ (gap ++ older)) some))

pub done-before : (me : ℕ) (it : Call) (during gap older : List Entry) → HasDone me it during (gap ++ older) → HasDone me it (during ++ gap) older
done-before me (call.Flush file span) during gap older has = synced-before me file.stream span during gap older has
done-before me (call.NcRead file number) during gap older has = written-before me (record { stream = file.stream; page = number }) during gap older has
done-before me (call.NcStore file page bytes) during gap older has = has
done-before me (call.NcWrite file page) during gap older has = has
done-before me other during gap older has = tt

came-before : (me : ℕ) (e : CcError) (during gap : List Entry) → IsUnstopped me gap → CameSoFar me e during → CameSoFar me e (during ++ gap)
came-before me e during gap unstopped (inl is) = inl (unstopped-append me during gap is unstopped)
came-before me e during gap unstopped (inr is) = inr (is.0, stopped-before me is.0 during gap unstopped is.1, is.2)

came-after : (me : ℕ) (e : CcError) (gap during : List Entry) → Others me gap → CameSoFar me e during → CameSoFar me e (gap ++ during)
came-after me e gap during others (inl is) = inl (unstopped-after me gap during others is)
came-after me e gap during others (inr is) = inr (is.0, stopped-after me is.0 gap during others is.1, is.2)

unplaced-before : (me : ℕ) (it : Call) (e : CcError) (gap older new : List Entry) → IsJoined me it gap older → IsUnplaced me it e (gap ++ older) new → IsUnplaced me it e older new
unplaced-before me it e gap older new joined p = record {
  during = p.during ++ gap;
  grew = rw (append_assoc p.during gap older) p.grew;
  works = works-append me (Calls it) p.during gap older p.works joined.works joined.unsynced;
  came = came-before me e p.during gap joined.unstopped p.came;
  listed = p.listed;
  wants = some-before (λ moment. may_want it moment ≡ true) older gap new p.wants;
}

unplaced-after : (me : ℕ) (it : Call) (e : CcError) (old new newer : List Entry) → IsUnplaced me it e old new → IsIdle me new newer → IsUnplaced me it e old newer
unplaced-after me it e old new newer p idle = record {
  during = idle.during ++ p.during;
  grew = grew-after idle.during p.during old new newer idle.grew p.grew;
  works = works-after me (Calls it) idle.during p.during old idle.others p.works;
  came = came-after me e idle.during p.during idle.others p.came;
  listed = p.listed;
  wants = rw idle.grew (some-after (λ moment. may_want it moment ≡ true) old new idle.during p.wants);
}

refused-before : (me : ℕ) (it : Call) (e : CcError) (gap older new : List Entry) → IsJoined me it gap older → IsRefused me it e (gap ++ older) new → IsRefused me it e older new
refused-before me it e gap older new joined p = record {
  earlier = p.earlier ++ gap;
  placed = placed-before me it _ p.earlier gap older new joined p.placed;
  unstopped = unstopped-append me p.earlier gap p.unstopped joined.unstopped;
  listed = p.listed;
}

refused-after : (me : ℕ) (it : Call) (e : CcError) (old new newer : List Entry) → IsRefused me it e old new → IsIdle me new newer → IsRefused me it e old newer
refused-after me it e old new newer p idle = record {
  earlier = p.earlier;
  placed = placed-after me it _ p.earlier old new newer p.placed idle;
  unstopped = p.unstopped;
  listed = p.listed;
}

overtaken-before : (u : Setup) (me : ℕ) (it : Call) (e : CcError) (gap older new : List Entry) → IsJoined me it gap older → IsOvertaken u me it e (gap ++ older) new → IsOvertaken u me it e older new
overtaken-before u me it e gap older new joined p = record {
  earlier = p.earlier ++ gap;
  placed = placed-before me it _ p.earlier gap older new joined p.placed;
  listed = p.listed;
  stop = p.stop;
  stopped = stopped-before me p.stop p.earlier gap joined.unstopped p.stopped;
  fault = p.fault;
  shown = p.shown;
  admitted =
      some-before (λ moment. refusal u moment (stream_history moment p.placed.stream) it ≡ None) older gap ((p.stopped.before ++ gap) ++ older)
      (rw (append_assoc p.stopped.before gap older) p.admitted);
}

overtaken-after : (u : Setup) (me : ℕ) (it : Call) (e : CcError) (old new newer : List Entry) → IsOvertaken u me it e old new → IsIdle me new newer → IsOvertaken u me it e old newer
overtaken-after u me it e old new newer p idle = record {
  earlier = p.earlier;
  placed = placed-after me it _ p.earlier old new newer p.placed idle;
  listed = p.listed;
  stop = p.stop;
  stopped = p.stopped;
  fault = p.fault;
  shown = p.shown;
  admitted = p.admitted;
}

faulted-before : (me : ℕ) (it : Call) (e : CcError) (gap older new : List Entry) → IsJoined me it gap older → IsFaulted me it e (gap ++ older) new → IsFaulted me it e older new
faulted-before me it e gap older new joined p = record {
  earlier = p.earlier ++ gap;
  placed = placed-before me it _ p.earlier gap older new joined p.placed;
  listed = p.listed;
  stop = p.stop;
  stopped = stopped-before me p.stop p.earlier gap joined.unstopped p.stopped;
  told = p.told;
}

faulted-after : (me : ℕ) (it : Call) (e : CcError) (old new newer : List Entry) → IsFaulted me it e old new → IsIdle me new newer → IsFaulted me it e old newer
faulted-after me it e old new newer p idle = record {
  earlier = p.earlier;
  placed = placed-after me it _ p.earlier old new newer p.placed idle;
  listed = p.listed;
  stop = p.stop;
  stopped = p.stopped;
  told = p.told;
}

abbrev pub is-done-before : (me : ℕ) (it : Call) (r : Reply) (gap older new : List Entry) → IsJoined me it gap older → IsDone me it r (gap ++ older) new → IsDone me it r older new
is-done-before me it r gap older new joined p = record {
  earlier = p.earlier ++ gap;
  placed = placed-before me it _ p.earlier gap older new joined p.placed;
  unstopped = unstopped-append me p.earlier gap p.unstopped joined.unstopped;
  has_done = done-before me it p.earlier gap older p.has_done;
}

abbrev pub is-done-after : (me : ℕ) (it : Call) (r : Reply) (old new newer : List Entry) → IsDone me it r old new → IsIdle me new newer → IsDone me it r old newer
is-done-after me it r old new newer p idle = record {
  earlier = p.earlier;
  placed = placed-after me it _ p.earlier old new newer p.placed idle;
  unstopped = p.unstopped;
  has_done = p.has_done;
}

behind : (u : Setup) (me : ℕ) (it : Call) (answered : Outcome) (gap older new : List Entry) → IsJoined me it gap older → CallLeft u me it answered (gap ++ older) new → CallLeft u me it answered older new
behind u me it (outcome.Done r) gap older new joined left = is-done-before me it r gap older new joined left
behind u me it (outcome.Failed (error.JournalFull entries)) gap older new joined left = unplaced-before me it _ gap older new joined left
behind u me it (outcome.Failed error.NoMemory) gap older new joined left = unplaced-before me it _ gap older new joined left
behind u me it (outcome.Failed (error.ReadFault page)) gap older new joined left = faulted-before me it _ gap older new joined left
behind u me it (outcome.Failed (error.WriteFault page)) gap older new joined left = faulted-before me it _ gap older new joined left
behind u me it (outcome.Failed (error.LogFault handle)) gap older new joined left = faulted-before me it _ gap older new joined left
behind u me it (outcome.Failed e) gap older new joined left = by e left
  where
    by : (e : CcError) → IsRefused me it e (gap ++ older) new ⊎ IsOvertaken u me it e (gap ++ older) new → IsRefused me it e older new ⊎ IsOvertaken u me it e older new
    by e (inl is) = inl (refused-before me it e gap older new joined is)
    by e (inr is) = inr (overtaken-before u me it e gap older new joined is)

-- others' entries before
pub left-before : (u : Setup) (me : ℕ) (it : Call) (answered : Outcome) (older old new : List Entry) → IsIdle me older old → CallLeft u me it answered old new → CallLeft u me it answered older new
left-before u me it answered older old new idle left =
    behind u me it answered idle.during older new (joined-others me it idle.during older idle.others) (rw idle.grew at left)

-- what the call placed before
pub left-joined : (u : Setup) (me : ℕ) (it : Call) (answered : Outcome) (older old new : List Entry) → IsUnderWay me it older old → CallLeft u me it answered old new → CallLeft u me it answered older new
left-joined u me it answered older old new way left =
    behind u me it answered way.during older new (record { works = way.works; unsynced = way.unsynced; unstopped = way.unstopped }) (rw way.grew at left)

-- others' entries after
pub left-after : (u : Setup) (me : ℕ) (it : Call) (answered : Outcome) (old new newer : List Entry) → CallLeft u me it answered old new → IsIdle me new newer → CallLeft u me it answered old newer
left-after u me it (outcome.Done r) old new newer left idle = is-done-after me it r old new newer left idle
left-after u me it (outcome.Failed (error.JournalFull entries)) old new newer left idle = unplaced-after me it _ old new newer left idle
left-after u me it (outcome.Failed error.NoMemory) old new newer left idle = unplaced-after me it _ old new newer left idle
left-after u me it (outcome.Failed (error.ReadFault page)) old new newer left idle = faulted-after me it _ old new newer left idle
left-after u me it (outcome.Failed (error.WriteFault page)) old new newer left idle = faulted-after me it _ old new newer left idle
left-after u me it (outcome.Failed (error.LogFault handle)) old new newer left idle = faulted-after me it _ old new newer left idle
left-after u me it (outcome.Failed e) old new newer left idle = by e left
  where
    by : (e : CcError) → IsRefused me it e old new ⊎ IsOvertaken u me it e old new → IsRefused me it e old newer ⊎ IsOvertaken u me it e old newer
    by e (inl is) = inl (refused-after me it e old new newer is idle)
    by e (inr is) = inr (overtaken-after u me it e old new newer is idle)

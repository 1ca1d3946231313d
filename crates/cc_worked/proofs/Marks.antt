-- What a pass did by the entries that no call places on its way: the ends of its calls, its appends, its
-- deferrals, its scans, its tests against locks and its writes of records. They tell which calls a line made, and in which
-- order.
use Rattle.std.specs.Prelude.{◌≡◌, ℕ, ◌==◌, Bool, true, false, List, [], ◌∷◌, ◌++◌, Ok, Err, refl, if◌then◌else◌, map}
use Rattle.std.proofs.Common.{sym, ap, ◌∙◌, inl, inr, append_assoc, append-nil, eq-eqb}
use Rattle.std.proofs.lemmas.List.{append_cancel_right}
use Rattle.std.specs.declared.option.Option.{Option}
use Rattle.cc_entry.specs.Place.{File, Page, Range}
use Rattle.cc_entry.specs.declared.call.Call.{Call}
use Rattle.cc_entry.specs.declared.entry.End.{End}
use Rattle.cc_entry.specs.declared.error.CcError.{CcError}
use Rattle.cc_entry.specs.declared.error.CcError.TheVariants as error
use Rattle.cc_entry.specs.declared.reply.Reply.TheVariants as reply
use Rattle.cc_entry.specs.declared.reply.Outcome.{Outcome}
use Rattle.cc_entry.specs.declared.reply.Outcome.TheVariants as outcome
use Rattle.cc_entry.specs.declared.entry.Entry.{Entry}
use Rattle.cc_entry.specs.declared.entry.Entry.TheVariants as entry
use Rattle.cc_model.specs.Setup.{Setup}
use Rattle.cc_model.specs.Passes.{is_mine}
use Rattle.cc_effects.specs.Moments.{Others, IsIdle, PlacedOnly, EachOwn}
use Rattle.cc_effects.specs.Asked.{Work, Calls}
use Rattle.cc_effects.specs.Places.{MayPlace}
use Rattle.cc_effects.specs.Calls.{IsPlaced, IsUnplaced, CallLeft, leaves_entry}
use Rattle.cc_effects.proofs.FrontLaws.{placed-of}
use Rattle.cc_pieces.specs.Shim.{CallsLeft}

-- the end of a call with its outcome, an entry of a log, a deferral, a scan, a test against locks, a write of a record
pub data Mark : Type 0 where
  Ended : (it : Call) → (answered : Outcome) → Mark
  Logged : (handle lsn : ℕ) → (bytes : List ℕ) → Mark
  Deferred : (id : ℕ) → Mark
  Scanned : (picked : List Page) → Mark
  Tested : (file : File) → (range : Range) → (write : Bool) → (conflict : Option ℕ) → Mark
  Recorded : (stream size valid : ℕ) → (end : End) → Mark

abbrev pub mark_if : ℕ → ℕ → Mark → List Mark
mark_if me pass mark = if pass == me then mark ∷ [] else []

abbrev pub mark_of : ℕ → Entry → List Mark
mark_of me (entry.Call pass nth stream it answered) = mark_if me pass (Ended it answered)
mark_of me (entry.Append pass handle lsn bytes) = mark_if me pass (Logged handle lsn bytes)
mark_of me (entry.Defer pass id file pages retrying) = mark_if me pass (Deferred id)
mark_of me (entry.Scan pass picked) = mark_if me pass (Scanned picked)
mark_of me (entry.Tested pass file range write conflict) = mark_if me pass (Tested file range write conflict)
mark_of me (entry.Record pass stream size valid end) = mark_if me pass (Recorded stream size valid end)
mark_of me other = []

-- the marks of the pass in a stretch, oldest first
abbrev pub marks : ℕ → List Entry → List Mark
marks me [] = []
marks me (e ∷ during) = marks me during ++ mark_of me e

-- from one moment to another the pass left these marks
pub record Marked (me : ℕ) (all : List Mark) (old new : List Entry) : Type 0 where
  pub during : List Entry
  pub grew : new ≡ during ++ old
  pub same : marks me during ≡ all

pub marks-append : (me : ℕ) (later earlier : List Entry) → marks me (later ++ earlier) ≡ marks me earlier ++ marks me later
marks-append me [] earlier = sym (append-nil (marks me earlier))
marks-append me (e ∷ later) earlier =
    ap (λ l. l ++ mark_of me e) (marks-append me later earlier) ∙ append_assoc (marks me earlier) (marks me later) (mark_of me e)

not-mine : (me pass : ℕ) (mark : Mark) → (pass == me) ≡ false → mark_if me pass mark ≡ []
not-mine me pass mark is = rw is refl

unmarked : (me : ℕ) (e : Entry) → is_mine me e ≡ false → mark_of me e ≡ []
unmarked me (entry.Call pass nth stream it answered) is = not-mine me pass (Ended it answered) is
unmarked me (entry.Append pass handle lsn bytes) is = not-mine me pass (Logged handle lsn bytes) is
unmarked me (entry.Defer pass id file pages retrying) is = not-mine me pass (Deferred id) is
unmarked me (entry.Scan pass picked) is = not-mine me pass (Scanned picked) is
unmarked me (entry.Tested pass file range write conflict) is = not-mine me pass (Tested file range write conflict) is
unmarked me (entry.Record pass stream size valid end) is = not-mine me pass (Recorded stream size valid end) is
unmarked me other is = refl

pub marks-others : (me : ℕ) (during : List Entry) → Others me during → marks me during ≡ []
marks-others me [] others = refl
marks-others me (e ∷ during) others = rw (marks-others me during others.1, unmarked me e others.0) refl

may-not : (me pass : ℕ) (mark : Mark) → ((pass == me) ≡ true → ⊥) → mark_if me pass mark ≡ []
may-not me pass mark not = by (pass == me) not
  where
    by : (b : Bool) → (b ≡ true → ⊥) → (if b then mark ∷ [] else []) ≡ []
    by true never = absurd (never refl)
    by false never = refl

placeable : (me : ℕ) (work : Work) (old past : List Entry) (e : Entry) → (is_mine me e ≡ true → MayPlace me work old past e) → mark_of me e ≡ []
placeable me work old past (entry.Call pass nth stream it answered) may = may-not me pass (Ended it answered) may
placeable me work old past (entry.Append pass handle lsn bytes) may = may-not me pass (Logged handle lsn bytes) may
placeable me work old past (entry.Defer pass id file pages retrying) may = may-not me pass (Deferred id) may
placeable me work old past (entry.Scan pass picked) may = may-not me pass (Scanned picked) may
placeable me work old past (entry.Tested pass file range write conflict) may = may-not me pass (Tested file range write conflict) may
placeable me work old past (entry.Record pass stream size valid end) may = may-not me pass (Recorded stream size valid end) may
placeable me work old past other may = refl

-- what a call places on its way leaves none
pub marks-works : (me : ℕ) (work : Work) (during old : List Entry) → EachOwn me (MayPlace me work old) during old → marks me during ≡ []
marks-works me work [] old each = refl
marks-works me work (e ∷ during) old each =
    rw (marks-works me work during old each.1, placeable me work old (during ++ old) e each.0) refl

pub marked-idle : (me : ℕ) (old new : List Entry) → IsIdle me old new → Marked me [] old new
marked-idle me old new idle = record { during = idle.during; grew = idle.grew; same = marks-others me idle.during idle.others }

pub marked-then : (me : ℕ) (first second : List Mark) (old between new : List Entry) → Marked me first old between → Marked me second between new → Marked me (first ++ second) old new
marked-then me first second old between new a b = record {
  during = b.during ++ a.during;
  grew = b.grew ∙ (ap (λ l. b.during ++ l) a.grew ∙ sym (append_assoc b.during a.during old));
  same = marks-append me b.during a.during ∙ rw (a.same, b.same) refl;
}

-- one entry of the pass, between what leaves no mark
pub around : (me : ℕ) (e : Entry) (later earlier old new : List Entry) → new ≡ later ++ (e ∷ (earlier ++ old)) → marks me later ≡ [] → marks me earlier ≡ [] → Marked me (mark_of me e) old new
around me e later earlier old new grew after before = record {
  during = later ++ (e ∷ earlier);
  grew = grew ∙ sym (append_assoc later (e ∷ earlier) old);
  same = marks-append me later (e ∷ earlier) ∙ rw (before, after) (append-nil (mark_of me e));
}

pub marked-only : (me : ℕ) (e : Entry) (old new : List Entry) → PlacedOnly me e old new → Marked me (mark_of me e) old new
marked-only me e old new only =
    around me e only.later only.earlier old new only.grew (marks-others me only.later only.quiet_after) (marks-others me only.earlier only.quiet_before)

marked-placed : (me : ℕ) (it : Call) (answered : Outcome) (earlier old new : List Entry) → IsPlaced me it answered earlier old new → Marked me (Ended it answered ∷ []) old new
marked-placed me it answered earlier old new p =
    let is : mark_of me (entry.Call me p.nth p.stream it answered) ≡ Ended it answered ∷ [] = rw (eq-eqb me me refl) refl in
    let left : Marked me (mark_of me (entry.Call me p.nth p.stream it answered)) old new = around me (entry.Call me p.nth p.stream it answered) p.later earlier old new p.grew (marks-others me p.later p.quiet) (marks-works me (Calls it) earlier old p.works.each) in
    rw is at left

-- a call that leaves an entry leaves its end
pub marked-call : (u : Setup) (me : ℕ) (it : Call) (answered : Outcome) (old new : List Entry) → CallLeft u me it answered old new → leaves_entry answered ≡ true → Marked me (Ended it answered ∷ []) old new
marked-call u me it answered old new left leaves =
    let p = placed-of u me it answered old new left leaves in
    marked-placed me it answered p.0 old new p.1

marked-unplaced : (me : ℕ) (it : Call) (e : CcError) (old new : List Entry) → IsUnplaced me it e old new → Marked me [] old new
marked-unplaced me it e old new left =
    record { during = left.during; grew = left.grew; same = marks-works me (Calls it) left.during old left.works.each }

-- the mark of a call, where it leaves an entry
abbrev pub end_of : Call → Outcome → List Mark
end_of it answered = if leaves_entry answered then Ended it answered ∷ [] else []

-- a call leaves its end alone, or nothing where it leaves no entry
pub marked-left : (u : Setup) (me : ℕ) (it : Call) (answered : Outcome) (old new : List Entry) → CallLeft u me it answered old new → Marked me (end_of it answered) old new
marked-left u me it (outcome.Done r) old new left = marked-call u me it (outcome.Done r) old new left refl
marked-left u me it (outcome.Failed (error.JournalFull entries)) old new left = marked-unplaced me it (error.JournalFull entries) old new left
marked-left u me it (outcome.Failed error.NoMemory) old new left = marked-unplaced me it error.NoMemory old new left
marked-left u me it (outcome.Failed e) old new left = marked-call u me it (outcome.Failed e) old new left refl

-- calls that are all done leave the end of each, in their order
abbrev pub done_marks : List Call → List Mark
done_marks calls = map (λ it. Ended it (outcome.Done reply.Unit)) calls

pub marked-calls : (u : Setup) (me : ℕ) (calls : List Call) (old new : List Entry) → CallsLeft u me calls (Ok tt) old new → Marked me (done_marks calls) old new
marked-calls u me [] old new left = marked-idle me old new left
marked-calls u me (it ∷ more) old new left =
    marked-then me (Ended it (outcome.Done reply.Unit) ∷ []) (done_marks more) old left.0 new
    (marked-call u me it (outcome.Done reply.Unit) old left.0 left.1 refl)
    (marked-calls u me more left.0 new left.2)

-- Calls of which one is refused leave the ends of those before it, and its own where it has one.
pub record Cut (calls : List Call) (e : CcError) (all : List Mark) : Type 0 where
  pub before : List Call
  pub it : Call
  pub after : List Call
  pub split : calls ≡ before ++ it ∷ after
  pub same : all ≡ done_marks before ++ end_of it (outcome.Failed e)

pub marked-cut : (u : Setup) (me : ℕ) (calls : List Call) (e : CcError) (old new : List Entry) → CallsLeft u me calls (Err e) old new → (all : List Mark) × Cut calls e all × Marked me all old new
marked-cut u me [] e old new left = absurd left
marked-cut u me (it ∷ more) e old new (inl left) =
    (end_of it (outcome.Failed e), record { before = []; it = it; after = more; split = refl; same = refl }, marked-left u me it (outcome.Failed e) old new left)
marked-cut u me (it ∷ more) e old new (inr left) =
    let rest = marked-cut u me more e left.0 new left.2 in (
      Ended it (outcome.Done reply.Unit) ∷ rest.0,
      record { before = it ∷ rest.1.before; it = rest.1.it; after = rest.1.after; split = ap (λ l. it ∷ l) rest.1.split; same = ap (λ l. Ended it (outcome.Done reply.Unit) ∷ l) rest.1.same },
      marked-then me (Ended it (outcome.Done reply.Unit) ∷ []) rest.0 old left.0 new (marked-call u me it (outcome.Done reply.Unit) old left.0 left.1 refl) rest.2,
    )

-- what a concrete stretch shows
pub shows : (me : ℕ) (all : List Mark) (piece old : List Entry) → Marked me all old (piece ++ old) → marks me piece ≡ all
shows me all piece old left = rw (append_cancel_right piece left.during old left.grew) left.same

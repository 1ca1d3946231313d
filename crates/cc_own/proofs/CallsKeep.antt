-- What a call leaves of the holds of its pass, from the moment at which it began to each at which it has ended.
use Rattle.std.specs.Prelude.{◌≡◌, ℕ, ◌+◌, Bool, true, false, cond, ◌==◌, List, [], ◌∷◌, ◌++◌, length, refl}
use Rattle.std.specs.declared.option.Option.{Option}
use Rattle.std.specs.declared.option.Option.TheVariants.{Some, None}
use Rattle.std.specs.Option.{option_map}
use Rattle.std.specs.List.{list_any}
use Rattle.std.proofs.Common.{ap, sym, ◌∙◌, subst}
use Rattle.std.proofs.lemmas.Bool.{or_from, eqb-true, eq-eqb}
use Rattle.cc_entry.specs.Place.{File, Range}
use Rattle.cc_entry.specs.declared.hold.HoldKind.{HoldKind}
use Rattle.cc_entry.specs.declared.hold.HoldKind.TheVariants as kind
use Rattle.cc_entry.specs.declared.call.Call.{Call}
use Rattle.cc_entry.specs.declared.call.Call.TheVariants as call
use Rattle.cc_entry.specs.declared.error.CcError.{CcError}
use Rattle.cc_entry.specs.declared.error.CcError.TheVariants as error
use Rattle.cc_entry.specs.declared.reply.Reply.{Reply}
use Rattle.cc_entry.specs.declared.reply.Reply.TheVariants as reply
use Rattle.cc_entry.specs.declared.reply.Outcome.{Outcome}
use Rattle.cc_entry.specs.declared.reply.Outcome.TheVariants as outcome
use Rattle.cc_entry.specs.declared.entry.Entry.{Entry}
use Rattle.cc_entry.specs.declared.entry.Entry.TheVariants as entry
use Rattle.cc_model.specs.Setup.{Setup}
use Rattle.cc_model.specs.History.{history}
use Rattle.cc_model.specs.Acts.{file_of}
use Rattle.cc_model.specs.Holds.{Hold, hold_at, holds_of, id_of}
use Rattle.cc_model.specs.Passes.{is_mine}
use Rattle.cc_model.specs.Filing.{serves, IsFiled}
use Rattle.cc_model.specs.Legal.{IsLegal, stream_history}
use Rattle.cc_model.specs.Good.{IsGoodSoFar}
use Rattle.cc_laws.proofs.RoomPasts.{IsGoodSoFar-before}
use Rattle.cc_effects.specs.Asked.{Work, Calls}
use Rattle.cc_effects.specs.Moments.{own, EachOwn}
use Rattle.cc_effects.specs.Places.{MayPlace, Works}
use Rattle.cc_effects.specs.Calls.{IsPlaced, IsUnplaced, CallLeft}
use Rattle.cc_effects.proofs.FrontLaws.{placed-of}
use Rattle.cc_own.specs.Own.{HasHold, names_it, hold_after, changes_it, changes_hold, hold_of_range, hold_of_done_call}
use Rattle.cc_own.proofs.FoundHolds.{some-is, IsOpen, after-same}
use Rattle.cc_own.proofs.OpenIds.{ids-apart, none-open}
use Rattle.cc_own.proofs.OwnHolds.{served, served-range, done-changes, done-makes, own-keeps, all-keep, others-keep}

pub good-tail : (u : Setup) (later past : List Entry) → IsGoodSoFar u (later ++ past) → IsGoodSoFar u past
good-tail u [] past good = good
good-tail u (e ∷ later) past good = good-tail u later past (IsGoodSoFar-before u (later ++ past) e good)

-- what a pass may place before the entry of its call changes no hold
pub placed-kept : (me id : ℕ) (work : Work) (old past : List Entry) (e : Entry) → MayPlace me work old past e → changes_hold id e ≡ false
placed-kept me id work old past (entry.Call pass nth stream call ended) may = absurd may
placed-kept me id work old past other may = refl

-- what each own entry of a stretch keeps, they all do
pub each-kept : (me id : ℕ) (May : List Entry → Entry → Type 0) → ((past : List Entry) (e : Entry) → May past e → changes_hold id e ≡ false) → (during old : List Entry) → EachOwn me May during old → list_any (changes_hold id) (own me during) ≡ false
each-kept me id May keeps [] old each = refl
each-kept me id May keeps (e ∷ during) old each = by (is_mine me e) refl (each-kept me id May keeps during old each.1)
  where
    by : (b : Bool) → is_mine me e ≡ b → list_any (changes_hold id) (own me during) ≡ false → list_any (changes_hold id) (cond b (e ∷ own me during) (own me during)) ≡ false
    by true is rest = or_from (changes_hold id e) _ (keeps (during ++ old) e (each.0 is)) rest
    by false is rest = rest

pub works-kept : (me id : ℕ) (work : Work) (during old : List Entry) → Works me work during old → list_any (changes_hold id) (own me during) ≡ false
works-kept me id work during old works = each-kept me id (MayPlace me work old) (placed-kept me id work old) during old works.each

-- so the hold stays while a call is under way
pub works-keep : (u : Setup) (me s id : ℕ) (hold : Hold) (work : Work) (during old : List Entry) → IsGoodSoFar u (during ++ old) → Works me work during old → HasHold me s id hold old → HasHold me s id hold (during ++ old)
works-keep u me s id hold work during old good works has =
    all-keep u me s id hold during old good (works-kept me id work during old works) has

-- the journal at the entry of a call, and before it
at-entry : (u : Setup) (me : ℕ) (it : Call) (ended : Outcome) (earlier old new : List Entry) (p : IsPlaced me it ended earlier old new) → IsGoodSoFar u new → IsGoodSoFar u (entry.Call me p.nth p.stream it ended ∷ (earlier ++ old))
at-entry u me it ended earlier old new p good = good-tail u p.later _ (subst (IsGoodSoFar u) p.grew good)

pub at-front : (u : Setup) (me : ℕ) (it : Call) (ended : Outcome) (earlier old new : List Entry) (p : IsPlaced me it ended earlier old new) → IsGoodSoFar u new → IsGoodSoFar u (earlier ++ old)
at-front u me it ended earlier old new p good = IsGoodSoFar-before u (earlier ++ old) _ (at-entry u me it ended earlier old new p good)

-- the hold stays up to the front of the call
pub front-keeps : (u : Setup) (me s id : ℕ) (hold : Hold) (it : Call) (ended : Outcome) (earlier old new : List Entry) → IsPlaced me it ended earlier old new → IsGoodSoFar u new → HasHold me s id hold old → HasHold me s id hold (earlier ++ old)
front-keeps u me s id hold it ended earlier old new p good has =
    works-keep u me s id hold (Calls it) earlier old (at-front u me it ended earlier old new p good) p.works has

-- and from its entry on
entry-on : (u : Setup) (me s id : ℕ) (hold : Hold) (it : Call) (ended : Outcome) (earlier old new : List Entry) (p : IsPlaced me it ended earlier old new) → IsGoodSoFar u new → HasHold me s id hold (entry.Call me p.nth p.stream it ended ∷ (earlier ++ old)) → HasHold me s id hold new
entry-on u me s id hold it ended earlier old new p good has =
    subst (HasHold me s id hold) (sym p.grew) (others-keep u me s id hold p.later _ (subst (IsGoodSoFar u) p.grew good) p.quiet has)

-- a call is filed where the hold that it names is open
serves-open : (pass : ℕ) (of_kind : HoldKind → Bool) (holds : List Hold) (named id : ℕ) → (named == id) ≡ true → serves pass of_kind (hold_at holds named) ≡ true → IsOpen holds id
serves-open pass of_kind holds named id same filed =
    let at_id : serves pass of_kind (hold_at holds id) ≡ true = subst (λ n. serves pass of_kind (hold_at holds n) ≡ true) (eqb-true named id same) filed in
    let has = served pass of_kind (hold_at holds id) at_id in
    (has.0, has.1.0)

named-open : (pass : ℕ) (stream : Option ℕ) (it : Call) (file : Option File) (holds : List Hold) (id : ℕ) → IsFiled holds pass stream it file → names_it id it ≡ true → IsOpen holds id
named-open pass stream (call.PinMapped named exclusive) file holds id filed names = serves-open pass _ holds named id names filed
named-open pass stream (call.MappedRead named at len) file holds id filed names = serves-open pass _ holds named id names (served-range pass _ at len _ filed)
named-open pass stream (call.PinnedRead named at len) file holds id filed names = serves-open pass _ holds named id names (served-range pass _ at len _ filed)
named-open pass stream (call.PinnedWrite named at bytes) file holds id filed names = serves-open pass _ holds named id names (served-range pass _ at (length bytes) _ filed)
named-open pass stream (call.SetDirty named lsn) file holds id filed names = serves-open pass _ holds named id names filed
named-open pass stream (call.EndHold named) file holds id filed names = serves-open pass _ holds named id names filed
named-open pass stream (call.Repin named) file holds id filed names = serves-open pass _ holds named id names filed
named-open pass stream (call.MdlBytes named at len) file holds id filed names = serves-open pass _ holds named id names (served-range pass _ at len _ filed)
named-open pass stream (call.MdlStore named at bytes) file holds id filed names = serves-open pass _ holds named id names (served-range pass _ at (length bytes) _ filed)
named-open pass stream other file holds id filed names = absurd (cc)

open-here : (u : Setup) (past : List Entry) (s id : ℕ) (stream : Option ℕ) → IsLegal u past → IsOpen (holds_of (history past s)) id → IsOpen (holds_of (stream_history past stream)) id → stream ≡ Some s
open-here u past s id None legal here there = absurd (none-open id there)
open-here u past s id (Some t) legal here there = ap Some (ids-apart u past t s id legal there here)

-- a call that names a hold of its pass is filed under the stream of the hold
pub placed-here : (u : Setup) (me s id : ℕ) (hold : Hold) (it : Call) (ended : Outcome) (earlier old new : List Entry) (p : IsPlaced me it ended earlier old new) → IsGoodSoFar u new → names_it id it ≡ true → HasHold me s id hold old → p.stream ≡ Some s
placed-here u me s id hold it ended earlier old new p good names has =
    let front = front-keeps u me s id hold it ended earlier old new p good has in
    open-here u (earlier ++ old) s id p.stream (at-front u me it ended earlier old new p good).legal (hold, front.found)
    (named-open me p.stream it (file_of it) (holds_of (stream_history (earlier ++ old) p.stream)) id p.filed names)

-- a call that changes a hold names it
changes-names : (id : ℕ) (it : Call) → changes_it id it ≡ true → names_it id it ≡ true
changes-names id (call.PinMapped named exclusive) changes = changes
changes-names id (call.PinnedWrite named at bytes) changes = changes
changes-names id (call.SetDirty named lsn) changes = changes
changes-names id (call.EndHold named) changes = changes
changes-names id other changes = absurd (cc)

-- what a done call leaves of a hold
placed-changes : (u : Setup) (me s id : ℕ) (hold after : Hold) (it : Call) (r : Reply) (earlier old new : List Entry) → IsPlaced me it (outcome.Done r) earlier old new → IsGoodSoFar u new → hold_after id it hold ≡ Some after → HasHold me s id hold old → HasHold me s id after new
placed-changes u me s id hold after it r earlier old new p good is has =
    entry-on u me s id after it (outcome.Done r) earlier old new p good (by (changes_it id it) refl)
  where
    front : HasHold me s id hold (earlier ++ old)
    front = front-keeps u me s id hold it (outcome.Done r) earlier old new p good has

    at : IsGoodSoFar u (entry.Call me p.nth p.stream it (outcome.Done r) ∷ (earlier ++ old))
    at = at-entry u me it (outcome.Done r) earlier old new p good

    under : (stream : Option ℕ) → stream ≡ Some s → IsGoodSoFar u (entry.Call me p.nth stream it (outcome.Done r) ∷ (earlier ++ old)) → HasHold me s id after (entry.Call me p.nth stream it (outcome.Done r) ∷ (earlier ++ old))
    under None here good = absurd (cc)
    under (Some t) here good =
        let same : t ≡ s = cc in
        subst (λ n. HasHold me s id after (entry.Call me p.nth (Some n) it (outcome.Done r) ∷ (earlier ++ old))) (sym same)
        (done-changes u me s id hold after me p.nth it r (earlier ++ old) (subst (λ n. IsGoodSoFar u (entry.Call me p.nth (Some n) it (outcome.Done r) ∷ (earlier ++ old))) same good) front is)

    by : (b : Bool) → changes_it id it ≡ b → HasHold me s id after (entry.Call me p.nth p.stream it (outcome.Done r) ∷ (earlier ++ old))
    by true changes = under p.stream (placed-here u me s id hold it (outcome.Done r) earlier old new p good (changes-names id it changes) has) at
    by false kept =
        let same : Some hold ≡ Some after = sym (after-same id it hold kept) ∙ is in
        let one : hold ≡ after = cc in
        subst (λ h. HasHold me s id h (entry.Call me p.nth p.stream it (outcome.Done r) ∷ (earlier ++ old))) one
        (own-keeps u me s id hold _ (earlier ++ old) at kept front)

-- of the hold that it makes
placed-makes : (u : Setup) (me s : ℕ) (hold : Hold) (it : Call) (r : Reply) (earlier old new : List Entry) (p : IsPlaced me it (outcome.Done r) earlier old new) → IsGoodSoFar u new → p.stream ≡ Some s → hold_of_done_call (id_of r) me it (holds_of (history (earlier ++ old) s)) ≡ Some hold → HasHold me s (id_of r) hold new
placed-makes u me s hold it r earlier old new p good here makes =
    entry-on u me s (id_of r) hold it (outcome.Done r) earlier old new p good
    (subst (λ (o : Option ℕ). HasHold me s (id_of r) hold (entry.Call me p.nth o it (outcome.Done r) ∷ (earlier ++ old))) (sym here) (done-makes me s p.nth it r (earlier ++ old) hold makes))

placed-failed : (u : Setup) (me s id : ℕ) (hold : Hold) (it : Call) (e : CcError) (earlier old new : List Entry) → IsPlaced me it (outcome.Failed e) earlier old new → IsGoodSoFar u new → HasHold me s id hold old → HasHold me s id hold new
placed-failed u me s id hold it e earlier old new p good has =
    entry-on u me s id hold it (outcome.Failed e) earlier old new p good
    (own-keeps u me s id hold _ (earlier ++ old) (at-entry u me it (outcome.Failed e) earlier old new p good) refl (front-keeps u me s id hold it (outcome.Failed e) earlier old new p good has))

unplaced-keeps : (u : Setup) (me s id : ℕ) (hold : Hold) (it : Call) (e : CcError) (old new : List Entry) → IsUnplaced me it e old new → IsGoodSoFar u new → HasHold me s id hold old → HasHold me s id hold new
unplaced-keeps u me s id hold it e old new p good has =
    subst (HasHold me s id hold) (sym p.grew) (works-keep u me s id hold (Calls it) p.during old (subst (IsGoodSoFar u) p.grew good) p.works has)

-- a call that failed leaves each hold as it was
pub failed-keeps : (u : Setup) (me s id : ℕ) (hold : Hold) (it : Call) (e : CcError) (old new : List Entry) → CallLeft u me it (outcome.Failed e) old new → IsGoodSoFar u new → HasHold me s id hold old → HasHold me s id hold new
failed-keeps u me s id hold it (error.JournalFull entries) old new left good has = unplaced-keeps u me s id hold it _ old new left good has
failed-keeps u me s id hold it error.NoMemory old new left good has = unplaced-keeps u me s id hold it _ old new left good has
failed-keeps u me s id hold it e old new left good has =
    let p = placed-of u me it (outcome.Failed e) old new left refl in
    placed-failed u me s id hold it e p.0 old new p.1 good has

-- a done call makes of a hold what it makes of it
pub done-leaves : (u : Setup) (me s id : ℕ) (hold after : Hold) (it : Call) (r : Reply) (old new : List Entry) → CallLeft u me it (outcome.Done r) old new → IsGoodSoFar u new → hold_after id it hold ≡ Some after → HasHold me s id hold old → HasHold me s id after new
done-leaves u me s id hold after it r old new left good is has = placed-changes u me s id hold after it r left.earlier old new left.placed good is has

-- a call that does not change the hold leaves it, whatever it was answered
pub call-keeps : (u : Setup) (me s id : ℕ) (hold : Hold) (it : Call) (ended : Outcome) (old new : List Entry) → CallLeft u me it ended old new → IsGoodSoFar u new → changes_it id it ≡ false → HasHold me s id hold old → HasHold me s id hold new
call-keeps u me s id hold it (outcome.Done r) old new left good kept has = done-leaves u me s id hold hold it r old new left good (after-same id it hold kept) has
call-keeps u me s id hold it (outcome.Failed e) old new left good kept has = failed-keeps u me s id hold it e old new left good has

-- a map that is pinned
pub pin_mapped-leaves : (u : Setup) (me s id : ℕ) (hold : Hold) (exclusive : Bool) (r : Reply) (old new : List Entry) → CallLeft u me (call.PinMapped id exclusive) (outcome.Done r) old new → IsGoodSoFar u new → HasHold me s id hold old → HasHold me s id (record hold { kind = kind.Pin; exclusive = exclusive }) new
pin_mapped-leaves u me s id hold exclusive r old new left good has =
    done-leaves u me s id hold _ (call.PinMapped id exclusive) r old new left good (rw (eq-eqb id id refl) refl) has

-- a pinned write and a set-dirty that are done
pub pinned_write-done : (u : Setup) (me s id : ℕ) (hold : Hold) (at : ℕ) (bytes : List ℕ) (r : Reply) (old new : List Entry) → CallLeft u me (call.PinnedWrite id at bytes) (outcome.Done r) old new → IsGoodSoFar u new → HasHold me s id hold old → HasHold me s id (record hold { owed = record { from = at; to = at + length bytes } ∷ hold.owed }) new
pinned_write-done u me s id hold at bytes r old new left good has =
    done-leaves u me s id hold _ (call.PinnedWrite id at bytes) r old new left good (rw (eq-eqb id id refl) refl) has

pub set_dirty-done : (u : Setup) (me s id : ℕ) (hold : Hold) (lsn : Option ℕ) (r : Reply) (old new : List Entry) → CallLeft u me (call.SetDirty id lsn) (outcome.Done r) old new → IsGoodSoFar u new → HasHold me s id hold old → HasHold me s id (record hold { owed = [] }) new
set_dirty-done u me s id hold lsn r old new left good has =
    done-leaves u me s id hold _ (call.SetDirty id lsn) r old new left good (rw (eq-eqb id id refl) refl) has

-- done or failed, they change what the hold owes alone
pub pinned_write-leaves : (u : Setup) (me s id : ℕ) (hold : Hold) (at : ℕ) (bytes : List ℕ) (ended : Outcome) (old new : List Entry) → CallLeft u me (call.PinnedWrite id at bytes) ended old new → IsGoodSoFar u new → HasHold me s id hold old → (owed : List Range) × HasHold me s id (record hold { owed = owed }) new
pinned_write-leaves u me s id hold at bytes (outcome.Done r) old new left good has = (_, pinned_write-done u me s id hold at bytes r old new left good has)
pinned_write-leaves u me s id hold at bytes (outcome.Failed e) old new left good has = (hold.owed, failed-keeps u me s id hold (call.PinnedWrite id at bytes) e old new left good has)

pub set_dirty-leaves : (u : Setup) (me s id : ℕ) (hold : Hold) (lsn : Option ℕ) (ended : Outcome) (old new : List Entry) → CallLeft u me (call.SetDirty id lsn) ended old new → IsGoodSoFar u new → HasHold me s id hold old → (owed : List Range) × HasHold me s id (record hold { owed = owed }) new
set_dirty-leaves u me s id hold lsn (outcome.Done r) old new left good has = ([], set_dirty-done u me s id hold lsn r old new left good has)
set_dirty-leaves u me s id hold lsn (outcome.Failed e) old new left good has = (hold.owed, failed-keeps u me s id hold (call.SetDirty id lsn) e old new left good has)

-- a call that names a file is filed under its stream
pub filed-stream : (holds : List Hold) (pass : ℕ) (stream : Option ℕ) (it : Call) (file : File) → file_of it ≡ Some file → IsFiled holds pass stream it (file_of it) → stream ≡ Some file.stream
filed-stream holds pass stream (call.PinMapped named exclusive) file is filed = absurd (cc)
filed-stream holds pass stream (call.MappedRead named at len) file is filed = absurd (cc)
filed-stream holds pass stream (call.PinnedRead named at len) file is filed = absurd (cc)
filed-stream holds pass stream (call.PinnedWrite named at bytes) file is filed = absurd (cc)
filed-stream holds pass stream (call.SetDirty named lsn) file is filed = absurd (cc)
filed-stream holds pass stream (call.EndHold named) file is filed = absurd (cc)
filed-stream holds pass stream (call.Repin named) file is filed = absurd (cc)
filed-stream holds pass stream (call.MdlBytes named at len) file is filed = absurd (cc)
filed-stream holds pass stream (call.MdlStore named at bytes) file is filed = absurd (cc)
filed-stream holds pass stream (call.Query asked) file is filed = subst (λ (named : Option File). IsFiled holds pass stream (call.Query asked) named) is filed
filed-stream holds pass stream other file is filed = filed ∙ ap Some (ap (λ (f : File). f.stream) (some-is _ file is))

-- the hold that a done call makes that names a file, whatever is open
made-anyhow : (id pass : ℕ) (it : Call) (file : File) (holds : List Hold) → file_of it ≡ Some file → hold_of_done_call id pass it holds ≡ hold_of_done_call id pass it []
made-anyhow id pass (call.PreparePin named at len true exclusive) file holds is = refl
made-anyhow id pass (call.PreparePin named at len false exclusive) file holds is = refl
made-anyhow id pass (call.Repin named) file holds is = absurd (cc)
made-anyhow id pass other file holds is = refl

pub made-leaves : (u : Setup) (me : ℕ) (file : File) (hold : Hold) (it : Call) (r : Reply) (old new : List Entry) → CallLeft u me it (outcome.Done r) old new → IsGoodSoFar u new → file_of it ≡ Some file → hold_of_done_call (id_of r) me it [] ≡ Some hold → HasHold me file.stream (id_of r) hold new
made-leaves u me file hold it r old new left good is makes =
    placed-makes u me file.stream hold it r left.earlier old new left.placed good (filed-stream _ me left.placed.stream it file is left.placed.filed) (made-anyhow (id_of r) me it file _ is ∙ makes)

-- each of them
pub map-leaves : (u : Setup) (me n : ℕ) (file : File) (at len : ℕ) (old new : List Entry) → CallLeft u me (call.Map file at len) (outcome.Done (reply.Hold n)) old new → IsGoodSoFar u new → HasHold me file.stream n (hold_of_range n me file at len kind.Map false []) new
map-leaves u me n file at len old new left good = placed-makes u me file.stream _ (call.Map file at len) (reply.Hold n) left.earlier old new left.placed good left.placed.filed refl

pub pin_read-leaves : (u : Setup) (me n : ℕ) (file : File) (at len : ℕ) (exclusive : Bool) (old new : List Entry) → CallLeft u me (call.PinRead file at len exclusive) (outcome.Done (reply.Hold n)) old new → IsGoodSoFar u new → HasHold me file.stream n (hold_of_range n me file at len kind.Pin exclusive []) new
pin_read-leaves u me n file at len exclusive old new left good = placed-makes u me file.stream _ (call.PinRead file at len exclusive) (reply.Hold n) left.earlier old new left.placed good left.placed.filed refl

pub prepare_zeroed-leaves : (u : Setup) (me n : ℕ) (file : File) (at len : ℕ) (exclusive : Bool) (old new : List Entry) → CallLeft u me (call.PreparePin file at len true exclusive) (outcome.Done (reply.Hold n)) old new → IsGoodSoFar u new → HasHold me file.stream n (hold_of_range n me file at len kind.Pin exclusive (record { from = at; to = at + len } ∷ [])) new
prepare_zeroed-leaves u me n file at len exclusive old new left good = placed-makes u me file.stream _ (call.PreparePin file at len true exclusive) (reply.Hold n) left.earlier old new left.placed good left.placed.filed refl

pub prepare-leaves : (u : Setup) (me n : ℕ) (file : File) (at len : ℕ) (exclusive : Bool) (old new : List Entry) → CallLeft u me (call.PreparePin file at len false exclusive) (outcome.Done (reply.Hold n)) old new → IsGoodSoFar u new → HasHold me file.stream n (hold_of_range n me file at len kind.Pin exclusive []) new
prepare-leaves u me n file at len exclusive old new left good = placed-makes u me file.stream _ (call.PreparePin file at len false exclusive) (reply.Hold n) left.earlier old new left.placed good left.placed.filed refl

pub mdl_read-leaves : (u : Setup) (me n : ℕ) (file : File) (at len : ℕ) (old new : List Entry) → CallLeft u me (call.MdlRead file at len) (outcome.Done (reply.Hold n)) old new → IsGoodSoFar u new → HasHold me file.stream n (hold_of_range n me file at len kind.ReadChain false []) new
mdl_read-leaves u me n file at len old new left good = placed-makes u me file.stream _ (call.MdlRead file at len) (reply.Hold n) left.earlier old new left.placed good left.placed.filed refl

pub mdl_write-leaves : (u : Setup) (me n : ℕ) (file : File) (at len : ℕ) (old new : List Entry) → CallLeft u me (call.MdlWrite file at len) (outcome.Done (reply.Hold n)) old new → IsGoodSoFar u new → HasHold me file.stream n (hold_of_range n me file at len kind.WriteChain false []) new
mdl_write-leaves u me n file at len old new left good = placed-makes u me file.stream _ (call.MdlWrite file at len) (reply.Hold n) left.earlier old new left.placed good left.placed.filed refl

pub repin-leaves : (u : Setup) (me s n id : ℕ) (hold : Hold) (old new : List Entry) → CallLeft u me (call.Repin id) (outcome.Done (reply.Hold n)) old new → IsGoodSoFar u new → HasHold me s id hold old → HasHold me s n (hold_of_range n me hold.file hold.at hold.len kind.Repin false []) new
repin-leaves u me s n id hold old new left good has =
    let here = placed-here u me s id hold (call.Repin id) _ left.earlier old new left.placed good (eq-eqb id id refl) has in
    let front = front-keeps u me s id hold (call.Repin id) _ left.earlier old new left.placed good has in
    placed-makes u me s _ (call.Repin id) (reply.Hold n) left.earlier old new left.placed good here
    (ap (option_map (λ (it : Hold). hold_of_range n me it.file it.at it.len kind.Repin false [])) front.found)

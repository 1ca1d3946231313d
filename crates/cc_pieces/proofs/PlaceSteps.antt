-- The place of a pass at the read-ahead queue, line by line: what one line leaves there and in the journal, several lines after
-- one another, and what follows for a whole run.
use Rattle.std.specs.Prelude.{◌≡◌, ℕ, zero, suc, ◌+◌, ◌-◌, ◌^◌, ◌≤◌, Bool, true, false, ◌||◌, min, List, [], ◌∷◌, ◌++◌, length, reverse, cond, refl, ◌⊎◌, if◌then◌else◌, IfSome}
use Rattle.std.specs.declared.option.Option.{Option}
use Rattle.std.specs.declared.option.Option.TheVariants.{Some, None}
use Rattle.std.specs.List.{count_by}
use Rattle.std.proofs.Common.{sym, ap, arith, ◌∙◌, inl, inr, append_assoc, eq-eqb}
use Rattle.std.proofs.lemmas.List.{append-nil, length-append, reverse-append}
use Rattle.std.proofs.lemmas.List.Sums.{count_by-le-length, sum_by-append}
use Rattle.cc_entry.specs.Queries.{file_of_query}
use Rattle.cc_entry.specs.Place.{File}
use Rattle.cc_entry.specs.declared.answer.Answer.{Answer}
use Rattle.cc_entry.specs.declared.answer.Answer.TheVariants as answer
use Rattle.cc_entry.specs.declared.call.Call.{Call}
use Rattle.cc_entry.specs.declared.call.Call.TheVariants as call
use Rattle.cc_entry.specs.declared.entry.Entry.{Entry}
use Rattle.cc_entry.specs.declared.entry.Entry.TheVariants as entry
use Rattle.cc_entry.specs.declared.error.CcError.{CcError}
use Rattle.cc_entry.specs.declared.error.CcError.TheVariants as error
use Rattle.cc_entry.specs.declared.place.Request.{Request}
use Rattle.cc_entry.specs.declared.reply.Outcome.{Outcome}
use Rattle.cc_entry.specs.declared.reply.Outcome.TheVariants as outcome
use Rattle.cc_entry.specs.declared.reply.Reply.TheVariants as reply
use Rattle.cc_script.specs.declared.script.Action.{Action}
use Rattle.cc_script.specs.declared.script.Action.TheVariants as action
use Rattle.cc_model.specs.Passes.{is_mine}
use Rattle.cc_model.specs.Setup.{Setup}
use Rattle.cc_effects.specs.Asked.{Calls, Work, Writes}
use Rattle.cc_effects.specs.Calls.{CallLeft, IsOvertaken, IsPlaced, IsRefused}
use Rattle.cc_effects.specs.Moments.{EachOwn, IsIdle, own}
use Rattle.cc_effects.specs.Places.{MayPlace, Works}
use Rattle.cc_effects.proofs.Stretches.{each-implies, grew-after, own-append, own-others}
use Rattle.cc_pieces.specs.Answered.{AheadAnswered, CallAnswered}
use Rattle.cc_pieces.specs.Bindings.{Binding}
use Rattle.cc_pieces.specs.Explained.{Answered, GivenToRun}
use Rattle.cc_pieces.specs.Phases.{read_ahead_worker}
use Rattle.cc_pieces.specs.Queue.{AreAmong, AskPlaced, RequestsAreQueued, PlaceRan, AheadQueuePlace, AheadStepPlaced, answers_to, fulls_told, is_ask, is_none_stepped, is_queue_action, is_queue_call, is_queue_full, is_step, lines_told, nones, requests_asked, requests_served, risen_by, steps_told, with_asked, with_served}
use Rattle.cc_pieces.specs.Served.{Served}
use Rattle.cc_pieces.proofs.Walks.{IsActionOn, Keeps, Walked, walk-served}

-- an entry is of no call at the queue
abbrev pub is_calm : Entry → Bool
is_calm (entry.Call pass nth stream it ended) = if is_queue_call it then false else true
is_calm other = true

abbrev IsCalm : List Entry → Entry → Type 0
IsCalm past e = is_calm e ≡ true

calm-call : (it : Call) → is_queue_call it ≡ false → (if is_queue_call it then false else true) ≡ true
calm-call it plain = rw plain refl

calm-work : (me : ℕ) (work : Work) (old past : List Entry) (e : Entry) → MayPlace me work old past e → IsCalm past e
calm-work me work old past (entry.Call pass nth stream it ended) may = absurd may
calm-work me work old past other may = refl

calm-works : (me : ℕ) (work : Work) (during old : List Entry) → Works me work during old → EachOwn me IsCalm during old
calm-works me work during old works = each-implies me (MayPlace me work old) IsCalm (calm-work me work old) during old works.each

keeps-calm : (u : Setup) (me : ℕ) → Keeps u IsCalm (λ past it. is_queue_call it ≡ false) (λ file. Unit {0}) me
keeps-calm u me = record {
  works = λ it during old fits works. calm-works me (Calls it) during old works;
  writes = λ pages during old works. calm-works me (Writes pages) during old works;
  called = λ it ended nth stream earlier old fits filed. calm-call it fits;
  on_file = λ it file old on is plain. plain;
  on_none = λ it old is plain. plain;
  on_hold = λ id nth stream ended hold span later front found. refl;
  stored = λ it file nth r past on is plain. calm-call it plain;
  refused = λ it nth s e past plain. calm-call it plain;
  begun = λ file page past on. refl;
  ended = λ file page end past on. refl;
  recorded = λ file size valid end past on. refl;
  synced = λ file end past on. refl;
  out = λ file page past on. refl;
  scanned = λ picked past. refl;
  appended = λ handle lsn bytes past. refl;
  flushed = λ handle to past. refl;
  log_failed = λ handle past low. refl;
  locked = λ file range exclusive granted id past. refl;
  unlocked = λ file id gone past. refl;
  tested = λ file range write conflict past. refl;
  deferred = λ id file pages retrying past. refl;
}

on-any : (asked : Action) → IsActionOn (λ file. Unit {0}) asked
on-any (action.Initialise file sizes quota temporary) = tt
on-any (action.Uninitialise file truncate) = tt
on-any (action.CopyRead file at len wait) = tt
on-any (action.CopyWrite file at bytes) = tt
on-any (action.Zero file span) = tt
on-any (action.Map file at len word) = tt
on-any (action.PinRead file at len word exclusive) = tt
on-any (action.PreparePin file at len word zeroed exclusive) = tt
on-any (action.MdlRead file at len word) = tt
on-any (action.MdlWrite file at len word) = tt
on-any (action.NcRead file at len) = tt
on-any (action.NcWrite file at bytes) = tt
on-any (action.Read file path at len) = tt
on-any (action.Write file at bytes) = tt
on-any (action.Update file at bytes) = tt
on-any (action.Lock file span exclusive) = tt
on-any (action.Unlock file id) = tt
on-any (action.Levels file) = tt
on-any (action.Settle file) = tt
on-any (action.Checkpoint streams handle) = λ s low. tt
on-any (action.SetSizes file allocation size) = tt
on-any (action.Query asked) = by (file_of_query asked)
  where
    by : (named : Option File) → IfSome named (λ file. Unit {0})
    by None = tt
    by (Some file) = tt
on-any (action.Flush file span) = tt
on-any (action.Purge file span) = tt
on-any (action.Discard file span) = tt
on-any (action.SetLog file handle) = tt
on-any (action.SetGranularity file bytes) = tt
on-any (action.SetAttributes file ahead behind) = tt
on-any (action.SetThreshold file pages) = tt
on-any (action.Defer file bytes retrying) = tt
on-any (action.AskAhead file at len) = tt
on-any (action.AsyncRead file at len) = tt
on-any action.Complete = λ file. tt
on-any other = tt

-- the requests of a stretch behind another
asked-more : (e : Entry) (xs : List Request) → with_asked e xs ≡ with_asked e [] ++ xs
asked-more (entry.Call pass nth stream (call.AskAhead file at len) (outcome.Done (reply.Ahead (Some request)))) xs = refl
asked-more (entry.Call pass nth stream (call.AskAhead file at len) (outcome.Done (reply.Ahead None))) xs = refl
asked-more (entry.Call pass nth stream (call.AskAhead file at len) (outcome.Done other)) xs = refl
asked-more (entry.Call pass nth stream (call.AskAhead file at len) (outcome.Failed e)) xs = refl
asked-more (entry.Call pass nth stream it ended) xs = refl
asked-more other xs = refl

served-more : (e : Entry) (xs : List Request) → with_served e xs ≡ with_served e [] ++ xs
served-more (entry.Call pass nth stream (call.AheadStep request) ended) xs = refl
served-more (entry.Call pass nth stream it ended) xs = refl
served-more other xs = refl

asked-append : (xs ys : List Entry) → requests_asked (xs ++ ys) ≡ requests_asked xs ++ requests_asked ys
asked-append [] ys = refl
asked-append (e ∷ xs) ys =
    ap (with_asked e) (asked-append xs ys)
    ∙ (asked-more e (requests_asked xs ++ requests_asked ys)
    ∙ (sym (append_assoc (with_asked e []) (requests_asked xs) (requests_asked ys)) ∙ ap (λ l. l ++ requests_asked ys) (sym (asked-more e (requests_asked xs)))))

served-append : (xs ys : List Entry) → requests_served (xs ++ ys) ≡ requests_served xs ++ requests_served ys
served-append [] ys = refl
served-append (e ∷ xs) ys =
    ap (with_served e) (served-append xs ys)
    ∙ (served-more e (requests_served xs ++ requests_served ys)
    ∙ (sym (append_assoc (with_served e []) (requests_served xs) (requests_served ys)) ∙ ap (λ l. l ++ requests_served ys) (sym (served-more e (requests_served xs)))))

-- an entry of no call at the queue has none
calm-asks : (e : Entry) (xs : List Request) → is_calm e ≡ true → with_asked e xs ≡ xs
calm-asks (entry.Call pass nth stream (call.AskAhead file at len) ended) xs calm = absurd (cc calm)
calm-asks (entry.Call pass nth stream (call.AheadStep request) ended) xs calm = absurd (cc calm)
calm-asks (entry.Call pass nth stream it ended) xs calm = refl
calm-asks other xs calm = refl

calm-serves : (e : Entry) (xs : List Request) → is_calm e ≡ true → with_served e xs ≡ xs
calm-serves (entry.Call pass nth stream (call.AskAhead file at len) ended) xs calm = absurd (cc calm)
calm-serves (entry.Call pass nth stream (call.AheadStep request) ended) xs calm = absurd (cc calm)
calm-serves (entry.Call pass nth stream it ended) xs calm = refl
calm-serves other xs calm = refl

calm-own : (me : ℕ) (during old : List Entry) → EachOwn me IsCalm during old → (requests_asked (own me during) ≡ []) × (requests_served (own me during) ≡ [])
calm-own me [] old each = (refl, refl)
calm-own me (e ∷ during) old each = by (is_mine me e) refl (calm-own me during old each.1)
  where
    by : (b : Bool) → is_mine me e ≡ b → (requests_asked (own me during) ≡ []) × (requests_served (own me during) ≡ []) → (requests_asked (cond b (e ∷ own me during) (own me during)) ≡ []) × (requests_served (cond b (e ∷ own me during) (own me during)) ≡ [])
    by true mine rest = (calm-asks e (requests_asked (own me during)) (each.0 mine) ∙ rest.0, calm-serves e (requests_served (own me during)) (each.0 mine) ∙ rest.1)
    by false mine rest = rest

-- what a pass does at its place that has nothing to do with the queue
place-calm : (me : ℕ) (lines : List (Action × Answer)) (place : AheadQueuePlace) (old new : List Entry) → Walked IsCalm me old new → answers_to is_step lines ≡ [] → answers_to is_ask lines ≡ [] → PlaceRan me lines place place old new
place-calm me lines place old new walked no_step no_ask =
    let none = calm-own me walked.during old walked.each in
    record {
      during = walked.during;
      grew = walked.grew;
      pushed = rw none.0 (sym (append-nil place.pushed));
      taken = [];
      took = sym (append-nil place.taken);
      counted = rw no_step refl;
      served = rw none.1 tt;
      empties = rw no_step refl;
      fulls = rw no_ask refl;
    }

-- others went on
pub place-idle : (me : ℕ) (place : AheadQueuePlace) (old new : List Entry) → IsIdle me old new → PlaceRan me [] place place old new
place-idle me place old new idle = record {
  during = idle.during;
  grew = idle.grew;
  pushed = rw (own-others me idle.during idle.others) (sym (append-nil place.pushed));
  taken = [];
  took = sym (append-nil place.taken);
  counted = refl;
  served = rw (own-others me idle.during idle.others) tt;
  empties = refl;
  fulls = refl;
}

among-append : (xs ys others more : List Request) → AreAmong xs others → AreAmong ys more → AreAmong (xs ++ ys) (others ++ more)
among-append [] [] others more first second = tt
among-append [] (y ∷ ys) [] more first second = second
among-append [] (y ∷ ys) (o ∷ others) more first second = inr (among-append [] (y ∷ ys) others more tt second)
among-append (x ∷ xs) ys [] more first second = absurd first
among-append (x ∷ xs) ys (o ∷ others) more (inl found) second = inl (found.0, among-append xs ys others more found.1 second)
among-append (x ∷ xs) ys (o ∷ others) more (inr later) second = inr (among-append (x ∷ xs) ys others more later second)

answers-append : (test : Action → Bool) (first rest : List (Action × Answer)) → answers_to test (first ++ rest) ≡ answers_to test first ++ answers_to test rest
answers-append test [] rest = refl
answers-append test (line ∷ first) rest = by (test line.0) (answers-append test first rest)
  where
    by : (b : Bool) → answers_to test (first ++ rest) ≡ answers_to test first ++ answers_to test rest → (if b then line.1 ∷ answers_to test (first ++ rest) else answers_to test (first ++ rest)) ≡ (if b then line.1 ∷ answers_to test first else answers_to test first) ++ answers_to test rest
    by true same = ap (λ l. line.1 ∷ l) same
    by false same = same

counted-append : (test : Answer → Bool) (xs ys : List Answer) → count_by test (xs ++ ys) ≡ count_by test xs + count_by test ys
counted-append test xs ys = sum_by-append (λ x. cond (test x) 1 0) xs ys

risen-twice : (count a b : ℕ) → risen_by (risen_by count a) b ≡ risen_by count (b + a)
risen-twice count a zero = let same : 0 + a ≡ a = omega arith in ap (risen_by count) (sym same)
risen-twice count a (suc b) =
    let next : suc b + a ≡ suc (b + a) = omega arith in
    ap (λ n. min (suc n) (2 ^ 64 - 1)) (risen-twice count a b) ∙ ap (risen_by count) (sym next)

pub risen-sum : (first between last a b : ℕ) → between ≡ risen_by first a → last ≡ risen_by between b → last ≡ risen_by first (a + b)
risen-sum first between last a b one two =
    let swapped : b + a ≡ a + b = omega arith in
    two ∙ (ap (λ n. risen_by n b) one ∙ (risen-twice first a b ∙ ap (risen_by first) swapped))

-- lines after lines
pub place-then : (me : ℕ) (first rest : List (Action × Answer)) (before mid after : AheadQueuePlace) (old between new : List Entry) → PlaceRan me first before mid old between → PlaceRan me rest mid after between new → PlaceRan me (first ++ rest) before after old new
place-then me first rest before mid after old between new one two = record {
  during = two.during ++ one.during;
  grew = grew-after two.during one.during old between new two.grew one.grew;
  pushed =
      two.pushed
      ∙ (ap (λ l. l ++ reverse (requests_asked (own me two.during))) one.pushed
      ∙ (append_assoc before.pushed (reverse (requests_asked (own me one.during))) (reverse (requests_asked (own me two.during)))
      ∙ ap (λ l. before.pushed ++ l) (sym asked)));
  taken = one.taken ++ two.taken;
  took = two.took ∙ (ap (λ l. l ++ two.taken) one.took ∙ append_assoc before.taken one.taken two.taken);
  counted =
      rw (answers-append is_step first rest, length-append one.taken two.taken, counted-append is_none_stepped (answers_to is_step first) (answers_to is_step rest), length-append (answers_to is_step first) (answers_to is_step rest))
      (omega (arith, one.counted, two.counted));
  served =
      rw served (among-append (reverse (requests_served (own me one.during))) (reverse (requests_served (own me two.during))) one.taken two.taken one.served two.served);
  empties =
      rw (answers-append is_step first rest, counted-append is_none_stepped (answers_to is_step first) (answers_to is_step rest))
      (risen-sum before.empties mid.empties after.empties (nones (answers_to is_step first)) (nones (answers_to is_step rest)) one.empties two.empties);
  fulls =
      rw (answers-append is_ask first rest, counted-append is_queue_full (answers_to is_ask first) (answers_to is_ask rest))
      (risen-sum before.fulls mid.fulls after.fulls (fulls_told (answers_to is_ask first)) (fulls_told (answers_to is_ask rest)) one.fulls two.fulls);
}
  where
    asked : reverse (requests_asked (own me (two.during ++ one.during))) ≡ reverse (requests_asked (own me one.during)) ++ reverse (requests_asked (own me two.during))
    asked =
        ap (λ l. reverse (requests_asked l)) (own-append me two.during one.during)
        ∙ (ap reverse (asked-append (own me two.during) (own me one.during)) ∙ reverse-append (requests_asked (own me two.during)) (requests_asked (own me one.during)))

    served : reverse (requests_served (own me (two.during ++ one.during))) ≡ reverse (requests_served (own me one.during)) ++ reverse (requests_served (own me two.during))
    served =
        ap (λ l. reverse (requests_served l)) (own-append me two.during one.during)
        ∙ (ap reverse (served-append (own me two.during) (own me one.during)) ∙ reverse-append (requests_served (own me two.during)) (requests_served (own me one.during)))

-- a line that is none of the queue leaves the place as it is
pub place-other : (u : Setup) (me : ℕ) (bindings : List Binding) (asked : Action) (told : Answer) (place : AheadQueuePlace) (old new : List Entry) → is_queue_action asked ≡ false → Served u me bindings asked told old new → PlaceRan me ((asked, told) ∷ []) place place old new
place-other u me bindings asked told place old new plain left =
    let tests = or_parts (is_ask asked) (is_step asked) plain in
    place-calm me ((asked, told) ∷ []) place old new
    (walk-served u _ _ _ (keeps-calm u) me bindings asked told old new plain (on-any asked) left)
    (rw tests.1 refl) (rw tests.0 refl)
  where
    or_parts : (a b : Bool) → (a || b) ≡ false → (a ≡ false) × (b ≡ false)
    or_parts true b is = absurd (cc is)
    or_parts false b is = (refl, is)

-- the entry of a call, behind what the call placed
placed-own : (me : ℕ) (it : Call) (ended : Outcome) (earlier old new : List Entry) (p : IsPlaced me it ended earlier old new) → own me (p.later ++ (entry.Call me p.nth p.stream it ended ∷ earlier)) ≡ entry.Call me p.nth p.stream it ended ∷ own me earlier
placed-own me it ended earlier old new p =
    own-append me p.later (entry.Call me p.nth p.stream it ended ∷ earlier)
    ∙ rw (own-others me p.later p.quiet, eq-eqb me me refl) refl

-- what an entry of its own is to its call at the queue
placed-asks : (me : ℕ) (it : Call) (ended : Outcome) (earlier old new : List Entry) (p : IsPlaced me it ended earlier old new) → (requests_asked (own me (p.later ++ (entry.Call me p.nth p.stream it ended ∷ earlier))) ≡ with_asked (entry.Call me p.nth p.stream it ended) []) × (requests_served (own me (p.later ++ (entry.Call me p.nth p.stream it ended ∷ earlier))) ≡ with_served (entry.Call me p.nth p.stream it ended) [])
placed-asks me it ended earlier old new p =
    let none = calm-own me earlier old (calm-works me (Calls it) earlier old p.works) in (
      ap requests_asked (placed-own me it ended earlier old new p) ∙ ap (with_asked (entry.Call me p.nth p.stream it ended)) none.0,
      ap requests_served (placed-own me it ended earlier old new p) ∙ ap (with_served (entry.Call me p.nth p.stream it ended)) none.1,
    )

-- What a call at the queue left there: requests that its entry answers, and those that it served, where it has an entry.
record QueueLeft (me : ℕ) (it : Call) (ended : Outcome) (old new : List Entry) : Type 0 where
  during : List Entry
  grew : new ≡ during ++ old
  nth : ℕ
  stream : Option ℕ
  asks : requests_asked (own me during) ≡ with_asked (entry.Call me nth stream it ended) []
  serves : (requests_served (own me during) ≡ with_served (entry.Call me nth stream it ended) []) ⊎ (requests_served (own me during) ≡ [])

queue-placed : (me : ℕ) (it : Call) (ended : Outcome) (earlier old new : List Entry) → IsPlaced me it ended earlier old new → QueueLeft me it ended old new
queue-placed me it ended earlier old new p =
    let has = placed-asks me it ended earlier old new p in
    record {
      during = p.later ++ (entry.Call me p.nth p.stream it ended ∷ earlier);
      grew = p.grew ∙ sym (append_assoc p.later (entry.Call me p.nth p.stream it ended ∷ earlier) old);
      nth = p.nth;
      stream = p.stream;
      asks = has.0;
      serves = inl has.1;
    }

-- a call that was refused asked for nothing
refused-asks : (me nth : ℕ) (stream : Option ℕ) (it : Call) (e : CcError) → with_asked (entry.Call me nth stream it (outcome.Failed e)) [] ≡ []
refused-asks me nth stream (call.AskAhead file at len) e = refl
refused-asks me nth stream it e = refl

queue-unplaced : (me : ℕ) (it : Call) (e : CcError) (during old new : List Entry) → new ≡ during ++ old → Works me (Calls it) during old → QueueLeft me it (outcome.Failed e) old new
queue-unplaced me it e during old new grew works =
    let none = calm-own me during old (calm-works me (Calls it) during old works) in
    record {
      during = during;
      grew = grew;
      nth = 0;
      stream = None;
      asks = none.0 ∙ sym (refused-asks me 0 None it e);
      serves = inr none.1;
    }

queue-left : (u : Setup) (me : ℕ) (it : Call) (ended : Outcome) (old new : List Entry) → CallLeft u me it ended old new → QueueLeft me it ended old new
queue-left u me it (outcome.Done r) old new left = queue-placed me it (outcome.Done r) left.earlier old new left.placed
queue-left u me it (outcome.Failed (error.JournalFull entries)) old new left = queue-unplaced me it (error.JournalFull entries) left.during old new left.grew left.works
queue-left u me it (outcome.Failed error.NoMemory) old new left = queue-unplaced me it error.NoMemory left.during old new left.grew left.works
queue-left u me it (outcome.Failed (error.ReadFault page)) old new left = queue-placed me it _ left.earlier old new left.placed
queue-left u me it (outcome.Failed (error.WriteFault page)) old new left = queue-placed me it _ left.earlier old new left.placed
queue-left u me it (outcome.Failed (error.LogFault handle)) old new left = queue-placed me it _ left.earlier old new left.placed
queue-left u me it (outcome.Failed e) old new left = by e left
  where
    by : (e : CcError) → IsRefused me it e old new ⊎ IsOvertaken u me it e old new → QueueLeft me it (outcome.Failed e) old new
    by e (inl is) = queue-placed me it (outcome.Failed e) is.earlier old new is.placed
    by e (inr is) = queue-placed me it (outcome.Failed e) is.earlier old new is.placed

-- what a call for read-ahead asks, by its outcome
abbrev asked_in : Outcome → List Request
asked_in (outcome.Done (reply.Ahead (Some request))) = request ∷ []
asked_in other = []

asks-in : (me nth : ℕ) (stream : Option ℕ) (file : File) (at len : ℕ) (ended : Outcome) → with_asked (entry.Call me nth stream (call.AskAhead file at len) ended) [] ≡ asked_in ended
asks-in me nth stream file at len (outcome.Done (reply.Ahead (Some request))) = refl
asks-in me nth stream file at len (outcome.Done (reply.Ahead None)) = refl
asks-in me nth stream file at len (outcome.Done other) = refl
asks-in me nth stream file at len (outcome.Failed e) = refl

no-serves : (xs : List Request) → (xs ≡ []) ⊎ (xs ≡ []) → xs ≡ []
no-serves xs (inl none) = none
no-serves xs (inr none) = none

-- a line that asks for read-ahead
module _ (u : Setup) (me : ℕ) (file : File) (at len : ℕ) (before after : AheadQueuePlace) (old new : List Entry) where
  abbrev asked_line : Answer → List (Action × Answer)
  asked_line told = (action.AskAhead file at len, told) ∷ []

  ask-left : (told : Answer) (ended : Outcome) → CallLeft u me (call.AskAhead file at len) ended old new → after.pushed ≡ before.pushed ++ reverse (asked_in ended) → after.taken ≡ before.taken → after.empties ≡ before.empties → after.fulls ≡ risen_by before.fulls (fulls_told (told ∷ [])) → PlaceRan me (asked_line told) before after old new
  ask-left told ended left pushed taken empties fulls =
      let q = queue-left u me (call.AskAhead file at len) ended old new left in
      let none : requests_served (own me q.during) ≡ [] = no-serves (requests_served (own me q.during)) q.serves in
      record {
        during = q.during;
        grew = q.grew;
        pushed = pushed ∙ ap (λ l. before.pushed ++ reverse l) (sym (q.asks ∙ asks-in me q.nth q.stream file at len ended));
        taken = [];
        took = taken ∙ sym (append-nil before.taken);
        counted = refl;
        served = rw none tt;
        empties = empties;
        fulls = fulls;
      }

  same-place : (told : Answer) (ended : Outcome) → CallLeft u me (call.AskAhead file at len) ended old new → asked_in ended ≡ [] → is_queue_full told ≡ false → after ≡ before → PlaceRan me (asked_line told) before after old new
  same-place told ended left none calm same =
      ask-left told ended left (ap (λ p. p.pushed) same ∙ (sym (append-nil before.pushed) ∙ ap (λ l. before.pushed ++ reverse l) (sym none)))
      (ap (λ p. p.taken) same) (ap (λ p. p.empties) same) (rw calm (ap (λ p. p.fulls) same))

  pub place-asked : (told : Answer) → CallAnswered u me (call.AskAhead file at len) told old new → AskPlaced told before after → PlaceRan me (asked_line told) before after old new
  place-asked (answer.Given (reply.Ahead (Some request))) left placed =
      ask-left (answer.Given (reply.Ahead (Some request))) (outcome.Done (reply.Ahead (Some request))) left (ap (λ p. p.pushed) placed) (ap (λ p. p.taken) placed) (ap (λ p. p.empties) placed) (ap (λ p. p.fulls) placed)
  place-asked (answer.Given (reply.Ahead None)) left placed = same-place (answer.Given (reply.Ahead None)) (outcome.Done (reply.Ahead None)) left refl refl placed
  place-asked (answer.Given r) left placed = same-place (answer.Given r) (outcome.Done r) left refl refl placed
  place-asked (answer.Refused error.QueueFull) left placed =
      ask-left (answer.Refused error.QueueFull) (outcome.Failed error.QueueFull) left (ap (λ p. p.pushed) placed ∙ sym (append-nil before.pushed)) (ap (λ p. p.taken) placed)
      (ap (λ p. p.empties) placed) (ap (λ p. p.fulls) placed)
  place-asked (answer.Refused e) left placed = same-place (answer.Refused e) (outcome.Failed e) left refl refl placed
  place-asked other left placed = absurd left

-- a read-ahead step, of a caller's line or of the worker
module _ (u : Setup) (me : ℕ) (before after : AheadQueuePlace) (old new : List Entry) where
  abbrev step_line : Answer → List (Action × Answer)
  step_line told = (action.AheadStep, told) ∷ []

  step-took : (told : Answer) (request : Request) (ended : Outcome) → CallLeft u me (call.AheadStep request) ended old new → is_none_stepped told ≡ false → after ≡ record before { taken = before.taken ++ request ∷ [] } → PlaceRan me (step_line told) before after old new
  step-took told request ended left took_one same =
      let q = queue-left u me (call.AheadStep request) ended old new left in
      record {
        during = q.during;
        grew = q.grew;
        pushed = ap (λ p. p.pushed) same ∙ (sym (append-nil before.pushed) ∙ ap (λ l. before.pushed ++ reverse l) (sym q.asks));
        taken = request ∷ [];
        took = ap (λ p. p.taken) same;
        counted = rw took_one refl;
        served = by q.serves;
        empties = rw took_one (ap (λ p. p.empties) same);
        fulls = ap (λ p. p.fulls) same;
      }
    where
      by : {xs : List Request} → (xs ≡ request ∷ []) ⊎ (xs ≡ []) → AreAmong (reverse xs) (request ∷ [])
      by (inl one) = rw one (inl (refl, tt))
      by (inr none) = rw none tt

  pub place-stepped : (taken : Option Request) (told : Answer) → AheadAnswered u me taken told old new → AheadStepPlaced taken before after → PlaceRan me (step_line told) before after old new
  place-stepped None (answer.Stepped None) idle same = record {
    during = idle.during;
    grew = idle.grew;
    pushed = ap (λ p. p.pushed) same ∙ rw (own-others me idle.during idle.others) (sym (append-nil before.pushed));
    taken = [];
    took = ap (λ p. p.taken) same ∙ sym (append-nil before.taken);
    counted = refl;
    served = rw (own-others me idle.during idle.others) tt;
    empties = ap (λ p. p.empties) same;
    fulls = ap (λ p. p.fulls) same;
  }
  place-stepped None (answer.Stepped (Some done)) left same = absurd left
  place-stepped None (answer.Refused e) left same = absurd left
  place-stepped (Some request) (answer.Stepped None) left same = absurd left
  place-stepped (Some request) (answer.Stepped (Some done)) left same =
      step-took (answer.Stepped (Some done)) request (outcome.Done (reply.Whole done.whole)) left.1 refl same
  place-stepped (Some request) (answer.Refused e) left same = step-took (answer.Refused e) request (outcome.Failed e) left refl same
  place-stepped taken other left same = absurd left

-- ---- a whole run

-- a count that does not reach its last value is how often it rose
pub risen-exact : (times : ℕ) → times ≤ 2 ^ 64 - 1 → risen_by 0 times ≡ times
risen-exact zero low = refl
risen-exact (suc times) low = rw (risen-exact times (omega (arith, low))) (grind (arith, low))

-- a place at which nothing was done
abbrev pub untouched : AheadQueuePlace
untouched = record { pushed = []; taken = []; empties = 0; fulls = 0 }

-- what lines of a pass did at its place in a whole run, where they are those that the run was told of
pub record PlaceTold (given : GivenToRun) (told : Answered) (me : ℕ) (place : AheadQueuePlace) (past : List Entry) : Type 0 where
  pub lines : List (Action × Answer)
  pub ran : PlaceRan me lines untouched place [] past
  pub steps : answers_to is_step lines ≡ steps_told given told me
  pub asks : answers_to is_ask lines ≡ answers_to is_ask (lines_told given told me)
  pub few_steps : length (answers_to is_step lines) ≤ 2 ^ 64 - 1
  pub few_asks : length (answers_to is_ask lines) ≤ 2 ^ 64 - 1

module _ (given : GivenToRun) (told : Answered) (places : ℕ → AheadQueuePlace) (past : List Entry) (each : (me : ℕ) → PlaceTold given told me (places me) past) where
  whole : (me : ℕ) → (each me).ran.during ≡ past
  whole me = sym ((each me).ran.grew ∙ append-nil (each me).ran.during)

  pushed-told : (me : ℕ) → (places me).pushed ≡ reverse (requests_asked (own me past))
  pushed-told me = (each me).ran.pushed ∙ ap (λ l. reverse (requests_asked (own me l))) (whole me)

  taken-told : (me : ℕ) → (each me).ran.taken ≡ (places me).taken
  taken-told me = sym (each me).ran.took

  fulls-exact : (me : ℕ) → (places me).fulls ≡ fulls_told (answers_to is_ask (lines_told given told me))
  fulls-exact me =
      let few = (each me).few_asks in
      let counted = count_by-le-length is_queue_full (answers_to is_ask (each me).lines) in
      (each me).ran.fulls ∙ (risen-exact (fulls_told (answers_to is_ask (each me).lines)) (omega (arith, few, counted)) ∙ ap fulls_told (each me).asks)

  empties-exact : (me : ℕ) → (places me).empties ≡ nones (steps_told given told me)
  empties-exact me =
      let few = (each me).few_steps in
      let counted = count_by-le-length is_none_stepped (answers_to is_step (each me).lines) in
      (each me).ran.empties ∙ (risen-exact (nones (answers_to is_step (each me).lines)) (omega (arith, few, counted)) ∙ ap nones (each me).steps)

  same-least : (a b : ℕ) → a ≡ b → b ≤ a
  same-least a b same = omega (arith, same)

  -- so the passes have at the queue what the journal and the answers say
  pub queued : (taken : List Request) → (places read_ahead_worker).taken ≡ taken → RequestsAreQueued given told taken places past
  queued taken taken_is = record {
    pushed = pushed-told;
    fulls = λ me. same-least (places me).fulls (fulls_told (answers_to is_ask (lines_told given told me))) (fulls-exact me);
    each_took = λ me. rw (taken-told me, (each me).steps) at (each me).ran.counted;
    served = λ me. rw (taken-told me, whole me) at (each me).ran.served;
    empties = λ me. same-least (places me).empties (nones (steps_told given told me)) (empties-exact me);
    worker_took = taken_is;
  }

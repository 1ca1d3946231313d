-- The numbers with which a stream of a run was first initialised, and what its record is told since.
use Rattle.std.specs.Prelude.{◌≡◌, ◌≢◌, ℕ, zero, suc, ◌+◌, ◌<◌, ◌≤◌, ◌^◌, ◌⊎◌, Bool, true, false, List, [], ◌∷◌, ◌++◌, length, slice_get, Result, Ok, Err, refl}
use Rattle.std.specs.declared.option.Option.{Option}
use Rattle.std.specs.declared.option.Option.TheVariants.{Some, None}
use Rattle.std.specs.List.{AllByRecursion, list_any}
use Rattle.std.proofs.Common.{ap, sym, subst, ◌∙◌, arith, inl, inr, append_assoc}
use Rattle.std.proofs.lemmas.List.{append_cancel_right, length-map}
use Rattle.cc_entry.specs.declared.answer.Answer.{Answer}
use Rattle.cc_entry.specs.declared.answer.Answer.TheVariants as answer
use Rattle.cc_entry.specs.declared.answer.LineReply.{LineReply}
use Rattle.cc_entry.specs.Place.{File}
use Rattle.cc_entry.specs.declared.call.Call.{Call}
use Rattle.cc_entry.specs.declared.call.Call.TheVariants as call
use Rattle.cc_entry.specs.declared.entry.Entry.{Entry}
use Rattle.cc_entry.specs.declared.entry.Entry.TheVariants as entry
use Rattle.cc_entry.specs.declared.error.CcError.{CcError}
use Rattle.cc_entry.specs.declared.place.FileSizes.{FileSizes}
use Rattle.cc_entry.specs.declared.place.FileState.{FileState}
use Rattle.cc_entry.specs.declared.place.Request.{Request}
use Rattle.cc_entry.specs.declared.reply.Outcome.TheVariants as outcome
use Rattle.cc_entry.specs.declared.reply.Reply.{Reply}
use Rattle.cc_entry.specs.declared.reply.Reply.TheVariants as reply
use Rattle.cc_format.proofs.Numbers.{spelled_once}
use Rattle.cc_format.specs.Spelling.{IsReadAs}
use Rattle.cc_format.specs.declared.record.StreamRecord.{StreamRecord}
use Rattle.cc_format.specs.declared.record.StreamRecord.TheVariants.{V1, V2}
use Rattle.cc_script.specs.declared.script.RestartLine.{RestartLine}
use Rattle.cc_script.specs.declared.script.StreamLine.{StreamLine}
use Rattle.cc_restarts.specs.Given.{AreRestartSizes, size_said, valid_said}
use Rattle.cc_laws.proofs.HistorySteps.{history-effect}
use Rattle.cc_laws.proofs.ObjectSteps.{had_map-opens}
use Rattle.cc_laws.proofs.SoundFacts.{size_of-good, valid_of-good}
use Rattle.cc_model.specs.Good.{IsGoodSoFar}
use Rattle.cc_model.specs.History.{Did, history}
use Rattle.cc_model.specs.Objects.{had_map}
use Rattle.cc_model.specs.Passes.{HasSeen}
use Rattle.cc_model.specs.Records.{first_valid}
use Rattle.cc_model.specs.Setup.{Setup}
use Rattle.cc_model.specs.Touches.{size_of, valid_of}
use Rattle.cc_effects.specs.Calls.{IsDone}
use Rattle.cc_effects.specs.Moments.{IsIdle, Others}
use Rattle.cc_effects.proofs.Stretches.{idle-none}
use Rattle.cc_records.specs.Left.{SettleLeft}
use Rattle.cc_restart_laws.proofs.Contents.{first-least, first-more, valid-more}
use Rattle.cc_restart_laws.proofs.Entries.{call-effect, updated-rest}
use Rattle.cc_restart_laws.specs.Updates.{IsUpdated}
use Rattle.cc_pieces.proofs.Grown.{grew-call, grew-then}
use Rattle.cc_pieces.proofs.Unrecorded.{lines-unrecorded, restarts-unrecorded}
use Rattle.cc_pieces.specs.Answered.{CallAnswered}
use Rattle.cc_pieces.specs.Explained.{Answered, GivenToRun, IsExplained}
use Rattle.cc_pieces.specs.Openings.{LoggedOpening, Opened, OpeningBehind, RecordedOpening, StreamOpening, first_object_of, is_record_of, opening_sizes, opening_with}
use Rattle.cc_pieces.specs.Phases.{Plan}
use Rattle.cc_pieces.specs.Restarts.{RestartsInOrder, refused_for}
use Rattle.cc_stop_laws.specs.Redoable.{StreamIsNumbered, RecordsTell}
use Rattle.cc_script_laws.specs.Told.{TellsLesser, initialises}
use Rattle.cc_script_laws.proofs.Growing.{good-seen, had-seen, seen-entry, seen-idle, seen-none}
use Rattle.cc_script_laws.proofs.LineWalks.{Follows, follow-settle-left}
use Rattle.cc_script_laws.proofs.Opened.{HasSizes, OpensSo, OpensWith, opens-behind, opens-follows, opens-other, opens-served, opens-settle, opens-step, opens-tick, sizes-more, sizes-stand, unpassed-opens}
use Rattle.cc_script_laws.proofs.RunWalks.{AllStand, Walked, all-begun, all-stand, follow-behind, follow-load, follow-recorded, follow-restarts, ran-phases, walked-idle, walked-then}
use Rattle.cc_script_laws.proofs.Settles.{Tells, phases-seen, tells-at, told-run}

-- ---- stretches in which pass 0 alone placed anything

abbrev Alone : List Entry → List Entry → Type 0
Alone old new = (me : ℕ) → me ≢ 0 → IsIdle me old new

others-front : (me : ℕ) (xs ys : List Entry) → Others me (xs ++ ys) → Others me xs
others-front me [] ys all = tt
others-front me (x ∷ xs) ys all = (all.0, others-front me xs ys all.1)

others-back : (me : ℕ) (xs ys : List Entry) → Others me (xs ++ ys) → Others me ys
others-back me [] ys all = all
others-back me (x ∷ xs) ys all = others-back me xs ys all.1

module _ (old between new : List Entry) (first : HasSeen old between) (second : HasSeen between new) (alone : Alone old new) where
  parts : (me : ℕ) → me ≢ 0 → Others me (second.later ++ first.later)
  parts me other = subst (Others me) (append_cancel_right idle.during (second.later ++ first.later) old (sym idle.grew ∙ grew)) idle.others
    where
      idle : IsIdle me old new
      idle = alone me other

      grew : new ≡ (second.later ++ first.later) ++ old
      grew = second.grew ∙ (ap (λ (l : List Entry). second.later ++ l) first.grew ∙ sym (append_assoc second.later first.later old))

  alone-front : Alone old between
  alone-front me other = record { during = first.later; grew = first.grew; others = others-back me second.later first.later (parts me other) }

  alone-back : Alone between new
  alone-back me other = record { during = second.later; grew = second.grew; others = others-front me second.later first.later (parts me other) }

-- ---- the journal grows by the lines of pass 0

abbrev Any : Call → Type 0
Any it = Unit {0}

seen-follows : Follows 0 Any HasSeen
seen-follows = record {
  idle = seen-idle 0;
  joins = grew-then;
  plain = λ e past plain own. seen-entry e past;
  called = λ it ended nth stream past makes filed. seen-entry (entry.Call 0 nth stream it ended) past;
}

module _ (u : Setup) where
  pub seen-settle : (file : File) (answered : Result FileState CcError) (old new : List Entry) → SettleLeft u 0 file answered old new → HasSeen old new
  seen-settle file answered old new left =
      follow-settle-left u 0 Any HasSeen seen-follows file tt tt (λ told begun first flushed front size valid end has idle is. seen-entry (entry.Record 0 file.stream size valid end) front) answered old new left

  seen-behind : (t : ℕ) (stream : StreamLine) (refused : Option CcError) (told : Answer) (old new : List Entry) → OpeningBehind u t stream refused told old new → HasSeen old new
  seen-behind t stream refused told old new opened =
      follow-behind u Any HasSeen seen-follows t stream (λ handle is. tt) (seen-settle (first_object_of t)) refused told old new (λ read. tt) opened

  seen-recorded : (t : ℕ) (stream : StreamLine) (read : Option StreamRecord) (told : Answer) (old new : List Entry) → RecordedOpening u t stream read told old new → HasSeen old new
  seen-recorded t stream read told old new opened =
      follow-recorded u Any HasSeen seen-follows t stream (λ handle is. tt) (seen-settle (first_object_of t)) read told old new tt opened

  seen-opened : (restarts : List RestartLine) (ended : List LineReply) (t : ℕ) (streams : List StreamLine) (replies : List LineReply) (old new : List Entry) → Opened u restarts ended t streams replies old new → HasSeen old new
  seen-opened restarts ended t [] [] old new opened = seen-idle 0 old new opened
  seen-opened restarts ended t [] (reply ∷ replies) old new opened = absurd opened
  seen-opened restarts ended t (stream ∷ streams) [] old new opened = absurd opened
  seen-opened restarts ended t (stream ∷ streams) (reply ∷ replies) old new opened =
      grew-then old opened.0 new (seen-behind t stream (refused_for stream.log restarts ended) reply.answer old opened.0 opened.1.opened)
      (seen-opened restarts ended (suc t) streams replies opened.0 new opened.2)

  seen-restarts : (restarts : List RestartLine) (ended : List LineReply) (old new : List Entry) → RestartsInOrder u restarts ended old new → HasSeen old new
  seen-restarts restarts ended old new done = follow-restarts u Any HasSeen seen-follows restarts ended old new done

-- ---- the line of a stream that was done

read-once : (content : List ℕ) (one other : Option StreamRecord) → IsReadAs content one → IsReadAs content other → one ≡ other
read-once content None None one other = refl
read-once content None (Some told) one other = absurd (one told other)
read-once content (Some told) None one other = absurd (other told one)
read-once content (Some first) (Some second) one other = ap (λ (r : StreamRecord). Some r) (spelled_once content first second one other)

module _ (u : Setup) (s : ℕ) (stream : StreamLine) where
  had-done : (sizes : FileSizes) (r : Reply) (old new : List Entry) → IsDone 0 (opening_with s stream sizes) r old new → had_map (history new s) ≡ true
  had-done sizes r old new left = had-seen u s (e ∷ front) new seen had
    where
      it : Call
      it = opening_with s stream sizes

      front : List Entry
      front = left.earlier ++ old

      e : Entry
      e = entry.Call 0 left.placed.nth (Some s) it (outcome.Done r)

      filed : left.placed.stream ≡ Some s
      filed = left.placed.filed

      seen : HasSeen (e ∷ front) new
      seen = record {
        later = left.placed.later;
        grew = left.placed.grew ∙ ap (λ (o : Option ℕ). left.placed.later ++ (entry.Call 0 left.placed.nth o it (outcome.Done r) ∷ front)) filed;
      }

      had : had_map (history (e ∷ front) s) ≡ true
      had =
          ap had_map (history-effect e front s (Some (Did 0 it r)) (call-effect 0 left.placed.nth s it r))
          ∙ had_map-opens {file = first_object_of s} {given = sizes} {quota = stream.quota} {temporary = stream.temporary} 0 it r (history front s) refl

  seen-answered : (it : Call) (told : Answer) (old new : List Entry) → CallAnswered u 0 it told old new → HasSeen old new
  seen-answered it (answer.Given r) old new left = grew-call u 0 it (outcome.Done r) old new left
  seen-answered it (answer.Refused e) old new left = grew-call u 0 it (outcome.Failed e) old new left
  seen-answered it other old new left = absurd left

  logged-had : (sizes : FileSizes) (log : Option ℕ) (old new : List Entry) → LoggedOpening u s (opening_with s stream sizes) log (answer.Given reply.Unit) old new → had_map (history new s) ≡ true
  logged-had sizes None old new opened = had-done sizes reply.Unit old new opened
  logged-had sizes (Some handle) old new (inl refused) = absurd (cc refused.1)
  logged-had sizes (Some handle) old new (inr done) =
      had-seen u s done.0 new (seen-answered (call.SetLog (first_object_of s) handle) (answer.Given reply.Unit) done.0 new done.2) (had-done sizes reply.Unit old done.0 done.1)

  recorded-had : (read : Option StreamRecord) (old new : List Entry) → RecordedOpening u s stream read (answer.Given reply.Unit) old new → had_map (history new s) ≡ true
  recorded-had None old new opened = logged-had (opening_sizes stream None) stream.log old new opened
  recorded-had (Some (V2 size valid)) old new opened = logged-had (opening_sizes stream (Some (V2 size valid))) stream.log old new opened
  recorded-had (Some (V1 size)) old new (inl refused) = absurd (cc refused.1)
  recorded-had (Some (V1 size)) old new (inr done) =
      had-seen u s done.0 new (seen-settle u (first_object_of s) (Ok done.2.0) done.0 new done.2.1) (logged-had (opening_sizes stream (Some (V1 size))) stream.log old done.0 done.1)

  opening-had : (stored : Bool) (old new : List Entry) → StreamOpening u s stream stored (answer.Given reply.Unit) old new → had_map (history new s) ≡ true
  opening-had false old new opened = logged-had (opening_sizes stream None) stream.log old new opened
  opening-had true old new (inl unread) = absurd (cc unread.1)
  opening-had true old new (inr is) = recorded-had is.read is.loaded new is.opened

  pub behind-had : (refused : Option CcError) (old new : List Entry) → OpeningBehind u s stream refused (answer.Given reply.Unit) old new → had_map (history new s) ≡ true
  behind-had (Some e) old new opened = absurd (cc opened.0)
  behind-had None old new opened = opening-had stream.stored old new opened

-- The line of a stream among those of others: the stretch that it left.
pub record PieceOf (u : Setup) (s : ℕ) (stream : StreamLine) (refused : Option CcError) (told : Answer) (old new : List Entry) : Type 0 where
  pub first : List Entry
  pub last : List Entry
  pub since : HasSeen old first
  pub until : HasSeen last new
  pub opened : OpeningBehind u s stream refused told first last

module _ (u : Setup) (s : ℕ) (stream : StreamLine) (restarts : List RestartLine) (ended : List LineReply) where
  pub piece-at : (t n : ℕ) (streams : List StreamLine) (replies : List LineReply) (reply : LineReply) (old new : List Entry) → t + n ≡ s → Opened u restarts ended t streams replies old new → slice_get streams n ≡ Some stream → slice_get replies n ≡ Some reply → PieceOf u s stream (refused_for stream.log restarts ended) reply.answer old new
  piece-at t n [] replies reply old new is opened at answered = absurd (cc at)
  piece-at t n (first ∷ streams) [] reply old new is opened at answered = absurd (cc answered)
  piece-at t n (first ∷ streams) (told ∷ replies) reply old new is opened at answered = by n is at answered (λ m its there said. piece-at (suc t) m streams replies reply opened.0 new its opened.2 there said)
    where
      by : (n : ℕ) → t + n ≡ s → slice_get (first ∷ streams) n ≡ Some stream → slice_get (told ∷ replies) n ≡ Some reply → ((m : ℕ) → suc t + m ≡ s → slice_get streams m ≡ Some stream → slice_get replies m ≡ Some reply → PieceOf u s stream (refused_for stream.log restarts ended) reply.answer opened.0 new) → PieceOf u s stream (refused_for stream.log restarts ended) reply.answer old new
      by zero is at answered later =
          let same : t ≡ s = omega (arith, is) in
          let line : first ≡ stream = cc at in
          let its : told ≡ reply = cc answered in
          record {
            first = old;
            last = opened.0;
            since = seen-none old;
            until = seen-opened u restarts ended (suc t) streams replies opened.0 new opened.2;
            opened =
                subst (λ (r : LineReply). OpeningBehind u s stream (refused_for stream.log restarts ended) r.answer old opened.0) its
                (subst (λ (l : StreamLine). OpeningBehind u s l (refused_for l.log restarts ended) told.answer old opened.0) line
                (subst (λ (n : ℕ). OpeningBehind u n first (refused_for first.log restarts ended) told.answer old opened.0) same opened.1.opened));
          }
      by (suc n) is at answered later =
          let rest = later n (omega (arith, is)) at answered in
          record {
            first = rest.first;
            last = rest.last;
            since = grew-then old opened.0 rest.first (seen-behind u t first (refused_for first.log restarts ended) told.answer old opened.0 opened.1.opened) rest.since;
            until = rest.until;
            opened = rest.opened;
          }

-- ---- the line of a stream among those of others

clash : {b : Bool} → b ≡ true → b ≡ false → ⊥
clash a b = cc

module _ (u : Setup) (s : ℕ) (stream : StreamLine) (read : Option StreamRecord) (pages : ℕ → List ℕ) (tells : u.opening s ≡ Some pages) (reads : IsReadAs (pages (2 ^ 51)) read)
    (known : (stream.stored ≡ true) ⊎ (read ≡ None)) where
  abbrev given_sizes : FileSizes
  given_sizes = opening_sizes stream read

  own-read : (other : Option StreamRecord) (told : Answer) (old new : List Entry) → other ≡ read → RecordedOpening u s stream other told old new → OpensSo u s given_sizes 0 old new
  own-read other told old new is opened =
      follow-recorded u _ _ (opens-follows u s given_sizes 0) s stream (λ handle is. tt) (opens-settle u s given_sizes 0 (first_object_of s)) other told old new (λ same. ap (opening_sizes stream) is) opened

  module _ (restarts : List RestartLine) (ended : List LineReply) where
    own-opening : (stored : Bool) → stream.stored ≡ stored → (told : Answer) (old new : List Entry) → Alone old new → list_any (is_record_of s) old ≡ false → StreamOpening u s stream stored told old new → OpensSo u s given_sizes 0 old new
    own-opening false is told old new alone none opened = own-read None told old new (sym (by known)) opened
      where
        by : (stream.stored ≡ true) ⊎ (read ≡ None) → read ≡ None
        by (inl stored_so) = absurd (clash stored_so is)
        by (inr unread) = unread
    own-opening true is told old new alone none (inl unread) = follow-load u _ _ (opens-follows u s given_sizes 0) {A = Option StreamRecord} s (Err unread.0) old new unread.2
    own-opening true is told old new alone none (inr k) =
        walked-then (OpensWith s given_sizes) 0 old k.loaded new (walked-idle (OpensWith s given_sizes) 0 old k.loaded k.load)
        (own-read k.read told k.loaded new (read-once (pages (2 ^ 51)) k.read read (k.at_first pages tells unwritten) reads) k.opened)
      where
        first : Alone old k.loaded
        first = alone-front old k.loaded new (seen-idle 0 old k.loaded k.load) (seen-recorded u s stream k.read told k.loaded new k.opened) alone

        unwritten : list_any (is_record_of s) k.loaded ≡ false
        unwritten = lines-unrecorded u s restarts ended s [] [] old k.loaded k.load first (omega arith) none

    own-behind : (refused : Option CcError) (told : Answer) (old new : List Entry) → Alone old new → list_any (is_record_of s) old ≡ false → OpeningBehind u s stream refused told old new → OpensSo u s given_sizes 0 old new
    own-behind (Some e) told old new alone none opened = walked-idle (OpensWith s given_sizes) 0 old new opened.1
    own-behind None told old new alone none opened = own-opening stream.stored refl told old new alone none opened

    -- What the lines of the streams, numbered from one on, leave of this one.
    record HasOpened (told : Answer) (old new : List Entry) : Type 0 where
      opens : OpensSo u s given_sizes 0 old new
      had : told ≡ answer.Given reply.Unit → had_map (history new s) ≡ true

    opened-at : (t n : ℕ) (streams : List StreamLine) (replies : List LineReply) (reply : LineReply) (old new : List Entry) → t + n ≡ s → Opened u restarts ended t streams replies old new → Alone old new → list_any (is_record_of s) old ≡ false → slice_get streams n ≡ Some stream → slice_get replies n ≡ Some reply → HasOpened reply.answer old new
    opened-at t n [] replies reply old new is opened alone none at answered = absurd (cc at)
    opened-at t n (first ∷ streams) [] reply old new is opened alone none at answered = absurd (cc answered)
    opened-at t n (first ∷ streams) (told ∷ replies) reply old new is opened alone none at answered =
        by n is at answered
        (λ m its alone_rest none_rest there said. opened-at (suc t) m streams replies reply opened.0 new its opened.2 alone_rest none_rest there said)
      where
        here : HasSeen old opened.0
        here = seen-behind u t first (refused_for first.log restarts ended) told.answer old opened.0 opened.1.opened

        behind : HasSeen opened.0 new
        behind = seen-opened u restarts ended (suc t) streams replies opened.0 new opened.2

        alone_here : Alone old opened.0
        alone_here = alone-front old opened.0 new here behind alone

        by : (n : ℕ) → t + n ≡ s → slice_get (first ∷ streams) n ≡ Some stream → slice_get (told ∷ replies) n ≡ Some reply →
            ((m : ℕ) → suc t + m ≡ s → Alone opened.0 new → list_any (is_record_of s) opened.0 ≡ false → slice_get streams m ≡ Some stream → slice_get replies m ≡ Some reply → HasOpened reply.answer opened.0 new) → HasOpened reply.answer old new
        by zero is at answered later =
            let same : t ≡ s = omega (arith, is) in
            let line : first ≡ stream = cc at in
            let its : told ≡ reply = cc answered in
            let own : OpeningBehind u s stream (refused_for stream.log restarts ended) reply.answer old opened.0 =
            subst (λ (r : LineReply). OpeningBehind u s stream (refused_for stream.log restarts ended) r.answer old opened.0) its
            (subst (λ (l : StreamLine). OpeningBehind u s l (refused_for l.log restarts ended) told.answer old opened.0) line
            (subst (λ (n : ℕ). OpeningBehind u n first (refused_for first.log restarts ended) told.answer old opened.0) same opened.1.opened)) in
            record {
              opens =
                  walked-then (OpensWith s given_sizes) 0 old opened.0 new (own-behind (refused_for stream.log restarts ended) reply.answer old opened.0 alone_here none own)
                  (opens-behind u s given_sizes restarts ended (suc t) streams replies opened.0 new (omega (arith, same)) opened.2);
              had = λ done. had-seen u s opened.0 new behind
                  (behind-had u s stream (refused_for stream.log restarts ended) old opened.0 (subst (λ (a : Answer). OpeningBehind u s stream (refused_for stream.log restarts ended) a old opened.0) done own));
            }
        by (suc n) is at answered later =
            let rest =
            later n (omega (arith, is)) (alone-back old opened.0 new here behind alone)
            (lines-unrecorded u s restarts ended t (first ∷ []) (told ∷ []) old opened.0 (opened.0, opened.1, idle-none 0 opened.0) alone_here (omega (arith, is)) none) at answered in
            record {
              opens =
                  walked-then (OpensWith s given_sizes) 0 old opened.0 new
                  (opens-other u s given_sizes t (λ same. absurd (omega (arith, is, same))) first (refused_for first.log restarts ended) told.answer old opened.0 opened.1.opened) rest.opens;
              had = rest.had;
            }

-- ---- runs

get-behind : {A : Type 0} (xs ys : List A) (n m : ℕ) → m ≡ length xs + n → slice_get (xs ++ ys) m ≡ slice_get ys n
get-behind [] ys n m is =
    let same : m ≡ n = omega (arith, is) in
    ap (slice_get ys) same
get-behind (x ∷ xs) ys n zero is = absurd (omega (arith, is))
get-behind (x ∷ xs) ys n (suc m) is = get-behind xs ys n m (omega (arith, is))

get-front : {A : Type 0} (xs ys : List A) (n : ℕ) (x : A) → n < length xs → slice_get (xs ++ ys) n ≡ Some x → slice_get xs n ≡ Some x
get-front [] ys n x low is = absurd (omega (arith, low))
get-front (y ∷ xs) ys zero x low is = is
get-front (y ∷ xs) ys (suc n) x low is = get-front xs ys n x (omega (arith, low)) is

get-within : {A : Type 0} (xs : List A) (n : ℕ) (x : A) → slice_get xs n ≡ Some x → n < length xs
get-within [] n x is = absurd (cc is)
get-within (y ∷ xs) zero x is = omega arith
get-within (y ∷ xs) (suc n) x is = let rest = get-within xs n x is in omega (arith, rest)

-- the reply of a stream's line
module _ (u : Setup) (given : GivenToRun) (told : Answered) (taken : List Request) (past : List Entry) (is : IsExplained u given told taken past) where
  pub ended-long : length is.ended ≡ length given.restarts
  ended-long = sym (length-map is.ended (λ r. r.line)) ∙ (ap length is.restart_lines ∙ length-map given.restarts (λ l. l.line))

  pub setup-long : length is.setup ≡ length given.streams
  setup-long = sym (length-map is.setup (λ r. r.line)) ∙ (ap length is.setup_lines ∙ length-map given.streams (λ l. l.line))

  pub setup-line : (s : ℕ) (stream : StreamLine) (line : LineReply) → slice_get given.streams s ≡ Some stream → slice_get told.replies (length given.restarts + s) ≡ Some line → slice_get is.setup s ≡ Some line
  setup-line s stream line at answered =
      let low = get-within given.streams s stream at in
      let long = ended-long in
      let setup = setup-long in
      get-front is.setup is.answers s line (omega (arith, low, setup))
      (sym (get-behind is.ended (is.setup ++ is.answers) s (length given.restarts + s) (omega (arith, long)))
      ∙ (sym (ap (λ (l : List LineReply). slice_get l (length given.restarts + s)) is.replies_are) ∙ answered))

said-valid : (stream : StreamLine) (read : Option StreamRecord) → (opening_sizes stream read).valid ≡ valid_said stream read
said-valid stream None = refl
said-valid stream (Some told) = refl

said-size : (stream : StreamLine) (read : Option StreamRecord) → (opening_sizes stream read).size ≡ size_said stream read
said-size stream None = refl
said-size stream (Some told) = refl

module _ (u : Setup) (given : GivenToRun) (told : Answered) (taken : List Request) (past : List Entry) (is : IsExplained u given told taken past) (good : IsGoodSoFar u past) (s log : ℕ) (updated : IsUpdated s log past) (stream : StreamLine) (line : LineReply)
    (at : slice_get given.streams s ≡ Some stream) (answered : slice_get told.replies (length given.restarts + s) ≡ Some line) (read : Option StreamRecord) (pages : ℕ → List ℕ) (tells : u.opening s ≡ Some pages) (reads : IsReadAs (pages (2 ^ 51)) read)
    (known : (stream.stored ≡ true) ⊎ (read ≡ None)) where
  abbrev sizes : FileSizes
  sizes = opening_sizes stream read

  own : slice_get is.setup s ≡ Some line
  own = setup-line u given told taken past is s stream line at answered

  first : HasSeen [] is.restarted
  first = seen-restarts u given.restarts is.ended [] is.restarted is.restarts_ended

  second : HasSeen is.restarted is.begun
  second = seen-opened u given.restarts is.ended 0 given.streams is.setup is.restarted is.begun is.opened

  opened : HasOpened u s stream read pages tells reads known given.restarts is.ended line.answer is.restarted is.begun
  opened =
      opened-at u s stream read pages tells reads known given.restarts is.ended 0 s given.streams is.setup line is.restarted is.begun (omega arith) is.opened (alone-back [] is.restarted is.begun first second is.alone)
      (restarts-unrecorded u s given.restarts is.ended [] is.restarted is.restarts_ended (alone-front [] is.restarted is.begun first second is.alone) refl) at own

  -- each entry up to the phases, by each pass
  begun-each : (me : ℕ) → Walked (OpensWith s sizes) me [] is.begun
  begun-each me =
      all-begun u (λ n. Walked (OpensWith s sizes) n) (walked-idle (OpensWith s sizes)) (walked-then (OpensWith s sizes)) is.begun
      (walked-then (OpensWith s sizes) 0 [] is.restarted is.begun (follow-restarts u _ _ (opens-follows u s sizes 0) given.restarts is.ended [] is.restarted is.restarts_ended) opened.opens) is.alone me

  abbrev plan : Plan
  plan = record { lines = given.lines; answers = is.answers; ticks = given.ticks; aheads = given.aheads }

  tells_all : AllStand (Tells s) past
  tells_all = told-run u past good s given told taken is

  seen : HasSeen is.begun past
  seen = phases-seen u past good s given told taken is

  module _ (numbers : had_map (history past s) ≡ true → HasSizes s sizes past) where
    valid-is : had_map (history past s) ≡ true → first_valid (history past s) ≡ valid_said stream read
    valid-is had = (numbers had).valid ∙ said-valid stream read

    size-is : had_map (history past s) ≡ true → size_of (history past s) ≡ size_said stream read
    size-is had = (numbers had).size ∙ said-size stream read

    records-tell : RecordsTell s (valid_said stream read) past
    records-tell later front pass size valid how same = (had-seen u s k.moment front k.since k.had, least)
      where
        k : TellsLesser s valid front
        k = tells-at s later front pass size valid how past same tells_all

        e : Entry
        e = entry.Record pass s size valid how

        grown : HasSeen front past
        grown = record { later = later ++ e ∷ []; grew = same ∙ sym (append_assoc later (e ∷ []) front) }

        whole : HasSeen k.moment past
        whole = grew-then k.moment front past k.since grown

        good_moment : IsGoodSoFar u k.moment
        good_moment = good-seen u k.moment past whole good

        updated_moment : IsUpdated s log k.moment
        updated_moment = updated-rest s log whole.later k.moment (subst (IsUpdated s log) whole.grew updated)

        had_past : had_map (history past s) ≡ true
        had_past = had-seen u s k.moment past whole k.had

        same_first : first_valid (history past s) ≡ first_valid (history k.moment s)
        same_first = ap (λ (l : List Entry). first_valid (history l s)) whole.grew ∙ first-more u s log whole.later k.moment k.had

        raised : valid_of (history k.moment s) ≤ valid_of (history front s)
        raised =
            subst (λ (l : List Entry). valid_of (history k.moment s) ≤ valid_of (history l s)) (sym k.since.grew)
            (valid-more u s log k.since.later k.moment (subst (IsGoodSoFar u) k.since.grew (good-seen u front past grown good))
            (subst (IsUpdated s log) k.since.grew (updated-rest s log grown.later front (subst (IsUpdated s log) grown.grew updated))))

        least : valid_said stream read ≤ valid
        least =
            let is_valid = valid-is had_past in
            let low = first-least u s log k.moment good_moment updated_moment k.had in
            let lesser = k.lesser in
            omega (arith, is_valid, low, lesser, same_first, raised)

    numbered-by : AreRestartSizes stream read → StreamIsNumbered s stream read past
    numbered-by are = record { sizes = are; opened = valid-is; size = size-is; records = records-tell }

    sizes-had : had_map (history past s) ≡ true → AreRestartSizes stream read
    sizes-had had =
        let valid = valid-is had in
        let size = size-is had in
        let low = first-least u s log past good updated had in
        let within = valid_of-good u past s good in
        let fits = size_of-good u past s good in
        record { within = omega (arith, valid, size, low, within); in_range = omega (arith, size, fits) }

  -- where the line was done
  pub numbered-done : line.answer ≡ answer.Given reply.Unit → StreamIsNumbered s stream read past
  numbered-done done = numbered-by numbers (sizes-had numbers had)
    where
      had_begun : had_map (history is.begun s) ≡ true
      had_begun = opened.had done

      had : had_map (history past s) ≡ true
      had = had-seen u s is.begun past seen had_begun

      updated_all : IsUpdated s log (seen.later ++ is.begun)
      updated_all = subst (IsUpdated s log) seen.grew updated

      numbers : had_map (history past s) ≡ true → HasSizes s sizes past
      numbers now =
          subst (HasSizes s sizes) (sym seen.grew)
          (sizes-more u s log sizes seen.later is.begun (subst (IsGoodSoFar u) seen.grew good) updated_all had_begun
          (sizes-stand u s log sizes is.begun (good-seen u is.begun past seen good) (updated-rest s log seen.later is.begun updated_all)
          (all-stand (OpensWith s sizes) (unpassed-opens s sizes) [] is.begun begun-each tt) had_begun))

  -- where no line of a caller initialises the stream
  pub numbered-kept : AllByRecursion (λ each. initialises s each.action ≡ false) given.lines → AreRestartSizes stream read → StreamIsNumbered s stream read past
  numbered-kept none are = numbered-by numbers are
    where
      each : (me : ℕ) → Walked (OpensWith s sizes) me [] past
      each me =
          walked-then (OpensWith s sizes) me [] is.begun past (begun-each me)
          (ran-phases u (λ n. Walked (OpensWith s sizes) n) (walked-idle (OpensWith s sizes)) (walked-then (OpensWith s sizes)) (opens-tick u s sizes) (opens-step u s sizes) (λ asked. initialises s asked ≡ false)
          (opens-served u s sizes) plan none 1 given.phases told.ticked told.stepped taken is.begun past is.ran me)

      numbers : had_map (history past s) ≡ true → HasSizes s sizes past
      numbers had = sizes-stand u s log sizes past good updated (all-stand (OpensWith s sizes) (unpassed-opens s sizes) [] past each tt) had

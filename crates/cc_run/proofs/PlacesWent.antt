-- What lines did at the places of their passes at the queues, one more of them, and what others do meanwhile.
use Rattle.std.specs.Prelude.{◌≡◌, ◌≢◌, ℕ, zero, suc, ◌<◌, ◌≤◌, ◌==◌, Bool, true, false, List, [], ◌∷◌, ◌++◌, length, drop, slice_get, slice_set, refl}
use Rattle.std.specs.declared.option.Option.TheVariants.{Some}
use Rattle.std.proofs.Common.{ap, sym, subst, ◌∙◌, arith}
use Rattle.std.proofs.Math.Seq.{drop-append_seam}
use Rattle.std.proofs.lemmas.Bool.{eq-eqb, eqb-false, eqb-true, ne_eqb}
use Rattle.std.proofs.lemmas.List.{append-nil}
use Rattle.std.proofs.lemmas.Option.{slice_get_within}
use Rattle.cc_entry.specs.declared.answer.Answer.{Answer}
use Rattle.cc_entry.specs.declared.answer.LineReply.{LineReply}
use Rattle.cc_entry.specs.declared.entry.Entry.{Entry}
use Rattle.cc_entry.specs.declared.place.Request.{Request}
use Rattle.cc_script.specs.declared.script.Action.{Action}
use Rattle.cc_script.specs.declared.script.ActionLine.{ActionLine}
use Rattle.cc_effects.specs.Moments.{IsIdle}
use Rattle.cc_effects.proofs.Stretches.{idle-none}
use Rattle.cc_lines.specs.Holds.{NamesState}
use Rattle.cc_lines.specs.Queues.{PlaceWent, PlacesWent, copies_of, hand_of, queues_of}
use Rattle.cc_lines.specs.declared.queues.Places.{Places}
use Rattle.cc_lines.specs.declared.queues.Queues.{Queues}
use Rattle.cc_pieces.proofs.AsyncPlaces.{async-none, async-then}
use Rattle.cc_pieces.proofs.PlaceSteps.{place-idle, place-then}
use Rattle.cc_queue.specs.Places.{PlaceState}
use Rattle.cc_run.specs.Lines.{asked_by_caller}
use Rattle.cc_run.specs.Places.{AreOfQueues, PlacesRan}
use Rattle.cc_run.proofs.Lists.{there}
use Rattle.cc_run.proofs.LinesRan.{put-other, put-same}
use Rattle.cc_run.proofs.WordSteps.{asked-append}

-- ---- a place at the queue of read-ahead

pub placed-idle : (me : ℕ) (place : PlaceState Request) (old new : List Entry) → IsIdle me old new → PlaceWent me [] place place old new
placed-idle me place old new idle = record { ran = place-idle me (hand_of place) old new idle; queue_is = refl }

pub placed-then : (me : ℕ) (first rest : List (Action × Answer)) (was mid now : PlaceState Request) (old between new : List Entry) → PlaceWent me first was mid old between → PlaceWent me rest mid now between new → PlaceWent me (first ++ rest) was now old new
placed-then me first rest was mid now old between new one two = record {
  ran = place-then me first rest (hand_of was) (hand_of mid) (hand_of now) old between new one.ran two.ran;
  queue_is = two.queue_is ∙ one.queue_is;
}

-- others go on behind lines, and were there before
pub placed-on : (me : ℕ) (lines : List (Action × Answer)) (was now : PlaceState Request) (old between new : List Entry) → PlaceWent me lines was now old between → IsIdle me between new → PlaceWent me lines was now old new
placed-on me lines was now old between new went idle =
    subst (λ l. PlaceWent me l was now old new) (append-nil lines) (placed-then me lines [] was now now old between new went (placed-idle me now between new idle))

pub placed-since : (me : ℕ) (lines : List (Action × Answer)) (was now : PlaceState Request) (older old new : List Entry) → IsIdle me older old → PlaceWent me lines was now old new → PlaceWent me lines was now older new
placed-since me lines was now older old new idle went = placed-then me [] lines was was now older old new (placed-idle me was older old idle) went

-- ---- the places of a caller at both queues

pub both-idle : (me : ℕ) (places : Places) (old new : List Entry) → IsIdle me old new → PlacesWent me [] places places old new
both-idle me places old new idle = record {
  ahead = placed-idle me places.ahead old new idle;
  copies = record { ran = async-none me (copies_of places.copies); queue_is = refl };
}

pub both-then : (me : ℕ) (first rest : List (Action × Answer)) (was mid now : Places) (old between new : List Entry) → PlacesWent me first was mid old between → PlacesWent me rest mid now between new → PlacesWent me (first ++ rest) was now old new
both-then me first rest was mid now old between new one two = record {
  ahead = placed-then me first rest was.ahead mid.ahead now.ahead old between new one.ahead two.ahead;
  copies = record {
    ran = async-then me first rest (copies_of was.copies) (copies_of mid.copies) (copies_of now.copies) one.copies.ran two.copies.ran;
    queue_is = two.copies.queue_is ∙ one.copies.queue_is;
  };
}

pub both-on : (me : ℕ) (lines : List (Action × Answer)) (was now : Places) (old between new : List Entry) → PlacesWent me lines was now old between → IsIdle me between new → PlacesWent me lines was now old new
both-on me lines was now old between new went idle =
    record { ahead = placed-on me lines was.ahead now.ahead old between new went.ahead idle; copies = went.copies }

pub both-since : (me : ℕ) (lines : List (Action × Answer)) (was now : Places) (older old new : List Entry) → IsIdle me older old → PlacesWent me lines was now old new → PlacesWent me lines was now older new
both-since me lines was now older old new idle went =
    record { ahead = placed-since me lines was.ahead now.ahead older old new idle went.ahead; copies = went.copies }

-- of a pass that acts, and from what it has seen
pub both-as : (number me : ℕ) (lines : List (Action × Answer)) (was now : Places) (seen old new : List Entry) → number ≡ me → seen ≡ old → PlacesWent number lines was now seen new → PlacesWent me lines was now old new
both-as number me lines was now seen old new is same went =
    subst (λ past. PlacesWent me lines was now past new) same (subst (λ n. PlacesWent n lines was now seen new) is went)

-- the places are at the queues that they were at
pub both-queues : (me : ℕ) (lines : List (Action × Answer)) (was now : Places) (old new : List Entry) → PlacesWent me lines was now old new → queues_of now ≡ queues_of was
both-queues me lines was now old new went = rw (went.ahead.queue_is, went.copies.queue_is) refl

-- ---- the places of the callers

-- the replies behind those that were there are these
pub same-answers : (before after answers others : List LineReply) → after ≡ before ++ answers → after ≡ before ++ others → answers ≡ others
same-answers before after answers others one two =
    sym (drop-append_seam before answers) ∙ (ap (drop (length before)) (sym one ∙ two) ∙ drop-append_seam before others)

-- lines with these answers did this
pub record PlacesSo (lines : List ActionLine) (answers : List LineReply) (was now : List NamesState) (old new : List Entry) : Type 0 where
  pub each : (n : ℕ) (a b : NamesState) → slice_get was n ≡ Some a → slice_get now n ≡ Some b →
      PlacesWent (suc n) (asked_by_caller (suc n) lines answers) a.places b.places old new

pub places-ran : (lines : List ActionLine) (before after answers : List LineReply) (was now : List NamesState) (old new : List Entry) → after ≡ before ++ answers → PlacesSo lines answers was now old new → PlacesRan lines before after was now old new
places-ran lines before after answers was now old new grew so = record {
  each = λ others n a b is first second.
      subst (λ l. PlacesWent (suc n) (asked_by_caller (suc n) lines l) a.places b.places old new) (same-answers before after answers others grew is) (so.each n a b first second);
}

pub places-so : (lines : List ActionLine) (before after answers : List LineReply) (was now : List NamesState) (old new : List Entry) → after ≡ before ++ answers → PlacesRan lines before after was now old new → PlacesSo lines answers was now old new
places-so lines before after answers was now old new grew ran = record { each = λ n a b first second. ran.each answers n a b grew first second }

same-row : (rows : List NamesState) (n : ℕ) (a b : NamesState) → slice_get rows n ≡ Some a → slice_get rows n ≡ Some b → a ≡ b
same-row rows n a b first second = cc (first, second)

-- none were served yet
pub places-none : (rows : List NamesState) (past : List Entry) → PlacesSo [] [] rows rows past past
places-none rows past = record {
  each = λ n a b first second.
      subst (λ (c : NamesState). PlacesWent (suc n) [] a.places c.places past past) (same-row rows n a b first second)
      (both-idle (suc n) a.places past past (idle-none (suc n) past));
}

-- what a line asks of its caller, and of another
asked-own : (me : ℕ) (line : ActionLine) (reply : LineReply) → line.caller ≡ me → asked_by_caller me (line ∷ []) (reply ∷ []) ≡ (line.action, reply.answer) ∷ []
asked-own me line reply own = rw (eq-eqb line.caller me own) refl

asked-other : (me : ℕ) (line : ActionLine) (reply : LineReply) → line.caller ≢ me → asked_by_caller me (line ∷ []) (reply ∷ []) ≡ []
asked-other me line reply apart = rw (ne_eqb line.caller me apart) refl

-- one line more
pub places-more : (lines : List ActionLine) (answers : List LineReply) (line : ActionLine) (reply : LineReply) (was rows : List NamesState) (k : ℕ) (names now : NamesState) (old between new : List Entry) → length lines ≡ length answers → line.caller ≡ suc k → slice_get rows k ≡ Some names → PlacesSo lines answers was rows old between → PlacesWent line.caller ((line.action, reply.answer) ∷ []) names.places now.places between new → ((me : ℕ) → me ≢ line.caller → IsIdle me between new) → PlacesSo (lines ++ line ∷ []) (answers ++ reply ∷ []) was (slice_set rows k now) old new
places-more lines answers line reply was rows k names now old between new long is at so one alone = record {
  each = λ n a b first second. by n a b first second (k == n) refl;
}
  where
    by : (n : ℕ) (a b : NamesState) → slice_get was n ≡ Some a → slice_get (slice_set rows k now) n ≡ Some b → (here : Bool) → (k == n) ≡ here → PlacesWent (suc n) (asked_by_caller (suc n) (lines ++ line ∷ []) (answers ++ reply ∷ [])) a.places b.places old new
    by n a b first second true which =
        let here : k ≡ n = eqb-true k n which in
        let own : line.caller ≡ suc n = is ∙ ap suc here in
        let b_is : now ≡ b = put-same rows k now b (subst (λ m. slice_get (slice_set rows k now) m ≡ Some b) (sym here) second) in
        let before : PlacesWent (suc n) (asked_by_caller (suc n) lines answers) a.places names.places old between =
        so.each n a names first (subst (λ m. slice_get rows m ≡ Some names) here at) in
        let last : PlacesWent (suc n) ((line.action, reply.answer) ∷ []) names.places b.places between new =
        subst (λ (c : NamesState). PlacesWent (suc n) ((line.action, reply.answer) ∷ []) names.places c.places between new) b_is
        (subst (λ me. PlacesWent me ((line.action, reply.answer) ∷ []) names.places now.places between new) own one) in
        let shape : asked_by_caller (suc n) (lines ++ line ∷ []) (answers ++ reply ∷ []) ≡ asked_by_caller (suc n) lines answers ++ (line.action, reply.answer) ∷ [] =
        asked-append (λ line. line.caller == suc n) lines (line ∷ []) answers (reply ∷ []) long ∙ ap (λ l. asked_by_caller (suc n) lines answers ++ l) (asked-own (suc n) line reply own) in
        subst (λ l. PlacesWent (suc n) l a.places b.places old new) (sym shape)
        (both-then (suc n) (asked_by_caller (suc n) lines answers) ((line.action, reply.answer) ∷ []) a.places names.places b.places old between new before last)
    by n a b first second false which =
        let away : k ≢ n = eqb-false k n which in
        let apart : line.caller ≢ suc n = λ e. away (omega (arith, is, e)) in
        let before : PlacesWent (suc n) (asked_by_caller (suc n) lines answers) a.places b.places old between =
        so.each n a b first (put-other rows k n now b away second) in
        let shape : asked_by_caller (suc n) (lines ++ line ∷ []) (answers ++ reply ∷ []) ≡ asked_by_caller (suc n) lines answers =
        asked-append (λ line. line.caller == suc n) lines (line ∷ []) answers (reply ∷ []) long
        ∙ (ap (λ l. asked_by_caller (suc n) lines answers ++ l) (asked-other (suc n) line reply apart) ∙ append-nil (asked_by_caller (suc n) lines answers)) in
        subst (λ l. PlacesWent (suc n) l a.places b.places old new) (sym shape)
        (both-on (suc n) (asked_by_caller (suc n) lines answers) a.places b.places old between new before (alone (suc n) (λ e. apart (sym e))))

-- lines after lines
pub places-then : (first rest : List ActionLine) (told answers : List LineReply) (was mid now : List NamesState) (old between new : List Entry) → length first ≡ length told → length mid ≡ length was → PlacesSo first told was mid old between → PlacesSo rest answers mid now between new → PlacesSo (first ++ rest) (told ++ answers) was now old new
places-then first rest told answers was mid now old between new long rows one two = record {
  each = λ n a b at there_now.
      let here = there mid n (omega (arith, slice_get_within was n a at, rows)) in
      subst (λ l. PlacesWent (suc n) l a.places b.places old new) (sym (asked-append (λ line. line.caller == suc n) first rest told answers long))
      (both-then (suc n) (asked_by_caller (suc n) first told) (asked_by_caller (suc n) rest answers) a.places here.0.places b.places old between new
      (one.each n a here.0 at here.1) (two.each n here.0 b here.1 there_now));
}

-- others than the callers go on behind them
pub places-on : (lines : List ActionLine) (before after : List LineReply) (was now : List NamesState) (old between new : List Entry) → length was ≡ 16 → PlacesRan lines before after was now old between → ((me : ℕ) → 1 ≤ me → me ≤ 16 → IsIdle me between new) → PlacesRan lines before after was now old new
places-on lines before after was now old between new sixteen ran idle = record {
  each = λ answers n a b grew first second.
      let within : n < 16 = omega (arith, slice_get_within was n a first, sixteen) in
      both-on (suc n) (asked_by_caller (suc n) lines answers) a.places b.places old between new (ran.each answers n a b grew first second) (idle (suc n) (omega arith) (omega (arith, within)));
}

-- ---- the queues of the places

-- what is said of each item of a row is said of all
all-of : (queues : Queues) (rows : List NamesState) → ((n : ℕ) (a : NamesState) → slice_get rows n ≡ Some a → queues_of a.places ≡ queues) → AreOfQueues queues rows
all-of queues [] each = tt
all-of queues (row ∷ rows) each = (each 0 row refl, all-of queues rows (λ n a at. each (suc n) a at))

pub own-at : (queues : Queues) (rows : List NamesState) (n : ℕ) (a : NamesState) → AreOfQueues queues rows → slice_get rows n ≡ Some a → queues_of a.places ≡ queues
own-at queues [] n a own at = absurd (cc at)
own-at queues (row ∷ rows) zero a own at =
    let is : row ≡ a = cc at in
    subst (λ (c : NamesState). queues_of c.places ≡ queues) is own.0
own-at queues (row ∷ rows) (suc n) a own at = own-at queues rows n a own.1 at

-- places in whose stead others at the same queues were put
pub own-put : (queues : Queues) (rows : List NamesState) (k : ℕ) (was now : NamesState) → AreOfQueues queues rows → slice_get rows k ≡ Some was → queues_of now.places ≡ queues_of was.places → AreOfQueues queues (slice_set rows k now)
own-put queues [] k was now own at same = tt
own-put queues (row ∷ rows) zero was now own at same =
    let is : row ≡ was = cc at in
    (same ∙ (ap (λ (c : NamesState). queues_of c.places) (sym is) ∙ own.0), own.1)
own-put queues (row ∷ rows) (suc k) was now own at same = (own.0, own-put queues rows k was now own.1 at same)

pub own-went : (queues : Queues) (me : ℕ) (lines : List (Action × Answer)) (was now : Places) (old new : List Entry) → PlacesWent me lines was now old new → queues_of was ≡ queues → queues_of now ≡ queues
own-went queues me lines was now old new went own = both-queues me lines was now old new went ∙ own

-- the places stay at their queues
pub own-after : (queues : Queues) (lines : List ActionLine) (answers : List LineReply) (was now : List NamesState) (old new : List Entry) → length now ≡ length was → AreOfQueues queues was → PlacesSo lines answers was now old new → AreOfQueues queues now
own-after queues lines answers was now old new rows own so =
    all-of queues now (λ n b at.
    let a = there was n (omega (arith, slice_get_within now n b at, rows)) in
    own-went queues (suc n) (asked_by_caller (suc n) lines answers) a.0.places b.places old new (so.each n a.0 b a.1 at) (own-at queues was n a.0 own a.1))

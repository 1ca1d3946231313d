-- What the writing of one page leaves is what a noncached write leaves of a page.
use Rattle.std.specs.Prelude.{◌≡◌, ℕ, suc, ◌-◌, ◌*◌, ◌≤◌, ◌<◌, Bool, true, false, ◌||◌, min, List, [], ◌∷◌, ◌++◌, length, Result, Ok, Err, Some, refl}
use Rattle.std.proofs.Common.{ap, sym, ◌∙◌, subst, arith, append_assoc, inr}
use Rattle.std.proofs.lemmas.Bool.{eq-eqb}
use Rattle.cc_entry.specs.Place.{File, Page}
use Rattle.cc_entry.specs.declared.call.Call.{Call}
use Rattle.cc_entry.specs.declared.call.Call.TheVariants as call
use Rattle.cc_entry.specs.declared.entry.End.{End}
use Rattle.cc_entry.specs.declared.entry.End.TheVariants as how
use Rattle.cc_entry.specs.declared.entry.Entry.{Entry}
use Rattle.cc_entry.specs.declared.entry.Entry.TheVariants as entry
use Rattle.cc_entry.specs.declared.error.CcError.{CcError}
use Rattle.cc_entry.specs.declared.error.CcError.TheVariants as error
use Rattle.cc_entry.specs.declared.reply.Outcome.TheVariants as outcome
use Rattle.cc_entry.specs.declared.reply.Reply.TheVariants as reply
use Rattle.cc_book.specs.Stored.{store_done}
use Rattle.cc_effects.specs.Asked.{Calls, makes_way, may_take_out}
use Rattle.cc_effects.specs.Moments.{own, IsIdle, Others, EachOwn}
use Rattle.cc_effects.specs.Noncached.{StoreIsTransferred, IsPageWritten, TakesOut, TransferRefused, bytes_stored}
use Rattle.cc_effects.proofs.Stretches.{each-append, each-others, own-append, own-others}
use Rattle.cc_model.specs.Conditions.{MayFinish}
use Rattle.cc_model.specs.History.{history}
use Rattle.cc_model.specs.Passes.{calls_of, is_the_page, store_of, is_written_since}
use Rattle.cc_model.specs.Sizes.{stored_range}
use Rattle.cc_model.specs.Touches.{size_of}
use Rattle.cc_turns.specs.Standing.{Standing}
use Rattle.cc_writes.specs.Hands.{WentWith}
use Rattle.cc_writes.specs.Ways.{IsAtWork}
use Rattle.cc_writes.specs.Transfers.{IsFinished}
use Rattle.cc_writes.proofs.OneVisit.{went-number}
use Rattle.cc_writes.proofs.Works.{work-grown}
use Rattle.cc_ranges.specs.Ends.{PageOutAtMost, HasTidied, HasFinished, write_done, write_failed}
use Rattle.cc_ranges.specs.Pages.{FinishedLeft, ReadyWriteLeft, IsGivenUp, IsUnwritten}
use Rattle.cc_ranges.specs.Stores.{HasStored}
use Rattle.cc_ranges.proofs.WriteFinishing.{finish-others}
use Rattle.cc_ranges.proofs.Goods.{stored-end}
use Rattle.cc_ranges.proofs.PageWriting.{finishes-after}

-- how many bytes the store of a page changes
pub bytes-counted : (size page : ℕ) → 4096 * page < size → min (size - 4096 * page) 4096 ≡ (stored_range page size).to - 4096 * page
bytes-counted size page below = omega (arith, stored-end page size below, below)

module _ (n : ℕ) (w x : Standing) (file : File) (page : Page) (bytes : List ℕ) (begun : List Entry)
    (here : file.stream ≡ page.stream) (went : WentWith n w x) (stored : HasStored w file page bytes x.seen)
    (work : IsAtWork w.number (Calls (call.NcStore file page.page bytes)) begun w.seen) where
  abbrev me : ℕ
  me = w.number

  abbrev its : Page
  its = record { stream = file.stream; page = page.page }

  abbrev it : Call
  it = call.NcStore file page.page bytes

  same : page ≡ its
  same = ap (λ (s : ℕ). the-page s page.page) (sym here)
    where
      the-page : ℕ → ℕ → Page
      the-page s p = record { stream = s; page = p }

  at : IsAtWork me (Calls it) begun stored.front
  at = subst (λ (past : List Entry). IsAtWork me (Calls it) begun past) (sym stored.grows.grew) (work-grown me (Calls it) begun w.seen stored.grows.later stored.grows.others work)

  number : ℕ
  number = suc (calls_of stored.front me)

  seen-is : x.seen ≡ entry.WriteBegin me its ∷ entry.Call me number (Some file.stream) it (outcome.Done reply.Unit) ∷ (at.during ++ begun)
  unfolding number
  seen-is =
      stored.placed
      ∙ (ap (λ (p : Page). entry.WriteBegin me p ∷ store_done me stored.front file page bytes ∷ stored.front) same
      ∙ (ap (λ (s : ℕ). entry.WriteBegin me its ∷ entry.Call me number (Some s) it (outcome.Done reply.Unit) ∷ stored.front) (sym here)
      ∙ ap (λ (past : List Entry). entry.WriteBegin me its ∷ entry.Call me number (Some file.stream) it (outcome.Done reply.Unit) ∷ past) at.grew))

  pub transferred-so : (end : End) (seen : List Entry) → IsFinished x page end false seen → StoreIsTransferred me file page.page bytes end begun seen
  transferred-so end seen is = record {
    nth = number;
    earlier = at.during;
    waiting = is.later;
    works = at.works;
    unstopped = at.unstopped;
    quiet = subst (λ (m : ℕ). Others m is.later) (went-number n w x went) is.others;
    grew = is.placed
        ∙ (ap (λ (m : ℕ). entry.WriteEnd m page end ∷ (is.later ++ x.seen)) (went-number n w x went)
        ∙ (ap (λ (p : Page). entry.WriteEnd me p end ∷ (is.later ++ x.seen)) same
        ∙ ap (λ (past : List Entry). entry.WriteEnd me its end ∷ (is.later ++ past)) seen-is));
  }

  -- the page goes out as the end of the write may ask
  module _ (stored-is : is_the_page page (store_of x.seen x.number) ≡ true) (m : ℕ) (z : Standing) (gone : WentWith m x z) (is : IsFinished x page how.Good false z.seen) where
    number-is : z.number ≡ me
    number-is = went-number m x z gone ∙ went-number n w x went

    out-asked : (later : List Entry) → Others me later → may_take_out me (Calls (call.NcWrite file page.page)) its (later ++ z.seen) ≡ true
    out-asked later others =
        let may : MayFinish (later ++ z.seen) me page.stream page.page = finish-others me page.stream page.page later z.seen others
        (subst (λ (k : ℕ). MayFinish z.seen k page.stream page.page) number-is (finishes-after m x z page gone stored-is is)) in
        or-right (makes_way (call.NcWrite file page.page) its (later ++ z.seen))
        (rw (
          eq-eqb file.stream file.stream refl,
          eq-eqb page.page page.page refl,
          ap (λ (p : Page). is_the_page p (store_of (later ++ z.seen) me)) (sym same) ∙ may.stored,
          ap (λ (p : Page). is_written_since (later ++ z.seen) me p) (sym same) ∙ may.written,
        ) refl)
      where
        or-right : (a : Bool) {b : Bool} → b ≡ true → (a || b) ≡ true
        or-right true is = refl
        or-right false is = is

    out-each : (tidied later : List Entry) → PageOutAtMost me page tidied → Others me later → EachOwn me (TakesOut me file page.page z.seen) (tidied ++ later) z.seen
    out-each [] later only others = each-others me (TakesOut me file page.page z.seen) later z.seen others
    out-each (e ∷ []) later only others = (
      (λ mine. (
        only ∙ ap (λ (p : Page). entry.PageOut me p) same,
        rw only (ap (λ (p : Page). may_take_out me (Calls (call.NcWrite file page.page)) p (later ++ z.seen)) same ∙ out-asked later others),
      )),
      each-others me (TakesOut me file page.page z.seen) later z.seen others,
    )
    out-each (e ∷ (other ∷ more)) later only others = absurd only

    out-once : (tidied later : List Entry) → PageOutAtMost me page tidied → Others me later → length (own me (tidied ++ later)) ≤ 1
    out-once [] later only others = rw (own-others me later others) (omega arith)
    out-once (e ∷ []) later only others = rw (only, eq-eqb me me refl, own-others me later others) (omega arith)
    out-once (e ∷ (other ∷ more)) later only others = absurd only

    pub page-written : (count : ℕ) (seen : List Entry) → count ≡ bytes_stored page.stream page.page stored.front → HasFinished z file page seen → IsPageWritten me file page.page bytes count begun seen
    unfolding transferred-so at
    page-written count seen counted ended = record {
      ended = z.seen;
      transferred = transferred-so how.Good z.seen is;
      counted = counted ∙ (ap (λ (s : ℕ). bytes_stored s page.page stored.front) (sym here) ∙ ap (bytes_stored file.stream page.page) at.grew);
      nth = suc (calls_of ended.ended.front me);
      later = [];
      tidied = ended.ended.grows.later ++ (out.tidied ++ out.grows.later);
      goes_out = each-append me (TakesOut me file page.page z.seen) ended.ended.grows.later (out.tidied ++ out.grows.later) z.seen
          (each-others me (TakesOut me file page.page z.seen) ended.ended.grows.later ((out.tidied ++ out.grows.later) ++ z.seen) others-after)
          (out-each out.tidied out.grows.later only others);
      once = rw (own-append me ended.ended.grows.later (out.tidied ++ out.grows.later), own-others me ended.ended.grows.later others-after) (out-once out.tidied out.grows.later only others);
      quiet = tt;
      grew = ended.ended.placed
          ∙ (ap (λ (k : ℕ). write_done k file page ended.ended.front ∷ ended.ended.front) number-then
          ∙ (ap (λ (s : ℕ). entry.Call me (suc (calls_of ended.ended.front me)) (Some s) (call.NcWrite file page.page) (outcome.Done reply.Unit) ∷ ended.ended.front) (sym here)
          ∙ ap (λ (past : List Entry). entry.Call me (suc (calls_of ended.ended.front me)) (Some file.stream) (call.NcWrite file page.page) (outcome.Done reply.Unit) ∷ past)
          (ended.ended.grows.grew
          ∙ (ap (λ past. ended.ended.grows.later ++ past) (out.placed ∙ (ap (λ past. out.tidied ++ past) out.grows.grew ∙ sym (append_assoc out.tidied out.grows.later z.seen)))
          ∙ sym (append_assoc ended.ended.grows.later (out.tidied ++ out.grows.later) z.seen)))));
    }
      where
        -- the page went out where it could
        out : HasTidied z page ended.then_was.seen
        out = ended.tidied

        only : PageOutAtMost me page out.tidied
        only = subst (λ (k : ℕ). PageOutAtMost k page out.tidied) number-is out.only

        others : Others me out.grows.later
        others = subst (λ (k : ℕ). Others k out.grows.later) number-is out.grows.others

        -- and then others went on, before the entry of the write
        number-then : ended.then_was.number ≡ me
        number-then = went-number 0 z ended.then_was ended.went ∙ number-is

        others-after : Others me ended.ended.grows.later
        others-after = subst (λ (k : ℕ). Others k ended.ended.grows.later) number-then ended.ended.grows.others

  -- the write told that its transfer failed
  pub page-unwritten : (seen : List Entry) → IsUnwritten x file page seen → TransferRefused me file page.page bytes (error.WriteFault page.page) begun seen
  page-unwritten seen un = (
    refl,
    un.then_was.seen,
    suc (calls_of un.ended.front me),
    transferred-so how.Failed un.then_was.seen un.finished,
    record {
      later = [];
      earlier = un.ended.grows.later;
      grew = un.ended.placed
          ∙ (ap (λ (k : ℕ). write_failed k file page un.ended.front ∷ un.ended.front) number-there
          ∙ (ap (λ (s : ℕ). entry.Call me (suc (calls_of un.ended.front me)) (Some s) (call.NcWrite file page.page) (outcome.Failed (error.WriteFault page.page)) ∷ un.ended.front) (sym here)
          ∙ ap (λ (past : List Entry). entry.Call me (suc (calls_of un.ended.front me)) (Some file.stream) (call.NcWrite file page.page) (outcome.Failed (error.WriteFault page.page)) ∷ past) un.ended.grows.grew));
      is_own = eq-eqb me me refl;
      quiet_after = tt;
      quiet_before = subst (λ (k : ℕ). Others k un.ended.grows.later) number-there un.ended.grows.others;
    },
  )
    where
      number-there : un.then_was.number ≡ me
      number-there = went-number x.in_flight x un.then_was un.went ∙ went-number n w x went

  -- or that it found no memory
  pub page-wanted : (seen : List Entry) → IsGivenUp x page seen → TransferRefused me file page.page bytes error.NoMemory begun seen
  page-wanted seen is = (is.then_was.seen, transferred-so how.NoMemory is.then_was.seen is.finished, subst (λ (m : ℕ). IsIdle m is.then_was.seen seen) (went-number n w x went) is.idle)

  -- what follows the store leaves what the writing of the page does
  pub put-left : (size : ℕ) → is_the_page page (store_of x.seen x.number) ≡ true → size ≡ size_of (history stored.front page.stream) → 4096 * page.page < size → (answer : Result ℕ CcError) (seen : List Entry) → FinishedLeft x file page (min (size - 4096 * page.page) 4096) answer seen → ReadyWriteLeft w file page.page bytes answer begun seen
  put-left size stored-is sized below (Ok count) seen left =
      page-written stored-is x.in_flight left.1.then_was left.1.went left.1.finished count seen
      (left.0 ∙ (bytes-counted size page.page below ∙ ap (λ (k : ℕ). (stored_range page.page k).to - 4096 * page.page) sized)) left.1.ended
  put-left size stored-is sized below (Err (error.WriteFault failed)) seen left =
      inr (subst (λ (k : ℕ). TransferRefused me file page.page bytes (error.WriteFault k) begun seen) (sym left.0) (page-unwritten seen left.1))
  put-left size stored-is sized below (Err error.NoMemory) seen left = inr (page-wanted seen left)
  put-left size stored-is sized below (Err other) seen left = absurd left

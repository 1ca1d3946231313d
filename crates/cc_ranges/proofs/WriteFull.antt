-- Where the write of a page finds the journal full: as it is refused, as a page is written to make room, or at its store.
use Rattle.std.specs.Prelude.{◌≡◌, ℕ, ◌≤◌, Result, Ok, Err, List}
use Rattle.std.specs.declared.option.Option.TheVariants.{Some}
use Rattle.std.proofs.Common.{ap, sym, subst, arith, inl, inr}
use Rattle.cc_entry.specs.Place.{File, Page}
use Rattle.cc_entry.specs.declared.call.Call.{Call}
use Rattle.cc_entry.specs.declared.call.Call.TheVariants as call
use Rattle.cc_entry.specs.declared.entry.Entry.{Entry}
use Rattle.cc_entry.specs.declared.error.CcError.{CcError}
use Rattle.cc_entry.specs.declared.error.CcError.TheVariants as error
use Rattle.cc_book.specs.Book.{BookState}
use Rattle.cc_model.specs.Covered.{IsLogged}
use Rattle.cc_model.specs.History.{history}
use Rattle.cc_model.specs.Setup.{Setup}
use Rattle.cc_turns.specs.Standing.{Standing}
use Rattle.cc_turns.specs.Takes.{Grows, without_book, without_device}
use Rattle.cc_writes.specs.Calls.{IsFullWriting}
use Rattle.cc_writes.specs.Hands.{HasBook, WentWith}
use Rattle.cc_writes.specs.Ways.{IsFullError}
use Rattle.cc_writes.proofs.Fullness.{full-more, given-full, given-writing}
use Rattle.cc_writes.proofs.Quiet.{flushed_to-grows, history-kept, holds_the_book, logged-kept}
use Rattle.cc_ranges.specs.Pages.{FinishedLeft}
use Rattle.cc_ranges.specs.Stores.{HasToStore, IsFullStoring, IsReadyToStore}
use Rattle.cc_ranges.specs.WriteHeld.{IsFullWriteRound, write_round_of}
use Rattle.cc_ranges.proofs.Storing.{refusal-history}

-- where nobody else changed the stream, a page that was to be stored is still
pub still-to-store : (n : ℕ) (w x : Standing) (file : File) (page : Page) (b : BookState) → HasBook w page.stream b → w.held.device ≡ Some page.stream → WentWith n w x → IsReadyToStore w.setup w.seen file page → IsLogged w.seen page.stream page.page → Grows w x.seen → HasToStore x.setup file page x.seen
still-to-store n w x file page b has device went ready logged grows =
    let same : history x.seen page.stream ≡ history w.seen page.stream = history-kept w page.stream x.seen (holds_the_book w page.stream b has) device grows in
    subst (λ (u : Setup). HasToStore u file page x.seen) (sym (ap (λ (y : Standing). y.setup) went.same))
    (record {
      ready = record {
        here = ready.here;
        admitted = refusal-history w.setup w.seen x.seen file page.page page.stream same ready.admitted;
        in_quota = rw same ready.in_quota;
      };
      logged = logged-kept w.seen x.seen page.stream page.page same (λ handle. flushed_to-grows w x.seen handle grows) logged;
    })

-- a page that was stored finds no journal full any more
pub full-finished : (w v : Standing) (file : File) (page : Page) (count : ℕ) (answer : Result ℕ CcError) (seen : List Entry) → FinishedLeft w file page count answer seen → IsFullStoring file page v answer
full-finished w v file page count (Ok n) seen left = inl (inl tt)
full-finished w v file page count (Err (error.WriteFault failed)) seen left = inl (inl tt)
full-finished w v file page count (Err error.NoMemory) seen left = inl (inl tt)
full-finished w v file page count (Err other) seen left = absurd left

-- a round that wrote a page, or did not
pub full-round : (file : File) (page : ℕ) (w : Standing) (r : Result Call CcError) → IsFullWriting (call.NcWrite file page) w r → IsFullWriteRound file page w (write_round_of r)
full-round file page w (Ok again) full = tt
full-round file page w (Err e) full = full

-- so with the turns of the disk and of the book given back
pub given-storing : (file : File) (page : Page) (y : Standing) (answer : Result ℕ CcError) → IsFullStoring file page y answer → IsFullStoring file page (without_device (without_book y)) answer
given-storing file page y answer (inl writing) = inl (given-writing (call.NcWrite file page.page) y answer writing)
given-storing file page y answer (inr full) = inr (full.0, given-full 4 y answer full.1)

-- no more than four places are asked
pub full-most : (file : File) (page : Page) (w : Standing) (e : CcError) → IsFullStoring {A = Unit {0}} file page w (Err e) → IsFullError 4 w e
full-most file page w e (inl (inl one)) = full-more 1 4 w e (omega arith) one
full-most file page w e (inl (inr two)) = full-more 2 4 w e (omega arith) two.1
full-most file page w e (inr four) = four.1

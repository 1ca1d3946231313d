-- A page that was read comes in by its bytes; one without a byte below the valid data length comes in as zeros; one with
-- such a byte that was not read stays out.
use Rattle.std.specs.Prelude.{◌≡◌, ℕ, ◌+◌, ◌*◌, ◌<◌, ◌≤◌, true, false, nat_lt, List, Option, Some, Ok, Err, Result, refl}
use Rattle.std.proofs.Common.{sym, ◌∙◌, inl, inr, arith}
use Rattle.std.proofs.lemmas.Bool.{ltb-false}
use Rattle.cc_entry.specs.declared.call.Call.{Call}
use Rattle.cc_entry.specs.declared.error.NoMemory.{NoMemory}
use Rattle.cc_book.specs.Book.{BookState}
use Rattle.cc_journal.specs.Journal.{JournalState}
use Rattle.cc_model.specs.History.{history}
use Rattle.cc_model.specs.Setup.{Setup}
use Rattle.cc_model.specs.Touches.{valid_of}
use Rattle.cc_step.specs.Fill.{PageIsRead, BringLeft, LandLeft}
use Rattle.cc_step.proofs.Waiting.{needs}
use Rattle.cc_step.proofs.landing.place.Goals as goal

-- a page that came in has landed
landed : {Q : Type 0} (u : Setup) (pass : ℕ) (it : Call) (page : ℕ) (raw : Option (List ℕ)) (answer : Result (Unit {0}) NoMemory) (b c : BookState) (j k : JournalState Q) → BringLeft u pass it page answer b c j k → LandLeft u pass it page raw answer b c j k
landed u pass it page raw (Ok done) b c j k came = inl came
landed u pass it page raw (Err e) b c j k none = none

pub returns-in-Some : goal.returns-in-Some
returns-in-Some g c u it may read =
    let past = c.args.journal.now.entries in
    let s = c.args.book.now.stream in
    let n = needs u past s it c.args.page may.wanted.waits in
    let told : PageIsRead u past s c.args.page (Some c.in-Some.bytes.now) = rw c.in-Some.is at read in
    landed u c.args.pass it c.args.page _ c.bring_in.result c.args.book.now c.bring_in.new.book c.args.journal.now c.bring_in.new.journal
    (c.bring_in.ensures u it may (told n.absent))

pub returns-then-has_valid_byte : goal.returns-then-has_valid_byte
returns-then-has_valid_byte g c u it may read =
    let past = c.args.journal.now.entries in
    let s = c.args.book.now.stream in
    let below : nat_lt (4096 * c.args.page) (valid_of (history past s)) ≡ true = sym (c.has_valid_byte.ensures (u.opening s) past may.may.may.stand.stands) ∙ c.if-has_valid_byte.true in
    inr (record {
      reason = inr (inr (below, rw c.in-None.is refl));
      given_back = c.release.ensures;
      same = refl;
    })

pub returns-else-has_valid_byte : goal.returns-else-has_valid_byte
returns-else-has_valid_byte g c u it may read =
    let past = c.args.journal.now.entries in
    let s = c.args.book.now.stream in
    let none : nat_lt (4096 * c.args.page) (valid_of (history past s)) ≡ false = sym (c.has_valid_byte.ensures (u.opening s) past may.may.may.stand.stands) ∙ c.if-has_valid_byte.false in
    landed u c.args.pass it c.args.page _ c.bring_in-else-has_valid_byte.result c.args.book.now c.bring_in-else-has_valid_byte.new.book c.args.journal.now c.bring_in-else-has_valid_byte.new.journal
    (c.bring_in-else-has_valid_byte.ensures u it may (λ pages is i low within. absurd (past-end (valid_of (history past s)) i (ltb-false (4096 * c.args.page) (valid_of (history past s)) none) within)))
  where
    past-end : (valid i : ℕ) → valid ≤ 4096 * c.args.page → 4096 * c.args.page + i < valid → ⊥
    past-end valid i a b = omega arith

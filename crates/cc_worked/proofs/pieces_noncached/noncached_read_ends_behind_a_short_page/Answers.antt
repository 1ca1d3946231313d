-- The first page is not whole, so the page behind it has its entry, and ends the read.
use Rattle.std.specs.Prelude.{◌≡◌, ℕ, ◌+◌, ◌<◌, true, List, [], ◌∷◌, ◌++◌, length, refl}
use Rattle.std.specs.declared.option.Option.TheVariants.{Some}
use Rattle.std.proofs.Common.{ap, ◌∙◌, arith, inl, inr}
use Rattle.std.proofs.lemmas.List.{length-append}
use Rattle.cc_entry.specs.declared.error.CcError.TheVariants as error
use Rattle.cc_entry.specs.declared.reply.Outcome.TheVariants as outcome
use Rattle.cc_entry.specs.declared.reply.Reply.TheVariants as reply
use Rattle.cc_entry.specs.declared.entry.Entry.{Entry}
use Rattle.cc_effects.specs.Asked.{Calls}
use Rattle.cc_effects.specs.Calls.{CallLeft, IsDone, has_no_write}
use Rattle.cc_effects.specs.Noncached.{EndsShort, PagesRead}
use Rattle.cc_effects.proofs.Starts.{begins, done_by, ends_refused}
use Rattle.cc_effects.proofs.Stretches.{some-end}
use Rattle.cc_effects.proofs.WorkSteps.{works-others}
use Rattle.cc_worked.specs.Values.{setup, a, page}
use Rattle.cc_worked.specs.PiecesReads.{two_pages}
use Rattle.cc_worked.specs.PiecesNoncached.{some_bytes, a_page, first_read, second_read, third_read, both_pages, short_page_first, short_page_alone, refused_further}
use Rattle.cc_worked.proofs.PiecesOpened.{computed, neither}
use Rattle.cc_worked.proofs.Marks.{Ended, Mark, Marked, marked-call, marked-then, marks, shows}
use Rattle.cc_worked.proofs.pieces_noncached.noncached_read_ends_behind_a_short_page.Goals as goal

first-done : IsDone 1 first_read a_page two_pages (short_page_alone ++ two_pages)
unfolding computed
first-done =
    done_by 1 1 (Some 0) first_read a_page [] two_pages (works-others 1 (Calls first_read) [] two_pages tt) refl refl
    (inr (some-end (λ moment. has_no_write (page 0) moment ≡ true) [] two_pages refl))

second-done : IsDone 1 second_read a_page (short_page_alone ++ two_pages) (short_page_first ++ two_pages)
unfolding computed
second-done =
    done_by 1 2 (Some 0) second_read a_page [] (short_page_alone ++ two_pages) (works-others 1 (Calls second_read) [] (short_page_alone ++ two_pages) tt) refl refl
    (inr (some-end (λ moment. has_no_write (page 1) moment ≡ true) [] (short_page_alone ++ two_pages) refl))

pub returns-clause-untold : goal.returns-clause-untold
returns-clause-untold c = inr (short_page_alone ++ two_pages, omega arith, first-done, (some_bytes, second-done))

pub returns-clause-refused : goal.returns-clause-refused
unfolding computed
returns-clause-refused c =
    let past : List Entry = short_page_alone ++ two_pages in
    (omega arith, (past, some_bytes, omega arith, first-done, (refl, inl (ends_refused 1 2 (Some 0) second_read error.NotCached past past (begins 1 second_read past) refl refl))))

-- so few bytes are no whole page, nor more
whole-never : (bytes : List ℕ) (new : List Entry) → length bytes < 4096 → ((between : List Entry) × (first : List ℕ) × (rest : List ℕ) × (bytes ≡ first ++ rest) × (length first ≡ 4096) × CallLeft setup 1 first_read (outcome.Done (reply.Read first)) two_pages between × PagesRead setup 1 a (1 ∷ []) rest between new) → ⊥
whole-never bytes new few left =
    let long : length bytes ≡ length left.1 + length left.2 = ap length left.3 ∙ length-append left.1 left.2 in
    omega (arith, few, long, left.4)

-- a page that came short, and the one behind it, have the marks of both
short-marks : (bytes : List ℕ) (piece : List Entry) → EndsShort setup 1 a 0 (1 ∷ []) bytes two_pages (piece ++ two_pages) → (told : List ℕ) × (marks 1 piece ≡ Ended first_read (outcome.Done (reply.Read bytes)) ∷ Ended second_read (outcome.Done (reply.Read told)) ∷ [])
short-marks bytes piece left =
    let first : List Mark = Ended first_read (outcome.Done (reply.Read bytes)) ∷ [] in
    let second : List Mark = Ended second_read (outcome.Done (reply.Read left.3.0)) ∷ [] in (
      left.3.0,
      shows 1 (Ended first_read (outcome.Done (reply.Read bytes)) ∷ Ended second_read (outcome.Done (reply.Read left.3.0)) ∷ []) piece two_pages
          (marked-then 1 first second two_pages left.0 (piece ++ two_pages)
          (marked-call setup 1 first_read (outcome.Done (reply.Read bytes)) two_pages left.0 left.2 refl)
          (marked-call setup 1 second_read (outcome.Done (reply.Read left.3.0)) left.0 (piece ++ two_pages) left.3.1 refl)),
    )

pub returns-clause-not_told : goal.returns-clause-not_told
returns-clause-not_told c left =
    neither (whole-never both_pages (short_page_first ++ two_pages) (omega arith)) (λ short. let its = short-marks both_pages short_page_first short in other its.0 its.1) left
  where
    other : (told : List ℕ) → marks 1 short_page_first ≡ Ended first_read (outcome.Done (reply.Read both_pages)) ∷ Ended second_read (outcome.Done (reply.Read told)) ∷ [] → ⊥
    other told same = absurd (cc)

pub returns-clause-not_unread : goal.returns-clause-not_unread
returns-clause-not_unread c left =
    neither (whole-never some_bytes (short_page_alone ++ two_pages) (omega arith)) (λ short. let its = short-marks some_bytes short_page_alone short in other its.0 its.1) left
  where
    other : (told : List ℕ) → marks 1 short_page_alone ≡ Ended first_read (outcome.Done (reply.Read some_bytes)) ∷ Ended second_read (outcome.Done (reply.Read told)) ∷ [] → ⊥
    other told same = absurd (cc)

pub returns-clause-not_further : goal.returns-clause-not_further
returns-clause-not_further c left =
    let first = left.1 in
    let second = first.4 in
    let third = second.4 in
    let one : List Mark = Ended first_read (outcome.Done (reply.Read first.1)) ∷ [] in
    let two : List Mark = Ended second_read (outcome.Done (reply.Read second.1)) ∷ [] in
    let three : List Mark = Ended third_read (outcome.Failed error.NotCached) ∷ [] in
    let new : List Entry = refused_further ++ two_pages in
    let behind : Marked 1 (two ++ three) first.0 new =
    marked-then 1 two three first.0 second.0 new (marked-call setup 1 second_read (outcome.Done (reply.Read second.1)) first.0 second.0 second.3 refl)
    (marked-call setup 1 third_read (outcome.Failed error.NotCached) second.0 new third.1 refl) in
    let all : Marked 1 (one ++ (two ++ three)) two_pages new =
    marked-then 1 one (two ++ three) two_pages first.0 new (marked-call setup 1 first_read (outcome.Done (reply.Read first.1)) two_pages first.0 first.3 refl) behind in
    not_whole first.1 (told first.1 second.1 (shows 1 (one ++ (two ++ three)) refused_further two_pages all)) first.2
  where
    told : (bytes more : List ℕ) → marks 1 refused_further ≡ Ended first_read (outcome.Done (reply.Read bytes)) ∷ Ended second_read (outcome.Done (reply.Read more)) ∷ Ended third_read (outcome.Failed error.NotCached) ∷ [] → some_bytes ≡ bytes
    told bytes more same = cc

    not_whole : (bytes : List ℕ) → some_bytes ≡ bytes → length bytes ≡ 4096 → ⊥
    not_whole bytes same whole = let one : 1 ≡ length bytes = ap length same in omega (arith, one, whole)

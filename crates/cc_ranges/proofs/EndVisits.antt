-- The visit in which a noncached write ends.
use Rattle.std.specs.Prelude.{◌≡◌, ℕ, suc, ◌+◌, ◌-◌, ◌<◌, ◌≤◌, Bool, true, false, List, [], ◌∷◌, ◌++◌, None, Some, refl, if◌then◌else◌}
use Rattle.std.specs.List.{AllByRecursion}
use Rattle.std.proofs.Common.{ap, sym, ◌∙◌, subst, arith}
use Rattle.std.proofs.lemmas.Bool.{eq-eqb}
use Rattle.cc_entry.specs.Place.{File, Page}
use Rattle.cc_entry.specs.declared.call.Call.{Call}
use Rattle.cc_entry.specs.declared.call.Call.TheVariants as call
use Rattle.cc_entry.specs.declared.entry.Entry.{Entry}
use Rattle.cc_entry.specs.declared.entry.Entry.TheVariants as entry
use Rattle.cc_entry.specs.declared.error.CcError.{CcError}
use Rattle.cc_entry.specs.declared.error.CcError.TheVariants as error
use Rattle.cc_entry.specs.declared.reply.Outcome.TheVariants as outcome
use Rattle.cc_entry.specs.declared.reply.Reply.{Reply}
use Rattle.cc_entry.specs.declared.reply.Reply.TheVariants as reply
use Rattle.cc_book.specs.Book.{BookState, BookStands, Gains, GoesOn, failed}
use Rattle.cc_journal.specs.Calls.{owed_end, owes_store}
use Rattle.cc_journal.specs.Journal.{JournalState}
use Rattle.cc_laws.proofs.HoldSteps.{changes_holds}
use Rattle.cc_laws.proofs.HistorySteps.{history-done, history-call_failed}
use Rattle.cc_laws.proofs.ImageSteps.{open_of-done}
use Rattle.cc_laws.proofs.TurnSteps.{is_quiet-none, is_quiet-unneeded}
use Rattle.cc_model.specs.Conditions.{MayFinish}
use Rattle.cc_model.specs.History.{history}
use Rattle.cc_model.specs.Images.{open_of}
use Rattle.cc_model.specs.Passes.{up_to_call, calls_of}
use Rattle.cc_model.specs.Room.{reserved_in}
use Rattle.cc_model.specs.Turns.{Turn, is_quiet}
use Rattle.cc_step.specs.Step.{StandUnder, is_answered}
use Rattle.cc_step.proofs.Reserved.{reserved-done, reserved-failed}
use Rattle.cc_turns.specs.Standing.{Standing, holds}
use Rattle.cc_turns.specs.Journal.{JournalStands}
use Rattle.cc_turns.specs.Takes.{AddsEvent, IsOneEvent, without_journal, may_be_of}
use Rattle.cc_writes.specs.Hands.{HasBook, IsAtRest, WentWith}
use Rattle.cc_writes.proofs.Owing.{reserved-page_out}
use Rattle.cc_writes.proofs.Placing.{unneeded-call}
use Rattle.cc_writes.proofs.OneVisit.{Visiting, Visited, visited, stepping-none, went-held}
use Rattle.cc_writes.proofs.Quiet.{history-kept, stands-same, book-after}
use Rattle.cc_writes.proofs.Placed.{quiet-page}
use Rattle.cc_dirty.specs.declared.row.Row.{Row}
use Rattle.cc_ranges.specs.Stores.{places_kept}
use Rattle.cc_ranges.specs.Ends.{MayFinishHere, PageOutAtMost, IsTidied, WriteIsEnded, HasTidied, HasEndedWrite, HasFailedSince, HasFailedWrite, MayFailHere, write_done, write_failed}
use Rattle.cc_ranges.proofs.WriteFinishing.{good-unwritten, stored-owes, finish-others, fails-others}

-- the next call of a pass that owes the end of a write gives that place back
owes-one : (past : List Entry) (pass : ℕ) → owes_store past pass ≡ true → owed_end past pass ≡ 1
owes-one past pass owes = ap (λ (b : Bool). if b then 1 else 0) owes

one-less : (owed after before : ℕ) → owed ≡ 1 → owed + after ≡ before → before ≡ suc after
one-less owed after before one is = omega (arith, one, is)

after-store : (past : List Entry) (pass nth stream : ℕ) (it : Call) (r : Reply) → is_answered it ≡ true → changes_holds it ≡ false → owes_store past pass ≡ true → reserved_in past ≡ suc (reserved_in (entry.Call pass nth (Some stream) it (outcome.Done r) ∷ past))
after-store past pass nth stream it r here kept owes = one-less _ _ _ (owes-one past pass owes) (reserved-done past pass nth stream it r here kept)

after-failure : (past : List Entry) (pass nth stream : ℕ) (it : Call) (e : CcError) → is_answered it ≡ true → owes_store past pass ≡ true → reserved_in past ≡ suc (reserved_in (entry.Call pass nth (Some stream) it (outcome.Failed e) ∷ past))
after-failure past pass nth stream it e here owes = one-less _ _ _ (owes-one past pass owes) (reserved-failed past pass nth stream it e here)

-- a page that goes out leaves what is reserved
out-reserved : (pass : ℕ) (page : Page) (tidied past : List Entry) → PageOutAtMost pass page tidied → reserved_in (tidied ++ past) ≡ reserved_in past
out-reserved pass page [] past only = refl
out-reserved pass page (e ∷ []) past only = ap (λ (x : Entry). reserved_in (x ∷ past)) only ∙ reserved-page_out pass page past
out-reserved pass page (e ∷ (other ∷ more)) past only = absurd only

-- it is one event
out-event : (pass : ℕ) (page : Page) (tidied : List Entry) → PageOutAtMost pass page tidied → IsOneEvent tidied
out-event pass page [] only = tt
out-event pass page (e ∷ []) only = tt
out-event pass page (e ∷ (other ∷ more)) only = absurd only

out-own : (pass : ℕ) (page : Page) (tidied : List Entry) (me : ℕ) → pass ≡ me → PageOutAtMost pass page tidied → AllByRecursion (λ e. may_be_of me e ≡ true) tidied
out-own pass page [] me same only = tt
out-own pass page (e ∷ []) me same only = (subst (λ (x : Entry). may_be_of me x ≡ true) (sym only) (eq-eqb pass me same), tt)
out-own pass page (e ∷ (other ∷ more)) me same only = absurd only

-- one place is kept where one is kept
pub kept-one : (kept : Bool) → places_kept kept ≡ 1 → kept ≡ true
kept-one true one = refl
kept-one false one = absurd (omega (arith, one))

pub kept-most : (kept : Bool) → places_kept kept ≤ 1
kept-most true = omega arith
kept-most false = omega arith

-- What the pass gives after the end, and how it goes on.
pub record EndVisit {Q : Type 0} (posted : Q → Bool) (w v : Standing) (file : File) (page : Page) (flight : ℕ) (c : BookState) (k : JournalState Q) (Left : Type 0) : Type 0 where
  pub adds : AddsEvent v k.entries
  pub journal : JournalStands posted (without_journal k v) k
  pub book : HasBook (without_journal k v) page.stream c
  pub rest : IsAtRest (without_journal k v) page.stream
  pub went : WentWith flight w (without_journal k v)
  pub left : Left

module _ {Q : Type 0} (posted : Q → Bool) (w v : Standing) (file : File) (page : Page) (b : BookState) (j : JournalState Q)
    (has : HasBook w page.stream b) (rest : IsAtRest w page.stream) (here : file.stream ≡ page.stream) (vis : Visiting posted w v j) where
  abbrev the_book : w.held.book ≡ Some page.stream
  the_book = ap (λ h. h.book) has.held

  abbrev its : Call
  its = call.NcWrite file page.page

  same : history j.entries page.stream ≡ history w.seen page.stream
  same = history-kept w page.stream j.entries the_book rest.device vis.grows

  at_rest : open_of (history j.entries page.stream) ≡ None
  at_rest = ap open_of same ∙ rest.no_transfer

  setup_is : v.setup ≡ w.setup
  setup_is = ap (λ x. x.setup) vis.taken.same

  stand : StandUnder w.setup b j
  stand = record {
    good = vis.good;
    stands = subst (λ (n : ℕ). BookStands (w.setup.opening n) j.entries b) (sym has.stream)
        (stands-same (w.setup.opening page.stream) w.seen j.entries b (subst (λ (n : ℕ). history j.entries n ≡ history w.seen n) (sym has.stream) same) has.stands);
    logs_are = ap (λ u. u.logs) (sym setup_is) ∙ sym vis.journal.logs_are;
    threshold_is = ap (λ u. u.threshold) (sym setup_is) ∙ sym vis.journal.threshold_is;
  }

  some : (n owed less mine others : ℕ) → n ≡ owed + mine + others → owed ≡ suc less → 0 < n
  some n owed less mine others is one = omega (arith, is, one)

  less-one : (n owed rest mine others : ℕ) → n ≡ owed + mine + others → owed ≡ suc rest → n - 1 ≡ rest + mine + others
  less-one n owed rest mine others is one = omega (arith, is, one)

  rest-after : (flight : ℕ) (k : JournalState Q) (went : WentWith flight w (without_journal k v)) → open_of (history k.entries page.stream) ≡ None → IsAtRest (without_journal k v) page.stream
  rest-after flight k went none = record { device = ap (λ h. h.device) (went-held flight w (without_journal k v) went) ∙ rest.device; no_transfer = none }

  module _ (pass : ℕ) (me : pass ≡ w.number) where
    -- the write of a page that is on the disk
    module _ (finishes : MayFinish w.seen w.number page.stream page.page) where
      finishes-now : MayFinish j.entries pass page.stream page.page
      finishes-now =
          subst (λ (n : ℕ). MayFinish j.entries n page.stream page.page) (sym me)
          (subst (λ (past : List Entry). MayFinish past w.number page.stream page.page) (sym vis.grows.grew) (finish-others w.number page.stream page.page vis.grows.later w.seen vis.grows.others finishes))

      owes : owes_store j.entries pass ≡ true
      owes = stored-owes (record { stream = page.stream; page = page.page }) (up_to_call j.entries pass) finishes-now.stored

      pub may-finish-visit : MayFinishHere w.setup pass file page b j
      may-finish-visit = record {
        stand = stand;
        here = here;
        rest = at_rest;
        finishes = finishes-now;
        reserved = some j.reserved (reserved_in j.entries) (reserved_in (write_done pass file page j.entries ∷ j.entries)) w.in_flight v.others vis.reserved_is
            (after-store j.entries pass (suc (calls_of j.entries pass)) page.stream its reply.Unit refl refl owes);
      }

      out-quiet : (tidied : List Entry) → PageOutAtMost pass page tidied → (t : Turn) → holds (record w.held { journal = true }) t ≡ false → is_quiet t tidied ≡ true
      out-quiet [] only t free = is_quiet-none t
      out-quiet (e ∷ []) only t free =
          subst (λ (x : Entry). is_quiet t (x ∷ []) ≡ true) (sym only)
          (quiet-page (record w.held { journal = true }) page (entry.PageOut pass page) (λ t. refl) the_book rest.device refl t free)
      out-quiet (e ∷ (other ∷ more)) only t free = absurd only

      -- its page went out where it could
      module _ (kept : Bool) (flight : w.in_flight ≡ places_kept kept) where
        -- beside the place of the write's entry that which was kept is reserved
        pub spare-tidied : places_kept kept < j.reserved
        spare-tidied = beside j.reserved (reserved_in j.entries) (reserved_in (write_done pass file page j.entries ∷ j.entries)) w.in_flight (places_kept kept) v.others vis.reserved_is flight
            (after-store j.entries pass (suc (calls_of j.entries pass)) page.stream its reply.Unit refl refl owes)
          where
            beside : (n owed less mine kept others : ℕ) → n ≡ owed + mine + others → mine ≡ kept → owed ≡ suc less → kept < n
            beside n owed less mine kept others is same one = omega (arith, is, same, one)

      module _ (kept : Bool) (flight : w.in_flight ≡ places_kept kept) (c : BookState) (k : JournalState Q) (stream : c.stream ≡ b.stream) (is : IsTidied w.setup pass file page kept c j k) where
        entries-tidied : k.entries ≡ is.tidied ++ j.entries
        entries-tidied = ap (λ x. x.entries) is.placed

        given-tidied : Visited posted w v 0 k
        given-tidied = visited posted w v 0 is.tidied j k (ap (λ h. h.journal) has.held) vis (record {
          kept = is.placed ∙ ap (λ (n : ℕ). record j { entries = is.tidied ++ j.entries; reserved = n; rows = k.rows }) (sym (ap (λ x. x.reserved) is.placed));
          good = is.may.stand.good;
          event = out-event pass page is.tidied is.only;
          own = out-own pass page is.tidied w.number me is.only;
          held = out-quiet is.tidied is.only;
          reserved = ap (λ x. x.reserved) is.placed
              ∙ (back j.reserved (reserved_in j.entries) w.in_flight (places_kept kept) v.others vis.reserved_is flight
              ∙ ap (λ (n : ℕ). n + 0 + v.others) (sym (ap reserved_in entries-tidied ∙ out-reserved pass page is.tidied j.entries is.only)));
        })
          where
            back : (n owed mine kept others : ℕ) → n ≡ owed + mine + others → mine ≡ kept → n - kept ≡ owed + 0 + others
            back n owed mine kept others is same = omega (arith, is, same)

        pub tidying : EndVisit posted w v file page 0 c k (HasTidied w page k.entries × MayFinish k.entries w.number page.stream page.page)
        tidying = record {
          adds = given-tidied.adds;
          journal = given-tidied.journal;
          book = book-after 0 w (without_journal k v) page.stream b c has given-tidied.went (stream ∙ has.stream)
              (subst (λ (n : ℕ). BookStands (w.setup.opening n) k.entries c) (stream ∙ has.stream) is.may.stand.stands) given-tidied.good;
          rest = rest-after 0 k given-tidied.went is.may.rest;
          went = given-tidied.went;
          left = (
            record {
              front = j.entries;
              grows = vis.grows;
              tidied = is.tidied;
              only = subst (λ (n : ℕ). PageOutAtMost n page is.tidied) me is.only;
              out = λ one idle. subst (λ (n : ℕ). is.tidied ≡ entry.PageOut n page ∷ []) me (is.out (kept-one kept (sym flight ∙ one)) idle);
              placed = entries-tidied;
            },
            subst (λ (n : ℕ). MayFinish k.entries n page.stream page.page) me is.may.finishes,
          );
        }

      -- and it was done
      module _ (c : BookState) (k : JournalState Q) (stream : c.stream ≡ b.stream) (is : WriteIsEnded w.setup pass file page c j k) where
        abbrev last : Entry
        last = write_done pass file page j.entries

        entries : k.entries ≡ last ∷ j.entries
        entries = ap (λ x. x.entries) is.placed

        owed : reserved_in j.entries ≡ suc (reserved_in (last ∷ j.entries))
        owed = after-store j.entries pass (suc (calls_of j.entries pass)) page.stream its reply.Unit refl refl owes

        quiet : (t : Turn) → holds (record w.held { journal = true }) t ≡ false → is_quiet t (last ∷ []) ≡ true
        quiet t free = is_quiet-unneeded t last [] (unneeded-call w.held pass (suc (calls_of j.entries pass)) page.stream its (outcome.Done reply.Unit) refl the_book t free) ∙ is_quiet-none t

        given : Visited posted w v w.in_flight k
        given = visited posted w v w.in_flight (last ∷ []) j k (ap (λ h. h.journal) has.held) vis (record {
          kept = is.placed ∙ ap (λ (n : ℕ). record j { entries = last ∷ j.entries; reserved = n; rows = k.rows }) (sym (ap (λ x. x.reserved) is.placed));
          good = is.stand.good;
          event = tt;
          own = (eq-eqb pass w.number me, tt);
          held = quiet;
          reserved = ap (λ x. x.reserved) is.placed
              ∙ (less-one j.reserved (reserved_in j.entries) (reserved_in (last ∷ j.entries)) w.in_flight v.others vis.reserved_is owed
              ∙ ap (λ (n : ℕ). n + w.in_flight + v.others) (sym (ap reserved_in entries)));
        })

        pub finishing : EndVisit posted w v file page w.in_flight c k (HasEndedWrite w file page k.entries)
        finishing = record {
          adds = given.adds;
          journal = given.journal;
          book = book-after w.in_flight w (without_journal k v) page.stream b c has given.went (stream ∙ has.stream)
              (subst (λ (n : ℕ). BookStands (w.setup.opening n) k.entries c) (stream ∙ has.stream) is.stand.stands) given.good;
          rest = rest-after w.in_flight k given.went
              (ap (λ past. open_of (history past page.stream)) entries
              ∙ (ap open_of (history-done pass (suc (calls_of j.entries pass)) page.stream its reply.Unit j.entries page.stream (eq-eqb page.stream page.stream refl))
              ∙ (open_of-done pass its reply.Unit (history j.entries page.stream) ∙ at_rest)));
          went = given.went;
          left = record {
            front = j.entries;
            grows = vis.grows;
            placed = entries ∙ ap (λ (n : ℕ). write_done n file page j.entries ∷ j.entries) me;
          };
        }

    -- the write of a page whose transfer failed
    module _ (fails : HasFailedSince w.seen w.number page) where
      fails-now : HasFailedSince j.entries pass page
      fails-now =
          subst (λ (n : ℕ). HasFailedSince j.entries n page) (sym me)
          (subst (λ (past : List Entry). HasFailedSince past w.number page) (sym vis.grows.grew) (fails-others w.number page vis.grows.later w.seen vis.grows.others fails))

      owes-failed : owes_store j.entries pass ≡ true
      owes-failed = stored-owes page (up_to_call j.entries pass) fails-now.stored

      owed-failed : reserved_in j.entries ≡ suc (reserved_in (write_failed pass file page j.entries ∷ j.entries))
      owed-failed = after-failure j.entries pass (suc (calls_of j.entries pass)) page.stream its (error.WriteFault page.page) refl owes-failed

      pub may-fail-visit : MayFailHere w.setup pass file page b j
      may-fail-visit = record {
        stand = stand;
        here = here;
        fails = fails-now;
        reserved = some j.reserved (reserved_in j.entries) (reserved_in (write_failed pass file page j.entries ∷ j.entries)) w.in_flight v.others vis.reserved_is owed-failed;
      }

      module _ (kept : Bool) (flight : w.in_flight ≡ places_kept kept) (m : JournalState Q) (gained : Gains (failed pass j.entries b.stream its (error.WriteFault page.page)) j m) where
        -- the place that was kept is reserved still
        pub spare-failed : places_kept kept ≤ m.reserved
        spare-failed = beside m.reserved j.reserved (reserved_in j.entries) (reserved_in (write_failed pass file page j.entries ∷ j.entries)) w.in_flight (places_kept kept) v.others (ap (λ x. x.reserved) gained) vis.reserved_is flight owed-failed
          where
            beside : (left n owed less mine kept others : ℕ) → left ≡ n - 1 → n ≡ owed + mine + others → mine ≡ kept → owed ≡ suc less → kept ≤ left
            beside left n owed less mine kept others one is same owes = omega (arith, one, is, same, owes)

      module _ (kept : Bool) (flight : w.in_flight ≡ places_kept kept) (c : BookState) (m k : JournalState Q) (same_book : c ≡ b) (gains : Gains (failed pass j.entries b.stream its (error.WriteFault page.page)) j m) (goes : GoesOn j.entries m.entries b c) (forgone : k ≡ record m { reserved = m.reserved - places_kept kept }) where
        abbrev end : Entry
        end = write_failed pass file page j.entries

        placed-failed : m ≡ record j { entries = end ∷ j.entries; reserved = j.reserved - 1; rows = m.rows }
        placed-failed = gains ∙ ap (λ (n : ℕ). record j { entries = failed pass j.entries n its (error.WriteFault page.page) ∷ j.entries; reserved = j.reserved - 1; rows = m.rows }) has.stream

        rows-failed : k.rows ≡ m.rows
        rows-failed = ap (λ x. x.rows) forgone

        placed : k ≡ record j { entries = end ∷ j.entries; reserved = (j.reserved - 1) - places_kept kept; rows = k.rows }
        placed =
            forgone
            ∙ (ap (λ (x : JournalState Q). record x { reserved = x.reserved - places_kept kept; rows = m.rows }) placed-failed
            ∙ ap (λ (l : List Row). record j { entries = end ∷ j.entries; reserved = (j.reserved - 1) - places_kept kept; rows = l }) (sym rows-failed))

        entries-failed : k.entries ≡ end ∷ j.entries
        entries-failed = ap (λ x. x.entries) placed

        quiet-failed : (t : Turn) → holds (record w.held { journal = true }) t ≡ false → is_quiet t (end ∷ []) ≡ true
        quiet-failed t free = is_quiet-unneeded t end [] (unneeded-call w.held pass (suc (calls_of j.entries pass)) page.stream its (outcome.Failed (error.WriteFault page.page)) tt the_book t free) ∙ is_quiet-none t

        given-failed : Visited posted w v 0 k
        given-failed = visited posted w v 0 (end ∷ []) j k (ap (λ h. h.journal) has.held) vis (record {
          kept = placed ∙ ap (λ (n : ℕ). record j { entries = end ∷ j.entries; reserved = n; rows = k.rows }) (sym (ap (λ x. x.reserved) placed));
          good = rw entries-failed (good-unwritten w.setup j.entries pass file page vis.good here fails-now);
          event = tt;
          own = (eq-eqb pass w.number me, tt);
          held = quiet-failed;
          reserved = ap (λ x. x.reserved) placed
              ∙ (back j.reserved (reserved_in j.entries) (reserved_in (end ∷ j.entries)) w.in_flight (places_kept kept) v.others vis.reserved_is flight owed-failed
              ∙ ap (λ (n : ℕ). n + 0 + v.others) (sym (ap reserved_in entries-failed)));
        })
          where
            back : (n owed less mine kept others : ℕ) → n ≡ owed + mine + others → mine ≡ kept → owed ≡ suc less → (n - 1) - kept ≡ less + 0 + others
            back n owed less mine kept others is same owes = omega (arith, is, same, owes)

        pub failing : EndVisit posted w v file page 0 c k (HasFailedWrite w file page k.entries)
        failing = record {
          adds = given-failed.adds;
          journal = given-failed.journal;
          book = book-after 0 w (without_journal k v) page.stream b c has given-failed.went (ap (λ x. x.stream) same_book ∙ has.stream)
              (subst (λ (past : List Entry). BookStands (w.setup.opening page.stream) past c) (sym (ap (λ x. x.entries) forgone)) (goes (w.setup.opening page.stream) (subst (λ (n : ℕ). BookStands (w.setup.opening n) j.entries b) has.stream stand.stands))) given-failed.good;
          rest = rest-after 0 k given-failed.went
              (ap (λ past. open_of (history past page.stream)) entries-failed
              ∙ (ap open_of (history-call_failed pass (suc (calls_of j.entries pass)) (Some page.stream) its (error.WriteFault page.page) j.entries page.stream) ∙ at_rest));
          went = given-failed.went;
          left = record {
            front = j.entries;
            grows = vis.grows;
            placed = entries-failed ∙ ap (λ (n : ℕ). write_failed n file page j.entries ∷ j.entries) me;
          };
        }

-- The place that was kept for a page to go out was given back in a visit that placed nothing.
pub forgone : {Q : Type 0} (posted : Q → Bool) (w v : Standing) (kept : Bool) (j k : JournalState Q) → w.held.journal ≡ false → Visiting posted w v j → w.in_flight ≡ places_kept kept → k ≡ record j { reserved = j.reserved - places_kept kept } → Visited posted w v 0 k
forgone posted w v kept j k away vis flight same =
    visited posted w v 0 [] j k away vis (stepping-none posted w v 0 (j.reserved - places_kept kept) j k vis same (back j.reserved (reserved_in j.entries) w.in_flight (places_kept kept) v.others vis.reserved_is flight))
  where
    back : (n owed mine kept others : ℕ) → n ≡ owed + mine + others → mine ≡ kept → n - kept ≡ owed + 0 + others
    back n owed mine kept others is same = omega (arith, is, same)

pub forgone-spare : {Q : Type 0} (posted : Q → Bool) (w v : Standing) (kept : Bool) (j : JournalState Q) → Visiting posted w v j → w.in_flight ≡ places_kept kept → places_kept kept ≤ j.reserved
forgone-spare posted w v kept j vis flight = within j.reserved (reserved_in j.entries) w.in_flight (places_kept kept) v.others vis.reserved_is flight
  where
    within : (n owed mine kept others : ℕ) → n ≡ owed + mine + others → mine ≡ kept → kept ≤ n
    within n owed mine kept others is same = omega (arith, is, same)

-- What a call answers that may end now, by kinds of calls.
use Rattle.std.specs.Prelude.{◌≡◌, ℕ, Bool, true, false, not, List, [], ◌∷◌, None, Some, refl}
use Rattle.std.specs.declared.option.Option.{Option}
use Rattle.std.specs.Bool.{OnTrue}
use Rattle.std.specs.List.{find, list_all, list_any}
use Rattle.std.proofs.Common.{sym, ◌∙◌, subst}
use Rattle.cc_entry.specs.Pages.{pages_of}
use Rattle.cc_entry.specs.Place.{File, Range}
use Rattle.cc_entry.specs.declared.call.Call.{Call}
use Rattle.cc_entry.specs.declared.call.Call.TheVariants as call
use Rattle.cc_entry.specs.declared.query.Query.TheVariants as query
use Rattle.cc_entry.specs.declared.entry.Entry.{Entry}
use Rattle.cc_entry.specs.declared.reply.Reply.{Reply}
use Rattle.cc_book.specs.Book.{BookState}
use Rattle.cc_journal.specs.Journal.{JournalState}
use Rattle.cc_model.specs.Conditions.{IsFilled, IsReady, MayFinish}
use Rattle.cc_model.specs.Flushed.{is_flushed}
use Rattle.cc_model.specs.History.{Effect, history}
use Rattle.cc_model.specs.Legal.{stream_history}
use Rattle.cc_model.specs.Ranges.{needs_pages, span_has}
use Rattle.cc_model.specs.Refusals.{refusal}
use Rattle.cc_model.specs.Replies.{IsReply}
use Rattle.cc_model.specs.Residency.{is_resident, residents}
use Rattle.cc_model.specs.Setup.{Setup}
use Rattle.cc_step.proofs.Filled.{filled-none}
use Rattle.cc_step.proofs.Placed.{needed-filled}
use Rattle.cc_step.proofs.Waiting.{needed-range}
use Rattle.cc_step.specs.Step.{IsReadyFor, is_stepped, least_absent, needed_range}
use Rattle.cc_world.specs.Calls.{IsCallAnswer, CallIsUnrefused, MayReply, ends_on_book, unit_if}
use Rattle.cc_world.specs.Pages.{Says}
use Rattle.cc_effects.specs.Events.{filed_under, reason_of}

-- a range is not filled of which a page is absent
none-absent : (test : ℕ → Bool) (p : ℕ) (ps : List ℕ) → list_all test ps ≡ true → find (λ q. not (test q)) ps ≡ Some p → ⊥
none-absent test p [] all some = absurd (cc)
none-absent test p (q ∷ ps) all some = go (test q) refl (λ rest found. none-absent test p ps rest found)
  where
    go : (b : Bool) → test q ≡ b → (list_all test ps ≡ true → find (λ n. not (test n)) ps ≡ Some p → ⊥) → ⊥
    go true is rest = rest (rw is at all) (rw is at some)
    go false is rest = differ (rw is at all)
      where
        differ : false ≡ true → ⊥
        differ e = absurd (cc)

pub absent-unfilled : (h : List Effect) (r : Option Range) (p : ℕ) → IsFilled h r → least_absent h r ≡ Some p → ⊥
absent-unfilled h None p filled some = absurd (cc)
absent-unfilled h (Some r) p filled some = none-absent (is_resident h) p (pages_of r) filled some

-- a call that is stepped and needs a range asks that its pages are resident
needs-all : (u : Setup) (past : List Entry) (told : Option (ℕ → List ℕ)) (h : List Effect) (pass : ℕ) (it : Call) (range : Range) (r : Reply) → is_stepped it ≡ true → needed_range h it ≡ Some range → IsReply u past told h pass it r → needs_pages it r ≡ true
needs-all u past told h pass (call.NcRead file page) range r stepped needed is = absurd (cc)
needs-all u past told h pass (call.NcStore file page bytes) range r stepped needed is = absurd (cc)
needs-all u past told h pass (call.NcWrite file page) range r stepped needed is = absurd (cc)
needs-all u past told h pass (call.AheadStep request) range r stepped needed is = rw is ((needed-range h (call.AheadStep request) range needed).1)
needs-all u past told h pass other range r stepped needed is = refl

ready : (past : List Entry) (pass s : ℕ) (it : Call) → is_stepped it ≡ true → IsReady past pass s it
ready past pass s (call.Flush file span) stepped = absurd (cc)
ready past pass s (call.Purge file span) stepped = absurd (cc)
ready past pass s (call.Discard file span) stepped = absurd (cc)
ready past pass s (call.NcRead file page) stepped = absurd (cc)
ready past pass s (call.NcStore file page bytes) stepped = absurd (cc)
ready past pass s (call.NcWrite file page) stepped = absurd (cc)
ready past pass s other stepped = tt

pub admitted-stepped : (u : Setup) (past : List Entry) (s : ℕ) (it : Call) → is_stepped it ≡ true → filed_under past it ≡ Some s → reason_of u past it ≡ None → refusal u past (history past s) it ≡ None
admitted-stepped u past s (call.NcWrite file page) stepped here is = absurd (cc)
admitted-stepped u past s other stepped here is = subst (λ (o : Option ℕ). refusal u past (stream_history past o) other ≡ None) here is

on-needed : (b : Bool) (P : Type 0) → b ≡ true → OnTrue b P → P
on-needed true P is p = p
on-needed false P is p = absurd (cc)

module _ {Q : Type 0} (u : Setup) (pass : ℕ) (it : Call) (b : BookState) (j : JournalState Q) (stepped : is_stepped it ≡ true) (un : CallIsUnrefused u 0 pass it b j) where
  pub its-admitted : refusal u j.entries (history j.entries b.stream) it ≡ None
  its-admitted = admitted-stepped u j.entries b.stream it stepped un.made.here un.admitted

  abbrev h : List Effect
  h = history j.entries b.stream

  -- it waits for the page that is absent
  pub waits : (p : ℕ) → least_absent h (needed_range h it) ≡ Some p → (r : Reply) → MayReply u j.entries pass b.stream it r → ⊥
  waits p some r may = by (needed_range h it) refl some
    where
      by : (o : Option Range) → needed_range h it ≡ o → least_absent h o ≡ Some p → ⊥
      by None is found = absurd (cc)
      by (Some range) is found =
          let needs = needs-all u j.entries (u.opening b.stream) h pass it range r stepped is may.reply_is in
          absent-unfilled h (Some range) p
          (subst (λ (o : Option Range). IsFilled h o) ((needed-range h it range is).0) (on-needed (needs_pages it r) _ needs may.may_end.0)) found

  pub is-ready : least_absent h (needed_range h it) ≡ None → IsReadyFor u j.entries b.stream it
  is-ready none = record { admitted = its-admitted; filled = filled-none h _ none }

  pub replies : (r : Reply) → IsReadyFor u j.entries b.stream it → IsReply u j.entries (u.opening b.stream) h pass it r → MayReply u j.entries pass b.stream it r
  replies r is_ready is = record { reply_is = is; may_end = (needed-filled u j.entries pass b.stream it r is is_ready.filled, ready j.entries pass b.stream it stepped) }

pub stepped-else : (it : Call) → ends_on_book it ≡ true → ((file : File) (page : ℕ) → it ≡ call.NcWrite file page → ⊥) → ((file : File) (span : Option Range) → it ≡ call.Flush file span → ⊥) → ((file : File) (span : Option Range) → it ≡ call.Purge file span → ⊥) → ((file : File) (span : Option Range) → it ≡ call.Discard file span → ⊥) → is_stepped it ≡ true
stepped-else (call.NcRead file page) on_book a b c d = absurd (cc)
stepped-else (call.NcStore file page bytes) on_book a b c d = absurd (cc)
stepped-else (call.Query (query.DirtyPages handle)) on_book a b c d = absurd (cc)
stepped-else (call.Query query.IsDirtyData) on_book a b c d = absurd (cc)
stepped-else (call.NcWrite file page) on_book a b c d = absurd (a file page refl)
stepped-else (call.Flush file span) on_book a b c d = absurd (b file span refl)
stepped-else (call.Purge file span) on_book a b c d = absurd (c file span refl)
stepped-else (call.Discard file span) on_book a b c d = absurd (d file span refl)
stepped-else other on_book a b c d = refl

-- a purge may end whose span has no resident page
pub purge-answer : (u : Setup) (past : List Entry) (pass s : ℕ) (file : File) (span : Option Range) (resident : Bool) → resident ≡ list_any (span_has span) (residents (history past s)) → IsCallAnswer u past pass s (call.Purge file span) (unit_if (not resident))
purge-answer u past pass s file span true is = λ r may. differ (is ∙ may.may_end.1)
  where
    differ : true ≡ false → ⊥
    differ e = absurd (cc)
purge-answer u past pass s file span false is = record { reply_is = refl; may_end = (tt, sym is) }

-- a flush may end that may be done
pub flush-answer : (u : Setup) (past : List Entry) (pass s : ℕ) (file : File) (span : Option Range) (flushed : Bool) → flushed ≡ is_flushed past pass s span → IsCallAnswer u past pass s (call.Flush file span) (unit_if flushed)
flush-answer u past pass s file span false is = λ r may. differ (is ∙ may.may_end.1)
  where
    differ : false ≡ true → ⊥
    differ e = absurd (cc)
flush-answer u past pass s file span true is = record { reply_is = refl; may_end = (tt, sym is) }

-- the end of a noncached write may end whose store is the pass's last call, and written
pub finish-answer : (u : Setup) (past : List Entry) (pass s : ℕ) (file : File) (page : ℕ) (ends : Bool) → Says ends (MayFinish past pass s page) → IsCallAnswer u past pass s (call.NcWrite file page) (unit_if ends)
finish-answer u past pass s file page true may = record { reply_is = refl; may_end = (tt, may) }
finish-answer u past pass s file page false never = λ r may. never may.may_end.1

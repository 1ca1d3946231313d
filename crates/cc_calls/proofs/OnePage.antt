-- The writing of one page: what the pass placed for it, and what became of the page by that.
use Rattle.std.specs.Prelude.{◌≡◌, ℕ, suc, ◌+◌, ◌<◌, ◌≤◌, ◌⊎◌, Bool, true, false, cond, ◌&&◌, ◌||◌, List, [], ◌∷◌, ◌++◌, length, Result, Ok, Err, refl}
use Rattle.std.specs.declared.option.Option.TheVariants.{Some}
use Rattle.std.specs.List.{list_any, count_by}
use Rattle.std.proofs.Common.{ap, sym, ◌∙◌, subst, arith, append_assoc, inl, inr, ⊎_elim}
use Rattle.std.proofs.lemmas.Bool.{eq-eqb}
use Rattle.std.proofs.lemmas.List.{append_cancel_right}
use Rattle.std.proofs.lemmas.List.Sums.{sum_by-append}
use Rattle.cc_entry.specs.Place.{Page}
use Rattle.cc_entry.specs.declared.entry.End.{End}
use Rattle.cc_entry.specs.declared.entry.End.TheVariants as how
use Rattle.cc_entry.specs.declared.entry.Entry.{Entry}
use Rattle.cc_entry.specs.declared.entry.Entry.TheVariants as entry
use Rattle.cc_entry.specs.declared.error.CcError.{CcError}
use Rattle.cc_entry.specs.declared.error.CcError.TheVariants as error
use Rattle.cc_effects.specs.Asked.{Work, Writes, may_write}
use Rattle.cc_effects.specs.Moments.{own, Others, IsIdle, AtSome}
use Rattle.cc_effects.specs.PageWrites.{PageWrite as Became, Written, Skipped, NotWritten, NotLogged, BecameOf, CutOffSo, HadMemory, HasLogFailed, IsCutOff, PageWriteLeft, WantedMemory, ends_page, has_end, is_end_of, is_log_failure, is_not_logged, is_passed_over, pages_begun, pages_ended}
use Rattle.cc_effects.specs.Places.{Works}
use Rattle.cc_effects.specs.Stops.{found_no_memory, is_want}
use Rattle.cc_effects.proofs.Stretches.{own-others, own-after, own-before, some-end, some-before}
use Rattle.cc_effects.proofs.WorkSteps.{works-others, works-append, unsynced-others}
use Rattle.cc_model.specs.Faults.{is_failed}
use Rattle.cc_model.specs.History.{Effect, history}
use Rattle.cc_model.specs.Passes.{is_mine, is_same_page}
use Rattle.cc_model.specs.Settings.{log_of}
use Rattle.cc_model.specs.Sizes.{ended_ok}
use Rattle.cc_model.specs.Stamps.{is_unstamped}
use Rattle.cc_model.specs.Touches.{is_dirty}
use Rattle.cc_turns.specs.Standing.{Standing}
use Rattle.cc_turns.specs.Takes.{without_book, without_device}
use Rattle.cc_writes.specs.Logs.{IsWant}
use Rattle.cc_writes.specs.Ways.{IsAtWork, IsFull}
use Rattle.cc_writes.specs.Writes.{HasNotLogged, HasTransferred, IsBefore, IsToWrite, WorkWriteLeft, WriteShown}
use Rattle.cc_writes.specs.declared.writes.PageTransfer.{PageTransfer as Transferred}
use Rattle.cc_writes.specs.declared.writes.PageTransfer.TheVariants as transferred
use Rattle.cc_calls.specs.PageWrites.{AreOfFailure, AreOfLog, AreOfTransfer, IsFullPage, IsWrittenAmong, IsWrittenOf, PlacedFor, WriteOneLeft, page_write_answer, told_page_write}
use Rattle.cc_calls.specs.declared.page_writes.PageWriteAnswer.{PageWriteAnswer}
use Rattle.cc_calls.specs.declared.page_writes.PageWriteAnswer.TheVariants as write

pub same-page : (page : Page) → is_same_page page page ≡ true
same-page page = rw (eq-eqb page.stream page.stream refl, eq-eqb page.page page.page refl) refl

pub among-one : (page : Page) → list_any (is_same_page page) (page ∷ []) ≡ true
among-one page = rw (same-page page) refl

-- What a pass placed that wrote a page, by what is shown of it. A transfer:
of-transfer : (w : Standing) (page : Page) (how : End) (keeps : Bool) (seen during : List Entry) → HasTransferred w page how keeps seen → seen ≡ during ++ w.seen → AreOfTransfer w.number page how (own w.number during)
of-transfer w page how keeps seen during has grew = record {
  before = own w.number has.is_before.since;
  log = has.is_before.only;
  placed = ap (own w.number) same ∙ own-all;
}
  where
    same : during ≡ entry.WriteEnd w.number page how ∷ (has.later ++ (entry.WriteBegin w.number page ∷ has.is_before.since))
    same = append_cancel_right during (entry.WriteEnd w.number page how ∷ (has.later ++ (entry.WriteBegin w.number page ∷ has.is_before.since))) w.seen
        (sym grew ∙ (has.placed
        ∙ ap (λ (l : List Entry). entry.WriteEnd w.number page how ∷ l)
        (ap (λ (l : List Entry). has.later ++ entry.WriteBegin w.number page ∷ l) has.is_before.grew
        ∙ sym (append_assoc has.later (entry.WriteBegin w.number page ∷ has.is_before.since) w.seen))))

    own-begun : own w.number (has.later ++ (entry.WriteBegin w.number page ∷ has.is_before.since)) ≡ entry.WriteBegin w.number page ∷ own w.number has.is_before.since
    own-begun = own-after w.number has.later (entry.WriteBegin w.number page ∷ has.is_before.since) has.others ∙ rw (eq-eqb w.number w.number refl) refl

    own-all : own w.number (entry.WriteEnd w.number page how ∷ (has.later ++ (entry.WriteBegin w.number page ∷ has.is_before.since))) ≡ entry.WriteEnd w.number page how ∷ (entry.WriteBegin w.number page ∷ own w.number has.is_before.since)
    own-all = rw (eq-eqb w.number w.number refl) (ap (λ (l : List Entry). entry.WriteEnd w.number page how ∷ l) own-begun)

-- a failure of its log
of-failure : (w : Standing) (page : Page) (handle : ℕ) (seen during : List Entry) → HasNotLogged w page handle seen → seen ≡ during ++ w.seen → AreOfFailure w.number page during w.seen
of-failure w page handle seen during has grew = record {
  failed = record {
    handle = handle;
    after = [];
    before = has.grows.later;
    split = same;
    log = subst (λ (past : List Entry). log_of (history past page.stream) ≡ Some handle) has.grows.grew has.log;
  };
  only = ap (own w.number) same
      ∙ rw (eq-eqb w.number w.number refl) (ap (λ (l : List Entry). entry.LogFailed w.number handle ∷ l) (own-others w.number has.grows.later has.grows.others));
}
  where
    same : during ≡ entry.LogFailed w.number handle ∷ has.grows.later
    same = append_cancel_right during (entry.LogFailed w.number handle ∷ has.grows.later) w.seen
        (sym grew ∙ (has.placed ∙ ap (λ (past : List Entry). entry.LogFailed w.number handle ∷ past) has.grows.grew))

-- nothing, or a flush of its log
of-log : (w : Standing) (seen during : List Entry) → IsBefore w seen → seen ≡ during ++ w.seen → AreOfLog w.number (own w.number during)
of-log w seen during before grew =
    subst (λ (l : List Entry). AreOfLog w.number (own w.number l)) (append_cancel_right before.since during w.seen (sym before.grew ∙ grew)) before.only

placed-for : (w : Standing) (page : Page) (keeps : Bool) (r : Result Transferred CcError) (seen during : List Entry) → WriteShown w page keeps r seen → seen ≡ during ++ w.seen → PlacedFor w.number page (page_write_answer r) during w.seen
placed-for w page keeps (Ok transferred.Written) seen during shown grew = of-transfer w page how.Good keeps seen during shown grew
placed-for w page keeps (Ok transferred.NotWritten) seen during shown grew = inl (of-transfer w page how.Failed keeps seen during shown grew)
placed-for w page keeps (Ok (transferred.NotLogged handle)) seen during shown grew = inr (of-failure w page handle seen during shown grew)
placed-for w page keeps (Err (error.JournalFull entries)) seen during shown grew = of-log w seen during shown grew
placed-for w page keeps (Err error.NoMemory) seen during shown grew =
    ⊎_elim (λ before. inl (of-log w seen during before grew)) (λ has. inr (of-transfer w page how.NoMemory keeps seen during has grew)) shown
placed-for w page keeps (Err other) seen during shown grew = absurd shown

-- the work that it was
works-of : (me : ℕ) (work : Work) (page : Page) (r : Result Transferred CcError) (old new : List Entry) → WorkWriteLeft me work page r old new → (during : List Entry) × (new ≡ during ++ old) × Works me work during old
works-of me work page (Ok transferred.Written) old new left = (left.during, left.grew, left.works)
works-of me work page (Ok transferred.NotWritten) old new left = (left.stopped.during, left.stopped.grew, left.stopped.works)
works-of me work page (Ok (transferred.NotLogged handle)) old new left = (left.stopped.during, left.stopped.grew, left.stopped.works)
works-of me work page (Err (error.JournalFull entries)) old new left = (left.during, left.grew, left.works)
works-of me work page (Err error.NoMemory) old new left =
    ⊎_elim (λ is. (is.during, is.grew, is.works)) (λ want. (want.stopped.during, want.stopped.grew, want.stopped.works)) left
works-of me work page (Err other) old new left = absurd left

starts : (me : ℕ) (work : Work) (old : List Entry) → IsAtWork me work old old
starts me work old = record { during = []; grew = refl; works = works-others me work [] old tt; unsynced = refl; unstopped = refl }

-- A page was written, or was not.
pub written-by : (w : Standing) (page : Page) (keeps : Bool) (r : Result Transferred CcError) (seen : List Entry) → WriteShown w page keeps r seen → ((work : Work) (begun : List Entry) → may_write work page w.seen ≡ true → IsAtWork w.number work begun w.seen → WorkWriteLeft w.number work page r begun seen) → IsWrittenAmong w.number page (page_write_answer r) w.seen seen
written-by w page keeps r seen shown left pages among =
    let has = works-of w.number (Writes pages) page r w.seen seen (left (Writes pages) w.seen among (starts w.number (Writes pages) w.seen)) in
    record { during = has.0; grew = has.1; works = has.2; placed = placed-for w page keeps r seen has.0 shown has.1 }

-- It was skipped, since it was not to be written.
pub skipped-by : (me : ℕ) (page : Page) (old new : List Entry) → IsIdle me old new → is_passed_over page new ≡ true → IsWrittenAmong me page (Ok write.Skipped) old new
skipped-by me page old new idle over pages among = record {
  during = idle.during;
  grew = idle.grew;
  works = works-others me (Writes pages) idle.during old idle.others;
  placed = (
    own-others me idle.during idle.others,
    some-end (λ moment. is_passed_over page moment ≡ true) idle.during old (subst (λ (past : List Entry). is_passed_over page past ≡ true) idle.grew over),
  );
}

-- where there was no room for its transfer it is to be written still
pub full-by : (w v : Standing) (page : Page) (keeps : Bool) (r : Result Transferred CcError) → w.held.book ≡ Some page.stream → w.held.device ≡ Some page.stream → IsToWrite page w.seen → WriteShown w page keeps r v.seen → IsFull 2 v r → IsFullPage page v (page_write_answer r)
full-by w v page keeps (Ok transferred.Written) book device to_write shown full = tt
full-by w v page keeps (Ok transferred.NotWritten) book device to_write shown full = tt
full-by w v page keeps (Ok (transferred.NotLogged handle)) book device to_write shown full = tt
full-by w v page keeps (Err (error.JournalFull entries)) book device to_write shown full =
    let same = shown.same page.stream book device in (
      record {
        dirty = ap (λ (h : List Effect). is_dirty h page.page) same ∙ to_write.dirty;
        stamped = ap (λ (h : List Effect). is_unstamped h page.page) same ∙ to_write.stamped;
      },
      full,
    )
full-by w v page keeps (Err other) book device to_write shown full = tt

-- so with the turns of the disk and of the book given back
pub full-given : (page : Page) (y : Standing) (answer : Result PageWriteAnswer CcError) → IsFullPage page y answer → IsFullPage page (without_device (without_book y)) answer
full-given page y (Ok told) full = tt
full-given page y (Err (error.JournalFull entries)) full = full
full-given page y (Err other) full = tt

-- The same from an earlier moment, since which others went on.
abbrev failed-before : (me : ℕ) (page : Page) (during gap older : List Entry) → HasLogFailed me page during (gap ++ older) → HasLogFailed me page (during ++ gap) older
failed-before me page during gap older has = record {
  handle = has.handle;
  after = has.after;
  before = has.before ++ gap;
  split = ap (λ (l : List Entry). l ++ gap) has.split ∙ append_assoc has.after (entry.LogFailed me has.handle ∷ has.before) gap;
  log = subst (λ (past : List Entry). log_of (history past page.stream) ≡ Some has.handle) (sym (append_assoc has.before gap older)) has.log;
}

failure-before : (me : ℕ) (page : Page) (during gap older : List Entry) → Others me gap → AreOfFailure me page during (gap ++ older) → AreOfFailure me page (during ++ gap) older
failure-before me page during gap older others is = record { failed = failed-before me page during gap older is.failed; only = own-before me during gap others ∙ is.only }

placed-before : (me : ℕ) (page : Page) (answer : Result PageWriteAnswer CcError) (during gap older : List Entry) → Others me gap → PlacedFor me page answer during (gap ++ older) → PlacedFor me page answer (during ++ gap) older
placed-before me page (Ok write.Written) during gap older others placed = rw (own-before me during gap others) placed
placed-before me page (Ok write.Skipped) during gap older others placed = (
  own-before me during gap others ∙ placed.0,
  rw (append_assoc during gap older) (some-before (λ moment. is_passed_over page moment ≡ true) older gap (during ++ (gap ++ older)) placed.1),
)
placed-before me page (Ok write.Failed) during gap older others placed =
    ⊎_elim (λ transfer. inl (rw (own-before me during gap others) transfer)) (λ failed. inr (failure-before me page during gap older others failed)) placed
placed-before me page (Err (error.JournalFull entries)) during gap older others placed = rw (own-before me during gap others) placed
placed-before me page (Err error.NoMemory) during gap older others placed = rw (own-before me during gap others) placed
placed-before me page (Err other) during gap older others placed = absurd placed

written-behind : (me : ℕ) (pages : List Page) (page : Page) (answer : Result PageWriteAnswer CcError) (gap older new : List Entry) → Others me gap → IsWrittenOf me pages page answer (gap ++ older) new → IsWrittenOf me pages page answer older new
written-behind me pages page answer gap older new others is = record {
  during = is.during ++ gap;
  grew = rw (append_assoc is.during gap older) is.grew;
  works = works-append me (Writes pages) is.during gap older is.works (works-others me (Writes pages) gap older others) (unsynced-others me gap others);
  placed = placed-before me page answer is.during gap older others is.placed;
}

pub written-since : (me : ℕ) (page : Page) (answer : Result PageWriteAnswer CcError) (old between new : List Entry) → IsIdle me old between → IsWrittenAmong me page answer between new → IsWrittenAmong me page answer old new
written-since me page answer old between new idle is pages among =
    written-behind me pages page answer idle.during old new idle.others
    (subst (λ (past : List Entry). IsWrittenOf me pages page answer past new) idle.grew (is pages among))

-- A page was written after a look at it, in which others went on.
pub wrote : (w v : Standing) (seen : List Entry) (place page : Page) (keeps : Bool) (r : Result Transferred CcError) (answer : Result PageWriteAnswer CcError) → place ≡ page → v.number ≡ w.number → answer ≡ page_write_answer r → IsIdle w.number w.seen v.seen → WriteShown v place keeps r seen → ((work : Work) (begun : List Entry) → may_write work place v.seen ≡ true → IsAtWork v.number work begun v.seen → WorkWriteLeft v.number work place r begun seen) → IsWrittenAmong w.number page answer w.seen seen
wrote w v seen place page keeps r answer same number told idle shown left =
    written-since w.number page answer w.seen v.seen seen idle
    (subst (λ (a : Result PageWriteAnswer CcError). IsWrittenAmong w.number page a v.seen seen) (sym told)
    (subst (λ (p : Page). IsWrittenAmong w.number p (page_write_answer r) v.seen seen) same
    (subst (λ (n : ℕ). IsWrittenAmong n place (page_write_answer r) v.seen seen) number (written-by v place keeps r seen shown left))))

-- What entries tell of which the pass placed none, or that a log was flushed.
pub log-memory : (me : ℕ) (entries : List Entry) → AreOfLog me entries → list_any found_no_memory entries ≡ false
log-memory me entries (inl none) = rw none refl
log-memory me entries (inr flushed) = rw flushed.2 refl

pub log-ended : (me : ℕ) (entries : List Entry) → AreOfLog me entries → count_by ends_page entries ≡ 0
log-ended me entries (inl none) = rw none refl
log-ended me entries (inr flushed) = rw flushed.2 refl

pub log-begun : (me : ℕ) (entries : List Entry) → AreOfLog me entries → pages_begun entries ≡ []
log-begun me entries (inl none) = rw none refl
log-begun me entries (inr flushed) = rw flushed.2 refl

pub log-failures : (me : ℕ) (entries : List Entry) → AreOfLog me entries → count_by is_log_failure entries ≡ 0
log-failures me entries (inl none) = rw none refl
log-failures me entries (inr flushed) = rw flushed.2 refl

pub log-end : (me : ℕ) (entries : List Entry) (test : End → Bool) (page : Page) → AreOfLog me entries → list_any (is_end_of test page) entries ≡ false
log-end me entries test page (inl none) = rw none refl
log-end me entries test page (inr flushed) = rw flushed.2 refl

-- What entries tell that are those of a transfer.
module _ (me : ℕ) (page : Page) (how : End) (entries : List Entry) (is : AreOfTransfer me page how entries) where
  pub transfer-memory : is_want how ≡ false → list_any found_no_memory entries ≡ false
  transfer-memory good = rw (is.placed, good) (log-memory me is.before is.log)

  pub transfer-begun : pages_begun entries ≡ page ∷ []
  transfer-begun = rw is.placed (ap (λ (l : List Page). page ∷ l) (log-begun me is.before is.log))

  pub transfer-end : (test : End → Bool) (other : Page) → list_any (is_end_of test other) entries ≡ ((is_same_page other page && test how) || false)
  transfer-end test other = rw is.placed (ap (λ (b : Bool). (is_same_page other page && test how) || b) (log-end me is.before test other is.log))

  pub transfer-ended : count_by ends_page entries ≡ 1
  transfer-ended =
      ap (count_by ends_page) is.placed
      ∙ (sum_by-append (λ e. cond (ends_page e) 1 0) (entry.WriteEnd me page how ∷ (entry.WriteBegin me page ∷ [])) is.before
      ∙ ap (λ (n : ℕ). 1 + n) (log-ended me is.before is.log))

  transfer-failures : count_by is_log_failure entries ≡ 0
  transfer-failures =
      ap (count_by is_log_failure) is.placed
      ∙ (sum_by-append (λ e. cond (is_log_failure e) 1 0) (entry.WriteEnd me page how ∷ (entry.WriteBegin me page ∷ [])) is.before
      ∙ ap (λ (n : ℕ). 0 + n) (log-failures me is.before is.log))

-- What became of a page of which the pass placed no more than one transfer, or one failure of a log.
pub record IsOne (me : ℕ) (page : Page) (one : Became) (during old : List Entry) : Type 0 where
  pub memory : HadMemory me during
  pub ended : pages_ended me during ≤ 1
  pub begun : (pages_begun (own me during) ≡ []) ⊎ (pages_begun (own me during) ≡ page ∷ [])
  pub others : (test : End → Bool) (other : Page) → is_same_page other page ≡ false → has_end test me other during ≡ false
  pub failures : cond (is_not_logged one) 1 0 ≤ count_by is_log_failure (own me during)
  pub became : BecameOf me page one during old

one-transfer : (me : ℕ) (page : Page) (how : End) (one : Became) (during old : List Entry) → is_want how ≡ false → is_not_logged one ≡ false → AreOfTransfer me page how (own me during) → BecameOf me page one during old → IsOne me page one during old
one-transfer me page how one during old good logged is became = record {
  memory = transfer-memory me page how (own me during) is good;
  ended = omega (arith, transfer-ended me page how (own me during) is);
  begun = inr (transfer-begun me page how (own me during) is);
  others = λ test other apart. transfer-end me page how (own me during) is test other ∙ rw apart refl;
  failures = rw logged (omega arith);
  became = became;
}

-- it ended its transfer of the page so
ended-so : (me : ℕ) (page : Page) (how : End) (during : List Entry) (test : End → Bool) → AreOfTransfer me page how (own me during) → test how ≡ true → has_end test me page during ≡ true
ended-so me page how during test is good = transfer-end me page how (own me during) is test page ∙ rw (same-page page, good) refl

one-failure : (me : ℕ) (page : Page) (during old : List Entry) → AreOfFailure me page during old → IsOne me page NotLogged during old
one-failure me page during old is = record {
  memory = rw is.only refl;
  ended = rw is.only (omega arith);
  begun = inl (rw is.only refl);
  others = λ test other apart. rw is.only refl;
  failures = rw is.only (omega arith);
  became = is.failed;
}

one-skipped : (me : ℕ) (page : Page) (during old : List Entry) → own me during ≡ [] → AtSome (λ moment. is_passed_over page moment ≡ true) old (during ++ old) → IsOne me page Skipped during old
one-skipped me page during old none moment = record {
  memory = rw none refl;
  ended = rw none (omega arith);
  begun = inl (rw none refl);
  others = λ test other apart. rw none refl;
  failures = omega arith;
  became = record { untouched = rw none refl; moment = moment };
}

pub one-of : (me : ℕ) (page : Page) (told : PageWriteAnswer) (during old : List Entry) → PlacedFor me page (Ok told) during old → (one : Became) × (told ≡ told_page_write one) × IsOne me page one during old
one-of me page write.Written during old placed = (Written, refl, one-transfer me page how.Good Written during old refl refl placed (ended-so me page how.Good during ended_ok placed refl))
one-of me page write.Skipped during old placed = (Skipped, refl, one-skipped me page during old placed.0 placed.1)
one-of me page write.Failed during old placed =
    ⊎_elim (λ transfer. (NotWritten, refl, one-transfer me page how.Failed NotWritten during old refl refl transfer (ended-so me page how.Failed during is_failed transfer refl)))
    (λ failed. (NotLogged, refl, one-failure me page during old failed))
    placed

-- The last entry of the pass in a stretch, with what stands after it and before it.
pub record IsLastOwn (me : ℕ) (during : List Entry) (e : Entry) (rest : List Entry) : Type 0 where
  pub since : List Entry
  pub before : List Entry
  pub split : during ≡ since ++ e ∷ before
  pub is_own : is_mine me e ≡ true
  pub quiet : Others me since
  pub own_before : own me before ≡ rest

abbrev first_of : Entry → List Entry → Entry
first_of e [] = e
first_of e (x ∷ xs) = x

abbrev rest_of : List Entry → List Entry
rest_of [] = []
rest_of (x ∷ xs) = xs

last-own : (me : ℕ) (during : List Entry) (e : Entry) (rest : List Entry) → own me during ≡ e ∷ rest → IsLastOwn me during e rest
last-own me [] e rest is = absurd (cc)
last-own me (x ∷ during) e rest is = go (is_mine me x) refl is (last-own me during e rest)
  where
    go : (b : Bool) → is_mine me x ≡ b → cond b (x ∷ own me during) (own me during) ≡ e ∷ rest → (own me during ≡ e ∷ rest → IsLastOwn me during e rest) → IsLastOwn me (x ∷ during) e rest
    go true mine same earlier = record {
      since = [];
      before = during;
      split = ap (λ (y : Entry). y ∷ during) (ap (first_of e) same);
      is_own = subst (λ (y : Entry). is_mine me y ≡ true) (ap (first_of e) same) mine;
      quiet = tt;
      own_before = ap rest_of same;
    }
    go false other same earlier =
        let more = earlier same in
        record {
          since = x ∷ more.since;
          before = more.before;
          split = ap (λ (l : List Entry). x ∷ l) more.split;
          is_own = more.is_own;
          quiet = (other, more.quiet);
          own_before = more.own_before;
        }

-- a transfer found no memory
wanted-memory : (me : ℕ) (page : Page) (during : List Entry) → AreOfTransfer me page how.NoMemory (own me during) → WantedMemory me during
wanted-memory me page during is =
    let last = last-own me during (entry.WriteEnd me page how.NoMemory) (entry.WriteBegin me page ∷ is.before) is.placed in
    record {
      since = last.since;
      want = entry.WriteEnd me page how.NoMemory;
      before = last.before;
      split = last.split;
      is_own = last.is_own;
      is_want = refl;
      quiet = last.quiet;
      memory = rw last.own_before (log-memory me is.before is.log);
    }

-- What the pass placed for a page as room or memory was wanting: no more than one transfer, which found no memory.
pub record IsNone (me : ℕ) (page : Page) (e : CcError) (during : List Entry) : Type 0 where
  pub want : IsWant e
  pub begun : (pages_begun (own me during) ≡ []) ⊎ (pages_begun (own me during) ≡ page ∷ [])
  pub so : (pages : List Page) → 1 ≤ length pages → CutOffSo me pages e during

pub none-of : (me : ℕ) (page : Page) (e : CcError) (during old : List Entry) → PlacedFor me page (Err e) during old → IsNone me page e during
none-of me page (error.JournalFull entries) during old placed = record {
  want = tt;
  begun = inl (log-begun me (own me during) placed);
  so = λ pages some. (log-memory me (own me during) placed, omega (arith, log-ended me (own me during) placed, some));
}
none-of me page error.NoMemory during old placed = record {
  want = tt;
  begun = ⊎_elim (λ log. inl (log-begun me (own me during) log)) (λ transfer. inr (transfer-begun me page how.NoMemory (own me during) transfer)) placed;
  so = λ pages some. ⊎_elim (λ log. inl (log-memory me (own me during) log)) (λ transfer. inr (wanted-memory me page during transfer)) placed;
}
none-of me page other during old placed = absurd placed

-- So what the writing of the page left.
pub one-left : (me : ℕ) (page : Page) (answer : Result PageWriteAnswer CcError) (old new : List Entry) → IsWrittenAmong me page answer old new → WriteOneLeft me page answer old new
one-left me page (Ok told) old new is =
    let has = is (page ∷ []) (among-one page) in
    let one = one-of me page told has.during old has.placed in (
      one.0,
      one.1,
      record { during = has.during; grew = has.grew; works = has.works; memory = one.2.memory; once = one.2.ended; became = one.2.became },
    )
one-left me page (Err e) old new is =
    let has = is (page ∷ []) (among-one page) in
    let none = none-of me page e has.during old has.placed in
    cut-off e none.want (record { during = has.during; grew = has.grew; works = has.works; so = none.so (page ∷ []) (omega arith) })
  where
    cut-off : (e : CcError) → IsWant e → IsCutOff me (page ∷ []) e old new → PageWriteLeft me page (Err e) old new
    cut-off (error.JournalFull entries) want cut = cut
    cut-off error.NoMemory want cut = cut
    cut-off other want cut = absurd want

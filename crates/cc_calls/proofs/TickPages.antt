-- Pages are written one after the other: each is counted by what became of it, and stays so counted.
use Rattle.std.specs.Prelude.{◌≡◌, ℕ, suc, ◌+◌, ◌<◌, ◌≤◌, ◌⊎◌, Bool, true, false, cond, ◌&&◌, ◌||◌, ◌==◌, List, [], ◌∷◌, ◌++◌, length, reverse, Result, Ok, Err, refl}
use Rattle.std.specs.declared.option.Option.TheVariants.{Some}
use Rattle.std.specs.List.{list_all, list_any, count_by, filter, AllByRecursion, IsDistinct}
use Rattle.std.proofs.Common.{ap, sym, ◌∙◌, subst, arith, append_assoc, inl, inr, ⊎_elim, length-append, get_or, take, drop, drop-cons}
use Rattle.std.proofs.lemmas.Bool.{and_parts, eq-eqb, eqb-true, ltb-true}
use Rattle.std.proofs.lemmas.List.{reverse-append, length-take-le, take_all, take-append-drop, take_more}
use Rattle.std.proofs.lemmas.List.Folds.{list_any-append}
use Rattle.std.proofs.lemmas.List.Sums.{sum_by-append, sum_by-cons, sum_by_push}
use Rattle.cc_entry.specs.Place.{Page}
use Rattle.cc_entry.specs.declared.entry.End.{End}
use Rattle.cc_entry.specs.declared.entry.Entry.{Entry}
use Rattle.cc_entry.specs.declared.entry.Entry.TheVariants as entry
use Rattle.cc_entry.specs.declared.error.CcError.{CcError}
use Rattle.cc_entry.specs.declared.error.CcError.TheVariants as error
use Rattle.cc_effects.specs.Asked.{Writes}
use Rattle.cc_effects.specs.Moments.{own, AtSome, EachOwn}
use Rattle.cc_effects.specs.PageWrites.{PageWrite as Became, Written, Skipped, NotWritten, NotLogged, BecameOf, BecameOfAll, CutOffSo, HadMemory, HasLogFailed, WantedMemory, are_in_order, ends_page, has_end, is_end_of, is_failed_page, is_log_failure, is_not_logged, is_passed_over, is_skipped, is_written, pages_begun, pages_ended}
use Rattle.cc_effects.specs.Places.{MayPlace, Works, is_sync, syncs_of}
use Rattle.cc_effects.specs.Stops.{found_no_memory}
use Rattle.cc_effects.proofs.Stretches.{grew-after, own-append, some-after, some-before}
use Rattle.cc_effects.proofs.WorkSteps.{works-append, works-others}
use Rattle.cc_model.specs.Good.{IsGood}
use Rattle.cc_model.specs.Setup.{Setup}
use Rattle.cc_model.specs.History.{history}
use Rattle.cc_model.specs.Passes.{is_mine, is_same_page}
use Rattle.cc_model.specs.Settings.{log_of}
use Rattle.cc_model.specs.Sizes.{ended_ok}
use Rattle.cc_model.specs.Faults.{is_failed}
use Rattle.cc_writes.specs.Logs.{IsWant}
use Rattle.cc_turns.specs.Standing.{Standing}
use Rattle.cc_writes.specs.Fetch.{CanCall, WentOn}
use Rattle.cc_calls.specs.Answers.{IsFree}
use Rattle.cc_calls.specs.Pages.{StaysGood}
use Rattle.cc_calls.specs.PageWrites.{IsFullPage, IsWrittenAmong, IsWrittenOf, told_page_write}
use Rattle.cc_calls.specs.Ticks.{AllLeft, AreCutOff, ArePicked, AreWritten, IsFullAmong, counted_page, has_disk, pages_counted}
use Rattle.cc_calls.specs.declared.page_writes.PageWriteAnswer.{PageWriteAnswer}
use Rattle.cc_calls.specs.declared.page_writes.PageWriteAnswer.TheVariants as write
use Rattle.cc_calls.specs.declared.ticks.TickCounts.{TickCounts}
use Rattle.cc_calls.proofs.OnePage.{IsNone, IsOne, none-of, one-of, same-page}

-- Pages that are in order stay so with one more to choose from.
abbrev KeepsTails : List Page → Type 0
KeepsTails among = (page : Page) (pages : List Page) → are_in_order (page ∷ pages) among ≡ true → are_in_order pages among ≡ true

in-order-more : (among : List Page) → KeepsTails among → (pages : List Page) (more : Page) → are_in_order pages among ≡ true → are_in_order pages (more ∷ among) ≡ true
in-order-more among tails [] more is = refl
in-order-more among tails (page ∷ pages) more is = go (is_same_page page more) (tails page pages is)
  where
    go : (b : Bool) → are_in_order pages among ≡ true → cond b (are_in_order pages among) (are_in_order (page ∷ pages) among) ≡ true
    go true less = less
    go false less = is

in-order-tail : (among : List Page) → KeepsTails among
in-order-tail [] page pages is = absurd (cc)
in-order-tail (first ∷ among) page pages is = go (is_same_page page first) (in-order-tail among) is
  where
    go : (b : Bool) → KeepsTails among → cond b (are_in_order pages among) (are_in_order (page ∷ pages) among) ≡ true → are_in_order pages (first ∷ among) ≡ true
    go true tails rest = in-order-more among tails pages first rest
    go false tails rest = in-order-more among tails pages first (tails page pages rest)

in-order-all : (pages more among : List Page) → are_in_order pages among ≡ true → are_in_order pages (more ++ among) ≡ true
in-order-all pages [] among is = is
in-order-all pages (page ∷ more) among is = in-order-more (more ++ among) (in-order-tail (more ++ among)) pages page (in-order-all pages more among is)

-- the next of them begins, or none does
in-order-next : (begun : List Page) (page : Page) (pages among : List Page) → (begun ≡ []) ⊎ (begun ≡ page ∷ []) → are_in_order pages among ≡ true → are_in_order (begun ++ pages) (page ∷ among) ≡ true
in-order-next begun page pages among (inl none) is = rw none (in-order-more among (in-order-tail among) pages page is)
in-order-next begun page pages among (inr one) is = rw (one, same-page page) is

begun-append : (xs ys : List Entry) → pages_begun (xs ++ ys) ≡ pages_begun xs ++ pages_begun ys
begun-append [] ys = refl
begun-append (entry.WriteBegin pass page ∷ xs) ys = ap (λ (l : List Page). page ∷ l) (begun-append xs ys)
begun-append (other ∷ xs) ys = begun-append xs ys

-- the last page comes first in the reverse order
reverse-next : (first : List Page) (page : Page) → reverse (first ++ page ∷ []) ≡ page ∷ reverse first
reverse-next first page = reverse-append first (page ∷ [])

-- the writing of pages has no sync
not-sync : (me : ℕ) (pages : List Page) (old past : List Entry) (e : Entry) → MayPlace me (Writes pages) old past e → is_sync e ≡ false
not-sync me pages old past (entry.Sync pass stream how) may = absurd may
not-sync me pages old past other may = refl

no-syncs : (me : ℕ) (pages : List Page) (during old begun : List Entry) → EachOwn me (MayPlace me (Writes pages) begun) during old → syncs_of me during ≡ []
no-syncs me pages [] old begun each = refl
no-syncs me pages (e ∷ during) old begun each = go (is_mine me e) refl (no-syncs me pages during old begun each.1)
  where
    go : (b : Bool) → is_mine me e ≡ b → syncs_of me during ≡ [] → filter is_sync (cond b (e ∷ own me during) (own me during)) ≡ []
    go true mine rest = rw (not-sync me pages begun (during ++ old) e (each.0 mine)) rest
    go false other rest = rest

-- Two pages are the same in either order.
same-sym : (a b : Page) → is_same_page a b ≡ true → is_same_page b a ≡ true
same-sym a b same = go (a.stream == b.stream) refl (a.page == b.page) refl same
  where
    go : (s : Bool) → (a.stream == b.stream) ≡ s → (p : Bool) → (a.page == b.page) ≡ p → (s && p) ≡ true → is_same_page b a ≡ true
    go true streams true pages both = rw (eqb-true a.stream b.stream streams, eqb-true a.page b.page pages) (same-page b)
    go true streams false pages both = absurd (cc)
    go false streams p pages both = absurd (cc)

-- A page that is the next of some, no two of which are the same, is apart from those before it.
all-at : (P : Page → Type 0) (xs : List Page) (y : Page) (zs : List Page) → AllByRecursion P (xs ++ y ∷ zs) → P y
all-at P [] y zs all = all.0
all-at P (x ∷ xs) y zs all = all-at P xs y zs all.1

passes-at : (test : Page → Bool) (xs : List Page) (y : Page) (zs : List Page) → list_all test (xs ++ y ∷ zs) ≡ true → test y ≡ true
passes-at test [] y zs all = (and_parts (test y) (list_all test zs) all).0
passes-at test (x ∷ xs) y zs all = passes-at test xs y zs (and_parts (test x) (list_all test (xs ++ y ∷ zs)) all).1

pub apart-from : (first : List Page) (page : Page) (rest : List Page) → IsDistinct is_same_page (first ++ page ∷ rest) → AllByRecursion (λ other. is_same_page other page ≡ false) first
unfolding IsDistinct
apart-from [] page rest distinct = tt
apart-from (x ∷ first) page rest distinct = (all-at (λ y. is_same_page x y ≡ false) first page rest distinct.0, apart-from first page rest distinct.1)

apart-any : (first : List Page) (page : Page) → AllByRecursion (λ other. is_same_page other page ≡ false) first → list_any (is_same_page page) first ≡ false
apart-any [] page all = refl
apart-any (x ∷ first) page all = go (is_same_page page x) refl (apart-any first page all.1)
  where
    go : (b : Bool) → is_same_page page x ≡ b → list_any (is_same_page page) first ≡ false → (b || list_any (is_same_page page) first) ≡ false
    go true same rest = absurd (cc (same-sym page x same, all.0))
    go false other rest = rest

pub among-at : (first : List Page) (page : Page) (rest : List Page) → list_any (is_same_page page) (first ++ page ∷ rest) ≡ true
among-at [] page rest = rw (same-page page) refl
among-at (x ∷ first) page rest = go (is_same_page page x) (among-at first page rest)
  where
    go : (b : Bool) → list_any (is_same_page page) (first ++ page ∷ rest) ≡ true → (b || list_any (is_same_page page) (first ++ page ∷ rest)) ≡ true
    go true rest = refl
    go false rest = rest

or_left : (a b : Bool) → a ≡ true → (a || b) ≡ true
or_left true b is = refl
or_left false b is = absurd (cc)

or_right : (a b : Bool) → b ≡ true → (a || b) ≡ true
or_right true b is = refl
or_right false b is = is

or_rest : (a b : Bool) → a ≡ false → (a || b) ≡ true → b ≡ true
or_rest true b fails is = absurd (cc)
or_rest false b fails is = is

or_none : (a b : Bool) → a ≡ false → b ≡ false → (a || b) ≡ false
or_none true b first second = absurd (cc)
or_none false b first second = second

end-append : (test : End → Bool) (me : ℕ) (page : Page) (later during : List Entry) → has_end test me page (later ++ during) ≡ (has_end test me page later || has_end test me page during)
end-append test me page later during = ap (list_any (is_end_of test page)) (own-append me later during) ∙ list_any-append (is_end_of test page) (own me later) (own me during)

-- What became of a page stays so, where no transfer of it ends later.
log-later : (me : ℕ) (page : Page) (later during old : List Entry) → HasLogFailed me page during old → HasLogFailed me page (later ++ during) old
log-later me page later during old has = record {
  handle = has.handle;
  after = later ++ has.after;
  before = has.before;
  split = ap (λ (l : List Entry). later ++ l) has.split ∙ sym (append_assoc later has.after (entry.LogFailed me has.handle ∷ has.before));
  log = has.log;
}

log-behind : (me : ℕ) (page : Page) (later during old : List Entry) → HasLogFailed me page later (during ++ old) → HasLogFailed me page (later ++ during) old
log-behind me page later during old has = record {
  handle = has.handle;
  after = has.after;
  before = has.before ++ during;
  split = ap (λ (l : List Entry). l ++ during) has.split ∙ append_assoc has.after (entry.LogFailed me has.handle ∷ has.before) during;
  log = subst (λ (past : List Entry). log_of (history past page.stream) ≡ Some has.handle) (sym (append_assoc has.before during old)) has.log;
}

became-later : (me : ℕ) (page : Page) (one : Became) (later during old : List Entry) → has_end (λ how. true) me page later ≡ false → BecameOf me page one during old → BecameOf me page one (later ++ during) old
became-later me page Written later during old none is = end-append ended_ok me page later during ∙ or_right (has_end ended_ok me page later) (has_end ended_ok me page during) is
became-later me page Skipped later during old none is = record {
  untouched = end-append (λ how. true) me page later during ∙ or_none (has_end (λ how. true) me page later) (has_end (λ how. true) me page during) none is.untouched;
  moment = rw (append_assoc later during old) (some-after (λ moment. is_passed_over page moment ≡ true) old (during ++ old) later is.moment);
}
became-later me page NotWritten later during old none is = end-append is_failed me page later during ∙ or_right (has_end is_failed me page later) (has_end is_failed me page during) is
became-later me page NotLogged later during old none is = log-later me page later during old is

-- And so from an earlier moment, where no transfer of it ended before.
became-behind : (me : ℕ) (page : Page) (one : Became) (later during old : List Entry) → has_end (λ how. true) me page during ≡ false → BecameOf me page one later (during ++ old) → BecameOf me page one (later ++ during) old
became-behind me page Written later during old none is = end-append ended_ok me page later during ∙ or_left (has_end ended_ok me page later) (has_end ended_ok me page during) is
became-behind me page Skipped later during old none is = record {
  untouched = end-append (λ how. true) me page later during ∙ or_none (has_end (λ how. true) me page later) (has_end (λ how. true) me page during) is.untouched none;
  moment = rw (append_assoc later during old) (some-before (λ moment. is_passed_over page moment ≡ true) old during (later ++ (during ++ old)) is.moment);
}
became-behind me page NotWritten later during old none is = end-append is_failed me page later during ∙ or_left (has_end is_failed me page later) (has_end is_failed me page during) is
became-behind me page NotLogged later during old none is = log-behind me page later during old is

all-later : (me : ℕ) (first : List Page) (ends : List Became) (later during old : List Entry) → AllByRecursion (λ other. has_end (λ how. true) me other later ≡ false) first → BecameOfAll me first ends during old → BecameOfAll me first ends (later ++ during) old
all-later me [] [] later during old none all = tt
all-later me [] (one ∷ ends) later during old none all = absurd all
all-later me (page ∷ first) [] later during old none all = absurd all
all-later me (page ∷ first) (one ∷ ends) later during old none all =
    (became-later me page one later during old none.0 all.0, all-later me first ends later during old none.1 all.1)

all-next : (me : ℕ) (first : List Page) (ends : List Became) (page : Page) (one : Became) (during old : List Entry) → BecameOfAll me first ends during old → BecameOf me page one during old → BecameOfAll me (first ++ page ∷ []) (ends ++ one ∷ []) during old
all-next me [] [] page one during old all is = (is, tt)
all-next me [] (other ∷ ends) page one during old all is = absurd all
all-next me (x ∷ first) [] page one during old all is = absurd all
all-next me (x ∷ first) (other ∷ ends) page one during old all is = (all.0, all-next me first ends page one during old all.1 is)

all-map : (P Q : Page → Type 0) → ((x : Page) → P x → Q x) → (xs : List Page) → AllByRecursion P xs → AllByRecursion Q xs
all-map P Q implies [] all = tt
all-map P Q implies (x ∷ xs) all = (implies x all.0, all-map P Q implies xs all.1)

false-of : (b : Bool) → (b ≡ true → ⊥) → b ≡ false
false-of true never = absurd (never refl)
false-of false never = refl

-- it is counted once, by what is told of it
count-one : (told : PageWriteAnswer) (one : Became) → told ≡ told_page_write one → (counts : TickCounts)
    → ((counted_page told counts).written ≡ counts.written + cond (is_written one) 1 0)
    × (((counted_page told counts).skipped ≡ counts.skipped + cond (is_skipped one) 1 0)
    × ((counted_page told counts).failed ≡ counts.failed + cond (is_failed_page one) 1 0))
count-one told Written is counts = rw is (refl, (omega arith, omega arith))
count-one told Skipped is counts = rw is (omega arith, (refl, omega arith))
count-one told NotWritten is counts = rw is (omega arith, (omega arith, refl))
count-one told NotLogged is counts = rw is (omega arith, (omega arith, refl))

-- None is written yet.
pub written-none : (me : ℕ) (pages : List Page) (old : List Entry) → AreWritten me pages [] (record { written = 0; skipped = 0; failed = 0 }) old old
written-none me pages old = record {
  during = [];
  grew = refl;
  works = works-others me (Writes pages) [] old tt;
  in_order = refl;
  memory = refl;
  once = omega arith;
  ended = λ page is. absurd (cc);
  ends = [];
  became = tt;
  written = refl;
  skipped = refl;
  failed = refl;
  by_logs = omega arith;
}

-- the pages that are left come first in the reverse order
reverse-front : (first : List Page) (page : Page) (rest : List Page) → reverse (first ++ page ∷ rest) ≡ reverse rest ++ (page ∷ reverse first)
reverse-front first page rest =
    reverse-append first (page ∷ rest)
    ∙ (ap (λ (l : List Page). l ++ reverse first) (reverse-append (page ∷ []) rest)
    ∙ append_assoc (reverse rest) (page ∷ []) (reverse first))

memory-append : (me : ℕ) (later during : List Entry) → HadMemory me later → HadMemory me during → HadMemory me (later ++ during)
memory-append me later during here before =
    ap (list_any found_no_memory) (own-append me later during)
    ∙ (list_any-append found_no_memory (own me later) (own me during) ∙ or_none (list_any found_no_memory (own me later)) (list_any found_no_memory (own me during)) here before)

wanted-later : (me : ℕ) (later during : List Entry) → WantedMemory me later → HadMemory me during → WantedMemory me (later ++ during)
wanted-later me later during want before = record {
  since = want.since;
  want = want.want;
  before = want.before ++ during;
  split = ap (λ (l : List Entry). l ++ during) want.split ∙ append_assoc want.since (want.want ∷ want.before) during;
  is_own = want.is_own;
  is_want = want.is_want;
  quiet = want.quiet;
  memory = memory-append me want.before during want.memory before;
}

-- what may stand there, behind pages that were written
so-next : (me : ℕ) (pages : List Page) (e : CcError) (later during : List Entry) → IsWant e → ((some : List Page) → 1 ≤ length some → CutOffSo me some e later) → HadMemory me during → pages_ended me during < length pages → CutOffSo me pages e (later ++ during)
so-next me pages (error.JournalFull entries) later during want so memory fewer = (
  memory-append me later during (so pages (omega (arith, fewer))).0 memory,
  few _ _ _ (ap (count_by ends_page) (own-append me later during) ∙ sum_by-append (λ e. cond (ends_page e) 1 0) (own me later) (own me during)) (so (record { stream = 0; page = 0 } ∷ []) (omega arith)).1 fewer,
)
  where
    few : (n a b : ℕ) → n ≡ a + b → a < 1 → b < length pages → n < length pages
    few n a b sum none rest = omega (arith, sum, none, rest)
so-next me pages error.NoMemory later during want so memory fewer =
    ⊎_elim (λ here. inl (memory-append me later during here memory)) (λ wanted. inr (wanted-later me later during wanted memory)) (so pages (omega (arith, fewer)))
so-next me pages other later during want so memory fewer = absurd want

-- One more was written, or was not.
module _ (me : ℕ) (pages first : List Page) (counts : TickCounts) (old between new : List Entry) (all : AreWritten me pages first counts old between)
    (page : Page) (apart : AllByRecursion (λ other. is_same_page other page ≡ false) first) where
  ended-next : (during : List Entry) → ((other : Page) → is_same_page other page ≡ false → has_end (λ how. true) me other during ≡ false) → (other : Page) → has_end (λ how. true) me other (during ++ all.during) ≡ true → list_any (is_same_page other) (first ++ page ∷ []) ≡ true
  ended-next during others other has = go (is_same_page other page) refl
    where
      go : (b : Bool) → is_same_page other page ≡ b → list_any (is_same_page other) (first ++ page ∷ []) ≡ true
      go true same =
          list_any-append (is_same_page other) first (page ∷ [])
          ∙ or_right (list_any (is_same_page other) first) (list_any (is_same_page other) (page ∷ [])) (rw same refl)
      go false apart =
          list_any-append (is_same_page other) first (page ∷ [])
          ∙ or_left (list_any (is_same_page other) first) (list_any (is_same_page other) (page ∷ []))
          (all.ended other (or_rest (has_end (λ how. true) me other during) (has_end (λ how. true) me other all.during) (others other apart) (sym (end-append (λ how. true) me other during all.during) ∙ has)))

  more-ended : (n a b : ℕ) → n ≡ a + b → a ≤ 1 → b ≤ length first → n ≤ length (first ++ page ∷ [])
  more-ended n a b sum one rest = omega (arith, sum, one, rest, length-append first (page ∷ []))

  more-logs : (one : ℕ) (n m a b logged : ℕ) → n ≡ m + one → logged ≡ a + b → one ≤ a → m ≤ b → n ≤ logged
  more-logs one n m a b logged is sum here before = omega (arith, is, sum, here, before)

  pub written-next : (told : PageWriteAnswer) → IsWrittenOf me pages page (Ok told) between new → AreWritten me pages (first ++ page ∷ []) (counted_page told counts) old new
  written-next told is =
      let one = one-of me page told is.during between is.placed in
      let here : IsOne me page one.0 is.during (all.during ++ old) = subst (λ (past : List Entry). IsOne me page one.0 is.during past) all.grew one.2 in
      let both : own me (is.during ++ all.during) ≡ own me is.during ++ own me all.during = own-append me is.during all.during in
      let absent : has_end (λ how. true) me page all.during ≡ false =
      false-of (has_end (λ how. true) me page all.during) (λ has. let some = all.ended page has in let none = apart-any first page apart in absurd (cc (some, none))) in
      let count = count-one told one.0 one.1 counts in
      record {
        during = is.during ++ all.during;
        grew = grew-after is.during all.during old between new is.grew all.grew;
        works = works-append me (Writes pages) is.during all.during old (subst (λ (past : List Entry). Works me (Writes pages) is.during past) all.grew is.works) all.works
            (no-syncs me pages all.during old old all.works.each);
        in_order = rw (both, begun-append (own me is.during) (own me all.during), reverse-next first page)
            (in-order-next (pages_begun (own me is.during)) page (pages_begun (own me all.during)) (reverse first) here.begun all.in_order);
        memory = memory-append me is.during all.during here.memory all.memory;
        once = more-ended _ _ _ (ap (count_by ends_page) both ∙ sum_by-append (λ e. cond (ends_page e) 1 0) (own me is.during) (own me all.during)) here.ended all.once;
        ended = ended-next is.during (λ other no. here.others (λ how. true) other no);
        ends = all.ends ++ one.0 ∷ [];
        became = all-next me first all.ends page one.0 (is.during ++ all.during) old
            (all-later me first all.ends is.during all.during old (all-map (λ other. is_same_page other page ≡ false) (λ other. has_end (λ how. true) me other is.during ≡ false) (λ other no. here.others (λ how. true) other no) first apart) all.became)
            (became-behind me page one.0 is.during all.during old absent here.became);
        written = count.0 ∙ (ap (λ (n : ℕ). n + cond (is_written one.0) 1 0) all.written ∙ sym (sum_by_push (λ x. cond (is_written x) 1 0) all.ends one.0));
        skipped = count.1.0 ∙ (ap (λ (n : ℕ). n + cond (is_skipped one.0) 1 0) all.skipped ∙ sym (sum_by_push (λ x. cond (is_skipped x) 1 0) all.ends one.0));
        failed = count.1.1 ∙ (ap (λ (n : ℕ). n + cond (is_failed_page one.0) 1 0) all.failed ∙ sym (sum_by_push (λ x. cond (is_failed_page x) 1 0) all.ends one.0));
        by_logs = more-logs (cond (is_not_logged one.0) 1 0) _ _ _ _ _ (sum_by_push (λ x. cond (is_not_logged x) 1 0) all.ends one.0)
            (ap (count_by is_log_failure) both ∙ sum_by-append (λ e. cond (is_log_failure e) 1 0) (own me is.during) (own me all.during)) here.failures all.by_logs;
      }

  -- Room or memory was wanting for it.
  pub cut-off-next : (e : CcError) (rest : List Page) → pages ≡ first ++ page ∷ rest → IsWrittenOf me pages page (Err e) between new → AreCutOff me pages e old new
  cut-off-next e rest same is =
      let none = none-of me page e is.during between is.placed in
      record {
        during = is.during ++ all.during;
        grew = grew-after is.during all.during old between new is.grew all.grew;
        works = works-append me (Writes pages) is.during all.during old (subst (λ (past : List Entry). Works me (Writes pages) is.during past) all.grew is.works) all.works
            (no-syncs me pages all.during old old all.works.each);
        in_order = subst (λ (l : List Page). are_in_order (pages_begun (own me (is.during ++ all.during))) l ≡ true) (sym (ap reverse same ∙ reverse-front first page rest))
            (rw (own-append me is.during all.during, begun-append (own me is.during) (own me all.during)) (in-order-all (pages_begun (own me is.during) ++ pages_begun (own me all.during)) (reverse rest) (page ∷ reverse first)
            (in-order-next (pages_begun (own me is.during)) page (pages_begun (own me all.during)) (reverse first) none.begun all.in_order)));
        want = none.want;
        so = so-next me pages e is.during all.during none.want none.so all.memory (fewer (pages_ended me all.during) all.once);
      }
    where
      fewer : (n : ℕ) → n ≤ length first → n < length pages
      fewer n least = omega (arith, least, ap length same, length-append first (page ∷ rest))

-- The counts sum to how many pages were written, or were not.
length-became : (me : ℕ) (first : List Page) (ends : List Became) (during old : List Entry) → BecameOfAll me first ends during old → length ends ≡ length first
length-became me [] [] during old all = refl
length-became me [] (one ∷ ends) during old all = absurd all
length-became me (page ∷ first) [] during old all = absurd all
length-became me (page ∷ first) (one ∷ ends) during old all = ap suc (length-became me first ends during old all.1)

sum-ends : (ends : List Became) → count_by is_written ends + count_by is_skipped ends + count_by is_failed_page ends ≡ length ends
sum-ends [] = refl
sum-ends (one ∷ ends) =
    parts _ _ _ _ _ _ (sum_by-cons (λ x. cond (is_written x) 1 0) one ends) (sum_by-cons (λ x. cond (is_skipped x) 1 0) one ends) (sum_by-cons (λ x. cond (is_failed_page x) 1 0) one ends) (once one) (sum-ends ends)
  where
    once : (x : Became) → cond (is_written x) 1 0 + cond (is_skipped x) 1 0 + cond (is_failed_page x) 1 0 ≡ 1
    once Written = refl
    once Skipped = refl
    once NotWritten = refl
    once NotLogged = refl

    parts : (a b c x y z : ℕ) {l m n : ℕ} → l ≡ x + a → m ≡ y + b → n ≡ z + c → x + y + z ≡ 1 → a + b + c ≡ length ends → l + m + n ≡ suc (length ends)
    parts a b c x y z first second third one rest = omega (arith, first, second, third, one, rest)

pub counts-sum : (me : ℕ) (pages first : List Page) (counts : TickCounts) (old new : List Entry) → AreWritten me pages first counts old new → pages_counted counts ≡ length first
counts-sum me pages first counts old new all =
    all-parts _ _ _ _ all.written all.skipped all.failed (sum-ends all.ends) (length-became me first all.ends all.during old all.became)
  where
    all-parts : (a b c n : ℕ) → counts.written ≡ a → counts.skipped ≡ b → counts.failed ≡ c → a + b + c ≡ n → n ≡ length first → counts.written + counts.skipped + counts.failed ≡ length first
    all-parts a b c n first_is second_is third_is sum long = omega (arith, first_is, second_is, third_is, sum, long)

-- The pages are written so far, and the pass goes on as it stood.
pub record WritesOn (w v : Standing) (pages : List Page) (done : ℕ) (counts : TickCounts) : Type 0 where
  pub went : WentOn w v
  pub good : StaysGood w v
  pub written : AreWritten w.number pages (take done pages) counts w.seen v.seen

pub writes-begin : (w : Standing) (pages : List Page) → WritesOn w w pages 0 (record { written = 0; skipped = 0; failed = 0 })
writes-begin w pages = record { went = record { same = refl }; good = λ is. is; written = written-none w.number pages w.seen }

-- how many are counted by then
pub few-counted : (w v : Standing) (pages : List Page) (done : ℕ) (counts : TickCounts) → done ≤ length pages → length pages ≤ 16384 → WritesOn w v pages done counts → pages_counted counts ≤ 16384
few-counted w v pages done counts within most on =
    omega (arith, within, most, counts-sum w.number pages (take done pages) counts w.seen v.seen on.written, length-take-le done pages within)

-- the pages before one, that page, and those after it
split-at : (pages : List Page) (done : ℕ) (page : Page) → done < length pages → get_or pages done page ≡ page → pages ≡ take done pages ++ page ∷ drop (suc done) pages
split-at pages done page below is =
    sym (take-append-drop done pages) ∙ ap (λ (l : List Page). take done pages ++ l) (drop-cons pages done page below ∙ ap (λ (p : Page). p ∷ drop (suc done) pages) is)

module _ (w v x : Standing) (pages : List Page) (done : ℕ) (counts : TickCounts) (page : Page) (picked : ArePicked w.streams pages) (on : WritesOn w v pages done counts)
    (below : done < length pages) (is_page : get_or pages done page ≡ page) where
  split : pages ≡ take done pages ++ page ∷ drop (suc done) pages
  split = split-at pages done page below is_page

  apart : AllByRecursion (λ other. is_same_page other page ≡ false) (take done pages)
  apart = apart-from (take done pages) page (drop (suc done) pages) (subst (λ (l : List Page). IsDistinct is_same_page l) split picked.distinct)

  among : list_any (is_same_page page) pages ≡ true
  among = ap (list_any (is_same_page page)) split ∙ among-at (take done pages) page (drop (suc done) pages)

  number_same : v.number ≡ w.number
  number_same = ap (λ (y : Standing). y.number) on.went.same

  known : page.stream < w.streams
  known = ltb-true page.stream w.streams (passes-at (has_disk w.streams) (take done pages) page (drop (suc done) pages) (sym (ap (list_all (has_disk w.streams)) split) ∙ picked.known))

  -- the next page may be written
  pub writes-can : IsFree w → CanCall v page.stream
  writes-can can = record {
    known = subst (λ (n : ℕ). page.stream < n) (sym (ap (λ (y : Standing). y.streams) on.went.same)) known;
    free = ap (λ (y : Standing). y.held) on.went.same ∙ can.free;
    none = ap (λ (y : Standing). y.in_flight) on.went.same ∙ can.none;
  }

  went_more : WentOn v x → WentOn w x
  went_more more = record { same = more.same ∙ ap (λ (y : Standing). record y { seen = x.seen; others = x.others; device_turns = x.device_turns }) on.went.same }

  -- what it has seen stays good
  pub writes-good : IsGood v.setup x.seen → StaysGood w x
  writes-good is was = subst (λ (u : Setup). IsGood u x.seen) (ap (λ (y : Standing). y.setup) on.went.same) is

  -- it was written, or was not
  pub writes-more : (told : PageWriteAnswer) → WentOn v x → IsGood v.setup x.seen → IsWrittenAmong v.number page (Ok told) v.seen x.seen → WritesOn w x pages (done + 1) (counted_page told counts)
  writes-more told more good is = record {
    went = went_more more;
    good = writes-good good;
    written = subst (λ (l : List Page). AreWritten w.number pages l (counted_page told counts) w.seen x.seen) (sym (take_more pages done page below ∙ ap (λ (p : Page). take done pages ++ p ∷ []) is_page))
        (written-next w.number pages (take done pages) counts w.seen v.seen x.seen on.written page apart told
        (subst (λ (n : ℕ). IsWrittenOf n pages page (Ok told) v.seen x.seen) number_same (is pages among)));
  }

  -- room or memory was wanting
  pub writes-cut : (e : CcError) → IsWrittenAmong v.number page (Err e) v.seen x.seen → AllLeft w.number pages (Err e) w.seen x.seen
  writes-cut e is =
      cut-off-next w.number pages (take done pages) counts w.seen v.seen x.seen on.written page apart e (drop (suc done) pages) split
      (subst (λ (n : ℕ). IsWrittenOf n pages page (Err e) v.seen x.seen) number_same (is pages among))

  pub writes-full : (e : CcError) → IsFullPage page x (Err e) → IsFullAmong pages x (Err e)
  writes-full (error.JournalFull entries) full = ((page, among, full.0), full.1)
  writes-full other full = tt

  pub writes-went : WentOn v x → WentOn w x
  writes-went more = went_more more

-- all of them were
pub writes-all : (w v : Standing) (pages : List Page) (done : ℕ) (counts : TickCounts) → length pages ≤ done → WritesOn w v pages done counts → AllLeft w.number pages (Ok counts) w.seen v.seen
writes-all w v pages done counts over on = subst (λ (l : List Page). AreWritten w.number pages l counts w.seen v.seen) (take_all done pages over) on.written

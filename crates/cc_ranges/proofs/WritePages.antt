-- The pages of a noncached write, one after the other, each with the turns of its disk and its book.
use Rattle.std.specs.Prelude.{◌≡◌, ℕ, suc, ◌+◌, ◌-◌, ◌*◌, ◌/◌, ◌<◌, ◌≤◌, Bool, true, false, nat_lt, min, Result, Ok, Err, OnOk, List, [], ◌∷◌, ◌++◌, length, take, drop, Some, None, refl, if◌then◌else◌}
use Rattle.std.specs.declared.option.Option.{Option}
use Rattle.std.proofs.Common.{ap, sym, ◌∙◌, subst, arith, inl}
use Rattle.std.proofs.lemmas.List.{drop-drop}
use mathlib.Core.Logic.{dite}
use native.Mathlib.Decide.{ℕ_discrete}
use Rattle.cc_entry.specs.Place.{File, Page}
use Rattle.cc_entry.specs.declared.call.Call.TheVariants as call
use Rattle.cc_entry.specs.declared.entry.Entry.{Entry}
use Rattle.cc_entry.specs.declared.error.CcError.{CcError}
use Rattle.cc_effects.specs.Moments.{AtSome}
use Rattle.cc_effects.specs.Noncached.{AlignedWriteLeft, IsPageWritten, MisshapenLeft, PageWritesRefused, PagesWritten, ShapedWriteLeft, shape_refusal}
use Rattle.cc_effects.proofs.Starts.{begins}
use Rattle.cc_effects.proofs.Stretches.{idle-none}
use Rattle.cc_model.specs.Good.{IsGood}
use Rattle.cc_model.specs.Setup.{Setup}
use Rattle.cc_model.specs.Sizes.{stored_range}
use Rattle.cc_turns.specs.Standing.{Standing}
use Rattle.cc_turns.specs.Takes.{Takes, with_book, with_device, without_book, without_device}
use Rattle.cc_writes.specs.Ways.{IsFullError}
use Rattle.cc_writes.specs.Fetch.{CanCall, WentOn}
use Rattle.cc_writes.proofs.TakingBoth.{idle, number_both, setup_both}
use Rattle.cc_ranges.specs.Answers.{write_of}
use Rattle.cc_ranges.specs.Stores.{IsFullStoring}
use Rattle.cc_ranges.specs.WriteHeld.{WriteOfPageLeft}
use Rattle.cc_ranges.specs.WriteVisits.{WriteIsUnderWay}
use Rattle.cc_ranges.specs.Writes.{AreTidied, NcWriteEnds, PageWriteEnds, PageWritesLeft, PagesWriteEnds}
use Rattle.cc_ranges.specs.declared.error.NcError.{NcError}
use Rattle.cc_ranges.proofs.Callers.{went-then}
use Rattle.cc_ranges.specs.Ends.{IsTidyEnd, write_done}
use Rattle.cc_ranges.proofs.TidyEnds.{Behind, at-later, behind-then, refused-behind, tidy-as, tidy-went-on}
use Rattle.cc_ranges.proofs.WriteHolding.{begins-writing}
use Rattle.cc_ranges.proofs.WriteNexting.{writing-on}
use Rattle.cc_ranges.specs.ReadVisits.{file_page}

-- what it leaves from the takes on, it leaves from before them, with both given back
pub page-since : (w v x : Standing) (s : ℕ) → CanCall w s → Takes (with_device s) w v → Takes (with_book s) v x → (y z : Standing) (file : File) (page : ℕ) (bytes : List ℕ) (answer : Result ℕ CcError) → z ≡ without_device (without_book y) → ((begun : List Entry) → WriteIsUnderWay x.number file page begun x.seen → WriteOfPageLeft x.setup x.number file page bytes answer begun y.seen) → WriteOfPageLeft w.setup w.number file page bytes answer w.seen z.seen
page-since w v x s can first second y z file page bytes answer given left =
    let here : WriteIsUnderWay x.number file page w.seen x.seen =
    subst (λ (n : ℕ). WriteIsUnderWay n file page w.seen x.seen) (sym (number_both w v x s can first second))
    (writing-on w.number file page w.seen w.seen x.seen (begins-writing w.number file page w.seen) (idle w v x s can first second)) in
    subst (λ (past : List Entry). WriteOfPageLeft w.setup w.number file page bytes answer w.seen past) (sym (ap (λ (a : Standing). a.seen) given))
    (subst (λ (n : ℕ). WriteOfPageLeft w.setup n file page bytes answer w.seen y.seen) (number_both w v x s can first second)
    (subst (λ (u : Setup). WriteOfPageLeft u x.number file page bytes answer w.seen y.seen) (setup_both w v x s can first second) (left w.seen here)))

-- so that its page went out where it could
pub tidy-both : (w v x : Standing) (s : ℕ) → CanCall w s → Takes (with_device s) w v → Takes (with_book s) v x → (file : File) (page : Page) (answer : Result ℕ CcError) (seen now : List Entry) → now ≡ seen → OnOk answer (IsTidyEnd x.setup x.most_others x.number file page x.seen seen) → OnOk answer (IsTidyEnd w.setup w.most_others w.number file page w.seen now)
tidy-both w v x s can first second file page answer seen now same is =
    subst (λ (past : List Entry). OnOk answer (IsTidyEnd w.setup w.most_others w.number file page w.seen past)) (sym same)
    (tidy-as w x file page answer seen (setup_both w v x s can first second) (ap (λ (a : Standing). a.most_others) second.same ∙ ap (λ (a : Standing). a.most_others) first.same) (number_both w v x s can first second)
    (let on = idle w v x s can first second in (on.during, on.grew)) is)

-- a store changes a page at most
stored-few : (page size : ℕ) → (stored_range page size).to - 4096 * page ≤ 4096
stored-few page size = go (nat_lt (4096 * page) size)
  where
    go : (b : Bool) → (if b then min (4096 * page + 4096) size else 0) - 4096 * page ≤ 4096
    go true = omega arith
    go false = omega arith

pub counted-few : (me : ℕ) (file : File) (page : ℕ) (bytes : List ℕ) (count : ℕ) (old new : List Entry) → IsPageWritten me file page bytes count old new → count ≤ 4096
counted-few me file page bytes count old new written = subst (λ (n : ℕ). n ≤ 4096) (sym written.counted) (stored-few page _)

-- the bytes of a page among those of the pages
pub one-page : (done : ℕ) (piece bytes : List ℕ) → bytes ≡ take (4096 * done + 4096 - 4096 * done) (drop (4096 * done) piece) → bytes ≡ take 4096 (drop (4096 * done) piece)
one-page done piece bytes is = is ∙ ap (λ (n : ℕ). take n (drop (4096 * done) piece)) (width (4096 * done))
  where
    width : (n : ℕ) → n + 4096 - n ≡ 4096
    width n = omega arith

-- How the pages go on: so many are written, and what the further ones leave is left by all of them.
pub record WritesOn (w v : Standing) (file : File) (first done changed : ℕ) (piece : List ℕ) : Type 0 where
  pub went : WentOn w v
  pub within : changed ≤ 4096 * done
  pub good : IsGood w.setup w.seen → IsGood w.setup v.seen
  pub behind : Behind v.seen w.seen
  pub tidied : AreTidied w v file first done
  pub ahead : (n rest : ℕ) (new : List Entry) →
      PagesWritten w.number file (first + done) n (drop (4096 * done) piece) rest v.seen new →
      PagesWritten w.number file first (done + n) piece (changed + rest) w.seen new

pub writes-begin : (w : Standing) (file : File) (first : ℕ) (piece : List ℕ) → WritesOn w w file first 0 0 piece
writes-begin w file first piece = record {
  went = record { same = refl };
  within = omega arith;
  good = λ good. good;
  behind = ([], refl);
  tidied = λ k none. absurd (omega (arith, none));
  ahead = λ n rest new written.
      subst (λ (m : ℕ). PagesWritten w.number file first m piece (0 + rest) w.seen new) (from n)
      (subst (λ (m : ℕ). PagesWritten w.number file first n piece m w.seen new) (from rest)
      (subst (λ (m : ℕ). PagesWritten w.number file m n piece rest w.seen new) (sum first) written));
}
  where
    sum : (n : ℕ) → n + 0 ≡ n
    sum n = omega arith

    from : (n : ℕ) → n ≡ 0 + n
    from n = omega arith

module _ (w v x : Standing) (file : File) (first done changed : ℕ) (piece : List ℕ) (on : WritesOn w v file first done changed piece) where
  number_on : v.number ≡ w.number
  number_on = ap (λ (a : Standing). a.number) on.went.same

  setup_on : v.setup ≡ w.setup
  setup_on = ap (λ (a : Standing). a.setup) on.went.same

  -- the page after them had this answer
  module _ (bytes : List ℕ) (is : bytes ≡ take 4096 (drop (4096 * done) piece)) (answer : Result ℕ CcError) (page : PageWriteEnds v x file (first + done) bytes answer) where
    left_on : WriteOfPageLeft w.setup w.number file (first + done) (take 4096 (drop (4096 * done) piece)) answer v.seen x.seen
    left_on =
        subst (λ (l : List ℕ). WriteOfPageLeft w.setup w.number file (first + done) l answer v.seen x.seen) is
        (subst (λ (n : ℕ). WriteOfPageLeft w.setup n file (first + done) bytes answer v.seen x.seen) number_on
        (subst (λ (u : Setup). WriteOfPageLeft u v.number file (first + done) bytes answer v.seen x.seen) setup_on page.left))

    good_on : IsGood w.setup x.seen
    good_on = subst (λ (u : Setup). IsGood u x.seen) setup_on page.good

  pub count-few : (bytes : List ℕ) (count : ℕ) → PageWriteEnds v x file (first + done) bytes (Ok count) → count ≤ 4096
  count-few bytes count page = counted-few v.number file (first + done) bytes count v.seen x.seen page.left

  -- its entries stand behind those of the pages before
  page-behind : (bytes : List ℕ) (count : ℕ) → PageWriteEnds v x file (first + done) bytes (Ok count) → Behind x.seen v.seen
  page-behind bytes count page =
      let end = page.tidy in
      (write_done v.number file (file_page file (first + done)) end.front ∷ end.later, end.placed ∙ ap (λ past. write_done v.number file (file_page file (first + done)) end.front ∷ past) end.grew)

  tidied-more : (k : ℕ) → Behind x.seen v.seen → IsTidyEnd w.setup w.most_others w.number file (file_page file (first + done)) w.seen x.seen → k < suc done → AtSome (IsTidyEnd w.setup w.most_others w.number file (file_page file (first + k)) w.seen) w.seen x.seen
  tidied-more k since end below =
      dite (ℕ_discrete k done)
      (λ same.
      subst (λ (n : ℕ). AtSome (IsTidyEnd w.setup w.most_others w.number file (file_page file (first + n)) w.seen) w.seen x.seen) (sym same)
      (let all = behind-then x.seen v.seen w.seen since on.behind in record { moment = x.seen; later = []; since = all.0; ends = refl; begins = all.1; holds = end }))
      (λ other. at-later (IsTidyEnd w.setup w.most_others w.number file (file_page file (first + k)) w.seen) w.seen v.seen x.seen since (on.tidied k (less k done other below)))
    where
      less : (k n : ℕ) → (k ≡ n → ⊥) → k < suc n → k < n
      less k n other below = omega (arith, other, below)

  -- it was written
  pub writes-more : (bytes : List ℕ) → bytes ≡ take 4096 (drop (4096 * done) piece) → (count : ℕ) → PageWriteEnds v x file (first + done) bytes (Ok count) → WritesOn w x file first (suc done) (changed + count) piece
  writes-more bytes is count page = record {
    went = went-then w v x on.went page.goes_on;
    within = omega (arith, on.within, count-few bytes count page);
    good = λ good. good_on bytes is (Ok count) page;
    behind = behind-then x.seen v.seen w.seen (page-behind bytes count page) on.behind;
    tidied = λ k below. tidied-more k (page-behind bytes count page) (tidy-went-on w v file (file_page file (first + done)) (Ok count) x.seen on.went on.behind page.tidy) below;
    ahead = λ n rest new written.
        subst (λ (m : ℕ). PagesWritten w.number file first m piece (changed + count + rest) w.seen new) (more done n)
        (subst (λ (m : ℕ). PagesWritten w.number file first (done + suc n) piece m w.seen new) (sum changed count rest)
        (on.ahead (suc n) (count + rest) new (
          x.seen,
          count,
          rest,
          refl,
          left_on bytes is (Ok count) page,
          subst (λ (l : List ℕ). PagesWritten w.number file (suc (first + done)) n l rest x.seen new) (sym (drop-drop 4096 (4096 * done) piece))
              (subst (λ (m : ℕ). PagesWritten w.number file (suc (first + done)) n (drop m piece) rest x.seen new) (page-more done)
              (subst (λ (m : ℕ). PagesWritten w.number file m n (drop (4096 * suc done) piece) rest x.seen new) (next first done) written)),
        )));
  }
    where
      more : (a n : ℕ) → a + suc n ≡ suc a + n
      more a n = omega arith

      next : (a b : ℕ) → a + suc b ≡ suc (a + b)
      next a b = omega arith

      sum : (a b c : ℕ) → a + (b + c) ≡ a + b + c
      sum a b c = omega arith

      page-more : (a : ℕ) → 4096 * suc a ≡ 4096 * a + 4096
      page-more a = omega arith

  -- all that were asked are
  pub writes-all : (pages : ℕ) → done ≡ pages → PagesWritten w.number file first pages piece changed w.seen v.seen
  writes-all pages same =
      subst (λ (m : ℕ). PagesWritten w.number file first m piece changed w.seen v.seen) (count done pages same)
      (subst (λ (m : ℕ). PagesWritten w.number file first (done + 0) piece m w.seen v.seen) (none changed)
      (on.ahead 0 0 v.seen (refl, idle-none w.number v.seen)))
    where
      count : (a n : ℕ) → a ≡ n → a + 0 ≡ n
      count a n is = omega (arith, is)

      none : (a : ℕ) → a + 0 ≡ a
      none a = omega arith

  -- it was refused
  pub writes-refused : (bytes : List ℕ) → bytes ≡ take 4096 (drop (4096 * done) piece) → (e : CcError) → PageWriteEnds v x file (first + done) bytes (Err e) → PageWritesRefused w.setup w.number file first done piece e w.seen x.seen
  writes-refused bytes is e page = (v.seen, changed, writes-all done refl, left_on bytes is (Err e) page)

  pub good-after : (bytes : List ℕ) (answer : Result ℕ CcError) → PageWriteEnds v x file (first + done) bytes answer → IsGood w.setup x.seen
  good-after bytes answer page = subst (λ (u : Setup). IsGood u x.seen) setup_on page.good

-- What the pages left, with what is known of the rest.
pub ends-all : (w v : Standing) (file : File) (first done changed pages : ℕ) (piece : List ℕ) → WritesOn w v file first done changed piece → done ≡ pages → pages ≡ length piece / 4096 → PagesWriteEnds w v file first piece (Ok changed)
ends-all w v file first done changed pages piece on same is = record {
  left = subst (λ (n : ℕ). PagesWritten w.number file first n piece changed w.seen v.seen) is (writes-all w v v file first done changed piece on pages same);
  tidied = subst (λ (n : ℕ). AreTidied w v file first n) (same ∙ is) on.tidied;
  full = tt;
  goes_on = on.went;
  good = on.good;
}

refused-full : (w : Standing) (file : File) (first : ℕ) (e : CcError) (done : ℕ) → IsFullStoring {A = ℕ} file (file_page file (first + done)) w (Err e) → IsFullStoring {A = Unit {0}} file (file_page file (first + done)) w (Err e)
refused-full w file first e done full = full

pub ends-refused : (w v x : Standing) (file : File) (first done changed pages : ℕ) (piece bytes : List ℕ) (failed : NcError) → WritesOn w v file first done changed piece → bytes ≡ take 4096 (drop (4096 * done) piece) → PageWriteEnds v x file (first + done) bytes (Err failed.cause) → failed.done ≡ done → done < pages → pages ≡ length piece / 4096 → PagesWriteEnds w x file first piece (Err failed)
ends-refused w v x file first done changed pages piece bytes failed on same page count below is = record {
  left = subst (λ (n : ℕ). (n < length piece / 4096) × PageWritesRefused w.setup w.number file first n piece failed.cause w.seen x.seen) (sym count) (
    subst (λ (n : ℕ). done < n) is below,
    writes-refused w v x file first done changed piece on bytes same failed.cause page,
  );
  tidied = subst (λ (n : ℕ). AreTidied w x file first n) (sym count) (λ k below. at-later (IsTidyEnd w.setup w.most_others w.number file (file_page file (first + k)) w.seen) w.seen v.seen x.seen (refused-behind v.setup v.number file (first + done) bytes failed.cause v.seen x.seen page.left) (on.tidied k below));
  full = refused-full x file first failed.cause failed.done (rw count page.full);
  goes_on = went-then w v x on.went page.goes_on;
  good = λ good. good-after w v x file first done changed piece on bytes (Err failed.cause) page;
}

-- A write whose place and length are in order leaves what its pages left.
aligned : (u : Setup) (me : ℕ) (file : File) (at : ℕ) (piece : List ℕ) (answered : Result ℕ (ℕ × CcError)) (old new : List Entry) → PageWritesLeft u me file (at / 4096) (length piece / 4096) piece answered old new → AlignedWriteLeft u me file at piece answered old new
aligned u me file at [] (Ok count) old new left = left
aligned u me file at [] (Err failed) old new left = absurd (omega (arith, left.0))
aligned u me file at (byte ∷ bytes) (Ok count) old new left = left
aligned u me file at (byte ∷ bytes) (Err failed) old new left = left

pub whole-write : (w v : Standing) (file : File) (at : ℕ) (piece : List ℕ) (answer : Result ℕ NcError) → shape_refusal at (length piece) ≡ None → PagesWriteEnds w v file (at / 4096) piece answer → NcWriteEnds w v file at piece answer
whole-write w v file at piece answer shape ends = record {
  left = subst (λ (o : Option CcError). ShapedWriteLeft w.setup w.number file at piece o (write_of answer) w.seen v.seen) (sym shape)
      (aligned w.setup w.number file at piece (write_of answer) w.seen v.seen ends.left);
  tidied = ends.tidied;
  full = ends.full;
  goes_on = ends.goes_on;
  good = ends.good;
}

-- One whose are not was refused.
pub misshapen-write : (w v : Standing) (file : File) (at : ℕ) (shape : CcError) (failed : NcError) (piece : List ℕ) → shape_refusal at (length piece) ≡ Some shape → failed.done ≡ 0 → MisshapenLeft w.number file (call.NcWrite file (at / 4096)) shape failed.cause w.seen v.seen → IsFullError 1 v failed.cause → WentOn w v → IsGood w.setup v.seen → NcWriteEnds w v file at piece (Err failed)
misshapen-write w v file at shape failed piece is none left full went good = record {
  left = subst (λ (o : Option CcError). ShapedWriteLeft w.setup w.number file at piece o (Err (failed.done, failed.cause)) w.seen v.seen) (sym is) (none, left);
  tidied = λ k below. absurd (omega (arith, below, none));
  full = inl (inl full);
  goes_on = went;
  good = λ was_good. good;
}

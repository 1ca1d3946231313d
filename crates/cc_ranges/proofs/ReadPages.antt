-- The pages of a noncached read, one after the other, each with the turns of its disk and its book.
use Rattle.std.specs.Prelude.{◌≡◌, ℕ, zero, suc, ◌+◌, ◌-◌, ◌*◌, ◌/◌, ◌%◌, ◌<◌, ◌≤◌, Bool, true, false, ◌&&◌, ◌==◌, nat_lt, Result, Ok, Err, List, [], ◌∷◌, ◌++◌, length, take, drop, Some, None, Option, refl, if◌then◌else◌}
use Rattle.std.specs.List.{range_with_len}
use Rattle.std.proofs.Common.{ap, sym, ◌∙◌, subst, arith, append_assoc, append-nil, inl, inr}
use Rattle.std.proofs.lemmas.Bool.{ltb-true, ltb-false}
use Rattle.std.proofs.lemmas.List.{drop-drop}
use Rattle.std.proofs.lemmas.List.FromFn.{length-range_with_len}
use Rattle.std.proofs.lemmas.Slice.{take-put_mid, drop-put_mid}
use borrow.Rule.Slice.PartMut.{put_mid}
use Rattle.cc_entry.specs.Place.{File}
use Rattle.cc_entry.specs.declared.call.Call.{Call}
use Rattle.cc_entry.specs.declared.call.Call.TheVariants as call
use Rattle.cc_entry.specs.declared.entry.Entry.{Entry}
use Rattle.cc_entry.specs.declared.error.CcError.{CcError}
use Rattle.cc_entry.specs.declared.error.CcError.TheVariants as error
use Rattle.cc_entry.specs.declared.reply.Outcome.TheVariants as outcome
use Rattle.cc_entry.specs.declared.reply.Reply.TheVariants as reply
use Rattle.cc_effects.specs.Calls.{CallLeft}
use Rattle.cc_effects.specs.Noncached.{AlignedReadLeft, IsUntold, IsWholeBefore, MisshapenLeft, PagesRead, PageReadsRefused, ShapedReadLeft, shape_refusal}
use Rattle.cc_effects.proofs.Stretches.{idle-none}
use Rattle.cc_model.specs.Good.{IsGood}
use Rattle.cc_model.specs.Setup.{Setup}
use Rattle.cc_turns.specs.Standing.{Standing, TurnsHeld, nothing}
use Rattle.cc_turns.specs.Takes.{Takes, with_device, with_book, without_device, without_book}
use Rattle.cc_writes.specs.Hands.{Went}
use Rattle.cc_writes.specs.Ways.{IsFull, IsFullError}
use Rattle.cc_writes.specs.Calls.{IsFullWriting}
use Rattle.cc_writes.specs.Fetch.{CanCall, WentOn}
use Rattle.cc_ranges.specs.Answers.{read_answer}
use Rattle.cc_ranges.specs.ReadVisits.{outcome_of_read}
use Rattle.cc_ranges.specs.Reads.{NcReadEnds, PageReadEnds, PagesReadEnds, PageReadsLeft}
use Rattle.cc_ranges.specs.Shapes.{IsShape}
use Rattle.cc_ranges.specs.declared.error.NcError.{NcError}

-- With the disk and the book given back the pass goes on as it stood, but has taken the turn of the disk.
pub went-both : (w v x y z : Standing) (s : ℕ) → w.held ≡ nothing → Takes (with_device s) w v → Takes (with_book s) v x → Went x y → z ≡ without_device (without_book y) → WentOn w z
went-both w v x y z s free first second went given = record {
  same = is ∙ sym (ap (λ (a : Standing). record w { seen = a.seen; others = a.others; device_turns = a.device_turns }) is);
}
  where
    turns : ℕ
    turns = (with_device s w).device_turns

    is : z ≡ record w { seen = y.seen; others = y.others; device_turns = turns }
    is =
        given
        ∙ (ap (λ (a : Standing). without_device (without_book a)) went.same
        ∙ (ap (λ (a : Standing). without_device (without_book (record a { seen = y.seen; others = y.others; in_flight = a.in_flight }))) second.same
        ∙ (ap (λ (a : Standing). without_device (without_book (record (with_book s a) { seen = y.seen; others = y.others }))) first.same
        ∙ (ap (λ (h : TurnsHeld). record w { held = record h { device = None; book = None }; seen = y.seen; others = y.others; device_turns = turns }) free
        ∙ ap (λ (h : TurnsHeld). record w { held = h; seen = y.seen; others = y.others; device_turns = turns }) (sym free)))))

pub setup-both : (w v x y : Standing) (s : ℕ) → Takes (with_device s) w v → Takes (with_book s) v x → Went x y → y.setup ≡ w.setup
setup-both w v x y s first second went =
    ap (λ (a : Standing). a.setup) went.same ∙ (ap (λ (a : Standing). a.setup) second.same ∙ ap (λ (a : Standing). a.setup) first.same)

-- How the pages go on: so many are read, their bytes stand in the front of what was handed in. Where all are whole, what
-- the further ones leave is left by all of them; where the last came short, so is what is not told, or refused.
pub record ReadsOn (w v : Standing) (file : File) (first done told : ℕ) (was now : List ℕ) : Type 0 where
  pub went : WentOn w v
  pub within : told ≤ 4096 * done
  pub behind : drop told now ≡ drop told was
  pub good : IsGood w.setup w.seen → IsGood w.setup v.seen
  pub ahead : told ≡ 4096 * done → (n : ℕ) (bytes : List ℕ) (new : List Entry) → PagesRead w.setup w.number file (range_with_len (first + done) n) bytes v.seen new → PagesRead w.setup w.number file (range_with_len first (done + n)) (take told now ++ bytes) w.seen new
  pub short : told < 4096 * done → (n : ℕ) (new : List Entry) → IsUntold w.setup w.number file (range_with_len (first + done) n) v.seen new → PagesRead w.setup w.number file (range_with_len first (done + n)) (take told now) w.seen new
  pub refused : told ≡ 4096 * done → (n : ℕ) (e : CcError) (new : List Entry) → PageReadsRefused w.setup w.number file (first + done) n e v.seen new → PageReadsRefused w.setup w.number file first (done + n) e w.seen new
  pub refused_next : (e : CcError) (new : List Entry) → PageReadsRefused w.setup w.number file (first + done) 0 e v.seen new → PageReadsRefused w.setup w.number file first done e w.seen new

pub reads-begin : (w : Standing) (file : File) (first : ℕ) (was : List ℕ) → ReadsOn w w file first 0 0 was was
reads-begin w file first was = record {
  went = record { same = refl };
  within = omega arith;
  behind = refl;
  good = λ good. good;
  ahead = λ whole n bytes new read.
      subst (λ (m : ℕ). PagesRead w.setup w.number file (range_with_len first m) (take 0 was ++ bytes) w.seen new) (more n)
      (subst (λ (m : ℕ). PagesRead w.setup w.number file (range_with_len m n) bytes w.seen new) (sum first) read);
  short = λ less n new left. absurd (omega (arith, less));
  refused = λ whole n e new left.
      subst (λ (m : ℕ). PageReadsRefused w.setup w.number file first m e w.seen new) (more n)
      (subst (λ (m : ℕ). PageReadsRefused w.setup w.number file m n e w.seen new) (sum first) left);
  refused_next = λ e new left.
      subst (λ (m : ℕ). PageReadsRefused w.setup w.number file m 0 e w.seen new) (sum first) left;
}
  where
    sum : (n : ℕ) → n + 0 ≡ n
    sum n = omega arith

    more : (n : ℕ) → n ≡ 0 + n
    more n = omega arith

-- pages that were read follow one that is whole
one-more : (u : Setup) (me : ℕ) (file : File) (page n : ℕ) (part bytes : List ℕ) (old between new : List Entry) → length part ≡ 4096 → CallLeft u me (call.NcRead file page) (outcome.Done (reply.Read part)) old between → PagesRead u me file (range_with_len (page + 1) n) bytes between new → PagesRead u me file (range_with_len page (suc n)) (part ++ bytes) old new
one-more u me file page n [] bytes old between new whole left rest = absurd (omega (arith, whole))
one-more u me file page n (byte ∷ part) bytes old between new whole left rest = inl (between, byte ∷ part, bytes, refl, whole, left, rest)

-- what is not told follows one that came short
one-short : (u : Setup) (me : ℕ) (file : File) (page n : ℕ) (part : List ℕ) (old between new : List Entry) → 0 < length part → length part < 4096 → CallLeft u me (call.NcRead file page) (outcome.Done (reply.Read part)) old between → IsUntold u me file (range_with_len (page + 1) n) between new → PagesRead u me file (range_with_len page (suc n)) part old new
one-short u me file page n [] old between new some few left rest = absurd (omega (arith, some))
one-short u me file page n (byte ∷ part) old between new some few left rest = inr (between, few, left, rest)

-- a page that is whole is so whatever is read behind it
whole-before : (n : ℕ) (part : List ℕ) → length part ≡ 4096 → IsWholeBefore n part
whole-before zero part whole = omega (arith, whole)
whole-before (suc n) part whole = whole

went-then : (w v x : Standing) → WentOn w v → WentOn v x → WentOn w x
went-then w v x first second = record {
  same = second.same ∙ ap (λ (a : Standing). record a { seen = x.seen; others = x.others; device_turns = x.device_turns }) first.same;
}

module _ (w v x : Standing) (file : File) (first done told : ℕ) (was now : List ℕ) (on : ReadsOn w v file first done told was now) where
  number_on : v.number ≡ w.number
  number_on = ap (λ (a : Standing). a.number) on.went.same

  setup_on : v.setup ≡ w.setup
  setup_on = ap (λ (a : Standing). a.setup) on.went.same

  -- the next page was read with this answer
  module _ (answer : Result ℕ CcError) (before after : List ℕ) (page : PageReadEnds v x file (first + done) answer before after) where
    left_on : CallLeft w.setup w.number (call.NcRead file (first + done)) (outcome_of_read answer after) v.seen x.seen
    left_on =
        subst (λ (n : ℕ). CallLeft w.setup n (call.NcRead file (first + done)) (outcome_of_read answer after) v.seen x.seen) number_on
        (subst (λ (u : Setup). CallLeft u v.number (call.NcRead file (first + done)) (outcome_of_read answer after) v.seen x.seen) setup_on page.ended.left)

    good_on : IsGood w.setup x.seen
    good_on = subst (λ (u : Setup). IsGood u x.seen) setup_on page.good

  -- it has bytes, which follow those before
  pub reads-more : (count : ℕ) (before after : List ℕ) → PageReadEnds v x file (first + done) (Ok count) before after → told ≡ 4096 * done → 0 < count → length (take count after) ≡ count → told + count ≤ length now → count ≤ 4096 → ReadsOn w x file first (suc done) (told + count) was (put_mid told (told + count - told) now (take count after))
  reads-more count before after page all_whole some long fits most = record {
    went = went-then w v x on.went page.goes_on;
    within = omega (arith, on.within, most);
    behind = drop-put_mid told (told + count - told) now ys (told + count) (omega arith) (omega (arith, fits)) (long ∙ one)
        ∙ (sym (drop-drop count told now) ∙ (ap (λ l. drop count l) on.behind ∙ drop-drop count told was));
    good = λ good. good_on (Ok count) before after page;
    ahead = λ whole n bytes new read.
        subst (λ (m : ℕ). PagesRead w.setup w.number file (range_with_len first m) (take (told + count) later ++ bytes) w.seen new) (more done n)
        (subst (λ l. PagesRead w.setup w.number file (range_with_len first (done + suc n)) l w.seen new) (joined bytes)
        (on.ahead all_whole (suc n) (ys ++ bytes) new
        (one-more w.setup w.number file (first + done) n ys bytes v.seen x.seen new (is_whole whole) (left_on (Ok count) before after page)
        (subst (λ (m : ℕ). PagesRead w.setup w.number file (range_with_len m n) bytes x.seen new) (further first done) read))));
    short = λ less n new left.
        subst (λ (m : ℕ). PagesRead w.setup w.number file (range_with_len first m) (take (told + count) later) w.seen new) (more done n)
        (subst (λ l. PagesRead w.setup w.number file (range_with_len first (done + suc n)) l w.seen new) joined-all
        (on.ahead all_whole (suc n) ys new
        (one-short w.setup w.number file (first + done) n ys v.seen x.seen new (omega (arith, long, some)) (is_short less) (left_on (Ok count) before after page)
        (subst (λ (m : ℕ). IsUntold w.setup w.number file (range_with_len m n) x.seen new) (further first done) left))));
    refused = λ whole n e new left.
        subst (λ (m : ℕ). PageReadsRefused w.setup w.number file first m e w.seen new) (more done n)
        (on.refused all_whole (suc n) e new (
          x.seen,
          ys,
          whole-before n ys (is_whole whole),
          left_on (Ok count) before after page,
          subst (λ (m : ℕ). PageReadsRefused w.setup w.number file m n e x.seen new) (next first done) left,
        ));
    refused_next = λ e new left.
        subst (λ (m : ℕ). PageReadsRefused w.setup w.number file first m e w.seen new) (one-further done)
        (on.refused all_whole 1 e new (
          x.seen,
          ys,
          omega (arith, long, some),
          left_on (Ok count) before after page,
          subst (λ (m : ℕ). PageReadsRefused w.setup w.number file m 0 e x.seen new) (next first done) left,
        ));
  }
    where
      ys : List ℕ
      ys = take count after

      later : List ℕ
      later = put_mid told (told + count - told) now ys

      one : count ≡ told + count - told
      one = omega arith

      more : (a n : ℕ) → a + suc n ≡ suc a + n
      more a n = omega arith

      next : (a b : ℕ) → a + suc b ≡ suc (a + b)
      next a b = omega arith

      further : (a b : ℕ) → a + suc b ≡ a + b + 1
      further a b = omega arith

      one-further : (a : ℕ) → a + 1 ≡ suc a
      one-further a = omega arith

      is_whole : told + count ≡ 4096 * suc done → length ys ≡ 4096
      is_whole same = omega (arith, long, same, all_whole)

      is_short : told + count < 4096 * suc done → length ys < 4096
      is_short less = omega (arith, long, less, all_whole)

      joined-all : take told now ++ ys ≡ take (told + count) later
      joined-all = sym (take-put_mid told (told + count - told) now ys (told + count) (omega (arith, long)) (omega (arith, fits)))

      joined : (bytes : List ℕ) → take told now ++ (ys ++ bytes) ≡ take (told + count) later ++ bytes
      joined bytes =
          sym (append_assoc (take told now) ys bytes)
          ∙ ap (λ l. l ++ bytes) joined-all

  -- it has none, and the read is done
  pub reads-end : (pages : ℕ) (before after : List ℕ) → PageReadEnds v x file (first + done) (Ok 0) before after → told ≡ 4096 * done → done < pages → PagesRead w.setup w.number file (range_with_len first pages) (take told now) w.seen x.seen
  reads-end pages before after page all_whole below =
      subst (λ (m : ℕ). PagesRead w.setup w.number file (range_with_len first m) (take told now) w.seen x.seen) (count pages below)
      (subst (λ l. PagesRead w.setup w.number file (range_with_len first (done + suc (pages - suc done))) l w.seen x.seen) (append-nil (take told now))
      (on.ahead all_whole (suc (pages - suc done)) [] x.seen (left_on (Ok 0) before after page)))
    where
      count : (n : ℕ) → done < n → done + suc (n - suc done) ≡ n
      count n less = omega (arith, less)

  -- the one before came short, and what it answers is not told
  pub reads-untold : (pages told_next : ℕ) (before after : List ℕ) → PageReadEnds v x file (first + done) (Ok told_next) before after → told < 4096 * done → done < pages → PagesRead w.setup w.number file (range_with_len first pages) (take told now) w.seen x.seen
  reads-untold pages told_next before after page less below =
      subst (λ (m : ℕ). PagesRead w.setup w.number file (range_with_len first m) (take told now) w.seen x.seen) (count pages below)
      (on.short less (suc (pages - suc done)) x.seen (take told_next after, left_on (Ok told_next) before after page))
    where
      count : (n : ℕ) → done < n → done + suc (n - suc done) ≡ n
      count n less = omega (arith, less)

  -- all of them were read
  pub reads-all : (pages : ℕ) → done ≡ pages → PagesRead w.setup w.number file (range_with_len first pages) (take told now) w.seen v.seen
  reads-all pages same = go (nat_lt told (4096 * done)) refl
    where
      count : (a n : ℕ) → a ≡ n → a + 0 ≡ n
      count a n is = omega (arith, is)

      go : (b : Bool) → nat_lt told (4096 * done) ≡ b → PagesRead w.setup w.number file (range_with_len first pages) (take told now) w.seen v.seen
      go true is =
          subst (λ (m : ℕ). PagesRead w.setup w.number file (range_with_len first m) (take told now) w.seen v.seen) (count done pages same)
          (on.short (ltb-true told (4096 * done) is) 0 v.seen (idle-none w.number v.seen))
      go false is =
          let least = ltb-false told (4096 * done) is in
          subst (λ (m : ℕ). PagesRead w.setup w.number file (range_with_len first m) (take told now) w.seen v.seen) (count done pages same)
          (subst (λ l. PagesRead w.setup w.number file (range_with_len first (done + 0)) l w.seen v.seen) (append-nil (take told now))
          (on.ahead (omega (arith, on.within, least)) 0 [] v.seen (refl, idle-none w.number v.seen)))

  -- it was refused
  pub reads-refused : (e : CcError) (before after : List ℕ) → PageReadEnds v x file (first + done) (Err e) before after → PageReadsRefused w.setup w.number file first done e w.seen x.seen
  reads-refused e before after page = on.refused_next e x.seen (page.ended.unshaped, left_on (Err e) before after page)

  pub rest-refused : drop (4096 * done) now ≡ drop (4096 * done) was
  rest-refused =
      ap (λ n. drop n now) parts ∙ (sym (drop-drop (4096 * done - told) told now) ∙ (ap (λ l. drop (4096 * done - told) l) on.behind ∙ (drop-drop (4096 * done - told) told was ∙ ap (λ n. drop n was) (sym parts))))
    where
      parts : 4096 * done ≡ told + (4096 * done - told)
      parts = omega (arith, on.within)

  pub good-after : (answer : Result ℕ CcError) (before after : List ℕ) → PageReadEnds v x file (first + done) answer before after → IsGood w.setup x.seen
  good-after answer before after page = good_on answer before after page

-- the pass may call again
pub can-again : (w v : Standing) (s : ℕ) → CanCall w s → WentOn w v → CanCall v s
can-again w v s can went = record {
  known = subst (λ (n : ℕ). s < n) (sym (ap (λ (a : Standing). a.streams) went.same)) can.known;
  free = ap (λ (a : Standing). a.held) went.same ∙ can.free;
  none = ap (λ (a : Standing). a.in_flight) went.same ∙ can.none;
}

-- so of the page that was refused
refused-full : (w : Standing) (file : File) (first : ℕ) (e : CcError) (done : ℕ) → IsFullWriting {A = ℕ} (call.NcRead file (first + done)) w (Err e) → IsFullWriting {A = Unit {0}} (call.NcRead file (first + done)) w (Err e)
refused-full w file first e done full = full

-- What the pages left, with what is known of the rest.
pub ends-untold : (w v x : Standing) (file : File) (first done told pages count : ℕ) (was now before after : List ℕ) → ReadsOn w v file first done told was now → PageReadEnds v x file (first + done) (Ok count) before after → told < 4096 * done → done < pages → pages ≡ length was / 4096 → told ≤ length was → PagesReadEnds w x file first (Ok told) was now
ends-untold w v x file first done told pages count was now before after on page less below is most = record {
  left = subst (λ (n : ℕ). PagesRead w.setup w.number file (range_with_len first n) (take told now) w.seen x.seen) is
      (reads-untold w v x file first done told was now on pages count before after page less below);
  rest = (most, on.behind);
  full = tt;
  goes_on = went-then w v x on.went page.goes_on;
  good = λ good. good-after w v x file first done told was now on (Ok count) before after page;
}

pub ends-end : (w v x : Standing) (file : File) (first done told pages : ℕ) (was now before after : List ℕ) → ReadsOn w v file first done told was now → PageReadEnds v x file (first + done) (Ok 0) before after → told ≡ 4096 * done → done < pages → pages ≡ length was / 4096 → told ≤ length was → PagesReadEnds w x file first (Ok told) was now
ends-end w v x file first done told pages was now before after on page whole below is most = record {
  left = subst (λ (n : ℕ). PagesRead w.setup w.number file (range_with_len first n) (take told now) w.seen x.seen) is
      (reads-end w v x file first done told was now on pages before after page whole below);
  rest = (most, on.behind);
  full = tt;
  goes_on = went-then w v x on.went page.goes_on;
  good = λ good. good-after w v x file first done told was now on (Ok 0) before after page;
}

pub ends-all : (w v : Standing) (file : File) (first done told pages : ℕ) (was now : List ℕ) → ReadsOn w v file first done told was now → done ≡ pages → pages ≡ length was / 4096 → told ≤ length was → PagesReadEnds w v file first (Ok told) was now
ends-all w v file first done told pages was now on same is most = record {
  left = subst (λ (n : ℕ). PagesRead w.setup w.number file (range_with_len first n) (take told now) w.seen v.seen) is
      (reads-all w v v file first done told was now on pages same);
  rest = (most, on.behind);
  full = tt;
  goes_on = on.went;
  good = on.good;
}

pub ends-refused : (w v x : Standing) (file : File) (first done told pages : ℕ) (was now before after : List ℕ) (failed : NcError) → ReadsOn w v file first done told was now → PageReadEnds v x file (first + done) (Err failed.cause) before after → failed.done ≡ done → done < pages → pages ≡ length was / 4096 → PagesReadEnds w x file first (Err failed) was now
ends-refused w v x file first done told pages was now before after failed on page count below is = record {
  left = (
    rw count (subst (λ (n : ℕ). done < n) is below),
    rw count (reads-refused w v x file first done told was now on failed.cause before after page),
  );
  rest = rw count (rest-refused w v x file first done told was now on);
  full = refused-full x file first failed.cause failed.done (rw count page.full);
  goes_on = went-then w v x on.went page.goes_on;
  good = λ good. good-after w v x file first done told was now on (Err failed.cause) before after page;
}

-- A read whose place and length are in order leaves what its pages left.
aligned : (u : Setup) (me : ℕ) (file : File) (at n : ℕ) (answered : Result (List ℕ) (ℕ × CcError)) (old new : List Entry) → PageReadsLeft u me file (at / 4096) (n / 4096) answered old new → AlignedReadLeft u me file at n answered old new
aligned u me file at zero (Ok bytes) old new left = left
aligned u me file at zero (Err failed) old new left = absurd (omega (arith, left.0))
aligned u me file at (suc n) (Ok bytes) old new left = left
aligned u me file at (suc n) (Err failed) old new left = (rw (length-range_with_len (at / 4096) (suc n / 4096)) left.0, left.1)

pub whole-read : (w v : Standing) (file : File) (at : ℕ) (answer : Result ℕ NcError) (was now : List ℕ) → shape_refusal at (length was) ≡ None → PagesReadEnds w v file (at / 4096) answer was now → NcReadEnds w v file at answer was now
whole-read w v file at answer was now shape ends = record {
  left = subst (λ (o : Option CcError). ShapedReadLeft w.setup w.number file at (length was) o (read_answer answer now) w.seen v.seen) (sym shape)
      (aligned w.setup w.number file at (length was) (read_answer answer now) w.seen v.seen ends.left);
  rest = ends.rest;
  full = ends.full;
  goes_on = ends.goes_on;
  good = ends.good;
}

-- One whose are not was refused.
pub misshapen-read : (w v : Standing) (file : File) (at : ℕ) (shape : CcError) (failed : NcError) (was : List ℕ) → shape_refusal at (length was) ≡ Some shape → failed.done ≡ 0 → MisshapenLeft w.number file (call.NcRead file (at / 4096)) shape failed.cause w.seen v.seen → IsFullError 1 v failed.cause → WentOn w v → IsGood w.setup v.seen → NcReadEnds w v file at (Err failed) was was
misshapen-read w v file at shape failed was is none left full went good = record {
  left = subst (λ (o : Option CcError). ShapedReadLeft w.setup w.number file at (length was) o (Err (failed.done, failed.cause)) w.seen v.seen) (sym is) (none, left);
  rest = refl;
  full = inl full;
  goes_on = went;
  good = λ was_good. good;
}

-- the two refusals are those that a place and a length may have
pub shape-is : (at n : ℕ) (e : CcError) → shape_refusal at n ≡ Some e → IsShape e
shape-is at n e is = go (nat_lt 65536 n) refl (at % 4096 == 0 && n % 4096 == 0) refl is
  where
    of-some : (x y : CcError) → Some x ≡ Some y → x ≡ y
    of-some x y same = cc

    go : (long : Bool) → nat_lt 65536 n ≡ long → (whole : Bool) → (at % 4096 == 0 && n % 4096 == 0) ≡ whole → (if long then Some (error.TooLong 65536) else (if whole then None else Some error.Unaligned)) ≡ Some e → IsShape e
    go true a whole b same = subst IsShape (of-some (error.TooLong 65536) e same) refl
    go false a true b same = absurd (cc)
    go false a false b same = subst IsShape (of-some error.Unaligned e same) tt

-- a place and a length that are in order are no more than so many bytes
pub shape-fits : (at n : ℕ) → shape_refusal at n ≡ None → n ≤ 65536
shape-fits at n is = go (nat_lt 65536 n) refl (at % 4096 == 0 && n % 4096 == 0) is
  where
    go : (long : Bool) → nat_lt 65536 n ≡ long → (whole : Bool) → (if long then Some (error.TooLong 65536) else (if whole then None else Some error.Unaligned)) ≡ None → n ≤ 65536
    go true a whole same = absurd (cc)
    go false a whole same = ltb-false 65536 n a

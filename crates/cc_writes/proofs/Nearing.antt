-- The rounds of a call come to their end: fewer transfers with the book free are left, or there is less left to do.
use Rattle.std.specs.Prelude.{◌≡◌, ℕ, suc, ◌+◌, ◌-◌, ◌*◌, ◌/◌, ◌%◌, ◌^◌, ◌<◌, ◌≤◌, ◌==◌, Bool, true, false, not, ◌||◌, nat_lt, nat_le, min, List, [], ◌∷◌, length, if◌then◌else◌, refl}
use Rattle.std.specs.declared.option.Option.{Option}
use Rattle.std.specs.declared.option.Option.TheVariants.{Some, None}
use Rattle.std.specs.List.{range_with_len}
use Rattle.std.proofs.Common.{ap, sym, ◌∙◌, subst, inl, inr, arith}
use Rattle.std.proofs.lemmas.Bool.{and_parts, or_parts, not-false, eqb-true, ltb-true, leb-false}
use Rattle.std.proofs.lemmas.List.FromFn.{length-range_with_len}
use Rattle.cc_entry.specs.Queries.{extent_of_query}
use Rattle.cc_entry.specs.Pages.{block_of, has_page, last_page, pages_of}
use Rattle.cc_entry.specs.Place.{Range}
use Rattle.cc_entry.specs.declared.call.Call.{Call}
use Rattle.cc_entry.specs.declared.call.Call.TheVariants as call
use Rattle.cc_entry.specs.declared.entry.Entry.{Entry}
use Rattle.cc_effects.specs.Asked.{brings_in}
use Rattle.cc_laws.proofs.SoundFacts.{size_of-good}
use Rattle.cc_model.specs.Good.{IsGoodSoFar}
use Rattle.cc_model.specs.History.{Effect, history}
use Rattle.cc_model.specs.Ranges.{range_of, cut_range, queried_range}
use Rattle.cc_model.specs.Residency.{is_resident}
use Rattle.cc_model.specs.Setup.{Setup}
use Rattle.cc_model.specs.Touches.{is_dirty, size_of}
use Rattle.cc_step.proofs.Waiting.{needs}
use Rattle.cc_writes.specs.Visits.{IsWaitedFor}
use Rattle.cc_writes.specs.Work.{page_work, work_on, work_left}
use Rattle.cc_writes.specs.Rounds.{HasLess, IsNearer, free_left, is_next, is_read, left_for, pages_above, reads_left, widest_of, writes_left}
use Rattle.cc_writes.specs.declared.course.Course.{Course}
use Rattle.cc_writes.specs.declared.course.Course.TheVariants as course
use Rattle.cc_writes.specs.declared.keeping.Rounds.{Rounds}
use Rattle.cc_writes.specs.declared.keeping.Writing.{Writing}
use Rattle.cc_writes.specs.declared.keeping.Writing.TheVariants as writing

-- a page that is written with the book free
writes-less : (b : Writing) (page : ℕ) → is_next b page ≡ true → writes_left (writing.CameTo page) < writes_left b
writes-less writing.Begins page next = omega arith
writes-less (writing.CameTo last) page next =
    let parts = and_parts (block_of last == block_of page) (nat_lt last page) next in
    further last page (eqb-true (block_of last) (block_of page) parts.0) (ltb-true last page parts.1)
  where
    further : (was now : ℕ) → was / 64 ≡ now / 64 → was < now → 63 - now % 64 < 63 - was % 64
    further was now same after = omega (arith, same, after)
writes-less writing.Over page next = absurd (cc)

-- a page that is read with the book free
reads-less : (read : Option ℕ) (r : Range) (page : ℕ) → is_read read page ≡ false → r.from / 4096 ≤ page → page ≤ last_page r → pages_above (Some page) r < pages_above read r
reads-less None r page new from within = omega (arith, from, within)
reads-less (Some last) r page new from within = further (last_page r) last page (leb-false page last new) within
  where
    further : (end was now : ℕ) → was < now → now ≤ end → end - now < end - was
    further end was now after within = omega (arith, after, within)

-- The range of a call has no page that its widest one has not.
pub record IsWidest (it : Call) (page : ℕ) : Type 0 where
  pub wide : Range
  pub is : widest_of it ≡ Some wide
  pub from : wide.from / 4096 ≤ page
  pub within : page ≤ last_page wide

widest-has : (size : ℕ) (it : Call) (r : Range) (page : ℕ) → size ≤ 2 ^ 63 → brings_in it ≡ true → range_of size it ≡ Some r → has_page r page ≡ true → IsWidest it page
widest-has size it r page most brings is has = go it brings is
  where
    in-both : (a wide : Range) (it : Call) → Some a ≡ Some r → widest_of it ≡ Some wide → wide.from ≡ a.from → a.to ≤ wide.to → IsWidest it page
    in-both a wide it same widest from within =
        let equal : a ≡ r = cc in
        let has_a : has_page a page ≡ true = subst (λ (x : Range). has_page x page ≡ true) (sym equal) has in
        let outer = and_parts (nat_lt a.from a.to) _ has_a in
        let inner = and_parts (nat_lt a.from (4096 * page + 4096)) (nat_lt (4096 * page) a.to) outer.1 in
        let before = ltb-true a.from (4096 * page + 4096) inner.0 in
        let below = ltb-true (4096 * page) a.to inner.1 in
        record { wide = wide; is = widest; from = first wide.from a.from page from before; within = last wide.to a.to page within below }
      where
        first : (from a page : ℕ) → from ≡ a → a < 4096 * page + 4096 → from / 4096 ≤ page
        first from a page same before = omega (arith, same, before)

        last : (to a page : ℕ) → a ≤ to → 4096 * page < a → page ≤ (to - 1) / 4096
        last to a page within below = omega (arith, within, below)

    go : (c : Call) → brings_in c ≡ true → range_of size c ≡ Some r → IsWidest c page
    go (call.CopyRead file at len wait) brings is = in-both _ _ (call.CopyRead file at len wait) (sym refl ∙ is) refl refl (omega (arith, most))
    go (call.AheadStep request) brings is = in-both _ _ (call.AheadStep request) is refl refl (omega (arith, most))
    go (call.NcRead file p) brings is = absurd (cc)
    go (call.NcStore file p bytes) brings is = absurd (cc)
    go (call.NcWrite file p) brings is = absurd (cc)
    go (call.CopyWrite file at bytes) brings is = in-both _ _ (call.CopyWrite file at bytes) is refl refl (omega arith)
    go (call.Zero file span) brings is = in-both _ _ (call.Zero file span) is refl refl (omega arith)
    go (call.Map file at len) brings is = in-both _ _ (call.Map file at len) is refl refl (omega arith)
    go (call.PinRead file at len exclusive) brings is = in-both _ _ (call.PinRead file at len exclusive) is refl refl (omega arith)
    go (call.PreparePin file at len zero exclusive) brings is = in-both _ _ (call.PreparePin file at len zero exclusive) is refl refl (omega arith)
    go (call.MdlRead file at len) brings is = in-both _ _ (call.MdlRead file at len) is refl refl (omega arith)
    go (call.MdlWrite file at len) brings is = in-both _ _ (call.MdlWrite file at len) is refl refl (omega arith)
    go (call.Query asked) brings is = by (extent_of_query asked) refl is
      where
        by : (extent : Option (ℕ × ℕ)) → extent_of_query asked ≡ extent → queried_range size extent ≡ Some r → IsWidest (call.Query asked) page
        by None same is = absurd (cc)
        by (Some (at, n)) same is = in-both (cut_range size at n) (cut_range (2 ^ 63) at n) (call.Query asked) is (ap (queried_range (2 ^ 63)) same) refl (omega (arith, most))
    go other brings is = absurd (cc)

-- a page that a call waits for is one of its widest range
waited-widest : (u : Setup) (past : List Entry) (s : ℕ) (it : Call) (page : ℕ) → IsGoodSoFar u past → brings_in it ≡ true → IsWaitedFor u s it page past → IsWidest it page
waited-widest u past s it page good brings waited =
    let n = needs u past s it page (record { admitted = waited.admitted; least = waited.least }) in
    widest-has (size_of (history past s)) it n.range page (at-most (size_of (history past s)) (size_of-good u past s good)) brings n.range_is n.has
  where
    at-most : (n : ℕ) → n < 2 ^ 63 → n ≤ 2 ^ 63
    at-most n below = omega (arith, below)

-- how many transfers with the book free are left
free-as : (it : Call) (r : Rounds) → r.kept ≡ false → free_left it r ≡ 65 * reads_left r.read (widest_of it) + writes_left r.block
free-as it r free = rw free refl

free-none : (it : Call) (r : Rounds) → r.kept ≡ true → free_left it r ≡ 0
free-none it r kept = rw kept refl

-- with the book kept there is less left to do
nearer-kept : (s : ℕ) (it : Call) (o : Course Call) (was now : Rounds) (old new : List Entry) → free_left it now ≤ free_left it was → HasLess s it o old new → IsNearer s it o was now old new
nearer-kept s it (course.GoesOn again) was now old new most less = inr (most, less)
nearer-kept s it (course.Ended answer) was now old new most less = tt

-- and with the book free fewer such transfers are left
nearer-free : (s : ℕ) (it : Call) (o : Course Call) (was now : Rounds) (old new : List Entry) → free_left it now < free_left it was → IsNearer s it o was now old new
nearer-free s it (course.GoesOn again) was now old new fewer = inl fewer
nearer-free s it (course.Ended answer) was now old new fewer = tt

-- a page went out
pub nearer-went : (s : ℕ) (it again : Call) (rounds : Rounds) (old new : List Entry) → left_for s it new < left_for s it old → IsNearer s it (course.GoesOn again) rounds rounds old new
nearer-went s it again rounds old new less = inr (omega arith, less)

-- A page was written.
module _ (s : ℕ) (it : Call) (o : Course Call) (was now : Rounds) (old new : List Entry) (page : ℕ) (keeps : Bool)
    (result : keeps ≡ (was.kept || not (is_next was.block page))) (stays : now.kept ≡ was.kept)
    (block : now.block ≡ (if keeps then writing.Over else writing.CameTo page)) (read : now.read ≡ was.read) where
  fewer-writes : keeps ≡ false → free_left it now < free_left it was
  fewer-writes free =
      let parts = or_parts was.kept (not (is_next was.block page)) (sym result ∙ free) in
      let less : writes_left now.block < writes_left was.block =
      subst (λ (b : Writing). writes_left b < writes_left was.block) (sym (block ∙ ap (λ k. if k then writing.Over else writing.CameTo page) free))
      (writes-less was.block page (not-false (is_next was.block page) parts.1)) in
      let same : reads_left now.read (widest_of it) ≡ reads_left was.read (widest_of it) = ap (λ (x : Option ℕ). reads_left x (widest_of it)) read in
      below (free_left it now) (free_left it was) (reads_left now.read (widest_of it)) (reads_left was.read (widest_of it)) (writes_left now.block) (writes_left was.block)
      (free-as it now (stays ∙ parts.0)) (free-as it was parts.0) same less
    where
      below : (n w a b c d : ℕ) → n ≡ 65 * a + c → w ≡ 65 * b + d → a ≡ b → c < d → n < w
      below n w a b c d now_is was_is same less = omega (arith, now_is, was_is, same, less)

  more-writes : keeps ≡ true → free_left it now ≤ free_left it was
  more-writes kept = by was.kept refl
    where
      over : writes_left now.block ≡ 0
      over = ap writes_left (block ∙ ap (λ k. if k then writing.Over else writing.CameTo page) kept)

      by : (k : Bool) → was.kept ≡ k → free_left it now ≤ free_left it was
      by true is = subst (λ (n : ℕ). n ≤ free_left it was) (sym (free-none it now (stays ∙ is))) (omega arith)
      by false is =
          within (free_left it now) (free_left it was) (reads_left now.read (widest_of it)) (reads_left was.read (widest_of it)) (writes_left now.block) (writes_left was.block)
          (free-as it now (stays ∙ is)) (free-as it was is) (ap (λ (x : Option ℕ). reads_left x (widest_of it)) read) over
        where
          within : (n w a b c d : ℕ) → n ≡ 65 * a + c → w ≡ 65 * b + d → a ≡ b → c ≡ 0 → n ≤ w
          within n w a b c d now_is was_is same none = omega (arith, now_is, was_is, same, none)

  pub nearer-wrote : (keeps ≡ true → HasLess s it o old new) → IsNearer s it o was now old new
  nearer-wrote less = by keeps refl
    where
      by : (k : Bool) → keeps ≡ k → IsNearer s it o was now old new
      by true is = nearer-kept s it o was now old new (more-writes is) (less is)
      by false is = nearer-free s it o was now old new (fewer-writes is)

-- A page was read that the call waited for, or passed over.
module _ (s : ℕ) (it : Call) (o : Course Call) (was now : Rounds) (old new : List Entry) (page : ℕ) (keeps : Bool)
    (result : keeps ≡ (was.kept || is_read was.read page)) (stays : now.kept ≡ keeps) (read : now.read ≡ Some page)
    (anew : now.block ≡ writing.Begins) where
  fewer-reads : IsWidest it page → keeps ≡ false → free_left it now < free_left it was
  fewer-reads widest free =
      let parts = or_parts was.kept (is_read was.read page) (sym result ∙ free) in
      below (free_left it now) (free_left it was) (reads_left now.read (widest_of it)) (reads_left was.read (widest_of it)) (writes_left now.block) (writes_left was.block)
      (free-as it now (stays ∙ free)) (free-as it was parts.0)
      (subst (λ (x : Option ℕ). reads_left x (widest_of it) < reads_left was.read (widest_of it)) (sym read)
      (subst (λ (x : Option Range). reads_left (Some page) x < reads_left was.read x) (sym widest.is) (reads-less was.read widest.wide page parts.1 widest.from widest.within)))
      (ap writes_left anew)
    where
      below : (n w a b c d : ℕ) → n ≡ 65 * a + c → w ≡ 65 * b + d → a < b → c ≡ 64 → n < w
      below n w a b c d now_is was_is less first = omega (arith, now_is, was_is, less, first)

  pub nearer-read : (u : Setup) (past : List Entry) (n : ℕ) → IsGoodSoFar u past → brings_in it ≡ true → IsWaitedFor u n it page past → (keeps ≡ true → HasLess s it o old new) → IsNearer s it o was now old new
  nearer-read u past n good brings waited less = by keeps refl
    where
      by : (k : Bool) → keeps ≡ k → IsNearer s it o was now old new
      by true is =
          nearer-kept s it o was now old new (subst (λ (x : ℕ). x ≤ free_left it was) (sym (free-none it now (stays ∙ is))) (omega arith)) (less is)
      by false is = nearer-free s it o was now old new (fewer-reads (waited-widest u past n it page good brings waited) is)

-- There is less left to do than twice the pages of a stream of the greatest size.
work-most : (h : List Effect) (r : Range) (pages : List ℕ) → work_on h r pages ≤ 2 * length pages
work-most h r [] = omega arith
work-most h r (p ∷ pages) = both (page_work (has_page r p) (is_resident h p) (is_dirty h p)) (work_on h r pages) (length pages) (one (has_page r p) (is_resident h p) (is_dirty h p)) (work-most h r pages)
  where
    one : (of_range resident dirty : Bool) → page_work of_range resident dirty ≤ 2
    one true true dirty = omega arith
    one true false dirty = omega arith
    one false true true = omega arith
    one false true false = omega arith
    one false false true = omega arith
    one false false false = omega arith

    both : (a b n : ℕ) → a ≤ 2 → b ≤ 2 * n → a + b ≤ 2 * suc n
    both a b n first rest = omega (arith, first, rest)

pages-most : (size : ℕ) → size < 2 ^ 63 → length (pages_of (record { from = 0; to = size })) ≤ 2 ^ 51
pages-most size below = by (nat_lt 0 size)
  where
    by : (b : Bool) → length (if b then range_with_len 0 (((size - 1) / 4096 + 1) - 0) else []) ≤ 2 ^ 51
    by true = subst (λ (n : ℕ). n ≤ 2 ^ 51) (sym (length-range_with_len 0 (((size - 1) / 4096 + 1) - 0))) (omega (arith, below))
    by false = omega arith

pub left-most : (u : Setup) (past : List Entry) (s : ℕ) (it : Call) → IsGoodSoFar u past → left_for s it past < 2 ^ 53
left-most u past s it good = by (range_of (size_of h) it)
  where
    h : List Effect
    h = history past s

    most : (a n : ℕ) → a ≤ 2 * n → n ≤ 2 ^ 51 → a < 2 ^ 53
    most a n twice few = omega (arith, twice, few)

    by : (o : Option Range) → work_left h o < 2 ^ 53
    by None = omega arith
    by (Some r) =
        let pages = pages_of (record { from = 0; to = size_of h }) in
        most (work_on h r pages) (length pages) (work-most h r pages) (pages-most (size_of h) (size_of-good u past s good))

-- How near a call is to its end: a round that goes on comes nearer.
abbrev pub steps_left : ℕ → Call → Rounds → List Entry → ℕ
steps_left s it rounds past = free_left it rounds * 2 ^ 53 + left_for s it past

pub steps-less : (u : Setup) (s : ℕ) (it again : Call) (was now : Rounds) (old new : List Entry) → IsGoodSoFar u new → IsNearer s it (course.GoesOn again) was now old new → steps_left s it now new < steps_left s it was old
steps-less u s it again was now old new good (inl fewer) =
    sooner (free_left it now) (free_left it was) (left_for s it new) (left_for s it old) fewer (left-most u new s it good)
  where
    sooner : (n w a b : ℕ) → n < w → a < 2 ^ 53 → n * 2 ^ 53 + a < w * 2 ^ 53 + b
    sooner n w a b fewer most = omega (arith, fewer, most)
steps-less u s it again was now old new good (inr both) =
    sooner (free_left it now) (free_left it was) (left_for s it new) (left_for s it old) both.0 both.1
  where
    sooner : (n w a b : ℕ) → n ≤ w → a < b → n * 2 ^ 53 + a < w * 2 ^ 53 + b
    sooner n w a b most less = omega (arith, most, less)

-- What is known of a call that waits for a page.
use Rattle.std.specs.Prelude.{◌≡◌, ℕ, ◌+◌, ◌*◌, ◌≤◌, Bool, true, false, not, ◌==◌, nat_lt, min, List, length, is_some, if◌then◌else◌, refl}
use Rattle.std.specs.declared.option.Option.{Option}
use Rattle.std.specs.declared.option.Option.TheVariants.{Some, None}
use Rattle.std.proofs.Common.{ap, sym, ◌∙◌, arith}
use Rattle.std.proofs.lemmas.Bool.{and_parts, or_left, eq-eqb, ltb-false, not-false}
use Rattle.cc_entry.specs.Place.{File, Range}
use Rattle.cc_entry.specs.Pages.{has_page, pages_of}
use Rattle.cc_entry.specs.Queries.{file_of_query, extent_of_query}
use Rattle.cc_entry.specs.declared.call.Call.{Call}
use Rattle.cc_entry.specs.declared.call.Call.TheVariants as call
use Rattle.cc_entry.specs.declared.entry.Entry.{Entry}
use Rattle.cc_entry.specs.declared.place.Request.{Request}
use Rattle.cc_effects.specs.Asked.{is_file_of_page, brings_in, makes_room}
use Rattle.cc_images.proofs.Found.{found-passes}
use Rattle.cc_holds.proofs.PagesOwed.{among-pages_of}
use Rattle.cc_laws.proofs.Lists1.{among-not_empty}
use Rattle.cc_laws.proofs.UnrefusedCalls.{unrefused, refuse_if-none}
use Rattle.cc_model.specs.Acts.{file_of}
use Rattle.cc_model.specs.Filing.{IsFiled}
use Rattle.cc_model.specs.History.{Effect, history}
use Rattle.cc_model.specs.Holds.{Hold}
use Rattle.cc_model.specs.Numbers.{is_empty}
use Rattle.cc_model.specs.Objects.{objects}
use Rattle.cc_model.specs.Ranges.{range_of, queried_range}
use Rattle.cc_model.specs.Reasons.{is_open, not_cached, cached_file, past_size, beyond_size}
use Rattle.cc_model.specs.Refusals.{refusal}
use Rattle.cc_model.specs.Replies.{is_whole}
use Rattle.cc_model.specs.Residency.{is_resident}
use Rattle.cc_model.specs.Setup.{Setup}
use Rattle.cc_model.specs.Sizes.{stored_range}
use Rattle.cc_model.specs.Touches.{size_of, is_mapped}
use Rattle.cc_model.specs.Views.{viewed}
use Rattle.cc_step.specs.Step.{is_answered, least_absent, needed_range, IsNeeding}
use Rattle.cc_step.specs.Room.{IsWaiting}
use Rattle.cc_step.proofs.Found.{not-true, found-among}

-- where a call needs a range, that is its own
pub needed-range : (h : List Effect) (it : Call) (r : Range) → needed_range h it ≡ Some r → (range_of (size_of h) it ≡ Some r) × IsNeeding h it
needed-range h (call.AheadStep request) r is = go (is_whole h request) refl is
  where
    go : (b : Bool) → is_whole h request ≡ b → (if b then range_of (size_of h) (call.AheadStep request) else None) ≡ Some r → (range_of (size_of h) (call.AheadStep request) ≡ Some r) × (is_whole h request ≡ true)
    go true whole is = (is, whole)
    go false whole is = absurd (cc)
needed-range h other r is = (is, tt)

-- any call but a read-ahead step needs its range
pub needed-other : (h : List Effect) (it : Call) → ((request : Request) → it ≡ call.AheadStep request → ⊥) → needed_range h it ≡ range_of (size_of h) it
needed-other h (call.AheadStep request) apart = absurd (apart request refl)
needed-other h other apart = refl

-- a read-ahead step needs its range where it is whole, and else none
pub step-needs : (h : List Effect) (request : Request) (whole : Bool) (page : Option ℕ) → whole ≡ is_whole h request → whole ≡ true → page ≡ least_absent h (range_of (size_of h) (call.AheadStep request)) → page ≡ least_absent h (needed_range h (call.AheadStep request))
step-needs h request whole page is so found =
    found ∙ ap (λ (b : Bool). least_absent h (if b then range_of (size_of h) (call.AheadStep request) else None)) (sym so ∙ is)

pub step-needs-none : (h : List Effect) (request : Request) (whole : Bool) → whole ≡ is_whole h request → whole ≡ false → None ≡ least_absent h (needed_range h (call.AheadStep request))
step-needs-none h request whole is so =
    ap (λ (b : Bool). least_absent h (if b then range_of (size_of h) (call.AheadStep request) else None)) (sym so ∙ is)

-- the range that a waiting call needs, which has the page
pub record Needs (h : List Effect) (it : Call) (page : ℕ) : Type 0 where
  pub range : Range
  pub range_is : range_of (size_of h) it ≡ Some range
  pub has : has_page range page ≡ true
  pub absent : is_resident h page ≡ false
  pub needing : IsNeeding h it

pub needs : (u : Setup) (past : List Entry) (s : ℕ) (it : Call) (page : ℕ) → IsWaiting u past s it page → Needs (history past s) it page
needs u past s it page waits = go (needed_range h it) refl waits.least
  where
    h : List Effect
    h = history past s

    go : (o : Option Range) → needed_range h it ≡ o → least_absent h o ≡ Some page → Needs h it page
    go None is least = absurd (cc)
    go (Some r) is least = record {
      range = r;
      range_is = (needed-range h it r is).0;
      has = sym (among-pages_of r page) ∙ found-among (λ p. not (is_resident h p)) (pages_of r) page least;
      absent = not-true (is_resident h page) (found-passes (λ p. not (is_resident h p)) (pages_of r) page least);
      needing = (needed-range h it r is).1;
    }

not-past : (size end : ℕ) → past_size size end ≡ None → end ≤ size
not-past size end none = ltb-false size end (refuse_if-none (nat_lt size end) _ none)

-- the bytes of a page, as far as the size
stored-within : (page size : ℕ) → (stored_range page size).to ≤ size
stored-within page size = go (nat_lt (4096 * page) size)
  where
    go : (b : Bool) → (if b then min (4096 * page + 4096) size else 0) ≤ size
    go true = omega arith
    go false = omega arith

-- the range of a call for which room is made, and that nothing refuses, ends within the size
pub range-within : (size : ℕ) (it : Call) (r : Range) → is_answered it ≡ true → makes_room it ≡ true → beyond_size size it ≡ None → range_of size it ≡ Some r → r.to ≤ size
range-within size it r answered room none is = go it answered room none is
  where
    same : (a : Range) → Some a ≡ Some r → a.to ≤ size → r.to ≤ size
    same a e within = let equal : a ≡ r = cc in rw (sym equal) within

    go : (c : Call) → is_answered c ≡ true → makes_room c ≡ true → beyond_size size c ≡ None → range_of size c ≡ Some r → r.to ≤ size
    go (call.CopyRead file at len wait) answered room none is = same _ is (omega arith)
    go (call.CopyWrite file at bytes) answered room none is = same _ is (not-past size (at + length bytes) none)
    go (call.Zero file span) answered room none is = same _ is (not-past size span.to none)
    go (call.Map file at len) answered room none is = same _ is (not-past size (at + len) none)
    go (call.PinRead file at len exclusive) answered room none is = same _ is (not-past size (at + len) none)
    go (call.PreparePin file at len zero exclusive) answered room none is = same _ is (not-past size (at + len) none)
    go (call.MdlRead file at len) answered room none is = same _ is (not-past size (at + len) none)
    go (call.MdlWrite file at len) answered room none is = same _ is (not-past size (at + len) none)
    go (call.NcWrite file page) answered room none is = same _ is (stored-within page size)
    go (call.AheadStep request) answered room none is = same _ is (omega arith)
    go (call.Query asked) answered room none is = by (extent_of_query asked) is
      where
        by : (extent : Option (ℕ × ℕ)) → queried_range size extent ≡ Some r → r.to ≤ size
        by None is = absurd (cc)
        by (Some (at, n)) is = same _ is (omega arith)
    go other answered room none is = absurd (cc)

-- such a call names a file object that is cached
pub opened : (h : List Effect) (it : Call) → is_answered it ≡ true → makes_room it ≡ true → IsNeeding h it → not_cached h (cached_file it (file_of it)) ≡ None → is_empty (objects h) ≡ false
opened h (call.CopyRead file at len wait) answered room needing none = open-file h file none
  where
    open-file : (h : List Effect) (file : File) → not_cached h (Some file) ≡ None → is_empty (objects h) ≡ false
    open-file h file none = among-not_empty file.object (objects h) (not-false _ (refuse_if-none _ _ none))
opened h (call.CopyWrite file at bytes) answered room needing none = among-not_empty file.object (objects h) (not-false _ (refuse_if-none _ _ none))
opened h (call.Zero file span) answered room needing none = among-not_empty file.object (objects h) (not-false _ (refuse_if-none _ _ none))
opened h (call.Map file at len) answered room needing none = among-not_empty file.object (objects h) (not-false _ (refuse_if-none _ _ none))
opened h (call.PinRead file at len exclusive) answered room needing none = among-not_empty file.object (objects h) (not-false _ (refuse_if-none _ _ none))
opened h (call.PreparePin file at len zero exclusive) answered room needing none = among-not_empty file.object (objects h) (not-false _ (refuse_if-none _ _ none))
opened h (call.MdlRead file at len) answered room needing none = among-not_empty file.object (objects h) (not-false _ (refuse_if-none _ _ none))
opened h (call.MdlWrite file at len) answered room needing none = among-not_empty file.object (objects h) (not-false _ (refuse_if-none _ _ none))
opened h (call.NcWrite file page) answered room needing none = among-not_empty file.object (objects h) (not-false _ (refuse_if-none _ _ none))
opened h (call.AheadStep request) answered room needing none =
    among-not_empty request.file.object (objects h) (and_parts (is_open h request.file) _ needing).0
opened h (call.Query asked) answered room needing none = by (file_of_query asked) answered none
  where
    by : (o : Option File) → is_some o ≡ true → not_cached h o ≡ None → is_empty (objects h) ≡ false
    by None some none = absurd (cc)
    by (Some file) some none = among-not_empty file.object (objects h) (not-false _ (refuse_if-none _ _ none))
opened h other answered room needing none = absurd (cc)

-- so its stream has a shared map
pub waiting-mapped : (u : Setup) (past : List Entry) (h : List Effect) (it : Call) → is_answered it ≡ true → makes_room it ≡ true → IsNeeding h it → refusal u past h it ≡ None → is_mapped h ≡ true
waiting-mapped u past h it answered room needing none =
    or_left (not (is_empty (objects h))) _ (ap not (opened h it answered room needing (unrefused u past h it none).cached))

pub waiting-within : (u : Setup) (past : List Entry) (h : List Effect) (it : Call) (r : Range) → is_answered it ≡ true → makes_room it ≡ true → refusal u past h it ≡ None → range_of (size_of h) it ≡ Some r → r.to ≤ size_of h
waiting-within u past h it r answered room none is = range-within (size_of h) it r answered room (unrefused u past h it none).within_size is

-- such a call is filed under the stream of its file
pub filed-of : (holds : List Hold) (pass s page : ℕ) (it : Call) → is_answered it ≡ true → makes_room it ≡ true → IsFiled holds pass (Some s) it (file_of it) → is_file_of_page (file_of it) (record { stream = s; page = page }) ≡ true
filed-of holds pass s page it answered room filed = go it answered room filed
  where
    same : (t : ℕ) → Some s ≡ Some t → (t == s) ≡ true
    same t e = let equal : s ≡ t = cc in eq-eqb t s (sym equal)

    go : (c : Call) → is_answered c ≡ true → makes_room c ≡ true → IsFiled holds pass (Some s) c (file_of c) → is_file_of_page (file_of c) (record { stream = s; page = page }) ≡ true
    go (call.CopyRead file at len wait) answered room filed = same file.stream filed
    go (call.CopyWrite file at bytes) answered room filed = same file.stream filed
    go (call.Zero file span) answered room filed = same file.stream filed
    go (call.Map file at len) answered room filed = same file.stream filed
    go (call.PinRead file at len exclusive) answered room filed = same file.stream filed
    go (call.PreparePin file at len zero exclusive) answered room filed = same file.stream filed
    go (call.MdlRead file at len) answered room filed = same file.stream filed
    go (call.MdlWrite file at len) answered room filed = same file.stream filed
    go (call.NcWrite file page) answered room filed = same file.stream filed
    go (call.AheadStep request) answered room filed = same request.file.stream filed
    go (call.Query asked) answered room filed = by (file_of_query asked) answered filed
      where
        by : (o : Option File) → is_some o ≡ true → IsFiled holds pass (Some s) (call.Query asked) o → is_file_of_page o (record { stream = s; page = page }) ≡ true
        by None some filed = absurd (cc)
        by (Some file) some filed = same file.stream filed
    go other answered room filed = absurd (cc)

-- a call that brings pages in may give a block up
pub brings-room : (it : Call) → brings_in it ≡ true → makes_room it ≡ true
brings-room (call.NcStore file page bytes) brings = refl
brings-room (call.NcWrite file page) brings = refl
brings-room other brings = brings

-- whether a call is a read-ahead step
abbrev pub is_ahead : Call → Bool
is_ahead (call.AheadStep request) = true
is_ahead other = false

-- the blocks of the range of another have to be mapped
pub room-viewed : (h : List Effect) (it : Call) (r : Option Range) → is_answered it ≡ true → makes_room it ≡ true → is_ahead it ≡ false → viewed h it r ≡ r
room-viewed h (call.CopyRead file at len true) r answered room other = refl
room-viewed h (call.CopyRead file at len false) r answered room other = absurd (cc)
room-viewed h (call.AheadStep request) r answered room other = absurd (cc)
room-viewed h (call.NcRead file page) r answered room other = absurd (cc)
room-viewed h it r answered room other = refl

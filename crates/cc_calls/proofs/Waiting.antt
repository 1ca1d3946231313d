-- What a call is known of that waits for a page: the page is of its range and not resident, and it may bring pages in.
use Rattle.std.specs.Prelude.{◌≡◌, ℕ, zero, suc, ◌+◌, ◌-◌, ◌*◌, ◌/◌, ◌<◌, ◌≤◌, Bool, true, false, not, cond, nat_lt, List, [], Option, None, Some, is_some, if◌then◌else◌, refl}
use Rattle.std.specs.List.{find, range_with_len}
use Rattle.std.proofs.Common.{ap, sym, ◌∙◌, arith}
use Rattle.std.proofs.lemmas.Bool.{and_from, eq-eqb, lt-ltb, ltb-true}
use Rattle.cc_entry.specs.Pages.{has_page, last_page, pages_of}
use Rattle.cc_entry.specs.Place.{File, Range}
use Rattle.cc_entry.specs.Queries.{extent_of_query, file_of_query}
use Rattle.cc_entry.specs.declared.call.Call.{Call}
use Rattle.cc_entry.specs.declared.call.Call.TheVariants as call
use Rattle.cc_entry.specs.declared.entry.Entry.{Entry}
use Rattle.cc_effects.specs.Asked.{brings_in, is_file_of_page, range_has, reaches}
use Rattle.cc_laws.proofs.UnrefusedCalls.{unrefused}
use Rattle.cc_model.specs.Acts.{file_of}
use Rattle.cc_model.specs.Filing.{IsFiled}
use Rattle.cc_model.specs.History.{Effect, history}
use Rattle.cc_model.specs.Ranges.{range_of, queried_range}
use Rattle.cc_model.specs.Residency.{is_resident}
use Rattle.cc_model.specs.Setup.{Setup}
use Rattle.cc_model.specs.Touches.{size_of}
use Rattle.cc_step.proofs.Waiting.{needed-range}
use Rattle.cc_step.specs.Step.{is_stepped, least_absent, needed_range}
use Rattle.cc_writes.specs.Visits.{CallIsOfStream, IsWaitedFor}
use Rattle.cc_calls.specs.Paged.{is_paged}

pub stepped : (it : Call) → is_paged it ≡ true → is_stepped it ≡ true
stepped (call.CopyRead file at len wait) paged = refl
stepped (call.CopyWrite file at bytes) paged = refl
stepped (call.Zero file span) paged = refl
stepped (call.Map file at len) paged = refl
stepped (call.PinRead file at len exclusive) paged = refl
stepped (call.PreparePin file at len zeroed exclusive) paged = refl
stepped (call.MdlRead file at len) paged = refl
stepped (call.MdlWrite file at len) paged = refl
stepped (call.AheadStep request) paged = refl
stepped (call.Query asked) paged = paged
stepped other paged = absurd (cc)

-- one without a range waits for none
pub never-waits : (u : Setup) (s page : ℕ) (it : Call) (past : List Entry) → ((size : ℕ) → range_of size it ≡ None) → IsWaitedFor u s it page past → ⊥
never-waits u s page it past pageless waits =
    clash (needed_range (history past s) it) refl waits.least
  where
    clash : (o : Option Range) → needed_range (history past s) it ≡ o → least_absent (history past s) o ≡ Some page → ⊥
    clash None is least = absurd (cc)
    clash (Some r) is least =
        none (range_of (size_of (history past s)) it) r (pageless (size_of (history past s))) (needed-range (history past s) it r is).0
      where
        none : (o : Option Range) (r : Range) → o ≡ None → o ≡ Some r → ⊥
        none o r is isnt = absurd (cc)

-- a number that is found in a range of numbers lies in it, and passes the test
found-between : (test : ℕ → Bool) (from len p : ℕ) → find test (range_with_len from len) ≡ Some p → (from ≤ p) × (p < from + len) × (test p ≡ true)
found-between test from zero p found = absurd (cc)
found-between test from (suc len) p found = go (test from) refl found (found-between test (from + 1) len p)
  where
    go : (b : Bool) → test from ≡ b → cond b (Some from) (find test (range_with_len (from + 1) len)) ≡ Some p → (find test (range_with_len (from + 1) len) ≡ Some p → (from + 1 ≤ p) × (p < (from + 1) + len) × (test p ≡ true)) → (from ≤ p) × (p < from + suc len) × (test p ≡ true)
    go true passes it rest = let same : from ≡ p = cc in (omega (arith, same), omega (arith, same), ap test (sym same) ∙ passes)
    go false fails it rest = let k = rest it in (omega (arith, k.0), omega (arith, k.1), k.2)

page-starts : (from p : ℕ) → from / 4096 ≤ p → from < 4096 * p + 4096
page-starts from p low = omega arith

page-ends : (from to p : ℕ) → from < to → from / 4096 ≤ p → p < from / 4096 + (((to - 1) / 4096 + 1) - from / 4096) → 4096 * p < to
page-ends from to p some low high = omega arith

found-page : (test : ℕ → Bool) (r : Range) (p : ℕ) → find test (pages_of r) ≡ Some p → (has_page r p ≡ true) × (test p ≡ true)
found-page test r p found = go (nat_lt r.from r.to) refl found
  where
    go : (t : Bool) → nat_lt r.from r.to ≡ t → find test (if t then range_with_len (r.from / 4096) ((last_page r + 1) - r.from / 4096) else []) ≡ Some p → (has_page r p ≡ true) × (test p ≡ true)
    go true some it =
        let k = found-between test (r.from / 4096) ((last_page r + 1) - r.from / 4096) p it in (
          and_from _ _ some (and_from _ _ (lt-ltb r.from (4096 * p + 4096) (page-starts r.from p k.0)) (lt-ltb (4096 * p) r.to (page-ends r.from r.to p (ltb-true r.from r.to some) k.0 k.1))),
          k.2,
        )
    go false none it = absurd (cc)

fails : (b : Bool) → not b ≡ true → b ≡ false
fails true is = absurd (cc)
fails false is = refl

least-page : (h : List Effect) (o : Option Range) (page : ℕ) → least_absent h o ≡ Some page → (range_has o page ≡ true) × (is_resident h page ≡ false)
least-page h None page least = absurd (cc)
least-page h (Some r) page least =
    let k = found-page (λ p. not (is_resident h p)) r page least in
    (k.0, fails (is_resident h page) k.1)

of-stream : (it : Call) (s page : ℕ) → is_paged it ≡ true → CallIsOfStream it s → is_file_of_page (file_of it) (record { stream = s; page = page }) ≡ true
of-stream (call.CopyRead file at len wait) s page paged filed = let is = filed [] 0 in eq-eqb file.stream s (cc)
of-stream (call.CopyWrite file at bytes) s page paged filed = let is = filed [] 0 in eq-eqb file.stream s (cc)
of-stream (call.Zero file span) s page paged filed = let is = filed [] 0 in eq-eqb file.stream s (cc)
of-stream (call.Map file at len) s page paged filed = let is = filed [] 0 in eq-eqb file.stream s (cc)
of-stream (call.PinRead file at len exclusive) s page paged filed = let is = filed [] 0 in eq-eqb file.stream s (cc)
of-stream (call.PreparePin file at len zeroed exclusive) s page paged filed = let is = filed [] 0 in eq-eqb file.stream s (cc)
of-stream (call.MdlRead file at len) s page paged filed = let is = filed [] 0 in eq-eqb file.stream s (cc)
of-stream (call.MdlWrite file at len) s page paged filed = let is = filed [] 0 in eq-eqb file.stream s (cc)
of-stream (call.AheadStep request) s page paged filed = let is = filed [] 0 in eq-eqb request.file.stream s (cc)
of-stream (call.Query asked) s page paged filed = by (file_of_query asked) paged (filed [] 0)
  where
    by : (named : Option File) → is_some named ≡ true → IsFiled [] 0 (Some s) (call.Query asked) named → is_file_of_page named (record { stream = s; page = page }) ≡ true
    by None some is = absurd (cc)
    by (Some file) some is = eq-eqb file.stream s (cc)
of-stream other s page paged filed = absurd (cc)

-- the page that it waits for
pub record IsMissed (it : Call) (s page : ℕ) (past : List Entry) : Type 0 where
  pub reached : reaches it (record { stream = s; page = page }) past ≡ true
  pub absent : is_resident (history past s) page ≡ false

pub missed-page : (u : Setup) (it : Call) (s page : ℕ) (past : List Entry) → is_paged it ≡ true → CallIsOfStream it s → IsWaitedFor u s it page past → IsMissed it s page past
missed-page u it s page past paged filed waits = by (needed_range h it) refl waits.least
  where
    h : List Effect
    h = history past s

    by : (o : Option Range) → needed_range h it ≡ o → least_absent h o ≡ Some page → IsMissed it s page past
    by None is least = absurd (cc)
    by (Some r) is least =
        let k = least-page h (Some r) page least in
        record { reached = and_from _ _ (of-stream it s page paged filed) (rw ((needed-range h it r is).0) k.0); absent = k.1 }

-- a read that may not wait is refused for it
pub brings : (u : Setup) (it : Call) (s page : ℕ) (past : List Entry) → is_paged it ≡ true → IsWaitedFor u s it page past → brings_in it ≡ true
brings u (call.CopyRead file at len true) s page past paged waits = refl
brings u (call.CopyRead file at len false) s page past paged waits =
    let none = (unrefused u past (history past s) (call.CopyRead file at len false) waits.admitted).is_resident in
    absurd (cc (rw waits.least at none))
brings u (call.CopyWrite file at bytes) s page past paged waits = refl
brings u (call.Zero file span) s page past paged waits = refl
brings u (call.Map file at len) s page past paged waits = refl
brings u (call.PinRead file at len exclusive) s page past paged waits = refl
brings u (call.PreparePin file at len zeroed exclusive) s page past paged waits = refl
brings u (call.MdlRead file at len) s page past paged waits = refl
brings u (call.MdlWrite file at len) s page past paged waits = refl
brings u (call.AheadStep request) s page past paged waits = refl
brings u (call.Query asked) s page past paged waits = by (extent_of_query asked) waits.least
  where
    by : (extent : Option (ℕ × ℕ)) → least_absent (history past s) (queried_range (size_of (history past s)) extent) ≡ Some page → is_some extent ≡ true
    by None least = absurd (cc)
    by (Some (at, n)) least = refl
brings u other s page past paged waits = absurd (cc)

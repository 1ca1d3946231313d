-- A page that a call waits for is one of its range.
use Rattle.std.specs.Prelude.{◌≡◌, ℕ, zero, suc, ◌+◌, ◌-◌, ◌*◌, ◌/◌, ◌<◌, ◌≤◌, Bool, true, false, not, cond, ◌&&◌, ◌==◌, nat_lt, List, [], refl, is_some}
use Rattle.std.specs.declared.option.Option.{Option}
use Rattle.std.specs.declared.option.Option.TheVariants.{Some, None}
use Rattle.std.specs.List.{find, range_with_len}
use Rattle.std.proofs.Common.{arith, eq-eqb}
use Rattle.std.proofs.lemmas.Bool.{ltb-true, lt-ltb}
use Rattle.cc_entry.specs.Queries.{file_of_query}
use Rattle.cc_entry.specs.Pages.{has_page, pages_of}
use Rattle.cc_entry.specs.Place.{Range, File}
use Rattle.cc_entry.specs.declared.call.Call.{Call}
use Rattle.cc_entry.specs.declared.call.Call.TheVariants as call
use Rattle.cc_entry.specs.declared.entry.Entry.{Entry}
use Rattle.cc_effects.specs.Asked.{brings_in, is_file_of_page, range_has, reaches}
use Rattle.cc_model.specs.Filing.{IsFiled}
use Rattle.cc_model.specs.Acts.{file_of}
use Rattle.cc_model.specs.History.{Effect, history}
use Rattle.cc_model.specs.Ranges.{range_of}
use Rattle.cc_model.specs.Residency.{is_resident}
use Rattle.cc_model.specs.Touches.{size_of}
use Rattle.cc_step.proofs.Waiting.{needed-range}
use Rattle.cc_step.specs.Step.{is_stepped, least_absent, needed_range}
use Rattle.cc_writes.specs.Visits.{CallIsOfStream}

-- what is found among numbers that follow one another lies between the ends
find-range : (test : ℕ → Bool) (from len p : ℕ) → find test (range_with_len from len) ≡ Some p → (from ≤ p) × (p < from + len)
find-range test from zero p is = absurd (cc)
find-range test from (suc len) p is = by (test from) is (λ rest. find-range test (from + 1) len p rest)
  where
    by : (t : Bool) → cond t (Some from) (find test (range_with_len (from + 1) len)) ≡ Some p → (find test (range_with_len (from + 1) len) ≡ Some p → (from + 1 ≤ p) × (p < (from + 1) + len)) → (from ≤ p) × (p < from + suc len)
    by true found rest = let same : from ≡ p = cc in (omega (arith, same), omega (arith, same))
    by false found rest = let r = rest found in (omega (arith, r.0), omega (arith, r.1))

both-so : (a b : Bool) → a ≡ true → b ≡ true → (a && b) ≡ true
both-so true true x y = refl
both-so true false x y = y
both-so false b x y = x

has-found : (test : ℕ → Bool) (r : Range) (p : ℕ) → find test (pages_of r) ≡ Some p → has_page r p ≡ true
has-found test r p = by (nat_lt r.from r.to) refl
  where
    by : (t : Bool) → nat_lt r.from r.to ≡ t → find test (cond t (range_with_len (r.from / 4096) (((r.to - 1) / 4096 + 1) - r.from / 4096)) []) ≡ Some p → (t && (nat_lt r.from (4096 * p + 4096) && nat_lt (4096 * p) r.to)) ≡ true
    by false some is = absurd (cc)
    by true some is =
        let within = find-range test (r.from / 4096) (((r.to - 1) / 4096 + 1) - r.from / 4096) p is in
        let nonempty : r.from < r.to = ltb-true r.from r.to some in
        both-so _ _ (lt-ltb r.from (4096 * p + 4096) (omega (arith, within.0))) (lt-ltb (4096 * p) r.to (omega (arith, within.0, within.1, nonempty)))

range-found : (h : List Effect) (o : Option Range) (p : ℕ) → least_absent h o ≡ Some p → range_has o p ≡ true
range-found h None p is = absurd (cc)
range-found h (Some r) p is = has-found (λ q. not (is_resident h q)) r p is

same-stream : (a b : ℕ) → Some a ≡ Some b → (b == a) ≡ true
same-stream a b e = eq-eqb b a (cc)

-- a call that fetches pages is of its file's stream
of-stream : (it : Call) (s p : ℕ) → is_stepped it ≡ true → brings_in it ≡ true → CallIsOfStream it s → is_file_of_page (file_of it) (record { stream = s; page = p }) ≡ true
of-stream (call.CopyRead file at len true) s p stepped brings filed = same-stream s file.stream (filed [] 0)
of-stream (call.CopyRead file at len false) s p stepped brings filed = absurd (cc)
of-stream (call.CopyWrite file at bytes) s p stepped brings filed = same-stream s file.stream (filed [] 0)
of-stream (call.Zero file span) s p stepped brings filed = same-stream s file.stream (filed [] 0)
of-stream (call.Map file at len) s p stepped brings filed = same-stream s file.stream (filed [] 0)
of-stream (call.PinRead file at len exclusive) s p stepped brings filed = same-stream s file.stream (filed [] 0)
of-stream (call.PreparePin file at len clears exclusive) s p stepped brings filed = same-stream s file.stream (filed [] 0)
of-stream (call.MdlRead file at len) s p stepped brings filed = same-stream s file.stream (filed [] 0)
of-stream (call.MdlWrite file at len) s p stepped brings filed = same-stream s file.stream (filed [] 0)
of-stream (call.AheadStep request) s p stepped brings filed = same-stream s request.file.stream (filed [] 0)
of-stream (call.Query asked) s p stepped brings filed = by (file_of_query asked) stepped (filed [] 0)
  where
    by : (named : Option File) → is_some named ≡ true → IsFiled [] 0 (Some s) (call.Query asked) named → is_file_of_page named (record { stream = s; page = p }) ≡ true
    by None some is = absurd (cc)
    by (Some file) some is = same-stream s file.stream is
of-stream other s p stepped brings filed = absurd (cc)

pub reached : (it : Call) (s p : ℕ) (past : List Entry) → is_stepped it ≡ true → brings_in it ≡ true → CallIsOfStream it s → least_absent (history past s) (needed_range (history past s) it) ≡ Some p → reaches it (record { stream = s; page = p }) past ≡ true
reached it s p past stepped brings filed least = both-so _ _ (of-stream it s p stepped brings filed) (by (needed_range h it) refl least)
  where
    h : List Effect
    h = history past s

    by : (o : Option Range) → needed_range h it ≡ o → least_absent h o ≡ Some p → range_has (range_of (size_of h) it) p ≡ true
    by None is found = absurd (cc)
    by (Some r) is found = rw ((needed-range h it r is).0) (range-found h (Some r) p found)

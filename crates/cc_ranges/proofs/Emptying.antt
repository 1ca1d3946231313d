-- The pages of a clean span go out, the least resident one first, until none is resident.
use Rattle.std.specs.Prelude.{◌≡◌, ℕ, ◌+◌, ◌<◌, ◌≤◌, Bool, true, false, not, ◌&&◌, ◌==◌, List, [], ◌∷◌, None, refl}
use Rattle.std.specs.declared.option.Option.{Option}
use Rattle.std.specs.List.{list_any, list_all, range_with_len}
use Rattle.std.proofs.Common.{ap, sym, ◌∙◌, arith}
use Rattle.std.proofs.lemmas.Bool.{and_parts, and_from, or_left, or_right, eq-eqb}
use Rattle.cc_entry.specs.Place.{File, Range}
use Rattle.cc_entry.specs.declared.call.Call.TheVariants as call
use Rattle.cc_entry.specs.declared.entry.Entry.{Entry}
use Rattle.cc_content.proofs.Found.{Found-any, among-within}
use Rattle.cc_effects.specs.Asked.{asks_out, goes_next, is_admitted}
use Rattle.cc_laws.proofs.BlockLists.{is_among-filter}
use Rattle.cc_model.specs.Conditions.{MayGoOut}
use Rattle.cc_model.specs.History.{Effect, history}
use Rattle.cc_model.specs.Holds.{holds_of, is_held}
use Rattle.cc_model.specs.Images.{open_of}
use Rattle.cc_model.specs.Numbers.{is_among, ascending}
use Rattle.cc_model.specs.Ranges.{span_has}
use Rattle.cc_model.specs.Residency.{residents, is_resident}
use Rattle.cc_model.specs.Touches.{touched, is_dirty, dirty_pages}
use Rattle.cc_ranges.specs.Dirty.{IsCleanFrom}
use Rattle.cc_ranges.specs.Residents.{SpanIsOut, IsLeastResident}

all-fail : (test : ℕ → Bool) (ns : List ℕ) → ((n : ℕ) → is_among n ns ≡ true → test n ≡ false) → list_all (λ n. not (test n)) ns ≡ true
all-fail test [] none = refl
all-fail test (n ∷ ns) none = and_from _ _ (ap not (none n (or_left _ _ (eq-eqb n n refl)))) (all-fail test ns (λ m is. none m (or_right (n == m) _ is)))

module _ (h : List Effect) (span : Option Range) where
  -- none of its pages is among those that are resident
  pub all-out : SpanIsOut h span → list_any (span_has span) (residents h) ≡ false
  all-out out = go (list_any (span_has span) (residents h)) refl
    where
      go : (b : Bool) → list_any (span_has span) (residents h) ≡ b → list_any (span_has span) (residents h) ≡ false
      go true some =
          let found = Found-any (span_has span) (residents h) some in
          absurd (cc (out found.at found.passes, found.among))
      go false none = none

  module _ (page : ℕ) (clean : IsCleanFrom h span 0) (least : IsLeastResident h span page) where
    from-first : (q : ℕ) → 0 ≤ q
    from-first q = omega arith

    next-out : goes_next h (λ q. span_has span q) page ≡ true
    next-out =
        and_from _ _
        (all-fail (λ q. span_has span q) (dirty_pages h) (λ q is. away q is (span_has span q) refl))
        (all-fail (λ q. span_has span q && is_resident h q) (range_with_len 0 page) (λ q is. lesser q (among-within q 0 page is).1 (span_has span q) refl))
      where
        dirty-among : (q : ℕ) → is_among q (dirty_pages h) ≡ true → is_dirty h q ≡ true
        dirty-among q is = (and_parts (is_among q (ascending (touched h))) (is_dirty h q) (sym (is_among-filter (is_dirty h) q (ascending (touched h))) ∙ is)).1

        away : (q : ℕ) → is_among q (dirty_pages h) ≡ true → (b : Bool) → span_has span q ≡ b → b ≡ false
        away q is true here = absurd (cc (dirty-among q is, clean q (from-first q) here))
        away q is false other = refl

        lesser : (q : ℕ) → q < 0 + page → (b : Bool) → span_has span q ≡ b → (b && is_resident h q) ≡ false
        lesser q less true here = least.none_below q (below q less) here
          where
            below : (n : ℕ) → n < 0 + page → n < page
            below n less = omega arith
        lesser q less false other = refl

    -- the least resident one may go out
    pub may-go : open_of h ≡ None → is_held (holds_of h) page ≡ false → MayGoOut h page
    may-go rest unheld = record {
      resident = least.resident;
      not_held = unheld;
      clean = clean page (from-first page) least.in_span;
      no_transfer = rest;
    }

-- and is what a purge asks for that nothing refuses
pub asked-out : (past : List Entry) (me s : ℕ) (file : File) (span : Option Range) (page : ℕ) → is_admitted (call.Purge file span) s past ≡ true → s ≡ file.stream → IsCleanFrom (history past s) span 0 → IsLeastResident (history past s) span page → asks_out me (call.Purge file span) (record { stream = s; page = page }) past ≡ true
asked-out past me s file span page admitted here clean least =
    and_from (is_admitted (call.Purge file span) s past) _ admitted
    (and_from _ _ (and_from (file.stream == s) (span_has span page) (eq-eqb file.stream s (sym here)) least.in_span) (next-out (history past s) span page clean least))

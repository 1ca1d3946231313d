-- Where nothing refuses a purge, no open hold has a page of its span.
use Rattle.std.specs.Prelude.{◌≡◌, ℕ, Bool, true, false, ◌||◌, List, [], ◌∷◌, None, Some, refl}
use Rattle.std.specs.declared.option.Option.{Option}
use Rattle.std.specs.List.{list_any}
use Rattle.std.proofs.Common.{◌∙◌}
use Rattle.std.proofs.lemmas.Bool.{or_left, or_right}
use Rattle.cc_entry.specs.Pages.{has_page, pages_of}
use Rattle.cc_entry.specs.Place.{File, Range}
use Rattle.cc_entry.specs.declared.call.Call.TheVariants as call
use Rattle.cc_entry.specs.declared.entry.Entry.{Entry}
use Rattle.cc_ranges.proofs.Owing.{some-least}
use Rattle.cc_holds.proofs.PagesOwed.{among-pages_of}
use Rattle.cc_laws.proofs.Lists1.{among-any}
use Rattle.cc_laws.proofs.UnrefusedCalls.{unrefused}
use Rattle.cc_model.specs.Conflicts.{has_page_of, held_by}
use Rattle.cc_model.specs.History.{Effect}
use Rattle.cc_model.specs.Holds.{Hold, range_held, holds_of, is_held}
use Rattle.cc_model.specs.Ranges.{span_has}
use Rattle.cc_model.specs.Refusals.{refusal}
use Rattle.cc_model.specs.Setup.{Setup}

-- a hold that has a page of the span is one of those that bar a purge of it
bars : (span : Option Range) (hold : Hold) (p : ℕ) → has_page (range_held hold) p ≡ true → span_has span p ≡ true → has_page_of span hold ≡ true
bars span hold p has within =
    among-any (span_has span) p (pages_of (range_held hold)) (among-pages_of (range_held hold) p ∙ has) within

some-bars : (span : Option Range) (p : ℕ) (holds : List Hold) → span_has span p ≡ true → is_held holds p ≡ true → list_any (has_page_of span) holds ≡ true
some-bars span p [] within held = absurd (cc)
some-bars span p (hold ∷ holds) within held = go (has_page (range_held hold) p) refl held (some-bars span p holds within)
  where
    go : (b : Bool) → has_page (range_held hold) p ≡ b → (b || is_held holds p) ≡ true → (is_held holds p ≡ true → list_any (has_page_of span) holds ≡ true) → (has_page_of span hold || list_any (has_page_of span) holds) ≡ true
    go true has held rest = or_left (has_page_of span hold) _ (bars span hold p has within)
    go false none held rest = or_right (has_page_of span hold) _ (rest held)

nobody : (o : Option ℕ) → held_by o ≡ None → o ≡ None
nobody None none = refl
nobody (Some id) none = absurd (cc)

pub unheld : (u : Setup) (past : List Entry) (h : List Effect) (file : File) (span : Option Range) (p : ℕ) → refusal u past h (call.Purge file span) ≡ None → span_has span p ≡ true → is_held (holds_of h) p ≡ false
unheld u past h file span p admitted has = go (is_held (holds_of h) p) refl
  where
    go : (b : Bool) → is_held (holds_of h) p ≡ b → is_held (holds_of h) p ≡ false
    go true held =
        absurd (some-least (has_page_of span) (holds_of h) (some-bars span p (holds_of h) has held)
        (nobody _ (unrefused u past h (call.Purge file span) admitted).not_held))
    go false free = free

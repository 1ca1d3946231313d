-- Where nothing refuses a flush, no pin owes a stamp to a page of its span.
use Rattle.std.specs.Prelude.{◌≡◌, ℕ, Bool, true, false, ◌&&◌, ◌||◌, ◌==◌, cond, List, [], ◌∷◌, Option, None, Some, refl, if◌then◌else◌}
use Rattle.std.specs.List.{find, list_any, flat_map}
use Rattle.std.specs.Option.{option_and_then}
use Rattle.std.proofs.Common.{ap, sym, ◌∙◌}
use Rattle.std.proofs.lemmas.Bool.{eqb-true, eq-eqb, or_left, or_right}
use Rattle.std.proofs.lemmas.List.Folds.{list_any-append}
use Rattle.cc_entry.specs.Place.{File, Range}
use Rattle.cc_entry.specs.Pages.{has_page, pages_of}
use Rattle.cc_entry.specs.Kinds.{is_pin}
use Rattle.cc_entry.specs.declared.call.Call.TheVariants as call
use Rattle.cc_entry.specs.declared.entry.Entry.{Entry}
use Rattle.cc_holds.proofs.PagesOwed.{among-pages_of}
use Rattle.cc_laws.proofs.DirtyAmong.{is_among-ascending}
use Rattle.cc_laws.proofs.UnrefusedCalls.{unrefused}
use Rattle.cc_model.specs.Conflicts.{busy_by}
use Rattle.cc_model.specs.History.{Effect}
use Rattle.cc_model.specs.Holds.{Hold, holds_of, least_id, lesser}
use Rattle.cc_model.specs.Numbers.{is_among}
use Rattle.cc_model.specs.Ranges.{span_has}
use Rattle.cc_model.specs.Refusals.{refusal}
use Rattle.cc_model.specs.Setup.{Setup}
use Rattle.cc_model.specs.Stamps.{owes_stamp, owed_pages, is_unstamped}

-- the pages to which holds owe a stamp are those that are listed
owed-ranges : (p : ℕ) (owed : List Range) → is_among p (flat_map pages_of owed) ≡ list_any (λ r. has_page r p) owed
owed-ranges p [] = refl
owed-ranges p (r ∷ owed) =
    list_any-append (λ m. m == p) (pages_of r) (flat_map pages_of owed) ∙ (rw (among-pages_of r p, owed-ranges p owed) refl)

abbrev pages_owed : Hold → List ℕ
pages_owed hold = if is_pin hold.kind then flat_map pages_of hold.owed else []

owed-listed : (p : ℕ) (holds : List Hold) → is_among p (flat_map pages_owed holds) ≡ list_any (owes_stamp p) holds
owed-listed p [] = refl
owed-listed p (hold ∷ holds) =
    list_any-append (λ m. m == p) (pages_owed hold) (flat_map pages_owed holds) ∙ (rw (here (is_pin hold.kind), owed-listed p holds) refl)
  where
    here : (b : Bool) → is_among p (if b then flat_map pages_of hold.owed else []) ≡ (b && list_any (λ r. has_page r p) hold.owed)
    here true = owed-ranges p hold.owed
    here false = refl

owed-among : (p : ℕ) (holds : List Hold) → is_among p (owed_pages holds) ≡ list_any (owes_stamp p) holds
owed-among p holds = is_among-ascending p (flat_map pages_owed holds) ∙ owed-listed p holds

-- what is found is among the numbers, and where nothing is found each of them fails
found-among : (test : ℕ → Bool) (ns : List ℕ) (n : ℕ) → find test ns ≡ Some n → is_among n ns ≡ true
found-among test [] n found = absurd (cc)
found-among test (m ∷ ns) n found = go (test m) found (found-among test ns n)
  where
    go : (b : Bool) → cond b (Some m) (find test ns) ≡ Some n → (find test ns ≡ Some n → is_among n ns ≡ true) → (m == n || is_among n ns) ≡ true
    go true it rest = let same : m ≡ n = cc in or_left (m == n) _ (eq-eqb m n same)
    go false it rest = or_right (m == n) _ (rest it)

none-among : (test : ℕ → Bool) (ns : List ℕ) (n : ℕ) → find test ns ≡ None → is_among n ns ≡ true → test n ≡ false
none-among test [] n none among = absurd (cc)
none-among test (m ∷ ns) n none among = go (test m) refl none (m == n) refl among (none-among test ns n)
  where
    go : (b : Bool) → test m ≡ b → cond b (Some m) (find test ns) ≡ None → (c : Bool) → (m == n) ≡ c → (c || is_among n ns) ≡ true → (find test ns ≡ None → is_among n ns ≡ true → test n ≡ false) → test n ≡ false
    go true is it c same this rest = absurd (cc)
    go false fails it true same this rest = ap test (sym (eqb-true m n same)) ∙ fails
    go false fails it false other this rest = rest it this

-- where a hold passes a test, one has the least id
pub some-least : (test : Hold → Bool) (holds : List Hold) → list_any test holds ≡ true → least_id test holds ≡ None → ⊥
some-least test [] any none = absurd (cc)
some-least test (hold ∷ holds) any none = go (test hold) any none (some-least test holds)
  where
    least : (id : ℕ) (o : Option ℕ) → lesser id o ≡ None → ⊥
    least id None none = absurd (cc)
    least id (Some other) none = absurd (cc)

    go : (b : Bool) → (b || list_any test holds) ≡ true → (if b then lesser hold.id (least_id test holds) else least_id test holds) ≡ None → (list_any test holds ≡ true → least_id test holds ≡ None → ⊥) → ⊥
    go true any none rest = least hold.id (least_id test holds) none
    go false any none rest = rest any none

none-owes : (holds : List Hold) (span : Option Range) (p : ℕ) (o : Option ℕ) → find (span_has span) (owed_pages holds) ≡ o → busy_by (option_and_then (λ q. least_id (owes_stamp q) holds) o) ≡ None → span_has span p ≡ true → (b : Bool) → list_any (owes_stamp p) holds ≡ b → b ≡ false
none-owes holds span p o found none has false is = refl
none-owes holds span p None found none has true is =
    absurd (cc (none-among (span_has span) (owed_pages holds) p found (owed-among p holds ∙ is), has))
none-owes holds span p (Some q) found none has true is =
    absurd (some-least (owes_stamp q) holds (sym (owed-among q holds) ∙ found-among (span_has span) (owed_pages holds) q found) (nobody (least_id (owes_stamp q) holds) none))
  where
    nobody : (o : Option ℕ) → busy_by o ≡ None → o ≡ None
    nobody None none = refl
    nobody (Some id) none = absurd (cc)

-- a page of the span of a flush that nothing refuses is not Unstamped
pub stamped-page : (u : Setup) (past : List Entry) (h : List Effect) (file : File) (span : Option Range) (p : ℕ) → refusal u past h (call.Flush file span) ≡ None → span_has span p ≡ true → is_unstamped h p ≡ false
stamped-page u past h file span p admitted has =
    none-owes (holds_of h) span p (find (span_has span) (owed_pages (holds_of h))) refl
    (unrefused u past h (call.Flush file span) admitted).not_busy has (is_unstamped h p) refl

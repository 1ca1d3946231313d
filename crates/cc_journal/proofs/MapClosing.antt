-- Whether a stream has a map after an uninitialise, by its objects and the rows that are left.
use Rattle.std.specs.Prelude.{◌≡◌, ℕ, ◌*◌, Bool, true, false, cond, not, ◌&&◌, ◌||◌, nat_le, nat_lt, List, [], ◌∷◌, Option, None, Some, map, filter, if◌then◌else◌, refl}
use Rattle.std.specs.List.{list_any}
use Rattle.std.proofs.Common.{ap, sym, ◌∙◌, arith}
use Rattle.std.proofs.lemmas.Bool.Decides.{nat_tests}
use Rattle.cc_entry.specs.Place.{File}
use Rattle.cc_entry.specs.declared.call.Call.TheVariants as call
use Rattle.cc_entry.specs.declared.entry.Entry.{Entry}
use Rattle.cc_entry.specs.declared.reply.Reply.{Reply}
use Rattle.cc_dirty.specs.declared.row.Row.{Row}
use Rattle.cc_dirty.specs.Table.{is_row_of_stream, Sound}
use Rattle.cc_events.specs.Events.{truncation_by}
use Rattle.cc_model.specs.History.{Did, history}
use Rattle.cc_model.specs.Numbers.{is_empty, ascending}
use Rattle.cc_model.specs.Objects.{objects, truncation}
use Rattle.cc_model.specs.Sizes.{Touch, cut_if}
use Rattle.cc_model.specs.Touches.{touched, touches, is_dirty, is_mapped, size_of}
use Rattle.cc_laws.proofs.TouchSteps.{touches-closes}
use Rattle.cc_journal.specs.Rows.{Follows}
use Rattle.cc_journal.specs.Streams.{begins_below, is_left}
use Rattle.cc_journal.proofs.RowCounts.{list_any-ascending, dirty_pages-rows}

list_any-same : (test other : ℕ → Bool) (ns : List ℕ) → ((n : ℕ) → test n ≡ other n) → list_any test ns ≡ list_any other ns
list_any-same test other [] same = refl
list_any-same test other (n ∷ ns) same = rw (same n, list_any-same test other ns same) refl

list_any-kept : {X : Type 0} (kept test : X → Bool) (xs : List X) → list_any (λ x. kept x && test x) xs ≡ list_any test (filter kept xs)
list_any-kept kept test [] = refl
list_any-kept kept test (x ∷ xs) = go (kept x) (list_any-kept kept test xs)
  where
    go : (b : Bool) → list_any (λ y. kept y && test y) xs ≡ list_any test (filter kept xs) → ((b && test x) || list_any (λ y. kept y && test y) xs) ≡ list_any test (cond b (x ∷ filter kept xs) (filter kept xs))
    go true rest = ap (λ t. test x || t) rest
    go false rest = rest

list_any-map : (test : ℕ → Bool) (number : Row → ℕ) (rows : List Row) → list_any test (map number rows) ≡ list_any (λ r. test (number r)) rows
list_any-map test number [] = refl
list_any-map test number (r ∷ rows) = ap (λ t. test (number r) || t) (list_any-map test number rows)

-- what is left of a page after a cut
left-of : (cut : Option ℕ) (p : ℕ) (rest : List Touch) → not (is_empty (cut_if cut p rest)) ≡ (not (is_empty rest) && begins_below cut p)
left-of None p rest = all (not (is_empty rest))
  where
    all : (b : Bool) → b ≡ (b && true)
    all true = refl
    all false = refl
left-of (Some to) p rest = go (nat_le to (4096 * p)) refl (not (is_empty rest)) refl
  where
    below : (b : Bool) → nat_le to (4096 * p) ≡ b → nat_lt (4096 * p) to ≡ not b
    below b is = grind (arith, nat_tests)

    go : (b : Bool) → nat_le to (4096 * p) ≡ b → (d : Bool) → not (is_empty rest) ≡ d → not (is_empty (if b then [] else rest)) ≡ (d && nat_lt (4096 * p) to)
    go true is true d = sym (below true is)
    go true is false d = refl
    go false is true d = d ∙ sym (below false is)
    go false is false d = d

-- the size that an uninitialise sets hangs on its object alone
same-truncation : (opened : List ℕ) (size : ℕ) (file : File) (truncate : Option ℕ) → truncation_by file.object truncate opened size ≡ truncation opened size file truncate
same-truncation opened size file None = refl
same-truncation opened size file (Some to) = refl

-- there is a map after an uninitialise where an object is open after it, or a row is of a page that it leaves
pub is_mapped-closes : (past : List Entry) (rows : List Row) (s pass : ℕ) (file : File) (truncate cut : Option ℕ) (reply : Reply) (objects_open : Bool) → Follows past rows → Sound rows → cut ≡ truncation_by file.object truncate (objects (history past s)) (size_of (history past s)) → objects_open ≡ not (is_empty (objects (Did pass (call.Uninitialise file truncate) reply ∷ history past s))) → (objects_open || list_any (is_left s cut) rows) ≡ is_mapped (Did pass (call.Uninitialise file truncate) reply ∷ history past s)
unfolding touched
is_mapped-closes past rows s pass file truncate cut reply objects_open follows sound cut_is open_is =
    let h = history past s in
    let it = call.Uninitialise file truncate in
    let dirty : (p : ℕ) → is_dirty (Did pass it reply ∷ h) p ≡ (is_dirty h p && begins_below cut p) =
    λ p. ap (λ (t : List Touch). not (is_empty t)) (touches-closes false pass it reply h p refl)
    ∙ (ap (λ (c : Option ℕ). not (is_empty (cut_if c p (touches false h p)))) (sym (cut_is ∙ same-truncation (objects h) (size_of h) file truncate))
    ∙ left-of cut p (touches false h p)) in
    let left : list_any (λ p. is_dirty (Did pass it reply ∷ h) p) (touched h) ≡ list_any (is_left s cut) rows =
    list_any-same (λ p. is_dirty (Did pass it reply ∷ h) p) (λ p. is_dirty h p && begins_below cut p) (touched h) dirty
    ∙ (sym (list_any-ascending (λ p. is_dirty h p && begins_below cut p) (touched h))
    ∙ (list_any-kept (is_dirty h) (begins_below cut) (ascending (touched h))
    ∙ (ap (list_any (begins_below cut)) (sym (dirty_pages-rows past rows s follows sound))
    ∙ (list_any-map (begins_below cut) (λ r. r.page.page) (filter (is_row_of_stream s) rows)
    ∙ sym (list_any-kept (is_row_of_stream s) (λ r. begins_below cut r.page.page) rows))))) in
    ap (λ (b : Bool). b || list_any (is_left s cut) rows) open_is
    ∙ ap (λ (b : Bool). not (is_empty (objects (Did pass it reply ∷ h))) || b) (sym left)

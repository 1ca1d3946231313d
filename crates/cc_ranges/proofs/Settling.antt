-- How a flush settles its pages, one after the other, while the journal grows.
use Rattle.std.specs.Prelude.{◌≡◌, ℕ, suc, ◌<◌, ◌≤◌, Bool, true, false, not, ◌||◌, nat_lt, List, [], ◌∷◌, ◌++◌, length, refl}
use Rattle.std.specs.declared.option.Option.{Option}
use Rattle.std.specs.List.{list_all}
use Rattle.std.proofs.Common.{ap, subst, ◌∙◌, arith, append_assoc}
use Rattle.std.proofs.lemmas.Bool.{and_from, eq-eqb, ltb-true, ltb-false, lt-ltb}
use Rattle.std.proofs.lemmas.List.{length-append}
use Rattle.cc_entry.specs.Place.{Page, Range}
use Rattle.cc_entry.specs.declared.entry.Entry.{Entry}
use Rattle.cc_entry.specs.declared.entry.Entry.TheVariants as entry
use Rattle.cc_entry.specs.declared.entry.End.TheVariants as how
use Rattle.cc_model.specs.Numbers.{is_empty}
use Rattle.cc_model.specs.History.{Effect, Began, Ended, history}
use Rattle.cc_model.specs.Sizes.{Touch}
use Rattle.cc_model.specs.Ranges.{span_has}
use Rattle.cc_model.specs.Touches.{touches, unwritten, dirty_pages, is_dirty}
use Rattle.cc_model.specs.Flushed.{settled_since}
use Rattle.cc_laws.proofs.HistorySteps.{history-grown, history-write_begin, history-write_end}
use Rattle.cc_laws.proofs.TouchSteps.{touches-began_written, touches-ended_good}
use Rattle.cc_turns.specs.Transfers.{transferred}
use Rattle.cc_ranges.specs.Settled.{IsSettledPage, IsSettledTo, IsSettledAll}
use Rattle.cc_ranges.proofs.LaterTouches.{all_so, touches-pass, adds-any}

-- a stream has no fewer effects as the journal grows
pub history-longer : (later past : List Entry) (s : ℕ) → length (history past s) ≤ length (history (later ++ past) s)
history-longer later past s =
    let grown = ap (λ h. length h) (history-grown later past s) in
    let both = length-append (history later s) (history past s) in
    omega (arith, grown, both)

-- touches that came after so many effects stay such while the stream has no fewer
later-grown : (seen : ℕ) (ended : Bool) (more h : List Effect) (p : ℕ) → seen ≤ length h → list_all (λ touch. nat_lt seen touch.place) (touches ended h p) ≡ true → list_all (λ touch. nat_lt seen touch.place) (touches ended (more ++ h) p) ≡ true
later-grown seen ended [] h p le all = all
later-grown seen ended (e ∷ more) h p le all =
    let longer = length-append more h in
    touches-pass (λ touch. nat_lt seen touch.place) ended e (more ++ h) p
    (adds-any (λ touch. nat_lt seen touch.place) e (length (more ++ h)) (λ lsn. lt-ltb seen (suc (length (more ++ h))) (omega (arith, le, longer))))
    (later-grown seen ended more h p le all)

-- a settled page stays settled
pub settled-grown : (seen : ℕ) (more h : List Effect) (p : ℕ) → seen ≤ length h → IsSettledPage seen h p → IsSettledPage seen (more ++ h) p
settled-grown seen more h p le all = later-grown seen false more h p le all

pub settled-later : (seen : ℕ) (later past : List Entry) (s p : ℕ) → seen ≤ length (history past s) → IsSettledPage seen (history past s) p → IsSettledPage seen (history (later ++ past) s) p
settled-later seen later past s p le all = rw (history-grown later past s) (settled-grown seen (history later s) (history past s) p le all)

pub settled_to-later : (to seen : ℕ) (later past : List Entry) (s : ℕ) (span : Option Range) → seen ≤ length (history past s) → IsSettledTo to seen (history past s) span → IsSettledTo to seen (history (later ++ past) s) span
settled_to-later to seen later past s span le settled = λ p below has. settled-later seen later past s p le (settled p below has)

pub settled_all-later : (seen : ℕ) (later past : List Entry) (s : ℕ) (span : Option Range) → seen ≤ length (history past s) → IsSettledAll seen (history past s) span → IsSettledAll seen (history (later ++ past) s) span
settled_all-later seen later past s span le settled = λ p has. settled-later seen later past s p le (settled p has)

-- A transfer that ended well settles its page, whatever came between its begin and its end.
pub settled-ended : (seen me by p : ℕ) (more h : List Effect) → seen ≤ length h → IsSettledPage seen (Ended me p how.Good ∷ (more ++ Began by p ∷ h)) p
settled-ended seen me by p more h le =
    ap (list_all (λ touch. nat_lt seen touch.place)) (touches-ended_good false me p how.Good (more ++ Began by p ∷ h) p (eq-eqb p p refl) refl)
    ∙ later-grown seen true more (Began by p ∷ h) p (omega (arith, le))
    (ap (list_all (λ touch. nat_lt seen touch.place)) (touches-began_written by p h p (eq-eqb p p refl)))

pub settled-transferred : (seen me s p : ℕ) (later before : List Entry) → seen ≤ length (history before s) → IsSettledPage seen (history (transferred me s p how.Good later before) s) p
settled-transferred seen me s p later before le =
    let page : Page = record { stream = s; page = p } in
    rw (history-write_end me page how.Good (later ++ entry.WriteBegin me page ∷ before) s (eq-eqb s s refl), history-grown later (entry.WriteBegin me page ∷ before) s, history-write_begin me page before s (eq-eqb s s refl))
    (settled-ended seen me me p (history later s) (history before s) le)

-- so a flush that came to a page has come past it once its transfer ended well
pub settled_to-transferred : (p seen me s : ℕ) (span : Option Range) (later before : List Entry) → seen ≤ length (history before s) → IsSettledTo p seen (history before s) span → IsSettledTo (suc p) seen (history (transferred me s p how.Good later before) s) span
settled_to-transferred p seen me s span later before le settled q below has = go (nat_lt q p) refl
  where
    page : Page
    page = record { stream = s; page = p }

    longer : entry.WriteEnd me page how.Good ∷ ((later ++ entry.WriteBegin me page ∷ []) ++ before) ≡ transferred me s p how.Good later before
    longer = ap (λ rest. entry.WriteEnd me page how.Good ∷ rest) (append_assoc later (entry.WriteBegin me page ∷ []) before)

    go : (b : Bool) → nat_lt q p ≡ b → IsSettledPage seen (history (transferred me s p how.Good later before) s) q
    go true less =
        subst (λ past. IsSettledPage seen (history past s) q) longer
        (settled-later seen (entry.WriteEnd me page how.Good ∷ (later ++ entry.WriteBegin me page ∷ [])) before s q le (settled q (ltb-true q p less) has))
    go false not_less =
        let least = ltb-false q p not_less in
        let same : p ≡ q = omega (arith, below, least) in
        subst (λ r. IsSettledPage seen (history (transferred me s p how.Good later before) s) r) same (settled-transferred seen me s p later before le)

-- a clean page is settled
pub settled-clean : (seen : ℕ) (h : List Effect) (p : ℕ) → is_dirty h p ≡ false → IsSettledPage seen h p
settled-clean seen h p clean = go (unwritten h p) clean
  where
    go : (ts : List Touch) → not (is_empty ts) ≡ false → list_all (λ touch. nat_lt seen touch.place) ts ≡ true
    go [] none = refl
    go (t ∷ ts) some = absurd (cc)

-- so a flush comes past clean pages
pub settled_to-clean : (from to seen : ℕ) (h : List Effect) (span : Option Range) → IsSettledTo from seen h span → ((p : ℕ) → from ≤ p → p < to → span_has span p ≡ true → is_dirty h p ≡ false) → IsSettledTo to seen h span
settled_to-clean from to seen h span settled clean p below has = go (nat_lt p from) refl
  where
    go : (b : Bool) → nat_lt p from ≡ b → IsSettledPage seen h p
    go true less = settled p (ltb-true p from less) has
    go false not_less = settled-clean seen h p (clean p (ltb-false p from not_less) below has)

-- and to the end, where no page is left
pub settled_all-clean : (from seen : ℕ) (h : List Effect) (span : Option Range) → IsSettledTo from seen h span → ((p : ℕ) → from ≤ p → span_has span p ≡ true → is_dirty h p ≡ false) → IsSettledAll seen h span
settled_all-clean from seen h span settled clean p has = go (nat_lt p from) refl
  where
    go : (b : Bool) → nat_lt p from ≡ b → IsSettledPage seen h p
    go true less = settled p (ltb-true p from less) has
    go false not_less = settled-clean seen h p (clean p (ltb-false p from not_less) has)

-- what the model asks of a flush, where all pages are settled
pub settled_since-all : (seen : ℕ) (h : List Effect) (span : Option Range) → IsSettledAll seen h span → settled_since seen h span ≡ true
settled_since-all seen h span settled = go (dirty_pages h)
  where
    here : (p : ℕ) (b : Bool) → span_has span p ≡ b → (not b || list_all (λ touch. nat_lt seen touch.place) (unwritten h p)) ≡ true
    here p true has = settled p has
    here p false has = refl

    go : (pages : List ℕ) → list_all (λ p. not (span_has span p) || list_all (λ touch. nat_lt seen touch.place) (unwritten h p)) pages ≡ true
    go [] = refl
    go (p ∷ pages) = and_from _ _ (here p (span_has span p) refl) (go pages)

-- what came after so many effects came after fewer
pub settled-fewer : (seen fewer : ℕ) (h : List Effect) (p : ℕ) → fewer ≤ seen → IsSettledPage seen h p → IsSettledPage fewer h p
settled-fewer seen fewer h p le all = all_so (λ touch. nat_lt seen touch.place) (λ touch. nat_lt fewer touch.place) so (unwritten h p) all
  where
    so : (touch : Touch) → nat_lt seen touch.place ≡ true → nat_lt fewer touch.place ≡ true
    so touch after = let later = ltb-true seen touch.place after in lt-ltb fewer touch.place (omega (arith, le, later))

pub settled_since-fewer : (seen fewer : ℕ) (h : List Effect) (span : Option Range) → fewer ≤ seen → settled_since seen h span ≡ true → settled_since fewer h span ≡ true
settled_since-fewer seen fewer h span le all =
    all_so (λ p. not (span_has span p) || list_all (λ touch. nat_lt seen touch.place) (unwritten h p)) (λ p. not (span_has span p) || list_all (λ touch. nat_lt fewer touch.place) (unwritten h p)) (λ p. so p (span_has span p)) (dirty_pages h) all
  where
    so : (p : ℕ) (b : Bool) → (not b || list_all (λ touch. nat_lt seen touch.place) (unwritten h p)) ≡ true → (not b || list_all (λ touch. nat_lt fewer touch.place) (unwritten h p)) ≡ true
    so p true is = settled-fewer seen fewer h p le is
    so p false is = refl

-- The post routines that come back: as they were handed in, and posted one behind the other.
use Rattle.std.specs.Prelude.{◌≡◌, ◌≢◌, ℕ, zero, suc, ◌+◌, ◌<◌, ◌≤◌, ◌==◌, Bool, false, true, All, List, [], ◌∷◌, ◌++◌, get_or, take, length, reverse, slice_get, slice_set, refl, if◌then◌else◌}
use Rattle.std.specs.declared.option.Option.{Option}
use Rattle.std.specs.declared.option.Option.TheVariants.{Some}
use Rattle.std.specs.Bool.{MatchBool}
use Rattle.std.specs.List.{AllWithin, HoldsAt, list_any}
use Rattle.std.proofs.Common.{subst, sym, ap, ◌∙◌, arith, append-nil}
use Rattle.std.proofs.lemmas.Bool.{eqb-true, eqb-false}
use Rattle.std.proofs.lemmas.List.{length-append, length-set, length-take, take_all, take_more}
use Rattle.std.proofs.lemmas.List.Elements.{All-from_all_within, All-get_or}
use Rattle.std.proofs.lemmas.List.Folds.{list_any_at, list_any_none}
use Rattle.std.proofs.lemmas.List.Sorted.{IsPermutation-reverse, list_any-IsPermutation}
use Rattle.std.proofs.lemmas.Option.{get_or_from_slice_get, same_Some, slice_get-get_or, slice_get_past, slice_get_within}
use Rattle.cc_entry.specs.declared.answer.LineReply.{LineReply}
use Rattle.cc_entry.specs.declared.entry.Entry.{Entry}
use Rattle.cc_script.specs.declared.script.ActionLine.{ActionLine}
use Rattle.cc_script.specs.EventActions.{defer_lines, is_defer}
use Rattle.cc_pieces.specs.Steps.{RoutinesLeft, deferral_in, deferrals_of_lines, was_posted}
use Rattle.cc_run.proofs.Lists.{there}

-- what a list has behind a change of one place
pub get-there : {A : Type 0} (xs : List A) (i : ℕ) (y : A) → i < length xs → slice_get (slice_set xs i y) i ≡ Some y
get-there [] i y within = absurd (omega (arith, within))
get-there (x ∷ xs) zero y within = refl
get-there (x ∷ xs) (suc i) y within = get-there xs i y (omega (arith, within))

pub get-else : {A : Type 0} (xs : List A) (i k : ℕ) (y : A) → k ≢ i → slice_get (slice_set xs i y) k ≡ slice_get xs k
get-else [] i k y apart = refl
get-else (x ∷ xs) zero zero y apart = absurd (apart refl)
get-else (x ∷ xs) zero (suc k) y apart = refl
get-else (x ∷ xs) (suc i) zero y apart = refl
get-else (x ∷ xs) (suc i) (suc k) y apart = get-else xs i k y (λ same. apart (ap suc same))

none-there : (k : ℕ) → slice_get {X = Option ℕ} [] k ≡ slice_get [] 0
none-there k = refl

-- the routines as they were handed in, where no write was deferred
pub posts-kept : {Q : Type 0} (posted : Q → Bool) (deferrals : List (Option ℕ)) (past : List Entry) (posts : List Q) → deferrals ≡ [] → All (λ routine. posted routine ≡ false) posts → RoutinesLeft posted deferrals past posts posts
posts-kept posted deferrals past posts none unposted = record {
  counted = refl;
  each = λ k routine at. unposted-at k routine at ∙ sym (ap (λ l. was_posted past (slice_get l k)) none);
  same = λ k routine at is. at;
}
  where
    unposted-at : (k : ℕ) (routine : _) → slice_get posts k ≡ Some routine → posted routine ≡ false
    unposted-at k routine at =
        subst (λ one. posted one ≡ false) (get_or_from_slice_get posts k routine routine at)
        (All-get_or (λ one. posted one ≡ false) posts k routine (slice_get_within posts k routine at) unposted)

-- ---- one `defer` line more

-- the deferral of the last line, where it has one
pub deferrals-more : (lines : List ActionLine) (replies : List LineReply) (line : ActionLine) (reply : LineReply) → length lines ≡ length replies → deferrals_of_lines (lines ++ line ∷ []) (replies ++ reply ∷ []) ≡ deferrals_of_lines lines replies ++ (if is_defer line.action then deferral_in reply.answer ∷ [] else [])
deferrals-more [] [] line reply long = by (is_defer line.action)
  where
    by : (b : Bool) → (if b then deferral_in reply.answer ∷ [] else []) ≡ [] ++ (if b then deferral_in reply.answer ∷ [] else [])
    by true = refl
    by false = refl
deferrals-more [] (first ∷ replies) line reply long = absurd (omega (arith, long))
deferrals-more (first ∷ lines) [] line reply long = absurd (omega (arith, long))
deferrals-more (first ∷ lines) (told ∷ replies) line reply long = by (is_defer first.action) (deferrals-more lines replies line reply (omega (arith, long)))
  where
    last : List (Option ℕ)
    last = if is_defer line.action then deferral_in reply.answer ∷ [] else []

    by : (b : Bool) → deferrals_of_lines (lines ++ line ∷ []) (replies ++ reply ∷ []) ≡ deferrals_of_lines lines replies ++ last → (if b then deferral_in told.answer ∷ deferrals_of_lines (lines ++ line ∷ []) (replies ++ reply ∷ []) else deferrals_of_lines (lines ++ line ∷ []) (replies ++ reply ∷ [])) ≡ (if b then deferral_in told.answer ∷ deferrals_of_lines lines replies else deferrals_of_lines lines replies) ++ last
    by true rest = ap (λ l. deferral_in told.answer ∷ l) rest
    by false rest = rest

-- there are as many deferrals as `defer` lines
pub deferrals-long : (lines : List ActionLine) (replies : List LineReply) → length lines ≡ length replies → length (deferrals_of_lines lines replies) ≡ defer_lines lines
deferrals-long [] [] long = refl
deferrals-long [] (reply ∷ replies) long = absurd (omega (arith, long))
deferrals-long (line ∷ lines) [] long = absurd (omega (arith, long))
deferrals-long (line ∷ lines) (reply ∷ replies) long = by (is_defer line.action) (deferrals-long lines replies (omega (arith, long)))
  where
    by : (b : Bool) → length (deferrals_of_lines lines replies) ≡ defer_lines lines → length (if b then deferral_in reply.answer ∷ deferrals_of_lines lines replies else deferrals_of_lines lines replies) ≡ (if b then suc (defer_lines lines) else defer_lines lines)
    by true rest = ap suc rest
    by false rest = rest

-- of fewer lines there are no more
pub defers-front : (n : ℕ) (lines : List ActionLine) → defer_lines (take n lines) ≤ defer_lines lines
defers-front zero lines = omega arith
defers-front (suc n) [] = omega arith
defers-front (suc n) (line ∷ lines) = by (is_defer line.action) (defers-front n lines)
  where
    by : (b : Bool) → defer_lines (take n lines) ≤ defer_lines lines → (if b then suc (defer_lines (take n lines)) else defer_lines (take n lines)) ≤ (if b then suc (defer_lines lines) else defer_lines lines)
    by true rest = omega (arith, rest)
    by false rest = rest

-- ---- what is posted

module _ (past : List Entry) (d : Option ℕ) where
  -- whether the routine at a place was posted, where that of one more line was not
  posted-as : (ds : List (Option ℕ)) (k : ℕ) → was_posted past (Some d) ≡ false → was_posted past (slice_get (ds ++ d ∷ []) k) ≡ was_posted past (slice_get ds k)
  posted-as [] zero none = none
  posted-as [] (suc k) none = refl
  posted-as (first ∷ ds) zero none = refl
  posted-as (first ∷ ds) (suc k) none = posted-as ds k none

  -- or at another place
  posted-else : (ds : List (Option ℕ)) (k : ℕ) → k ≢ length ds → was_posted past (slice_get (ds ++ d ∷ []) k) ≡ was_posted past (slice_get ds k)
  posted-else [] zero apart = absurd (apart refl)
  posted-else [] (suc k) apart = refl
  posted-else (first ∷ ds) zero apart = refl
  posted-else (first ∷ ds) (suc k) apart = posted-else ds k (λ same. apart (ap suc same))

  posted-last : (ds : List (Option ℕ)) → slice_get (ds ++ d ∷ []) (length ds) ≡ Some d
  posted-last [] = refl
  posted-last (first ∷ ds) = posted-last ds

module _ {Q : Type 0} (posted : Q → Bool) (past : List Entry) (ds : List (Option ℕ)) (d : Option ℕ) (old new : List Q) (left : RoutinesLeft posted ds past old new) where
  -- the routine of the next line was not posted yet
  pub next-unposted : (routine : Q) → slice_get new (length ds) ≡ Some routine → posted routine ≡ false
  next-unposted routine at = left.each (length ds) routine at ∙ ap (was_posted past) (slice_get_past ds (length ds) (omega arith))

  -- it is not posted
  pub posts-not : was_posted past (Some d) ≡ false → RoutinesLeft posted (ds ++ d ∷ []) past old new
  posts-not none = record {
    counted = left.counted;
    each = λ k routine at. left.each k routine at ∙ sym (posted-as past d ds k none);
    same = left.same;
  }

  -- it is posted
  pub posts-one : (now : Q) → was_posted past (Some d) ≡ true → posted now ≡ true → RoutinesLeft posted (ds ++ d ∷ []) past old (slice_set new (length ds) now)
  posts-one now is done = record {
    counted = length-set new (length ds) now ∙ left.counted;
    each = each;
    same = same;
  }
    where
      here : (k : ℕ) (routine : Q) → k ≡ length ds → slice_get (slice_set new (length ds) now) k ≡ Some routine → now ≡ routine
      here k routine at_end at =
          let within : k < length new = omega (arith, slice_get_within (slice_set new (length ds) now) k routine at, length-set new (length ds) now) in
          same_Some now routine
          (sym (get-there new (length ds) now (omega (arith, within, at_end))) ∙ (ap (λ n. slice_get (slice_set new (length ds) now) n) (sym at_end) ∙ at))

      there : (k : ℕ) → k ≢ length ds → slice_get (slice_set new (length ds) now) k ≡ slice_get new k
      there k apart = get-else new (length ds) k now apart

      each : (k : ℕ) (routine : Q) → slice_get (slice_set new (length ds) now) k ≡ Some routine → posted routine ≡ was_posted past (slice_get (ds ++ d ∷ []) k)
      each k routine at = by (k == length ds) refl
        where
          by : (b : Bool) → (k == length ds) ≡ b → posted routine ≡ was_posted past (slice_get (ds ++ d ∷ []) k)
          by true test =
              let at_end = eqb-true k (length ds) test in
              subst (λ r. posted r ≡ was_posted past (slice_get (ds ++ d ∷ []) k)) (here k routine at_end at)
              (done ∙ sym (ap (λ n. was_posted past (slice_get (ds ++ d ∷ []) n)) at_end ∙ (ap (was_posted past) (posted-last past d ds) ∙ is)))
          by false test =
              let apart = eqb-false k (length ds) test in
              left.each k routine (sym (there k apart) ∙ at) ∙ sym (posted-else past d ds k apart)

      same : (k : ℕ) (routine : Q) → slice_get (slice_set new (length ds) now) k ≡ Some routine → posted routine ≡ false → slice_get old k ≡ Some routine
      same k routine at unposted = by (k == length ds) refl
        where
          by : (b : Bool) → (k == length ds) ≡ b → slice_get old k ≡ Some routine
          by true test = absurd (cc (done, unposted, ap posted (here k routine (eqb-true k (length ds) test) at)))
          by false test = left.same k routine (sym (there k (eqb-false k (length ds) test)) ∙ at) unposted

-- ---- the lines one after the other

-- What the lines before one left: the routines of those that deferred are posted where the journal shows it.
pub record PostedTo {Q : Type 0} (posted : Q → Bool) (lines : List ActionLine) (answers : List LineReply) (past : List Entry) (old : List Q) (at next : ℕ) (now : List Q) : Type 0 where
  pub within : at ≤ length lines
  pub counted : next ≡ length (deferrals_of_lines (take at lines) (take at answers))
  pub left : RoutinesLeft posted (deferrals_of_lines (take at lines) (take at answers)) past old now

pub posted-first : {Q : Type 0} (posted : Q → Bool) (lines : List ActionLine) (answers : List LineReply) (past : List Entry) (old : List Q) → All (λ routine. posted routine ≡ false) old → PostedTo posted lines answers past old 0 0 old
posted-first posted lines answers past old unposted = record {
  within = omega arith;
  counted = refl;
  left = posts-kept posted [] past old refl unposted;
}

pub posted-all : {Q : Type 0} (posted : Q → Bool) (lines : List ActionLine) (answers : List LineReply) (past : List Entry) (old : List Q) (at next : ℕ) (now : List Q) → PostedTo posted lines answers past old at next now → length lines ≤ at → length answers ≡ length lines → RoutinesLeft posted (deferrals_of_lines lines answers) past old now
posted-all posted lines answers past old at next now left end long =
    rw (take_all at lines end, take_all at answers (omega (arith, end, long))) at left.left

module _ {Q : Type 0} (posted : Q → Bool) (lines : List ActionLine) (answers : List LineReply) (past : List Entry) (old : List Q) (at next : ℕ) (now : List Q) (line : ActionLine) (reply : LineReply) (long : length answers ≡ length lines) (less : at < length lines) (line_is : line ≡ get_or lines at line) (reply_is : reply ≡ get_or answers at reply) (left : PostedTo posted lines answers past old at next now) where
  abbrev ds : List (Option ℕ)
  ds = deferrals_of_lines (take at lines) (take at answers)

  both : length (take at lines) ≡ length (take at answers)
  both = omega (arith, length-take at lines, length-take at answers, long)

  more : deferrals_of_lines (take (at + 1) lines) (take (at + 1) answers) ≡ ds ++ (if is_defer line.action then deferral_in reply.answer ∷ [] else [])
  more =
      ap (λ l. deferrals_of_lines l (take (at + 1) answers)) (take_more lines at line less ∙ ap (λ x. take at lines ++ x ∷ []) (sym line_is))
      ∙ (ap (λ l. deferrals_of_lines (take at lines ++ line ∷ []) l) (take_more answers at reply (omega (arith, less, long)) ∙ ap (λ x. take at answers ++ x ∷ []) (sym reply_is))
      ∙ deferrals-more (take at lines) (take at answers) line reply both)

  -- the line defers no write
  other-line : is_defer line.action ≡ false → PostedTo posted lines answers past old (at + 1) next now
  other-line not =
      let same : deferrals_of_lines (take (at + 1) lines) (take (at + 1) answers) ≡ ds = (rw not at more) ∙ append-nil ds in
      record {
        within = omega (arith, less);
        counted = left.counted ∙ sym (ap length same);
        left = subst (λ l. RoutinesLeft posted l past old now) (sym same) left.left;
      }

  module _ (yes : is_defer line.action ≡ true) where
    one_more : deferrals_of_lines (take (at + 1) lines) (take (at + 1) answers) ≡ ds ++ deferral_in reply.answer ∷ []
    one_more = rw yes at more

    counted_more : next + 1 ≡ length (deferrals_of_lines (take (at + 1) lines) (take (at + 1) answers))
    counted_more = sym (ap length one_more ∙ (length-append ds (deferral_in reply.answer ∷ []) ∙ ap (λ n. n + 1) (sym left.counted)))

    -- the next routine is the line's
    pub has-routine : defer_lines lines ≤ length old → next < length now
    has-routine enough =
        let both_more : length (take (at + 1) lines) ≡ length (take (at + 1) answers) =
        omega (arith, length-take (at + 1) lines, length-take (at + 1) answers, long) in
        omega (arith, counted_more, deferrals-long (take (at + 1) lines) (take (at + 1) answers) both_more, defers-front (at + 1) lines, enough, left.left.counted)

    -- its write was not posted
    pub waits-still : was_posted past (Some (deferral_in reply.answer)) ≡ false → PostedTo posted lines answers past old (at + 1) (next + 1) now
    waits-still none = record {
      within = omega (arith, less);
      counted = counted_more;
      left = subst (λ l. RoutinesLeft posted l past old now) (sym one_more) (posts-not posted past ds (deferral_in reply.answer) old now left.left none);
    }

    -- it was, and so is the routine, which was not yet
    pub unposted-yet : defer_lines lines ≤ length old → (routine : Q) → routine ≡ get_or now next routine → posted routine ≡ false
    unposted-yet enough routine is =
        next-unposted posted past ds (deferral_in reply.answer) old now left.left routine
        (ap (slice_get now) (sym left.counted) ∙ (slice_get-get_or now next routine (has-routine enough) ∙ ap Some (sym is)))

    pub posted-now : was_posted past (Some (deferral_in reply.answer)) ≡ true → (routine : Q) → posted routine ≡ true → PostedTo posted lines answers past old (at + 1) (next + 1) (slice_set now next routine)
    posted-now is routine done = record {
      within = omega (arith, less);
      counted = counted_more;
      left = subst (λ l. RoutinesLeft posted l past old (slice_set now next routine)) (sym one_more)
          (subst (λ n. RoutinesLeft posted (ds ++ deferral_in reply.answer ∷ []) past old (slice_set now n routine)) (sym left.counted)
          (posts-one posted past ds (deferral_in reply.answer) old now left.left routine is done));
    }

-- a line that defers no write, whatever it was answered
pub passed-by : {Q : Type 0} (posted : Q → Bool) (lines : List ActionLine) (answers : List LineReply) (past : List Entry) (old : List Q) (at next : ℕ) (now : List Q) (line : ActionLine) → length answers ≡ length lines → at < length lines → line ≡ get_or lines at line → is_defer line.action ≡ false → PostedTo posted lines answers past old at next now → PostedTo posted lines answers past old (at + 1) next now
passed-by posted lines answers past old at next now line long less line_is not left =
    let one = there answers at (omega (arith, less, long)) in
    other-line posted lines answers past old at next now line one.0 long less line_is (sym (get_or_from_slice_get answers at one.0 one.0 one.1)) left not

-- whether an entry is among several, in the order in which they stand or the other
pub found : (test : Entry → Bool) (entries : List Entry) (any : Entry) (r : Bool) → MatchBool r ((k : ℕ) × (k < length entries) × HoldsAt (λ entry. test entry ≡ true) entries k) (AllWithin (λ entry. test entry ≡ false) entries 0 (length entries)) → r ≡ list_any test (reverse entries)
found test entries any true some =
    sym (sym (list_any-IsPermutation test entries (reverse entries) (IsPermutation-reverse entries)) ∙ list_any_at test entries some.0 any some.1 (some.2 any))
found test entries any false none =
    sym (sym (list_any-IsPermutation test entries (reverse entries) (IsPermutation-reverse entries)) ∙ list_any_none test entries (All-from_all_within (λ entry. test entry ≡ false) entries none))

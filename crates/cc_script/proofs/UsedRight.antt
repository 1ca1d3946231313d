-- What a caller's words stand for, line by line, and that its lines use them right.
use Rattle.std.proofs.Common.{◌≡◌, ℕ, suc, ◌+◌, ◌≤◌, ◌==◌, Bool, true, false, ◌&&◌, not, Some, None, Option, List, [], ◌∷◌, ◌++◌, length, nat_le, if◌then◌else◌, refl, ◌∙◌, length-append, arith}
use Rattle.std.specs.Prelude.{slice_get}
use Rattle.std.proofs.lemmas.List.{length-set}
use Rattle.std.proofs.lemmas.Bool.Decides.{nat_tests}
use Rattle.cc_script.specs.declared.bound.Bound.{Bound}
use Rattle.cc_script.specs.declared.bound.Need.{Need}
use Rattle.cc_script.specs.declared.bound.Need.TheVariants as need
use Rattle.cc_script.specs.declared.script.Action.{Action}
use Rattle.cc_script.specs.declared.script.Action.TheVariants as action
use Rattle.cc_script.specs.declared.script.ActionLine.{ActionLine}
use Rattle.cc_script.specs.HoldWords.{meets, bound_covers, is_usable_word, bound_has_range, may_use, with_hold_changed, as_pin, as_ended, bound_repinned, bound_after, UsesHold, UsesBytes, UsesRight, bound_if, IsRightIf, bound_so_far, AreUsedRight, binds, words_bound}
use Rattle.cc_script.proofs.Steps.{both}
use Rattle.cc_script.proofs.Plain.{IsNumbered}

pub no_no : (t : Bool) → not t ≡ true → t ≡ false
no_no true e = absurd (cc)
no_no false e = refl

uses : (n : Need) (bounds : List Bound) (word : ℕ) → is_usable_word n (slice_get bounds word) ≡ true → UsesHold n bounds word
uses n bounds word e = either (slice_get bounds word) refl e
  where
    either : (o : Option Bound) → slice_get bounds word ≡ o → is_usable_word n o ≡ true → UsesHold n bounds word
    either None f g = absurd (cc)
    either (Some b) f g =
        let tests = both (not b.ended) (meets n b.kind) g in
        record { bound = b; named = f; still = no_no b.ended tests.0; serves = tests.1 }

uses-bytes : (n : Need) (bounds : List Bound) (word at len : ℕ) → bound_has_range n at len (slice_get bounds word) ≡ true → UsesBytes n bounds word at len
uses-bytes n bounds word at len e = either (slice_get bounds word) refl e
  where
    either : (o : Option Bound) → slice_get bounds word ≡ o → bound_has_range n at len o ≡ true → UsesBytes n bounds word at len
    either None f g = absurd (cc)
    either (Some b) f g =
        let tests = both (is_usable_word n (Some b)) (bound_covers at len b) g in
        let opens = both (not b.ended) (meets n b.kind) tests.0 in
        let ends = both (nat_le b.at at) (nat_le (at + len) (b.at + b.len)) tests.1 in
        record {
          uses = record { bound = b; named = f; still = no_no b.ended opens.0; serves = opens.1 };
          from = grind (arith, nat_tests, ends.0);
          to = grind (arith, nat_tests, ends.1);
        }

-- what the reader tests is what a run relies on
pub used-right : (a : Action) (bounds : List Bound) (new : ℕ) → IsNumbered a (length bounds) new → may_use a bounds ≡ true → UsesRight bounds a
unfolding may_use
used-right (action.Map file at len word) bounds new is may = is.0
used-right (action.PinRead file at len word exclusive) bounds new is may = is.0
used-right (action.PreparePin file at len word zero exclusive) bounds new is may = is.0
used-right (action.MdlRead file at len word) bounds new is may = is.0
used-right (action.MdlWrite file at len word) bounds new is may = is.0
used-right (action.PinMapped word exclusive) bounds new is may = uses need.Map bounds word may
used-right (action.SetDirty word lsn) bounds new is may = uses need.Pin bounds word may
used-right (action.Unpin word) bounds new is may = uses need.MapOrPin bounds word may
used-right (action.UnpinRepinned word through) bounds new is may = uses need.Repin bounds word may
used-right (action.MdlDone word) bounds new is may = uses need.Chain bounds word may
used-right (action.MdlAbort word) bounds new is may = uses need.WriteChain bounds word may
used-right (action.Repin word made) bounds new is may = (uses need.Pin bounds word may, is.0)
used-right (action.HeldRead word at len) bounds new is may = uses-bytes need.MapOrPin bounds word at len may
used-right (action.PinnedWrite word at bytes) bounds new is may = uses-bytes need.Pin bounds word at (length bytes) may
used-right (action.MdlBytes word at len) bounds new is may = uses-bytes need.ReadChain bounds word at len may
used-right (action.MdlStore word at bytes) bounds new is may = uses-bytes need.WriteChain bounds word at (length bytes) may
used-right other bounds new is may = tt

changed-length : (change : Bound → Bound) (o : Option Bound) (bounds : List Bound) (word : ℕ) → length (with_hold_changed change o bounds word) ≡ length bounds
changed-length change None bounds word = refl
changed-length change (Some b) bounds word = length-set bounds word (change b)

repinned-length : (n : Need) (bounds : List Bound) (word : ℕ) → UsesHold n bounds word → length (bound_repinned (slice_get bounds word)) ≡ 1
repinned-length n bounds word is = rw is.named refl

pushed-length : (bounds : List Bound) (b : Bound) → length (bounds ++ b ∷ []) ≡ suc (length bounds)
pushed-length bounds b = let len : length (bounds ++ b ∷ []) ≡ length bounds + 1 = length-append bounds (b ∷ []) in omega (arith, len)

-- a line that is right binds a word where it is one that does
pub after-length : (a : Action) (bounds : List Bound) → UsesRight bounds a → length (bound_after a bounds) ≡ (if binds a then suc (length bounds) else length bounds)
after-length (action.Map file at len word) bounds is = pushed-length bounds _
after-length (action.PinRead file at len word exclusive) bounds is = pushed-length bounds _
after-length (action.PreparePin file at len word zero exclusive) bounds is = pushed-length bounds _
after-length (action.MdlRead file at len word) bounds is = pushed-length bounds _
after-length (action.MdlWrite file at len word) bounds is = pushed-length bounds _
after-length (action.PinMapped word exclusive) bounds is = changed-length as_pin (slice_get bounds word) bounds word
after-length (action.Unpin word) bounds is = changed-length as_ended (slice_get bounds word) bounds word
after-length (action.UnpinRepinned word through) bounds is = changed-length as_ended (slice_get bounds word) bounds word
after-length (action.MdlDone word) bounds is = changed-length as_ended (slice_get bounds word) bounds word
after-length (action.MdlAbort word) bounds is = changed-length as_ended (slice_get bounds word) bounds word
after-length (action.Repin word made) bounds is =
    let one = repinned-length need.Pin bounds word is.0 in
    let len : length (bounds ++ bound_repinned (slice_get bounds word)) ≡ length bounds + length (bound_repinned (slice_get bounds word)) = length-append bounds (bound_repinned (slice_get bounds word)) in
    omega (arith, len, one)
after-length other bounds is = refl

-- so it has as many names
pub numbered-length : (a : Action) (old new : ℕ) → IsNumbered a old new → new ≡ (if binds a then suc old else old)
numbered-length (action.Map file at len word) old new is = is.1
numbered-length (action.PinRead file at len word exclusive) old new is = is.1
numbered-length (action.PreparePin file at len word zero exclusive) old new is = is.1
numbered-length (action.MdlRead file at len word) old new is = is.1
numbered-length (action.MdlWrite file at len word) old new is = is.1
numbered-length (action.Repin word made) old new is = is.1
numbered-length other old new is = is

-- one more line
pub so_far-onto : (caller : ℕ) (bounds : List Bound) (lines : List ActionLine) (line : ActionLine) → bound_so_far caller bounds (lines ++ line ∷ []) ≡ bound_if (line.caller == caller) line.action (bound_so_far caller bounds lines)
so_far-onto caller bounds [] line = refl
so_far-onto caller bounds (first ∷ lines) line = so_far-onto caller (bound_if (first.caller == caller) first.action bounds) lines line

pub right-onto : (caller : ℕ) (bounds : List Bound) (lines : List ActionLine) (line : ActionLine) → AreUsedRight caller bounds lines → IsRightIf (line.caller == caller) (bound_so_far caller bounds lines) line.action → AreUsedRight caller bounds (lines ++ line ∷ [])
right-onto caller bounds [] line all is = (is, tt)
right-onto caller bounds (first ∷ lines) line all is =
    (all.0, right-onto caller (bound_if (first.caller == caller) first.action bounds) lines line all.1 is)

-- lines in two parts
pub so_far-append : (caller : ℕ) (bounds : List Bound) (lines more : List ActionLine) → bound_so_far caller bounds (lines ++ more) ≡ bound_so_far caller (bound_so_far caller bounds lines) more
so_far-append caller bounds [] more = refl
so_far-append caller bounds (first ∷ lines) more = so_far-append caller (bound_if (first.caller == caller) first.action bounds) lines more

pub right-append : (caller : ℕ) (bounds : List Bound) (lines more : List ActionLine) → AreUsedRight caller bounds (lines ++ more) → AreUsedRight caller bounds lines × AreUsedRight caller (bound_so_far caller bounds lines) more
right-append caller bounds [] more all = (tt, all)
right-append caller bounds (first ∷ lines) more all =
    let parts = right-append caller (bound_if (first.caller == caller) first.action bounds) lines more all.1 in
    ((all.0, parts.0), parts.1)

-- what a caller bound is as many words as its lines bind
pub bound-count : (caller : ℕ) (bounds : List Bound) (lines : List ActionLine) → AreUsedRight caller bounds lines → length (bound_so_far caller bounds lines) ≡ length bounds + words_bound caller lines
bound-count caller bounds [] all = omega arith
bound-count caller bounds (line ∷ lines) all = either (line.caller == caller) all.0 (bound-count caller (bound_if (line.caller == caller) line.action bounds) lines all.1)
  where
    counted : (b : Bool) (now : List Bound) → length now ≡ (if b then suc (length bounds) else length bounds) → length now + words_bound caller lines ≡ length bounds + (if b then suc (words_bound caller lines) else words_bound caller lines)
    counted true now len = omega (arith, len)
    counted false now len = omega (arith, len)

    either : (t : Bool) → IsRightIf t bounds line.action → length (bound_so_far caller (bound_if t line.action bounds) lines) ≡ length (bound_if t line.action bounds) + words_bound caller lines → length (bound_so_far caller (bound_if t line.action bounds) lines) ≡ length bounds + (if t && binds line.action then suc (words_bound caller lines) else words_bound caller lines)
    either true is rest = rest ∙ counted (binds line.action) (bound_after line.action bounds) (after-length line.action bounds is)
    either false is rest = rest

pub few-bound : (caller : ℕ) (lines : List ActionLine) → words_bound caller lines ≤ length lines
few-bound caller [] = omega arith
few-bound caller (line ∷ lines) = either (line.caller == caller && binds line.action) (few-bound caller lines)
  where
    either : (t : Bool) → words_bound caller lines ≤ length lines → (if t then suc (words_bound caller lines) else words_bound caller lines) ≤ suc (length lines)
    either true few = omega (arith, few)
    either false few = omega (arith, few)

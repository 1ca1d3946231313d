-- What callers bind and use over several lines, in two parts, and what it says of the room for their words.
use Rattle.std.specs.Prelude.{◌≡◌, ◌≢◌, ℕ, zero, suc, ◌+◌, ◌==◌, ◌&&◌, Bool, true, false, List, [], ◌∷◌, ◌++◌, length, slice_get, slice_set, refl, if◌then◌else◌}
use Rattle.std.specs.declared.option.Option.{Option}
use Rattle.std.specs.declared.option.Option.TheVariants.{Some, None}
use Rattle.std.proofs.Common.{sym, ap, ◌∙◌, arith, get_or}
use Rattle.std.proofs.lemmas.Bool.{eq-eqb, ne_eqb}
use Rattle.std.proofs.lemmas.List.{length-append}
use Rattle.std.proofs.lemmas.Option.{slice_get_within}
use Rattle.cc_entry.specs.declared.answer.LineReply.{LineReply}
use Rattle.cc_entry.specs.declared.answer.Answer.{Answer}
use Rattle.cc_entry.specs.declared.entry.Entry.{Entry}
use Rattle.cc_script.specs.declared.bound.Bound.{Bound}
use Rattle.cc_script.specs.declared.script.Action.{Action}
use Rattle.cc_script.specs.declared.script.Action.TheVariants as action
use Rattle.cc_script.specs.declared.script.ActionLine.{ActionLine}
use Rattle.cc_script.specs.HoldWords.{AreUsedRight, IsRightIf, UsesRight, as_ended, as_pin, binds, bound_after, bound_if, bound_so_far, with_hold_changed, bound_repinned, words_bound}
use Rattle.cc_pieces.specs.Bindings.{Binding}
use Rattle.cc_pieces.specs.Runs.{asked_of, bindings_of}
use Rattle.cc_pieces.specs.Served.{bindings_after}
use Rattle.cc_lines.specs.Holds.{NamesState}
use Rattle.cc_run.specs.Lines.{AllStand, HaveRoom, KeepRoom, after_line, after_lines, asked_by_caller, bound_by}
use Rattle.cc_run.proofs.Lists.{mapped-at, there}

-- what a caller bound behind lines in two parts
pub bound-append : (me : ℕ) (bounds : List Bound) (xs ys : List ActionLine) → bound_so_far me bounds (xs ++ ys) ≡ bound_so_far me (bound_so_far me bounds xs) ys
bound-append me bounds [] ys = refl
bound-append me bounds (x ∷ xs) ys = bound-append me (bound_if (x.caller == me) x.action bounds) xs ys

pub right-front : (me : ℕ) (bounds : List Bound) (xs ys : List ActionLine) → AreUsedRight me bounds (xs ++ ys) → AreUsedRight me bounds xs
right-front me bounds [] ys right = tt
right-front me bounds (x ∷ xs) ys right = (right.0, right-front me (bound_if (x.caller == me) x.action bounds) xs ys right.1)

pub right-back : (me : ℕ) (bounds : List Bound) (xs ys : List ActionLine) → AreUsedRight me bounds (xs ++ ys) → AreUsedRight me (bound_so_far me bounds xs) ys
right-back me bounds [] ys right = right
right-back me bounds (x ∷ xs) ys right = right-back me (bound_if (x.caller == me) x.action bounds) xs ys right.1

-- the first line is right, where it is the caller's
pub right-first : (me : ℕ) (bounds : List Bound) (line : ActionLine) (rest : List ActionLine) → line.caller ≡ me → AreUsedRight me bounds (line ∷ rest) → UsesRight bounds line.action
right-first me bounds line rest is right = rw (eq-eqb line.caller me is) at right.0

-- one line more, the caller's or another's
pub bound-own : (me : ℕ) (bounds : List Bound) (lines : List ActionLine) (line : ActionLine) → line.caller ≡ me → bound_so_far me bounds (lines ++ line ∷ []) ≡ bound_after line.action (bound_so_far me bounds lines)
bound-own me bounds lines line is = bound-append me bounds lines (line ∷ []) ∙ rw (eq-eqb line.caller me is) refl

pub bound-other : (me : ℕ) (bounds : List Bound) (lines : List ActionLine) (line : ActionLine) → line.caller ≢ me → bound_so_far me bounds (lines ++ line ∷ []) ≡ bound_so_far me bounds lines
bound-other me bounds lines line apart = bound-append me bounds lines (line ∷ []) ∙ rw (ne_eqb line.caller me apart) refl

-- how many words lines in two parts bind
pub words-append : (me : ℕ) (xs ys : List ActionLine) → words_bound me (xs ++ ys) ≡ words_bound me xs + words_bound me ys
words-append me [] ys = omega arith
words-append me (x ∷ xs) ys = by (x.caller == me && binds x.action) (words-append me xs ys)
  where
    by : (b : Bool) → words_bound me (xs ++ ys) ≡ words_bound me xs + words_bound me ys → (if b then suc (words_bound me (xs ++ ys)) else words_bound me (xs ++ ys)) ≡ (if b then suc (words_bound me xs) else words_bound me xs) + words_bound me ys
    by true rest = omega (arith, rest)
    by false rest = rest

pub words-first : (me : ℕ) (line : ActionLine) (rest : List ActionLine) → line.caller ≡ me → binds line.action ≡ true → words_bound me (line ∷ rest) ≡ suc (words_bound me rest)
words-first me line rest is binds_one = rw (eq-eqb line.caller me is, binds_one) refl

-- each word that is bound is one more
long-set : {A : Type 0} (xs : List A) (n : ℕ) (x : A) → length (slice_set xs n x) ≡ length xs
long-set [] n x = refl
long-set (y ∷ xs) zero x = refl
long-set (y ∷ xs) (suc n) x = ap suc (long-set xs n x)

long-changed : (change : Bound → Bound) (o : Option Bound) (bounds : List Bound) (word : ℕ) → length (with_hold_changed change o bounds word) ≡ length bounds
long-changed change None bounds word = refl
long-changed change (Some b) bounds word = long-set bounds word (change b)

one-more : (bounds : List Bound) (b : Bound) → length (bounds ++ b ∷ []) ≡ length bounds + 1
one-more bounds b = length-append bounds (b ∷ [])

long-repinned : (o : Option Bound) (b : Bound) (bounds : List Bound) → o ≡ Some b → length (bounds ++ bound_repinned o) ≡ length bounds + 1
long-repinned None b bounds is = absurd (cc is)
long-repinned (Some c) b bounds is = length-append bounds (bound_repinned (Some c))

long-after : (asked : Action) (bounds : List Bound) → UsesRight bounds asked → length (bound_after asked bounds) ≡ length bounds + (if binds asked then 1 else 0)
long-after (action.Map file at len word) bounds right = one-more bounds _
long-after (action.PinRead file at len word exclusive) bounds right = one-more bounds _
long-after (action.PinMapped word exclusive) bounds right = omega (arith, long-changed as_pin (slice_get bounds word) bounds word)
long-after (action.PreparePin file at len word blank exclusive) bounds right = one-more bounds _
long-after (action.Unpin word) bounds right = omega (arith, long-changed as_ended (slice_get bounds word) bounds word)
long-after (action.Repin word made) bounds right = long-repinned (slice_get bounds word) right.0.bound bounds right.0.named
long-after (action.UnpinRepinned word through) bounds right = omega (arith, long-changed as_ended (slice_get bounds word) bounds word)
long-after (action.MdlRead file at len word) bounds right = one-more bounds _
long-after (action.MdlWrite file at len word) bounds right = one-more bounds _
long-after (action.MdlDone word) bounds right = omega (arith, long-changed as_ended (slice_get bounds word) bounds word)
long-after (action.MdlAbort word) bounds right = omega (arith, long-changed as_ended (slice_get bounds word) bounds word)
long-after other bounds right = omega arith

long-own : (b : Bool) (before between after more : ℕ) → between ≡ before + (if b then 1 else 0) → after ≡ between + more → after ≡ before + (if b then suc more else more)
long-own true before between after more one rest = omega (arith, one, rest)
long-own false before between after more one rest = omega (arith, one, rest)

pub bound-long : (me : ℕ) (bounds : List Bound) (lines : List ActionLine) → AreUsedRight me bounds lines → length (bound_so_far me bounds lines) ≡ length bounds + words_bound me lines
bound-long me bounds [] right = omega arith
bound-long me bounds (line ∷ lines) right = by (line.caller == me) right (λ more so. bound-long me more lines so)
  where
    by : (b : Bool) → IsRightIf b bounds line.action × AreUsedRight me (bound_if b line.action bounds) lines → ((more : List Bound) → AreUsedRight me more lines → length (bound_so_far me more lines) ≡ length more + words_bound me lines) → length (bound_so_far me (bound_if b line.action bounds) lines) ≡ length bounds + (if b && binds line.action then suc (words_bound me lines) else words_bound me lines)
    by true so rest = long-own (binds line.action) (length bounds) _ _ _ (long-after line.action bounds so.0) (rest (bound_after line.action bounds) so.1)
    by false so rest = rest bounds so.1

-- which lines pass a test, of a list in two parts
pub asked-append : (test : ActionLine → Bool) (lines more : List ActionLine) (replies others : List LineReply) → length lines ≡ length replies → asked_of test (lines ++ more) (replies ++ others) ≡ asked_of test lines replies ++ asked_of test more others
asked-append test [] more [] others same = refl
asked-append test [] more (r ∷ replies) others same = absurd (cc)
asked-append test (l ∷ lines) more [] others same = absurd (cc)
asked-append test (l ∷ lines) more (r ∷ replies) others same = by (test l) (asked-append test lines more replies others (omega (arith, same)))
  where
    by : (b : Bool) → asked_of test (lines ++ more) (replies ++ others) ≡ asked_of test lines replies ++ asked_of test more others → (if b then (l.action, r.answer) ∷ asked_of test (lines ++ more) (replies ++ others) else asked_of test (lines ++ more) (replies ++ others)) ≡ (if b then (l.action, r.answer) ∷ asked_of test lines replies else asked_of test lines replies) ++ asked_of test more others
    by true rest = ap (λ all. (l.action, r.answer) ∷ all) rest
    by false rest = rest

-- what words name behind lines in two parts
pub bindings-append : (bindings : List Binding) (xs ys : List (Action × Answer)) → bindings_of bindings (xs ++ ys) ≡ bindings_of (bindings_of bindings xs) ys
bindings-append bindings [] ys = refl
bindings-append bindings (x ∷ xs) ys = bindings-append (bindings_after x.0 x.1 bindings) xs ys

pub after-append : (me : ℕ) (bindings : ℕ → List Binding) (lines more : List ActionLine) (replies others : List LineReply) → length lines ≡ length replies → after_lines (lines ++ more) (replies ++ others) bindings me ≡ after_lines more others (after_lines lines replies bindings) me
after-append me bindings lines more replies others same =
    ap (bindings_of (bindings me)) (asked-append (λ line. line.caller == me) lines more replies others same)
    ∙ bindings-append (bindings me) (asked_by_caller me lines replies) (asked_by_caller me more others)

pub after-first : (me : ℕ) (bindings : ℕ → List Binding) (line : ActionLine) (lines : List ActionLine) (reply : LineReply) (replies : List LineReply) → after_lines (line ∷ lines) (reply ∷ replies) bindings me ≡ after_lines lines replies (after_line line reply.answer bindings) me
after-first me bindings line lines reply replies = by (line.caller == me)
  where
    asked : List (Action × Answer)
    asked = asked_by_caller me lines replies

    by : (b : Bool) → bindings_of (bindings me) (if b then (line.action, reply.answer) ∷ asked else asked) ≡ bindings_of (if b then bindings_after line.action reply.answer (bindings me) else bindings me) asked
    by true = refl
    by false = refl

-- one line more, the caller's or another's
pub after-own : (me : ℕ) (bindings : ℕ → List Binding) (lines : List ActionLine) (replies : List LineReply) (line : ActionLine) (reply : LineReply) → length lines ≡ length replies → line.caller ≡ me → after_lines (lines ++ line ∷ []) (replies ++ reply ∷ []) bindings me ≡ bindings_after line.action reply.answer (after_lines lines replies bindings me)
after-own me bindings lines replies line reply same is =
    after-append me bindings lines (line ∷ []) replies (reply ∷ []) same ∙ rw (eq-eqb line.caller me is) refl

pub after-other : (me : ℕ) (bindings : ℕ → List Binding) (lines : List ActionLine) (replies : List LineReply) (line : ActionLine) (reply : LineReply) → length lines ≡ length replies → line.caller ≢ me → after_lines (lines ++ line ∷ []) (replies ++ reply ∷ []) bindings me ≡ after_lines lines replies bindings me
after-other me bindings lines replies line reply same apart =
    after-append me bindings lines (line ∷ []) replies (reply ∷ []) same ∙ rw (ne_eqb line.caller me apart) refl

-- there is room for the words of the lines that are left
pub room-rest : (streams : ℕ) (old new : List Entry) (bounds : ℕ → List Bound) (bindings after : ℕ → List Binding) (xs ys : List ActionLine) (was now : List NamesState) → AllStand streams old bounds bindings was → AllStand streams new (bound_by xs bounds) after now → ((me : ℕ) → AreUsedRight me (bounds me) xs) → KeepRoom was now → HaveRoom (xs ++ ys) was → HaveRoom ys now
room-rest streams old new bounds bindings after xs ys was now begun ended right keep room n names at =
    let within = slice_get_within now n names at in
    let one = there was n (omega (arith, within, begun.counted, ended.counted)) in
    let kept : names.room ≡ one.0.room = sym (mapped-at (λ (names : NamesState). names.room) now n names 0 at) ∙ (ap (λ l. get_or l n 0) keep ∙ mapped-at (λ (names : NamesState). names.room) was n one.0 0 one.1) in
    omega (arith, kept, (begun.each n one.0 one.1).counted, (ended.each n names at).counted, bound-long (suc n) (bounds (suc n)) xs (right (suc n)), words-append (suc n) xs ys, room n one.0 one.1)

-- The entries of deferral and post, and how many there are.
use Rattle.std.specs.Prelude.{◌≡◌, ℕ, suc, ◌+◌, ◌≤◌, true, false, List, [], ◌∷◌, ◌++◌, length, refl}
use Rattle.std.proofs.Common.{arith, ap, ◌∙◌}
use Rattle.std.proofs.lemmas.List.{length-append}
use Rattle.cc_entry.specs.declared.error.CcError.TheVariants as error
use Rattle.cc_entry.specs.declared.entry.Entry.{Entry}
use Rattle.cc_entry.specs.declared.entry.Entry.TheVariants as entry
use Rattle.cc_model.specs.Throttle.{queue}
use Rattle.cc_effects.specs.Moments.{IsIdle}
use Rattle.cc_effects.specs.Throttle.{MayNotPost, IsPosted}
use Rattle.cc_pieces.specs.Answered.{PostsRefused}
use Rattle.cc_effects.proofs.Licences.{only-own, some-here}
use Rattle.cc_effects.proofs.Stretches.{idle-none}
use Rattle.cc_worked.specs.Values.{setup, a}
use Rattle.cc_worked.specs.PiecesReads.{two_pages}
use Rattle.cc_worked.specs.PiecesWithoutEntry.{deferred, posted}
use Rattle.cc_worked.proofs.PiecesOpened.{computed}
use Rattle.cc_worked.proofs.pieces_answered.throttle_lines_are_answered.Goals as goal

waiting : List Entry
waiting = deferred ++ two_pages

went : List Entry
unfolding waiting
went = posted ++ waiting

its_post : IsPosted 1 1 waiting went
unfolding went
its_post = record { idle = record { during = posted; grew = refl; others = (refl, tt) }; later = []; earlier = []; grew = refl }

pub returns-clause-deferred : goal.returns-clause-deferred
returns-clause-deferred c = record { later = []; earlier = []; grew = refl; is_own = refl; quiet_after = tt; quiet_before = tt }

pub returns-clause-not_cached : goal.returns-clause-not_cached
unfolding computed
returns-clause-not_cached c =
    record { idle = idle-none 1 []; closed = record { moment = []; later = []; since = []; ends = refl; begins = refl; holds = refl } }

pub returns-clause-posted : goal.returns-clause-posted
unfolding computed waiting went
returns-clause-posted c =
    (went, its_post, record { idle = idle-none 1 went; nothing = record { moment = went; later = []; since = []; ends = refl; begins = refl; holds = tt } })

pub returns-clause-held_back : goal.returns-clause-held_back
unfolding computed waiting
returns-clause-held_back c =
    record { idle = idle-none 1 waiting; nothing = record { moment = waiting; later = []; since = []; ends = refl; begins = refl; holds = refl } }

pub returns-clause-no_memory : goal.returns-clause-no_memory
unfolding waiting went
returns-clause-no_memory c = (1 ∷ [], (went, its_post, idle-none 1 went))

pub returns-clause-no_other_number : goal.returns-clause-no_other_number
returns-clause-no_other_number c left = other (only-own 1 (entry.Defer 1 2 a 2 false) deferred two_pages left)
  where
    other : ◌≡◌ {A = List Entry} (entry.Defer 1 1 a 2 false ∷ []) (entry.Defer 1 2 a 2 false ∷ []) → ⊥
    other same = absurd (cc)

pub returns-clause-none_left_waiting : goal.returns-clause-none_left_waiting
unfolding computed
returns-clause-none_left_waiting c left = goes (some-here (λ moment. MayNotPost setup moment (queue moment)) (deferred ++ two_pages) left.nothing)
  where
    goes : true ≡ false → ⊥
    goes same = absurd (cc)

-- a journal does not shrink while nothing is placed, and has one entry more after a post
idle_grows : (me : ℕ) (old new : List Entry) → IsIdle me old new → length old ≤ length new
idle_grows me old new idle =
    let long : length new ≡ length idle.during + length old = ap length idle.grew ∙ length-append idle.during old in
    omega (arith, long)

post_grows : (me id : ℕ) (old new : List Entry) → IsPosted me id old new → suc (length old) ≤ length new
post_grows me id old new is =
    let behind : length (is.earlier ++ old) ≡ length is.earlier + length old = length-append is.earlier old in
    let long : length new ≡ length is.later + suc (length (is.earlier ++ old)) = ap length is.grew ∙ length-append is.later (entry.Posted id ∷ (is.earlier ++ old)) in
    omega (arith, behind, long)

pub returns-clause-none_invented : goal.returns-clause-none_invented
returns-clause-none_invented c left =
    let first = post_grows 1 1 (deferred ++ two_pages) left.0 left.1 in
    let rest = idle_grows 1 left.0 (deferred ++ two_pages) left.2.idle in
    let shorter : 3 ≤ length left.0 = first in
    let longer : length left.0 ≤ 2 = rest in
    omega (arith, shorter, longer)

pub returns-clause-none_twice : goal.returns-clause-none_twice
returns-clause-none_twice c left =
    let first : 3 ≤ length left.0 = post_grows 1 1 (deferred ++ two_pages) left.0 left.1 in
    let second = post_grows 1 1 left.0 left.2.0 left.2.1 in
    let rest : length left.2.0 ≤ 3 = idle_grows 1 left.2.0 (posted ++ (deferred ++ two_pages)) left.2.2.idle in
    omega (arith, first, second, rest)

never_full : (ids : List ℕ) (old new : List Entry) → PostsRefused setup 1 ids error.QueueFull old new → ⊥
never_full [] old new left = left
never_full (id ∷ ids) old new left = never_full ids left.0 new left.2

pub returns-clause-no_other_refusal : goal.returns-clause-no_other_refusal
returns-clause-no_other_refusal c left = never_full left.0 (deferred ++ two_pages) (posted ++ (deferred ++ two_pages)) left.1

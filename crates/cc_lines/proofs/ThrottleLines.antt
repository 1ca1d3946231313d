-- A deferral, and posts one behind the other: what they leave explains the answer of their line, and the words stand on.
use Rattle.std.specs.Prelude.{◌≡◌, ℕ, Bool, List, [], ◌∷◌, ◌++◌, Result, Ok, Err, refl}
use Rattle.std.specs.declared.option.Option.{Option}
use Rattle.std.specs.declared.option.Option.TheVariants.{Some, None}
use Rattle.std.proofs.Common.{ap, sym, ◌∙◌, subst, inl}
use Rattle.cc_entry.specs.Place.{File}
use Rattle.cc_entry.specs.declared.answer.Answer.{Answer}
use Rattle.cc_entry.specs.declared.answer.Answer.TheVariants as answer
use Rattle.cc_entry.specs.declared.entry.Entry.{Entry}
use Rattle.cc_entry.specs.declared.error.CcError.{CcError}
use Rattle.cc_entry.specs.declared.error.CcError.TheVariants as error
use Rattle.cc_script.specs.declared.script.Action.TheVariants as action
use Rattle.cc_model.specs.Good.{IsGood}
use Rattle.cc_model.specs.Setup.{Setup}
use Rattle.cc_effects.specs.Moments.{IsIdle}
use Rattle.cc_effects.specs.Throttle.{DeferLeft, PostLeft}
use Rattle.cc_effects.proofs.OtherSteps.{post-before}
use Rattle.cc_effects.proofs.Stretches.{idle-none}
use Rattle.cc_own.specs.Own.{IsUnchanged}
use Rattle.cc_own.proofs.Unchanged.{unchanged-then}
use Rattle.cc_own.proofs.VerbsKeep.{defer-unchanged, post-unchanged}
use Rattle.cc_pieces.specs.Answered.{DeferAnswered, PostsAnswered, PostsLeft, PostsRefused}
use Rattle.cc_turns.specs.Standing.{Standing}
use Rattle.cc_writes.specs.Hands.{Went}
use Rattle.cc_calls.specs.Answers.{IsFree}
use Rattle.cc_calls.specs.Pages.{StaysGood, WentOn}
use Rattle.cc_calls.specs.Throttle.{DeferEnds, PostEnds}
use Rattle.cc_lines.specs.Holds.{NamesState}
use Rattle.cc_lines.specs.Line.{IsFullTold, LineServed}
use Rattle.cc_lines.proofs.WordLines.{stand-on}

-- ---- the answer of a deferral

abbrev pub deferral_answer : Result ℕ CcError → Answer
deferral_answer (Ok id) = answer.Deferred id
deferral_answer (Err e) = answer.Refused e

module _ (old new : Standing) (file : File) (bytes : ℕ) (retrying : Bool) (answered : Result ℕ CcError) (ends : DeferEnds old new file bytes retrying answered) where
  pub defer-told : DeferAnswered old.number file bytes retrying (deferral_answer answered) old.seen new.seen
  defer-told = by answered ends.left
    where
      by : (it : Result ℕ CcError) → DeferLeft old.number file bytes retrying it old.seen new.seen → DeferAnswered old.number file bytes retrying (deferral_answer it) old.seen new.seen
      by (Ok id) left = left
      by (Err e) left = left

-- ---- posts so far

-- from one moment to another a pass posted the writes of these numbers, one behind the other, and placed nothing else
abbrev pub HavePosted : Setup → ℕ → List ℕ → List Entry → List Entry → Type 0
HavePosted u me [] old new = IsIdle me old new
HavePosted u me (id ∷ ids) old new = (between : List Entry) × PostLeft u me (Ok (Some id)) old between × HavePosted u me ids between new

module _ (u : Setup) (me : ℕ) where
  -- one more
  posted-more : (ids : List ℕ) (id : ℕ) (old between new : List Entry) → HavePosted u me ids old between → PostLeft u me (Ok (Some id)) between new → HavePosted u me (ids ++ id ∷ []) old new
  posted-more [] id old between new idle left = (new, post-before u me (Ok (Some id)) old between new idle left, idle-none me new)
  posted-more (first ∷ ids) id old between new posted left = (posted.0, posted.1, posted-more ids id posted.0 between new posted.2 left)

  -- and then there was nothing to post
  posted-all : (ids : List ℕ) (old between new : List Entry) → HavePosted u me ids old between → PostLeft u me (Ok None) between new → PostsLeft u me ids old new
  posted-all [] old between new idle left = post-before u me (Ok None) old between new idle left
  posted-all (id ∷ ids) old between new posted left = (posted.0, posted.1, posted-all ids posted.0 between new posted.2 left)

  -- or one was refused
  posted-refused : (ids : List ℕ) (e : CcError) (old between new : List Entry) → HavePosted u me ids old between → PostLeft u me (Err e) between new → PostsRefused u me ids e old new
  posted-refused [] e old between new idle left = post-before u me (Err e) old between new idle left
  posted-refused (id ∷ ids) e old between new posted left = (posted.0, posted.1, posted-refused ids e posted.0 between new posted.2 left)

-- A pass posted so many writes since a moment, and goes on as it stood then.
pub record PostsOn (old now : Standing) (ids : List ℕ) : Type 0 where
  pub posted : HavePosted old.setup old.number ids old.seen now.seen
  pub went : WentOn old now
  pub good : StaysGood old now

pub posts-none : (w : Standing) → PostsOn w w []
posts-none w = record { posted = idle-none w.number w.seen; went = record { same = refl }; good = λ good. good }

module _ (old now : Standing) (ids : List ℕ) (on : PostsOn old now ids) where
  number : now.number ≡ old.number
  number = ap (λ w. w.number) on.went.same

  setup : now.setup ≡ old.setup
  setup = ap (λ w. w.setup) on.went.same

  -- the pass may post again
  pub still-free : IsFree old → IsFree now
  still-free free = record { free = ap (λ w. w.held) on.went.same ∙ free.free; none = ap (λ w. w.in_flight) on.went.same ∙ free.none }

  pub posts-went : (new : Standing) → Went now new → WentOn old new
  posts-went new went = record { same = went.same ∙ ap (λ (w : Standing). record w { seen = new.seen; others = new.others; in_flight = now.in_flight; device_turns = now.device_turns }) on.went.same ∙ rest new went }
    where
      rest : (new : Standing) (went : Went now new) → record old { seen = new.seen; others = new.others; in_flight = now.in_flight; device_turns = now.device_turns } ≡ record old { seen = new.seen; others = new.others; device_turns = new.device_turns }
      rest new went =
          ap (λ (n : ℕ). record old { seen = new.seen; others = new.others; in_flight = n; device_turns = now.device_turns }) (ap (λ w. w.in_flight) on.went.same)
          ∙ ap (λ (n : ℕ). record old { seen = new.seen; others = new.others; device_turns = n }) (sym (ap (λ w. w.device_turns) went.same))

  module _ (new : Standing) (answered : Result (Option ℕ) CcError) (ends : PostEnds now new answered) where
    left : PostLeft old.setup old.number answered now.seen new.seen
    left = subst (λ (n : ℕ). PostLeft old.setup n answered now.seen new.seen) number (subst (λ (u : Setup). PostLeft u now.number answered now.seen new.seen) setup ends.left)

    good-then : StaysGood old new
    good-then was = subst (λ (u : Setup). IsGood u new.seen) setup ends.good

    pub posts-more : (id : ℕ) → answered ≡ Ok (Some id) → PostsOn old new (ids ++ id ∷ [])
    posts-more id is = record {
      posted = posted-more old.setup old.number ids id old.seen now.seen new.seen on.posted (rw is at left);
      went = posts-went new ends.goes_on;
      good = good-then;
    }

    pub posts-told : answered ≡ Ok None → PostsAnswered old.setup old.number (answer.Posts ids) old.seen new.seen
    posts-told is = posted-all old.setup old.number ids old.seen now.seen new.seen on.posted (rw is at left)

    pub posts-refused : (e : CcError) → answered ≡ Err e → PostsAnswered old.setup old.number (answer.Refused e) old.seen new.seen
    posts-refused e is = (ids, posted-refused old.setup old.number ids e old.seen now.seen new.seen on.posted (rw is at left))

  -- memory was wanting before one more
  pub posts-wanting : PostsAnswered old.setup old.number (answer.Refused error.NoMemory) old.seen now.seen
  posts-wanting = (ids, posted-refused old.setup old.number ids error.NoMemory old.seen now.seen now.seen on.posted (idle-none old.number now.seen))

-- ---- as lines

module _ (old new : Standing) (told : Answer) (names : NamesState) (full : IsFullTold new told) (went : WentOn old new) (good : IsGood old.setup new.seen) where
  pub defer-line : (file : File) (bytes : ℕ) (retrying : Bool) → DeferAnswered old.number file bytes retrying told old.seen new.seen → LineServed old new (action.Defer file bytes retrying) told names names
  defer-line file bytes retrying left = record {
    served = λ bounds bindings stand right. (left, stand-on old new went good bounds bindings names (λ id. by told left id) stand);
    full = inl full;
    goes_on = went;
    good = good;
    room = refl;
    placed = refl;
  }
    where
      by : (told : Answer) → DeferAnswered old.number file bytes retrying told old.seen new.seen → (id : ℕ) → IsUnchanged old.number id old.seen new.seen
      by (answer.Deferred n) left id = defer-unchanged old.number id file bytes retrying (Ok n) old.seen new.seen left
      by (answer.Refused e) left id = defer-unchanged old.number id file bytes retrying (Err e) old.seen new.seen left
      by other left id = absurd left

  posted-unchanged : (ids : List ℕ) (past now : List Entry) → PostsLeft old.setup old.number ids past now → (id : ℕ) → IsUnchanged old.number id past now
  posted-unchanged [] past now left id = post-unchanged old.setup old.number id (Ok None) past now left
  posted-unchanged (first ∷ ids) past now left id =
      unchanged-then old.number id past left.0 now (post-unchanged old.setup old.number id (Ok (Some first)) past left.0 left.1) (posted-unchanged ids left.0 now left.2 id)

  refused-unchanged : (ids : List ℕ) (e : CcError) (past now : List Entry) → PostsRefused old.setup old.number ids e past now → (id : ℕ) → IsUnchanged old.number id past now
  refused-unchanged [] e past now left id = post-unchanged old.setup old.number id (Err e) past now left
  refused-unchanged (first ∷ ids) e past now left id =
      unchanged-then old.number id past left.0 now (post-unchanged old.setup old.number id (Ok (Some first)) past left.0 left.1) (refused-unchanged ids e left.0 now left.2 id)

  pub post-line : PostsAnswered old.setup old.number told old.seen new.seen → LineServed old new action.Post told names names
  post-line left = record {
    served = λ bounds bindings stand right. (left, stand-on old new went good bounds bindings names (λ id. by told left id) stand);
    full = inl full;
    goes_on = went;
    good = good;
    room = refl;
    placed = refl;
  }
    where
      by : (told : Answer) → PostsAnswered old.setup old.number told old.seen new.seen → (id : ℕ) → IsUnchanged old.number id old.seen new.seen
      by (answer.Posts ids) left id = posted-unchanged ids old.seen new.seen left id
      by (answer.Refused e) left id = refused-unchanged left.0 e old.seen new.seen left.1 id
      by other left id = absurd left

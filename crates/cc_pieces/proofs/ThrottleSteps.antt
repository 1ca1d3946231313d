-- Lines of the throttle in longer stretches: a deferral, and the posts of a line, of which any may go untold.
use Rattle.std.specs.Prelude.{ℕ, Bool, List, [], ◌∷◌, Ok, Err}
use Rattle.std.specs.declared.option.Option.TheVariants.{Some, None}
use Rattle.cc_entry.specs.Place.{File}
use Rattle.cc_entry.specs.declared.answer.Answer.{Answer}
use Rattle.cc_entry.specs.declared.answer.Answer.TheVariants as answer
use Rattle.cc_entry.specs.declared.entry.Entry.{Entry}
use Rattle.cc_entry.specs.declared.error.CcError.{CcError}
use Rattle.cc_model.specs.Setup.{Setup}
use Rattle.cc_effects.specs.Moments.{IsIdle}
use Rattle.cc_effects.proofs.OtherSteps.{defer-after, defer-before, post-after, post-before}
use Rattle.cc_pieces.specs.Answered.{DeferAnswered, PostsAnswered, PostsLeft, PostsRefused}

-- ---- a deferral

pub deferred-before : (me : ℕ) (file : File) (bytes : ℕ) (retrying : Bool) (told : Answer) (older old new : List Entry) → IsIdle me older old → DeferAnswered me file bytes retrying told old new → DeferAnswered me file bytes retrying told older new
deferred-before me file bytes retrying (answer.Deferred id) older old new idle left = defer-before me file bytes retrying (Ok id) older old new idle left
deferred-before me file bytes retrying (answer.Refused e) older old new idle left = defer-before me file bytes retrying (Err e) older old new idle left
deferred-before me file bytes retrying other older old new idle left = absurd left

pub deferred-after : (me : ℕ) (file : File) (bytes : ℕ) (retrying : Bool) (told : Answer) (old new newer : List Entry) → DeferAnswered me file bytes retrying told old new → IsIdle me new newer → DeferAnswered me file bytes retrying told old newer
deferred-after me file bytes retrying (answer.Deferred id) old new newer left idle = defer-after me file bytes retrying (Ok id) old new newer left idle
deferred-after me file bytes retrying (answer.Refused e) old new newer left idle = defer-after me file bytes retrying (Err e) old new newer left idle
deferred-after me file bytes retrying other old new newer left idle = absurd left

-- ---- posts

module _ (u : Setup) (me : ℕ) where
  pub posts-before : (ids : List ℕ) (older old new : List Entry) → IsIdle me older old → PostsLeft u me ids old new → PostsLeft u me ids older new
  posts-before [] older old new idle left = post-before u me (Ok None) older old new idle left
  posts-before (id ∷ ids) older old new idle left = (left.0, post-before u me (Ok (Some id)) older old left.0 idle left.1, left.2)

  posts-after : (ids : List ℕ) (old new newer : List Entry) → PostsLeft u me ids old new → IsIdle me new newer → PostsLeft u me ids old newer
  posts-after [] old new newer left idle = post-after u me (Ok None) old new newer left idle
  posts-after (id ∷ ids) old new newer left idle = (left.0, left.1, posts-after ids left.0 new newer left.2 idle)

  refused-before : (ids : List ℕ) (e : CcError) (older old new : List Entry) → IsIdle me older old → PostsRefused u me ids e old new → PostsRefused u me ids e older new
  refused-before [] e older old new idle left = post-before u me (Err e) older old new idle left
  refused-before (id ∷ ids) e older old new idle left = (left.0, post-before u me (Ok (Some id)) older old left.0 idle left.1, left.2)

  refused-after : (ids : List ℕ) (e : CcError) (old new newer : List Entry) → PostsRefused u me ids e old new → IsIdle me new newer → PostsRefused u me ids e old newer
  refused-after [] e old new newer left idle = post-after u me (Err e) old new newer left idle
  refused-after (id ∷ ids) e old new newer left idle = (left.0, left.1, refused-after ids e left.0 new newer left.2 idle)

  pub posted-before : (told : Answer) (older old new : List Entry) → IsIdle me older old → PostsAnswered u me told old new → PostsAnswered u me told older new
  posted-before (answer.Posts ids) older old new idle left = posts-before ids older old new idle left
  posted-before (answer.Refused e) older old new idle left = (left.0, refused-before left.0 e older old new idle left.1)
  posted-before other older old new idle left = absurd left

  pub posted-after : (told : Answer) (old new newer : List Entry) → PostsAnswered u me told old new → IsIdle me new newer → PostsAnswered u me told old newer
  posted-after (answer.Posts ids) old new newer left idle = posts-after ids old new newer left idle
  posted-after (answer.Refused e) old new newer left idle = (left.0, refused-after left.0 e old new newer left.1 idle)
  posted-after other old new newer left idle = absurd left

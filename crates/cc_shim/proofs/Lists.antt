-- What the calls of a list leave, put together.
use Rattle.std.specs.Prelude.{◌≡◌, ℕ, zero, suc, ◌+◌, ◌<◌, List, [], ◌∷◌, ◌++◌, map, Result, Ok, Err}
use Rattle.std.specs.List.{range_with_len}
use Rattle.std.proofs.Common.{ap, sym, ◌∙◌, subst, inl, inr, append_assoc, arith}
use Rattle.cc_entry.specs.declared.call.Call.{Call}
use Rattle.cc_entry.specs.declared.entry.Entry.{Entry}
use Rattle.cc_entry.specs.declared.error.CcError.{CcError}
use Rattle.cc_entry.specs.declared.reply.Outcome.TheVariants as outcome
use Rattle.cc_entry.specs.declared.reply.Reply.TheVariants as reply
use Rattle.cc_model.specs.Setup.{Setup}
use Rattle.cc_effects.specs.Calls.{CallLeft}
use Rattle.cc_effects.proofs.Stretches.{idle-none}
use Rattle.cc_calls.specs.Answers.{outcome_of}
use Rattle.cc_pieces.specs.Shim.{CallsLeft}
use Rattle.cc_shim.specs.Ends.{FirstLeft}

module _ (u : Setup) (me : ℕ) where
  -- a call was done, and then the rest of the list
  pub done-then : (it : Call) (rest : List Call) (answered : Result (Unit {0}) CcError) (old between new : List Entry) → CallLeft u me it (outcome.Done reply.Unit) old between → CallsLeft u me rest answered between new → CallsLeft u me (it ∷ rest) answered old new
  done-then it rest (Ok done) old between new left more = (between, left, more)
  done-then it rest (Err e) old between new left more = inr (between, left, more)

  -- a call that was refused ends it
  pub refused-ends : (it : Call) (rest : List Call) (e : CcError) (old new : List Entry) → CallLeft u me it (outcome.Failed e) old new → CallsLeft u me (it ∷ rest) (Err e) old new
  refused-ends it rest e old new left = inl left

  -- the last call
  pub last-call : (it : Call) (answered : Result (Unit {0}) CcError) (old new : List Entry) → CallLeft u me it (outcome_of answered) old new → CallsLeft u me (it ∷ []) answered old new
  last-call it (Ok done) old new left = (new, left, idle-none me new)
  last-call it (Err e) old new left = inl left

  -- no call yet
  pub first-none : (old : List Entry) → FirstLeft u me [] (Ok tt) old old
  first-none old = λ rest answered last more. more

  -- one call
  pub first-call : (it : Call) (answered : Result (Unit {0}) CcError) (old new : List Entry) → CallLeft u me it (outcome_of answered) old new → FirstLeft u me (it ∷ []) answered old new
  first-call it (Ok done) old new left = λ rest answered last more. done-then it rest answered old new last left more
  first-call it (Err e) old new left = λ rest. inl left

  -- one call more
  pub first-more : (calls : List Call) (it : Call) (old between new : List Entry) → FirstLeft u me calls (Ok tt) old between → CallLeft u me it (outcome.Done reply.Unit) between new → FirstLeft u me (calls ++ it ∷ []) (Ok tt) old new
  first-more calls it old between new first left =
      λ rest answered last more.
      subst (λ (l : List Call). CallsLeft u me l answered old last) (sym (append_assoc calls (it ∷ []) rest))
      (first (it ∷ rest) answered last (done-then it rest answered between new last left more))

  -- a call was refused, with others behind it
  pub first-refused : (calls : List Call) (it : Call) (behind : List Call) (e : CcError) (old between new : List Entry) → FirstLeft u me calls (Ok tt) old between → CallLeft u me it (outcome.Failed e) between new → FirstLeft u me (calls ++ it ∷ behind) (Err e) old new
  first-refused calls it behind e old between new first left =
      λ rest.
      subst (λ (l : List Call). CallsLeft u me l (Err e) old new) (sym (append_assoc calls (it ∷ behind) rest))
      (first (it ∷ (behind ++ rest)) (Err e) new (inl left))

  -- the calls behind were done or refused too
  pub first-whole : (calls rest : List Call) (answered : Result (Unit {0}) CcError) (old between new : List Entry) → FirstLeft u me calls (Ok tt) old between → CallsLeft u me rest answered between new → CallsLeft u me (calls ++ rest) answered old new
  first-whole calls rest answered old between new first more = first rest answered new more

-- a list of numbered things, at one of them
pub map-split : {X : Type 0} (f : ℕ → X) (a k n : ℕ) → k < n → (rest : List X) × (map f (range_with_len a n) ≡ map f (range_with_len a k) ++ f (a + k) ∷ rest)
map-split f a k zero below = absurd (omega (arith, below))
map-split f a zero (suc n) below =
    let rest = map f (range_with_len (a + 1) n) in
    let same : a ≡ a + 0 = omega arith in
    (rest, ap (λ m. f m ∷ rest) same)
map-split f a (suc k) (suc n) below =
    let r = map-split f (a + 1) k n (omega (arith, below)) in
    let same : (a + 1) + k ≡ a + suc k = omega arith in
    (r.0, ap (λ l. f a ∷ l) (r.1 ∙ ap (λ m. map f (range_with_len (a + 1) k) ++ f m ∷ r.0) same))

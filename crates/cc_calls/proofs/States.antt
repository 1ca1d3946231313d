-- What the calls leave that ask for the state of a stream, for its LSNs, and whether a write to it may go.
use Rattle.std.specs.Prelude.{◌≡◌, ℕ, Bool, List, Ok}
use Rattle.std.specs.declared.option.Option.{Option}
use Rattle.cc_entry.specs.Place.{File}
use Rattle.cc_entry.specs.declared.call.Call.TheVariants as call
use Rattle.cc_entry.specs.declared.query.Query.TheVariants as query
use Rattle.cc_entry.specs.declared.place.FileState.{FileState}
use Rattle.cc_entry.specs.declared.reply.Outcome.TheVariants as outcome
use Rattle.cc_entry.specs.declared.reply.Reply.TheVariants as reply
use Rattle.cc_entry.specs.declared.query.Value.TheVariants as value
use Rattle.cc_effects.specs.Calls.{CallLeft}
use Rattle.cc_turns.specs.Standing.{Standing}
use Rattle.cc_writes.specs.declared.tell.Returned.{Returned}
use Rattle.cc_writes.specs.declared.tell.Returned.TheVariants as returned
use Rattle.cc_calls.specs.Answers.{CallEnds, flag_outcome, lsns_outcome, state_outcome}
use Rattle.cc_calls.specs.Paged.{CalledAtOnce}
use Rattle.cc_calls.proofs.Replies.{lsns-reply, may-reply, state-reply}

module _ (w v : Standing) (file : File) (was now : List ℕ) where
  -- it is told the state
  told-state : (told : Returned) → CalledAtOnce w v (call.Query (query.State file)) (Ok told) was now → (state : FileState) × (told ≡ returned.Value (value.State state)) × CallLeft w.setup w.number (call.Query (query.State file)) (outcome.Done (reply.Value (value.State state))) w.seen v.seen
  told-state told c =
      let r = state-reply w.setup w.number file c.left.0 w.seen v.seen c.good c.left.1 in
      let tells = rw r.1 at c.left.2 in
      (r.0, tells.0, rw r.1 at c.left.1)

  pub state-done : (state : FileState) → CalledAtOnce w v (call.Query (query.State file)) (Ok (returned.Value (value.State state))) was now → CallEnds state_outcome w v (call.Query (query.State file)) (Ok state)
  state-done state c =
      let told = told-state (returned.Value (value.State state)) c in
      record { left = rw (inner told.0 told.1) told.2; full = tt; goes_on = c.goes_on; good = λ was_good. c.good }
    where
      inner : (x : FileState) → returned.Value (value.State state) ≡ returned.Value (value.State x) → state ≡ x
      inner x same = cc

  pub state-there : (told : Returned) → CalledAtOnce w v (call.Query (query.State file)) (Ok told) was now → (state : FileState) × (told ≡ returned.Value (value.State state))
  state-there told c = let k = told-state told c in (k.0, k.1)

  -- the other is told the LSNs
  told-lsns : (told : Returned) → CalledAtOnce w v (call.Query (query.LsnForFile file)) (Ok told) was now → (lsns : Option (ℕ × ℕ)) × (told ≡ returned.Value (value.Lsns lsns)) × CallLeft w.setup w.number (call.Query (query.LsnForFile file)) (outcome.Done (reply.Value (value.Lsns lsns))) w.seen v.seen
  told-lsns told c =
      let r = lsns-reply w.setup w.number file c.left.0 w.seen v.seen c.good c.left.1 in
      let tells = rw r.1 at c.left.2 in
      (r.0, tells.0, rw r.1 at c.left.1)

  pub lsns-done : (lsns : Option (ℕ × ℕ)) → CalledAtOnce w v (call.Query (query.LsnForFile file)) (Ok (returned.Value (value.Lsns lsns))) was now → CallEnds lsns_outcome w v (call.Query (query.LsnForFile file)) (Ok lsns)
  lsns-done lsns c =
      let told = told-lsns (returned.Value (value.Lsns lsns)) c in
      record { left = rw (inner told.0 told.1) told.2; full = tt; goes_on = c.goes_on; good = λ was_good. c.good }
    where
      inner : (x : Option (ℕ × ℕ)) → returned.Value (value.Lsns lsns) ≡ returned.Value (value.Lsns x) → lsns ≡ x
      inner x same = cc

  pub lsns-there : (told : Returned) → CalledAtOnce w v (call.Query (query.LsnForFile file)) (Ok told) was now → (lsns : Option (ℕ × ℕ)) × (told ≡ returned.Value (value.Lsns lsns))
  lsns-there told c = let k = told-lsns told c in (k.0, k.1)

  -- a question whether a write may go is told a flag
  told-may : (bytes : ℕ) (told : Returned) → CalledAtOnce w v (call.Query (query.CanWrite file bytes)) (Ok told) was now → (flag : Bool) × (told ≡ returned.Value (value.Flag flag)) × CallLeft w.setup w.number (call.Query (query.CanWrite file bytes)) (outcome.Done (reply.Value (value.Flag flag))) w.seen v.seen
  told-may bytes told c =
      let r = may-reply w.setup w.number file bytes c.left.0 w.seen v.seen c.good c.left.1 in
      let tells = rw r.1 at c.left.2 in
      (r.0, tells.0, rw r.1 at c.left.1)

  pub may-done : (bytes : ℕ) (flag : Bool) → CalledAtOnce w v (call.Query (query.CanWrite file bytes)) (Ok (returned.Value (value.Flag flag))) was now → CallEnds flag_outcome w v (call.Query (query.CanWrite file bytes)) (Ok flag)
  may-done bytes flag c =
      let told = told-may bytes (returned.Value (value.Flag flag)) c in
      record { left = rw (inner told.0 told.1) told.2; full = tt; goes_on = c.goes_on; good = λ was_good. c.good }
    where
      inner : (x : Bool) → returned.Value (value.Flag flag) ≡ returned.Value (value.Flag x) → flag ≡ x
      inner x same = cc

  pub may-there : (bytes : ℕ) (told : Returned) → CalledAtOnce w v (call.Query (query.CanWrite file bytes)) (Ok told) was now → (flag : Bool) × (told ≡ returned.Value (value.Flag flag))
  may-there bytes told c = let k = told-may bytes told c in (k.0, k.1)

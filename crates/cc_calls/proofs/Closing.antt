-- What an uninitialise was told that is done, in a good journal: whether the shared map of its stream went with it.
use Rattle.std.specs.Prelude.{◌≡◌, ℕ, Bool, true, false, not, List, [], ◌∷◌, ◌++◌, Ok, None, refl}
use Rattle.std.specs.declared.option.Option.{Option}
use Rattle.std.specs.declared.option.Option.TheVariants.{Some}
use Rattle.std.proofs.Common.{ap, ◌∙◌, subst}
use Rattle.std.proofs.lemmas.Bool.{eq-eqb}
use Rattle.cc_entry.specs.Place.{File}
use Rattle.cc_entry.specs.declared.call.Call.{Call}
use Rattle.cc_entry.specs.declared.call.Call.TheVariants as call
use Rattle.cc_entry.specs.declared.entry.Entry.{Entry}
use Rattle.cc_entry.specs.declared.entry.Entry.TheVariants as entry
use Rattle.cc_entry.specs.declared.error.CcError.TheVariants as error
use Rattle.cc_entry.specs.declared.reply.Outcome.TheVariants as outcome
use Rattle.cc_entry.specs.declared.reply.Reply.{Reply}
use Rattle.cc_entry.specs.declared.reply.Reply.TheVariants as reply
use Rattle.cc_entry.specs.declared.query.Value.TheVariants as value
use Rattle.cc_effects.specs.Calls.{CallLeft}
use Rattle.cc_effects.proofs.FrontLaws.{outcome-defined}
use Rattle.cc_laws.proofs.HistorySteps.{history-done}
use Rattle.cc_laws.proofs.MapGone.{no_objects}
use Rattle.cc_laws.proofs.UnrefusedCalls.{unrefused}
use Rattle.cc_model.specs.Good.{IsGood}
use Rattle.cc_model.specs.History.{Effect, Did, history}
use Rattle.cc_model.specs.Legal.{IsOutcome, stream_history}
use Rattle.cc_model.specs.Numbers.{is_among}
use Rattle.cc_model.specs.Reasons.{is_open, refuse_if}
use Rattle.cc_model.specs.Refusals.{refusal}
use Rattle.cc_model.specs.Setup.{Setup}
use Rattle.cc_model.specs.Touches.{is_mapped}
use Rattle.cc_turns.specs.Standing.{Standing}
use Rattle.cc_writes.specs.declared.tell.Returned.{Returned}
use Rattle.cc_writes.specs.declared.tell.Returned.TheVariants as returned
use Rattle.cc_calls.specs.Maps.{HasClosed, UninitializeEnds}
use Rattle.cc_calls.specs.Paged.{CalledAtOnce}
use Rattle.cc_calls.proofs.Fronts.{outcome-is}

-- an object that is open has the shared map of its stream
open-mapped : (h : List Effect) (file : File) → is_open h file ≡ true → is_mapped h ≡ true
open-mapped h file among = go (is_mapped h) refl
  where
    go : (b : Bool) → is_mapped h ≡ b → is_mapped h ≡ true
    go true is = is
    go false gone = absurd (cc (subst (λ (ns : List ℕ). is_among file.object ns ≡ true) (no_objects h gone) among))

unrefused-open : (b : Bool) → refuse_if (not b) error.NotCached ≡ None → b ≡ true
unrefused-open true none = refl
unrefused-open false none = absurd (cc)

-- so an uninitialise that nothing refuses finds it there
was-mapped : (u : Setup) (past : List Entry) (h : List Effect) (file : File) (truncate : Option ℕ) → refusal u past h (call.Uninitialise file truncate) ≡ None → is_mapped h ≡ true
was-mapped u past h file truncate admitted =
    open-mapped h file (unrefused-open (is_open h file) (unrefused u past h (call.Uninitialise file truncate) admitted).cached)

told-gone : (gone there : Bool) → reply.Value (value.Flag gone) ≡ reply.Value (value.Flag (not there)) → there ≡ not gone
told-gone true true is = absurd (cc)
told-gone true false is = refl
told-gone false true is = refl
told-gone false false is = absurd (cc)

-- the flag, in a good journal
pub gone-reply : (u : Setup) (me : ℕ) (file : File) (truncate : Option ℕ) (r : Reply) (old new : List Entry) → IsGood u new → CallLeft u me (call.Uninitialise file truncate) (outcome.Done r) old new → (gone : Bool) × (r ≡ reply.Value (value.Flag gone))
gone-reply u me file truncate r old new good left =
    let d = outcome-defined u me (call.Uninitialise file truncate) (outcome.Done r) old new [] good left refl in
    (not (is_mapped (Did me (call.Uninitialise file truncate) r ∷ stream_history _ d.1)), d.5.1)

-- and what it says
pub closed : (u : Setup) (me : ℕ) (file : File) (truncate : Option ℕ) (gone : Bool) (old new : List Entry) → IsGood u new → CallLeft u me (call.Uninitialise file truncate) (outcome.Done (reply.Value (value.Flag gone))) old new → HasClosed me file.stream (call.Uninitialise file truncate) gone old new
closed u me file truncate gone old new good left = record {
  nth = left.placed.nth;
  earlier = left.earlier;
  later = left.placed.later;
  grew = left.placed.grew ∙ ap (λ (stream : Option ℕ). left.placed.later ++ (entry.Call me left.placed.nth stream it (outcome.Done (reply.Value (value.Flag gone))) ∷ front)) left.placed.filed;
  quiet = left.placed.quiet;
  was = was-mapped u front (history front file.stream) file truncate is.0;
  now = ap is_mapped (history-done me left.placed.nth file.stream it (reply.Value (value.Flag gone)) front file.stream (eq-eqb file.stream file.stream refl))
      ∙ told-gone gone (is_mapped (Did me it (reply.Value (value.Flag gone)) ∷ history front file.stream)) is.1;
}
  where
    it : Call
    it = call.Uninitialise file truncate

    front : List Entry
    front = left.earlier ++ old

    is : IsOutcome u front me (Some file.stream) it (outcome.Done (reply.Value (value.Flag gone)))
    is =
        subst (λ (stream : Option ℕ). IsOutcome u front me stream it (outcome.Done (reply.Value (value.Flag gone)))) left.placed.filed
        (outcome-is u me left.placed.nth left.placed.stream it (outcome.Done (reply.Value (value.Flag gone))) left.placed.later front new left.placed.grew good)

module _ (w v : Standing) (file : File) (truncate : Option ℕ) (was now : List ℕ) where
  -- it is told whether the map went
  told-flag : (told : Returned) → CalledAtOnce w v (call.Uninitialise file truncate) (Ok told) was now → (gone : Bool) × (told ≡ returned.Value (value.Flag gone)) × CallLeft w.setup w.number (call.Uninitialise file truncate) (outcome.Done (reply.Value (value.Flag gone))) w.seen v.seen
  told-flag told c =
      let r = gone-reply w.setup w.number file truncate c.left.0 w.seen v.seen c.good c.left.1 in
      let tells = rw r.1 at c.left.2 in
      (r.0, tells.0, rw r.1 at c.left.1)

  pub uninitialize-done : (gone : Bool) → CalledAtOnce w v (call.Uninitialise file truncate) (Ok (returned.Value (value.Flag gone))) was now → UninitializeEnds w v file truncate (Ok gone)
  uninitialize-done gone c = record {
    ends = record { left = left; full = tt; goes_on = c.goes_on; good = λ was_good. c.good };
    closed = closed w.setup w.number file truncate gone w.seen v.seen c.good left;
  }
    where
      inner : (x : Bool) → returned.Value (value.Flag gone) ≡ returned.Value (value.Flag x) → gone ≡ x
      inner x same = cc

      left : CallLeft w.setup w.number (call.Uninitialise file truncate) (outcome.Done (reply.Value (value.Flag gone))) w.seen v.seen
      left = let told = told-flag (returned.Value (value.Flag gone)) c in rw (inner told.0 told.1) told.2

  pub uninitialize-there : (told : Returned) → CalledAtOnce w v (call.Uninitialise file truncate) (Ok told) was now → (gone : Bool) × (told ≡ returned.Value (value.Flag gone))
  uninitialize-there told c = let k = told-flag told c in (k.0, k.1)

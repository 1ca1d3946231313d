-- What the settling of a stream leaves, put together of its parts.
use Rattle.std.specs.Prelude.{◌≡◌, ℕ, List, Result, Ok, Err, refl}
use Rattle.std.specs.declared.option.Option.TheVariants.{None}
use Rattle.std.proofs.Common.{ap, sym, subst, ◌∙◌, inl, inr}
use Rattle.cc_entry.specs.Place.{File}
use Rattle.cc_entry.specs.declared.call.Call.{Call}
use Rattle.cc_entry.specs.declared.call.Call.TheVariants as call
use Rattle.cc_entry.specs.declared.query.Query.TheVariants as query
use Rattle.cc_entry.specs.declared.entry.Entry.{Entry}
use Rattle.cc_entry.specs.declared.error.CcError.{CcError}
use Rattle.cc_entry.specs.declared.error.CcError.TheVariants as error
use Rattle.cc_entry.specs.declared.place.FileState.{FileState}
use Rattle.cc_entry.specs.declared.reply.Outcome.TheVariants as outcome
use Rattle.cc_entry.specs.declared.reply.Reply.TheVariants as reply
use Rattle.cc_entry.specs.declared.query.Value.TheVariants as value
use Rattle.cc_effects.proofs.Stretches.{idle-then}
use Rattle.cc_effects.specs.Calls.{CallLeft}
use Rattle.cc_effects.specs.Moments.{IsIdle}
use Rattle.cc_model.specs.Good.{IsGood}
use Rattle.cc_model.specs.History.{history}
use Rattle.cc_model.specs.Setup.{Setup}
use Rattle.cc_model.specs.Touches.{valid_of}
use Rattle.cc_records.specs.Left.{SettleLeft}
use Rattle.cc_turns.specs.Standing.{Standing, TurnsHeld}
use Rattle.cc_turns.specs.Takes.{Grows, Takes, with_device, without_device}
use Rattle.cc_writes.specs.Calls.{IsFullWriting}
use Rattle.cc_writes.specs.Fetch.{CanCall}
use Rattle.cc_writes.specs.Hands.{Went}
use Rattle.cc_writes.specs.Ways.{IsFull}
use Rattle.cc_calls.specs.Answers.{CallEnds, state_outcome}
use Rattle.cc_calls.specs.Flushes.{FlushEnds}
use Rattle.cc_stored.specs.declared.record.Lengths.{Lengths}
use Rattle.cc_stored.specs.Settle.{HeldLeft, IsRecorded, RecordLeft, SettleEnds, StatedEnds, StatedLeft, with_lengths}
use Rattle.cc_stored.proofs.Written.{grows-idle}

-- ---- with the disk in hand

held-recorded : (u : Setup) (me : ℕ) (file : File) (answer : Result Lengths CcError) (old new : List Entry) → IsRecorded u me file answer old new → HeldLeft u me file answer old new
held-recorded u me file (Ok lengths) old new is = is
held-recorded u me file (Err e) old new is = inr is

module _ (w v y z : Standing) (file : File) (first : ℕ) (went : Went w v) (grows : Grows w v.seen) (first_is : first ≡ valid_of (history v.seen file.stream)) where
  number_v : v.number ≡ w.number
  number_v = ap (λ (a : Standing). a.number) went.same

  setup_v : v.setup ≡ w.setup
  setup_v = ap (λ (a : Standing). a.setup) went.same

  -- the flush failed
  pub held-unflushed : (e : CcError) → FlushEnds v y file None (Err e) → HeldLeft w.setup w.number file (Err e) w.seen y.seen
  held-unflushed e ends = inl (record {
    begun = v.seen;
    idle = grows-idle w v.seen grows;
    flush =
        subst (λ (n : ℕ). CallLeft w.setup n (call.Flush file None) (outcome.Failed e) v.seen y.seen) number_v
        (subst (λ (u : Setup). CallLeft u v.number (call.Flush file None) (outcome.Failed e) v.seen y.seen) setup_v ends.left);
  })

  -- the record was written behind it, or not
  pub held-left : (done : Unit {0}) (answer : Result Lengths CcError) → Went v y → FlushEnds v y file None (Ok done) → RecordLeft y.number file.stream first answer y.seen z.seen → HeldLeft w.setup w.number file answer w.seen z.seen
  held-left done answer on ends left = held-recorded w.setup w.number file answer w.seen z.seen (record {
    begun = v.seen;
    flushed = y.seen;
    is_flushed = record {
      idle = grows-idle w v.seen grows;
      flush =
          subst (λ (n : ℕ). CallLeft w.setup n (call.Flush file None) (outcome.Done reply.Unit) v.seen y.seen) number_v
          (subst (λ (u : Setup). CallLeft u v.number (call.Flush file None) (outcome.Done reply.Unit) v.seen y.seen) setup_v ends.left);
    };
    left =
        subst (λ (n : ℕ). RecordLeft n file.stream (valid_of (history v.seen file.stream)) answer y.seen z.seen) (ap (λ (a : Standing). a.number) on.same ∙ number_v)
        (subst (λ (n : ℕ). RecordLeft y.number file.stream n answer y.seen z.seen) first_is left);
  })

pub full-writing : (A B : Type 0) (it : Call) (z : Standing) (e : CcError) → IsFullWriting {A = A} it z (Err e) → IsFullWriting {A = B} it z (Err e)
full-writing A B it z (error.JournalFull entries) (inl full) = inl full
full-writing A B it z (error.JournalFull entries) (inr full) = inr full
full-writing A B it z other full = inl tt

-- ---- the disk taken and given

held-before : (u : Setup) (me : ℕ) (file : File) (answer : Result Lengths CcError) (older old new : List Entry) → IsIdle me older old → HeldLeft u me file answer old new → HeldLeft u me file answer older new
held-before u me file answer older old new idle left = go answer left
  where
    after : (r : Result Lengths CcError) → IsRecorded u me file r old new → IsRecorded u me file r older new
    after r is = record {
      begun = is.begun;
      flushed = is.flushed;
      is_flushed = record { idle = idle-then me older old is.begun idle is.is_flushed.idle; flush = is.is_flushed.flush };
      left = is.left;
    }

    go : (r : Result Lengths CcError) → HeldLeft u me file r old new → HeldLeft u me file r older new
    go (Ok lengths) is = after (Ok lengths) is
    go (Err e) (inl not) = inl (record { begun = not.begun; idle = idle-then me older old not.begun idle not.idle; flush = not.flush })
    go (Err e) (inr is) = inr (after (Err e) is)

stated-left : (u : Setup) (me : ℕ) (file : File) (state : FileState) (told : Result Lengths CcError) (old new : List Entry) → HeldLeft u me file told old new → StatedLeft u me file state (with_lengths state told) old new
stated-left u me file state (Ok lengths) old new left = (left, refl, refl)
stated-left u me file state (Err e) old new left = left

full-stated : (it : Call) (y : Standing) (state : FileState) (told : Result Lengths CcError) → IsFullWriting it y told → IsFullWriting it (without_device y) (with_lengths state told)
full-stated it y state (Ok lengths) full = inl tt
full-stated it y state (Err (error.JournalFull entries)) (inl full) = inl full
full-stated it y state (Err (error.JournalFull entries)) (inr full) = inr full
full-stated it y state (Err other) full = inl tt

pub stated : (w v y z : Standing) (file : File) (state : FileState) (told : Result Lengths CcError) (answer : Result FileState CcError) → CanCall w file.stream → Takes (with_device file.stream) w v → Went v y → z ≡ without_device y → answer ≡ with_lengths state told →
    IsGood y.setup y.seen → HeldLeft v.setup v.number file told v.seen y.seen → IsFullWriting (call.Flush file None) y told → StatedEnds w z file state answer
stated w v y z file state told answer can took went given answer_is good left full =
    subst (λ (r : Result FileState CcError). StatedEnds w z file state r) (sym answer_is)
    (subst (λ (a : Standing). StatedEnds w a file state (with_lengths state told)) (sym given) (record {
      left = stated-left w.setup w.number file state told w.seen y.seen
          (held-before w.setup w.number file told w.seen v.seen y.seen (grows-idle w v.seen took.grows)
          (subst (λ (n : ℕ). HeldLeft w.setup n file told v.seen y.seen) (ap (λ (a : Standing). a.number) took.same)
          (subst (λ (u : Setup). HeldLeft u v.number file told v.seen y.seen) (ap (λ (a : Standing). a.setup) took.same) left)));
      full = full-stated (call.Flush file None) y state told full;
      goes_on = record { same = is ∙ sym (ap (λ (a : Standing). record w { seen = a.seen; others = a.others; device_turns = a.device_turns }) is) };
      good = subst (λ (u : Setup). IsGood u y.seen) (ap (λ (a : Standing). a.setup) went.same ∙ ap (λ (a : Standing). a.setup) took.same) good;
    }))
  where
    turns : ℕ
    turns = (with_device file.stream w).device_turns

    is : without_device y ≡ record w { seen = y.seen; others = y.others; device_turns = turns }
    is =
        ap without_device went.same
        ∙ (ap (λ (a : Standing). without_device (record a { seen = y.seen; others = y.others; in_flight = a.in_flight })) took.same
        ∙ (ap (λ (h : TurnsHeld). record w { held = record h { device = None }; seen = y.seen; others = y.others; device_turns = turns }) can.free
        ∙ ap (λ (h : TurnsHeld). record w { held = h; seen = y.seen; others = y.others; device_turns = turns }) (sym can.free)))

-- ---- behind the state

settle-left : (u : Setup) (me : ℕ) (file : File) (state : FileState) (answer : Result FileState CcError) (old stated new : List Entry) → CallLeft u me (call.Query (query.State file)) (outcome.Done (reply.Value (value.State state))) old stated → StatedLeft u me file state answer stated new → SettleLeft u me file answer old new
settle-left u me file state (Ok answer) old stated new told left = record {
  told = state;
  begun = left.0.begun;
  flushed = left.0.flushed;
  has_flushed = record { stated = stated; state = told; idle = left.0.is_flushed.idle; flush = left.0.is_flushed.flush };
  recorded = left.0.left;
  allocation = left.1;
  log = left.2;
}
settle-left u me file state (Err e) old stated new told (inl not) =
    inr (inl (record { told = state; stated = stated; state = told; begun = not.begun; idle = not.idle; flush = not.flush }))
settle-left u me file state (Err e) old stated new told (inr is) = inr (inr (record {
  told = state;
  begun = is.begun;
  flushed = is.flushed;
  has_flushed = record { stated = stated; state = told; idle = is.is_flushed.idle; flush = is.is_flushed.flush };
  stopped = is.left;
}))

-- its state was told, and the rest went on from there
pub settled-on : (w v z : Standing) (file : File) (state : FileState) (answer : Result FileState CcError) → CallEnds state_outcome w v (call.Query (query.State file)) (Ok state) → StatedEnds v z file state answer → SettleEnds w z file answer
settled-on w v z file state answer call_ends ends = record {
  left =
      settle-left w.setup w.number file state answer w.seen v.seen z.seen call_ends.left
      (subst (λ (n : ℕ). StatedLeft w.setup n file state answer v.seen z.seen) (ap (λ (a : Standing). a.number) went.same)
      (subst (λ (u : Setup). StatedLeft u v.number file state answer v.seen z.seen) (ap (λ (a : Standing). a.setup) went.same) ends.left));
  full = ends.full;
  goes_on = record {
    same = ends.goes_on.same ∙ ap (λ (a : Standing). record a { seen = z.seen; others = z.others; device_turns = z.device_turns }) went.same;
  };
  good = subst (λ (u : Setup). IsGood u z.seen) (ap (λ (a : Standing). a.setup) went.same) ends.good;
}
  where
    went : Went w v
    went = call_ends.goes_on

full-stopped : (it : Call) (v : Standing) (e : CcError) → IsFull {A = FileState} 1 v (Err e) → IsFullWriting {A = FileState} it v (Err e)
full-stopped it v e full = inl full

-- its state was refused
pub settled-not : (w v : Standing) (file : File) (e : CcError) → CallEnds state_outcome w v (call.Query (query.State file)) (Err e) → IsGood v.setup v.seen → SettleEnds w v file (Err e)
settled-not w v file e call_ends good = record {
  left = inl call_ends.left;
  full = full-stopped (call.Flush file None) v e call_ends.full;
  goes_on = record {
    same = call_ends.goes_on.same ∙ ap (λ (n : ℕ). record w { seen = v.seen; others = v.others; device_turns = n }) (sym (ap (λ (a : Standing). a.device_turns) call_ends.goes_on.same));
  };
  good = subst (λ (u : Setup). IsGood u v.seen) (ap (λ (a : Standing). a.setup) call_ends.goes_on.same) good;
}

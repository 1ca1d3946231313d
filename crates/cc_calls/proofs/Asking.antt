-- What a query leaves: one of a stream as a call that needs pages, one of none as the function of its own.
use Rattle.std.specs.Prelude.{◌≡◌, ℕ, Bool, true, false, Result, Ok, Err, List, [], Option, Some, is_some, refl}
use Rattle.std.proofs.Common.{ap, sym, ◌∙◌, inl, subst}
use Rattle.cc_entry.specs.Place.{File}
use Rattle.cc_entry.specs.Queries.{file_of_query, is_of_stream}
use Rattle.cc_entry.specs.declared.call.Call.TheVariants as call
use Rattle.cc_entry.specs.declared.entry.Entry.{Entry}
use Rattle.cc_entry.specs.declared.error.CcError.{CcError}
use Rattle.cc_entry.specs.declared.place.FileState.{FileState}
use Rattle.cc_entry.specs.declared.query.Query.{Query}
use Rattle.cc_entry.specs.declared.query.Query.TheVariants as query
use Rattle.cc_entry.specs.declared.reply.Outcome.{Outcome}
use Rattle.cc_entry.specs.declared.reply.Outcome.TheVariants as outcome
use Rattle.cc_entry.specs.declared.reply.Reply.{Reply}
use Rattle.cc_entry.specs.declared.reply.Reply.TheVariants as reply
use Rattle.cc_entry.specs.declared.query.Value.{Value}
use Rattle.cc_effects.specs.Calls.{CallLeft}
use Rattle.cc_effects.proofs.FrontLaws.{outcome-defined}
use Rattle.cc_model.specs.Filing.{IsFiled}
use Rattle.cc_model.specs.Good.{IsGood}
use Rattle.cc_model.specs.Legal.{stream_history, stream_opening}
use Rattle.cc_model.specs.Setup.{Setup}
use Rattle.cc_turns.specs.Standing.{Standing}
use Rattle.cc_writes.proofs.Replies.{is_told_whole, query-told_whole}
use Rattle.cc_writes.specs.Visits.{CallIsOfStream}
use Rattle.cc_writes.specs.Ways.{IsTold}
use Rattle.cc_writes.specs.declared.tell.Returned.{Returned}
use Rattle.cc_writes.specs.declared.tell.Returned.TheVariants as returned
use Rattle.cc_calls.specs.Answers.{CallEnds}
use Rattle.cc_calls.specs.Paged.{Paged}
use Rattle.cc_calls.specs.Queries.{AskEnds, as_reply, reply_outcome, reply_told}
use Rattle.cc_calls.proofs.Paging.{same-turns, went-on}

-- a query that names a file is of a stream, and filed under that of the file
pub names-stream : (asked : Query) (file : File) → file_of_query asked ≡ Some file → is_of_stream asked ≡ true
names-stream asked file is = ap is_some is

pub names-file : (asked : Query) (file : File) → file_of_query asked ≡ Some file → CallIsOfStream (call.Query asked) file.stream
names-file asked file is holds pass =
    subst (λ (named : Option File). IsFiled holds pass (Some file.stream) (call.Query asked) named) (sym is) refl

-- what is told whole of a reply is the reply
whole-told : (r : Reply) (told : Returned) (was now : List ℕ) → is_told_whole r ≡ true → IsTold r told was now → reply_told told ≡ Some r
whole-told (reply.Value found) told was now whole tells = ap reply_told tells.0
whole-told other told was now whole tells = absurd (cc)

-- so the caller of a query of a stream is told its reply
query-told : (u : Setup) (me : ℕ) (asked : Query) (r : Reply) (told : Returned) (old new : List Entry) (was now : List ℕ) → is_of_stream asked ≡ true → IsGood u new → CallLeft u me (call.Query asked) (outcome.Done r) old new → IsTold r told was now → reply_told told ≡ Some r
query-told u me asked r told old new was now here good left tells =
    let d = outcome-defined u me (call.Query asked) (outcome.Done r) old new [] good left refl in
    whole-told r told was now (query-told_whole u _ (stream_opening u d.1) (stream_history _ d.1) asked r here d.5.1) tells

module _ (w v : Standing) (asked : Query) (was now : List ℕ) (here : is_of_stream asked ≡ true) where
  pub told-there : (told : Returned) → Paged w v (call.Query asked) (Ok told) was now → (r : Reply) × (reply_told told ≡ Some r)
  told-there told c = (c.left.0, query-told w.setup w.number asked c.left.0 told w.seen v.seen was now here c.good c.left.1 c.left.2)

  pub asked-done : (told : Returned) (r : Reply) → reply_told told ≡ Some r → Paged w v (call.Query asked) (Ok told) was now → AskEnds w v asked (Ok r)
  asked-done told r is c = record {
    pages = record {
      left =
          subst (λ (x : Reply). CallLeft w.setup w.number (call.Query asked) (outcome.Done x) w.seen v.seen)
          (same (sym (query-told w.setup w.number asked c.left.0 told w.seen v.seen was now here c.good c.left.1 c.left.2) ∙ is)) c.left.1;
      goes_on = c.goes_on;
      good = λ was_good. c.good;
      missed = c.missed;
    };
    full = inl (tt, inl tt);
  }
    where
      same : {a b : Reply} → Some a ≡ Some b → a ≡ b
      same is = cc

  pub asked-failed : (e : CcError) → Paged w v (call.Query asked) (Err e) was now → AskEnds w v asked (Err e)
  asked-failed e c = record {
    pages = record { left = c.left.0; goes_on = c.goes_on; good = λ was_good. c.good; missed = c.missed };
    full = c.full;
  }

-- nothing else is told of it
pub never-told : (told : Returned) (r : Reply) → reply_told told ≡ Some r → ((found : Value) → told ≡ returned.Value found → ⊥) → ⊥
never-told (returned.Value found) r is none = none found refl
never-told other r is none = absurd (cc)

-- two queries are of no stream
pub never-asked : (asked : Query) → is_of_stream asked ≡ false → ((handle : ℕ) → asked ≡ query.DirtyPages handle → ⊥) → (asked ≡ query.IsDirtyData → ⊥) → ⊥
never-asked (query.DirtyPages handle) alone no_table no_flag = no_table handle refl
never-asked query.IsDirtyData alone no_table no_flag = no_flag refl
never-asked other alone no_table no_flag = absurd (cc)

-- the reply of such a one is what its own function told
pub asked-so : {A : Type 0} (make : A → Reply) (ended : Result A CcError → Outcome) → ((a : A) → ended (Ok a) ≡ outcome.Done (make a)) → ((e : CcError) → ended (Err e) ≡ outcome.Failed e) → (w v : Standing) (asked : Query) (told : Result A CcError) (answer : Result Reply CcError) → answer ≡ as_reply make told → CallEnds ended w v (call.Query asked) told → AskEnds w v asked answer
asked-so {A} make ended done failed w v asked told answer is ends = subst (AskEnds w v asked) (sym is) (by told ends)
  where
    by : (told : Result A CcError) → CallEnds ended w v (call.Query asked) told → AskEnds w v asked (as_reply make told)
    by (Ok a) ends = record {
      pages = record {
        left = subst (λ (x : Outcome). CallLeft w.setup w.number (call.Query asked) x w.seen v.seen) (done a) ends.left;
        goes_on = went-on w v ends.goes_on;
        good = ends.good;
        missed = inl (same-turns w v ends.goes_on);
      };
      full = inl (tt, inl tt);
    }
    by (Err e) ends = record {
      pages = record {
        left = subst (λ (x : Outcome). CallLeft w.setup w.number (call.Query asked) x w.seen v.seen) (failed e) ends.left;
        goes_on = went-on w v ends.goes_on;
        good = ends.good;
        missed = inl (same-turns w v ends.goes_on);
      };
      full = inl (ends.full, inl ends.full);
    }

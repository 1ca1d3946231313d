-- What a copied read leaves whose bytes are kept.
use Rattle.std.specs.Prelude.{◌≡◌, ℕ, Bool, true, false, List, ◌∷◌, ◌++◌, length, take, Option, Some, Result, Ok, Err, refl}
use Rattle.std.proofs.Common.{ap, sym, ◌∙◌, subst, inl}
use Rattle.cc_entry.specs.Place.{File}
use Rattle.cc_entry.specs.declared.call.Call.{Call}
use Rattle.cc_entry.specs.declared.call.Call.TheVariants as call
use Rattle.cc_entry.specs.declared.entry.Entry.{Entry}
use Rattle.cc_entry.specs.declared.entry.Entry.TheVariants as entry
use Rattle.cc_entry.specs.declared.error.CcError.{CcError}
use Rattle.cc_entry.specs.declared.error.CcError.TheVariants as error
use Rattle.cc_entry.specs.declared.reply.Outcome.{Outcome}
use Rattle.cc_entry.specs.declared.reply.Outcome.TheVariants as outcome
use Rattle.cc_entry.specs.declared.reply.Reply.TheVariants as reply
use Rattle.cc_effects.specs.Calls.{CallLeft}
use Rattle.cc_effects.specs.Refusals.{may_refuse}
use Rattle.cc_effects.proofs.FrontLaws.{legal-tail}
use Rattle.cc_effects.proofs.Starts.{begins, gives_up}
use Rattle.cc_model.specs.Good.{IsGood}
use Rattle.cc_model.specs.Legal.{IsLegal, IsLegalEntry, IsOutcome, stream_history, stream_opening}
use Rattle.cc_model.specs.Replies.{Reads}
use Rattle.cc_model.specs.Setup.{Setup}
use Rattle.cc_turns.specs.Standing.{Standing}
use Rattle.cc_calls.specs.Pages.{ReadEnds}
use Rattle.cc_async.specs.Reads.{ReadIsPlain, AsyncReadLeft}

-- the newest entry of a legal journal is legal
newest-legal : (u : Setup) (me nth : ℕ) (stream : Option ℕ) (it : Call) (ended : Outcome) (front : List Entry) → IsLegal u (entry.Call me nth stream it ended ∷ front) → IsOutcome u front me stream it ended
unfolding IsLegal IsLegalEntry
newest-legal u me nth stream it ended front legal = legal.0

-- what a read that is done answers is what its entry's front defines
pub plain-of : (u : Setup) (me : ℕ) (file : File) (at len : ℕ) (wait : Bool) (bytes : List ℕ) (old new : List Entry) → CallLeft u me (call.CopyRead file at len wait) (outcome.Done (reply.Read bytes)) old new → IsGood u new → ReadIsPlain u me file at len wait bytes old new
plain-of u me file at len wait bytes old new left good = record {
  nth = left.placed.nth;
  later = left.placed.later;
  earlier = left.earlier;
  grew = subst (λ (s : Option ℕ). new ≡ left.placed.later ++ (entry.Call me left.placed.nth s it ended ∷ (left.earlier ++ old))) left.placed.filed left.placed.grew;
  reads = subst (λ (s : Option ℕ). Reads (stream_opening u s) (stream_history (left.earlier ++ old) s) at len (reply.Read bytes)) left.placed.filed outcome-is.1;
}
  where
    it : Call
    it = call.CopyRead file at len wait

    ended : Outcome
    ended = outcome.Done (reply.Read bytes)

    outcome-is : IsOutcome u (left.earlier ++ old) me left.placed.stream it ended
    outcome-is =
        newest-legal u me left.placed.nth left.placed.stream it ended (left.earlier ++ old)
        (legal-tail u left.placed.later _ (subst (λ (past : List Entry). IsLegal u past) left.placed.grew good.legal))

module _ (w v : Standing) (file : File) (at len : ℕ) (wait : Bool) (was now : List ℕ) (same : length was ≡ len) where
  -- its bytes are those in the front of what was handed in
  pub kept-done : (n : ℕ) (bytes : List ℕ) → bytes ≡ take n now → ReadEnds w v file at wait (Ok n) was now → AsyncReadLeft w v file at len wait (Ok bytes)
  kept-done n bytes is ends =
      subst (λ (m : ℕ). AsyncReadLeft w v file at m wait (Ok bytes)) same
      (subst (λ (b : List ℕ). AsyncReadLeft w v file at (length was) wait (Ok b)) (sym is)
      (record {
        pages = record { left = ends.pages.left; goes_on = ends.pages.goes_on; good = ends.pages.good; missed = ends.pages.missed };
        full = inl (tt, inl tt);
        plain = λ good. plain-of w.setup w.number file at (length was) wait (take n now) w.seen v.seen ends.pages.left (ends.pages.good good);
        no_wait = ends.no_wait;
      }))

  pub kept-failed : (e : CcError) → ReadEnds w v file at wait (Err e) was now → AsyncReadLeft w v file at len wait (Err e)
  kept-failed e ends =
      subst (λ (m : ℕ). AsyncReadLeft w v file at m wait (Err e)) same
      (record {
        pages = record { left = ends.pages.left; goes_on = ends.pages.goes_on; good = ends.pages.good; missed = ends.pages.missed };
        full = ends.full;
        plain = λ good. tt;
        no_wait = ends.no_wait;
      })

may-want-memory : (file : File) (at len : ℕ) (wait : Bool) → may_refuse (call.CopyRead file at len wait) error.NoMemory ≡ true
may-want-memory file at len true = refl
may-want-memory file at len false = refl

-- without memory for the bytes no read was made
pub kept-none : (w : Standing) (file : File) (at len : ℕ) (wait : Bool) → AsyncReadLeft w w file at len wait (Err error.NoMemory)
kept-none w file at len wait = record {
  pages = record {
    left = gives_up w.number (call.CopyRead file at len wait) error.NoMemory w.seen w.seen (begins w.number (call.CopyRead file at len wait) w.seen) (may-want-memory file at len wait) refl;
    goes_on = record { same = refl };
    good = λ was_good. was_good;
    missed = inl refl;
  };
  full = inl (tt, inl tt);
  plain = λ good. tt;
  no_wait = λ is. refl;
}

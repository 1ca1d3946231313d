-- What the ends of a script's restarts leave: of pass 0 flushes of logs and their failures alone; and no append, where no other pass
-- placed anything.
use Rattle.std.specs.Prelude.{◌≡◌, ◌≢◌, ℕ, zero, suc, ◌≤◌, ◌==◌, Bool, true, false, max, List, [], ◌∷◌, ◌++◌, slice_get, Result, Ok, Err, refl}
use Rattle.std.specs.List.{AllByRecursion}
use Rattle.std.specs.declared.option.Option.TheVariants.{Some}
use Rattle.std.proofs.Common.{subst, arith, inl, inr, eq-eqb}
use Rattle.std.proofs.lemmas.Bool.{eqb-false}
use Rattle.std.proofs.lemmas.Option.{same_Some}
use Rattle.cc_entry.specs.declared.answer.Answer.{Answer}
use Rattle.cc_entry.specs.declared.answer.Answer.TheVariants as answer
use Rattle.cc_entry.specs.declared.answer.LineReply.{LineReply}
use Rattle.cc_entry.specs.declared.entry.Entry.{Entry}
use Rattle.cc_entry.specs.declared.entry.Entry.TheVariants as entry
use Rattle.cc_entry.specs.declared.error.CcError.{CcError}
use Rattle.cc_entry.specs.declared.error.CcError.TheVariants as error
use Rattle.cc_effects.specs.LogCalls.{FlushRefused}
use Rattle.cc_effects.specs.Moments.{EachOwn, Others}
use Rattle.cc_log.specs.Turn.{appended}
use Rattle.cc_model.specs.Logs.{floor_of, flush_of, flushed_to, reach_of}
use Rattle.cc_model.specs.Passes.{is_mine}
use Rattle.cc_model.specs.Setup.{Setup}
use Rattle.cc_pieces.proofs.Walks.{Walked, walked-idle, walked-only, walked-then}
use Rattle.cc_pieces.specs.Restarts.{LastFlushed, RestartEnded}
use Rattle.cc_restarts.specs.declared.ended.LogRestart.{LogRestart}
use Rattle.cc_restarts.specs.declared.ended.Numbers.{Numbers}
use Rattle.cc_program.specs.Restarting.{RestartsEnded, TellsEnd, last_number}

-- whether an entry is a flush of a log, or the failure of one
abbrev pub is_flush : Entry → Bool
is_flush (entry.Flushed pass handle to) = true
is_flush (entry.LogFailed pass handle) = true
is_flush other = false

abbrev pub IsFlush : List Entry → Entry → Type 0
IsFlush past e = is_flush e ≡ true

module _ (u : Setup) where
  flushed-walked : (handle last : ℕ) (old new : List Entry) → LastFlushed u handle last old new → Walked IsFlush 0 old new
  flushed-walked handle zero old new idle = walked-idle IsFlush 0 old new idle
  flushed-walked handle (suc n) old new (fits, (low, inl only)) = walked-only IsFlush 0 (entry.Flushed 0 handle (suc n)) old new only (λ past. refl)
  flushed-walked handle (suc n) old new (fits, (low, inr was)) = walked-idle IsFlush 0 old new was.idle

  refused-walked : (handle last : ℕ) (e : CcError) (old new : List Entry) → FlushRefused u 0 handle last e old new → Walked IsFlush 0 old new
  refused-walked handle last (error.NoLog missing) old new left = walked-idle IsFlush 0 old new left.2
  refused-walked handle last (error.LogFault failed) old new left = walked-only IsFlush 0 (entry.LogFailed 0 handle) old new left.2.1 (λ past. refl)
  refused-walked handle last (error.JournalFull entries) old new left = walked-idle IsFlush 0 old new left
  refused-walked handle last error.NoMemory old new left = walked-idle IsFlush 0 old new left
  refused-walked handle last other old new left = absurd left

  ended-walked : (handle last updates : ℕ) (told : Answer) (old new : List Entry) → RestartEnded u handle last updates told old new → Walked IsFlush 0 old new
  ended-walked handle last updates (answer.Restarted n) old new left = flushed-walked handle last old new left.1
  ended-walked handle last updates (answer.Refused e) old new left = refused-walked handle last e old new left
  ended-walked handle last updates other old new left = absurd left

  end-walked : (handle : ℕ) (ended : Result Numbers CcError) (told : Answer) (old new : List Entry) → TellsEnd u handle ended told old new → Walked IsFlush 0 old new
  end-walked handle (Ok numbers) told old new left = ended-walked handle (last_number numbers.last) numbers.updates told old new left
  end-walked handle (Err e) told old new left = walked-idle IsFlush 0 old new left.1

  pub ends-walked : (ended : List LogRestart) (replies : List LineReply) (old new : List Entry) → RestartsEnded u ended replies old new → Walked IsFlush 0 old new
  ends-walked [] [] old new left = record { during = []; grew = left; each = tt }
  ends-walked [] (told ∷ replies) old new left = absurd left
  ends-walked (one ∷ ended) [] old new left = absurd left
  ends-walked (one ∷ ended) (told ∷ replies) old new left =
      walked-then IsFlush 0 old left.0 new (end-walked one.handle one.ended told.answer old left.0 left.1.told) (ends-walked ended replies left.0 new left.2)

  -- one of the restarts, with its reply
  pub record IsEndOf (one : LogRestart) (n : ℕ) (replies : List LineReply) (new : List Entry) : Type 0 where
    pub reply : LineReply
    pub at : slice_get replies n ≡ Some reply
    pub before : List Entry
    pub after : List Entry
    pub later : List Entry
    pub told : TellsEnd u one.handle one.ended reply.answer before after
    pub grew : new ≡ later ++ after

  pub end-of : (ended : List LogRestart) (replies : List LineReply) (old new : List Entry) → RestartsEnded u ended replies old new → (n : ℕ) (one : LogRestart) → slice_get ended n ≡ Some one → IsEndOf one n replies new
  end-of [] replies old new left n one is = absurd (cc is)
  end-of (first ∷ ended) [] old new left n one is = absurd left
  end-of (first ∷ ended) (told ∷ replies) old new left zero one is =
      let rest = ends-walked ended replies left.0 new left.2 in
      record {
        reply = told;
        at = refl;
        before = old;
        after = left.0;
        later = rest.during;
        told = subst (λ (r : LogRestart). TellsEnd u r.handle r.ended told.answer old left.0) (same_Some first one is) left.1.told;
        grew = rest.grew;
      }
  end-of (first ∷ ended) (told ∷ replies) old new left (suc n) one is =
      let rest = end-of ended replies left.0 new left.2 n one is in
      record { reply = rest.reply; at = rest.at; before = rest.before; after = rest.after; later = rest.later; told = rest.told; grew = rest.grew }

  -- where the log was flushed up to the last LSN, its floor is that at least
  pub record IsReached (log last : ℕ) (new : List Entry) : Type 0 where
    pub later : List Entry
    pub front : List Entry
    pub splits : new ≡ later ++ front
    pub reached : last ≤ floor_of front log

  flush-reach : (log : ℕ) (e : Entry) → flush_of log e ≤ reach_of log e
  flush-reach log (entry.Flushed pass handle to) = omega arith
  flush-reach log other = omega arith

  flushed-floor : (log : ℕ) (past : List Entry) → flushed_to past log ≤ floor_of past log
  unfolding flushed_to floor_of
  flushed-floor log [] = omega arith
  flushed-floor log (e ∷ past) = both (flush_of log e) (reach_of log e) (flushed_to past log) (floor_of past log) (flush-reach log e) (flushed-floor log past)
    where
      both : (a b c d : ℕ) → a ≤ b → c ≤ d → max a c ≤ max b d
      both a b c d first rest = omega arith

  floor-flush : (log to : ℕ) (past : List Entry) → floor_of (entry.Flushed 0 log to ∷ past) log ≡ max to (floor_of past log)
  unfolding floor_of
  floor-flush log to past = rw (eq-eqb log log refl) refl

  pub reached-last : (log last : ℕ) (old new : List Entry) → LastFlushed u log last old new → IsReached log last new
  reached-last log zero old new idle = record { later = []; front = new; splits = refl; reached = omega arith }
  reached-last log (suc n) old new (fits, (low, inl only)) = record {
    later = only.later;
    front = entry.Flushed 0 log (suc n) ∷ (only.earlier ++ old);
    splits = only.grew;
    reached = let floor = floor-flush log (suc n) (only.earlier ++ old) in over (suc n) (floor_of (only.earlier ++ old) log) (floor_of (entry.Flushed 0 log (suc n) ∷ (only.earlier ++ old)) log) floor;
  }
    where
      over : (a b c : ℕ) → c ≡ max a b → a ≤ c
      over a b c is = omega arith
  reached-last log (suc n) old new (fits, (low, inr was)) = record {
    later = was.reached.later;
    front = was.reached.moment;
    splits = was.reached.ends;
    reached = let holds = was.reached.holds in let floor = flushed-floor log was.reached.moment in omega (arith, holds, floor);
  }

-- ---- no append stands there

abbrev pub is_append : Entry → Bool
is_append (entry.Append pass handle lsn bytes) = true
is_append other = false

clash : {b : Bool} → b ≡ true → b ≡ false → ⊥
clash one other = cc

no-append : (e : Entry) → ((me : ℕ) → me ≢ 0 → is_mine me e ≡ false) → (is_mine 0 e ≡ true → is_flush e ≡ true) → is_append e ≡ false
no-append (entry.Append pass handle lsn bytes) others own = go (pass == 0) refl
  where
    go : (b : Bool) → (pass == 0) ≡ b → true ≡ false
    go true is = absurd (clash (own is) refl)
    go false is = absurd (clash (eq-eqb pass pass refl) (others pass (eqb-false pass 0 is)))
no-append other others own = refl

pub no-appends : (during old : List Entry) → ((me : ℕ) → me ≢ 0 → Others me during) → EachOwn 0 IsFlush during old → AllByRecursion (λ (e : Entry). is_append e ≡ false) during
no-appends [] old others each = tt
no-appends (e ∷ during) old others each = (no-append e (λ me other. (others me other).0) each.0, no-appends during old (λ me other. (others me other).1) each.1)

pub nothing-appended : (log : ℕ) (past : List Entry) → AllByRecursion (λ (e : Entry). is_append e ≡ false) past → appended past log ≡ []
unfolding appended
nothing-appended log [] none = refl
nothing-appended log (entry.Append pass handle lsn bytes ∷ past) none = let is = none.0 in absurd (cc is)
nothing-appended log (other ∷ past) none = nothing-appended log past none.1

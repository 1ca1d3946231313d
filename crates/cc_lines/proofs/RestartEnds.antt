-- What ends a restart that was done: a flush of its log up to the last LSN, or nothing where the log has none.
use Rattle.std.specs.Prelude.{◌≡◌, ℕ, zero, suc, ◌≤◌, ◌^◌, List, Ok, Err, refl}
use Rattle.std.proofs.Common.{arith}
use Rattle.cc_entry.specs.declared.answer.Answer.TheVariants as answer
use Rattle.cc_entry.specs.declared.entry.Entry.{Entry}
use Rattle.cc_entry.specs.declared.error.CcError.{CcError}
use Rattle.cc_model.specs.Setup.{Setup}
use Rattle.cc_effects.specs.LogCalls.{LogFlushLeft}
use Rattle.cc_effects.specs.Moments.{IsIdle}
use Rattle.cc_pieces.specs.Restarts.{LastFlushed, RestartEnded}

module _ (u : Setup) (handle : ℕ) (old new : List Entry) where
  last-flushed : (last : ℕ) → 1 ≤ last → last ≤ 2 ^ 62 → LogFlushLeft {T = Unit {0}} u 0 handle last (Ok tt) old new → LastFlushed u handle last old new
  last-flushed zero low high left = absurd (omega (arith, low))
  last-flushed (suc n) low high left = (high, left)

  none-flushed : (last : ℕ) → last ≡ 0 → IsIdle 0 old new → LastFlushed u handle last old new
  none-flushed zero none idle = idle
  none-flushed (suc n) none idle = absurd (cc none)

  module _ (last updates : ℕ) where
    pub flushed-end : (me lsn : ℕ) → me ≡ 0 → lsn ≡ last → 1 ≤ last → last ≤ 2 ^ 62 → LogFlushLeft {T = Unit {0}} u me handle lsn (Ok tt) old new → RestartEnded u handle last updates (answer.Restarted updates) old new
    flushed-end me lsn first same low high left = (refl, last-flushed last low high (rw (first, same) at left))

    pub refused-end : (e : CcError) (me lsn : ℕ) → me ≡ 0 → lsn ≡ last → LogFlushLeft {T = Unit {0}} u me handle lsn (Err e) old new → RestartEnded u handle last updates (answer.Refused e) old new
    refused-end e me lsn first same left = rw (first, same) at left

    pub none-end : last ≡ 0 → IsIdle 0 old new → RestartEnded u handle last updates (answer.Restarted updates) old new
    none-end none idle = (refl, none-flushed last none idle)

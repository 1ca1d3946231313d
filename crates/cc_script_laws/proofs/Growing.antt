-- The journal grows: what is seen of it at a moment, and what is good then.
use Rattle.std.specs.Prelude.{◌≡◌, ℕ, List, [], ◌∷◌, true, refl}
use Rattle.std.proofs.Common.{sym, subst}
use Rattle.cc_entry.specs.declared.entry.Entry.{Entry}
use Rattle.cc_model.specs.Good.{IsGoodSoFar}
use Rattle.cc_model.specs.History.{history}
use Rattle.cc_model.specs.Objects.{had_map}
use Rattle.cc_model.specs.Passes.{HasSeen}
use Rattle.cc_model.specs.Setup.{Setup}
use Rattle.cc_effects.specs.Moments.{IsIdle}
use Rattle.cc_records.proofs.Settling.{good-rest}
use Rattle.cc_restart_laws.proofs.Contents.{had-more}

pub seen-none : (past : List Entry) → HasSeen past past
seen-none past = record { later = []; grew = refl }

pub seen-idle : (me : ℕ) (old new : List Entry) → IsIdle me old new → HasSeen old new
seen-idle me old new idle = record { later = idle.during; grew = idle.grew }

pub seen-entry : (e : Entry) (past : List Entry) → HasSeen past (e ∷ past)
seen-entry e past = record { later = e ∷ []; grew = refl }

pub good-seen : (u : Setup) (old new : List Entry) → HasSeen old new → IsGoodSoFar u new → IsGoodSoFar u old
good-seen u old new seen good = good-rest u seen.later old (subst (λ (l : List Entry). IsGoodSoFar u l) seen.grew good)

-- a stream that has had a map has it still
pub had-seen : (u : Setup) (s : ℕ) (old new : List Entry) → HasSeen old new → had_map (history old s) ≡ true → had_map (history new s) ≡ true
had-seen u s old new seen had = subst (λ (l : List Entry). had_map (history l s) ≡ true) (sym seen.grew) (had-more u s 0 seen.later old had)

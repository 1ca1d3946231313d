-- A good journal stays good with an entry that may stand and is of no call.
use Rattle.std.specs.Prelude.{◌≡◌, Bool, true, false, List, ◌∷◌, None, refl}
use Rattle.cc_entry.specs.declared.entry.Entry.{Entry}
use Rattle.cc_entry.specs.declared.entry.Entry.TheVariants as entry
use Rattle.cc_model.specs.Allowed.{IsAllowed, IsAllowedSoFar, IsOwed, MayStand, owed_begin}
use Rattle.cc_model.specs.Covered.{IsCovered, IsCoveredEntry}
use Rattle.cc_model.specs.Good.{IsGood, IsGoodSoFar}
use Rattle.cc_model.specs.Legal.{IsLegal, IsLegalEntry}
use Rattle.cc_model.specs.Setup.{Setup}

-- whether an entry is of a call that ended
abbrev pub is_call : Entry → Bool
is_call (entry.Call pass nth stream call ended) = true
is_call other = false

pub nothing-owed : (e : Entry) (past : List Entry) → owed_begin past ≡ None → IsOwed (owed_begin past) e
nothing-owed e past none = rw none tt

legal : (u : Setup) (past : List Entry) (e : Entry) → is_call e ≡ false → IsLegalEntry u past e
unfolding IsLegalEntry
legal u past (entry.Call pass nth stream call ended) plain = absurd (cc)
legal u past other plain = tt

covered : (u : Setup) (past : List Entry) (e : Entry) → is_call e ≡ false → MayStand u past e → IsCoveredEntry past e
unfolding IsCoveredEntry
covered u past (entry.WriteBegin pass page) plain may = may.logged
covered u past (entry.Append pass handle lsn bytes) plain may = may
covered u past other plain may = tt

none-after : (e : Entry) (past : List Entry) → is_call e ≡ false → owed_begin (e ∷ past) ≡ None
none-after (entry.Call pass nth stream call ended) past plain = absurd (cc)
none-after other past plain = refl

pub good-placed : (u : Setup) (past : List Entry) (e : Entry) → is_call e ≡ false → IsGood u past → MayStand u past e → IsGood u (e ∷ past)
unfolding IsLegal IsAllowed IsAllowedSoFar IsCovered
good-placed u past e plain good may = record {
  legal = (legal u past e plain, good.legal);
  allowed = ((nothing-owed e past good.allowed.1, may, good.allowed.0), none-after e past plain);
  covered = (covered u past e plain may, good.covered);
}

pub so-far : (u : Setup) (past : List Entry) → IsGood u past → IsGoodSoFar u past
unfolding IsAllowed
so-far u past good = record { legal = good.legal; allowed = good.allowed.0; covered = good.covered }

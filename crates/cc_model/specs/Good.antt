-- Good journals: legal, allowed and covered.
use Rattle.std.specs.Prelude.{List}
use Rattle.cc_entry.specs.declared.entry.Entry.{Entry}
use Rattle.cc_model.specs.Setup.{Setup}
use Rattle.cc_model.specs.Legal.{IsLegal}
use Rattle.cc_model.specs.Covered.{IsCovered}
use Rattle.cc_model.specs.Allowed.{IsAllowed, IsAllowedSoFar}

-- a journal that a run may leave
pub record IsGood (u : Setup) (past : List Entry) : Type 0 where
  pub legal : IsLegal u past
  pub allowed : IsAllowed u past
  pub covered : IsCovered past

-- a journal that a run may have at any moment: the begin that a noncached store owes may be missing
pub record IsGoodSoFar (u : Setup) (past : List Entry) : Type 0 where
  pub legal : IsLegal u past
  pub allowed : IsAllowedSoFar u past
  pub covered : IsCovered past

-- The open holds of a stream as they are kept, and when they stand for the stream's history.
use Rattle.std.specs.Prelude.{◌≡◌, ℕ, ◌<◌, Bool, is_none, List, [], ◌∷◌, reverse, ⊤}
use Rattle.std.specs.List.{AllZip, AllByRecursion, list_any}
use Rattle.cc_entry.specs.Place.{File}
use Rattle.cc_entry.specs.Pages.{has_page}
use Rattle.cc_entry.specs.declared.hold.HoldKind.{HoldKind}
use Rattle.cc_entry.specs.declared.hold.HoldRow.{HoldRow}
use Rattle.cc_model.specs.History.{Effect}
use Rattle.cc_model.specs.Numbers.{is_empty}
use Rattle.cc_model.specs.Holds.{holds_of}
use Rattle.cc_model.specs.Holds as held
use Rattle.cc_holds.specs.Touched.{has_touched}
use Rattle.cc_holds.specs.declared.holds.KeptHold.{KeptHold}

-- What is shown of a hold: all but the caller that made it and the bytes for which it owes a stamp.
pub record Shown : Type 0 where
  pub id : ℕ
  pub file : File
  pub at : ℕ
  pub len : ℕ
  pub kind : HoldKind
  pub exclusive : Bool

-- what is shown of a hold of the definition
abbrev pub shown : held.Hold → Shown
shown hold = record {
  id = hold.id;
  file = hold.file;
  at = hold.at;
  len = hold.len;
  kind = hold.kind;
  exclusive = hold.exclusive;
}

-- what is shown of a hold that is kept
abbrev pub shown_row : HoldRow → Shown
shown_row row = record {
  id = row.id;
  file = row.file;
  at = row.at;
  len = row.len;
  kind = row.kind;
  exclusive = row.exclusive;
}

-- A hold of the definition and the one that is kept for it: both show the same, were made by the same pass, and owe a
-- stamp to the same pages, and at all.
pub record IsHold (hold : held.Hold) (kept : KeptHold) : Type 0 where
  pub shows : shown_row kept.row ≡ shown hold
  pub by : kept.pass ≡ hold.pass
  pub changed : is_none kept.row.written ≡ is_empty hold.owed
  pub owes : (p : ℕ) → has_touched kept.touched p ≡ list_any (λ r. has_page r p) hold.owed

-- each hold has a greater id than those before it
abbrev pub IdsAscend : List KeptHold → Type 0
IdsAscend [] = ⊤
IdsAscend (kept ∷ holds) = AllByRecursion (λ later. kept.row.id < later.row.id) holds × IdsAscend holds

-- What is kept stands for a history: its open holds, one for one, the oldest first.
pub record HoldsStand (h : List Effect) (holds : List KeptHold) : Type 0 where
  pub each : AllZip IsHold (reverse (holds_of h)) holds
  pub in_order : IdsAscend holds

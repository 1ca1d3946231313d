-- How the holds that are kept step with the history of their stream.
use Rattle.std.specs.Prelude.{◌≡◌, ℕ, ◌<◌, ◌+◌, Bool, true, false, not, ◌==◌, is_none, List, [], ◌∷◌, ◌++◌, All, length, map, reverse, IsSome, if◌then◌else◌, refl}
use Rattle.std.specs.declared.option.Option.{Option}
use Rattle.std.specs.declared.option.Option.TheVariants.{Some, None}
use Rattle.std.specs.List.{AllZip, AllByRecursion, filter, list_any}
use Rattle.std.specs.Option.{option_map}
use Rattle.std.proofs.Common.{ap, sym, subst, ◌∙◌}
use Rattle.std.proofs.lemmas.List.Elements.{recursion_from_All}
use Rattle.cc_entry.specs.Place.{Range}
use Rattle.cc_entry.specs.Pages.{has_page, whole_range}
use Rattle.cc_entry.specs.declared.call.Call.{Call}
use Rattle.cc_entry.specs.declared.call.Call.TheVariants as call
use Rattle.cc_entry.specs.declared.reply.Reply.{Reply}
use Rattle.cc_entry.specs.declared.hold.HoldKind.TheVariants as kind
use Rattle.cc_entry.specs.declared.hold.HoldRow.{HoldRow}
use Rattle.cc_model.specs.History.{Effect, Did, CameIn, WentOut, Began, Ended, Synced}
use Rattle.cc_model.specs.Holds.{hold_at, changed_at, made, repinned, id_of, held_after, holds_of}
use Rattle.cc_model.specs.Holds as held
use Rattle.cc_laws.proofs.HoldSteps.{changes_holds, holds_of-done, holds_of-other, holds_of-came_in, holds_of-went_out, holds_of-began, holds_of-ended, holds_of-synced, holds_of-pin_mapped, holds_of-pinned_write, holds_of-set_dirty, holds_of-end_hold}
use Rattle.cc_holds.specs.Holds.{hold_of, without_hold, inserted, opened, hold_written, cleaned, hold_pinned, touched_at, Changes}
use Rattle.cc_holds.specs.Touched.{has_touched, widened}
use Rattle.cc_model.specs.Numbers.{is_empty}
use Rattle.cc_holds.specs.declared.holds.KeptHold.{KeptHold}
use Rattle.cc_holds.specs.Stands.{Shown, IsHold, IdsAscend, HoldsStand}
use Rattle.cc_holds.specs.Makes.{new_row, row_made}
use Rattle.cc_holds.proofs.Zips.{reverse-onto, reverse-mapped, reverse-filtered, zip-onto, zip-mapped, zip-filtered}
use Rattle.cc_holds.proofs.KeptLists.{IdsBelow, ascend-onto, inserted-last, changed_one, changed-absent, changed-is, ascend-changed, is_other, without-is, ascend-filtered}
use Rattle.cc_holds.proofs.PagesOwed.{touched-further}

-- a stream of which nothing happened
pub stands-begun : HoldsStand [] []
unfolding holds_of
stands-begun = record { each = tt; in_order = tt }

-- a history with the same open holds
pub stands-same : (g h : List Effect) (holds : List KeptHold) → holds_of g ≡ holds_of h → HoldsStand h holds → HoldsStand g holds
stands-same g h holds same stands =
    record { each = subst (λ (hs : List held.Hold). AllZip IsHold (reverse hs) holds) (sym same) stands.each; in_order = stands.in_order }

-- whether an effect makes, changes or ends a hold
abbrev pub moves_holds : Effect → Bool
moves_holds (Did pass call reply) = changes_holds call
moves_holds other = false

-- every other effect leaves the holds as they were
pub stands-other : (e : Effect) (h : List Effect) (holds : List KeptHold) → moves_holds e ≡ false → HoldsStand h holds → HoldsStand (e ∷ h) holds
stands-other (Did pass call reply) h holds other stands = stands-same _ h holds (holds_of-other pass call reply h other) stands
stands-other (CameIn pass page from_disk) h holds other stands = stands-same _ h holds (holds_of-came_in pass page from_disk h) stands
stands-other (WentOut pass page) h holds other stands = stands-same _ h holds (holds_of-went_out pass page h) stands
stands-other (Began pass page) h holds other stands = stands-same _ h holds (holds_of-began pass page h) stands
stands-other (Ended pass page how) h holds other stands = stands-same _ h holds (holds_of-ended pass page how h) stands
stands-other (Synced pass how) h holds other stands = stands-same _ h holds (holds_of-synced pass how h) stands

-- a hold has the id of the one that is kept for it
pub same_id : (hold : held.Hold) (kept : KeptHold) → IsHold hold kept → kept.row.id ≡ hold.id
same_id hold kept is = ap (λ (s : Shown). s.id) is.shows

-- what is so of each hold is so of each from the back
all-onto : {A : Type 0} (P : A → Type 0) (xs : List A) (x : A) → AllByRecursion P xs → P x → AllByRecursion P (xs ++ x ∷ [])
all-onto P [] x all is = (is, tt)
all-onto P (y ∷ xs) x all is = (all.0, all-onto P xs x all.1 is)

pub all-reversed : {A : Type 0} (P : A → Type 0) (xs : List A) → AllByRecursion P xs → AllByRecursion P (reverse xs)
all-reversed P [] all = tt
all-reversed P (x ∷ xs) all = subst (AllByRecursion P) (sym (reverse-onto x xs)) (all-onto P (reverse xs) x (all-reversed P xs all.1) all.0)

below-kept : (id : ℕ) (xs : List held.Hold) (holds : List KeptHold) → AllZip IsHold xs holds → AllByRecursion (λ (hold : held.Hold). hold.id < id) xs → IdsBelow id holds
below-kept id [] [] each below = tt
below-kept id [] (kept ∷ holds) each below = absurd each
below-kept id (hold ∷ xs) [] each below = absurd each
below-kept id (hold ∷ xs) (kept ∷ holds) each below =
    (subst (λ n. n < id) (sym (same_id hold kept each.0)) below.0, below-kept id xs holds each.1 below.1)

-- the ranges for which a hold of this row owes a stamp
abbrev owed_by : Option Range → List Range
owed_by None = []
owed_by (Some span) = span ∷ []

-- the hold of a row, beside others
abbrev made_row : ℕ → HoldRow → List held.Hold → List held.Hold
made_row pass row holds = made row.id pass row.file row.at row.len row.kind row.exclusive (owed_by row.written) holds

module _ (pass : ℕ) (row : HoldRow) where
  same-row : (r : HoldRow) (holds : List held.Hold) → Some r ≡ Some row → made_row pass r holds ≡ made_row pass row holds
  same-row r holds same = ap (λ (x : HoldRow). made_row pass x holds) (some r row same)
    where
      some : (a b : HoldRow) → Some a ≡ Some b → a ≡ b
      some a b e = cc

  held_after-made : (call : Call) (id : ℕ) (holds : List held.Hold) → row_made call id holds ≡ Some row → held_after pass call id holds ≡ made_row pass row holds
  held_after-made (call.Map file at len) id holds is = same-row _ holds is
  held_after-made (call.PinRead file at len exclusive) id holds is = same-row _ holds is
  held_after-made (call.PreparePin file at len true exclusive) id holds is = same-row _ holds is
  held_after-made (call.PreparePin file at len false exclusive) id holds is = same-row _ holds is
  held_after-made (call.MdlRead file at len) id holds is = same-row _ holds is
  held_after-made (call.MdlWrite file at len) id holds is = same-row _ holds is
  held_after-made (call.Repin hold) id holds is = go (hold_at holds hold) is
    where
      go : (o : Option held.Hold) → option_map (λ (it : held.Hold). new_row id it.file it.at it.len kind.Repin false None) o ≡ Some row → repinned id pass o holds ≡ made_row pass row holds
      go None is = absurd (cc)
      go (Some it) is = same-row _ holds is
  held_after-made other id holds is = absurd (cc)

touched-opened : (span : Option Range) (p : ℕ) → has_touched (touched_at span) p ≡ list_any (λ r. has_page r p) (owed_by span)
touched-opened None p = refl
touched-opened (Some span) p = touched-further [] span [] p refl

changed-opened : (span : Option Range) → is_none span ≡ is_empty (owed_by span)
changed-opened None = refl
changed-opened (Some span) = refl

changed-widened : (span : Option Range) (more : Range) → is_none (widened span more) ≡ false
changed-widened None more = refl
changed-widened (Some span) more = refl

-- a hold that is made
pub stands-made : (row : HoldRow) (h : List Effect) (holds : List KeptHold) (pass : ℕ) (call : Call) (reply : Reply) → HoldsStand h holds → row_made call (id_of reply) (holds_of h) ≡ Some row → All (λ (hold : held.Hold). hold.id < row.id) (holds_of h) → HoldsStand (Did pass call reply ∷ h) (inserted holds (opened pass row))
stands-made row h holds pass call reply stands makes below =
    let after : holds_of (Did pass call reply ∷ h) ≡ made_row pass row (holds_of h) = holds_of-done pass call reply h ∙ held_after-made pass row call (id_of reply) (holds_of h) makes in
    let under : IdsBelow row.id holds = below-kept row.id (reverse (holds_of h)) holds stands.each (all-reversed _ (holds_of h) (recursion_from_All _ (holds_of h) below)) in
    let is : IsHold (record { id = row.id; pass = pass; file = row.file; at = row.at; len = row.len; kind = row.kind; exclusive = row.exclusive; owed = owed_by row.written }) (opened pass row) =
    record { shows = refl; by = refl; changed = changed-opened row.written; owes = touched-opened row.written } in
    record {
      each = subst (λ (ks : List KeptHold). AllZip IsHold (reverse (holds_of (Did pass call reply ∷ h))) ks) (sym (inserted-last holds (opened pass row) under))
          (subst (λ (hs : List held.Hold). AllZip IsHold hs (holds ++ opened pass row ∷ [])) (sym (ap reverse after ∙ reverse-onto _ (holds_of h)))
          (zip-onto IsHold (reverse (holds_of h)) holds _ (opened pass row) stands.each is));
      in_order = subst IdsAscend (sym (inserted-last holds (opened pass row) under)) (ascend-onto holds (opened pass row) stands.in_order under);
    }

-- a hold that is changed, on both sides alike
module _ (change : held.Hold → held.Hold) (change_kept : KeptHold → KeptHold) (keeps : (hold : held.Hold) (kept : KeptHold) → IsHold hold kept → IsHold (change hold) (change_kept kept)) (kept_id : (kept : KeptHold) → (change_kept kept).row.id ≡ kept.row.id) (id : ℕ) where
  changes-one : (hold : held.Hold) (kept : KeptHold) → IsHold hold kept → IsHold (if hold.id == id then change hold else hold) (changed_one id change_kept kept)
  changes-one hold kept is = rw (ap (λ n. n == id) (same_id hold kept is)) (go (hold.id == id))
    where
      go : (b : Bool) → IsHold (if b then change hold else hold) (if b then change_kept kept else kept)
      go true = keeps hold kept is
      go false = is

  stands-mapped : (e : Effect) (h : List Effect) (holds new : List KeptHold) → holds_of (e ∷ h) ≡ changed_at id change (holds_of h) → HoldsStand h holds → new ≡ map (changed_one id change_kept) holds → HoldsStand (e ∷ h) new
  stands-mapped e h holds new after stands is =
      subst (HoldsStand (e ∷ h)) (sym is) (record {
        each = subst (λ (hs : List held.Hold). AllZip IsHold hs (map (changed_one id change_kept) holds)) (sym (ap reverse after ∙ reverse-mapped _ (holds_of h)))
            (zip-mapped IsHold _ _ changes-one (reverse (holds_of h)) holds stands.each);
        in_order = ascend-changed id change_kept kept_id holds stands.in_order;
      })

  pub stands-changed : (e : Effect) (h : List Effect) (holds new : List KeptHold) → holds_of (e ∷ h) ≡ changed_at id change (holds_of h) → HoldsStand h holds → IsSome (hold_of holds id) → Changes holds new id change_kept → HoldsStand (e ∷ h) new
  stands-changed e h holds new after stands there changes =
      stands-mapped e h holds new after stands (changed-is id change_kept holds new stands.in_order there changes)

  pub stands-absent : (e : Effect) (h : List Effect) (holds : List KeptHold) → holds_of (e ∷ h) ≡ changed_at id change (holds_of h) → HoldsStand h holds → hold_of holds id ≡ None → HoldsStand (e ∷ h) holds
  stands-absent e h holds after stands absent =
      stands-mapped e h holds holds after stands (sym (changed-absent id change_kept holds absent))

-- a hold that ends
pub stands-ended : (id : ℕ) (h : List Effect) (holds : List KeptHold) (pass : ℕ) (reply : Reply) → HoldsStand h holds → HoldsStand (Did pass (call.EndHold id) reply ∷ h) (without_hold holds id)
stands-ended id h holds pass reply stands =
    subst (HoldsStand (Did pass (call.EndHold id) reply ∷ h)) (sym (without-is id holds stands.in_order)) (record {
      each = subst (λ (hs : List held.Hold). AllZip IsHold hs (filter (is_other id) holds)) (sym (ap reverse (holds_of-end_hold pass id reply h) ∙ reverse-filtered _ (holds_of h)))
          (zip-filtered IsHold _ _ (λ hold kept is. ap (λ n. not (n == id)) (same_id hold kept is)) (reverse (holds_of h)) holds stands.each);
      in_order = ascend-filtered (is_other id) holds stands.in_order;
    })

-- a mapped hold that becomes a pin
module _ (id : ℕ) (exclusive : Bool) (h : List Effect) (holds : List KeptHold) (stands : HoldsStand h holds) (pass : ℕ) (reply : Reply) where
  pins-both : (hold : held.Hold) (kept : KeptHold) → IsHold hold kept → IsHold (record hold { kind = kind.Pin; exclusive = exclusive }) (hold_pinned exclusive kept)
  pins-both hold kept is =
      record { shows = ap (λ (s : Shown). record s { kind = kind.Pin; exclusive = exclusive }) is.shows; by = is.by; changed = is.changed; owes = is.owes }

  pub stands-pinned : (new : List KeptHold) → IsSome (hold_of holds id) → Changes holds new id (hold_pinned exclusive) → HoldsStand (Did pass (call.PinMapped id exclusive) reply ∷ h) new
  stands-pinned new = stands-changed _ (hold_pinned exclusive) pins-both (λ kept. refl) id _ h holds new (holds_of-pin_mapped pass id exclusive reply h) stands

  pub stands-unpinned : hold_of holds id ≡ None → HoldsStand (Did pass (call.PinMapped id exclusive) reply ∷ h) holds
  stands-unpinned = stands-absent _ (hold_pinned exclusive) pins-both (λ kept. refl) id _ h holds (holds_of-pin_mapped pass id exclusive reply h) stands

-- a write through a hold
module _ (id : ℕ) (span : Range) (at : ℕ) (bytes : List ℕ) (is : span ≡ whole_range at (length bytes)) (h : List Effect) (holds : List KeptHold) (stands : HoldsStand h holds) (pass : ℕ) (reply : Reply) where
  writes-both : (hold : held.Hold) (kept : KeptHold) → IsHold hold kept → IsHold (record hold { owed = record { from = at; to = at + length bytes } ∷ hold.owed }) (hold_written span kept)
  writes-both hold kept both =
      record { shows = both.shows; by = both.by; changed = changed-widened kept.row.written span; owes = λ p. rw is (touched-further kept.touched (whole_range at (length bytes)) hold.owed p (both.owes p)) }

  pub stands-written : (new : List KeptHold) → IsSome (hold_of holds id) → Changes holds new id (hold_written span) → HoldsStand (Did pass (call.PinnedWrite id at bytes) reply ∷ h) new
  stands-written new = stands-changed _ (hold_written span) writes-both (λ kept. refl) id _ h holds new (holds_of-pinned_write pass id at bytes reply h) stands

  pub stands-unwritten : hold_of holds id ≡ None → HoldsStand (Did pass (call.PinnedWrite id at bytes) reply ∷ h) holds
  stands-unwritten = stands-absent _ (hold_written span) writes-both (λ kept. refl) id _ h holds (holds_of-pinned_write pass id at bytes reply h) stands

-- a set-dirty of a hold
module _ (id : ℕ) (lsn : Option ℕ) (h : List Effect) (holds : List KeptHold) (stands : HoldsStand h holds) (pass : ℕ) (reply : Reply) where
  cleans-both : (hold : held.Hold) (kept : KeptHold) → IsHold hold kept → IsHold (record hold { owed = [] }) (cleaned kept)
  cleans-both hold kept both = record { shows = both.shows; by = both.by; changed = refl; owes = λ p. refl }

  pub stands-stamped : (new : List KeptHold) → IsSome (hold_of holds id) → Changes holds new id cleaned → HoldsStand (Did pass (call.SetDirty id lsn) reply ∷ h) new
  stands-stamped new = stands-changed _ cleaned cleans-both (λ kept. refl) id _ h holds new (holds_of-set_dirty pass id lsn reply h) stands

  pub stands-unstamped : hold_of holds id ≡ None → HoldsStand (Did pass (call.SetDirty id lsn) reply ∷ h) holds
  stands-unstamped = stands-absent _ cleaned cleans-both (λ kept. refl) id _ h holds (holds_of-set_dirty pass id lsn reply h) stands

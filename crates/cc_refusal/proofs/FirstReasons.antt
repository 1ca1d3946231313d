-- The reasons for a refusal in parts.
use Rattle.std.specs.Prelude.{◌≡◌, List, [], ◌∷◌, ◌++◌, refl}
use Rattle.std.specs.declared.option.Option.{Option}
use Rattle.std.specs.declared.option.Option.TheVariants.{Some, None}
use Rattle.std.specs.List.{AllByRecursion}
use Rattle.std.proofs.Common.{◌∙◌}
use Rattle.cc_entry.specs.declared.error.CcError.{CcError}
use Rattle.cc_entry.specs.declared.entry.Entry.{Entry}
use Rattle.cc_entry.specs.declared.call.Call.{Call}
use Rattle.cc_model.specs.Setup.{Setup}
use Rattle.cc_model.specs.History.{Effect}
use Rattle.cc_model.specs.Touches.{size_of}
use Rattle.cc_model.specs.Reasons.{beyond_size}
use Rattle.cc_model.specs.Refusals.{argument_reasons, first_of, refusal}
use Rattle.cc_refusal.specs.Reasons.{hold_reasons, view_reasons, disk_reasons}

-- two lists with the same first reason and the same others are the same
pub same_reasons : {a b : Option CcError} {xs ys : List (Option CcError)} → a ≡ b → xs ≡ ys → a ∷ xs ≡ b ∷ ys
same_reasons first rest = rw (first, rest) refl

-- the first reason of two lists is in the first one, where that has any
first_found : (xs ys : List (Option CcError)) (e : CcError) → Some e ≡ first_of xs → Some e ≡ first_of (xs ++ ys)
first_found [] ys e is = cc
first_found (None ∷ xs) ys e is = first_found xs ys e is
first_found (Some d ∷ xs) ys e is = is

-- and else in the second one
first_missed : (xs ys : List (Option CcError)) → None ≡ first_of xs → first_of ys ≡ first_of (xs ++ ys)
first_missed [] ys is = refl
first_missed (None ∷ xs) ys is = first_missed xs ys is
first_missed (Some d ∷ xs) ys is = cc

-- where there is no first reason, none holds
none_of : (xs : List (Option CcError)) → None ≡ first_of xs → AllByRecursion (λ (a : Option CcError). a ≡ None) xs
none_of [] is = tt
none_of (None ∷ xs) is = (refl, none_of xs is)
none_of (Some e ∷ xs) is = absurd (cc)

-- what no reason in the arguments refuses lies below the size
pub within_size : (u : Setup) (h : List Effect) (it : Call) → None ≡ first_of (argument_reasons u h it) → beyond_size (size_of h) it ≡ None
within_size u h it is = (none_of (argument_reasons u h it) is).1.1.1.1.1.1.0

pub refusal-argument : (u : Setup) (past : List Entry) (h : List Effect) (it : Call) (e : CcError) → Some e ≡ first_of (argument_reasons u h it) → Some e ≡ refusal u past h it
unfolding refusal
refusal-argument u past h it e is =
    first_found (argument_reasons u h it) (hold_reasons h it ++ (view_reasons past h it ++ disk_reasons h it)) e is

pub refusal-hold : (u : Setup) (past : List Entry) (h : List Effect) (it : Call) (e : CcError) → None ≡ first_of (argument_reasons u h it) → Some e ≡ first_of (hold_reasons h it) → Some e ≡ refusal u past h it
unfolding refusal
refusal-hold u past h it e none is =
    first_found (hold_reasons h it) (view_reasons past h it ++ disk_reasons h it) e is
    ∙ first_missed (argument_reasons u h it) (hold_reasons h it ++ (view_reasons past h it ++ disk_reasons h it)) none

pub refusal-use : (u : Setup) (past : List Entry) (h : List Effect) (it : Call) (e : CcError) → None ≡ first_of (argument_reasons u h it) → None ≡ first_of (hold_reasons h it) → Some e ≡ first_of (view_reasons past h it) → Some e ≡ refusal u past h it
unfolding refusal
refusal-use u past h it e none neither is =
    first_found (view_reasons past h it) (disk_reasons h it) e is
    ∙ (first_missed (hold_reasons h it) (view_reasons past h it ++ disk_reasons h it) neither
    ∙ first_missed (argument_reasons u h it) (hold_reasons h it ++ (view_reasons past h it ++ disk_reasons h it)) none)

-- where no other reason holds, those of the disk decide
pub refusal-disk : (u : Setup) (past : List Entry) (h : List Effect) (it : Call) → None ≡ first_of (argument_reasons u h it) → None ≡ first_of (hold_reasons h it) → None ≡ first_of (view_reasons past h it) → first_of (disk_reasons h it) ≡ refusal u past h it
unfolding refusal
refusal-disk u past h it none neither nor =
    first_missed (view_reasons past h it) (disk_reasons h it) nor
    ∙ (first_missed (hold_reasons h it) (view_reasons past h it ++ disk_reasons h it) neither
    ∙ first_missed (argument_reasons u h it) (hold_reasons h it ++ (view_reasons past h it ++ disk_reasons h it)) none)

-- What a pass placed last: two ways to cut a journal behind an own entry are one.
use Rattle.std.specs.Prelude.{◌≡◌, ℕ, true, false, List, [], ◌∷◌, ◌++◌}
use Rattle.std.proofs.Common.{sym}
use Rattle.cc_entry.specs.declared.entry.Entry.{Entry}
use Rattle.cc_model.specs.Passes.{is_mine}
use Rattle.cc_effects.specs.Moments.{Others}

head-same : (x y : Entry) (xs ys : List Entry) → x ∷ xs ≡ y ∷ ys → x ≡ y
head-same x y xs ys is = cc

tail-same : (x y : Entry) (xs ys : List Entry) → x ∷ xs ≡ y ∷ ys → xs ≡ ys
tail-same x y xs ys is = cc

none-both : (me : ℕ) (x y : Entry) → x ≡ y → is_mine me x ≡ false → is_mine me y ≡ true → ⊥
none-both me x y is other mine = cc

others-rest : (me : ℕ) (xs ys : List Entry) → Others me (xs ++ ys) → Others me ys
others-rest me [] ys others = others
others-rest me (x ∷ xs) ys others = others-rest me xs ys others.1

-- an own entry behind which nothing was placed stands before what others placed since a later moment
pub record StandsBefore (me : ℕ) (e : Entry) (front old : List Entry) : Type 0 where
  pub rest : List Entry
  pub is : old ≡ rest ++ e ∷ front
  pub others : Others me rest

pub before-idle : (me : ℕ) (e : Entry) (front gap old during : List Entry) → is_mine me e ≡ true → gap ++ old ≡ during ++ e ∷ front → Others me gap → Others me during → StandsBefore me e front old
before-idle me e front [] old during mine is gaps others = record { rest = during; is = is; others = others }
before-idle me e front (x ∷ gap) old [] mine is gaps others =
    absurd (none-both me x e (head-same x e (gap ++ old) front is) gaps.0 mine)
before-idle me e front (x ∷ gap) old (y ∷ during) mine is gaps others =
    before-idle me e front gap old during mine (tail-same x y (gap ++ old) (during ++ e ∷ front) is) gaps.1 others.1

-- behind an own entry it is this one
pub record IsTheSame (e f : Entry) (front other : List Entry) : Type 0 where
  pub entries : e ≡ f
  pub fronts : front ≡ other

pub last-same : (me : ℕ) (e f : Entry) (front other xs ys : List Entry) → is_mine me e ≡ true → is_mine me f ≡ true → xs ++ e ∷ front ≡ ys ++ f ∷ other → Others me xs → Others me ys → IsTheSame e f front other
last-same me e f front other [] [] mine its is first second =
    record { entries = head-same e f front other is; fronts = tail-same e f front other is }
last-same me e f front other [] (y ∷ ys) mine its is first second =
    absurd (none-both me y e (sym (head-same e y front (ys ++ f ∷ other) is)) second.0 mine)
last-same me e f front other (x ∷ xs) [] mine its is first second =
    absurd (none-both me x f (head-same x f (xs ++ e ∷ front) other is) first.0 its)
last-same me e f front other (x ∷ xs) (y ∷ ys) mine its is first second =
    last-same me e f front other xs ys mine its (tail-same x y (xs ++ e ∷ front) (ys ++ f ∷ other) is) first.1 second.1

-- Rows that grow and shrink at their end, and how many lines are a caller's.
use Rattle.std.specs.Prelude.{◌≡◌, ◌⊎◌, ℕ, zero, suc, ◌+◌, ◌<◌, ◌≤◌, ◌==◌, Bool, true, false, List, [], ◌∷◌, ◌++◌, length, slice_get, vec_len, vec_capacity, refl, if◌then◌else◌}
use Rattle.std.specs.Global.{Global}
use Rattle.std.specs.declared.vec.Vec.{Vec}
use Rattle.std.specs.declared.option.Option.TheVariants.{Some}
use Rattle.std.proofs.Common.{append_assoc, sym, ap, ◌∙◌, arith, inl, inr, ⊎_elim}
use Rattle.cc_script.specs.declared.script.ActionLine.{ActionLine}
use Rattle.cc_run.specs.Callers.{count_of_caller}

-- an item of a row that one was put behind is of the row before, or is the one
pub behind : {A : Type 0} (row : List A) (last item : A) (n : ℕ) → slice_get (row ++ last ∷ []) n ≡ Some item → (slice_get row n ≡ Some item) ⊎ ((n ≡ length row) × (last ≡ item))
behind [] last item zero at = inr (refl, cc (at))
behind [] last item (suc n) at = absurd (cc)
behind (first ∷ row) last item zero at = inl at
behind (first ∷ row) last item (suc n) at = ⊎_elim (λ there. inl there) (λ here. inr (ap suc here.0, here.1)) (behind row last item n at)

-- the items of a row are there too where more is behind it, and the next one is the first of that
pub before : {A : Type 0} (row rest : List A) (item : A) (n : ℕ) → slice_get row n ≡ Some item → slice_get (row ++ rest) n ≡ Some item
before [] rest item n at = absurd (cc)
before (first ∷ row) rest item zero at = at
before (first ∷ row) rest item (suc n) at = before row rest item n at

pub next : {A : Type 0} (row rest : List A) (item : A) → slice_get (row ++ item ∷ rest) (length row) ≡ Some item
next [] rest item = refl
next (first ∷ row) rest item = next row rest item

-- what was taken from the end of a row stands before what was taken sooner
pub taken-next : {A : Type 0} (row fewer gone whole : List A) (item : A) → row ≡ fewer ++ item ∷ [] → row ++ gone ≡ whole → fewer ++ item ∷ gone ≡ whole
taken-next row fewer gone whole item is left = sym (append_assoc fewer (item ∷ []) gone) ∙ (ap (λ r. r ++ gone) (sym is) ∙ left)

-- a row of fewer than 16 has room for one more
pub has-room : {A : Type 0} (row : Vec A Global) (number : ℕ) → 1 ≤ number → length row.items + number ≡ 16 → 16 ≤ vec_capacity row → vec_len row < vec_capacity row
has-room row number some counted room = omega (arith, row.ok.0, some, counted, room)

-- one line more
pub counted-more : (me : ℕ) (lines : List ActionLine) (line : ActionLine) → count_of_caller me (lines ++ line ∷ []) ≡ count_of_caller me lines + (if line.caller == me then 1 else 0)
counted-more me [] line = by (line.caller == me)
  where
    by : (b : Bool) → (if b then suc 0 else 0) ≡ 0 + (if b then 1 else 0)
    by true = refl
    by false = refl
counted-more me (first ∷ lines) line = by (first.caller == me) (counted-more me lines line)
  where
    by : (b : Bool) → count_of_caller me (lines ++ line ∷ []) ≡ count_of_caller me lines + (if line.caller == me then 1 else 0) → (if b then suc (count_of_caller me (lines ++ line ∷ [])) else count_of_caller me (lines ++ line ∷ [])) ≡ (if b then suc (count_of_caller me lines) else count_of_caller me lines) + (if line.caller == me then 1 else 0)
    by true rest = omega (arith, rest)
    by false rest = rest

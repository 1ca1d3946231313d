-- Choices at tests that are known, and what is told on both sides of a call.
use Rattle.std.specs.Prelude.{◌≡◌, Bool, true, false, if◌then◌else◌, refl}
use Rattle.std.proofs.Common.{subst, sym}
use Rattle.std.specs.declared.option.Option.{Option}
use Rattle.std.specs.declared.option.Option.TheVariants.{Some, None}
use Rattle.cc_traits.specs.Told.{Both, IfTold}

pub chosen : {A : Type 0} (tested : Bool) (x y : A) → tested ≡ true → (if tested then x else y) ≡ x
chosen true x y e = refl
chosen false x y e = absurd (cc)

pub passed : {A : Type 0} (tested : Bool) (x y : A) → tested ≡ false → (if tested then x else y) ≡ y
passed true x y e = absurd (cc)
passed false x y e = refl

-- a call that left what is told as it was
pub both-same : {A : Type 0} (P : A → A → Type 0) (old new : Option A) → ((a : A) → P a a) → new ≡ old → Both old new P
both-same {A} P old new each same = subst (λ (o : Option A). Both old o P) (sym same) (itself P old each)
  where
    itself : {A : Type 0} (P : A → A → Type 0) (old : Option A) → ((a : A) → P a a) → Both old old P
    itself P None each = tt
    itself P (Some a) each = each a

-- one call behind another
pub both-then : {A : Type 0} (P Q R : A → A → Type 0) (old now next : Option A) → ((o n x : A) → P o n → Q n x → R o x) →
    Both old now P → Both now next Q → Both old next R
both-then P Q R None None None joined p q = tt
both-then P Q R None None (Some x) joined p q = absurd q
both-then P Q R None (Some n) next joined p q = absurd p
both-then P Q R (Some o) None next joined p q = absurd p
both-then P Q R (Some o) (Some n) None joined p q = absurd q
both-then P Q R (Some o) (Some n) (Some x) joined p q = joined o n x p q

-- what follows from one fact, and from two
pub both-map : {A : Type 0} (P Q : A → A → Type 0) (old new : Option A) → ((o n : A) → P o n → Q o n) → Both old new P → Both old new Q
both-map P Q None None each p = tt
both-map P Q None (Some n) each p = absurd p
both-map P Q (Some o) None each p = absurd p
both-map P Q (Some o) (Some n) each p = each o n p

pub both-with : {A : Type 0} (P Q R : A → A → Type 0) (old new : Option A) → ((o n : A) → P o n → Q o n → R o n) →
    Both old new P → Both old new Q → Both old new R
both-with P Q R None None each p q = tt
both-with P Q R None (Some n) each p q = absurd p
both-with P Q R (Some o) None each p q = absurd p
both-with P Q R (Some o) (Some n) each p q = each o n p q

-- what is told behind a call
pub told-behind : {A : Type 0} (P : A → A → Type 0) (F : A → Type 0) (old new : Option A) → ((o n : A) → P o n → F n) → Both old new P → IfTold new F
told-behind P F None None each p = tt
told-behind P F None (Some n) each p = absurd p
told-behind P F (Some o) None each p = absurd p
told-behind P F (Some o) (Some n) each p = each o n p

pub both-if : {A : Type 0} (F : A → Type 0) (P Q : A → A → Type 0) (old new : Option A) → ((o n : A) → F o → P o n → Q o n) →
    IfTold old F → Both old new P → Both old new Q
both-if F P Q None None each f p = tt
both-if F P Q None (Some n) each f p = absurd p
both-if F P Q (Some o) None each f p = absurd p
both-if F P Q (Some o) (Some n) each f p = each o n f p

-- Stretches in which each entry of a pass is so: they join, and what others place beside them changes nothing of that.
use Rattle.std.specs.Prelude.{ℕ, List, [], ◌∷◌, ◌++◌, refl}
use Rattle.std.proofs.Common.{ap, sym, subst, ◌∙◌, append_assoc}
use Rattle.cc_entry.specs.declared.entry.Entry.{Entry}
use Rattle.cc_effects.specs.Moments.{EachOwn, Others, IsIdle, PlacedOnly}
use Rattle.cc_effects.specs.Asked.{Work}
use Rattle.cc_effects.specs.Places.{MayPlace, Works}
use Rattle.cc_effects.proofs.Stretches.{each-append, each-implies, each-others}
use Rattle.cc_refused_laws.specs.Changed.{EachIs}

pub is-then : (me : ℕ) (Is : List Entry → Entry → Type 0) (old between new : List Entry) → EachIs me Is old between → EachIs me Is between new → EachIs me Is old new
is-then me Is old between new first second = record {
  during = second.during ++ first.during;
  grew = second.grew ∙ (ap (λ (l : List Entry). second.during ++ l) first.grew ∙ sym (append_assoc second.during first.during old));
  each = each-append me Is second.during first.during old (subst (λ (l : List Entry). EachOwn me Is second.during l) first.grew second.each) first.each;
}

pub is-implies : (me : ℕ) (Is Was : List Entry → Entry → Type 0) → ((past : List Entry) (e : Entry) → Is past e → Was past e) → (old new : List Entry) → EachIs me Is old new → EachIs me Was old new
is-implies me Is Was implies old new is = record { during = is.during; grew = is.grew; each = each-implies me Is Was implies is.during old is.each }

pub is-others : (me : ℕ) (Is : List Entry → Entry → Type 0) (later past : List Entry) → Others me later → EachIs me Is past (later ++ past)
is-others me Is later past others = record { during = later; grew = refl; each = each-others me Is later past others }

pub is-idle : (me : ℕ) (Is : List Entry → Entry → Type 0) (old new : List Entry) → IsIdle me old new → EachIs me Is old new
is-idle me Is old new idle = record { during = idle.during; grew = idle.grew; each = each-others me Is idle.during old idle.others }

pub is-entry : (me : ℕ) (Is : List Entry → Entry → Type 0) (e : Entry) (past : List Entry) → Is past e → EachIs me Is past (e ∷ past)
is-entry me Is e past this = record { during = e ∷ []; grew = refl; each = ((λ mine. this), tt) }

pub is-only : (me : ℕ) (Is : List Entry → Entry → Type 0) (e : Entry) (old new : List Entry) → PlacedOnly me e old new → ((past : List Entry) → Is past e) → EachIs me Is old new
is-only me Is e old new only this =
    subst (λ (l : List Entry). EachIs me Is old l) (sym only.grew)
    (is-then me Is old (e ∷ (only.earlier ++ old)) (only.later ++ e ∷ (only.earlier ++ old))
    (is-then me Is old (only.earlier ++ old) (e ∷ (only.earlier ++ old)) (is-others me Is only.earlier old only.quiet_before) (is-entry me Is e (only.earlier ++ old) (this (only.earlier ++ old))))
    (is-others me Is only.later (e ∷ (only.earlier ++ old)) only.quiet_after))

-- what a pass placed for something that was under way
pub is-works : (me : ℕ) (Is : List Entry → Entry → Type 0) (work : Work) (during old : List Entry) → ((past : List Entry) (e : Entry) → MayPlace me work old past e → Is past e) → Works me work during old → EachIs me Is old (during ++ old)
is-works me Is work during old steps works = record { during = during; grew = refl; each = each-implies me (MayPlace me work old) Is steps during old works.each }

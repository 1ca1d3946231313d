-- Last places, and places since which something holds.
use Rattle.std.specs.Prelude.{◌≡◌, Bool, true, false, not, ◌&&◌, ◌||◌, ◌⊎◌, ◌↔◌, List, [], ◌∷◌, ◌++◌, refl}
use Rattle.std.proofs.Common.{ap, sym, subst, ◌∙◌, append-nil, inl, inr}
use Rattle.std.proofs.lemmas.Bool.{or_parts, or_from, or_left, or_right}
use Rattle.cc_model.specs.History.{Effect}
use Rattle.cc_laws.specs.ByPlaces.{some_effect, LastPlace, SincePlace}

module _ (test : Effect → List Effect → Bool) where
  -- a test of the whole history, over nothing
  pub some-first : (e : Effect) (h : List Effect) → some_effect test (e ∷ h) [] ≡ (test e h || some_effect test h [])
  some-first e h = ap (λ (g : List Effect). test e g || some_effect test h []) (append-nil h)

  last-later : (e : Effect) (h : List Effect) → test e h ≡ false → LastPlace test h → LastPlace test (e ∷ h)
  last-later e h past k =
      record {
        later = e ∷ k.later;
        effect = k.effect;
        before = k.before;
        passes = k.passes;
        places = ap (λ (g : List Effect). e ∷ g) k.places;
        last = or_from _ _ (subst (λ (g : List Effect). test e g ≡ false) k.places past) k.last;
      }

  pub last-place : (h : List Effect) → some_effect test h [] ≡ true → LastPlace test h
  last-place [] is = absurd (cc)
  last-place (e ∷ h) is = go (test e h) refl (sym (some-first e h) ∙ is) (last-place h)
    where
      go : (b : Bool) → test e h ≡ b → (test e h || some_effect test h []) ≡ true → (some_effect test h [] ≡ true → LastPlace test h) → LastPlace test (e ∷ h)
      go true passes it rest = record { later = []; effect = e; before = h; places = refl; passes = passes; last = refl }
      go false past it rest = last-later e h past (rest (other (test e h) _ past it))
        where
          other : (a b : Bool) → a ≡ false → (a || b) ≡ true → b ≡ true
          other true b is either = absurd (cc)
          other false b is either = either

  pub last-or-none : (h : List Effect) → LastPlace test h ⊎ (some_effect test h [] ≡ false)
  last-or-none h = go (some_effect test h []) refl
    where
      go : (b : Bool) → some_effect test h [] ≡ b → LastPlace test h ⊎ (some_effect test h [] ≡ false)
      go true is = inl (last-place h is)
      go false is = inr is

-- something that an effect brings about or takes away holds since a place
module _ (holds : List Effect → Bool) (brings takes : Effect → List Effect → Bool) (at_first : holds [] ≡ false) (step : (e : Effect) (h : List Effect) → holds (e ∷ h) ≡ (brings e h || (not (takes e h) && holds h))) where
  since-later : (e : Effect) (h : List Effect) → takes e h ≡ false → SincePlace brings takes h → SincePlace brings takes (e ∷ h)
  since-later e h kept k =
      record {
        later = e ∷ k.later;
        effect = k.effect;
        before = k.before;
        brings_it = k.brings_it;
        places = ap (λ (g : List Effect). e ∷ g) k.places;
        kept = or_from _ _ (subst (λ (g : List Effect). takes e g ≡ false) k.places kept) k.kept;
      }

  pub since-holds : (h : List Effect) → holds h ≡ true → SincePlace brings takes h
  since-holds [] is = absurd (cc (at_first, is))
  since-holds (e ∷ h) is = go (brings e h) (takes e h) refl refl (sym (step e h) ∙ is) (since-holds h)
    where
      go : (a b : Bool) → brings e h ≡ a → takes e h ≡ b → (brings e h || (not (takes e h) && holds h)) ≡ true → (holds h ≡ true → SincePlace brings takes h) → SincePlace brings takes (e ∷ h)
      go true b new away it rest = record { later = []; effect = e; before = h; places = refl; brings_it = new; kept = refl }
      go false true old away it rest = absurd (none (brings e h) (takes e h) (holds h) old away it)
        where
          none : (a b c : Bool) → a ≡ false → b ≡ true → (a || (not b && c)) ≡ true → ⊥
          none true b c x y z = absurd (cc)
          none false false c x y z = absurd (cc)
          none false true c x y z = absurd (cc)
      go false false old kept it rest = since-later e h kept (rest (before (brings e h) (takes e h) (holds h) old kept it))
        where
          before : (a b c : Bool) → a ≡ false → b ≡ false → (a || (not b && c)) ≡ true → c ≡ true
          before true b c x y z = absurd (cc)
          before false true c x y z = absurd (cc)
          before false false c x y z = z

  holds-at : (later : List Effect) (e : Effect) (before : List Effect) → brings e before ≡ true → some_effect takes later (e ∷ before) ≡ false → holds (later ++ e ∷ before) ≡ true
  holds-at [] e before new kept = step e before ∙ or_left (brings e before) _ new
  holds-at (x ∷ later) e before new kept =
      let k = or_parts (takes x (later ++ e ∷ before)) _ kept in
      step x (later ++ e ∷ before) ∙ or_right (brings x (later ++ e ∷ before)) _ (both _ _ k.0 (holds-at later e before new k.1))
    where
      both : (a b : Bool) → a ≡ false → b ≡ true → (not a && b) ≡ true
      both true b x y = absurd (cc)
      both false b x y = y

  pub since-place : (h : List Effect) → (holds h ≡ true) ↔ SincePlace brings takes h
  since-place h = (since-holds h, at_place)
    where
      at_place : SincePlace brings takes h → holds h ≡ true
      at_place k = ap holds k.places ∙ holds-at k.later k.effect k.before k.brings_it k.kept

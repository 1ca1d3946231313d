-- The newest hold that a word names, as it is looked up, is that which is found among all that were named.
use Rattle.std.specs.Prelude.{◌≡◌, ℕ, ◌≤◌, nat_eq, ◌&&◌, cond, Bool, true, false, List, [], ◌∷◌, map, refl}
use Rattle.std.specs.declared.option.Option.{Option}
use Rattle.std.specs.List.{find}
use Rattle.std.specs.Option.{option_map}
use Rattle.std.proofs.Common.{ap, arith, sym, ◌∙◌}
use Rattle.std.proofs.lemmas.Bool.{eq-eqb, eqb-true}
use Rattle.std.proofs.lemmas.List.{length-map}
use Rattle.cc_event_lines.specs.Names.{AreNewest, HoldsByWord, Renames, is_named_by, newest_in, pinned, pinned_by}
use Rattle.cc_event_lines.specs.declared.names.NamedHold.{NamedHold}

-- two callers and words that are the same
both-same : (c w me word : ℕ) → nat_eq c me && nat_eq w word ≡ true → (c ≡ me) × (w ≡ word)
both-same c w me word is = by (nat_eq c me) (nat_eq w word) refl refl is
  where
    by : (p q : Bool) → nat_eq c me ≡ p → nat_eq w word ≡ q → p && q ≡ true → (c ≡ me) × (w ≡ word)
    by true true own same is = (eqb-true c me own, eqb-true w word same)
    by true false own same is = absurd (cc)
    by false q own same is = absurd (cc)

-- what is named is found as a pin where it is the word's own
pinned-own : (me word : ℕ) (named : List NamedHold) → find (is_named_by me word) (map (pinned_by me word) named) ≡ option_map pinned (find (is_named_by me word) named)
pinned-own me word [] = refl
pinned-own me word (n ∷ named) = by (is_named_by me word n) refl (pinned-own me word named)
  where
    by : (b : Bool) → is_named_by me word n ≡ b → find (is_named_by me word) (map (pinned_by me word) named) ≡ option_map pinned (find (is_named_by me word) named) → find (is_named_by me word) (map (pinned_by me word) (n ∷ named)) ≡ option_map pinned (find (is_named_by me word) (n ∷ named))
    by true is rest = rw (is, is) refl
    by false is rest = rw (is, is) rest

-- and as it was where it is another's
pinned-other : (c w me word : ℕ) (named : List NamedHold) → nat_eq c me && nat_eq w word ≡ false → find (is_named_by me word) (map (pinned_by c w) named) ≡ find (is_named_by me word) named
pinned-other c w me word [] apart = refl
pinned-other c w me word (n ∷ named) apart = by (is_named_by c w n) (is_named_by me word n) refl refl (pinned-other c w me word named apart)
  where
    unlike : is_named_by c w n ≡ true → is_named_by me word n ≡ true → nat_eq c me && nat_eq w word ≡ true
    unlike one other =
        let p = both-same n.caller n.word c w one in
        let q = both-same n.caller n.word me word other in
        rw (eq-eqb c me (sym p.0 ∙ q.0), eq-eqb w word (sym p.1 ∙ q.1)) refl

    by : (p q : Bool) → is_named_by c w n ≡ p → is_named_by me word n ≡ q → find (is_named_by me word) (map (pinned_by c w) named) ≡ find (is_named_by me word) named → find (is_named_by me word) (map (pinned_by c w) (n ∷ named)) ≡ find (is_named_by me word) (n ∷ named)
    by true true is own rest = absurd (let met = unlike is own in cc)
    by true false is own rest = rw (is, own) rest
    by false true is own rest = rw (is, own) refl
    by false false is own rest = rw (is, own) rest

-- what a word names is a pin
pub newest-pinned : (named : List NamedHold) (room spare left c w : ℕ) (old new : HoldsByWord) → AreNewest named room old spare → Renames old new c w (option_map pinned (newest_in old c w)) → spare ≤ left → AreNewest (map (pinned_by c w) named) room new left
newest-pinned named room spare left c w old new stood renamed fits = record {
  found = λ me word. renamed me word ∙ by me word (nat_eq c me && nat_eq w word) refl;
  enough = let e = stood.enough in let l = length-map named (pinned_by c w) in omega (arith, e, fits, l);
}
  where
    by : (me word : ℕ) (b : Bool) → nat_eq c me && nat_eq w word ≡ b → cond (nat_eq c me && nat_eq w word) (option_map pinned (newest_in old c w)) (newest_in old me word) ≡ find (is_named_by me word) (map (pinned_by c w) named)
    by me word true is =
        let same = both-same c w me word is in
        rw is (ap (option_map pinned) (stood.found c w) ∙ (sym (pinned-own c w named) ∙ (ap (λ (m : ℕ). find (is_named_by m w) (map (pinned_by c w) named)) same.0 ∙ ap (λ (m : ℕ). find (is_named_by me m) (map (pinned_by c w) named)) same.1)))
    by me word false is = rw is (stood.found me word ∙ sym (pinned-other c w me word named is))

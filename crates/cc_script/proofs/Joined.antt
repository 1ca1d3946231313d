-- The lines, joined by line feeds, are the bytes.
use Rattle.std.proofs.Common.{◌≡◌, ℕ, ◌==◌, Bool, true, false, not, ◌&&◌, IsTrue, List, [], ◌∷◌, ◌++◌, ◌⊎◌, inl, inr, length, refl, ap, sym, ◌∙◌, append_assoc, arith}
use Rattle.std.specs.List.{onto_first, join_with_byte, list_all}
use Rattle.std.proofs.lemmas.List.{nil_from_length}
use Rattle.std.proofs.lemmas.List.Splits.{join_with_byte-slice_split}
use Rattle.std.proofs.lemmas.Bool.Decides.{nat_tests}
use Rattle.cc_script.specs.Text.{parts, without_empty_end, lines}

-- parts without an empty last one are the same, or lack just the separator before it
joined_end : (ps : List (List ℕ)) → (join_with_byte 10 (without_empty_end ps) ≡ join_with_byte 10 ps) ⊎ (join_with_byte 10 (without_empty_end ps) ++ 10 ∷ [] ≡ join_with_byte 10 ps)
joined_end [] = inl refl
joined_end (x ∷ []) = either (length x == 0) refl
  where
    either : (t : Bool) → (length x == 0) ≡ t → (join_with_byte 10 (without_empty_end (x ∷ [])) ≡ x) ⊎ (join_with_byte 10 (without_empty_end (x ∷ [])) ++ 10 ∷ [] ≡ x)
    either true e =
        let z : length x ≡ 0 = grind (arith, nat_tests) in
        let none : x ≡ [] = nil_from_length x z in inl (simp e (sym none))
    either false e = inl (simp e)
joined_end (x ∷ y ∷ []) = either (length y == 0) refl
  where
    either : (t : Bool) → (length y == 0) ≡ t → (join_with_byte 10 (without_empty_end (x ∷ y ∷ [])) ≡ x ++ (10 ∷ y)) ⊎ (join_with_byte 10 (without_empty_end (x ∷ y ∷ [])) ++ 10 ∷ [] ≡ x ++ (10 ∷ y))
    either true e =
        let z : length y ≡ 0 = grind (arith, nat_tests) in
        let none : y ≡ [] = nil_from_length y z in inr (simp e (ap (λ (t : List ℕ). x ++ (10 ∷ t)) (sym none)))
    either false e = inl (simp e)
joined_end (x ∷ y ∷ z ∷ zs) =
    elim (joined_end (y ∷ z ∷ zs)) [
      | inl e ↦ inl (ap (λ (t : List ℕ). x ++ (10 ∷ t)) e)
      | inr e ↦ inr (append_assoc x (10 ∷ join_with_byte 10 (without_empty_end (y ∷ z ∷ zs))) (10 ∷ []) ∙ ap (λ (t : List ℕ). x ++ (10 ∷ t)) e)
    ]

pub lines_join : (bytes : List ℕ) → (join_with_byte 10 (lines bytes) ≡ bytes) ⊎ (join_with_byte 10 (lines bytes) ++ 10 ∷ [] ≡ bytes)
unfolding lines
lines_join bytes =
    let whole : join_with_byte 10 (parts 10 bytes) ≡ bytes = join_with_byte-slice_split 10 bytes in
    elim (joined_end (parts 10 bytes)) [ inl e ↦ inl (e ∙ whole) | inr e ↦ inr (e ∙ whole) ]

-- no part has the separator inside
abbrev lacks : ℕ → List ℕ → Bool
lacks c line = list_all (λ b. not (b == c)) line

onto_lacks : (c x : ℕ) (ps : List (List ℕ)) → (x == c) ≡ false → list_all (lacks c) ps ≡ true → list_all (lacks c) (onto_first x ps) ≡ true
onto_lacks c x [] e h = simp e
onto_lacks c x (p ∷ ps) e h = simp e h

parts_lack : (c : ℕ) (bytes : List ℕ) → list_all (lacks c) (parts c bytes) ≡ true
parts_lack c [] = refl
parts_lack c (b ∷ bytes) = either (b == c) refl (parts_lack c bytes)
  where
    either : (t : Bool) → (b == c) ≡ t → list_all (lacks c) (parts c bytes) ≡ true → list_all (lacks c) (parts c (b ∷ bytes)) ≡ true
    either true e h = simp e h
    either false e h = simp e (onto_lacks c b (parts c bytes) e h)

end_lacks : (ps : List (List ℕ)) → list_all (lacks 10) ps ≡ true → list_all (lacks 10) (without_empty_end ps) ≡ true
end_lacks [] h = refl
end_lacks (x ∷ []) h = either (length x == 0) refl
  where
    either : (t : Bool) → (length x == 0) ≡ t → list_all (lacks 10) (without_empty_end (x ∷ [])) ≡ true
    either true e = simp e
    either false e = simp e h
end_lacks (x ∷ y ∷ more) h = both (lacks 10 x) refl h (end_lacks (y ∷ more))
  where
    both : (t : Bool) → lacks 10 x ≡ t → (t && list_all (lacks 10) (y ∷ more)) ≡ true → (list_all (lacks 10) (y ∷ more) ≡ true → list_all (lacks 10) (without_empty_end (y ∷ more)) ≡ true) → list_all (lacks 10) (without_empty_end (x ∷ y ∷ more)) ≡ true
    both true e g more_lack = simp e (more_lack g)
    both false e g more_lack = absurd (cc)

pub lines_whole : (bytes : List ℕ) → IsTrue (list_all (λ line. list_all (λ b. not (b == 10)) line) (lines bytes))
unfolding lines
lines_whole bytes = end_lacks (parts 10 bytes) (parts_lack 10 bytes)

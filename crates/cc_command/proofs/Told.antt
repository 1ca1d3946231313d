-- What sources and sinks tell, over several calls.
use Rattle.std.proofs.Common.{◌≡◌, ℕ, List, [], ◌++◌, append-nil, append_assoc, refl, sym, ◌∙◌, ap, Option, Some, None}
use Rattle.cc_traits.specs.Told.{Both, IfTold, Gave, SinkTook}
use Rattle.cc_command.specs.Taken.{TookPart}

-- these bytes were given
abbrev pub HasGiven : List ℕ → Option (List ℕ) → Option (List ℕ) → Type 0
HasGiven bytes left rest = Both left rest (Gave bytes)

pub given-none : (a : Option (List ℕ)) → HasGiven [] a a
given-none None = tt
given-none (Some left) = refl

pub given-more : (bytes more : List ℕ) (a b c : Option (List ℕ)) → HasGiven bytes a b → Both b c (Gave more) → HasGiven (bytes ++ more) a c
given-more bytes more None None None first second = tt
given-more bytes more None None (Some c) first second = absurd second
given-more bytes more None (Some b) c first second = absurd first
given-more bytes more (Some a) None c first second = absurd first
given-more bytes more (Some a) (Some b) None first second = absurd second
given-more bytes more (Some a) (Some b) (Some c) first second =
    first ∙ (ap (λ l. bytes ++ l) second ∙ sym (append_assoc bytes more c))

-- at the end, what was given is all
pub given-all : (bytes : List ℕ) (a b : Option (List ℕ)) → HasGiven bytes a b → IfTold b (λ rest. rest ≡ []) → IfTold a (λ left. bytes ≡ left)
given-all bytes None b given end = tt
given-all bytes (Some a) None given end = absurd given
given-all bytes (Some a) (Some b) given end = sym (given ∙ (ap (λ l. bytes ++ l) end ∙ append-nil bytes))

-- at the end, a source that tells nothing, or no byte, stays so
pub end-stays : (b c : Option (List ℕ)) → Both b c (Gave []) → IfTold b (λ rest. rest ≡ []) → IfTold c (λ rest. rest ≡ [])
end-stays None None same end = tt
end-stays None (Some c) same end = absurd same
end-stays (Some b) None same end = absurd same
end-stays (Some b) (Some c) same end = sym same ∙ end

-- the front of a text up to the rest was taken
abbrev pub HasTaken : List ℕ → List ℕ → Option (List ℕ) → Option (List ℕ) → Type 0
HasTaken text rest old new = Both old new (λ before after. (part : List ℕ) × (text ≡ part ++ rest) × (after ≡ before ++ part))

pub taken-none : (text : List ℕ) (a : Option (List ℕ)) → HasTaken text text a a
taken-none text None = tt
taken-none text (Some a) = ([], refl, sym (append-nil a))

pub taken-more : (text rest front more : List ℕ) (a b c : Option (List ℕ)) → HasTaken text rest a b → Both b c (SinkTook front) → rest ≡ front ++ more → HasTaken text more a c
taken-more text rest front more None None None first second is = tt
taken-more text rest front more None None (Some c) first second is = absurd second
taken-more text rest front more None (Some b) c first second is = absurd first
taken-more text rest front more (Some a) None c first second is = absurd first
taken-more text rest front more (Some a) (Some b) None first second is = absurd second
taken-more text rest front more (Some a) (Some b) (Some c) first second is = (
  first.0 ++ front,
  first.1 ∙ (ap (λ l. first.0 ++ l) is ∙ sym (append_assoc first.0 front more)),
  second ∙ (ap (λ l. l ++ front) first.2 ∙ append_assoc a first.0 front),
)

pub taken-part : (text rest : List ℕ) (a b : Option (List ℕ)) → HasTaken text rest a b → Both a b (TookPart text)
taken-part text rest None None taken = tt
taken-part text rest None (Some b) taken = absurd taken
taken-part text rest (Some a) None taken = absurd taken
taken-part text rest (Some a) (Some b) taken = record { part = taken.0; rest = rest; text_is = taken.1; taken = taken.2 }

pub taken-whole : (text rest : List ℕ) (a b : Option (List ℕ)) → HasTaken text rest a b → rest ≡ [] → Both a b (SinkTook text)
taken-whole text rest None None taken none = tt
taken-whole text rest None (Some b) taken none = absurd taken
taken-whole text rest (Some a) None taken none = absurd taken
taken-whole text rest (Some a) (Some b) taken none =
    let whole : text ≡ taken.0 = taken.1 ∙ (ap (λ l. taken.0 ++ l) none ∙ append-nil taken.0) in
    taken.2 ∙ ap (λ l. a ++ l) (sym whole)

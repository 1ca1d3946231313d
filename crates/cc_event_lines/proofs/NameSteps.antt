-- What is kept of the callers' words is the bindings of each caller: a word is looked up as its binding is, and follows a
-- line as the bindings do.
use Rattle.std.specs.Prelude.{◌≡◌, ℕ, ◌==◌, Bool, true, false, List, [], ◌∷◌, map, refl, reverse, if◌then◌else◌}
use Rattle.std.specs.declared.option.Option.{Option}
use Rattle.std.specs.declared.option.Option.TheVariants.{Some, None}
use Rattle.std.specs.List.{find}
use Rattle.std.specs.Option.{option_map}
use Rattle.std.proofs.Common.{ap, arith, subst, sym, ◌∙◌}
use Rattle.std.proofs.lemmas.Bool.{eqb-true}
use Rattle.std.proofs.lemmas.Bool.Decides.{nat_tests}
use Rattle.cc_entry.specs.declared.answer.Answer.{Answer}
use Rattle.cc_entry.specs.declared.answer.Answer.TheVariants as answer
use Rattle.cc_entry.specs.declared.hold.HoldKind.{HoldKind}
use Rattle.cc_entry.specs.declared.hold.HoldKind.TheVariants as kind
use Rattle.cc_entry.specs.declared.reply.Reply.TheVariants as reply
use Rattle.cc_script.specs.declared.script.Action.{Action}
use Rattle.cc_script.specs.declared.script.Action.TheVariants as action
use Rattle.cc_script.specs.declared.script.ActionLine.{ActionLine}
use Rattle.cc_pieces.specs.Bindings.{Binding, bound, hold_named, id_if, bindings_pinned, pinned_if}
use Rattle.cc_pieces.specs.Served.{bindings_after}
use Rattle.cc_pieces.specs.Steps.{bindings_behind}
use Rattle.cc_event_lines.specs.Names.{bindings_in, hold_told, id_of_named, is_named_by, named_behind, pinned_by, with_made, word_made, word_pinned}
use Rattle.cc_event_lines.specs.declared.names.NamedHold.{NamedHold}

abbrev binding_of : NamedHold → Binding
binding_of n = record { word = n.word; id = n.id; kind = n.kind }

-- the binding that a caller finds is that of the hold that is found
found : (me word : ℕ) (named : List NamedHold) → find (λ b. b.word == word) (bindings_in named me) ≡ option_map binding_of (find (is_named_by me word) named)
found me word [] = refl
found me word (n ∷ named) = by (n.caller == me) (n.word == word) refl refl (found me word named)
  where
    by : (own same : Bool) → (n.caller == me) ≡ own → (n.word == word) ≡ same → find (λ b. b.word == word) (bindings_in named me) ≡ option_map binding_of (find (is_named_by me word) named) → find (λ b. b.word == word) (bindings_in (n ∷ named) me) ≡ option_map binding_of (find (is_named_by me word) (n ∷ named))
    by true true p q rest = rw (p, q) refl
    by true false p q rest = rw (p, q) rest
    by false same p q rest = rw p rest

pub hold-found : (me word : ℕ) (of_kind : HoldKind → Bool) (named : List NamedHold) → hold_named (bindings_in named me) word of_kind ≡ id_of_named of_kind (find (is_named_by me word) named)
hold-found me word of_kind named = ap (λ o. id_if of_kind o) (found me word named) ∙ by (find (is_named_by me word) named)
  where
    by : (o : Option NamedHold) → id_if of_kind (option_map binding_of o) ≡ id_of_named of_kind o
    by None = refl
    by (Some n) = refl

-- a map that is pinned, of the caller itself and of another
pinned-own : (me word : ℕ) (named : List NamedHold) → bindings_in (map (pinned_by me word) named) me ≡ map (pinned_if word) (bindings_in named me)
pinned-own me word [] = refl
pinned-own me word (n ∷ named) = by (n.caller == me) (n.word == word) refl refl (pinned-own me word named)
  where
    by : (own same : Bool) → (n.caller == me) ≡ own → (n.word == word) ≡ same → bindings_in (map (pinned_by me word) named) me ≡ map (pinned_if word) (bindings_in named me) → bindings_in (map (pinned_by me word) (n ∷ named)) me ≡ map (pinned_if word) (bindings_in (n ∷ named) me)
    by true true p q rest = rw (p, q, p) (ap (λ (bs : List Binding). record { word = n.word; id = n.id; kind = kind.Pin } ∷ bs) rest)
    by true false p q rest = rw (p, q, p) (ap (λ (bs : List Binding). record { word = n.word; id = n.id; kind = n.kind } ∷ bs) rest)
    by false same p q rest = rw (p, p) rest

-- Whether it is the caller's own word is told from its caller.
unlike : (c me own : ℕ) → (c == me) ≡ false → (own == me) ≡ true → (own == c) ≡ false
unlike c me own apart is = grind (arith, nat_tests)

pinned-other : (c word me : ℕ) (named : List NamedHold) → (c == me) ≡ false → bindings_in (map (pinned_by c word) named) me ≡ bindings_in named me
pinned-other c word me [] apart = refl
pinned-other c word me (n ∷ named) apart = by (n.caller == me) refl (pinned-other c word me named apart)
  where
    kept : (t : Bool) → (n.caller == me) ≡ false → bindings_in ((if t then record n { kind = kind.Pin } else n) ∷ map (pinned_by c word) named) me ≡ bindings_in (map (pinned_by c word) named) me
    kept true p = rw p refl
    kept false p = rw p refl

    by : (own : Bool) → (n.caller == me) ≡ own → bindings_in (map (pinned_by c word) named) me ≡ bindings_in named me → bindings_in (map (pinned_by c word) (n ∷ named)) me ≡ bindings_in (n ∷ named) me
    by true p rest =
        let q : (n.caller == c) ≡ false = unlike c me n.caller apart p in
        rw (q, p) (ap (λ (bs : List Binding). record { word = n.word; id = n.id; kind = n.kind } ∷ bs) rest)
    by false p rest = kept (is_named_by c word n) p ∙ (rest ∙ sym (rw p refl))

-- what a line leaves of its caller's bindings, by the word that it binds or whose map it pins
abbrev after_made : Option (ℕ × HoldKind) → Option ℕ → Answer → List Binding → List Binding
after_made (Some made) pins told bindings = bound made.0 made.1 told bindings
after_made None (Some word) told bindings = bindings_pinned word told bindings
after_made None None told bindings = bindings

same-after : (asked : Action) (told : Answer) (bindings : List Binding) → bindings_after asked told bindings ≡ after_made (word_made asked) (word_pinned asked) told bindings
same-after (action.Initialise file sizes quota temporary) told bindings = refl
same-after other told bindings = refl

-- a line that was answered no hold leaves them as they are
unheld : (made : Option (ℕ × HoldKind)) (pins : Option ℕ) (told : Answer) (bindings : List Binding) → hold_told told ≡ None → after_made made pins told bindings ≡ bindings
unheld None None told bindings none = refl
unheld None (Some word) (answer.Given (reply.Hold id)) bindings none = absurd (cc)
unheld None (Some word) other bindings none = refl
unheld (Some made) pins (answer.Given (reply.Hold id)) bindings none = absurd (cc)
unheld (Some made) pins other bindings none = refl

held-told : (told : Answer) (id : ℕ) → hold_told told ≡ Some id → told ≡ answer.Given (reply.Hold id)
held-told (answer.Given (reply.Hold own)) id is =
    let same : own ≡ id = cc in
    ap (λ (n : ℕ). answer.Given (reply.Hold n)) same
held-told other id is = absurd (cc)

made-behind : (c me : ℕ) (made : Option (ℕ × HoldKind)) (pins : Option ℕ) (id : ℕ) (named : List NamedHold) → bindings_in (with_made c made pins id named) me ≡ (if c == me then after_made made pins (answer.Given (reply.Hold id)) (bindings_in named me) else bindings_in named me)
made-behind c me (Some made) pins id named = refl
made-behind c me None (Some word) id named = by (c == me) refl
  where
    by : (own : Bool) → (c == me) ≡ own → bindings_in (map (pinned_by c word) named) me ≡ (if c == me then map (pinned_if word) (bindings_in named me) else bindings_in named me)
    by true p = rw p (subst (λ (m : ℕ). bindings_in (map (pinned_by m word) named) me ≡ map (pinned_if word) (bindings_in named me)) (sym (eqb-true c me p)) (pinned-own me word named))
    by false p = rw p (pinned-other c word me named p)
made-behind c me None None id named = by (c == me)
  where
    by : (own : Bool) → bindings_in named me ≡ (if own then bindings_in named me else bindings_in named me)
    by true = refl
    by false = refl

-- the bindings of each caller behind a line
pub named-follow : (line : ActionLine) (told : Answer) (named : List NamedHold) (me : ℕ) → bindings_in (named_behind line (hold_told told) named) me ≡ bindings_behind line told (bindings_in named) me
named-follow line told named me = by (hold_told told) refl
  where
    same : (own : Bool) → bindings_in named me ≡ (if own then bindings_in named me else bindings_in named me)
    same true = refl
    same false = refl

    by : (o : Option ℕ) → hold_told told ≡ o → bindings_in (named_behind line o named) me ≡ bindings_behind line told (bindings_in named) me
    by None is =
        let after : bindings_after line.action told (bindings_in named me) ≡ bindings_in named me =
        same-after line.action told (bindings_in named me) ∙ unheld (word_made line.action) (word_pinned line.action) told (bindings_in named me) is in
        rw after (same (line.caller == me))
    by (Some id) is =
        let after : bindings_after line.action told (bindings_in named me) ≡ after_made (word_made line.action) (word_pinned line.action) (answer.Given (reply.Hold id)) (bindings_in named me) =
        same-after line.action told (bindings_in named me) ∙ ap (λ (t : Answer). after_made (word_made line.action) (word_pinned line.action) t (bindings_in named me)) (held-told told id is) in
        rw after (made-behind line.caller me (word_made line.action) (word_pinned line.action) id named)

-- a look-up of the newest hold that a word names
pub looked-up : (me word : ℕ) (of_kind : HoldKind → Bool) (named : List NamedHold) (o : Option NamedHold) (number : ℕ) → o ≡ find (is_named_by me number) named → number ≡ word → hold_named (bindings_in named me) word of_kind ≡ id_of_named of_kind o
looked-up me word of_kind named o number found same-word =
    hold-found me word of_kind named
    ∙ ap (id_of_named of_kind) (ap (λ (n : ℕ). find (is_named_by me n) named) (sym same-word) ∙ sym found)

pub id-kept : (of_kind : HoldKind → Bool) (n : NamedHold) → of_kind n.kind ≡ true → id_of_named of_kind (Some n) ≡ Some n.id
id-kept of_kind n serves = rw serves refl

pub id-lost : (of_kind : HoldKind → Bool) (n : NamedHold) → of_kind n.kind ≡ false → id_of_named of_kind (Some n) ≡ None
id-lost of_kind n serves = rw serves refl

-- behind a line whose map is pinned
pub pinned-behind : (line : ActionLine) (o : Option ℕ) (id word : ℕ) (named : List NamedHold) → o ≡ Some id → word_made line.action ≡ None → word_pinned line.action ≡ Some word → map (pinned_by line.caller word) named ≡ named_behind line o named
pinned-behind line o id word named told made pins = rw (told, made, pins) refl

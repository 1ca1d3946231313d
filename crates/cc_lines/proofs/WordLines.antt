-- What a line leaves of the words of its caller, by what its call left.
use Rattle.std.specs.Prelude.{◌≡◌, ℕ, ◌<◌, ◌≤◌, ◌==◌, ◌||◌, Bool, true, false, List, length, slice_get, slice_set, refl, if◌then◌else◌}
use Rattle.std.specs.declared.option.Option.{Option}
use Rattle.std.specs.declared.option.Option.TheVariants.{Some, None}
use Rattle.std.proofs.Common.{sym, ap, subst, ◌∙◌, arith}
use Rattle.std.proofs.lemmas.Bool.{ne_eqb}
use Rattle.std.proofs.lemmas.Option.{slice_get_within}
use Rattle.cc_entry.specs.Kinds.{is_map, is_pin, is_repin, is_read_chain, is_write_chain}
use Rattle.cc_entry.specs.declared.answer.Answer.{Answer}
use Rattle.cc_entry.specs.declared.answer.Answer.TheVariants as answer
use Rattle.cc_entry.specs.declared.call.Call.{Call}
use Rattle.cc_entry.specs.declared.entry.Entry.{Entry}
use Rattle.cc_entry.specs.declared.error.CcError.{CcError}
use Rattle.cc_entry.specs.declared.error.CcError.TheVariants as error
use Rattle.cc_entry.specs.declared.hold.HoldKind.{HoldKind}
use Rattle.cc_entry.specs.declared.reply.Outcome.TheVariants as outcome
use Rattle.cc_script.specs.HoldWords.{UsesHold}
use Rattle.cc_script.specs.declared.bound.Bound.{Bound}
use Rattle.cc_script.specs.declared.bound.Need.{Need}
use Rattle.cc_model.specs.Allowed.{IsAllowed}
use Rattle.cc_model.specs.Good.{IsGood, IsGoodSoFar}
use Rattle.cc_model.specs.Setup.{Setup}
use Rattle.cc_effects.specs.Moments.{Between}
use Rattle.cc_effects.proofs.Stretches.{idle-none}
use Rattle.cc_own.specs.Own.{IsUnchanged, changes_it}
use Rattle.cc_own.proofs.Unchanged.{unchanged-call}
use Rattle.cc_pieces.specs.Answered.{CallAnswered}
use Rattle.cc_pieces.specs.Bindings.{Binding, OnHold, hold_named, id_if}
use Rattle.cc_calls.specs.Pages.{WentOn}
use Rattle.cc_turns.specs.Standing.{Standing}
use Rattle.cc_writes.specs.Hands.{Went}
use Rattle.cc_writes.specs.Ways.{IsFullError}
use Rattle.cc_calls.specs.Held.{HoldsAfter}
use Rattle.cc_calls.specs.declared.held.Held.{Held}
use Rattle.cc_lines.specs.Holds.{HasNamed, HoldIsNamed, NamesStand, NamesState, named_held, kind_of, named_at, test_of}
use Rattle.cc_lines.specs.Line.{IsFullTold, NamesStandFor}
use Rattle.cc_lines.specs.declared.holds.Named.{Named}
use Rattle.cc_lines.specs.declared.holds.Named.TheVariants as named
use Rattle.cc_lines.proofs.KeptWords.{get-there, length-set, named-within, stand-changed, stand-kept}

pub so_far : (u : Setup) (past : List Entry) → IsGood u past → IsGoodSoFar u past
unfolding IsAllowed
so_far u past good = record { legal = good.legal; allowed = good.allowed.0; covered = good.covered }

-- ---- how a pass went on

pub went-on : (old new : Standing) → Went old new → WentOn old new
went-on old new went =
    let turns : new.device_turns ≡ old.device_turns = ap (λ w. w.device_turns) went.same in
    let on : Standing → Standing = λ w. record w { seen = new.seen; others = new.others; in_flight = old.in_flight } in
    record { same = went.same ∙ ap (λ n. record old { seen = new.seen; others = new.others; device_turns = n }) (sym turns) }

pub went-none : (w : Standing) → WentOn w w
went-none w = record { same = refl }

-- ---- a full journal

pub full-less : (n m : ℕ) (w : Standing) (e : CcError) → n ≤ m → IsFullError n w e → IsFullError m w e
full-less n m w (error.JournalFull entries) less full = (full.0, omega (arith, less, full.1))
full-less n m w other less full = tt

pub full-told : (n : ℕ) (w : Standing) (e : CcError) → n ≤ 3 → IsFullError n w e → IsFullTold w (answer.Refused e)
full-told n w e less full = full-less n 3 w e less full

-- ---- the hold that a word names

-- what a word names that a line uses
pub has-named : (streams me : ℕ) (past : List Entry) (bounds : List Bound) (bindings : List Binding) (names : List (Option Named)) (need : Need) (word : ℕ) (it : Named) → NamesStand streams me past bounds bindings names → (uses : UsesHold need bounds word) → named_at names word ≡ Some it → HasNamed streams me past word uses.bound bindings it
has-named streams me past bounds bindings names need word it stand uses is =
    subst (HoldIsNamed streams me past word uses.bound bindings) is (stand.each word uses.bound uses.named uses.still)

-- a word that names a hold was bound, and no line ended it
pub has-at : (streams me : ℕ) (past : List Entry) (bounds : List Bound) (bindings : List Binding) (names : List (Option Named)) (word : ℕ) (it : Named) → NamesStand streams me past bounds bindings names → named_at names word ≡ Some it → (b : Bound) × HasNamed streams me past word b bindings it
has-at streams me past bounds bindings names word it stand named =
    let within = named-within names word it named in
    let there = get-there bounds word (omega (arith, within, stand.counted)) in
    (there.0, by there.0.ended there.0 refl there.1)
  where
    by : (t : Bool) (b : Bound) → t ≡ b.ended → slice_get bounds word ≡ Some b → HasNamed streams me past word b bindings it
    by true b ended at = absurd (cc (named, stand.ended word b at (sym ended)))
    by false b still at = subst (HoldIsNamed streams me past word b bindings) named (stand.each word b at (sym still))

pub named-hold : (streams me : ℕ) (past : List Entry) (word : ℕ) (bound : Bound) (bindings : List Binding) (it : Named) (of_kind : HoldKind → Bool) → HasNamed streams me past word bound bindings it → of_kind (kind_of it) ≡ true → hold_named bindings word of_kind ≡ Some (named_held it).id
named-hold streams me past word bound bindings it of_kind has serves =
    let kind : of_kind has.binding.kind ≡ true = ap of_kind has.kind_is ∙ serves in
    ap (id_if of_kind) has.found ∙ (ap (λ t. if t then Some has.binding.id else None) kind ∙ ap Some has.id_is)

pub named-other : (streams me : ℕ) (past : List Entry) (word : ℕ) (bound : Bound) (bindings : List Binding) (it : Named) (of_kind : HoldKind → Bool) → HasNamed streams me past word bound bindings it → of_kind (kind_of it) ≡ false → hold_named bindings word of_kind ≡ None
named-other streams me past word bound bindings it of_kind has serves =
    let kind : of_kind has.binding.kind ≡ false = ap of_kind has.kind_is ∙ serves in
    ap (id_if of_kind) has.found ∙ ap (λ t. if t then Some has.binding.id else None) kind

-- whether a word names a hold of such a kind
abbrev pub serves_word : (HoldKind → Bool) → Option Named → Bool
serves_word of_kind None = false
serves_word of_kind (Some it) = of_kind (kind_of it)

pub named-none : (streams me : ℕ) (past : List Entry) (word : ℕ) (bound : Bound) (bindings : List Binding) (o : Option Named) (of_kind : HoldKind → Bool) → HoldIsNamed streams me past word bound bindings o → serves_word of_kind o ≡ false → hold_named bindings word of_kind ≡ None
named-none streams me past word bound bindings None of_kind is serves = ap (id_if of_kind) is
named-none streams me past word bound bindings (Some it) of_kind is serves = named-other streams me past word bound bindings it of_kind is serves

-- a line on the hold that a word names, and one on none
pub on-hold : (me id : ℕ) (o : Option ℕ) (Left : ℕ → Answer → Between) (told : Answer) (old new : List Entry) → o ≡ Some id → Left id told old new → OnHold me o Left told old new
on-hold me id o Left told old new is left = subst (λ x. OnHold me x Left told old new) (sym is) left

pub on-none : (me : ℕ) (o : Option ℕ) (Left : ℕ → Answer → Between) (past : List Entry) → o ≡ None → OnHold me o Left answer.NoHold past past
on-none me o Left past is = subst (λ x. OnHold me x Left answer.NoHold past past) (sym is) (refl, idle-none me past)

-- ---- what stands on

pub answered-unchanged : (u : Setup) (me id : ℕ) (it : Call) (told : Answer) (old new : List Entry) → CallAnswered u me it told old new → changes_it id it ≡ false → IsUnchanged me id old new
answered-unchanged u me id it (answer.Given r) old new left kept = unchanged-call u me id it (outcome.Done r) old new left kept
answered-unchanged u me id it (answer.Refused e) old new left kept = unchanged-call u me id it (outcome.Failed e) old new left kept
answered-unchanged u me id it other old new left kept = absurd left

module _ (old new : Standing) (went : WentOn old new) (good : IsGood old.setup new.seen) where
  setup-is : new.setup ≡ old.setup
  setup-is = ap (λ w. w.setup) went.same

  streams-are : new.streams ≡ old.streams
  streams-are = ap (λ w. w.streams) went.same

  number-is : new.number ≡ old.number
  number-is = ap (λ w. w.number) went.same

  -- what stands for the pass as it was numbered
  pub stand-now : (bounds : List Bound) (bindings : List Binding) (names : NamesState) → NamesStand old.streams old.number new.seen bounds bindings names.named → NamesStandFor new bounds bindings names
  stand-now bounds bindings names stand =
      subst (λ s. NamesStand s new.number new.seen bounds bindings names.named) (sym streams-are)
      (subst (λ n. NamesStand old.streams n new.seen bounds bindings names.named) (sym number-is) stand)

  -- no hold of the pass changed
  pub stand-on : (bounds : List Bound) (bindings : List Binding) (names : NamesState) → ((id : ℕ) → IsUnchanged old.number id old.seen new.seen) → NamesStandFor old bounds bindings names → NamesStandFor new bounds bindings names
  stand-on bounds bindings names keeps stand =
      stand-now bounds bindings names
      (stand-kept old.setup old.streams old.number old.seen new.seen (so_far old.setup new.seen good) bounds bindings names.named stand
      (λ word it named. keeps (named_held it).id))

  -- a call was made on the hold that a word names, which the pass has still
  pub stand-used : (bounds : List Bound) (bindings : List Binding) (names : NamesState) (need : Need) (word : ℕ) (it : Named) (asked : Call) (told : Answer) → NamesStandFor old bounds bindings names → UsesHold need bounds word → named_at names.named word ≡ Some it → CallAnswered old.setup old.number asked told old.seen new.seen → ((id : ℕ) → ((named_held it).id == id) ≡ false → changes_it id asked ≡ false) → HoldsAfter old.number new.seen (test_of it) (named_held it) → NamesStandFor new bounds bindings names
  stand-used bounds bindings names need word it asked told stand uses named answered spares holds =
      stand-now bounds bindings names
      (stand-changed old.setup old.streams old.number old.seen new.seen (so_far old.setup new.seen good) bounds bindings names.named stand bindings
      word uses.bound uses.bound (Some it) names.named bounds uses.named uses.named (λ other differ. refl) refl named (λ other differ. refl) refl
      (λ other another differ also. answered-unchanged old.setup old.number (named_held another).id asked told old.seen new.seen answered
      (spares (named_held another).id (ne_eqb (named_held it).id (named_held another).id (stand.apart word other it another (λ e. differ (sym e)) named also))))
      (λ other differ. refl)
      (λ still. still-has)
      (λ ended. absurd (cc (ended, uses.still)))
      (λ other is. (it, named, ap (λ n. (named_held n).id) (sym (same-some it other is)))))
    where
      same-some : (a b : Named) → Some a ≡ Some b → a ≡ b
      same-some a b is = cc is

      has : HasNamed old.streams old.number old.seen word uses.bound bindings it
      has = has-named old.streams old.number old.seen bounds bindings names.named need word it stand uses named

      still-has : HasNamed old.streams old.number new.seen word uses.bound bindings it
      still-has = record {
        binding = has.binding;
        found = has.found;
        id_is = has.id_is;
        kind_is = has.kind_is;
        holds = holds;
        known = has.known;
        file_is = has.file_is;
        at_is = has.at_is;
        len_is = has.len_is;
      }

-- a word that names nothing, or a hold of another kind
pub none-serves : (of_kind : HoldKind → Bool) (o : Option Named) → o ≡ None → serves_word of_kind o ≡ false
none-serves of_kind o is = ap (serves_word of_kind) is

pub other-serves : (of_kind : HoldKind → Bool) (o : Option Named) (it : Named) → o ≡ Some it → of_kind (kind_of it) ≡ false → serves_word of_kind o ≡ false
other-serves of_kind o it is serves = ap (serves_word of_kind) is ∙ serves

pub not-map : (it : Named) → ((held : Held) → it ≡ named.Map held → ⊥) → is_map (kind_of it) ≡ false
not-map (named.Map held) never = absurd (never held refl)
not-map other never = refl

pub not-pin : (it : Named) → ((held : Held) → it ≡ named.Pin held → ⊥) → is_pin (kind_of it) ≡ false
not-pin (named.Pin held) never = absurd (never held refl)
not-pin other never = refl

pub not-repin : (it : Named) → ((held : Held) → it ≡ named.Repin held → ⊥) → is_repin (kind_of it) ≡ false
not-repin (named.Repin held) never = absurd (never held refl)
not-repin other never = refl

pub not-read_chain : (it : Named) → ((held : Held) → it ≡ named.ReadChain held → ⊥) → is_read_chain (kind_of it) ≡ false
not-read_chain (named.ReadChain held) never = absurd (never held refl)
not-read_chain other never = refl

pub not-write_chain : (it : Named) → ((held : Held) → it ≡ named.WriteChain held → ⊥) → is_write_chain (kind_of it) ≡ false
not-write_chain (named.WriteChain held) never = absurd (never held refl)
not-write_chain other never = refl

pub neither : (a b : Bool) → a ≡ false → b ≡ false → (a || b) ≡ false
neither a b not_a not_b = rw (not_a, not_b) refl

-- the word that a line uses lies among those that are kept, also once it was taken out
pub word-within : (streams me : ℕ) (past : List Entry) (bounds : List Bound) (bindings : List Binding) (names : List (Option Named)) (need : Need) (word : ℕ) → NamesStand streams me past bounds bindings names → UsesHold need bounds word → word < length names
word-within streams me past bounds bindings names need word stand uses =
    let below = slice_get_within bounds word uses.bound uses.named in omega (arith, below, stand.counted)

pub still-within : (names now : NamesState) (word : ℕ) → now ≡ record names { named = slice_set names.named word None } → word < length names.named → word < length now.named
still-within names now word is within =
    let same : length now.named ≡ length (slice_set names.named word None) = ap (λ m. length m.named) is in
    let kept : length (slice_set names.named word None) ≡ length names.named = length-set names.named word None in
    omega (arith, same, kept, within)

pub taken-put : (names between now : NamesState) (word : ℕ) (o : Option Named) → between ≡ record names { named = slice_set names.named word None } → now ≡ record between { named = slice_set between.named word o } → now ≡ record names { named = slice_set (slice_set names.named word None) word o }
taken-put names between now word o taken put = put ∙ ap (λ (m : NamesState). record m { named = slice_set m.named word o }) taken

-- Lines that pin a map and hold a pin again: that they end as a line is to.
use Rattle.std.specs.Prelude.{◌≡◌, ℕ, ◌<◌, Bool, false, Result, Ok, Err, IfOk, List, [], ◌∷◌, ◌++◌, length, slice_get, slice_set, refl}
use Rattle.std.specs.declared.option.Option.{Option}
use Rattle.std.specs.declared.option.Option.TheVariants.{Some, None}
use Rattle.std.proofs.Common.{sym, ap, subst, ◌∙◌, arith, inl}
use Rattle.std.proofs.lemmas.Bool.{eq-eqb}
use Rattle.std.proofs.lemmas.Option.{slice_get_within}
use Rattle.cc_entry.specs.Kinds.{is_map, is_pin, is_repin}
use Rattle.cc_entry.specs.declared.answer.Answer.TheVariants as answer
use Rattle.cc_entry.specs.declared.call.Call.TheVariants as call
use Rattle.cc_entry.specs.declared.error.CcError.{CcError}
use Rattle.cc_entry.specs.declared.hold.HoldKind.TheVariants as kind
use Rattle.cc_entry.specs.declared.reply.Outcome.TheVariants as outcome
use Rattle.cc_entry.specs.declared.reply.Reply.TheVariants as reply
use Rattle.cc_script.specs.HoldWords.{UsesHold, fresh, bound_repinned}
use Rattle.cc_script.specs.declared.bound.Bound.{Bound}
use Rattle.cc_script.specs.declared.bound.Need.TheVariants as need
use Rattle.cc_script.specs.declared.script.Action.TheVariants as action
use Rattle.cc_effects.proofs.Stretches.{idle-none}
use Rattle.cc_own.proofs.CallsKeep.{placed-here}
use Rattle.cc_own.proofs.Unchanged.{unchanged-failed, unchanged-idle}
use Rattle.cc_pieces.specs.Answered.{CallAnswered}
use Rattle.cc_pieces.specs.Bindings.{Binding, bound, hold_named}
use Rattle.cc_calls.specs.Answers.{CallEnds}
use Rattle.cc_calls.specs.Pages.{WentOn}
use Rattle.cc_turns.specs.Standing.{Standing}
use Rattle.cc_calls.specs.Held.{IsHolding}
use Rattle.cc_calls.specs.Ends.{RepinEnds, held_of_range, hold_outcome}
use Rattle.cc_calls.specs.declared.held.Held.{Held}
use Rattle.cc_lines.specs.Holds.{HasNamed, NamesState, bound_named, kind_of, made_told, named_at, test_of}
use Rattle.cc_lines.specs.Line.{CanServe, LineServed, NamesStandFor}
use Rattle.cc_lines.specs.declared.holds.Named.{Named}
use Rattle.cc_lines.specs.declared.holds.Named.TheVariants as named
use Rattle.cc_lines.proofs.KeptWords.{set-back, set-twice}
use Rattle.cc_lines.proofs.WordChanges.{held_answer, stand-made, stand-none, stand-pinned, stand-unpinned}
use Rattle.cc_lines.proofs.WordLines.{full-told, named-hold, on-hold, on-none, serves_word, so_far, went-none, went-on}
use Rattle.cc_lines.proofs.HoldLines.{made-answered, made-full}
use Rattle.cc_lines.proofs.UseLines.{has-word, no-word}

-- a word that was taken out and put back names what it named
put-back : (names : List (Option Named)) (word : ℕ) (o : Option Named) → word < length names → named_at names word ≡ o → slice_set (slice_set names word None) word o ≡ names
put-back names word o within is =
    set-twice names word None o ∙ (ap (slice_set names word) (sym is) ∙ set-back names word within)

-- ---- a pin of a map

module _ (old new : Standing) (names now : NamesState) (word : ℕ) (exclusive : Bool) (mapped : Held) (can : CanServe old (action.PinMapped word exclusive) names) (was : named_at names.named word ≡ Some (named.Map mapped)) where
  within : word < length names.named
  within = let below = slice_get_within can.bounds word can.right.bound can.right.named in omega (arith, below, can.stand.counted)

  named-map : (bounds : List Bound) (bindings : List Binding) → NamesStandFor old bounds bindings names → UsesHold need.Map bounds word → hold_named bindings word is_map ≡ Some mapped.id
  named-map bounds bindings stand used =
      named-hold old.streams old.number old.seen word used.bound bindings (named.Map mapped) is_map (has-word old names bounds bindings need.Map word (named.Map mapped) stand used was) refl

  pub map-pinned : (pin : Held) → CallEnds hold_outcome old new (call.PinMapped mapped.id exclusive) (Ok pin) → pin ≡ mapped → IsHolding new is_pin pin → now ≡ record names { named = slice_set (slice_set names.named word None) word (Some (named.Pin pin)) } → LineServed old new (action.PinMapped word exclusive) (answer.Given (reply.Hold pin.id)) names now
  map-pinned pin ends same holding put = record {
    served = λ bounds bindings stand right. (
      on-hold old.number mapped.id _ (λ id. CallAnswered old.setup old.number (call.PinMapped id exclusive)) (answer.Given (reply.Hold pin.id)) old.seen new.seen (named-map bounds bindings stand right) ends.left,
      stand-pinned old new went (ends.good can.good) bounds bindings names stand need.Map word right now mapped exclusive pin was ends.left same holding
          (ap (λ m. m.named) put ∙ set-twice names.named word None (Some (named.Pin pin))),
    );
    full = inl tt;
    goes_on = went;
    good = ends.good can.good;
    room = ap (λ m. m.room) put;
    placed = ap (λ m. m.places) put;
  }
    where
      went : WentOn old new
      went = went-on old new ends.goes_on

  pub map-refused : (back : Held) (e : CcError) → CallEnds {A = Held} hold_outcome old new (call.PinMapped mapped.id exclusive) (Err e) → back ≡ mapped → now ≡ record names { named = slice_set (slice_set names.named word None) word (Some (named.Map back)) } → LineServed old new (action.PinMapped word exclusive) (answer.Refused e) names now
  map-refused back e ends same put = record {
    served = λ bounds bindings stand right. (
      on-hold old.number mapped.id _ (λ id. CallAnswered old.setup old.number (call.PinMapped id exclusive)) (answer.Refused e) old.seen new.seen (named-map bounds bindings stand right) ends.left,
      stand-unpinned old new went (ends.good can.good) bounds bindings names stand need.Map word right now
          (ap (λ m. m.named) put ∙ put-back names.named word (Some (named.Map back)) within (was ∙ ap (λ h. Some (named.Map h)) (sym same)))
          (λ id. unchanged-failed old.setup old.number id (call.PinMapped mapped.id exclusive) e old.seen new.seen ends.left),
    );
    full = inl (full-told 1 new e (omega arith) ends.full);
    goes_on = went;
    good = ends.good can.good;
    room = ap (λ m. m.room) put;
    placed = ap (λ m. m.places) put;
  }
    where
      went : WentOn old new
      went = went-on old new ends.goes_on

-- the word names no map: what it names is put back
module _ (w : Standing) (names now : NamesState) (word : ℕ) (exclusive : Bool) (can : CanServe w (action.PinMapped word exclusive) names) (none : serves_word is_map (named_at names.named word) ≡ false) where
  unpinned : now ≡ names → LineServed w w (action.PinMapped word exclusive) answer.NoHold names now
  unpinned same = record {
    served = λ bounds bindings stand right. (
      on-none w.number _ (λ id. CallAnswered w.setup w.number (call.PinMapped id exclusive)) w.seen (no-word w names bounds bindings need.Map word is_map stand right none),
      stand-unpinned w w (went-none w) can.good bounds bindings names stand need.Map word right now (ap (λ m. m.named) same)
          (λ id. unchanged-idle w.number id w.seen w.seen (idle-none w.number w.seen)),
    );
    full = inl tt;
    goes_on = went-none w;
    good = can.good;
    room = ap (λ m. m.room) same;
    placed = ap (λ m. m.places) same;
  }

  inside : word < length names.named
  inside = let below = slice_get_within can.bounds word can.right.bound can.right.named in omega (arith, below, can.stand.counted)

  pub other-kept : (it : Named) → named_at names.named word ≡ Some it → now ≡ record names { named = slice_set (slice_set names.named word None) word (Some it) } → LineServed w w (action.PinMapped word exclusive) answer.NoHold names now
  other-kept it is put = unpinned (put ∙ ap (λ l. record names { named = l }) (put-back names.named word (Some it) inside is))

  pub none-kept : named_at names.named word ≡ None → now ≡ record names { named = slice_set names.named word None } → LineServed w w (action.PinMapped word exclusive) answer.NoHold names now
  none-kept is put = unpinned (put ∙ ap (λ l. record names { named = l }) (ap (slice_set names.named word) (sym is) ∙ set-back names.named word inside))

-- ---- a repin

module _ (old new : Standing) (names now : NamesState) (word : ℕ) (pinned : Held) (can : CanServe old (action.Repin word (length names.named)) names) (was : named_at names.named word ≡ Some (named.Pin pinned)) where
  pub repin-line : (made : Result Named CcError) → RepinEnds old new is_repin pinned (held_answer made) → IfOk made (λ one. (kind_of one ≡ kind.Repin) × (test_of one ≡ is_repin)) → now ≡ record names { named = names.named ++ bound_named made ∷ [] } → LineServed old new (action.Repin word (length names.named)) (made_told made) names now
  repin-line made ends kinds grew = record {
    served = λ bounds bindings stand right. (
      on-hold old.number pinned.id _ (λ id. CallAnswered old.setup old.number (call.Repin id)) (made_told made) old.seen new.seen
          (named-hold old.streams old.number old.seen word right.0.bound bindings (named.Pin pinned) is_pin (has bounds bindings stand right.0) refl)
          (made-answered old.setup old.number (call.Repin pinned.id) made old.seen new.seen ends.call_ends.left),
      after bounds bindings stand right.0 right.1,
    );
    full = inl (made-full 2 new made (omega arith) ends.call_ends.full);
    goes_on = went;
    good = ends.call_ends.good can.good;
    room = ap (λ m. m.room) grew;
    placed = ap (λ m. m.places) grew;
  }
    where
      went : WentOn old new
      went = went-on old new ends.call_ends.goes_on

      has : (bounds : List Bound) (bindings : List Binding) → NamesStandFor old bounds bindings names → (used : UsesHold need.Pin bounds word) → HasNamed old.streams old.number old.seen word used.bound bindings (named.Pin pinned)
      has bounds bindings stand used = has-word old names bounds bindings need.Pin word (named.Pin pinned) stand used was

      ranged : (b : Bound) → pinned.file ≡ b.file → pinned.at ≡ b.at → pinned.len ≡ b.len → IfOk (held_answer made) (λ held. held ≡ held_of_range pinned.file pinned.at pinned.len held.id) → IfOk (held_answer made) (λ held. held ≡ held_of_range b.file b.at b.len held.id)
      ranged b file_is at_is len_is range =
          subst (λ n. IfOk (held_answer made) (λ held. held ≡ held_of_range b.file b.at n held.id)) len_is
          (subst (λ n. IfOk (held_answer made) (λ held. held ≡ held_of_range b.file n pinned.len held.id)) at_is
          (subst (λ f. IfOk (held_answer made) (λ held. held ≡ held_of_range f pinned.at pinned.len held.id)) file_is range))

      after : (bounds : List Bound) (bindings : List Binding) → NamesStandFor old bounds bindings names → (used : UsesHold need.Pin bounds word) → length names.named ≡ length bounds → NamesStandFor new (bounds ++ bound_repinned (slice_get bounds word)) (bound (length names.named) kind.Repin (made_told made) bindings) now
      after bounds bindings stand used at_end =
          let it = has bounds bindings stand used in
          let b = used.bound in
          subst (λ o. NamesStandFor new (bounds ++ bound_repinned o) (bound (length names.named) kind.Repin (made_told made) bindings) now) (sym used.named)
          (stand-made old new went (ends.call_ends.good can.good) bounds bindings names stand b.file b.at b.len kind.Repin is_repin (call.Repin pinned.id) (length names.named) at_end
          (subst (λ f. f.stream < old.streams) it.file_is it.known) refl (λ id. refl)
          (λ n left. (
            pinned.file.stream,
            placed-here old.setup old.number pinned.file.stream pinned.id it.holds.hold (call.Repin pinned.id) (outcome.Done (reply.Hold n)) left.earlier old.seen new.seen left.placed
                (so_far old.setup new.seen (ends.call_ends.good can.good)) (eq-eqb pinned.id pinned.id refl) it.holds.has,
          ))
          made now ends.call_ends.left (ranged b it.file_is it.at_is it.len_is ends.range) ends.holding kinds (ap (λ m. m.named) grew))

-- the word names no pin: the next word names nothing
pub no-repin : (w : Standing) (names now : NamesState) (word : ℕ) → CanServe w (action.Repin word (length names.named)) names → serves_word is_pin (named_at names.named word) ≡ false → now ≡ record names { named = names.named ++ None ∷ [] } → LineServed w w (action.Repin word (length names.named)) answer.NoHold names now
no-repin w names now word can none grew = record {
  served = λ bounds bindings stand right. (
    on-none w.number _ (λ id. CallAnswered w.setup w.number (call.Repin id)) w.seen (no-word w names bounds bindings need.Pin word is_pin stand right.0 none),
    subst (λ o. NamesStandFor w (bounds ++ bound_repinned o) bindings now) (sym right.0.named)
        (stand-none w w (went-none w) can.good bounds bindings names stand (fresh kind.Repin right.0.bound.file right.0.bound.at right.0.bound.len) now refl (ap (λ m. m.named) grew)
        (λ id. unchanged-idle w.number id w.seen w.seen (idle-none w.number w.seen))),
  );
  full = inl tt;
  goes_on = went-none w;
  good = can.good;
  room = ap (λ m. m.room) grew;
  placed = ap (λ m. m.places) grew;
}

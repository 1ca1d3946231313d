-- What the words of a caller name after a line that makes a hold, ends one, or makes a pin of a map.
use Rattle.std.specs.Prelude.{◌≡◌, ◌≢◌, ℕ, ◌<◌, ◌==◌, Bool, true, false, Result, Ok, Err, IfOk, List, [], ◌∷◌, ◌++◌, length, map, slice_get, slice_set, refl, if◌then◌else◌}
use Rattle.std.specs.declared.option.Option.{Option}
use Rattle.std.specs.declared.option.Option.TheVariants.{Some, None}
use Rattle.std.proofs.Common.{sym, ap, subst, ◌∙◌, arith}
use Rattle.std.proofs.lemmas.Bool.{ne_eqb, eqb-true, eq-eqb}
use Rattle.std.proofs.lemmas.Option.{slice_get_within}
use Rattle.cc_entry.specs.Place.{File}
use Rattle.cc_entry.specs.Kinds.{is_pin}
use Rattle.cc_entry.specs.declared.answer.Answer.{Answer}
use Rattle.cc_entry.specs.declared.answer.Answer.TheVariants as answer
use Rattle.cc_entry.specs.declared.call.Call.{Call}
use Rattle.cc_entry.specs.declared.call.Call.TheVariants as call
use Rattle.cc_entry.specs.declared.entry.Entry.{Entry}
use Rattle.cc_entry.specs.declared.entry.Entry.TheVariants as entry
use Rattle.cc_entry.specs.declared.error.CcError.{CcError}
use Rattle.cc_entry.specs.declared.hold.HoldKind.{HoldKind}
use Rattle.cc_entry.specs.declared.hold.HoldKind.TheVariants as kind
use Rattle.cc_entry.specs.declared.reply.Outcome.TheVariants as outcome
use Rattle.cc_entry.specs.declared.reply.Reply.TheVariants as reply
use Rattle.cc_script.specs.HoldWords.{UsesHold, as_ended, as_pin, with_hold_changed, fresh}
use Rattle.cc_script.specs.declared.bound.Bound.{Bound}
use Rattle.cc_script.specs.declared.bound.Need.{Need}
use Rattle.cc_model.specs.Cache.{makes_hold}
use Rattle.cc_model.specs.Good.{IsGood, IsGoodSoFar}
use Rattle.cc_model.specs.Holds.{Hold}
use Rattle.cc_model.specs.Legal.{IsLegal}
use Rattle.cc_model.specs.Setup.{Setup}
use Rattle.cc_effects.specs.Calls.{CallLeft}
use Rattle.cc_own.specs.Own.{HasHold, IsUnchanged, changes_it}
use Rattle.cc_own.proofs.CallsKeep.{front-keeps, good-tail}
use Rattle.cc_own.proofs.OpenIds.{fresh-id}
use Rattle.cc_own.proofs.Unchanged.{unchanged-call}
use Rattle.cc_pieces.specs.Answered.{CallAnswered}
use Rattle.cc_pieces.specs.Bindings.{Binding, bound, pinned_if}
use Rattle.cc_calls.specs.Pages.{WentOn}
use Rattle.cc_turns.specs.Standing.{Standing}
use Rattle.cc_calls.specs.Held.{HoldsAfter, IsHolding}
use Rattle.cc_calls.specs.Ends.{held_of_range, hold_outcome}
use Rattle.cc_calls.specs.declared.held.Held.{Held}
use Rattle.cc_lines.specs.Holds.{HasNamed, HoldIsNamed, NamesStand, NamesState, binding_of, bound_named, named_held, kind_of, made_told, named_at, or_nothing, test_of}
use Rattle.cc_lines.specs.Line.{NamesStandFor}
use Rattle.cc_lines.specs.declared.holds.Named.{Named}
use Rattle.cc_lines.specs.declared.holds.Named.TheVariants as named
use Rattle.cc_lines.proofs.KeptWords.{get-set, get-set_other, get-there, length-set, named-on, set-back, stand-bound, stand-changed}
use Rattle.cc_lines.proofs.WordLines.{answered-unchanged, has-at, has-named, so_far, stand-now}

-- a hold that a call made has another id than one that the pass had
pub made-apart : (u : Setup) (me s id t : ℕ) (hold : Hold) (it : Call) (n : ℕ) (old new : List Entry) → (left : CallLeft u me it (outcome.Done (reply.Hold n)) old new) → left.placed.stream ≡ Some t → IsGoodSoFar u new → makes_hold it ≡ true → HasHold me s id hold old → (n == id) ≡ false
made-apart u me s id t hold it n old new left filed good makes has =
    let p = left.placed in
    let here : IsLegal u (entry.Call me p.nth p.stream it (outcome.Done (reply.Hold n)) ∷ (left.earlier ++ old)) = (good-tail u p.later _ (subst (IsGoodSoFar u) p.grew good)).legal in
    let front : IsLegal u (entry.Call me p.nth (Some t) it (outcome.Done (reply.Hold n)) ∷ (left.earlier ++ old)) =
    subst (λ o. IsLegal u (entry.Call me p.nth o it (outcome.Done (reply.Hold n)) ∷ (left.earlier ++ old))) filed here in
    fresh-id u (left.earlier ++ old) me p.nth t s id it (reply.Hold n) front
    (hold, (front-keeps u me s id hold it (outcome.Done (reply.Hold n)) left.earlier old new p good has).found) makes

-- ---- bindings

pub bound-at : (word id : ℕ) (k : HoldKind) (bindings : List Binding) (here : ℕ) → word ≡ here → binding_of (record { word = word; id = id; kind = k } ∷ bindings) here ≡ Some (record { word = word; id = id; kind = k })
bound-at word id k bindings here same =
    ap (λ t. if t then Some (record { word = word; id = id; kind = k }) else binding_of bindings here) (eq-eqb word here same)

pub bound-other : (word id : ℕ) (k : HoldKind) (bindings : List Binding) (other : ℕ) → word ≢ other → binding_of (record { word = word; id = id; kind = k } ∷ bindings) other ≡ binding_of bindings other
bound-other word id k bindings other differ =
    ap (λ t. if t then Some (record { word = word; id = id; kind = k }) else binding_of bindings other) (ne_eqb word other differ)

pub pinned-other : (word : ℕ) (bindings : List Binding) (other : ℕ) → other ≢ word → binding_of (map (pinned_if word) bindings) other ≡ binding_of bindings other
pinned-other word [] other differ = refl
pinned-other word (b ∷ bindings) other differ = by (pinned-other word bindings other differ) (b.word == word) refl
  where
    by : binding_of (map (pinned_if word) bindings) other ≡ binding_of bindings other → (t : Bool) → (b.word == word) ≡ t → binding_of (map (pinned_if word) (b ∷ bindings)) other ≡ binding_of (b ∷ bindings) other
    by rest true is =
        let apart : (b.word == other) ≡ false = ne_eqb b.word other (λ e. differ (sym e ∙ eqb-true b.word word is)) in
        rw (is, apart) rest
    by rest false is = rw (is, rest) refl

pub pinned-at : (word : ℕ) (bindings : List Binding) (binding : Binding) → binding_of bindings word ≡ Some binding → binding_of (map (pinned_if word) bindings) word ≡ Some (record binding { kind = kind.Pin })
pinned-at word [] binding found = absurd (cc found)
pinned-at word (b ∷ bindings) binding found = by (λ more. pinned-at word bindings binding more) (b.word == word) refl found
  where
    by : (binding_of bindings word ≡ Some binding → binding_of (map (pinned_if word) bindings) word ≡ Some (record binding { kind = kind.Pin })) → (t : Bool) → (b.word == word) ≡ t → (if t then Some b else binding_of bindings word) ≡ Some binding → binding_of (map (pinned_if word) (b ∷ bindings)) word ≡ Some (record binding { kind = kind.Pin })
    by rest true is found = let one : b ≡ binding = cc found in rw (is, is, one) refl
    by rest false is found = rw (is, is) (rest found)

-- ---- a word that is bound

-- what was made, as its call answered
abbrev pub held_answer : Result Named CcError → Result Held CcError
held_answer (Ok it) = Ok (named_held it)
held_answer (Err e) = Err e

module _ (old new : Standing) (went : WentOn old new) (good : IsGood old.setup new.seen) (bounds : List Bound) (bindings : List Binding) (names : NamesState) (stand : NamesStandFor old bounds bindings names) where
  goodness : IsGoodSoFar old.setup new.seen
  goodness = so_far old.setup new.seen good

  -- the next word is bound to nothing
  pub stand-none : (one : Bound) (now : NamesState) → one.ended ≡ false → now.named ≡ names.named ++ None ∷ [] → ((id : ℕ) → IsUnchanged old.number id old.seen new.seen) → NamesStandFor new (bounds ++ one ∷ []) bindings now
  stand-none one now begun grew keeps =
      stand-now old new went good (bounds ++ one ∷ []) bindings now
      (subst (NamesStand old.streams old.number new.seen (bounds ++ one ∷ []) bindings) (sym grew)
      (stand-bound old.setup old.streams old.number old.seen new.seen goodness bounds bindings names.named stand bindings
      one None (λ word it named. keeps (named_held it).id) (λ word differ. refl) (stand.unbound (length bounds) (omega arith)) (λ word it made named is. absurd (cc is)) begun))

  -- the next word is bound to what a call was to make
  module _ (file : File) (at len : ℕ) (k : HoldKind) (of_kind : HoldKind → Bool) (it : Call) (word : ℕ) (at_end : word ≡ length bounds) (known : file.stream < old.streams) (makes : makes_hold it ≡ true) (keeps : (id : ℕ) → changes_it id it ≡ false) (filed : (n : ℕ) (left : CallLeft old.setup old.number it (outcome.Done (reply.Hold n)) old.seen new.seen) → (t : ℕ) × (left.placed.stream ≡ Some t)) where
    pub stand-made : (made : Result Named CcError) (now : NamesState) → CallLeft old.setup old.number it (hold_outcome (held_answer made)) old.seen new.seen → IfOk (held_answer made) (λ held. held ≡ held_of_range file at len held.id) → IfOk (held_answer made) (IsHolding new of_kind) → IfOk made (λ one. (kind_of one ≡ k) × (test_of one ≡ of_kind)) → now.named ≡ names.named ++ bound_named made ∷ [] → NamesStandFor new (bounds ++ fresh k file at len ∷ []) (bound word k (made_told made) bindings) now
    stand-made (Ok one) now left range holding kinds grew =
        let held : Held = named_held one in
        let mine : HoldsAfter old.number new.seen (test_of one) held =
        subst (λ n. HoldsAfter n new.seen (test_of one) held) (ap (λ w. w.number) went.same)
        (subst (λ t. HoldsAfter new.number new.seen t held) (sym kinds.1) holding) in
        let is : HasNamed old.streams old.number new.seen (length bounds) (fresh k file at len) (record { word = word; id = held.id; kind = k } ∷ bindings) one = record {
          binding = record { word = word; id = held.id; kind = k };
          found = bound-at word held.id k bindings (length bounds) at_end;
          id_is = refl;
          kind_is = sym kinds.0;
          holds = mine;
          known = subst (λ f. f.stream < old.streams) (sym (ap (λ h. h.file) range)) known;
          file_is = ap (λ h. h.file) range;
          at_is = ap (λ h. h.at) range;
          len_is = ap (λ h. h.len) range;
        } in
        stand-now old new went good (bounds ++ fresh k file at len ∷ []) (record { word = word; id = held.id; kind = k } ∷ bindings) now
        (subst (NamesStand old.streams old.number new.seen (bounds ++ fresh k file at len ∷ []) (record { word = word; id = held.id; kind = k } ∷ bindings)) (sym grew)
        (stand-bound old.setup old.streams old.number old.seen new.seen goodness bounds bindings names.named stand (record { word = word; id = held.id; kind = k } ∷ bindings)
        (fresh k file at len) (Some one)
        (λ other another named. unchanged-call old.setup old.number (named_held another).id it (hold_outcome (held_answer (Ok one))) old.seen new.seen left (keeps (named_held another).id))
        (λ other differ. bound-other word held.id k bindings other (λ e. differ (sym e ∙ at_end)))
        is
        (λ other another made named is_made. apart-from other another made named (some-same one made is_made))
        refl))
      where
        apart-from : (other : ℕ) (another made : Named) → named_at names.named other ≡ Some another → one ≡ made → (named_held made).id ≢ (named_held another).id
        apart-from other another made named is same =
            let has = (has-at old.streams old.number old.seen bounds bindings names.named other another stand named).1 in
            let where_filed = filed (named_held one).id left in
            let fresh_one =
            made-apart old.setup old.number (named_held another).file.stream (named_held another).id where_filed.0 has.holds.hold it (named_held one).id old.seen new.seen left where_filed.1 goodness makes has.holds.has in
            let same_id : (named_held one).id ≡ (named_held another).id = ap (λ n. (named_held n).id) is ∙ same in
            absurd (cc (fresh_one, eq-eqb (named_held one).id (named_held another).id same_id))

        some-same : (a b : Named) → Some a ≡ Some b → a ≡ b
        some-same a b is = cc is
    stand-made (Err e) now left range holding kinds grew =
        stand-none (fresh k file at len) now refl grew
        (λ id. unchanged-call old.setup old.number id it (hold_outcome (held_answer (Err e))) old.seen new.seen left (keeps id))

  -- ---- a hold that a word names, ended

  module _ (need : Need) (word : ℕ) (uses : UsesHold need bounds word) (now : NamesState) where
    within : word < length names.named
    within =
        let below = slice_get_within bounds word uses.bound uses.named in omega (arith, below, stand.counted)

    changed-is : (change : Bound → Bound) → with_hold_changed change (slice_get bounds word) bounds word ≡ slice_set bounds word (change uses.bound)
    changed-is change = ap (λ o. with_hold_changed change o bounds word) uses.named

    set-is : (o : Option Named) → named_at (slice_set names.named word o) word ≡ o
    set-is o =
        let there = get-there names.named word within in
        ap or_nothing (get-set names.named word there.0 o there.1)

    -- what stands when the word names another thing, or nothing
    stand-set : (o : Option Named) (change : Bound → Bound) (later : List Binding) → now.named ≡ slice_set names.named word o → ((other : ℕ) (another : Named) → other ≢ word → named_at names.named other ≡ Some another → IsUnchanged old.number (named_held another).id old.seen new.seen) → ((other : ℕ) → other ≢ word → binding_of later other ≡ binding_of bindings other) → ((change uses.bound).ended ≡ false → HoldIsNamed old.streams old.number new.seen word (change uses.bound) later o) → ((change uses.bound).ended ≡ true → o ≡ None) → ((it : Named) → o ≡ Some it → (was : Named) × (named_at names.named word ≡ Some was) × ((named_held it).id ≡ (named_held was).id)) → NamesStandFor new (with_hold_changed change (slice_get bounds word) bounds word) later now
    stand-set o change later set keeps same is gone was_named =
        subst (λ bs. NamesStandFor new bs later now) (sym (changed-is change))
        (stand-now old new went good (slice_set bounds word (change uses.bound)) later now
        (subst (NamesStand old.streams old.number new.seen (slice_set bounds word (change uses.bound)) later) (sym set)
        (stand-changed old.setup old.streams old.number old.seen new.seen goodness bounds bindings names.named stand later
        word uses.bound (change uses.bound) o (slice_set names.named word o) (slice_set bounds word (change uses.bound)) uses.named
        (get-set bounds word uses.bound (change uses.bound) uses.named)
        (λ other differ. get-set_other bounds word other (change uses.bound) differ)
        (length-set bounds word (change uses.bound))
        (set-is o)
        (λ other differ. ap or_nothing (get-set_other names.named word other o differ))
        (length-set names.named word o)
        keeps same is gone was_named)))

    -- the hold was ended, or there was none that the line could end
    pub stand-ended : now.named ≡ slice_set names.named word None → ((other : ℕ) (another : Named) → other ≢ word → named_at names.named other ≡ Some another → IsUnchanged old.number (named_held another).id old.seen new.seen) → NamesStandFor new (with_hold_changed as_ended (slice_get bounds word) bounds word) bindings now
    stand-ended set keeps =
        stand-set None as_ended bindings set keeps (λ other differ. refl) (λ still. absurd (cc still)) (λ ended. refl) (λ it is. absurd (cc is))

    -- the ids of the others are none that a call changes that changes this one alone
    pub others-kept : (it : Named) (asked : Call) (told : Answer) → named_at names.named word ≡ Some it → CallAnswered old.setup old.number asked told old.seen new.seen → ((id : ℕ) → ((named_held it).id == id) ≡ false → changes_it id asked ≡ false) → (other : ℕ) (another : Named) → other ≢ word → named_at names.named other ≡ Some another → IsUnchanged old.number (named_held another).id old.seen new.seen
    others-kept it asked told named answered spares other another differ also =
        answered-unchanged old.setup old.number (named_held another).id asked told old.seen new.seen answered
        (spares (named_held another).id (ne_eqb (named_held it).id (named_held another).id (stand.apart word other it another (λ e. differ (sym e)) named also)))

    -- ---- a pin of a map

    -- it was made: the word names the pin
    pub stand-pinned : (mapped : Held) (exclusive : Bool) (pin : Held) → named_at names.named word ≡ Some (named.Map mapped) → CallLeft old.setup old.number (call.PinMapped mapped.id exclusive) (outcome.Done (reply.Hold pin.id)) old.seen new.seen → pin ≡ mapped → IsHolding new is_pin pin → now.named ≡ slice_set names.named word (Some (named.Pin pin)) → NamesStandFor new (with_hold_changed as_pin (slice_get bounds word) bounds word) (map (pinned_if word) bindings) now
    stand-pinned mapped exclusive pin was left same holding set =
        stand-set (Some (named.Pin pin)) as_pin (map (pinned_if word) bindings) set
        (others-kept (named.Map mapped) (call.PinMapped mapped.id exclusive) (answer.Given (reply.Hold pin.id)) was left (λ id apart. apart))
        (λ other differ. pinned-other word bindings other differ)
        (λ still. is)
        (λ ended. absurd (cc (ended, uses.still)))
        (λ it is. (named.Map mapped, was, ap (λ n. (named_held n).id) (sym (some-same (named.Pin pin) it is)) ∙ ap (λ h. h.id) same))
      where
        some-same : (a b : Named) → Some a ≡ Some b → a ≡ b
        some-same a b is = cc is

        has : HasNamed old.streams old.number old.seen word uses.bound bindings (named.Map mapped)
        has = has-named old.streams old.number old.seen bounds bindings names.named need word (named.Map mapped) stand uses was

        is : HasNamed old.streams old.number new.seen word (as_pin uses.bound) (map (pinned_if word) bindings) (named.Pin pin)
        is = record {
          binding = record has.binding { kind = kind.Pin };
          found = pinned-at word bindings has.binding has.found;
          id_is = has.id_is ∙ sym (ap (λ h. h.id) same);
          kind_is = refl;
          holds = subst (λ n. HoldsAfter n new.seen is_pin pin) (ap (λ w. w.number) went.same) holding;
          known = subst (λ h. h.file.stream < old.streams) (sym same) has.known;
          file_is = ap (λ h. h.file) same ∙ has.file_is;
          at_is = ap (λ h. h.at) same ∙ has.at_is;
          len_is = ap (λ h. h.len) same ∙ has.len_is;
        }

    -- nothing was done: the word names what it named
    pub stand-unpinned : now.named ≡ names.named → ((id : ℕ) → IsUnchanged old.number id old.seen new.seen) → NamesStandFor new (with_hold_changed as_pin (slice_get bounds word) bounds word) bindings now
    stand-unpinned same keeps =
        stand-set (named_at names.named word) as_pin bindings (same ∙ sym back)
        (λ other another differ named. keeps (named_held another).id)
        (λ other differ. refl)
        (λ still. as-pin (named_at names.named word)
        (named-on old.setup old.streams old.number old.seen new.seen goodness word uses.bound bindings bindings (named_at names.named word)
        (λ it named. keeps (named_held it).id) refl (stand.each word uses.bound uses.named uses.still)))
        (λ ended. absurd (cc (ended, uses.still)))
        (λ it is. (it, is, refl))
      where
        back : slice_set names.named word (named_at names.named word) ≡ names.named
        back = set-back names.named word within

        as-pin : (o : Option Named) → HoldIsNamed old.streams old.number new.seen word uses.bound bindings o → HoldIsNamed old.streams old.number new.seen word (as_pin uses.bound) bindings o
        as-pin None is = is
        as-pin (Some it) is = record {
          binding = is.binding;
          found = is.found;
          id_is = is.id_is;
          kind_is = is.kind_is;
          holds = is.holds;
          known = is.known;
          file_is = is.file_is;
          at_is = is.at_is;
          len_is = is.len_is;
        }

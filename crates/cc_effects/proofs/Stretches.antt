-- Stretches of a journal: what others place beside a stretch changes nothing of what the pass placed in it.
use Rattle.std.specs.Prelude.{◌≡◌, ℕ, Bool, true, false, cond, List, [], ◌∷◌, ◌++◌, refl}
use Rattle.std.proofs.Common.{sym, ap, ◌∙◌, append_assoc}
use Rattle.cc_entry.specs.declared.entry.Entry.{Entry}
use Rattle.cc_model.specs.Passes.{is_mine}
use Rattle.cc_effects.specs.Moments.{own, Others, IsIdle, PlacedOnly, EachOwn, AtSome}

pub others-append : (me : ℕ) (xs ys : List Entry) → Others me xs → Others me ys → Others me (xs ++ ys)
others-append me [] ys a b = b
others-append me (x ∷ xs) ys a b = (a.0, others-append me xs ys a.1 b)

-- others' entries are none of the pass's
pub own-others : (me : ℕ) (gap : List Entry) → Others me gap → own me gap ≡ []
own-others me [] others = refl
own-others me (e ∷ gap) others = rw others.0 (own-others me gap others.1)

pub own-after : (me : ℕ) (gap during : List Entry) → Others me gap → own me (gap ++ during) ≡ own me during
own-after me [] during others = refl
own-after me (e ∷ gap) during others = rw others.0 (own-after me gap during others.1)

pub own-before : (me : ℕ) (during gap : List Entry) → Others me gap → own me (during ++ gap) ≡ own me during
own-before me [] gap others = own-others me gap others
own-before me (e ∷ during) gap others = by (is_mine me e) (own-before me during gap others)
  where
    by : (b : Bool) → own me (during ++ gap) ≡ own me during → cond b (e ∷ own me (during ++ gap)) (own me (during ++ gap)) ≡ cond b (e ∷ own me during) (own me during)
    by true rest = ap (λ l. e ∷ l) rest
    by false rest = rest

pub own-append : (me : ℕ) (xs ys : List Entry) → own me (xs ++ ys) ≡ own me xs ++ own me ys
own-append me [] ys = refl
own-append me (e ∷ xs) ys = by (is_mine me e) (own-append me xs ys)
  where
    by : (b : Bool) → own me (xs ++ ys) ≡ own me xs ++ own me ys → cond b (e ∷ own me (xs ++ ys)) (own me (xs ++ ys)) ≡ cond b (e ∷ own me xs) (own me xs) ++ own me ys
    by true rest = ap (λ l. e ∷ l) rest
    by false rest = rest

-- nothing was placed
pub idle-none : (me : ℕ) (past : List Entry) → IsIdle me past past
idle-none me past = record { during = []; grew = refl; others = tt }

-- two stretches in which nothing was placed are one
pub idle-then : (me : ℕ) (old between new : List Entry) → IsIdle me old between → IsIdle me between new → IsIdle me old new
idle-then me old between new first second = record {
  during = second.during ++ first.during;
  grew = second.grew ∙ (ap (λ l. second.during ++ l) first.grew ∙ sym (append_assoc second.during first.during old));
  others = others-append me second.during first.during second.others first.others;
}

-- a journal that grew twice, and grew behind a stretch
pub grew-after : (gap later middle new newer : List Entry) → newer ≡ gap ++ new → new ≡ later ++ middle → newer ≡ (gap ++ later) ++ middle
grew-after gap later middle new newer second first = second ∙ (ap (λ l. gap ++ l) first ∙ sym (append_assoc gap later middle))

pub grew-before : (earlier gap older old : List Entry) → old ≡ gap ++ older → earlier ++ old ≡ (earlier ++ gap) ++ older
grew-before earlier gap older old first = ap (λ l. earlier ++ l) first ∙ sym (append_assoc earlier gap older)

pub only-after : (me : ℕ) (e : Entry) (old new newer : List Entry) → PlacedOnly me e old new → IsIdle me new newer → PlacedOnly me e old newer
only-after me e old new newer only idle = record {
  later = idle.during ++ only.later;
  earlier = only.earlier;
  grew = grew-after idle.during only.later (e ∷ (only.earlier ++ old)) new newer idle.grew only.grew;
  is_own = only.is_own;
  quiet_after = others-append me idle.during only.later idle.others only.quiet_after;
  quiet_before = only.quiet_before;
}

pub only-before : (me : ℕ) (e : Entry) (older old new : List Entry) → IsIdle me older old → PlacedOnly me e old new → PlacedOnly me e older new
only-before me e older old new idle only = record {
  later = only.later;
  earlier = only.earlier ++ idle.during;
  grew = let behind : only.later ++ (e ∷ (only.earlier ++ old)) ≡ only.later ++ (e ∷ ((only.earlier ++ idle.during) ++ older)) = ap (λ l. only.later ++ (e ∷ l)) (grew-before only.earlier idle.during older old idle.grew) in only.grew ∙ behind;
  is_own = only.is_own;
  quiet_after = only.quiet_after;
  quiet_before = others-append me only.earlier idle.during only.quiet_before idle.others;
}

-- a moment of a stretch is one of each longer stretch
pub some-after : (Holds : List Entry → Type 0) (old new gap : List Entry) → AtSome Holds old new → AtSome Holds old (gap ++ new)
some-after Holds old new gap some = record {
  moment = some.moment;
  later = gap ++ some.later;
  since = some.since;
  ends = ap (λ l. gap ++ l) some.ends ∙ sym (append_assoc gap some.later some.moment);
  begins = some.begins;
  holds = some.holds;
}

pub some-before : (Holds : List Entry → Type 0) (older gap new : List Entry) → AtSome Holds (gap ++ older) new → AtSome Holds older new
some-before Holds older gap new some = record {
  moment = some.moment;
  later = some.later;
  since = some.since ++ gap;
  ends = some.ends;
  begins = some.begins ∙ sym (append_assoc some.since gap older);
  holds = some.holds;
}

-- the moment at which a stretch ends
pub some-end : (Holds : List Entry → Type 0) (during old : List Entry) → Holds (during ++ old) → AtSome Holds old (during ++ old)
some-end Holds during old holds = record { moment = during ++ old; later = []; since = during; ends = refl; begins = refl; holds = holds }

-- the moment at which it begins
pub some-begin : (Holds : List Entry → Type 0) (during old : List Entry) → Holds old → AtSome Holds old (during ++ old)
some-begin Holds during old holds = record { moment = old; later = during; since = []; ends = refl; begins = refl; holds = holds }

pub each-others : (me : ℕ) (May : List Entry → Entry → Type 0) (gap old : List Entry) → Others me gap → EachOwn me May gap old
each-others me May [] old others = tt
each-others me May (e ∷ gap) old others = ((λ is. absurd (cc (is, others.0))), each-others me May gap old others.1)

pub each-append : (me : ℕ) (May : List Entry → Entry → Type 0) (later during old : List Entry) → EachOwn me May later (during ++ old) → EachOwn me May during old → EachOwn me May (later ++ during) old
each-append me May [] during old second first = first
each-append me May (e ∷ later) during old second first =
    ((λ is. rw (append_assoc later during old) (second.0 is)), each-append me May later during old second.1 first)

pub each-implies : (me : ℕ) (May Might : List Entry → Entry → Type 0) → ((past : List Entry) (e : Entry) → May past e → Might past e) → (during old : List Entry) → EachOwn me May during old → EachOwn me Might during old
each-implies me May Might implies [] old each = tt
each-implies me May Might implies (e ∷ during) old each =
    ((λ is. implies (during ++ old) e (each.0 is)), each-implies me May Might implies during old each.1)

-- The transfers that a pass began in one stretch after another, and in longer stretches.
use Rattle.std.specs.Prelude.{◌≡◌, ℕ, ◌≤◌, Bool, true, false, cond, List, [], ◌∷◌, ◌++◌, refl}
use Rattle.std.proofs.Common.{ap, sym, ◌∙◌, subst, append_assoc, arith}
use Rattle.cc_entry.specs.Place.{Page}
use Rattle.cc_entry.specs.declared.call.Call.{Call}
use Rattle.cc_entry.specs.declared.entry.Entry.{Entry}
use Rattle.cc_entry.specs.declared.entry.Entry.TheVariants as entry
use Rattle.cc_model.specs.Passes.{is_mine}
use Rattle.cc_effects.specs.Asked.{Calls, may_write}
use Rattle.cc_effects.specs.Begins.{AscendWithin, BeginsNone, BeginsAscending}
use Rattle.cc_effects.specs.Moments.{own, EachOwn, IsIdle}
use Rattle.cc_effects.specs.PageWrites.{pages_begun}
use Rattle.cc_effects.specs.Places.{MayPlace}
use Rattle.cc_effects.proofs.Stretches.{grew-after, grew-before, own-after, own-append, own-before, own-others}

begun-append : (xs ys : List Entry) → pages_begun (xs ++ ys) ≡ pages_begun xs ++ pages_begun ys
begun-append [] ys = refl
begun-append (entry.WriteBegin pass page ∷ xs) ys = ap (λ l. page ∷ l) (begun-append xs ys)
begun-append (other ∷ xs) ys = begun-append xs ys

begun-own : (me : ℕ) (xs ys : List Entry) → pages_begun (own me (xs ++ ys)) ≡ pages_begun (own me xs) ++ pages_begun (own me ys)
begun-own me xs ys = ap pages_begun (own-append me xs ys) ∙ begun-append (own me xs) (own me ys)

-- pages that ascend, and further ones that go on from there
ascend-rise : (low mid high : ℕ) (pages : List Page) → mid ≤ high → AscendWithin low mid pages → AscendWithin low high pages
ascend-rise low mid high [] more within = omega (arith, more, within)
ascend-rise low mid high (page ∷ pages) more within = (omega (arith, more, within.0), within.1)

ascend-append : (low mid high : ℕ) (later earlier : List Page) → AscendWithin low mid earlier → AscendWithin mid high later → AscendWithin low high (later ++ earlier)
ascend-append low mid high [] earlier before after = ascend-rise low mid high earlier after before
ascend-append low mid high (page ∷ later) earlier before after = (after.0, ascend-append low mid page.page later earlier before after.1)

-- nothing was placed, or an entry of a call
pub none-idle : (me : ℕ) (old new : List Entry) → IsIdle me old new → BeginsNone me old new
none-idle me old new idle = record { during = idle.during; grew = idle.grew; none = ap pages_begun (own-others me idle.during idle.others) }

pub none-behind : (me : ℕ) (e : Entry) (old new : List Entry) → pages_begun (e ∷ []) ≡ [] → BeginsNone me old new → BeginsNone me old (e ∷ new)
none-behind me e old new none is = record {
  during = e ∷ is.during;
  grew = ap (λ l. e ∷ l) is.grew;
  none = begun-own me (e ∷ []) is.during ∙ (ap (λ l. l ++ pages_begun (own me is.during)) (by (is_mine me e)) ∙ is.none);
}
  where
    by : (b : Bool) → pages_begun (cond b (e ∷ []) []) ≡ []
    by true = none
    by false = refl

pub none-then : (me : ℕ) (old between new : List Entry) → BeginsNone me old between → BeginsNone me between new → BeginsNone me old new
none-then me old between new first second = record {
  during = second.during ++ first.during;
  grew = second.grew ∙ (ap (λ l. second.during ++ l) first.grew ∙ sym (append_assoc second.during first.during old));
  none = begun-own me second.during first.during ∙ (ap (λ l. l ++ pages_begun (own me first.during)) second.none ∙ first.none);
}

-- no transfers ascend, and those of one stretch after another
pub ascend-none : (me low high : ℕ) (old new : List Entry) → low ≤ high → BeginsNone me old new → BeginsAscending me low high old new
ascend-none me low high old new within is = record { during = is.during; grew = is.grew; ascend = subst (λ (l : List Page). AscendWithin low high l) (sym is.none) within }

pub ascend-then : (me low mid high : ℕ) (old between new : List Entry) → BeginsAscending me low mid old between → BeginsAscending me mid high between new → BeginsAscending me low high old new
ascend-then me low mid high old between new first second = record {
  during = second.during ++ first.during;
  grew = second.grew ∙ (ap (λ l. second.during ++ l) first.grew ∙ sym (append_assoc second.during first.during old));
  ascend = subst (λ (l : List Page). AscendWithin low high l) (sym (begun-own me second.during first.during))
      (ascend-append low mid high (pages_begun (own me second.during)) (pages_begun (own me first.during)) first.ascend second.ascend);
}

-- a call that may write no page begins none
pub none-works : (me : ℕ) (it : Call) (during old : List Entry) → ((page : Page) (past : List Entry) → may_write (Calls it) page past ≡ false) → EachOwn me (MayPlace me (Calls it) old) during old → pages_begun (own me during) ≡ []
none-works me it [] old never each = refl
none-works me it (entry.WriteBegin pass page ∷ during) old never each = by (is_mine me (entry.WriteBegin pass page)) refl (none-works me it during old never each.1)
  where
    by : (b : Bool) → is_mine me (entry.WriteBegin pass page) ≡ b → pages_begun (own me during) ≡ [] → pages_begun (cond b (entry.WriteBegin pass page ∷ own me during) (own me during)) ≡ []
    by true mine rest = absurd (cc (never page (during ++ old), each.0 mine))
    by false mine rest = rest
none-works me it (other ∷ during) old never each = by (is_mine me other) (none-works me it during old never each.1)
  where
    by : (b : Bool) → pages_begun (own me during) ≡ [] → pages_begun (cond b (other ∷ own me during) (own me during)) ≡ []
    by true rest = rest
    by false rest = rest

-- what others place beside a stretch changes nothing of it
pub ascend-after : (me low high : ℕ) (old new newer : List Entry) → BeginsAscending me low high old new → IsIdle me new newer → BeginsAscending me low high old newer
ascend-after me low high old new newer begun idle = record {
  during = idle.during ++ begun.during;
  grew = grew-after idle.during begun.during old new newer idle.grew begun.grew;
  ascend = subst (λ l. AscendWithin low high (pages_begun l)) (sym (own-after me idle.during begun.during idle.others)) begun.ascend;
}

pub ascend-before : (me low high : ℕ) (older old new : List Entry) → IsIdle me older old → BeginsAscending me low high old new → BeginsAscending me low high older new
ascend-before me low high older old new idle begun = record {
  during = begun.during ++ idle.during;
  grew = begun.grew ∙ grew-before begun.during idle.during older old idle.grew;
  ascend = subst (λ l. AscendWithin low high (pages_begun l)) (sym (own-before me begun.during idle.during idle.others)) begun.ascend;
}

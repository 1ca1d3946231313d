-- What is kept of a stream stands after a done call, by its valid data length and its pages.
use Rattle.std.proofs.Common.{◌≡◌, ℕ, true, List, ◌∷◌, Option, None, Some, Result, Ok, Err, OnOk, refl, sym, ap, subst, ◌∙◌, true≢false}
use Rattle.cc_entry.specs.declared.call.Call.{Call}
use Rattle.cc_entry.specs.declared.reply.Reply.{Reply}
use Rattle.cc_views.specs.Views.{MappedViews}
use Rattle.cc_model.specs.Acts.{Act, act_of, Stamps, Looks}
use Rattle.cc_model.specs.History.{Effect, Did}
use Rattle.cc_model.specs.Touches.{valid_of, is_mapped}
use Rattle.cc_laws.proofs.SizeSteps.{sizes-stamps, sizes-looks, sizes-closes_kept}
use Rattle.cc_content.specs.Contents.{Contents, ContentsStand, MapStands, PagesStand}
use Rattle.cc_content.specs.Done.{is_look}
use Rattle.cc_content.specs.Following.{Finds, FindsOpen}
use Rattle.cc_content.proofs.Kept.{pages_stand, no_map}
use Rattle.cc_content.proofs.LooksStand.{stands-closed}

-- a look leaves the valid data length
pub valid-looks : (h : List Effect) (pass : ℕ) (call : Call) (reply : Reply) → is_look (act_of call) ≡ true
    → valid_of (Did pass call reply ∷ h) ≡ valid_of h
valid-looks h pass call reply looks = by (act_of call) refl looks
  where
    by : (a : Act) → act_of call ≡ a → is_look a ≡ true → valid_of (Did pass call reply ∷ h) ≡ valid_of h
    by Looks is k = ap (λ s. s.valid) (sizes-looks pass call reply h is)
    by (Stamps hold lsn) is k = ap (λ s. s.valid) (sizes-stamps pass call reply h is)
    by other is k = absurd (true≢false (sym k))

module _ (opening : Option (ℕ → List ℕ)) (h : List Effect) (pass : ℕ) (call : Call) (reply : Reply)
    (c : Contents) (finds : Finds opening h pass call reply c) where
  -- the pages that are kept stand, and there is a map after the call
  pub found : (m : MappedViews) → c.pages ≡ Some m → PagesStand opening h m
  found m is = pages_stand opening h c m finds.stands is

  pub found-mapped : (m : MappedViews) → c.pages ≡ Some m → is_mapped (Did pass call reply ∷ h) ≡ true
  found-mapped m is =
      let was = found m is in
      finds.same_map ∙ was.mapped

  -- with pages kept, and with none
  pub done-mapped : (m : MappedViews) (valid : ℕ) → valid ≡ valid_of (Did pass call reply ∷ h)
      → PagesStand opening (Did pass call reply ∷ h) m
      → ContentsStand opening (Did pass call reply ∷ h) (record { valid = valid; pages = Some m })
  done-mapped m valid is stands = record { valid_is = is; map_is = stands }

  pub done-unmapped : (valid : ℕ) → c.pages ≡ None → valid ≡ valid_of (Did pass call reply ∷ h)
      → ContentsStand opening (Did pass call reply ∷ h) (record { valid = valid; pages = None })
  done-unmapped valid none is =
      record { valid_is = is; map_is = finds.same_map ∙ no_map opening h c finds.stands none }

-- an uninitialise that sets no size, where the map stays
pub closed-kept : (opening : Option (ℕ → List ℕ)) (h : List Effect) (pass : ℕ) (call : Call) (reply : Reply)
    (c : Contents) → FindsOpen opening h call None c → is_mapped (Did pass call reply ∷ h) ≡ true
    → ContentsStand opening (Did pass call reply ∷ h) c
closed-kept opening h pass call reply c finds mapped =
    record {
      valid_is =
          finds.stands.valid_is
          ∙ sym (ap (λ s. s.valid) (sizes-closes_kept pass call reply h finds.is finds.cut_is));
      map_is = by c.pages refl;
    }
  where
    by : (o : Option MappedViews) → c.pages ≡ o → MapStands opening (Did pass call reply ∷ h) c.pages
    by None none = absurd (true≢false (sym finds.was_mapped ∙ no_map opening h c finds.stands none))
    by (Some m) some =
        subst (MapStands opening (Did pass call reply ∷ h)) (sym some)
        (stands-closed opening h pass call reply m (pages_stand opening h c m finds.stands some) finds.is
        finds.cut_is mapped)

-- what is ensured of a result follows from what else is
pub where_ok : {T E : Type 0} (r : Result T E) (A B : Type 0) → (A → B) → OnOk r A → OnOk r B
where_ok (Ok x) A B goes a = goes a
where_ok (Err e) A B goes a = tt

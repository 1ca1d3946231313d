-- The steps of the write of a page on its book, until the page is ready to be stored.
use Rattle.std.specs.Prelude.{◌≡◌, ℕ, ◌+◌, ◌-◌, ◌*◌, ◌/◌, ◌<◌, ◌≤◌, Bool, true, false, not, ◌==◌, min, List, [], ◌∷◌, Some, Result, Ok, Err, refl}
use Rattle.std.specs.List.{find, range_with_len}
use Rattle.std.proofs.Common.{ap, ◌∙◌, arith}
use Rattle.std.proofs.lemmas.Bool.{eq-eqb, lt-ltb}
use Rattle.cc_entry.specs.Pages.{block_of, pages_of}
use Rattle.cc_entry.specs.Place.{File}
use Rattle.cc_entry.specs.declared.call.Call.{Call}
use Rattle.cc_entry.specs.declared.call.Call.TheVariants as call
use Rattle.cc_entry.specs.declared.error.CcError.{CcError}
use Rattle.cc_book.specs.Book.{BookState}
use Rattle.cc_step.specs.Fill.{MakeRoomLeft, MakesWay}
use Rattle.cc_step.specs.Room.{IsCrowded, has_room}
use Rattle.cc_step.specs.declared.ways.Way.{Way}
use Rattle.cc_step.specs.declared.ways.Way.TheVariants as way
use Rattle.cc_step.proofs.Rooms.{full, room-within}
use Rattle.cc_journal.specs.Journal.{JournalState}
use Rattle.cc_laws.proofs.Lists1.{among-any}
use Rattle.cc_model.specs.History.{Effect, history}
use Rattle.cc_model.specs.Residency.{block_is_mapped, is_resident, residents}
use Rattle.cc_model.specs.Setup.{Setup}
use Rattle.cc_model.specs.Sizes.{stored_range}
use Rattle.cc_model.specs.Touches.{size_of}
use Rattle.cc_step.specs.Step.{least_absent}
use Rattle.cc_step.proofs.Placed.{so-far}
use Rattle.cc_ranges.specs.WriteSteps.{WriteHasRoom, MayMakeRoom, WriteNextLeft, next_of}
use Rattle.cc_ranges.proofs.Goods.{below-size}

-- the pages of the range of a page's write
pages-stored : (page size : ℕ) → 4096 * page < size → pages_of (stored_range page size) ≡ page ∷ []
pages-stored page size below =
    rw (lt-ltb (4096 * page) size below) (go (min (4096 * page + 4096) size) (omega (arith, below)) (omega arith))
  where
    go : (to : ℕ) → 4096 * page < to → to ≤ 4096 * page + 4096 → pages_of (record { from = 4096 * page; to = to }) ≡ page ∷ []
    go to low high =
        let one : ((to - 1) / 4096 + 1) - 4096 * page / 4096 ≡ 1 = omega (arith, low, high) in
        let first : 4096 * page / 4096 ≡ page = omega arith in
        rw (lt-ltb (4096 * page) to low)
        (ap (range_with_len (4096 * page / 4096)) one ∙ ap (λ p. p ∷ []) first)

-- where its block is not mapped, the page is not resident
unmapped-absent : (h : List Effect) (page : ℕ) → block_is_mapped h (block_of page) ≡ false → is_resident h page ≡ false
unmapped-absent h page unmapped = go (is_resident h page) refl
  where
    go : (b : Bool) → is_resident h page ≡ b → is_resident h page ≡ false
    go true there = absurd (cc (among-any (λ p. block_of p == block_of page) page (residents h) there (eq-eqb (block_of page) (block_of page) refl), unmapped))
    go false is = is

module _ {Q : Type 0} (u : Setup) (pass : ℕ) (file : File) (page : ℕ) (b : BookState) (j : JournalState Q) (may : MayMakeRoom u pass file page b j) where
  abbrev it : Call
  it = call.NcWrite file page

  abbrev h : List Effect
  h = history j.entries b.stream

  pub here-is : file.stream ≡ b.stream
  here-is = let is : Some b.stream ≡ Some file.stream = may.may.may.filed in cc

  pub ready-here : has_room h page ≡ true → WriteHasRoom u file page b b j j
  ready-here room = record {
    ready = record {
      here = here-is;
      admitted = may.admitted;
      in_quota = room-within u j.entries b.stream page (so-far u j.entries may.may.may.stand.good) room;
    };
    same_book = refl;
    same_journal = refl;
  }

  pub crowded-here : has_room h page ≡ false → IsCrowded u j.entries it page b
  crowded-here none = record {
    good = may.may.may.stand.good;
    stands = may.may.may.stand.stands;
    waits = record { admitted = may.admitted; least = least };
    full = none;
  }
    where
      absent : is_resident h page ≡ false
      absent = unmapped-absent h page (full u j.entries b.stream page (so-far u j.entries may.may.may.stand.good) none).unmapped

      first : (ps : List ℕ) → ps ≡ page ∷ [] → find (λ p. not (is_resident h p)) ps ≡ Some page
      first ps is = rw (is, absent) refl

      least : least_absent h (Some (stored_range page (size_of h))) ≡ Some page
      least = first (pages_of (stored_range page (size_of h))) (pages-stored page (size_of h) (below-size u j.entries h file page may.admitted))

  -- the step that makes room
  pub made-room : (made : Result Way CcError) (c : BookState) (k : JournalState Q) → MakesWay made → MakeRoomLeft u pass it made b c j k → WriteNextLeft u pass file page (next_of made) b c j k
  made-room (Ok (way.WentOut again)) c k makes left = (again, left)
  made-room (Ok (way.Writes dirty again)) c k makes left = (again, left)
  made-room (Ok (way.Reads dirty again)) c k makes left = absurd makes
  made-room (Err e) c k makes left = (left.0, left.1)

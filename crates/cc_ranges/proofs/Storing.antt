-- The store of a page on a book and a journal, and the visit in which it is placed.
use Rattle.std.specs.Prelude.{◌≡◌, ◌⊎◌, ◌↔◌, ℕ, suc, ◌+◌, ◌-◌, ◌≤◌, ◌<◌, nat_le, Bool, true, false, List, [], ◌∷◌, length, Result, Ok, Err, IsErrOf, None, refl}
use Rattle.std.proofs.Common.{ap, sym, ◌∙◌, subst, arith, inl, inr, ⊎_elim}
use Rattle.std.proofs.lemmas.Bool.{eq-eqb, leb-true, leb-false}
use Rattle.cc_entry.specs.Place.{File, Page}
use Rattle.cc_entry.specs.declared.call.Call.TheVariants as call
use Rattle.cc_entry.specs.declared.entry.Entry.{Entry}
use Rattle.cc_entry.specs.declared.entry.Entry.TheVariants as entry
use Rattle.cc_entry.specs.declared.error.CcError.{CcError}
use Rattle.cc_entry.specs.declared.error.CcError.TheVariants as error
use Rattle.cc_book.specs.Book.{BookState, BookStands, StandsAsBefore, Stays}
use Rattle.cc_book.specs.Stored.{MayStoreAndBegin, GainsStore, store_done}
use Rattle.cc_dirty.specs.declared.row.Row.{Row}
use Rattle.cc_journal.specs.Calls.{owed_end}
use Rattle.cc_journal.specs.Journal.{JournalState, room_of}
use Rattle.cc_laws.proofs.TurnSteps.{is_quiet-append}
use Rattle.cc_model.specs.Conditions.{MayStore}
use Rattle.cc_model.specs.Covered.{IsLogged}
use Rattle.cc_model.specs.Good.{IsGood}
use Rattle.cc_model.specs.History.{history}
use Rattle.cc_model.specs.Images.{open_of}
use Rattle.cc_model.specs.Refusals.{refusal}
use Rattle.cc_model.specs.Room.{reserved_in}
use Rattle.cc_model.specs.Setup.{Setup}
use Rattle.cc_model.specs.Turns.{Turn, is_quiet}
use Rattle.cc_step.specs.Step.{StandUnder}
use Rattle.cc_step.proofs.Reserved.{owed-least}
use Rattle.cc_step.proofs.Placed.{so-far}
use Rattle.cc_turns.specs.Standing.{Standing, holds}
use Rattle.cc_turns.specs.Journal.{JournalStands}
use Rattle.cc_turns.specs.Takes.{Grows, AddsEvent, without_journal}
use Rattle.cc_writes.specs.Hands.{HasBook, IsAtRest, WentWith}
use Rattle.cc_writes.specs.Ways.{IsFull}
use Rattle.cc_writes.proofs.Replies.{full-stopped}
use Rattle.cc_writes.specs.Logs.{IsStopAt}
use Rattle.cc_writes.proofs.Beginning.{want-stop}
use Rattle.cc_writes.proofs.OneVisit.{Visiting, Visited, visited, stepping-none}
use Rattle.cc_writes.proofs.Quiet.{holds_no_journal, holds_the_book, history-kept, stands-same, flushed_to-grows, logged-kept, book-after}
use Rattle.cc_writes.proofs.Placed.{quiet-page}
use Rattle.cc_ranges.specs.Stores.{IsReadyToStore, MayStoreHere, IsStored, IsUnstored, IsTightStore, IsTightUnkept, StoredLeft, HasStored, StoreLeft, kept_in, places_kept, with_store}
use Rattle.cc_ranges.proofs.Goods.{good-with_store, reserved-with_store}

module _ {Q : Type 0} (u : Setup) (pass : ℕ) (file : File) (page : Page) (bytes : List ℕ) (b : BookState) (j : JournalState Q)
    (here : page.stream ≡ b.stream) (may : MayStoreHere u pass file page bytes b j) where
  pub good-here : IsGood u (with_store pass file page bytes j.entries)
  good-here = good-with_store u j.entries pass file page bytes may.stand.good may.ready may.may

  pub may-store : MayStoreAndBegin u j.entries pass file page bytes b
  may-store = record { good = so-far u (with_store pass file page bytes j.entries) good-here; stands = may.stand.stands }

  -- the place of another write's end that the pass owes is among those that are reserved
  pub has-owed : (r x : JournalState Q) (kept : Bool) (places owed : ℕ) → places ≡ 4 + places_kept kept → r ≡ record j { reserved = j.reserved + places } → GainsStore pass file page bytes r x → owed ≡ owed_end j.entries pass → owed ≤ x.reserved
  has-owed r x kept places owed four more gains is = within _ _ _ _ _ _ places (places_kept kept) four (ap (λ y. y.reserved) gains) (ap (λ y. y.reserved) more) is (owed-least j.entries pass) may.owed
    where
      within : (there before here owed least reserved n p : ℕ) → n ≡ 4 + p → there ≡ before - 2 → before ≡ reserved + n → here ≡ owed → owed ≤ least → least ≤ reserved → here ≤ there
      within there before here owed least reserved n p z a b c d e = omega (arith, z, a, b, c, d, e)

  -- it was stored, with its places reserved before
  pub stored-here : (c : BookState) (r x k : JournalState Q) (kept : Bool) (places owed : ℕ) → kept ≡ nat_le 5 (room_of j) → places ≡ 4 + places_kept kept → r ≡ record j { reserved = j.reserved + places } → GainsStore pass file page bytes r x → owed ≡ owed_end j.entries pass → k ≡ record x { reserved = x.reserved - owed } → c.stream ≡ b.stream → BookStands (u.opening b.stream) x.entries c → IsStored u pass file page bytes kept c j k
  stored-here c r x k kept places owed roomy four more gains is back stream stands =
      let there : x ≡ record j { entries = with_store pass file page bytes j.entries; reserved = j.reserved + (2 + places_kept kept); rows = x.rows } =
      gains
      ∙ (ap (λ (y : JournalState Q). record y { entries = with_store pass file page bytes y.entries; reserved = y.reserved - 2; rows = x.rows }) more
      ∙ ap (λ (n : ℕ). record j { entries = with_store pass file page bytes j.entries; reserved = n; rows = x.rows }) (two j.reserved places (places_kept kept) four)) in
      let rows : k.rows ≡ x.rows = ap (λ y. y.rows) back in
      let placed : k ≡ record j { entries = with_store pass file page bytes j.entries; reserved = (j.reserved + (2 + places_kept kept)) - owed_end j.entries pass; rows = k.rows } =
      back
      ∙ (ap (λ (y : JournalState Q). record y { reserved = y.reserved - owed; rows = x.rows }) there
      ∙ (ap (λ (n : ℕ). record j { entries = with_store pass file page bytes j.entries; reserved = (j.reserved + (2 + places_kept kept)) - n; rows = x.rows }) is
      ∙ ap (λ (l : List Row). record j { entries = with_store pass file page bytes j.entries; reserved = (j.reserved + (2 + places_kept kept)) - owed_end j.entries pass; rows = l }) (sym rows))) in
      record {
        placed = placed;
        stand = record {
          good = rw (ap (λ y. y.entries) placed) good-here;
          stands = subst (λ (n : ℕ). BookStands (u.opening n) k.entries c) (sym stream) (rw (ap (λ y. y.entries) back) stands);
          logs_are = may.stand.logs_are ∙ sym (ap (λ y. y.logs) placed);
          threshold_is = may.stand.threshold_is ∙ sym (ap (λ y. y.threshold) placed);
        };
        tight = λ unkept. leb-false 5 (room_of j) (sym roomy ∙ unkept);
      }
    where
      two : (n m p : ℕ) → m ≡ 4 + p → (n + m) - 2 ≡ n + (2 + p)
      two n m p four = omega (arith, four)

  stand-kept : (c : BookState) (k : JournalState Q) → k ≡ j → StandsAsBefore b c → StandUnder u c k
  stand-kept c k same kept =
      subst (λ (x : JournalState Q). StandUnder u c x) (sym same)
      (record {
        good = may.stand.good;
        stands = subst (λ (n : ℕ). BookStands (u.opening n) j.entries c) (sym kept.stream) (kept.stands j.entries (u.opening b.stream) may.stand.stands);
        logs_are = may.stand.logs_are;
        threshold_is = may.stand.threshold_is;
      })

  -- no memory was found, and the places were given back
  pub unstored-here : (c : BookState) (r x k : JournalState Q) (places : ℕ) → r ≡ record j { reserved = j.reserved + places } → Stays r x b c → k ≡ record x { reserved = x.reserved - places } → IsUnstored u error.NoMemory c j k
  unstored-here c r x k places more stays back =
      let same : k ≡ j =
      back
      ∙ (ap (λ (y : JournalState Q). record y { reserved = y.reserved - places }) (stays.0 ∙ more)
      ∙ ap (λ (n : ℕ). record j { reserved = n }) (less j.reserved places)) in
      record { cause = inr refl; same = same; stand = stand-kept c k same stays.1 }
    where
      less : (n m : ℕ) → (n + m) - m ≡ n
      less n m = omega arith

  -- or not all places could be reserved, so that there was no room for the four
  pub no-room-here : (e : CcError) (k : JournalState Q) (kept : Bool) (places : ℕ) → kept ≡ nat_le 5 (room_of j) → places ≡ 4 + places_kept kept → (e ≡ error.JournalFull (length j.entries)) ⊎ (e ≡ error.NoMemory) → (IsErrOf {T = Unit {0}} {E = CcError} (Err e) (error.JournalFull (length j.entries)) ↔ (room_of j < places)) → k ≡ j → IsUnstored u e b j k
  no-room-here e k kept places roomy four causes full same = record {
    cause = ⊎_elim (λ is. inl (is, four-short kept roomy four (full.0 (as-err e (error.JournalFull (length j.entries)) is)))) (λ is. inr is) causes;
    same = same;
    stand = stand-kept b k same (record { stream = refl; stands = λ past opening stands. stands });
  }
    where
      as-err : (x y : CcError) → x ≡ y → IsErrOf {T = Unit {0}} {E = CcError} (Err x) y
      as-err x y is =
          let f : CcError → Result (Unit {0}) CcError = λ z. Err z in
          ap f is

      four-short : (kept : Bool) → kept ≡ nat_le 5 (room_of j) → places ≡ 4 + places_kept kept → room_of j < places → room_of j < 4
      four-short true roomy four short = let much = leb-true 5 (room_of j) (sym roomy) in absurd (omega (arith, much, four, short))
      four-short false roomy four short = omega (arith, four, short)

-- a noncached write is refused by the history of its stream alone
pub refusal-history : (u : Setup) (past now : List Entry) (file : File) (page s : ℕ) → history now s ≡ history past s → refusal u past (history past s) (call.NcWrite file page) ≡ None → refusal u now (history now s) (call.NcWrite file page) ≡ None
unfolding refusal
refusal-history u past now file page s same none = rw same none

-- a store that found no room found the journal full as the pass gave it
full-unstored : {Q : Type 0} (posted : Q → Bool) (w : Standing) (k : JournalState Q) (e : CcError) → JournalStands posted w k → IsStopAt 4 k e → IsFull {A = Bool} 4 w (Err e)
full-unstored posted w k e stands stop = full-stopped Bool posted 4 w k e stands (⊎_elim (λ full. inl full) (λ none. inr (none, some)) stop)
  where
    some : 0 < 4
    some = omega arith

-- at most one place is kept
pub kept-few : (result : Result Bool CcError) → kept_in result ≤ 1
kept-few (Ok true) = omega arith
kept-few (Ok false) = omega arith
kept-few (Err e) = omega arith

-- What the pass gives after the store, and how it goes on.
pub record Storing {Q : Type 0} (posted : Q → Bool) (w v : Standing) (file : File) (page : Page) (bytes : List ℕ) (result : Result Bool CcError) (c : BookState) (k : JournalState Q) : Type 0 where
  pub adds : AddsEvent v k.entries
  pub journal : JournalStands posted (without_journal k v) k
  pub book : HasBook (without_journal k v) page.stream c
  pub went : WentWith (kept_in result) w (without_journal k v)
  pub left : StoreLeft w file page bytes result k.entries
  pub full : IsFull 4 (without_journal k v) result
  pub tight : IsTightUnkept w v.most_others file page result k.entries

module _ {Q : Type 0} (posted : Q → Bool) (w v : Standing) (file : File) (page : Page) (bytes : List ℕ) (b : BookState) (j : JournalState Q)
    (has : HasBook w page.stream b) (rest : IsAtRest w page.stream) (whole : length bytes ≡ 4096) (ready : IsReadyToStore w.setup w.seen file page)
    (logged : IsLogged w.seen page.stream page.page) (vis : Visiting posted w v j) where
  same : history j.entries page.stream ≡ history w.seen page.stream
  same = history-kept w page.stream j.entries (holds_the_book w page.stream b has) rest.device vis.grows

  stands : BookStands (w.setup.opening page.stream) j.entries b
  stands = stands-same (w.setup.opening page.stream) w.seen j.entries b (subst (λ (n : ℕ). history j.entries n ≡ history w.seen n) (sym has.stream) same) has.stands

  setup_is : v.setup ≡ w.setup
  setup_is = ap (λ x. x.setup) vis.taken.same

  pub ready-now : IsReadyToStore w.setup j.entries file page
  ready-now = record {
    here = ready.here;
    admitted = refusal-history w.setup w.seen j.entries file page.page page.stream same ready.admitted;
    in_quota = rw same ready.in_quota;
  }

  may-now : MayStore j.entries page.stream page.page bytes
  may-now = record {
    whole_page = whole;
    no_transfer = ap open_of same ∙ rest.no_transfer;
    in_quota = rw same ready.in_quota;
    logged = logged-kept w.seen j.entries page.stream page.page same (λ handle. flushed_to-grows w j.entries handle vis.grows) logged;
  }

  pub may-visit : (pass : ℕ) → pass ≡ w.number → MayStoreHere w.setup pass file page bytes b j
  may-visit pass me = record {
    stand = record {
      good = vis.good;
      stands = subst (λ (n : ℕ). BookStands (w.setup.opening n) j.entries b) (sym has.stream) stands;
      logs_are = ap (λ u. u.logs) (sym setup_is) ∙ sym vis.journal.logs_are;
      threshold_is = ap (λ u. u.threshold) (sym setup_is) ∙ sym vis.journal.threshold_is;
    };
    ready = ready-now;
    may = may-now;
    owed = enough j.reserved (reserved_in j.entries) w.in_flight v.others vis.reserved_is;
  }
    where
      enough : (n owed mine others : ℕ) → n ≡ owed + mine + others → owed ≤ n
      enough n owed mine others is = omega (arith, is)

  module _ (pass : ℕ) (me : pass ≡ w.number) (known : page.stream < 16) (none : w.in_flight ≡ 0) (few : v.others ≤ v.most_others) (c : BookState) (k : JournalState Q) (stream : c.stream ≡ b.stream) where
    module _ (kept : Bool) (is : IsStored w.setup pass file page bytes kept c j k) where
      entries : k.entries ≡ with_store pass file page bytes j.entries
      entries = ap (λ x. x.entries) is.placed

      placed : HasStored w file page bytes k.entries
      placed = record { front = j.entries; grows = vis.grows; good = vis.good; placed = entries ∙ ap (λ (n : ℕ). with_store n file page bytes j.entries) me }

      abbrev begin : Entry
      begin = entry.WriteBegin pass page

      abbrev store : Entry
      store = store_done pass j.entries file page bytes

      quiet : (t : Turn) → holds (record w.held { journal = true }) t ≡ false → is_quiet t (begin ∷ store ∷ []) ≡ true
      quiet t free =
          is_quiet-append t (begin ∷ []) (store ∷ [])
          (quiet-page (record w.held { journal = true }) page begin (λ t. refl) (holds_the_book w page.stream b has) rest.device refl t free)
          (quiet-page (record w.held { journal = true }) page store (λ t. refl) (holds_the_book w page.stream b has) rest.device refl t free)

      given : Visited posted w v (places_kept kept) k
      given = visited posted w v (places_kept kept) (begin ∷ store ∷ []) j k (holds_no_journal w page.stream b has) vis (record {
        kept = is.placed ∙ ap (λ (n : ℕ). record j { entries = with_store pass file page bytes j.entries; reserved = n; rows = k.rows }) (sym (ap (λ x. x.reserved) is.placed));
        good = is.stand.good;
        event = refl;
        own = (eq-eqb pass w.number me, (eq-eqb pass w.number me, tt));
        held = quiet;
        reserved = ap (λ x. x.reserved) is.placed
            ∙ (more j.reserved (reserved_in j.entries) (reserved_in (with_store pass file page bytes j.entries)) (owed_end j.entries pass) w.in_flight (places_kept kept) v.others vis.reserved_is
            none (reserved-with_store w.setup j.entries pass file page bytes vis.good ready-now may-now known)
            ∙ ap (λ (n : ℕ). n + places_kept kept + v.others) (sym (ap reserved_in entries)));
      })
        where
          more : (n before after owed mine kept others : ℕ) → n ≡ before + mine + others → mine ≡ 0 → owed + after ≡ suc (suc before) → (n + (2 + kept)) - owed ≡ after + kept + others
          more n before after owed mine kept others is none grown = omega (arith, is, none, grown)

      -- where no place is kept, there was room for less than five entries
      tight-here : kept ≡ false → IsTightStore w.setup v.most_others w.number file page k.entries
      unfolding placed
      tight-here unkept = record {
        bytes = bytes;
        front = j.entries;
        placed = placed.placed;
        tight = short w.setup.capacity j.capacity (length j.entries) j.reserved (reserved_in j.entries) w.in_flight v.others v.most_others
            (vis.journal.capacity_is ∙ ap (λ (x : Setup). x.capacity) setup_is) vis.reserved_is none few (is.tight unkept);
      }
        where
          short : (capacity its long reserved owed mine others most : ℕ) → its ≡ capacity → reserved ≡ owed + mine + others → mine ≡ 0 → others ≤ most → its - (long + reserved) < 5 → capacity < long + (owed + most) + 5
          short capacity its long reserved owed mine others most a b c d e = omega (arith, a, b, c, d, e)

      tight-unkept : (answered : Bool) → answered ≡ kept → IsTightUnkept w v.most_others file page (Ok answered) k.entries
      tight-unkept true same = tt
      tight-unkept false same = tight-here (sym same)

      pub storing : Storing posted w v file page bytes (Ok kept) c k
      storing = record {
        adds = given.adds;
        journal = given.journal;
        book = book-after (places_kept kept) w (without_journal k v) page.stream b c has given.went (stream ∙ has.stream)
            (subst (λ (n : ℕ). BookStands (w.setup.opening n) k.entries c) (stream ∙ has.stream) is.stand.stands) given.good;
        went = given.went;
        left = placed;
        full = tt;
        tight = tight-unkept kept refl;
      }

    module _ (e : CcError) (un : IsUnstored w.setup e c j k) where
      left-there : Visited posted w v 0 k
      left-there = visited posted w v 0 [] j k (holds_no_journal w page.stream b has) vis
          (stepping-none posted w v 0 j.reserved j k vis un.same (vis.reserved_is ∙ ap (λ (n : ℕ). reserved_in j.entries + n + v.others) none))

      grows : Grows w k.entries
      grows = subst (λ (x : JournalState Q). Grows w x.entries) (sym un.same) vis.grows

      pub not-storing : Storing posted w v file page bytes (Err e) c k
      not-storing = record {
        adds = left-there.adds;
        journal = left-there.journal;
        book = book-after 0 w (without_journal k v) page.stream b c has left-there.went (stream ∙ has.stream)
            (subst (λ (n : ℕ). BookStands (w.setup.opening n) k.entries c) (stream ∙ has.stream) un.stand.stands) left-there.good;
        went = left-there.went;
        left = (grows, want-stop 4 j e un.cause);
        full = full-unstored posted (without_journal k v) k e left-there.journal (subst (λ (x : JournalState Q). IsStopAt 4 x e) (sym un.same) un.cause);
        tight = tt;
      }

    pub stores : (result : Result Bool CcError) → StoredLeft w.setup pass file page bytes result c j k → Storing posted w v file page bytes result c k
    stores (Ok kept) left = storing kept left
    stores (Err e) left = not-storing e left

-- What a call that may be followed finds, by what it does.
use Rattle.std.proofs.Common.{◌≡◌, ℕ, ◌+◌, ◌*◌, ◌<◌, ◌≤◌, ◌^◌, Bool, true, false, nat_eq, nat_lt, nat_le, min, List, ◌∷◌, length, if◌then◌else◌, Option, None, Some, refl, sym, ap, subst, ◌∙◌, true≢false, arith}
use Rattle.std.proofs.lemmas.Bool.{le-ltb, leb-false, ltb-false}
use Rattle.std.specs.List.{IsDistinct}
use Rattle.cc_entry.specs.Pages.{whole_range, blocks_of}
use Rattle.cc_entry.specs.Place.{File, Range}
use Rattle.cc_entry.specs.Queries.{extent_of_query}
use Rattle.cc_entry.specs.declared.call.Call.{Call}
use Rattle.cc_entry.specs.declared.call.Call.TheVariants as call
use Rattle.cc_entry.specs.declared.call.Call.TheVariants.{Uninitialise, PreparePin, NcStore}
use Rattle.cc_entry.specs.declared.entry.Entry.{Entry}
use Rattle.cc_entry.specs.declared.entry.Entry.TheVariants as entry
use Rattle.cc_entry.specs.declared.reply.Outcome.TheVariants as outcome
use Rattle.cc_entry.specs.declared.reply.Reply.{Reply}
use Rattle.cc_entry.specs.declared.reply.Reply.TheVariants as reply
use Rattle.cc_views.specs.Views.{MappedViews}
use Rattle.cc_model.specs.Acts.{Act, act_of, Resizes, Writes, Zeroes, Stores, Stamps, Discards, Looks}
use Rattle.cc_model.specs.Allowed.{IsAllowedSoFar}
use Rattle.cc_model.specs.Conditions.{IsFilled}
use Rattle.cc_model.specs.History.{Effect, Did, history}
use Rattle.cc_model.specs.Objects.{objects, truncation}
use Rattle.cc_model.specs.Ranges.{cut_range, queried_range}
use Rattle.cc_model.specs.Reasons.{past_size}
use Rattle.cc_model.specs.Residency.{all_resident, mapped_blocks_with, blocks_of_range}
use Rattle.cc_model.specs.Settings.{quota_of}
use Rattle.cc_model.specs.Setup.{Setup}
use Rattle.cc_model.specs.Touches.{size_of, valid_of, is_mapped}
use Rattle.cc_laws.proofs.AdmittedCalls.{HasRoom, HasRoomFor, stores_below}
use Rattle.cc_laws.proofs.SafeHistory.{IsActSafe}
use Rattle.cc_laws.proofs.Steady.{needs_no_map}
use Rattle.cc_laws.proofs.UnrefusedCalls.{refuse_if-none}
use Rattle.cc_content.specs.Contents.{Contents, ContentsStand, MapStands}
use Rattle.cc_content.specs.Done.{is_look, UsesBlocks}
use Rattle.cc_content.specs.Filling.{HasRoomAmong}
use Rattle.cc_content.specs.Filling.{HasRoomToKeepPage as HasRoomForPage}
use Rattle.cc_content.specs.Following.{MayFollowContents, Finds, FindsOpen, AllKept, AllMapped, IsCutWithin, truncated_by, span_below, queried_below, looked_range}
use Rattle.cc_content.proofs.Allowed.{all_kept-resident, all_mapped-resident, starts-below, truncation-within, room-for}
use Rattle.cc_content.proofs.DoneFacts.{IsDone, IsDone-good, history-called, valid-within, written-resident, written-fits, written-starts, zeroed-resident, zeroed-fits, zeroed-starts, stored-starts, finds-map, map-resizes, map-writes, map-zeroes, map-stores, map-discards, map-looks, map-stamps}
use Rattle.cc_content.proofs.Orders.{order_of_use-distinct}

-- the facts of a call that may be followed
pub done-of : {u : Setup} {past : List Entry} {pass nth s : ℕ} {call : Call} {reply : Reply} {c : Contents}
    {size : ℕ} {cut : Option ℕ} {mapped : Bool} → MayFollowContents u past pass nth s call reply c size cut mapped
    → IsDone past (history past s) pass call reply
done-of {u} {past} {pass} {nth} {s} {call} {reply} may = IsDone-good u past pass nth s call reply may.good

-- what stands for the history with the call stands for that of the journal with it
pub called : (u : Setup) (past : List Entry) (pass nth s : ℕ) (call : Call) (reply : Reply) (c : Contents)
    → ContentsStand (u.opening s) (Did pass call reply ∷ history past s) c
    → ContentsStand (u.opening s) (history (entry.Call pass nth (Some s) call (outcome.Done reply) ∷ past) s) c
called u past pass nth s call reply c stands =
    subst (λ h. ContentsStand (u.opening s) h c) (sym (history-called past pass nth s call reply)) stands

-- the pages of a range that are resident are kept, where pages are, and its blocks mapped
kept-pages : (opening : Option (ℕ → List ℕ)) (h : List Effect) (o : Option MappedViews) (r : Range)
    → MapStands opening h o → all_resident h r ≡ true → AllKept o r
kept-pages opening h None r stands all = tt
kept-pages opening h (Some m) r stands all = all_kept-resident opening h m stands r all

mapped-pages : (opening : Option (ℕ → List ℕ)) (h : List Effect) (o : Option MappedViews) (r : Range)
    → MapStands opening h o → all_resident h r ≡ true → AllMapped o (Some r)
mapped-pages opening h None r stands all = tt
mapped-pages opening h (Some m) r stands all = all_mapped-resident opening h m stands r all

none-mapped : (o : Option MappedViews) → AllMapped o None
none-mapped None = tt
none-mapped (Some m) = tt

-- the pages of what lies below the size
below-mapped : (opening : Option (ℕ → List ℕ)) (h : List Effect) (o : Option MappedViews) (size at n : ℕ)
    → MapStands opening h o → all_resident h (cut_range size at n) ≡ true → AllMapped o (span_below size at n)
below-mapped opening h o size at n stands all = by (nat_le at (min (at + n) size))
  where
    by : (t : Bool) → AllMapped o (if t then Some (cut_range size at n) else None)
    by true = mapped-pages opening h o (cut_range size at n) stands all
    by false = none-mapped o

below-blocks : (size at n : ℕ) → blocks_of (cut_range size at n) ≡ blocks_of_range (span_below size at n)
below-blocks size at n = by (nat_le at (min (at + n) size)) refl
  where
    by : (t : Bool) → nat_le at (min (at + n) size) ≡ t
        → blocks_of (cut_range size at n) ≡ blocks_of_range (if t then Some (cut_range size at n) else None)
    by true t = refl
    by false t =
        let past : min (at + n) size < at = leb-false at (min (at + n) size) t in
        rw (le-ltb at (min (at + n) size) (under (min (at + n) size) past)) refl
      where
        under : (m : ℕ) → m < at → m ≤ at
        under m k = omega arith

-- a range that ends within the size lies below it
whole-below : (size at n : ℕ) → past_size size (at + n) ≡ None → whole_range at n ≡ cut_range size at n
whole-below size at n within = ap (λ to. record { from = at; to = to }) same
  where
    ends : at + n ≤ size
    ends = ltb-false size (at + n) (refuse_if-none (nat_lt size (at + n)) _ within)

    same : at + n ≡ min (at + n) size
    same = omega (arith, ends)

-- what a call that changes nothing uses
pub record LooksAt (h : List Effect) (pass : ℕ) (call : Call) (reply : Reply) (o : Option MappedViews)
    (used : Option Range) : Type 0 where
  pub uses : UsesBlocks h pass call reply used
  pub mapped : AllMapped o used

module _ (opening : Option (ℕ → List ℕ)) (past : List Entry) (h : List Effect) (pass : ℕ) (o : Option MappedViews)
    (stands : MapStands opening h o) where
  looks-below : (call : Call) (reply : Reply) (at n : ℕ)
      → UsesBlocks h pass call reply (Some (cut_range (size_of h) at n))
      → all_resident h (cut_range (size_of h) at n) ≡ true
      → LooksAt h pass call reply o (span_below (size_of h) at n)
  looks-below call reply at n uses all =
      record {
        uses = record { blocks = uses.blocks ∙ below-blocks (size_of h) at n };
        mapped = below-mapped opening h o (size_of h) at n stands all;
      }

  looks-whole : (call : Call) (reply : Reply) (at n : ℕ) → past_size (size_of h) (at + n) ≡ None
      → UsesBlocks h pass call reply (Some (whole_range at n)) → all_resident h (whole_range at n) ≡ true
      → LooksAt h pass call reply o (span_below (size_of h) at n)
  looks-whole call reply at n within uses all =
      let same = whole-below (size_of h) at n within in
      looks-below call reply at n (subst (λ r. UsesBlocks h pass call reply (Some r)) same uses)
      (subst (λ r. all_resident h r ≡ true) same all)

  looks-ahead : (call : Call) (reply : Reply) → IsDone past h pass call reply → is_look (act_of call) ≡ true
      → LooksAt h pass call reply o (looked_range (size_of h) call reply)
  looks-ahead (call.AheadStep request) (reply.Whole true) done look =
      looks-below (call.AheadStep request) (reply.Whole true) request.at request.len (record { blocks = refl })
      done.filled
  looks-ahead (call.AheadStep request) (reply.Whole false) done look =
      record { uses = record { blocks = refl }; mapped = none-mapped o }
  looks-ahead (call.AheadStep request) other done look =
      looks-below (call.AheadStep request) other request.at request.len (record { blocks = refl }) done.filled
  looks-ahead (call.CopyRead file at len wait) r done look =
      looks-below (call.CopyRead file at len wait) r at len (record { blocks = refl }) done.filled
  looks-ahead (call.Map file at len) r done look =
      looks-whole (call.Map file at len) r at len done.room.within (record { blocks = refl }) done.filled
  looks-ahead (call.PinRead file at len exclusive) r done look =
      looks-whole (call.PinRead file at len exclusive) r at len done.room.within (record { blocks = refl })
      done.filled
  looks-ahead (call.PreparePin file at len zero exclusive) r done look =
      looks-whole (call.PreparePin file at len zero exclusive) r at len done.room.within
      (record { blocks = refl }) done.filled
  looks-ahead (call.MdlRead file at len) r done look =
      looks-whole (call.MdlRead file at len) r at len done.room.within (record { blocks = refl }) done.filled
  looks-ahead (call.MdlWrite file at len) r done look =
      looks-whole (call.MdlWrite file at len) r at len done.room.within (record { blocks = refl }) done.filled
  looks-ahead (call.Query asked) r done look = by (extent_of_query asked) refl
    where
      by : (extent : Option (ℕ × ℕ)) → extent_of_query asked ≡ extent
          → LooksAt h pass (call.Query asked) r o (queried_below (size_of h) extent)
      by None is =
          record {
            uses = record { blocks = ap (λ e. blocks_of_range (queried_range (size_of h) e)) is };
            mapped = none-mapped o;
          }
      by (Some (at, n)) is =
          looks-below (call.Query asked) r at n
          (record { blocks = ap (λ e. blocks_of_range (queried_range (size_of h) e)) is })
          (subst (λ e. IsFilled h (queried_range (size_of h) e)) is done.filled)
  looks-ahead (call.CopyWrite file at bytes) r done look = absurd (true≢false (sym look))
  looks-ahead (call.Zero file span) r done look = absurd (true≢false (sym look))
  looks-ahead (call.NcStore file page bytes) r done look = absurd (true≢false (sym look))
  looks-ahead other r done look = record { uses = record { blocks = refl }; mapped = none-mapped o }

-- an uninitialise sets a size within that of the pages
cut-within : (opening : Option (ℕ → List ℕ)) (h : List Effect) (o : Option MappedViews) (cut : Option ℕ)
    (file : File) (truncate : Option ℕ) → MapStands opening h o
    → truncation (objects h) (size_of h) file truncate ≡ cut → IsCutWithin o cut
cut-within opening h None None file truncate stands is = tt
cut-within opening h None (Some size) file truncate stands is = tt
cut-within opening h (Some m) None file truncate stands is = tt
cut-within opening h (Some m) (Some size) file truncate stands is =
    truncation-within opening h m stands file truncate size is

-- a stored page has room
room-stored : (opening : Option (ℕ → List ℕ)) (h : List Effect) (o : Option MappedViews) (page : ℕ)
    → MapStands opening h o → is_mapped h ≡ true → 4096 * page < size_of h
    → mapped_blocks_with h page ≤ quota_of h → HasRoomAmong o page
room-stored opening h None page stands mapped below within = true≢false (sym mapped ∙ stands)
room-stored opening h (Some m) page stands mapped below within =
    let distinct = subst (IsDistinct nat_eq) (sym stands.order) (order_of_use-distinct h) in
    record {
      starts = starts-below opening h m stands page below;
      room = room-for opening h m stands page distinct within;
    }

-- a stored page is whole
whole-allowed : (u : Setup) (past : List Entry) (pass nth s : ℕ) (file : File) (page : ℕ) (bytes : List ℕ)
    (reply : Reply)
    → IsAllowedSoFar u (entry.Call pass nth (Some s) (call.NcStore file page bytes) (outcome.Done reply) ∷ past)
    → length bytes ≡ 4096
unfolding IsAllowedSoFar
whole-allowed u past pass nth s file page bytes reply allowed =
    let may = allowed.1.may_end.1 in
    may.whole_page

-- what a call uses that is this one
pub uses-of : (h : List Effect) (pass : ℕ) (call this : Call) (reply : Reply) (o : Option Range) → call ≡ this
    → UsesBlocks h pass this reply o → UsesBlocks h pass call reply o
uses-of h pass call this reply o is uses = subst (λ k. UsesBlocks h pass k reply o) (sym is) uses

-- a prepare that is no look zeroes its range
pub prepared : (call : Call) (file : File) (at len : ℕ) (zero exclusive : Bool)
    → call ≡ PreparePin file at len zero exclusive → is_look (act_of call) ≡ false
    → act_of call ≡ Zeroes at (at + len)
prepared call file at len true exclusive is look = ap act_of is
prepared call file at len false exclusive is look =
    absurd (true≢false (sym (ap (λ k. is_look (act_of k)) is) ∙ look))

module _ {u : Setup} {past : List Entry} {pass nth s : ℕ} {call : Call} {reply : Reply} {c : Contents}
    {size : ℕ} {cut : Option ℕ} {mapped : Bool}
    (may : MayFollowContents u past pass nth s call reply c size cut mapped) where
  -- what a look uses and finds
  pub looks : is_look (act_of call) ≡ true
      → LooksAt (history past s) pass call reply c.pages (looked_range size call reply)
  looks is =
      subst (λ n. LooksAt (history past s) pass call reply c.pages (looked_range n call reply)) (sym may.size_is)
      (looks-ahead (u.opening s) past (history past s) pass c.pages may.stands.map_is call reply (done-of may) is)

  pub finds-look : is_look (act_of call) ≡ true → Finds (u.opening s) (history past s) pass call reply c
  finds-look look = record { stands = may.stands; same_map = by (act_of call) refl look }
    where
      by : (a : Act) → act_of call ≡ a → is_look a ≡ true
          → is_mapped (Did pass call reply ∷ history past s) ≡ is_mapped (history past s)
      by Looks is k = map-looks past (history past s) pass call reply (done-of may) is
      by (Stamps hold lsn) is k = map-stamps past (history past s) pass call reply (done-of may) is
      by other is k = absurd (true≢false (sym k))

  -- a write
  pub finds-written : {at : ℕ} {bytes : List ℕ} → act_of call ≡ Writes at bytes
      → Finds (u.opening s) (history past s) pass call reply c
  finds-written is =
      record { stands = may.stands; same_map = map-writes past (history past s) pass call reply (done-of may) is }

  pub kept-written : {at : ℕ} {bytes : List ℕ} → act_of call ≡ Writes at bytes
      → AllKept c.pages (whole_range at (length bytes))
  kept-written {at} {bytes} is =
      kept-pages (u.opening s) (history past s) c.pages (whole_range at (length bytes)) may.stands.map_is
      (written-resident past (history past s) pass call reply (done-of may) is)

  pub fits-written : {at : ℕ} {bytes : List ℕ} → act_of call ≡ Writes at bytes → at + length bytes ≤ 2 ^ 63
  fits-written is = written-fits past (history past s) pass call reply (done-of may) is

  pub starts-written : {at : ℕ} {bytes : List ℕ} → act_of call ≡ Writes at bytes → at ≤ valid_of (history past s)
  starts-written is = written-starts past (history past s) pass call reply (done-of may) is

  -- a zeroing
  pub finds-zeroed : {from to : ℕ} → act_of call ≡ Zeroes from to
      → Finds (u.opening s) (history past s) pass call reply c
  finds-zeroed is =
      record { stands = may.stands; same_map = map-zeroes past (history past s) pass call reply (done-of may) is }

  pub mapped-zeroed : {from to : ℕ} → act_of call ≡ Zeroes from to
      → AllMapped c.pages (Some (record { from = from; to = to }))
  mapped-zeroed {from} {to} is =
      mapped-pages (u.opening s) (history past s) c.pages (record { from = from; to = to }) may.stands.map_is
      (zeroed-resident past (history past s) pass call reply (done-of may) is)

  pub fits-zeroed : {from to : ℕ} → act_of call ≡ Zeroes from to → to < 2 ^ 63
  fits-zeroed is = zeroed-fits past (history past s) pass call reply (done-of may) is

  pub starts-zeroed : {from to : ℕ} → act_of call ≡ Zeroes from to → from ≤ valid_of (history past s)
  starts-zeroed is = zeroed-starts past (history past s) pass call reply (done-of may) is

  -- a set of sizes, and a discard
  pub finds-resized : {allocation to : ℕ} → act_of call ≡ Resizes allocation to
      → Finds (u.opening s) (history past s) pass call reply c
  finds-resized is =
      record { stands = may.stands; same_map = map-resizes past (history past s) pass call reply (done-of may) is }

  pub finds-dropped : {span : Option Range} → act_of call ≡ Discards span
      → Finds (u.opening s) (history past s) pass call reply c
  finds-dropped is =
      record { stands = may.stands; same_map = map-discards past (history past s) pass call reply (done-of may) is }

  -- an uninitialise
  pub finds-closed : (file : File) (truncate : Option ℕ) → call ≡ Uninitialise file truncate
      → FindsOpen (u.opening s) (history past s) call cut c
  finds-closed file truncate is =
      record {
        stands = may.stands;
        file = file;
        truncate = truncate;
        is = ap act_of is;
        cut_is = sym (may.truncation_is ∙ ap (truncated_by (history past s)) is);
        was_mapped =
            finds-map past (history past s) pass call reply (done-of may) (ap (λ a. needs_no_map (act_of a)) is);
      }

  pub within-closed : (file : File) (truncate : Option ℕ) → call ≡ Uninitialise file truncate
      → IsCutWithin c.pages cut
  within-closed file truncate is =
      cut-within (u.opening s) (history past s) c.pages cut file truncate may.stands.map_is
      (sym (may.truncation_is ∙ ap (truncated_by (history past s)) is))

  pub mapped-called : mapped ≡ is_mapped (Did pass call reply ∷ history past s)
  mapped-called = may.mapped_is ∙ ap is_mapped (history-called past pass nth s call reply)

  -- a noncached store
  pub finds-stored : {page : ℕ} {bytes : List ℕ} → act_of call ≡ Stores page bytes
      → Finds (u.opening s) (history past s) pass call reply c
  finds-stored is =
      record { stands = may.stands; same_map = map-stores past (history past s) pass call reply (done-of may) is }

  pub starts-stored : {page : ℕ} {bytes : List ℕ} → act_of call ≡ Stores page bytes
      → 4096 * page ≤ valid_of (history past s)
  starts-stored is = stored-starts past (history past s) pass call reply (done-of may) is

  pub valid-found : valid_of (history past s) ≤ size_of (history past s)
  valid-found = valid-within past (history past s) pass call reply (done-of may)

  room-found : HasRoomFor past (history past s) call
  room-found = let done = done-of may in done.room

  act-found : IsActSafe (history past s) (act_of call)
  act-found = let done = done-of may in done.act_safe

  pub has_room-stored : (file : File) (page : ℕ) (bytes : List ℕ) → call ≡ NcStore file page bytes
      → HasRoomForPage c page
  has_room-stored file page bytes is =
      let room : HasRoom past (history past s) (NcStore file page bytes) =
      subst (HasRoomFor past (history past s)) is room-found in
      room-stored (u.opening s) (history past s) c.pages page may.stands.map_is
      (finds-map past (history past s) pass call reply (done-of may) (ap (λ a. needs_no_map (act_of a)) is))
      (stores_below (size_of (history past s)) page _ room.within)
      (subst (λ a. IsActSafe (history past s) (act_of a)) is act-found)

  pub whole-stored : (file : File) (page : ℕ) (bytes : List ℕ) → call ≡ NcStore file page bytes
      → length bytes ≡ 4096
  whole-stored file page bytes is =
      whole-allowed u past pass nth s file page bytes reply
      (subst (λ a. IsAllowedSoFar u (entry.Call pass nth (Some s) a (outcome.Done reply) ∷ past)) is
      may.good.allowed)

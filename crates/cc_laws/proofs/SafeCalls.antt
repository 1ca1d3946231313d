-- The history of a good journal is safe: what refuses no done call, and what allows it.
use Rattle.std.specs.Prelude.{◌≡◌, ℕ, ◌+◌, ◌<◌, ◌≤◌, ◌^◌, Bool, true, false, not, ◌&&◌, ◌||◌, ◌==◌, nat_lt, nat_le, List, [], ◌∷◌, length, cond, refl}
use Rattle.std.specs.declared.option.Option.{Option}
use Rattle.std.specs.declared.option.Option.TheVariants.{Some, None}
use Rattle.std.specs.List.{list_any}
use Rattle.std.specs.Bool.{OnTrue}
use Rattle.std.proofs.Common.{arith}
use Rattle.std.proofs.lemmas.Bool.{and_parts, not-false, ltb-true, leb-true, ltb-false}
use Rattle.cc_entry.specs.Place.{File}
use Rattle.cc_entry.specs.declared.call.Call.{Call}
use Rattle.cc_entry.specs.declared.call.Call.TheVariants as call
use Rattle.cc_entry.specs.declared.reply.Reply.{Reply}
use Rattle.cc_entry.specs.declared.hold.HoldKind.{HoldKind}
use Rattle.cc_entry.specs.declared.entry.Entry.{Entry}
use Rattle.cc_model.specs.Setup.{Setup}
use Rattle.cc_entry.specs.Pages.{pages_of, has_page}
use Rattle.cc_model.specs.Numbers.{is_empty}
use Rattle.cc_model.specs.History.{Effect, history}
use Rattle.cc_model.specs.Acts.{act_of, file_of}
use Rattle.cc_model.specs.Objects.{objects}
use Rattle.cc_model.specs.Holds.{Hold, holds_of, hold_at, least_id, lesser}
use Rattle.cc_model.specs.Touches.{size_of, is_mapped}
use Rattle.cc_model.specs.Ranges.{range_of, needs_pages}
use Rattle.cc_model.specs.Residency.{is_resident, all_resident}
use Rattle.cc_model.specs.Reasons.{not_cached, past_size}
use Rattle.cc_model.specs.Conflicts.{held_by, has_page_of}
use Rattle.cc_model.specs.Refusals.{IsUnrefused}
use Rattle.cc_model.specs.Filing.{serves_range, IsFiled}
use Rattle.cc_model.specs.Conditions.{IsFilled, IsReady}
use Rattle.cc_model.specs.Legal.{IsAdmitted}
use Rattle.cc_laws.proofs.UnrefusedCalls.{unrefused, refuse_if-none}
use Rattle.cc_laws.proofs.Lists1.{among-all, among-pages, among-not_empty, any-found}
use Rattle.cc_laws.proofs.SafeHistory.{MayHold, Filled, Held, in_hold, IsHoldSafe, IsActSafe}

held_by-none : (o : Option ℕ) → held_by o ≡ None → o ≡ None
held_by-none None is = refl
held_by-none (Some n) is = absurd (cc)

least-none : (test : Hold → Bool) (holds : List Hold) → least_id test holds ≡ None → list_any test holds ≡ false
least-none test [] is = refl
least-none test (hold ∷ holds) is = go (test hold) is (least-none test holds)
  where
    go : (t : Bool) → cond t (lesser hold.id (least_id test holds)) (least_id test holds) ≡ None → (least_id test holds ≡ None → list_any test holds ≡ false) → (t || list_any test holds) ≡ false
    go true is rest = absurd (some (least_id test holds) is)
      where
        some : (o : Option ℕ) → lesser hold.id o ≡ None → ⊥
        some None is = cc
        some (Some n) is = cc
    go false is rest = rest is

open-not_empty : (h : List Effect) (file : File) → not_cached h (Some file) ≡ None → is_empty (objects h) ≡ false
open-not_empty h file is = among-not_empty file.object (objects h) (not-false _ (refuse_if-none _ _ is))

filled-pages : (h : List Effect) (from to : ℕ) → all_resident h (record { from = from; to = to }) ≡ true → (p : ℕ) → has_page (record { from = from; to = to }) p ≡ true → is_resident h p ≡ true
filled-pages h from to all p has = among-all (is_resident h) p (pages_of (record { from = from; to = to })) all (among-pages (record { from = from; to = to }) p has)

below-size : (size end : ℕ) → past_size size end ≡ None → end ≤ size
below-size size end is = ltb-false size end (refuse_if-none _ _ is)

hold-safe : (h : List Effect) (file : File) (at len : ℕ) → not_cached h (Some file) ≡ None → past_size (size_of h) (at + len) ≡ None → all_resident h (record { from = at; to = at + len }) ≡ true → MayHold h at len
hold-safe h file at len cached size filled = record {
  within = refuse_if-none _ _ size;
  resident = filled-pages h at (at + len) filled;
  opened = open-not_empty h file cached;
}

served : (pass : ℕ) (of_kind : HoldKind → Bool) (h : List Effect) (id at n : ℕ) → serves_range pass of_kind at n (hold_at (holds_of h) id) ≡ true → in_hold h at (at + n) ≡ true
served pass of_kind h id at n is = go (hold_at (holds_of h) id) refl is
  where
    go : (o : Option Hold) → hold_at (holds_of h) id ≡ o → serves_range pass of_kind at n o ≡ true → in_hold h at (at + n) ≡ true
    go None found is = absurd (cc)
    go (Some hold) found is = any-found (λ it. it.id == id) (λ it. nat_le it.at at && nat_le (at + n) (it.at + it.len)) (holds_of h) hold found (and_parts (hold.pass == pass && of_kind hold.kind) _ is).1

holds-safe : (u : Setup) (past : List Entry) (h : List Effect) (call : Call) (reply : Reply) → IsUnrefused u past h call → OnTrue (needs_pages call reply) (IsFilled h (range_of (size_of h) call)) → IsHoldSafe h call
holds-safe u past h (call.Map file at len) reply passed filled = hold-safe h file at len passed.cached passed.within_size filled
holds-safe u past h (call.PinRead file at len exclusive) reply passed filled = hold-safe h file at len passed.cached passed.within_size filled
holds-safe u past h (call.PreparePin file at len zero exclusive) reply passed filled = hold-safe h file at len passed.cached passed.within_size filled
holds-safe u past h (call.MdlRead file at len) reply passed filled = hold-safe h file at len passed.cached passed.within_size filled
holds-safe u past h (call.MdlWrite file at len) reply passed filled = hold-safe h file at len passed.cached passed.within_size filled
holds-safe u past h other reply passed filled = tt

opens-safe : (h : List Effect) (b c : Bool) → is_mapped h ≡ false → (not (is_mapped h) && (not b || c)) ≡ false → b ≡ true
opens-safe h true c unmapped is = refl
opens-safe h false c unmapped is = absurd (go (is_mapped h) unmapped is)
  where
    go : (t : Bool) → t ≡ false → (not t && true) ≡ false → ⊥
    go true no_map is = cc
    go false no_map is = cc

closes-safe : (h : List Effect) (b : Bool) → b ≡ true → held_by (cond b (least_id (λ hold. true) (holds_of h)) None) ≡ None → list_any (λ hold. true) (holds_of h) ≡ false
closes-safe h true last is = least-none (λ hold. true) (holds_of h) (held_by-none _ is)
closes-safe h false last is = absurd (cc)

acts-safe : (u : Setup) (past : List Entry) (pass s : ℕ) (call : Call) (reply : Reply) → let h : List Effect = history past s in IsUnrefused u past h call → IsFiled (holds_of h) pass (Some s) call (file_of call) → OnTrue (needs_pages call reply) (IsFilled h (range_of (size_of h) call)) → IsReady past pass s call → IsActSafe h (act_of call)
acts-safe u past pass s (call.Initialise file sizes quota temporary) reply passed filed filled ready = λ unmapped. opens-safe (history past s) _ _ unmapped (refuse_if-none _ _ passed.sizes_in_order)
acts-safe u past pass s (call.Uninitialise file truncate) reply passed filed filled ready = λ last. closes-safe (history past s) _ last passed.not_held
acts-safe u past pass s (call.CopyWrite file at bytes) reply passed filed filled ready = Filled (below-size _ _ passed.within_size) (filled-pages (history past s) at (at + length bytes) filled)
acts-safe u past pass s (call.Zero file span) reply passed filed filled ready = Filled (below-size _ _ passed.within_size) (filled-pages (history past s) span.from span.to filled)
acts-safe u past pass s (call.PreparePin file at len true exclusive) reply passed filed filled ready = Filled (below-size _ _ passed.within_size) (filled-pages (history past s) at (at + len) filled)
acts-safe u past pass s (call.PreparePin file at len false exclusive) reply passed filed filled ready = tt
acts-safe u past pass s (call.PinnedWrite hold at bytes) reply passed filed filled ready = Held (served pass _ (history past s) hold at (length bytes) filed)
acts-safe u past pass s (call.MdlStore hold at bytes) reply passed filed filled ready = Held (served pass _ (history past s) hold at (length bytes) filed)
acts-safe u past pass s (call.NcStore file page bytes) reply passed filed filled ready = ready.in_quota
acts-safe u past pass s (call.SetSizes file allocation size) reply passed filed filled ready = (small, least-none (λ hold. nat_lt size (hold.at + hold.len)) (holds_of (history past s)) (held_by-none _ passed.not_held))
  where
    ordered : (nat_le size allocation && nat_lt allocation (2 ^ 63)) ≡ true
    ordered = not-false _ (refuse_if-none _ _ passed.sizes_in_order)

    small : size < 2 ^ 63
    small = below (2 ^ 63) (leb-true size allocation (and_parts (nat_le size allocation) _ ordered).0) (ltb-true allocation (2 ^ 63) (and_parts (nat_le size allocation) _ ordered).1)
      where
        below : (most : ℕ) → size ≤ allocation → allocation < most → size < most
        below most a b = omega arith
acts-safe u past pass s (call.Discard file span) reply passed filed filled ready = least-none (has_page_of span) (holds_of (history past s)) (held_by-none _ passed.not_held)
acts-safe u past pass s other reply passed filed filled ready = tt

-- a done call that is legal and allowed is safe
pub done-safe : (u : Setup) (past : List Entry) (pass s : ℕ) (call : Call) (reply : Reply) → let h : List Effect = history past s in IsAdmitted u past h call → IsFiled (holds_of h) pass (Some s) call (file_of call) → OnTrue (needs_pages call reply) (IsFilled h (range_of (size_of h) call)) → IsReady past pass s call → IsHoldSafe h call × IsActSafe h (act_of call)
done-safe u past pass s (call.NcWrite file page) reply admitted filed filled ready = (tt, tt)
done-safe u past pass s other reply admitted filed filled ready =
    let passed = unrefused u past (history past s) other admitted in
    (holds-safe u past (history past s) other reply passed filled, acts-safe u past pass s other reply passed filed filled ready)

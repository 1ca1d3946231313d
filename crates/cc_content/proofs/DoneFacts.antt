-- What is known of a done call of a stream where the journal with it is good so far.
use Rattle.std.proofs.Common.{◌≡◌, ℕ, ◌+◌, ◌-◌, ◌*◌, ◌/◌, ◌<◌, ◌≤◌, ◌^◌, Bool, true, false, nat_lt, List, [], ◌∷◌, length, Option, Some, refl, sym, ap, subst, ◌∙◌, true≢false, arith}
use Rattle.std.proofs.lemmas.Bool.{eq-eqb, lt-ltb, ltb-true}
use Rattle.std.specs.Bool.{OnTrue}
use Rattle.cc_entry.specs.Pages.{has_page, whole_range}
use Rattle.cc_entry.specs.Place.{Range}
use Rattle.cc_entry.specs.declared.call.Call.{Call}
use Rattle.cc_entry.specs.declared.entry.Entry.{Entry}
use Rattle.cc_entry.specs.declared.entry.Entry.TheVariants as entry
use Rattle.cc_entry.specs.declared.reply.Outcome.TheVariants as outcome
use Rattle.cc_entry.specs.declared.reply.Reply.{Reply}
use Rattle.cc_model.specs.Acts.{act_of, Resizes, Writes, Zeroes, Stores, Stamps, Discards, Looks}
use Rattle.cc_model.specs.Allowed.{IsAllowedSoFar}
use Rattle.cc_model.specs.Conditions.{IsFilled}
use Rattle.cc_model.specs.Good.{IsGoodSoFar}
use Rattle.cc_model.specs.History.{Effect, Did, history}
use Rattle.cc_model.specs.Legal.{IsLegal, IsLegalEntry, IsAdmitted}
use Rattle.cc_model.specs.Objects.{objects}
use Rattle.cc_model.specs.Ranges.{range_of, needs_pages}
use Rattle.cc_model.specs.Residency.{is_resident, all_resident}
use Rattle.cc_model.specs.Setup.{Setup}
use Rattle.cc_model.specs.Touches.{size_of, valid_of, is_mapped}
use Rattle.cc_laws.proofs.AdmittedCalls.{HasRoomFor, HasRoomFor-admitted}
use Rattle.cc_laws.proofs.HeldObjects.{HoldsAsOpen, HoldsAsOpen-good}
use Rattle.cc_laws.proofs.HistorySteps.{history-done}
use Rattle.cc_laws.proofs.MapGone.{no_objects}
use Rattle.cc_laws.proofs.MapSteps.{is_mapped-looks, is_mapped-open}
use Rattle.cc_laws.proofs.ObjectSteps.{objects-resizes, objects-writes, objects-zeroes, objects-stores, objects-stamps, objects-discards}
use Rattle.cc_laws.proofs.ResidentFacts.{change-resident}
use Rattle.cc_laws.proofs.RoomPasts.{IsGoodSoFar-before}
use Rattle.cc_laws.proofs.SafeHistory.{IsSafe, IsActSafe, MayChange}
use Rattle.cc_laws.proofs.SafeJournals.{good-safe}
use Rattle.cc_laws.proofs.SizeFacts.{IsSized, sized, change-within}
use Rattle.cc_laws.proofs.Steady.{IsSteady, IsSteadyCall, needs_no_map}
use Rattle.cc_laws.proofs.SteadyPasts.{IsSteady-good}
use Rattle.cc_content.proofs.KeptBlocks.{all_range}

-- what is known of a done call, given the stream before it
pub record IsDone (past : List Entry) (h : List Effect) (pass : ℕ) (call : Call) (reply : Reply) : Type 0 where
  pub safe : IsSafe h
  pub act_safe : IsActSafe h (act_of call)
  pub steady : IsSteadyCall h call
  pub held_as_open : HoldsAsOpen h
  pub filled : OnTrue (needs_pages call reply) (IsFilled h (range_of (size_of h) call))
  pub room : HasRoomFor past h call

-- the journal with the call is a step of the history
pub history-called : (past : List Entry) (pass nth s : ℕ) (call : Call) (reply : Reply)
    → history (entry.Call pass nth (Some s) call (outcome.Done reply) ∷ past) s
    ≡ Did pass call reply ∷ history past s
history-called past pass nth s call reply = history-done pass nth s call reply past s (eq-eqb s s refl)

act_safe-step : (h : List Effect) (pass : ℕ) (call : Call) (reply : Reply) → IsSafe (Did pass call reply ∷ h)
    → IsActSafe h (act_of call)
unfolding IsSafe
act_safe-step h pass call reply safe = safe.0.1

filled-allowed : (u : Setup) (past : List Entry) (pass nth s : ℕ) (call : Call) (reply : Reply)
    → IsAllowedSoFar u (entry.Call pass nth (Some s) call (outcome.Done reply) ∷ past)
    → OnTrue (needs_pages call reply) (IsFilled (history past s) (range_of (size_of (history past s)) call))
unfolding IsAllowedSoFar
filled-allowed u past pass nth s call reply allowed = allowed.1.may_end.0

admitted-legal : (u : Setup) (past : List Entry) (pass nth s : ℕ) (call : Call) (reply : Reply)
    → IsLegal u (entry.Call pass nth (Some s) call (outcome.Done reply) ∷ past)
    → IsAdmitted u past (history past s) call
unfolding IsLegal IsLegalEntry
admitted-legal u past pass nth s call reply legal = legal.0.0

pub IsDone-good : (u : Setup) (past : List Entry) (pass nth s : ℕ) (call : Call) (reply : Reply)
    → IsGoodSoFar u (entry.Call pass nth (Some s) call (outcome.Done reply) ∷ past)
    → IsDone past (history past s) pass call reply
IsDone-good u past pass nth s call reply good =
    let e : Entry = entry.Call pass nth (Some s) call (outcome.Done reply) in
    let before = IsGoodSoFar-before u past e good in
    let step = history-called past pass nth s call reply in
    let after = subst IsSafe step (good-safe u (e ∷ past) s good) in
    let admitted = admitted-legal u past pass nth s call reply good.legal in
    record {
      safe = good-safe u past s before;
      act_safe = act_safe-step (history past s) pass call reply after;
      steady = (subst IsSteady step (IsSteady-good u (e ∷ past) s good)).0;
      held_as_open = HoldsAsOpen-good u past s before;
      filled = filled-allowed u past pass nth s call reply good.allowed;
      room = HasRoomFor-admitted u past (history past s) call admitted;
    }

-- each page of a range that may change is resident
pub change-all : (h : List Effect) (from to : ℕ) → IsSafe h → MayChange h from to
    → all_resident h (record { from = from; to = to }) ≡ true
change-all h from to safe may = by (nat_lt from to) refl
  where
    r : Range
    r = record { from = from; to = to }

    has : from < to → (p : ℕ) → from / 4096 ≤ p → p < from / 4096 + (((to - 1) / 4096 + 1) - from / 4096)
        → has_page (record { from = from; to = to }) p ≡ true
    has some p low high =
        let starts : from < 4096 * p + 4096 = omega arith in
        let ends : 4096 * p < to = omega arith in
        rw (lt-ltb from to some, lt-ltb from (4096 * p + 4096) starts, lt-ltb (4096 * p) to ends) refl

    by : (t : Bool) → nat_lt from to ≡ t → all_resident h (record { from = from; to = to }) ≡ true
    by true t =
        rw t
        (all_range (is_resident h) (from / 4096) (((to - 1) / 4096 + 1) - from / 4096)
        (λ p low high. change-resident h from to p safe may (has (ltb-true from to t) p low high)))
    by false t = rw t refl

module _ (past : List Entry) (h : List Effect) (pass : ℕ) (call : Call) (reply : Reply)
    (done : IsDone past h pass call reply) where
  sizes-found : IsSized h
  sizes-found = sized h done.safe

  -- the valid data length lies within the size, and the size below 2^63
  pub valid-within : valid_of h ≤ size_of h
  valid-within = sizes-found.valid_within

  -- a change is of resident pages, ends within the size, and begins at the valid data length or below it
  pub written-resident : {at : ℕ} {bytes : List ℕ} → act_of call ≡ Writes at bytes
      → all_resident h (whole_range at (length bytes)) ≡ true
  written-resident {at} {bytes} is =
      change-all h at (at + length bytes) done.safe (subst (IsActSafe h) is done.act_safe)

  pub written-fits : {at : ℕ} {bytes : List ℕ} → act_of call ≡ Writes at bytes → at + length bytes ≤ 2 ^ 63
  written-fits {at} {bytes} is =
      let sound = sizes-found in
      let may = subst (IsActSafe h) is done.act_safe in
      let within = change-within h at (at + length bytes) sound.held_within may in
      below (at + length bytes) (size_of h) within sound.size_in_range
    where
      below : (end size : ℕ) → end ≤ size → size < 2 ^ 63 → end ≤ 2 ^ 63
      below end size a b = omega arith

  pub written-starts : {at : ℕ} {bytes : List ℕ} → act_of call ≡ Writes at bytes → at ≤ valid_of h
  written-starts {at} {bytes} is = rw is at done.steady.within

  pub zeroed-resident : {from to : ℕ} → act_of call ≡ Zeroes from to
      → all_resident h (record { from = from; to = to }) ≡ true
  zeroed-resident {from} {to} is = change-all h from to done.safe (subst (IsActSafe h) is done.act_safe)

  pub zeroed-fits : {from to : ℕ} → act_of call ≡ Zeroes from to → to < 2 ^ 63
  zeroed-fits {from} {to} is =
      let sound = sizes-found in
      let within = change-within h from to sound.held_within (subst (IsActSafe h) is done.act_safe) in
      below to (size_of h) within sound.size_in_range
    where
      below : (end size : ℕ) → end ≤ size → size < 2 ^ 63 → end < 2 ^ 63
      below end size a b = omega arith

  pub zeroed-starts : {from to : ℕ} → act_of call ≡ Zeroes from to → from ≤ valid_of h
  zeroed-starts {from} {to} is = rw is at done.steady.within

  pub stored-starts : {page : ℕ} {bytes : List ℕ} → act_of call ≡ Stores page bytes → 4096 * page ≤ valid_of h
  stored-starts {page} {bytes} is = rw is at done.steady.within

  -- a call that may not stand before the first map finds an open object
  finds-object : needs_no_map (act_of call) ≡ false → objects h ≡ [] → ⊥
  finds-object needs none = true≢false (sym (done.steady.first none (done.held_as_open none)) ∙ needs)

  pub finds-map : needs_no_map (act_of call) ≡ false → is_mapped h ≡ true
  finds-map needs = by (is_mapped h) refl
    where
      by : (t : Bool) → is_mapped h ≡ t → is_mapped h ≡ true
      by true is = is
      by false is = absurd (finds-object needs (no_objects h is))

  -- and the map stays where the objects do
  map-kept : needs_no_map (act_of call) ≡ false → objects (Did pass call reply ∷ h) ≡ objects h
      → is_mapped (Did pass call reply ∷ h) ≡ is_mapped h
  map-kept needs same = by (objects h) refl
    where
      by : (opened : List ℕ) → objects h ≡ opened → is_mapped (Did pass call reply ∷ h) ≡ is_mapped h
      by [] none = absurd (finds-object needs none)
      by (object ∷ rest) some =
          is_mapped-open (Did pass call reply ∷ h) object rest (same ∙ some)
          ∙ sym (is_mapped-open h object rest some)

  pub map-resizes : {allocation size : ℕ} → act_of call ≡ Resizes allocation size
      → is_mapped (Did pass call reply ∷ h) ≡ is_mapped h
  map-resizes is = map-kept (ap needs_no_map is) (objects-resizes pass call reply h is)

  pub map-writes : {at : ℕ} {bytes : List ℕ} → act_of call ≡ Writes at bytes
      → is_mapped (Did pass call reply ∷ h) ≡ is_mapped h
  map-writes is = map-kept (ap needs_no_map is) (objects-writes pass call reply h is)

  pub map-zeroes : {from to : ℕ} → act_of call ≡ Zeroes from to
      → is_mapped (Did pass call reply ∷ h) ≡ is_mapped h
  map-zeroes is = map-kept (ap needs_no_map is) (objects-zeroes pass call reply h is)

  pub map-stores : {page : ℕ} {bytes : List ℕ} → act_of call ≡ Stores page bytes
      → is_mapped (Did pass call reply ∷ h) ≡ is_mapped h
  map-stores is = map-kept (ap needs_no_map is) (objects-stores pass call reply h is)

  pub map-stamps : {hold : ℕ} {lsn : Option ℕ} → act_of call ≡ Stamps hold lsn
      → is_mapped (Did pass call reply ∷ h) ≡ is_mapped h
  map-stamps is = map-kept (ap needs_no_map is) (objects-stamps pass call reply h is)

  pub map-discards : {span : Option Range} → act_of call ≡ Discards span
      → is_mapped (Did pass call reply ∷ h) ≡ is_mapped h
  map-discards is = map-kept (ap needs_no_map is) (objects-discards pass call reply h is)

  pub map-looks : act_of call ≡ Looks → is_mapped (Did pass call reply ∷ h) ≡ is_mapped h
  map-looks is = is_mapped-looks pass call reply h is

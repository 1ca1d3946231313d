-- A page to which an open pin owes a stamp is a page of that pin.
use Rattle.std.specs.Prelude.{◌≡◌, ℕ, ◌+◌, ◌*◌, ◌<◌, ◌≤◌, Bool, true, false, cond, ◌&&◌, ◌||◌, ◌==◌, nat_lt, nat_le, List, [], ◌∷◌, length, if◌then◌else◌, refl}
use Rattle.std.specs.declared.option.Option.{Option}
use Rattle.std.specs.declared.option.Option.TheVariants.{Some, None}
use Rattle.std.specs.List.{AllByRecursion, cons_option, filter, list_any}
use Rattle.std.proofs.Common.{sym, subst, arith}
use Rattle.std.proofs.lemmas.Bool.{and_parts, and_from, or_left, or_right, eqb-true, ne_eqb, ltb-true, lt-ltb, leb-true}
use Rattle.std.proofs.lemmas.List.Elements.{recursion_from_All}
use Rattle.cc_entry.specs.Kinds.{is_pin}
use Rattle.cc_entry.specs.Pages.{has_page}
use Rattle.cc_entry.specs.Place.{Range}
use Rattle.cc_entry.specs.declared.call.Call.{Call}
use Rattle.cc_entry.specs.declared.call.Call.TheVariants as call
use Rattle.cc_entry.specs.declared.entry.Entry.{Entry}
use Rattle.cc_entry.specs.declared.entry.Entry.TheVariants as entry
use Rattle.cc_entry.specs.declared.reply.Outcome.TheVariants as outcome
use Rattle.cc_holds.proofs.MadeIds.{id-made}
use Rattle.cc_laws.proofs.HoldSteps.{holds_of-came_in, holds_of-went_out, holds_of-began, holds_of-ended, holds_of-synced}
use Rattle.cc_model.specs.Acts.{file_of}
use Rattle.cc_model.specs.Allowed.{MayStand, IsAllowedSoFar}
use Rattle.cc_model.specs.Cache.{makes_hold}
use Rattle.cc_model.specs.Filing.{serves_range, IsFiled}
use Rattle.cc_model.specs.Good.{IsGoodSoFar}
use Rattle.cc_model.specs.History.{Effect, Did, CameIn, WentOut, Began, Ended, Synced, history}
use Rattle.cc_model.specs.Holds.{Hold, range_held, hold_at, changed_at, repinned, id_of, held_after, holds_of, is_held}
use Rattle.cc_model.specs.Legal.{IsLegal}
use Rattle.cc_model.specs.Setup.{Setup}
use Rattle.cc_model.specs.Stamps.{owes_stamp, is_unstamped}

-- each range for which a hold owes a stamp lies within the hold
abbrev IsWithin : Hold → Type 0
IsWithin hold = AllByRecursion (λ (r : Range). (hold.at ≤ r.from) × (r.to ≤ hold.at + hold.len)) hold.owed

-- each hold has an id below this number
abbrev AllBelow : ℕ → List Hold → Type 0
AllBelow n holds = AllByRecursion (λ (hold : Hold). hold.id < n) holds

-- each hold owes stamps within itself, and has a greater id than those behind it
abbrev AreOrdered : List Hold → Type 0
AreOrdered [] = Unit {0}
AreOrdered (hold ∷ holds) = IsWithin hold × AllBelow hold.id holds × AreOrdered holds

below-changed : (n id : ℕ) (change : Hold → Hold) (holds : List Hold) → ((hold : Hold) → (change hold).id ≡ hold.id) → AllBelow n holds → AllBelow n (changed_at id change holds)
below-changed n id change [] same below = tt
below-changed n id change (hold ∷ holds) same below = (go (hold.id == id), below-changed n id change holds same below.1)
  where
    go : (b : Bool) → (let it : Hold = cond b (change hold) hold in it.id) < n
    go true = subst (λ k. k < n) (sym (same hold)) below.0
    go false = below.0

below-filtered : (n : ℕ) (test : Hold → Bool) (holds : List Hold) → AllBelow n holds → AllBelow n (filter test holds)
below-filtered n test [] below = tt
below-filtered n test (hold ∷ holds) below = go (test hold) (below-filtered n test holds below.1)
  where
    go : (b : Bool) → AllBelow n (filter test holds) → AllBelow n (cond b (hold ∷ filter test holds) (filter test holds))
    go true rest = (below.0, rest)
    go false rest = rest

-- no hold with a lesser id is changed
changed-none : (id : ℕ) (change : Hold → Hold) (holds : List Hold) → AllBelow id holds → changed_at id change holds ≡ holds
changed-none id change [] below = refl
changed-none id change (hold ∷ holds) below = rw (ne_eqb hold.id id (other hold.id below.0), changed-none id change holds below.1) refl
  where
    other : (n : ℕ) → n < id → n ≡ id → ⊥
    other n less same = omega arith

ordered-changed : (id : ℕ) (change : Hold → Hold) (holds : List Hold) → ((hold : Hold) → (change hold).id ≡ hold.id) → ((hold : Hold) → hold_at holds id ≡ Some hold → IsWithin hold → IsWithin (change hold)) → AreOrdered holds → AreOrdered (changed_at id change holds)
ordered-changed id change [] same within ordered = tt
ordered-changed id change (hold ∷ holds) same within ordered = go (hold.id == id) refl (λ rest. ordered-changed id change holds same rest ordered.2)
  where
    go : (b : Bool) → (hold.id == id) ≡ b → (((it : Hold) → hold_at holds id ≡ Some it → IsWithin it → IsWithin (change it)) → AreOrdered (changed_at id change holds)) → AreOrdered (cond b (change hold) hold ∷ changed_at id change holds)
    go true is rest =
        let behind : AllBelow id holds = subst (λ n. AllBelow n holds) (eqb-true hold.id id is) ordered.1 in
        rw (changed-none id change holds behind) (within hold (rw is refl) ordered.0, subst (λ n. AllBelow n holds) (sym (same hold)) ordered.1, ordered.2)
    go false is rest = (ordered.0, below-changed hold.id id change holds same ordered.1, rest (λ it found. within it (rw is found)))

ordered-filtered : (test : Hold → Bool) (holds : List Hold) → AreOrdered holds → AreOrdered (filter test holds)
ordered-filtered test [] ordered = tt
ordered-filtered test (hold ∷ holds) ordered = go (test hold) (ordered-filtered test holds ordered.2)
  where
    go : (b : Bool) → AreOrdered (filter test holds) → AreOrdered (cond b (hold ∷ filter test holds) (filter test holds))
    go true rest = (ordered.0, below-filtered hold.id test holds ordered.1, rest)
    go false rest = rest

-- a pinned write lies within its pin
written-within : (pass at n : ℕ) (o : Option Hold) (hold : Hold) → serves_range pass is_pin at n o ≡ true → o ≡ Some hold → (hold.at ≤ at) × (at + n ≤ hold.at + hold.len)
written-within pass at n None hold serves is = absurd (cc)
written-within pass at n (Some other) hold serves is =
    let same : other ≡ hold = cc in
    let parts = and_parts (nat_le other.at at) (nat_le (at + n) (other.at + other.len)) (and_parts (other.pass == pass && is_pin other.kind) _ serves).1 in
    subst (λ (it : Hold). (it.at ≤ at) × (at + n ≤ it.at + it.len)) same (leb-true other.at at parts.0, leb-true (at + n) (other.at + other.len) parts.1)

at-least : (n : ℕ) → n ≤ n
at-least n = omega arith

ordered-held : (pass s : ℕ) (it : Call) (id : ℕ) (holds : List Hold) → (makes_hold it ≡ true → AllBelow id holds) → IsFiled holds pass (Some s) it (file_of it) → AreOrdered holds → AreOrdered (held_after pass it id holds)
ordered-held pass s (call.Map file at len) id holds new filed ordered = (tt, new refl, ordered)
ordered-held pass s (call.PinRead file at len exclusive) id holds new filed ordered = (tt, new refl, ordered)
ordered-held pass s (call.PinMapped hold exclusive) id holds new filed ordered = ordered-changed hold _ holds (λ it. refl) (λ it found within. within) ordered
ordered-held pass s (call.PreparePin file at len true exclusive) id holds new filed ordered = (((at-least at, at-least (at + len)), tt), new refl, ordered)
ordered-held pass s (call.PreparePin file at len false exclusive) id holds new filed ordered = (tt, new refl, ordered)
ordered-held pass s (call.PinnedWrite hold at bytes) id holds new filed ordered =
    ordered-changed hold _ holds (λ it. refl) (λ it found within. (written-within pass at (length bytes) (hold_at holds hold) it filed found, within)) ordered
ordered-held pass s (call.SetDirty hold lsn) id holds new filed ordered = ordered-changed hold _ holds (λ it. refl) (λ it found within. tt) ordered
ordered-held pass s (call.EndHold hold) id holds new filed ordered = ordered-filtered _ holds ordered
ordered-held pass s (call.Repin hold) id holds new filed ordered = go (hold_at holds hold)
  where
    go : (o : Option Hold) → AreOrdered (repinned id pass o holds)
    go None = ordered
    go (Some it) = (tt, new refl, ordered)
ordered-held pass s (call.MdlRead file at len) id holds new filed ordered = (tt, new refl, ordered)
ordered-held pass s (call.MdlWrite file at len) id holds new filed ordered = (tt, new refl, ordered)
ordered-held pass s other id holds new filed ordered = ordered

-- what changes no hold
ordered-kept : (b : Bool) (e : Effect) (h : List Effect) → holds_of (e ∷ h) ≡ holds_of h → AreOrdered (holds_of h) → AreOrdered (holds_of (cons_option (if b then Some e else None) h))
ordered-kept true e h same before = rw same before
ordered-kept false e h same before = before

ordered-done : (u : Setup) (past : List Entry) (pass nth stream s : ℕ) (it : Call) (answer : _) → IsLegal u (entry.Call pass nth (Some stream) it (outcome.Done answer) ∷ past) → IsFiled (holds_of (history past stream)) pass (Some stream) it (file_of it) → AreOrdered (holds_of (history past s)) → (b : Bool) → (stream == s) ≡ b → AreOrdered (holds_of (cons_option (if b then Some (Did pass it answer) else None) (history past s)))
unfolding holds_of
ordered-done u past pass nth stream s it answer legal filed before true is =
    let same = eqb-true stream s is in
    ordered-held pass stream it (id_of answer) (holds_of (history past s))
    (λ makes. subst (λ (n : ℕ). AllBelow (id_of answer) (holds_of (history past n))) same (recursion_from_All _ _ (id-made u past pass nth stream it answer legal makes)))
    (subst (λ (n : ℕ). IsFiled (holds_of (history past n)) pass (Some stream) it (file_of it)) same filed) before
ordered-done u past pass nth stream s it answer legal filed before false is = before

ordered-entry : (u : Setup) (past : List Entry) (e : Entry) (s : ℕ) → IsLegal u (e ∷ past) → MayStand u past e → AreOrdered (holds_of (history past s)) → AreOrdered (holds_of (history (e ∷ past) s))
unfolding history
ordered-entry u past (entry.Call pass nth (Some stream) it (outcome.Done answer)) s legal stands before = ordered-done u past pass nth stream s it answer legal stands.filed before (stream == s) refl
ordered-entry u past (entry.Call pass nth (Some stream) it (outcome.Failed e)) s legal stands before = before
ordered-entry u past (entry.Call pass nth None it ended) s legal stands before = before
ordered-entry u past (entry.PageIn pass page from_disk) s legal stands before = ordered-kept (page.stream == s) (CameIn pass page.page from_disk) (history past s) (holds_of-came_in pass page.page from_disk (history past s)) before
ordered-entry u past (entry.PageOut pass page) s legal stands before = ordered-kept (page.stream == s) (WentOut pass page.page) (history past s) (holds_of-went_out pass page.page (history past s)) before
ordered-entry u past (entry.FillFailed pass page) s legal stands before = before
ordered-entry u past (entry.WriteBegin pass page) s legal stands before = ordered-kept (page.stream == s) (Began pass page.page) (history past s) (holds_of-began pass page.page (history past s)) before
ordered-entry u past (entry.WriteEnd pass page how) s legal stands before = ordered-kept (page.stream == s) (Ended pass page.page how) (history past s) (holds_of-ended pass page.page how (history past s)) before
ordered-entry u past (entry.Sync pass stream how) s legal stands before = ordered-kept (stream == s) (Synced pass how) (history past s) (holds_of-synced pass how (history past s)) before
ordered-entry u past (entry.Append pass handle lsn bytes) s legal stands before = before
ordered-entry u past (entry.Flushed pass handle to) s legal stands before = before
ordered-entry u past (entry.LogFailed pass handle) s legal stands before = before
ordered-entry u past (entry.Defer pass id file pages retrying) s legal stands before = before
ordered-entry u past (entry.Posted id) s legal stands before = before
ordered-entry u past (entry.Scan pass picked) s legal stands before = before
ordered-entry u past (entry.Record pass stream size valid how) s legal stands before = before
ordered-entry u past (entry.RecordFailed pass stream) s legal stands before = before
ordered-entry u past (entry.Locked pass file span exclusive granted id) s legal stands before = before
ordered-entry u past (entry.Unlocked pass file id gone) s legal stands before = before
ordered-entry u past (entry.Tested pass file span write conflict) s legal stands before = before

ordered-past : (u : Setup) (past : List Entry) (s : ℕ) → IsLegal u past → IsAllowedSoFar u past → AreOrdered (holds_of (history past s))
unfolding IsLegal IsAllowedSoFar history holds_of
ordered-past u [] s legal allowed = tt
ordered-past u (e ∷ past) s legal allowed = ordered-entry u past e s legal allowed.1 (ordered-past u past s legal.1 allowed.2)

-- a page of a range is a page of a wider one
wider : (at to p : ℕ) (r : Range) → at ≤ r.from → r.to ≤ to → has_page r p ≡ true → has_page (record { from = at; to = to }) p ≡ true
wider at to p r low high has =
    let parts = and_parts (nat_lt r.from r.to) _ has in
    let ends = and_parts (nat_lt r.from (4096 * p + 4096)) (nat_lt (4096 * p) r.to) parts.1 in
    let some = ltb-true r.from r.to parts.0 in
    let starts = ltb-true r.from (4096 * p + 4096) ends.0 in
    let before = ltb-true (4096 * p) r.to ends.1 in
    and_from _ _ (lt-ltb at to (first r.from r.to low high some)) (and_from _ _ (lt-ltb at (4096 * p + 4096) (second r.from low starts)) (lt-ltb (4096 * p) to (third r.to high before)))
  where
    first : (from end : ℕ) → at ≤ from → end ≤ to → from < end → at < to
    first from end a b c = omega arith

    second : (from : ℕ) → at ≤ from → from < 4096 * p + 4096 → at < 4096 * p + 4096
    second from a b = omega arith

    third : (end : ℕ) → end ≤ to → 4096 * p < end → 4096 * p < to
    third end a b = omega arith

owed-held : (at to p : ℕ) (owed : List Range) → AllByRecursion (λ (r : Range). (at ≤ r.from) × (r.to ≤ to)) owed → list_any (λ r. has_page r p) owed ≡ true → has_page (record { from = at; to = to }) p ≡ true
owed-held at to p [] within owes = absurd (cc)
owed-held at to p (r ∷ owed) within owes = go (has_page r p) refl owes (owed-held at to p owed within.1)
  where
    go : (b : Bool) → has_page r p ≡ b → (b || list_any (λ q. has_page q p) owed) ≡ true → (list_any (λ q. has_page q p) owed ≡ true → has_page (record { from = at; to = to }) p ≡ true) → has_page (record { from = at; to = to }) p ≡ true
    go true has any rest = wider at to p r within.0.0 within.0.1 has
    go false none any rest = rest any

owes-held : (p : ℕ) (holds : List Hold) → AreOrdered holds → list_any (owes_stamp p) holds ≡ true → is_held holds p ≡ true
owes-held p [] ordered owes = absurd (cc)
owes-held p (hold ∷ holds) ordered owes = go (owes_stamp p hold) refl owes (owes-held p holds ordered.2)
  where
    go : (b : Bool) → owes_stamp p hold ≡ b → (b || list_any (owes_stamp p) holds) ≡ true → (list_any (owes_stamp p) holds ≡ true → is_held holds p ≡ true) → (has_page (range_held hold) p || is_held holds p) ≡ true
    go true is any rest = or_left _ _ (owed-held hold.at (hold.at + hold.len) p hold.owed ordered.0 (and_parts (is_pin hold.kind) _ is).1)
    go false is any rest = or_right (has_page (range_held hold) p) _ (rest any)

-- so in a good journal a page that no open hold has is not owed a stamp
pub unheld-stamped : (u : Setup) (past : List Entry) (s p : ℕ) → IsGoodSoFar u past → is_held (holds_of (history past s)) p ≡ false → is_unstamped (history past s) p ≡ false
unheld-stamped u past s p good unheld = go (is_unstamped (history past s) p) refl
  where
    go : (b : Bool) → is_unstamped (history past s) p ≡ b → is_unstamped (history past s) p ≡ false
    go true is = absurd (cc (owes-held p (holds_of (history past s)) (ordered-past u past s good.legal good.allowed) is, unheld))
    go false is = is

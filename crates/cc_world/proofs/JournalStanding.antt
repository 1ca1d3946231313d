-- A journal that stands goes on standing with an entry, or with none.
use Rattle.std.specs.Prelude.{◌≡◌, ◌⊎◌, ◌↔◌, ℕ, ◌+◌, ◌-◌, ◌<◌, ◌≤◌, Bool, true, false, List, [], ◌∷◌, length, Result, Err, IsErrOf, refl}
use Rattle.std.proofs.Common.{ap, sym, ◌∙◌, subst, arith, inl, inr}
use Rattle.cc_dirty.specs.declared.row.Row.{Row}
use Rattle.cc_entry.specs.declared.entry.Entry.{Entry}
use Rattle.cc_entry.specs.declared.error.CcError.{CcError}
use Rattle.cc_entry.specs.declared.error.CcError.TheVariants as error
use Rattle.cc_entry.specs.declared.hold.Deferral.{Deferral}
use Rattle.cc_journal.specs.Journal.{JournalState, MayBePushed, room_of}
use Rattle.cc_journal.specs.Queue.{AllUnposted}
use Rattle.cc_journal.proofs.GoodEntries.{MayBePushed-good}
use Rattle.cc_model.specs.Allowed.{MayStand}
use Rattle.cc_model.specs.Good.{IsGood}
use Rattle.cc_model.specs.Room.{reserved_in}
use Rattle.cc_model.specs.Setup.{Setup}
use Rattle.cc_world.specs.Journals.{JournalHasPlaced, JournalEnded, JournalStandsUnder, JournalWent}
use Rattle.cc_world.specs.Reserving.{HasReserved, unreserved}
use Rattle.cc_effects.specs.Events.{IsWanting, MayHappen, asked_by_event}
use Rattle.cc_effects.specs.declared.events.Event.{Event}
use Rattle.cc_effects.specs.declared.events.StepReply.TheVariants as step
use Rattle.cc_world.proofs.Owing.{owes_nothing, reserved-same}
use Rattle.cc_world.proofs.Placing.{is_call, good-placed, so-far}

-- An entry that was placed where more places were reserved, whatever became of the rest.
pub placed-from : {Q : Type 0} (e : Entry) (m n : ℕ) (rows : List Row) (queue : List (Deferral × Q)) (j i k : JournalState Q) → i ≡ record j { reserved = m } → k ≡ record i { entries = e ∷ i.entries; reserved = n; rows = rows; queue = queue } → JournalHasPlaced (e ∷ []) j k
placed-from {Q} e m n rows queue j i k same placed =
    let flat : k ≡ record j { entries = e ∷ j.entries; reserved = n; rows = rows; queue = queue } =
    subst (λ (x : JournalState Q). k ≡ record x { entries = e ∷ x.entries; reserved = n; rows = rows; queue = queue }) same placed in
    subst (λ (x : JournalState Q). k ≡ record j { entries = e ∷ j.entries; reserved = x.reserved; rows = x.rows; queue = x.queue }) (sym flat) flat

as-err : (x y : CcError) → x ≡ y → IsErrOf {T = Unit {0}} {E = CcError} (Err x) y
as-err x y is =
    let f : CcError → Result (Unit {0}) CcError = λ z. Err z in
    ap f is

module _ {Q : Type 0} (posted : Q → Bool) (u : Setup) (j : JournalState Q) (stand : JournalStandsUnder posted u j) where
  -- one entry was placed
  pub went-one : (e : Entry) (k : JournalState Q) → IsGood u (e ∷ j.entries) → JournalHasPlaced (e ∷ []) j k → k.reserved ≡ reserved_in (e ∷ j.entries) → AllUnposted posted k.queue → JournalWent posted u (e ∷ []) j k
  went-one e k good placed reserved unposted =
      let grown : k.entries ≡ e ∷ j.entries = ap (λ x. x.entries) placed in
      record {
        stands = record {
          good = subst (λ (past : List Entry). IsGood u past) (sym grown) good;
          limits = (stand.limits.0 ∙ sym (ap (λ x. x.logs) placed), stand.limits.1 ∙ sym (ap (λ x. x.threshold) placed));
          reserved = reserved ∙ ap reserved_in (sym grown);
          unposted = unposted;
        };
        placed = placed;
      }

  -- nothing was placed
  pub went-none : (k : JournalState Q) → k ≡ j → JournalWent posted u [] j k
  went-none k same = subst (λ (x : JournalState Q). JournalWent posted u [] j x) (sym same) (record { stands = stand; placed = refl })

  pub may-push-plain : (e : Entry) → is_call e ≡ false → MayStand u j.entries e → MayBePushed j.entries e
  may-push-plain e plain may = MayBePushed-good u j.entries e (so-far u (e ∷ j.entries) (good-placed u j.entries e plain stand.good may))

  -- an entry of no call was placed, for which one place was reserved, and by which nothing more is owed
  pub went-plain : (e : Entry) (rows : List Row) (queue : List (Deferral × Q)) (i k : JournalState Q) → is_call e ≡ false → owes_nothing e ≡ true → MayStand u j.entries e → i ≡ record j { reserved = j.reserved + 1 } → k ≡ record i { entries = e ∷ i.entries; reserved = i.reserved - 1; rows = rows; queue = queue } → AllUnposted posted queue → JournalWent posted u (e ∷ []) j k
  went-plain e rows queue i k plain owes may same placed unposted =
      went-one e k (good-placed u j.entries e plain stand.good may)
      (placed-from e (j.reserved + 1) (i.reserved - 1) rows queue j i k same placed)
      (back _ _ _ _ _ (ap (λ x. x.reserved) placed) (ap (λ x. x.reserved) same) stand.reserved (reserved-same e j.entries owes))
      (subst (λ (q : List (Deferral × Q)). AllUnposted posted q) (sym (ap (λ x. x.queue) placed)) unposted)
    where
      back : (k i j before after : ℕ) → k ≡ i - 1 → i ≡ j + 1 → j ≡ before → after ≡ before → k ≡ after
      back k i j before after less more is same = omega arith

  -- No place was reserved: for want of room, or of memory.
  pub wanting : (it : Event Q) (e : CcError) (k : JournalState Q) → MayHappen u j.entries it → asked_by_event u j.entries it ≡ 1 → IsWanting j.entries it [] → (IsErrOf {T = Unit {0}} {E = CcError} (Err e) (error.JournalFull (length j.entries)) ↔ (room_of j < 1)) → (e ≡ error.JournalFull (length j.entries)) ⊎ (e ≡ error.NoMemory) → k ≡ j → JournalEnded posted u it (step.Refused e) j k
  wanting it e k may one nothing full (inl is) same =
      subst (λ (x : CcError). JournalEnded posted u it (step.Refused x) j k) (sym is)
      (may, subst (λ (n : ℕ). room_of j < n) (sym one) (full.0 (as-err e (error.JournalFull (length j.entries)) is)), refl, same)
  wanting it e k may one nothing full (inr is) same =
      subst (λ (x : CcError). JournalEnded posted u it (step.Refused x) j k) (sym is) ([], nothing, went-none k same)

  -- with one place reserved
  module _ (i : JournalState Q) (same : i ≡ record j { reserved = j.reserved + 1 }) where
    pub same-entries : i.entries ≡ j.entries
    same-entries = ap (λ x. x.entries) same

    pub same-queue : i.queue ≡ j.queue
    same-queue = ap (λ x. x.queue) same

    pub same-logs : u.logs ≡ i.logs
    same-logs = stand.limits.0 ∙ sym (ap (λ x. x.logs) same)

    pub same-threshold : u.threshold ≡ i.threshold
    same-threshold = stand.limits.1 ∙ sym (ap (λ x. x.threshold) same)

    pub as-unreserved : unreserved i ≡ j
    as-unreserved =
        subst (λ (x : JournalState Q). unreserved x ≡ j) (sym same)
        (ap (λ (n : ℕ). record j { reserved = n }) (less j.reserved))
      where
        less : (n : ℕ) → (n + 1) - 1 ≡ n
        less n = omega arith

    pub stands-unreserved : JournalStandsUnder posted u (unreserved i)
    stands-unreserved = subst (λ (x : JournalState Q). JournalStandsUnder posted u x) (sym as-unreserved) stand

    pub has-reserved : 1 ≤ room_of j → HasReserved posted i
    has-reserved room = record {
      place = some _ _ (ap (λ x. x.reserved) same);
      room = subst (λ (x : JournalState Q). 1 ≤ room_of x) (sym as-unreserved) room;
      standing = (u, stands-unreserved);
    }
      where
        some : (i j : ℕ) → i ≡ j + 1 → 0 < i
        some i j is = omega arith

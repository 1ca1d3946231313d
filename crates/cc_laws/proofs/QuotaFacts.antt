-- The blocks that a stream has mapped are within its quota.
use Rattle.std.specs.Prelude.{◌≡◌, ℕ, ◌*◌, ◌≤◌, Bool, true, false, not, ◌==◌, nat_eq, nat_lt, List, [], ◌∷◌, map, refl}
use Rattle.std.specs.declared.option.Option.{Option}
use Rattle.std.specs.declared.option.Option.TheVariants.{Some, None}
use Rattle.std.specs.List.{filter}
use Rattle.std.specs.Set.{distinct_count}
use Rattle.std.proofs.Common.{ap, ◌∙◌, arith}
use Rattle.cc_entry.specs.declared.call.Call.{Call}
use Rattle.cc_entry.specs.declared.reply.Reply.{Reply}
use Rattle.cc_entry.specs.Pages.{block_of}
use Rattle.cc_model.specs.Numbers.{without}
use Rattle.cc_model.specs.History.{Effect, Did, CameIn, WentOut, Began, Ended, Synced}
use Rattle.cc_model.specs.Acts.{Act, act_of, Opens, Closes, Resizes, Writes, Zeroes, Stores, Stamps, Discards, Looks}
use Rattle.cc_model.specs.Objects.{objects, truncation}
use Rattle.cc_model.specs.Ranges.{span_has}
use Rattle.cc_model.specs.Touches.{size_of, is_mapped}
use Rattle.cc_model.specs.Settings.{quota_of}
use Rattle.cc_model.specs.Residency.{below, residents, mapped_block_count, mapped_blocks_with}
use Rattle.cc_laws.proofs.QuotaSteps.{quota_of-opens_mapped, quota_of-opens_anew, quota_of-closes, quota_of-resizes, quota_of-writes, quota_of-zeroes, quota_of-stores, quota_of-stamps, quota_of-discards, quota_of-looks, quota_of-came_in, quota_of-went_out, quota_of-began, quota_of-ended, quota_of-synced}
use Rattle.cc_laws.proofs.ResidencySteps.{residents-mapped, residents-unmapped, residents-looks, residents-opens, residents-closes, residents-resizes, residents-writes, residents-zeroes, residents-stores, residents-stamps, residents-discards, residents-went_out, residents-began, residents-ended, residents-synced}
use Rattle.cc_laws.proofs.Lists1.{blocks-filtered, blocks-placed}
use Rattle.cc_laws.proofs.SafeHistory.{IsActSafe, IsSafe}

-- how many blocks pages have
abbrev pub count_blocks : List ℕ → ℕ
count_blocks pages = distinct_count nat_eq (map block_of pages)

below-fewer : (o : Option ℕ) (pages : List ℕ) → count_blocks (below o pages) ≤ count_blocks pages
below-fewer None pages = omega arith
below-fewer (Some to) pages = blocks-filtered (λ p. nat_lt (4096 * p) to) pages

-- the count and the quota of a history from those of the pages that it has
quota-by : (new : List Effect) (pages : List ℕ) (quota : ℕ) → residents new ≡ pages → quota_of new ≡ quota → count_blocks pages ≤ quota → mapped_block_count new ≤ quota_of new
quota-by new pages quota here same within = rw (ap count_blocks here) (rw same within)

quota-unmapped : (h : List Effect) → is_mapped h ≡ false → mapped_block_count h ≤ quota_of h
quota-unmapped h unmapped = quota-by h [] (quota_of h) (residents-unmapped h unmapped) refl (omega arith)

fewer-within : (a b quota : ℕ) → a ≤ b → b ≤ quota → a ≤ quota
fewer-within a b quota p q = omega arith

done-within : (pass : ℕ) (call : Call) (reply : Reply) (h : List Effect) → IsActSafe h (act_of call) → mapped_block_count h ≤ quota_of h → is_mapped (Did pass call reply ∷ h) ≡ true → mapped_block_count (Did pass call reply ∷ h) ≤ quota_of (Did pass call reply ∷ h)
done-within pass call reply h safe before mapped = go (act_of call) refl
  where
    same : residents (Did pass call reply ∷ h) ≡ residents h → quota_of (Did pass call reply ∷ h) ≡ quota_of h → mapped_block_count (Did pass call reply ∷ h) ≤ quota_of (Did pass call reply ∷ h)
    same here kept = quota-by (Did pass call reply ∷ h) (residents h) (quota_of h) here kept before

    cut : (o : Option ℕ) → residents (Did pass call reply ∷ h) ≡ below o (residents h) → quota_of (Did pass call reply ∷ h) ≡ quota_of h → mapped_block_count (Did pass call reply ∷ h) ≤ quota_of (Did pass call reply ∷ h)
    cut o here kept = quota-by (Did pass call reply ∷ h) (below o (residents h)) (quota_of h) here kept (fewer-within (count_blocks (below o (residents h))) (count_blocks (residents h)) (quota_of h) (below-fewer o (residents h)) before)

    go : (a : Act) → act_of call ≡ a → mapped_block_count (Did pass call reply ∷ h) ≤ quota_of (Did pass call reply ∷ h)
    go (Opens file sizes quota temporary) is = opened (is_mapped h) refl
      where
        opened : (t : Bool) → is_mapped h ≡ t → mapped_block_count (Did pass call reply ∷ h) ≤ quota_of (Did pass call reply ∷ h)
        opened true was = same (residents-opens pass call reply h is) (quota_of-opens_mapped pass call reply h is was)
        opened false was = quota-by (Did pass call reply ∷ h) [] quota (residents-opens pass call reply h is ∙ residents-unmapped h was) (quota_of-opens_anew pass call reply h is was) (omega arith)
    go (Closes file truncate) is = cut (truncation (objects h) (size_of h) file truncate) (residents-closes pass call reply h is mapped) (quota_of-closes pass call reply h is)
    go (Resizes allocation size) is = cut (Some size) (residents-resizes pass call reply h is mapped) (quota_of-resizes pass call reply h is)
    go (Writes at bytes) is = same (residents-writes pass call reply h is mapped) (quota_of-writes pass call reply h is)
    go (Zeroes from to) is = same (residents-zeroes pass call reply h is mapped) (quota_of-zeroes pass call reply h is)
    go (Stores page bytes) is =
        let room : mapped_blocks_with h page ≤ quota_of h = rw is at safe in
        quota-by (Did pass call reply ∷ h) (page ∷ without page (residents h)) (quota_of h) (residents-stores pass call reply h is mapped) (quota_of-stores pass call reply h is)
        (fewer-within (count_blocks (page ∷ without page (residents h))) (mapped_blocks_with h page) (quota_of h) (blocks-placed page (residents h)) room)
    go (Stamps hold lsn) is = same (residents-stamps pass call reply h is mapped) (quota_of-stamps pass call reply h is)
    go (Discards span) is =
        quota-by (Did pass call reply ∷ h) (filter (λ p. not (span_has span p)) (residents h)) (quota_of h) (residents-discards pass call reply h is mapped) (quota_of-discards pass call reply h is)
        (fewer-within (count_blocks (filter (λ p. not (span_has span p)) (residents h))) (count_blocks (residents h)) (quota_of h) (blocks-filtered (λ p. not (span_has span p)) (residents h)) before)
    go Looks is = same (residents-looks pass call reply h is) (quota_of-looks pass call reply h is)

quota-first : mapped_block_count [] ≤ quota_of []
unfolding residents quota_of
quota-first = omega arith

-- with a map an effect keeps its stream within the quota
effect-within : (e : Effect) (h : List Effect) → IsSafe (e ∷ h) → mapped_block_count h ≤ quota_of h → is_mapped (e ∷ h) ≡ true → mapped_block_count (e ∷ h) ≤ quota_of (e ∷ h)
unfolding IsSafe
effect-within (Did pass call reply) h safe before mapped = done-within pass call reply h safe.0.1 before mapped
effect-within (CameIn pass page from_disk) h safe before mapped =
    quota-by (CameIn pass page from_disk ∷ h) (page ∷ without page (residents h)) (quota_of h) (residents-mapped (CameIn pass page from_disk) h mapped) (quota_of-came_in pass page from_disk h)
    (fewer-within (count_blocks (page ∷ without page (residents h))) (mapped_blocks_with h page) (quota_of h) (blocks-placed page (residents h)) safe.0.in_quota)
effect-within (WentOut pass page) h safe before mapped =
    quota-by (WentOut pass page ∷ h) (without page (residents h)) (quota_of h) (residents-went_out pass page h) (quota_of-went_out pass page h)
    (fewer-within (count_blocks (without page (residents h))) (count_blocks (residents h)) (quota_of h) (blocks-filtered (λ m. not (m == page)) (residents h)) before)
effect-within (Began pass page) h safe before mapped = quota-by (Began pass page ∷ h) (residents h) (quota_of h) (residents-began pass page h) (quota_of-began pass page h) before
effect-within (Ended pass page how) h safe before mapped = quota-by (Ended pass page how ∷ h) (residents h) (quota_of h) (residents-ended pass page how h mapped) (quota_of-ended pass page how h) before
effect-within (Synced pass how) h safe before mapped = quota-by (Synced pass how ∷ h) (residents h) (quota_of h) (residents-synced pass how h) (quota_of-synced pass how h) before

pub quota-within : (h : List Effect) → IsSafe h → mapped_block_count h ≤ quota_of h
unfolding IsSafe
quota-within [] safe = quota-first
quota-within (e ∷ h) safe = go (is_mapped (e ∷ h)) refl (quota-within h safe.1)
  where
    go : (t : Bool) → is_mapped (e ∷ h) ≡ t → mapped_block_count h ≤ quota_of h → mapped_block_count (e ∷ h) ≤ quota_of (e ∷ h)
    go true mapped before = effect-within e h safe before mapped
    go false unmapped before = quota-unmapped (e ∷ h) unmapped

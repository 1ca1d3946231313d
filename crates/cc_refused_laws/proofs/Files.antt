-- What a page step, a sync and a call that looks leave of the file of a stream.
use Rattle.std.specs.Prelude.{◌≡◌, ℕ, Bool, true, false, not, List, [], ◌∷◌, ◌++◌, refl}
use Rattle.std.specs.declared.option.Option.{Option}
use Rattle.std.specs.declared.option.Option.TheVariants.{Some, None}
use Rattle.std.specs.List.{cons_option}
use Rattle.std.proofs.Common.{ap, sym, subst, ◌∙◌}
use Rattle.std.proofs.lemmas.Bool.{or_parts}
use Rattle.cc_entry.specs.declared.call.Call.{Call}
use Rattle.cc_entry.specs.declared.reply.Reply.{Reply}
use Rattle.cc_entry.specs.declared.entry.End.{End}
use Rattle.cc_model.specs.Numbers.{is_empty}
use Rattle.cc_model.specs.History.{Effect, Did, CameIn, WentOut, Began, Ended, Synced}
use Rattle.cc_model.specs.Acts.{act_of, Looks}
use Rattle.cc_model.specs.Sizes.{Sizes, Touch}
use Rattle.cc_model.specs.Touches.{is_dirty}
use Rattle.cc_laws.specs.Laws.{SameSettings}
use Rattle.cc_laws.specs.ByPlaces.{some_effect, touches_page, cuts_page}
use Rattle.cc_laws.specs.ByPlacesDirty.{IsTransferredSince, IsTouch}
use Rattle.cc_laws.proofs.QuietSteps.{none_or}
use Rattle.cc_laws.proofs.ObjectSteps.{objects-came_in, objects-went_out, objects-began, objects-ended, objects-synced, objects-looks}
use Rattle.cc_laws.proofs.SizeSteps.{sizes-came_in, sizes-went_out, sizes-began, sizes-ended, sizes-synced, sizes-looks}
use Rattle.cc_laws.proofs.TouchSteps.{touches-came_in, touches-went_out, touches-began_open, touches-synced, touches-looks}
use Rattle.cc_laws.proofs.HoldSteps.{holds_of-came_in, holds_of-went_out, holds_of-began, holds_of-ended, holds_of-synced, holds_of-other, changes_holds}
use Rattle.cc_laws.proofs.ByteSteps.{byte_of-came_in, byte_of-went_out, byte_of-began, byte_of-ended, byte_of-synced}
use Rattle.cc_laws.proofs.ByteLaws.{byte_of-looks}
use Rattle.cc_laws.proofs.QuotaSteps.{quota_of-came_in, quota_of-went_out, quota_of-began, quota_of-ended, quota_of-looks}
use Rattle.cc_laws.proofs.QuotaSteps.{is_temporary-came_in, is_temporary-went_out, is_temporary-began, is_temporary-ended, is_temporary-looks}
use Rattle.cc_laws.proofs.QuotaSteps.{allocation_of-came_in, allocation_of-went_out, allocation_of-began, allocation_of-ended, allocation_of-looks}
use Rattle.cc_laws.proofs.SettingSteps.{log_of-other, has_no_read_ahead-other, has_no_write_behind-other, threshold_of-other, granularity_of-other, makes_setting}
use Rattle.cc_laws.proofs.SettingEffects.{log_of-came_in, log_of-went_out, log_of-began, log_of-ended}
use Rattle.cc_laws.proofs.SettingEffects.{has_no_read_ahead-came_in, has_no_read_ahead-went_out, has_no_read_ahead-began, has_no_read_ahead-ended}
use Rattle.cc_laws.proofs.SettingEffects.{has_no_write_behind-came_in, has_no_write_behind-went_out, has_no_write_behind-began, has_no_write_behind-ended}
use Rattle.cc_laws.proofs.SettingEffects.{threshold_of-came_in, threshold_of-went_out, threshold_of-began, threshold_of-ended}
use Rattle.cc_laws.proofs.SettingEffects.{granularity_of-came_in, granularity_of-went_out, granularity_of-began, granularity_of-ended}
use Rattle.cc_laws.proofs.SettingEffects.{reads_of-came_in, reads_of-went_out, reads_of-began, reads_of-ended}
use Rattle.cc_laws.proofs.ReadSteps.{reads_of-other, concerns_reads}
use Rattle.cc_laws.proofs.KeptLaws.{SameSettings-synced}
use Rattle.cc_laws.proofs.PlacesDirty.{dirty-places}
use Rattle.cc_refused_laws.specs.Same.{SameFile}

-- ---- the settings

settings-came_in : (pass page : ℕ) (from_disk : Bool) (h : List Effect) → SameSettings (CameIn pass page from_disk ∷ h) h
settings-came_in pass page from_disk h = record {
  same_quota = quota_of-came_in pass page from_disk h;
  same_temporary = is_temporary-came_in pass page from_disk h;
  same_allocation = allocation_of-came_in pass page from_disk h;
  same_log = log_of-came_in pass page from_disk h;
  same_read_ahead = has_no_read_ahead-came_in pass page from_disk h;
  same_write_behind = has_no_write_behind-came_in pass page from_disk h;
  same_threshold = threshold_of-came_in pass page from_disk h;
  same_granularity = λ object. granularity_of-came_in object pass page from_disk h;
  same_reads = λ object. reads_of-came_in object pass page from_disk h;
}

settings-went_out : (pass page : ℕ) (h : List Effect) → SameSettings (WentOut pass page ∷ h) h
settings-went_out pass page h = record {
  same_quota = quota_of-went_out pass page h;
  same_temporary = is_temporary-went_out pass page h;
  same_allocation = allocation_of-went_out pass page h;
  same_log = log_of-went_out pass page h;
  same_read_ahead = has_no_read_ahead-went_out pass page h;
  same_write_behind = has_no_write_behind-went_out pass page h;
  same_threshold = threshold_of-went_out pass page h;
  same_granularity = λ object. granularity_of-went_out object pass page h;
  same_reads = λ object. reads_of-went_out object pass page h;
}

settings-began : (pass page : ℕ) (h : List Effect) → SameSettings (Began pass page ∷ h) h
settings-began pass page h = record {
  same_quota = quota_of-began pass page h;
  same_temporary = is_temporary-began pass page h;
  same_allocation = allocation_of-began pass page h;
  same_log = log_of-began pass page h;
  same_read_ahead = has_no_read_ahead-began pass page h;
  same_write_behind = has_no_write_behind-began pass page h;
  same_threshold = threshold_of-began pass page h;
  same_granularity = λ object. granularity_of-began object pass page h;
  same_reads = λ object. reads_of-began object pass page h;
}

settings-ended : (pass page : ℕ) (how : End) (h : List Effect) → SameSettings (Ended pass page how ∷ h) h
settings-ended pass page how h = record {
  same_quota = quota_of-ended pass page how h;
  same_temporary = is_temporary-ended pass page how h;
  same_allocation = allocation_of-ended pass page how h;
  same_log = log_of-ended pass page how h;
  same_read_ahead = has_no_read_ahead-ended pass page how h;
  same_write_behind = has_no_write_behind-ended pass page how h;
  same_threshold = threshold_of-ended pass page how h;
  same_granularity = λ object. granularity_of-ended object pass page how h;
  same_reads = λ object. reads_of-ended object pass page how h;
}

settings-looks : (pass : ℕ) (call : Call) (reply : Reply) (h : List Effect) → act_of call ≡ Looks → makes_setting call ≡ false → concerns_reads call ≡ false → SameSettings (Did pass call reply ∷ h) h
settings-looks pass call reply h looks sets reads = record {
  same_quota = quota_of-looks pass call reply h looks;
  same_temporary = is_temporary-looks pass call reply h looks;
  same_allocation = allocation_of-looks pass call reply h looks;
  same_log = log_of-other pass call reply h sets;
  same_read_ahead = has_no_read_ahead-other pass call reply h sets;
  same_write_behind = has_no_write_behind-other pass call reply h sets;
  same_threshold = threshold_of-other pass call reply h sets;
  same_granularity = λ object. granularity_of-other object pass call reply h sets;
  same_reads = λ object. reads_of-other object pass call reply h reads;
}

pub settings-then : (new between old : List Effect) → SameSettings new between → SameSettings between old → SameSettings new old
settings-then new between old second first = record {
  same_quota = second.same_quota ∙ first.same_quota;
  same_temporary = second.same_temporary ∙ first.same_temporary;
  same_allocation = second.same_allocation ∙ first.same_allocation;
  same_log = second.same_log ∙ first.same_log;
  same_read_ahead = second.same_read_ahead ∙ first.same_read_ahead;
  same_write_behind = second.same_write_behind ∙ first.same_write_behind;
  same_threshold = second.same_threshold ∙ first.same_threshold;
  same_granularity = λ object. second.same_granularity object ∙ first.same_granularity object;
  same_reads = λ object. second.same_reads object ∙ first.same_reads object;
}

settings-refl : (h : List Effect) → SameSettings h h
settings-refl h = record {
  same_quota = refl;
  same_temporary = refl;
  same_allocation = refl;
  same_log = refl;
  same_read_ahead = refl;
  same_write_behind = refl;
  same_threshold = refl;
  same_granularity = λ object. refl;
  same_reads = λ object. refl;
}

-- ---- what is dirty

clean-by : (ts us : List Touch) → ts ≡ us → not (is_empty us) ≡ false → not (is_empty ts) ≡ false
clean-by ts us same clean = ap (λ (l : List Touch). not (is_empty l)) same ∙ clean

-- a place whose touch is left behind the end of a transfer was left before it
touch-before : (pass page : ℕ) (how : End) (h : List Effect) (p : ℕ) (t : Touch) → IsTouch (Ended pass page how ∷ h) p t → IsTouch h p t
touch-before pass page how h p t k = by k.later k.places k.unwritten k.uncut
  where
    by : (later : List Effect) → Ended pass page how ∷ h ≡ later ++ k.effect ∷ k.before → (IsTransferredSince later p → ⊥) → some_effect (cuts_page p) later (k.effect ∷ k.before) ≡ false → IsTouch h p t
    by [] places never uncut =
        let is : k.effect ≡ Ended pass page how = cc places in
        let none : touches_page p k.effect k.before ≡ false = subst (λ (e : Effect). touches_page p e k.before ≡ false) (sym is) refl in
        absurd (cc (none, k.touches_it))
    by (e ∷ later) places never uncut = record {
      later = later;
      effect = k.effect;
      before = k.before;
      places = cc places;
      touches_it = k.touches_it;
      is = k.is;
      unwritten = λ (w : IsTransferredSince later p). never (record {
        after = e ∷ w.after;
        ok_end = w.ok_end;
        between = w.between;
        begin = w.begin;
        front = w.front;
        places = ap (λ (l : List Effect). e ∷ l) w.places;
        begins_it = w.begins_it;
        ends_it = w.ends_it;
        same_transfer = w.same_transfer;
      });
      uncut = (or_parts _ _ uncut).1;
    }

clean-ended : (pass page : ℕ) (how : End) (h : List Effect) (p : ℕ) → is_dirty h p ≡ false → is_dirty (Ended pass page how ∷ h) p ≡ false
clean-ended pass page how h p clean = go (is_dirty (Ended pass page how ∷ h) p) refl
  where
    go : (b : Bool) → is_dirty (Ended pass page how ∷ h) p ≡ b → b ≡ false
    go false is = refl
    go true is =
        let k = (dirty-places (Ended pass page how ∷ h) p).0 is in
        let still : is_dirty h p ≡ true = (dirty-places h p).1 (k.0, touch-before pass page how h p k.0 k.1) in
        absurd (cc (clean, still))

-- ---- the file

size-of : (new old : Sizes) → new ≡ old → new.size ≡ old.size
size-of new old same = ap (λ (x : Sizes). x.size) same

valid-of : (new old : Sizes) → new ≡ old → new.valid ≡ old.valid
valid-of new old same = ap (λ (x : Sizes). x.valid) same

file-came_in : (pass page : ℕ) (from_disk : Bool) (h : List Effect) → SameFile (CameIn pass page from_disk ∷ h) h
file-came_in pass page from_disk h = record {
  same_bytes = λ pages i. byte_of-came_in pages pass page from_disk h i;
  same_size = size-of _ _ (sizes-came_in pass page from_disk h);
  same_valid = valid-of _ _ (sizes-came_in pass page from_disk h);
  same_objects = objects-came_in pass page from_disk h;
  same_holds = holds_of-came_in pass page from_disk h;
  same_settings = settings-came_in pass page from_disk h;
  still_clean = λ p clean. clean-by _ _ (touches-came_in false pass page from_disk h p) clean;
}

file-went_out : (pass page : ℕ) (h : List Effect) → SameFile (WentOut pass page ∷ h) h
file-went_out pass page h = record {
  same_bytes = λ pages i. byte_of-went_out pages pass page h i;
  same_size = size-of _ _ (sizes-went_out pass page h);
  same_valid = valid-of _ _ (sizes-went_out pass page h);
  same_objects = objects-went_out pass page h;
  same_holds = holds_of-went_out pass page h;
  same_settings = settings-went_out pass page h;
  still_clean = λ p clean. clean-by _ _ (touches-went_out false pass page h p) clean;
}

file-began : (pass page : ℕ) (h : List Effect) → SameFile (Began pass page ∷ h) h
file-began pass page h = record {
  same_bytes = λ pages i. byte_of-began pages pass page h i;
  same_size = size-of _ _ (sizes-began pass page h);
  same_valid = valid-of _ _ (sizes-began pass page h);
  same_objects = objects-began pass page h;
  same_holds = holds_of-began pass page h;
  same_settings = settings-began pass page h;
  still_clean = λ p clean. clean-by _ _ (touches-began_open pass page h p) clean;
}

file-ended : (pass page : ℕ) (how : End) (h : List Effect) → SameFile (Ended pass page how ∷ h) h
file-ended pass page how h = record {
  same_bytes = λ pages i. byte_of-ended pages pass page how h i;
  same_size = size-of _ _ (sizes-ended pass page how h);
  same_valid = valid-of _ _ (sizes-ended pass page how h);
  same_objects = objects-ended pass page how h;
  same_holds = holds_of-ended pass page how h;
  same_settings = settings-ended pass page how h;
  still_clean = λ p clean. clean-ended pass page how h p clean;
}

file-synced : (pass : ℕ) (how : End) (h : List Effect) → SameFile (Synced pass how ∷ h) h
file-synced pass how h = record {
  same_bytes = λ pages i. byte_of-synced pages pass how h i;
  same_size = size-of _ _ (sizes-synced pass how h);
  same_valid = valid-of _ _ (sizes-synced pass how h);
  same_objects = objects-synced pass how h;
  same_holds = holds_of-synced pass how h;
  same_settings = SameSettings-synced pass how h;
  still_clean = λ p clean. clean-by _ _ (touches-synced false pass how h p) clean;
}

-- a call that looks, makes, changes and ends no hold, sets nothing, and is no copied read
pub file-looks : (pass : ℕ) (call : Call) (reply : Reply) (h : List Effect) → act_of call ≡ Looks → changes_holds call ≡ false → makes_setting call ≡ false → concerns_reads call ≡ false → SameFile (Did pass call reply ∷ h) h
file-looks pass call reply h looks holds sets reads = record {
  same_bytes = λ pages i. byte_of-looks pages pass call reply h i looks;
  same_size = size-of _ _ (sizes-looks pass call reply h looks);
  same_valid = valid-of _ _ (sizes-looks pass call reply h looks);
  same_objects = objects-looks pass call reply h looks;
  same_holds = holds_of-other pass call reply h holds;
  same_settings = settings-looks pass call reply h looks sets reads;
  still_clean = λ p clean. clean-by _ _ (touches-looks false pass call reply h p looks) clean;
}

file-refl : (h : List Effect) → SameFile h h
file-refl h = record {
  same_bytes = λ pages i. refl;
  same_size = refl;
  same_valid = refl;
  same_objects = refl;
  same_holds = refl;
  same_settings = settings-refl h;
  still_clean = λ p clean. clean;
}

pub file-same : (new old : List Effect) → new ≡ old → SameFile new old
file-same new old same = subst (λ (h : List Effect). SameFile h old) (sym same) (file-refl old)

pub file-then : (new between old : List Effect) → SameFile new between → SameFile between old → SameFile new old
file-then new between old second first = record {
  same_bytes = λ pages i. second.same_bytes pages i ∙ first.same_bytes pages i;
  same_size = second.same_size ∙ first.same_size;
  same_valid = second.same_valid ∙ first.same_valid;
  same_objects = second.same_objects ∙ first.same_objects;
  same_holds = second.same_holds ∙ first.same_holds;
  same_settings = settings-then new between old second.same_settings first.same_settings;
  still_clean = λ p clean. second.still_clean p (first.still_clean p clean);
}

-- whether an effect is a step of a page, or a sync
abbrev pub is_step : Effect → Bool
is_step (Did pass call reply) = false
is_step other = true

file-step : (e : Effect) (h : List Effect) → is_step e ≡ true → SameFile (e ∷ h) h
file-step (Did pass call reply) h step = absurd (cc)
file-step (CameIn pass page from_disk) h step = file-came_in pass page from_disk h
file-step (WentOut pass page) h step = file-went_out pass page h
file-step (Began pass page) h step = file-began pass page h
file-step (Ended pass page how) h step = file-ended pass page how h
file-step (Synced pass how) h step = file-synced pass how h

pub file-option : (o : Option Effect) (h : List Effect) → none_or is_step o ≡ true → SameFile (cons_option o h) h
file-option None h step = file-refl h
file-option (Some e) h step = file-step e h step

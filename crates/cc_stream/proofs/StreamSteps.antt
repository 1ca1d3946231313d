-- How what is kept of a stream steps.
use Rattle.std.specs.Prelude.{◌≡◌, ℕ, ◌<◌, Bool, true, false, List, [], ◌∷◌, All, length, unwrap_or, if◌then◌else◌, refl}
use Rattle.std.specs.declared.option.Option.{Option}
use Rattle.std.specs.declared.option.Option.TheVariants.{Some, None}
use Rattle.std.proofs.Common.{ap, sym, ◌∙◌, arith, subst}
use Rattle.std.proofs.lemmas.List.Elements.{All-nil, All-cons, All-filter}
use Rattle.cc_entry.specs.declared.call.Call.{Call}
use Rattle.cc_entry.specs.declared.reply.Reply.{Reply}
use Rattle.cc_model.specs.Numbers.{is_among}
use Rattle.cc_model.specs.History.{Effect, Did, CameIn, WentOut, Began, Ended, Synced}
use Rattle.cc_model.specs.Acts.{Act, act_of, Opens, Closes, Resizes}
use Rattle.cc_model.specs.Objects.{objects, had_map}
use Rattle.cc_model.specs.Touches.{sizes, size_of, is_mapped}
use Rattle.cc_model.specs.Settings.{allocation_of, quota_of, is_temporary, log_of, has_no_read_ahead, has_no_write_behind, threshold_of, log_after, no_ahead_after, no_behind_after, threshold_after}
use Rattle.cc_events.specs.Events.{event_of_act, objects_after, size_after, truncation_by}
use Rattle.cc_events.proofs.ObjectEvents.{objects-event}
use Rattle.cc_events.proofs.SizeEvents.{size-event}
use Rattle.cc_laws.proofs.QuotaSteps.{quota_of-opens_mapped, quota_of-opens_anew, is_temporary-opens_mapped, is_temporary-opens_anew, allocation_of-opens_mapped, allocation_of-opens_anew}
use Rattle.cc_stream.specs.Stream.{Stream, StreamStands, is_open_in, any_open, is_done}
use Rattle.cc_stream.specs.After.{after_act, after, ObjectIsNumbered}
use Rattle.cc_stream.proofs.Flags.{is_open_in-none, is_open_in-opens, is_open_in-closes, cut_of-is}

-- a stream of which nothing happened
pub stands-begun : (opened : List Bool) → any_open opened ≡ false → StreamStands [] (record { opened = opened; had_map = false; size = 0; allocation = 0; quota = 0; temporary = false; log = None; no_read_ahead = false; no_write_behind = false; threshold = 0 })
unfolding objects had_map sizes allocation_of quota_of is_temporary log_of has_no_read_ahead has_no_write_behind threshold_of
stands-begun opened none =
    record {
      opened = is_open_in-none opened none;
      numbered = All-nil (λ n. n < 16);
      had_map = refl;
      size = refl;
      allocation = refl;
      quota = refl;
      temporary = refl;
      log = refl;
      no_read_ahead = refl;
      no_write_behind = refl;
      threshold = refl;
    }

-- a history that says the same
stands-same : (g h : List Effect) (s : Stream) → objects g ≡ objects h → had_map g ≡ had_map h → size_of g ≡ size_of h → allocation_of g ≡ allocation_of h → quota_of g ≡ quota_of h → is_temporary g ≡ is_temporary h → log_of g ≡ log_of h → has_no_read_ahead g ≡ has_no_read_ahead h → has_no_write_behind g ≡ has_no_write_behind h → threshold_of g ≡ threshold_of h → StreamStands h s → StreamStands g s
stands-same g h s opened had size allocation quota temporary log ahead behind threshold stands =
    record {
      opened = λ k. stands.opened k ∙ ap (is_among k) (sym opened);
      numbered = subst (All (λ n. n < 16)) (sym opened) stands.numbered;
      had_map = stands.had_map ∙ sym had;
      size = stands.size ∙ sym size;
      allocation = stands.allocation ∙ sym allocation;
      quota = stands.quota ∙ sym quota;
      temporary = stands.temporary ∙ sym temporary;
      log = stands.log ∙ sym log;
      no_read_ahead = stands.no_read_ahead ∙ sym ahead;
      no_write_behind = stands.no_write_behind ∙ sym behind;
      threshold = stands.threshold ∙ sym threshold;
    }

-- what is no call that was done leaves a stream as it was
pub stands-other : (e : Effect) (h : List Effect) (s : Stream) → is_done e ≡ false → StreamStands h s → StreamStands (e ∷ h) s
unfolding objects had_map sizes allocation_of quota_of is_temporary log_of has_no_read_ahead has_no_write_behind threshold_of
stands-other (Did pass call reply) h s other stands = cc
stands-other (CameIn pass page from_disk) h s other stands = stands-same _ h s refl refl refl refl refl refl refl refl refl refl stands
stands-other (WentOut pass page) h s other stands = stands-same _ h s refl refl refl refl refl refl refl refl refl refl stands
stands-other (Began pass page) h s other stands = stands-same _ h s refl refl refl refl refl refl refl refl refl refl stands
stands-other (Ended pass page how) h s other stands = stands-same _ h s refl refl refl refl refl refl refl refl refl refl stands
stands-other (Synced pass how) h s other stands = stands-same _ h s refl refl refl refl refl refl refl refl refl refl stands

opened-after : (a : Act) (mapped : Bool) (s : Stream) (ns : List ℕ) → ObjectIsNumbered a → length s.opened ≡ 16 → ((k : ℕ) → is_open_in s.opened k ≡ is_among k ns) → (k : ℕ) → is_open_in (after_act a mapped s).opened k ≡ is_among k (objects_after (event_of_act a) ns)
opened-after (Opens file given quota temporary) true s ns below sixteen flags = is_open_in-opens s.opened ns file.object (omega arith) flags
opened-after (Opens file given quota temporary) false s ns below sixteen flags = is_open_in-opens s.opened ns file.object (omega arith) flags
opened-after (Closes file truncate) mapped s ns below sixteen flags = is_open_in-closes s.opened ns file.object flags
opened-after other mapped s ns below sixteen flags = flags

numbered-after : (a : Act) (ns : List ℕ) → ObjectIsNumbered a → All (λ n. n < 16) ns → All (λ n. n < 16) (objects_after (event_of_act a) ns)
numbered-after (Opens file given quota temporary) ns below all = All-cons (λ n. n < 16) _ _ below (All-filter _ (λ n. n < 16) ns all)
numbered-after (Closes file truncate) ns below all = All-filter _ (λ n. n < 16) ns all
numbered-after other ns below all = all

had_map-after : (a : Act) (mapped : Bool) (s : Stream) (pass : ℕ) (call : Call) (reply : Reply) (h : List Effect) → act_of call ≡ a → s.had_map ≡ had_map h → (after_act a mapped s).had_map ≡ had_map (Did pass call reply ∷ h)
unfolding had_map
had_map-after (Opens file given quota temporary) true s pass call reply h act same = rw (act, had_map) refl
had_map-after (Opens file given quota temporary) false s pass call reply h act same = rw (act, had_map) refl
had_map-after other mapped s pass call reply h act same = rw (act, had_map) same

cut-size : (o : Option ℕ) (size old : ℕ) → size ≡ old → unwrap_or o size ≡ elim o [ None ↦ old | Some to ↦ to ]
cut-size None size old same = same
cut-size (Some to) size old same = refl

size-after : (a : Act) (mapped : Bool) (s : Stream) (h : List Effect) → ((k : ℕ) → is_open_in s.opened k ≡ is_among k (objects h)) → mapped ≡ is_mapped h → s.size ≡ size_of h → (after_act a mapped s).size ≡ size_after (event_of_act a) h
size-after (Opens file given quota temporary) true s h flags is same = same ∙ ap (λ (b : Bool). if b then size_of h else given.size) is
size-after (Opens file given quota temporary) false s h flags is same = ap (λ (b : Bool). if b then size_of h else given.size) is
size-after (Closes file truncate) mapped s h flags is same =
    rw (cut_of-is s file.object truncate (objects h) (size_of h) flags same) (cut-size (truncation_by file.object truncate (objects h) (size_of h)) s.size (size_of h) same)
size-after (Resizes allocation size) mapped s h flags is same = refl
size-after other mapped s h flags is same = same

allocation-after : (a : Act) (mapped : Bool) (s : Stream) (pass : ℕ) (call : Call) (reply : Reply) (h : List Effect) → act_of call ≡ a → mapped ≡ is_mapped h → s.allocation ≡ allocation_of h → (after_act a mapped s).allocation ≡ allocation_of (Did pass call reply ∷ h)
unfolding allocation_of
allocation-after (Opens file given quota temporary) true s pass call reply h act is same = same ∙ sym (allocation_of-opens_mapped pass call reply h act (sym is))
allocation-after (Opens file given quota temporary) false s pass call reply h act is same = sym (allocation_of-opens_anew pass call reply h act (sym is))
allocation-after (Resizes allocation size) mapped s pass call reply h act is same = rw (act, allocation_of) refl
allocation-after other mapped s pass call reply h act is same = rw (act, allocation_of) same

quota-after : (a : Act) (mapped : Bool) (s : Stream) (pass : ℕ) (call : Call) (reply : Reply) (h : List Effect) → act_of call ≡ a → mapped ≡ is_mapped h → s.quota ≡ quota_of h → (after_act a mapped s).quota ≡ quota_of (Did pass call reply ∷ h)
unfolding quota_of
quota-after (Opens file given quota temporary) true s pass call reply h act is same = same ∙ sym (quota_of-opens_mapped pass call reply h act (sym is))
quota-after (Opens file given quota temporary) false s pass call reply h act is same = sym (quota_of-opens_anew pass call reply h act (sym is))
quota-after other mapped s pass call reply h act is same = rw (act, quota_of) same

temporary-after : (a : Act) (mapped : Bool) (s : Stream) (pass : ℕ) (call : Call) (reply : Reply) (h : List Effect) → act_of call ≡ a → mapped ≡ is_mapped h → s.temporary ≡ is_temporary h → (after_act a mapped s).temporary ≡ is_temporary (Did pass call reply ∷ h)
unfolding is_temporary
temporary-after (Opens file given quota temporary) true s pass call reply h act is same = same ∙ sym (is_temporary-opens_mapped pass call reply h act (sym is))
temporary-after (Opens file given quota temporary) false s pass call reply h act is same = sym (is_temporary-opens_anew pass call reply h act (sym is))
temporary-after other mapped s pass call reply h act is same = rw (act, is_temporary) same

-- a call that was done
pub stands-done : (call : Call) (mapped : Bool) (s : Stream) → ObjectIsNumbered (act_of call) → length s.opened ≡ 16 → (h : List Effect) (pass : ℕ) (reply : Reply) → StreamStands h s → mapped ≡ is_mapped h → StreamStands (Did pass call reply ∷ h) (after call mapped s)
unfolding log_of has_no_read_ahead has_no_write_behind threshold_of
stands-done call mapped s below sixteen h pass reply stands is =
    record {
      opened = λ k. opened-after (act_of call) mapped s (objects h) below sixteen stands.opened k ∙ ap (is_among k) (sym (objects-event (Some (Did pass call reply)) h));
      numbered = subst (All (λ n. n < 16)) (sym (objects-event (Some (Did pass call reply)) h)) (numbered-after (act_of call) (objects h) below stands.numbered);
      had_map = had_map-after (act_of call) mapped s pass call reply h refl stands.had_map;
      size = size-after (act_of call) mapped s h stands.opened is stands.size ∙ sym (size-event (Some (Did pass call reply)) h);
      allocation = allocation-after (act_of call) mapped s pass call reply h refl is stands.allocation;
      quota = quota-after (act_of call) mapped s pass call reply h refl is stands.quota;
      temporary = temporary-after (act_of call) mapped s pass call reply h refl is stands.temporary;
      log = ap (log_after call) stands.log;
      no_read_ahead = ap (no_ahead_after call) stands.no_read_ahead;
      no_write_behind = ap (no_behind_after call) stands.no_write_behind;
      threshold = ap (threshold_after call) stands.threshold;
    }

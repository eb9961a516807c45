-- Events that send a record.
use Rattle.std.proofs.Common.{◌≡◌, ◌∙◌, ℕ, suc, ◌-◌, ◌%◌, ◌≤◌, ◌&&◌, leb, arith, true, List, [], ◌∷◌, Option, Some, None, length, refl, sym, ap, ap₂, subst, length-set}
use Rattle.std.specs.Prelude.{slice_index_or}
use Rattle.std.proofs.Math.Nat.{le_refl}
use Rattle.std.specs.Str.{IsUtf8}
use Rattle.lb_base.specs.declared.value.Cond.{Cond}
use Rattle.lb_base.specs.declared.value.Mode.{Mode}
use Rattle.lb_base.specs.declared.value.Record.{Record}
use Rattle.lb_base.specs.declared.value.Seqnum.{Seqnum}
use Rattle.lb_base.specs.declared.value.Tag.{Tag}
use Rattle.lb_base.specs.declared.value.Value.{Value}
use Rattle.boki_types.specs.declared.body.Body.{Body}
use Rattle.boki_types.specs.declared.body.Body.TheVariants as body
use Rattle.boki_types.specs.declared.event.Event.{Event}
use Rattle.boki_types.specs.declared.event.Event.TheVariants as event
use Rattle.boki_types.specs.declared.line.Line.{Line}
use Rattle.boki_types.specs.declared.line.Line.TheVariants as line
use Rattle.boki_types.specs.declared.log.Sent.{Sent}
use Rattle.boki_types.specs.declared.plan.Setup.{Setup}
use Rattle.boki_types.specs.declared.program.Function.{Function}
use Rattle.boki_model.specs.Bodies.{tags_of, tag_of, path_number}
use Rattle.boki_model.specs.declared.tag_classes.TheConstants.{CALL_CLASS}
use Rattle.boki_model.specs.Live.{LogRecord}
use Rattle.boki_model.specs.OrderLaws.{add_to}
use Rattle.boki_model.specs.Bodies.{is_u64}
use Rattle.boki_model.specs.Plans.{is_event, is_from_one_to, in_bounds, is_user_tag, are_user_tags, is_text}
use Rattle.boki_model.specs.declared.limits.TheConstants.{MAX_LIST_ITEMS}
use Rattle.std.specs.List.{list_all}
use Rattle.std.proofs.lemmas.Bool.{and_parts, leb-true}
use Rattle.boki_machine.specs.Machine as machine
use Rattle.boki_machine.specs.Machine.{Machine, EventResult, first_tag, apply_event}
use Rattle.boki_machine.specs.Step.{function_name}
use Rattle.script_ranges.specs.Ranged.{NumbersHaveRoom, are_bytes}
use Rattle.book_api.specs.Books.{BookState, home_shard, next_sent, appended, position}
use Rattle.step_log.specs.Sound.{bodies, Sound, record_of, entry_with, user_record, user_entry, IsBodySent, IsUserSent}
use Rattle.step_laws.specs.Kept.{IsTextEvent}
use Rattle.flow_parts.specs.declared.parts.Parts.{Parts}
use Rattle.flow_parts.proofs.Appended.{log_same}
use Rattle.cluster_events.specs.Machines.{PartsAreOf, IsEventDone}
use Rattle.cluster_events.proofs.Machines.{records_are}
use Rattle.cluster_events.proofs.Done.{IsBookMoved, positions_within, book_done}

module _ (setup : Setup) (fs : List Function) (m : Machine) (old : Parts) (are : PartsAreOf setup fs m old) (engine : ℕ) where
  -- where the engine's next record will stand
  pub next_same : machine.next_sent setup m engine ≡ next_sent old.book engine
  next_same =
      ap₂ (λ (shards : List (List (LogRecord Body))) (n : ℕ). record { shard = suc ((engine - 1) % n); local = suc (length (slice_index_or shards (suc ((engine - 1) % n) - 1) [])) })
      are.book.shards (sym are.stand.sizes.shards)
      ∙ ap (λ n. record { shard = home_shard old.book engine; local = suc n }) (records_are old.book (home_shard old.book engine - 1))

  -- Another record stands there.
  module _ (r : Record) (e : LogRecord Body) where
    at_end : bodies (appended engine r old.book) ≡ add_to (home_shard old.book engine - 1) e (bodies old.book) → Sound (appended engine r old.book)
        → IsBookMoved setup m (machine.append setup engine e m) old.book (appended engine r old.book)
    at_end says sound = record {
      book = record {
        shards =
            ap₂ (λ (shards : List (List (LogRecord Body))) (n : ℕ). add_to (suc ((engine - 1) % n) - 1) e shards) are.book.shards (sym are.stand.sizes.shards)
            ∙ sym says;
        counts = are.book.counts;
        vectors = are.book.vectors;
        positions = are.book.positions;
        aux = are.book.aux;
      };
      store = refl;
      replicas = are.replicas;
      sound = sound;
      shards = length-set old.book.shards (home_shard old.book engine - 1) _;
      engines = refl;
      grows = record {
        news = [];
        log_is = log_same setup m.store old are.stand engine r;
        within = positions_within setup fs m old are;
        rise = λ e. le_refl (position old.book e);
      };
    }

    module _ (b : BookState) (after : b ≡ appended engine r old.book) (says : bodies b ≡ add_to (home_shard old.book engine - 1) e (bodies old.book)) (sound : Sound b) where
      pub sent_moved : IsBookMoved setup m (machine.append setup engine e m) old.book b
      sent_moved =
          subst (λ (b : BookState). IsBookMoved setup m (machine.append setup engine e m) old.book b) (sym after)
          (at_end (ap bodies (sym after) ∙ says) (subst Sound after sound))

  module _ (b : BookState) (sound : Sound b) (ev : Event) (text : IsTextEvent setup fs ev) (room : NumbersHaveRoom m ev) where
    pub body_done :
        (condition : Option Cond) (says : Body) (sent : Sent) (line : Line) → IsBodySent engine condition says old.book b sent
        → line ≡ (apply_event setup fs m ev).line
        → (apply_event setup fs m ev).machine ≡ machine.append setup engine (record { tags = tags_of says; condition = condition; holds = says }) m
        → IsEventDone setup fs ev m (record old { book = b }) line
    body_done condition says sent line is line_is machine_is =
        book_done setup fs m old are ev text room b line line_is
        (subst (λ (after : Machine). IsBookMoved setup m after old.book b) (sym machine_is)
        (sent_moved (record_of condition says) (entry_with condition says) b is.after is.says sound))

    pub user_done :
        (condition : Option Cond) (tags : List Tag) (bytes : List ℕ) (sent : Sent) → IsUserSent engine condition tags bytes old.book b sent
        → (apply_event setup fs m ev) ≡ machine.sends setup m engine (user_entry condition tags bytes)
        → IsEventDone setup fs ev m (record old { book = b }) (line.Sent sent)
    user_done condition tags bytes sent is result_is =
        book_done setup fs m old are ev text room b (line.Sent sent)
        (ap line.Sent (is.location ∙ sym next_same) ∙ sym (ap (λ (r : EventResult). r.line) result_is))
        (subst (λ (after : Machine). IsBookMoved setup m after old.book b) (sym (ap (λ (r : EventResult). r.machine) result_is))
        (sent_moved (user_record condition tags bytes) (user_entry condition tags bytes) b is.after is.says sound))

-- The events themselves.
module _ (setup : Setup) (fs : List Function) (m : Machine) (old : Parts) (are : PartsAreOf setup fs m old) (b : BookState) (sound : Sound b) (engine : ℕ) (sent : Sent) where
  pub switch_done :
      (target : Mode) → is_event setup fs (event.Switch engine target) ≡ true → IsBodySent engine None (body.SwitchBegin target) old.book b sent
      → IsEventDone setup fs (event.Switch engine target) m (record old { book = b }) (line.Sent sent)
  switch_done target valid is =
      body_done setup fs m old are engine b sound (event.Switch engine target) (record { valid = valid; bytes = refl; text = tt }) tt None (body.SwitchBegin target) sent (line.Sent sent) is
      (ap line.Sent (is.location ∙ sym (next_same setup fs m old are engine))) refl

  pub trim_tag_done :
      (tag : Tag) (upto : Seqnum) → is_event setup fs (event.TrimTag engine tag upto) ≡ true → IsBodySent engine None (body.TrimTag tag.0 upto.0) old.book b sent
      → IsEventDone setup fs (event.TrimTag engine tag upto) m (record old { book = b }) (line.Sent sent)
  trim_tag_done tag upto valid is =
      body_done setup fs m old are engine b sound (event.TrimTag engine tag upto) (record { valid = valid; bytes = refl; text = tt }) tt None (body.TrimTag tag.0 upto.0) sent (line.Sent sent) is
      (ap line.Sent (is.location ∙ sym (next_same setup fs m old are engine))) refl

  pub submit_done :
      (request function : ℕ) (args : List Value) → is_event setup fs (event.Submit engine request function args) ≡ true
      → IsBodySent engine (Some (record { tag = tag_of CALL_CLASS (path_number (request ∷ [])); place = 0 })) (body.Submit (request ∷ []) (function_name function fs) args) old.book b sent
      → IsEventDone setup fs (event.Submit engine request function args) m (record old { book = b }) (line.Sent sent)
  submit_done request function args valid is =
      body_done setup fs m old are engine b sound (event.Submit engine request function args) (record { valid = valid; bytes = refl; text = tt }) tt
      (Some (record { tag = tag_of CALL_CLASS (path_number (request ∷ [])); place = 0 })) (body.Submit (request ∷ []) (function_name function fs) args) sent (line.Sent sent) is
      (ap line.Sent (is.location ∙ sym (next_same setup fs m old are engine))) refl

  pub append_done :
      (tags : List Tag) (text : List ℕ) → is_event setup fs (event.Append engine tags text) ≡ true → are_bytes text ≡ true → IsUtf8 text → IsUserSent engine None tags text old.book b sent
      → IsEventDone setup fs (event.Append engine tags text) m (record old { book = b }) (line.Sent sent)
  append_done tags text valid bytes utf8 is =
      user_done setup fs m old are engine b sound (event.Append engine tags text) (record { valid = valid; bytes = bytes; text = utf8 }) tt None tags text sent is refl

  pub cond_done :
      (place : ℕ) (tags : List Tag) (text : List ℕ) → is_event setup fs (event.Cond engine place tags text) ≡ true → are_bytes text ≡ true → IsUtf8 text
      → IsUserSent engine (Some (record { tag = first_tag tags; place = place })) tags text old.book b sent
      → IsEventDone setup fs (event.Cond engine place tags text) m (record old { book = b }) (line.Sent sent)
  cond_done place tags text valid bytes utf8 is =
      user_done setup fs m old are engine b sound (event.Cond engine place tags text) (record { valid = valid; bytes = bytes; text = utf8 }) tt
      (Some (record { tag = first_tag tags; place = place })) tags text sent is refl

  pub append_said :
      (tags told : List Tag) (text bytes : List ℕ) → is_event setup fs (event.Append engine tags text) ≡ true → told ≡ tags → bytes ≡ text → are_bytes bytes ≡ true → IsUtf8 text → IsUserSent engine None told bytes old.book b sent
      → IsEventDone setup fs (event.Append engine tags text) m (record old { book = b }) (line.Sent sent)
  append_said tags told text bytes valid t s are_all utf8 is =
      append_done tags text valid (ap are_bytes (sym s) ∙ are_all) utf8
      (subst (λ (l : List Tag). IsUserSent engine None l text old.book b sent) t (subst (λ (l : List ℕ). IsUserSent engine None told l old.book b sent) s is))

  pub cond_said :
      (tags told : List Tag) (text bytes : List ℕ) (place : ℕ) (tag : Tag) → is_event setup fs (event.Cond engine place tags text) ≡ true → tag ≡ first_tag tags → told ≡ tags → bytes ≡ text → are_bytes bytes ≡ true → IsUtf8 text
      → IsUserSent engine (Some (record { tag = tag; place = place })) told bytes old.book b sent
      → IsEventDone setup fs (event.Cond engine place tags text) m (record old { book = b }) (line.Sent sent)
  cond_said tags told text bytes place tag valid f t s are_all utf8 is =
      cond_done place tags text valid (ap are_bytes (sym s) ∙ are_all) utf8
      (subst (λ (x : Tag). IsUserSent engine (Some (record { tag = x; place = place })) tags text old.book b sent) f
      (subst (λ (l : List Tag). IsUserSent engine (Some (record { tag = tag; place = place })) l text old.book b sent) t
      (subst (λ (l : List ℕ). IsUserSent engine (Some (record { tag = tag; place = place })) told l old.book b sent) s is)))

-- the first of some tags
first_there : (tags : List Tag) (d : Tag) → 1 ≤ length tags → slice_index_or tags 0 d ≡ first_tag tags
first_there [] d le = absurd (let no : ⊥ = omega (arith, le) in no)
first_there (t ∷ ts) d le = refl

pub first_is : (setup : Setup) (fs : List Function) (engine place : ℕ) (tags : List Tag) (text : List ℕ) (told : List Tag) (d : Tag) → told ≡ tags → is_event setup fs (event.Cond engine place tags text) ≡ true
    → slice_index_or told 0 d ≡ first_tag tags
first_is setup fs engine place tags text told d same ok =
    let most = is_from_one_to setup.engines engine && is_u64 place in
    let own = (and_parts most (are_user_tags tags) (and_parts (most && are_user_tags tags) (is_text text) ok).0).1 in
    let some = (and_parts (in_bounds 1 MAX_LIST_ITEMS (length tags)) (list_all is_user_tag tags) own).0 in
    ap (λ (l : List Tag). slice_index_or l 0 d) same ∙ first_there tags d (leb-true 1 (length tags) (and_parts (leb 1 (length tags)) (leb (length tags) MAX_LIST_ITEMS) some).0)

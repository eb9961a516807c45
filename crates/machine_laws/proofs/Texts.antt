-- What users wrote stays text.
use Rattle.std.proofs.Common.{◌≡◌, ℕ, zero, suc, ◌-◌, Bool, true, false, cond, eqb, leb, ◌&&◌, not, List, [], ◌∷◌, length, Option, Some, None, refl, sym, subst}
use Rattle.std.specs.Prelude.{is_some, replicate, take, slice_index_or, slice_set}
use Rattle.std.specs.List.{filter, AllByRecursion}
use Rattle.std.specs.Str.{IsUtf8}
use Rattle.std.proofs.lemmas.Str.{IsUtf8-nil}
use Rattle.boki_types.specs.declared.body.Body.{Body}
use Rattle.boki_types.specs.declared.body.Body.TheVariants as b
use Rattle.boki_types.specs.declared.event.Event.TheVariants as v
use Rattle.boki_types.specs.declared.line.Line.TheVariants as line
use Rattle.boki_types.specs.declared.plan.Setup.{Setup}
use Rattle.boki_types.specs.declared.program.Function.{Function}
use Rattle.boki_model.specs.Live.{LogRecord, Live, meets_condition, live, upto}
use Rattle.boki_model.specs.Order.{entry_records, last_vector, order, progress}
use Rattle.boki_model.specs.Bodies.{step_of}
use Rattle.boki_model.specs.Modes.{Switch, least_open, modes}
use Rattle.boki_machine.specs.Attempt.{Attempt, Move}
use Rattle.boki_machine.specs.Step.{function_name, step}
use Rattle.boki_machine.specs.Machine.{Aux, Machine, event_result, log, live_records, view, position, home_shard, next_sent, append_to, log_record, unconditional_record, submit_record, first_tag, cut, cuts_nothing, attempt_at, with_attempt, start_attempt, append_sent, apply_move, step_attempt, kill_attempt, lose_record, miss_attempt, end_if_all_ended, send_switch_end, user_text, user_text_at, aux_of, aux_at, move_to_front, with_aux, set_aux, get_aux}
use Rattle.exactly_once.specs.FurtherLaws.Words.{IsAmong, all_records}
use Rattle.exactly_once.proofs.Log.ListElements.{each_append, each_weaker, each_tail}
use Rattle.exactly_once.proofs.Invocations.InitAndCursor.{upto_tail}
use Rattle.exactly_once.proofs.Invariant.OrderedRecord.{among_each}
use Rattle.exactly_once.proofs.Machines.SentRecords.{SendsStep, step_sends}
use Rattle.exactly_once.proofs.Machines.ShardsAndVectors.{each_add, added_among}
use Rattle.machine_laws.specs.Texts.{HoldsUtf8, HasUtf8Texts, OpeningIsText, EventsKeepTexts, EnginesSeeTexts}

abbrev SomeText : Option (LogRecord Body) → Type 0
SomeText None = Unit {0}
SomeText (Some r) = HoldsUtf8 r.holds

-- What a step sends is a step record, and no user's.
step_text : (body : Body) → is_some (step_of body) ≡ true → HoldsUtf8 body
step_text (b.User bytes) step = let no_way : false ≡ true = step in cc
step_text _ step = tt

sent_text : (r : Option (LogRecord Body)) → SendsStep r → SomeText r
sent_text None sends = tt
sent_text (Some r) sends = step_text r.holds sends

-- Auxiliary data.

module _ {A : Type 0} (P : A → Type 0) where
  each_set : (xs : List A) (i : ℕ) (x : A) → P x → AllByRecursion P xs → AllByRecursion P (slice_set xs i x)
  each_set [] i x one all = tt
  each_set (y ∷ ys) zero x one all = (one, all.1)
  each_set (y ∷ ys) (suc i) x one all = (all.0, each_set ys i x one all.1)

  each_index : (xs : List A) (i : ℕ) (default : A) → P default → AllByRecursion P xs → P (slice_index_or xs i default)
  each_index [] i default one all = one
  each_index (y ∷ ys) zero default one all = all.0
  each_index (y ∷ ys) (suc i) default one all = each_index ys i default one all.1

  each_take : (n : ℕ) (xs : List A) → AllByRecursion P xs → AllByRecursion P (take n xs)
  each_take zero [] all = tt
  each_take zero (x ∷ xs) all = tt
  each_take (suc n) [] all = tt
  each_take (suc n) (x ∷ xs) all = (all.0, each_take n xs all.1)

  each_filter : (test : A → Bool) (xs : List A) → AllByRecursion P xs → AllByRecursion P (filter test xs)
  each_filter test [] all = tt
  each_filter test (x ∷ xs) all = at (test x) (each_filter test xs all.1)
    where
      at : (t : Bool) → AllByRecursion P (filter test xs) → AllByRecursion P (cond t (x ∷ filter test xs) (filter test xs))
      at true rest = (all.0, rest)
      at false rest = rest

  each_none : (n : ℕ) (x : A) → P x → AllByRecursion P (replicate n x)
  each_none zero x one = tt
  each_none (suc n) x one = (one, each_none n x one)

abbrev IsText : Aux → Type 0
IsText x = IsUtf8 x.text

abbrev Texts : List Aux → Type 0
Texts xs = AllByRecursion IsText xs

used_texts : (seq : ℕ) (text : List ℕ) (xs : List Aux) → IsUtf8 text → Texts xs → Texts (move_to_front seq text xs)
used_texts seq text xs one all = each_take IsText 64 (record { seq = seq; text = text } ∷ filter (λ (x : Aux). not (eqb seq x.seq)) xs) (one, each_filter IsText (λ (x : Aux). not (eqb seq x.seq)) xs all)

found_text : (seq : ℕ) (text : List ℕ) (xs : List Aux) → Texts xs → aux_at seq xs ≡ Some text → IsUtf8 text
found_text seq text [] all e = let no_way : None ≡ Some text = e in cc
found_text seq text (x ∷ xs) all e = at (eqb seq x.seq) (found_text seq text xs all.1) e
  where
    at : (t : Bool) → (aux_at seq xs ≡ Some text → IsUtf8 text) → cond t (Some x.text) (aux_at seq xs) ≡ Some text → IsUtf8 text
    at true later e = subst IsUtf8 (let same : x.text ≡ text = cc in same) all.0
    at false later e = later e

-- The records.

abbrev OfUser : LogRecord Body → Type 0
OfUser r = HoldsUtf8 r.holds

module _ (m : Machine) (are : HasUtf8Texts m) where
  aux_texts : (engine : ℕ) → Texts (aux_of m engine)
  aux_texts engine = each_index Texts m.aux (engine - 1) [] tt are.aux

  append_texts : (shard : ℕ) (r : LogRecord Body) → HoldsUtf8 r.holds → HasUtf8Texts (append_to shard r m)
  append_texts shard r one = record { records = each_add OfUser (shard - 1) r m.shards one are.records; aux = are.aux }

  uses_texts : (engine seq : ℕ) (text : List ℕ) → IsUtf8 text → HasUtf8Texts (with_aux m engine seq text)
  uses_texts engine seq text one = record { records = are.records; aux = each_set Texts m.aux (engine - 1) (move_to_front seq text (aux_of m engine)) (used_texts seq text (aux_of m engine) one (aux_texts engine)) are.aux }

  cut_texts : HasUtf8Texts (cut m)
  cut_texts =
      elim (cuts_nothing m) as (λ t. HasUtf8Texts (cond t m (record m { vectors = progress m.shards m.counts ∷ m.vectors }))) [ true ↦ are | false ↦ record { records = are.records; aux = are.aux } ]

  starts_texts : (n : ℕ) (path : List ℕ) (engine : ℕ) (a : Option Attempt) → HasUtf8Texts (start_attempt m n path engine a).machine
  starts_texts n path engine None = record { records = are.records; aux = are.aux }
  starts_texts n path engine (Some a) = are

  kills_texts : (n : ℕ) (a : Option Attempt) → HasUtf8Texts (kill_attempt m n a).machine
  kills_texts n None = are
  kills_texts n (Some a) = record { records = are.records; aux = are.aux }

  loses_texts : (n : ℕ) (a : Option Attempt) → HasUtf8Texts (lose_record m n a).machine
  loses_texts n None = are
  loses_texts n (Some a) = record { records = are.records; aux = are.aux }

  sets_texts : (engine seq : ℕ) (text : List ℕ) → IsUtf8 text → HasUtf8Texts (set_aux m engine seq text).machine
  sets_texts engine seq text one =
      elim (leb 1 seq && leb seq (position m engine)) as (λ t. HasUtf8Texts (cond t (event_result (with_aux m engine seq text) line.Set) (event_result m line.Absent)).machine) [ true ↦ uses_texts engine seq text one | false ↦ are ]

  gets_texts : (engine seq : ℕ) (found : Option (List ℕ)) → aux_at seq (aux_of m engine) ≡ found → HasUtf8Texts (get_aux m engine seq found).machine
  gets_texts engine seq None e = are
  gets_texts engine seq (Some text) e = uses_texts engine seq text (found_text seq text (aux_of m engine) (aux_texts engine) e)

  module _ (setup : Setup) (fs : List Function) where
    moved_texts : (n engine : ℕ) (move : Move) → SomeText move.sends → HasUtf8Texts (apply_move setup m n engine move).machine
    moved_texts n engine move is = at move.sends is
      where
        at : (r : Option (LogRecord Body)) → SomeText r → HasUtf8Texts (append_sent setup engine r (with_attempt n move.attempt (record m { store = move.store })))
        at None is = record { records = are.records; aux = are.aux }
        at (Some r) is = record { records = each_add OfUser (home_shard setup engine - 1) r m.shards is are.records; aux = are.aux }

    steps_texts : (n : ℕ) (a : Option Attempt) → HasUtf8Texts (step_attempt setup fs m n a).machine
    steps_texts n None = are
    steps_texts n (Some a) = moved_texts n a.engine (step setup fs m.store (view m a.engine) (next_sent setup m a.engine) a) (sent_text _ (step_sends setup fs a m.store (view m a.engine) (next_sent setup m a.engine)))

    misses_texts : (a : Option Attempt) → HasUtf8Texts (miss_attempt setup fs m a).machine
    misses_texts None = are
    misses_texts (Some a) = record { records = are.records; aux = are.aux }

    end_texts : (engine : ℕ) (path : Option (List ℕ)) → HasUtf8Texts (end_if_all_ended setup m engine path).machine
    end_texts engine None = append_texts (home_shard setup engine) (unconditional_record b.SwitchEnd) tt
    end_texts engine (Some path) = are

    switch_texts : (engine : ℕ) (seen : List (Live Body)) (s : Option Switch) → HasUtf8Texts (send_switch_end setup m engine seen s).machine
    switch_texts engine seen None = are
    switch_texts engine seen (Some s) = end_texts engine (least_open s.begun seen)

pub events_keep_texts : EventsKeepTexts
events_keep_texts setup fs m (v.Submit engine request f args) gives are = append_texts m are (home_shard setup engine) (submit_record (request ∷ []) (function_name f fs) args) tt
events_keep_texts setup fs m (v.Copy shard replica n) gives are = record { records = are.records; aux = are.aux }
events_keep_texts setup fs m v.Cut gives are = cut_texts m are
events_keep_texts setup fs m (v.Catch engine) gives are = record { records = are.records; aux = are.aux }
events_keep_texts setup fs m v.Sync gives are = let rest = cut_texts m are in record { records = rest.records; aux = rest.aux }
events_keep_texts setup fs m (v.Restart engine) gives are = record { records = are.records; aux = each_set Texts m.aux (engine - 1) [] tt are.aux }
events_keep_texts setup fs m (v.Start n path engine) gives are = starts_texts m are n path engine (attempt_at n m.attempts)
events_keep_texts setup fs m (v.Step n) gives are = steps_texts m are setup fs n (attempt_at n m.attempts)
events_keep_texts setup fs m (v.Kill n) gives are = kills_texts m are n (attempt_at n m.attempts)
events_keep_texts setup fs m (v.Lose n) gives are = loses_texts m are n (attempt_at n m.attempts)
events_keep_texts setup fs m (v.Miss n) gives are = misses_texts m are setup fs (attempt_at n m.attempts)
events_keep_texts setup fs m (v.Switch engine target) gives are = append_texts m are (home_shard setup engine) (unconditional_record (b.SwitchBegin target)) tt
events_keep_texts setup fs m (v.EndSwitch engine) gives are = switch_texts m are setup fs engine (view m engine) (modes setup.mode (view m engine)).pending
events_keep_texts setup fs m (v.Trim engine) gives are = append_texts m are (home_shard setup engine) _ tt
events_keep_texts setup fs m (v.Sweep engine) gives are = record { records = are.records; aux = are.aux }
events_keep_texts setup fs m (v.Append engine tags text) gives are = append_texts m are (home_shard setup engine) (log_record tags None (b.User text)) gives
events_keep_texts setup fs m (v.Cond engine place tags text) gives are =
    append_texts m are (home_shard setup engine) (log_record tags (Some (record { tag = first_tag tags; place = place })) (b.User text)) gives
events_keep_texts setup fs m (v.TrimTag engine tag upto) gives are = append_texts m are (home_shard setup engine) (unconditional_record (b.TrimTag tag.0 upto.0)) tt
events_keep_texts setup fs m (v.SetAux engine seq text) gives are = sets_texts m are engine seq.0 text gives
events_keep_texts setup fs m (v.GetAux engine seq) gives are = gets_texts m are engine seq.0 (aux_at seq.0 (aux_of m engine)) refl
events_keep_texts setup fs m _ gives are = are

no_records : {A : Type 0} (n : ℕ) → all_records {A = A} (replicate n []) ≡ []
no_records zero = refl
no_records (suc n) = no_records n

pub opening_is_text : OpeningIsText
opening_is_text setup objects = record {
  records = subst (AllByRecursion OfUser) (sym (no_records setup.shards)) tt;
  aux = each_none Texts setup.engines [] tt;
}

-- What engines see.

order_texts : (shards : List (List (LogRecord Body))) (vectors : List (List ℕ)) → AllByRecursion OfUser (all_records shards) → AllByRecursion OfUser (order shards vectors)
order_texts shards [] all = tt
order_texts shards (v ∷ vs) all =
    each_append OfUser (entry_records shards (last_vector vs) v) (order shards vs)
    (each_weaker (λ x. IsAmong x (all_records shards)) OfUser (λ x is. among_each OfUser x (all_records shards) is all) (entry_records shards (last_vector vs) v) (added_among shards (last_vector vs) v))
    (order_texts shards vs all)

abbrev LiveText : Live Body → Type 0
LiveText x = HoldsUtf8 x.holds

live_texts : (log : List (LogRecord Body)) → AllByRecursion OfUser log → AllByRecursion LiveText (live log)
live_texts [] all = tt
live_texts (r ∷ log) all = at (meets_condition r.condition (live log)) (live_texts log all.1)
  where
    at : (t : Bool) → AllByRecursion LiveText (live log) → AllByRecursion LiveText (cond t (record { seq = suc (length log); tags = r.tags; holds = r.holds } ∷ live log) (live log))
    at true rest = (all.0, rest)
    at false rest = rest

body_text : (body : Body) → HoldsUtf8 body → IsUtf8 (user_text body)
body_text (b.User bytes) is = is
body_text _ is = IsUtf8-nil

text_there : (seq : ℕ) (xs : List (Live Body)) → AllByRecursion LiveText xs → IsUtf8 (user_text_at seq xs)
text_there seq [] all = IsUtf8-nil
text_there seq (x ∷ xs) all = at (eqb seq x.seq) (text_there seq xs all.1)
  where
    at : (t : Bool) → IsUtf8 (user_text_at seq xs) → IsUtf8 (cond t (user_text x.holds) (user_text_at seq xs))
    at true rest = body_text x.holds all.0
    at false rest = rest

pub engines_see_texts : EnginesSeeTexts
engines_see_texts m engine are = record {
  found = λ seq. text_there seq (view m engine) (each_tail LiveText (view m engine) (live_records m) (upto_tail (position m engine) (live_records m)) (live_texts (log m) (order_texts m.shards m.vectors are.records)));
  aux = λ seq text e. found_text seq text (aux_of m engine) (aux_texts m are engine) e;
}

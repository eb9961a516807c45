-- A record that carries its own tags says nothing to a fold without the fold's tag.
use Rattle.std.proofs.Common.{◌≡◌, ◌⊎◌, inl, inr, ℕ, ◌*◌, ◌^◌, ◌≤◌, Bool, true, false, cond, eqb, ltb, ◌&&◌, ◌||◌, List, [], ◌∷◌, ◌++◌, length, drop, Some, None, option_map, refl, sym, ap, ◌∙◌, arith}
use Rattle.std.specs.Prelude.{bytes_eq, is_some}
use Rattle.std.specs.List.{list_all, AllByRecursion}
use Rattle.std.proofs.lemmas.Bool.{eq-eqb, ne_eqb, ltb-true, leb-true, and_parts, both_ways, and_from}
use Rattle.lb_base.specs.Path.{is_ordinal, IsPath, is_path}
use Rattle.lb_base.specs.declared.value.Tag.{Tag}
use Rattle.lb_base.specs.declared.value.Value.{Value}
use Rattle.boki_types.specs.declared.body.Body.{Body}
use Rattle.boki_types.specs.declared.body.Body.TheVariants as b
use Rattle.boki_types.specs.declared.log.Call.{Call}
use Rattle.boki_model.specs.Live.{LogRecord, Live, has_tag, live, upto}
use Rattle.boki_model.specs.Maps.{get}
use Rattle.boki_model.specs.Order.{order}
use Rattle.boki_model.specs.Bodies.{tag_of, tag_number, tags_of, path_number, name_hash, call_tag, step_tag, life_tag, key_tag, step_of, child, is_step_id, in_range}
use Rattle.boki_model.specs.Modes.{Modes, init_path, finish_of, apply_to_modes}
use Rattle.boki_model.specs.Floor.{counted_trim}
use Rattle.boki_model.specs.Writes.{NamedValue, logged_write_of, logged_write, write_at, here_or_named}
use Rattle.boki_model.specs.Folds.{Commit, queue_in, apply_to_queues, add_commit}
use Rattle.boki_model.proofs.Tags.{same_numbers, number_below}
use Rattle.boki_machine.specs.Attempt.{call_in}
use Rattle.exactly_once.specs.FurtherLaws.StepRecords.{OwnTags, has_paths, is_step_of, IsWellFormed, IsWellFormedLive}
use Rattle.exactly_once.proofs.Log.ListElements.{each_weaker}
use Rattle.exactly_once.proofs.Log.MapChanges.{same_itself, keys_cases, get_other}
use Rattle.exactly_once.proofs.Log.StepRecords.{own_step, child_path}
use Rattle.log_folds.specs.Own.{switch_tag, trim_tag, commit_tag, is_write_to, Carries, TellRecords, HasOwnTags, HaveOwnTags, StayOwn, StayOwnLive}
use Rattle.log_folds.proofs.Each.{each_ordered, each_live, each_upto, each_filtered}

-- a tag that stands first, and one that stands second
first_has : (t : ℕ) (ts : List Tag) → has_tag t (record { 0 = t } ∷ ts) ≡ true
first_has t ts = ap (λ b. b || has_tag t ts) (eq-eqb t t refl)

pub second_has : (t : ℕ) (s : Tag) (ts : List Tag) → has_tag t (s ∷ record { 0 = t } ∷ ts) ≡ true
second_has t s ts = ap (λ b. eqb t s.0 || b) (first_has t ts) ∙ or_true (eqb t s.0)
  where
    or_true : (b : Bool) → (b || true) ≡ true
    or_true true = refl
    or_true false = refl

-- what has not the tag of one path or name is of another
other :
    (tag : List ℕ → ℕ) (q r : List ℕ) (tags : List Tag) → has_tag (tag r) tags ≡ true
    → has_tag (tag q) tags ≡ false → bytes_eq q r ≡ false
other tag q r tags has without = at (keys_cases q r)
  where
    at : (q ≡ r) ⊎ (bytes_eq q r ≡ false) → bytes_eq q r ≡ false
    at (inl same) = absurd (both_ways (has_tag (tag q) tags) without (ap (λ p. has_tag (tag p) tags) same ∙ has))
    at (inr e) = e

pub never :
    {X : Type 0} (t : ℕ) (tags own : List Tag) → tags ≡ own → has_tag t own ≡ true → has_tag t tags ≡ false
    → X
never t tags own same has without = absurd (both_ways (has_tag t tags) without (ap (has_tag t) same ∙ has))

call_carries :
    (path : List ℕ) (body : Body) (tags : List Tag) → OwnTags body tags
    → has_tag (call_tag path) tags ≡ false → call_in path body ≡ None
call_carries path (b.Submit p f args) tags own without =
    ap (λ b. cond b (Some (record { function = f; args = args })) None) (other call_tag path p tags (ap (has_tag (call_tag p)) own ∙ first_has (call_tag p) []) without)
call_carries path (b.Spawn p i ordinal f args) tags own without =
    ap (λ b. cond b (Some (record { function = f; args = args })) None)
    (other call_tag path (child p ordinal) tags (ap (has_tag (call_tag (child p ordinal))) own ∙ second_has (call_tag (child p ordinal)) (tag_of 2 (path_number p)) []) without)
call_carries path _ tags own without = refl

-- a step record has the step tag of its path first
other_step :
    (path p : List ℕ) (tags ts : List Tag) → tags ≡ tag_of 2 (path_number p) ∷ ts
    → has_tag (step_tag path) tags ≡ false → bytes_eq path p ≡ false
other_step path p tags ts own without = other step_tag path p tags (ap (has_tag (step_tag p)) own ∙ first_has (step_tag p) ts) without

step_carries :
    (path : List ℕ) (body : Body) (tags : List Tag) → OwnTags body tags
    → has_tag (step_tag path) tags ≡ false → is_step_of path (step_of body) ≡ false
step_carries path (b.Init p) tags own without = other_step path p tags (tag_of 9 0 ∷ []) own without
step_carries path (b.Read p i key) tags own without = other_step path p tags ([]) own without
step_carries path (b.Write p i place key value) tags own without = other_step path p tags (tag_of 5 (name_hash key) ∷ []) own without
step_carries path (b.Spawn p i ordinal f args) tags own without = other_step path p tags (tag_of 1 (path_number (child p ordinal)) ∷ []) own without
step_carries path (b.Join p i ordinal) tags own without = other_step path p tags ([]) own without
step_carries path (b.Push p i queue value) tags own without = other_step path p tags (tag_of 6 (name_hash queue) ∷ []) own without
step_carries path (b.Pop p i queue) tags own without = other_step path p tags (tag_of 6 (name_hash queue) ∷ []) own without
step_carries path (b.TxnBegin p i names) tags own without = other_step path p tags ([]) own without
step_carries path (b.TxnCommit p i begin names writes) tags own without = other_step path p tags (tag_of 7 0 ∷ []) own without
step_carries path (b.Finish p i outcome) tags own without = other_step path p tags (tag_of 9 0 ∷ []) own without
step_carries path (b.ReadGroup p i keys) tags own without = other_step path p tags ([]) own without
step_carries path _ tags own without = refl

finish_carries :
    (path : List ℕ) (body : Body) (tags : List Tag) → OwnTags body tags
    → has_tag (step_tag path) tags ≡ false → finish_of path body ≡ None
finish_carries path (b.Finish p i outcome) tags own without = ap (λ b. cond b (Some outcome) None) (other_step path p tags (tag_of 9 0 ∷ []) own without)
finish_carries path _ tags own without = refl

end_carries :
    (path : List ℕ) (body : Body) (tags : List Tag) → OwnTags body tags → has_tag life_tag tags ≡ false
    → finish_of path body ≡ None
end_carries path (b.Finish p i outcome) tags own without = never life_tag tags (tags_of (b.Finish p i outcome)) own (second_has life_tag (tag_of 2 (path_number p)) []) without
end_carries path _ tags own without = refl

init_carries :
    (body : Body) (tags : List Tag) → OwnTags body tags → has_tag life_tag tags ≡ false
    → init_path body ≡ None
init_carries (b.Init p) tags own without = never life_tag tags (tags_of (b.Init p)) own (second_has life_tag (tag_of 2 (path_number p)) []) without
init_carries _ tags own without = refl

switch_carries :
    (body : Body) (tags : List Tag) → OwnTags body tags → has_tag switch_tag tags ≡ false
    → (seq : ℕ) (past : List (Live Body)) (m : Modes) → apply_to_modes body seq past m ≡ m
switch_carries (b.SwitchBegin target) tags own without seq past m = never switch_tag tags (tags_of (b.SwitchBegin target)) own (first_has switch_tag []) without
switch_carries b.SwitchEnd tags own without seq past m = never switch_tag tags (tags_of b.SwitchEnd) own (first_has switch_tag []) without
switch_carries _ tags own without seq past m = refl

trim_carries :
    (body : Body) (tags : List Tag) → OwnTags body tags → has_tag trim_tag tags ≡ false
    → (seq : ℕ) (past : List (Live Body)) → counted_trim body seq past ≡ 0
trim_carries (b.Trim w) tags own without seq past = never trim_tag tags (tags_of (b.Trim w)) own (first_has trim_tag []) without
trim_carries _ tags own without seq past = refl

write_carries :
    (key : List ℕ) (body : Body) (tags : List Tag) → OwnTags body tags
    → has_tag (key_tag 5 key) tags ≡ false → (seq : ℕ) (named : List NamedValue)
    → logged_write_of key seq named (logged_write body) ≡ None
write_carries key (b.Write p i place written value) tags own without seq named =
    ap (λ b. cond b (option_map (write_at seq 0) (here_or_named value (record { path = p; place = place }) named)) None)
    (other (key_tag 5) key written tags (ap (has_tag (key_tag 5 written)) own ∙ second_has (key_tag 5 written) (tag_of 2 (path_number p)) []) without)
write_carries key _ tags own without seq named = refl

written_carries :
    (key : List ℕ) (body : Body) (tags : List Tag) → OwnTags body tags
    → has_tag (key_tag 5 key) tags ≡ false → is_write_to key (logged_write body) ≡ false
written_carries key (b.Write p i place written value) tags own without =
    other (key_tag 5) key written tags (ap (has_tag (key_tag 5 written)) own ∙ second_has (key_tag 5 written) (tag_of 2 (path_number p)) []) without
written_carries key _ tags own without = refl

other_queue :
    (q r p : List ℕ) (tags : List Tag) → tags ≡ tag_of 2 (path_number p) ∷ tag_of 6 (name_hash r) ∷ []
    → has_tag (key_tag 6 q) tags ≡ false → bytes_eq q r ≡ false
other_queue q r p tags own without = other (key_tag 6) q r tags (ap (has_tag (key_tag 6 r)) own ∙ second_has (key_tag 6 r) (tag_of 2 (path_number p)) []) without

queue_carries :
    (q : List ℕ) (body : Body) (tags : List Tag) → OwnTags body tags → has_tag (key_tag 6 q) tags ≡ false
    → (queues : List (List ℕ × List Value)) → get q (apply_to_queues body queues) ≡ get q queues
queue_carries q (b.Push p i r v) tags own without queues = get_other q r (queue_in r queues ++ v ∷ []) queues (other_queue q r p tags own without)
queue_carries q (b.Pop p i r) tags own without queues = get_other q r (drop 1 (queue_in r queues)) queues (other_queue q r p tags own without)
queue_carries q _ tags own without queues = refl

commit_carries :
    (body : Body) (tags : List Tag) → OwnTags body tags → has_tag commit_tag tags ≡ false
    → (seq : ℕ) (past : List Commit) → add_commit seq body past ≡ past
commit_carries (b.TxnCommit p i begin names writes) tags own without seq past =
    never commit_tag tags (tags_of (b.TxnCommit p i begin names writes)) own (second_has commit_tag (tag_of 2 (path_number p)) []) without
commit_carries _ tags own without seq past = refl

pub carries : (body : Body) (tags : List Tag) → OwnTags body tags → Carries body tags
carries body tags own = record {
  call = λ path. call_carries path body tags own;
  step = λ path. step_carries path body tags own;
  finish = λ path. finish_carries path body tags own;
  end = λ path. end_carries path body tags own;
  init = init_carries body tags own;
  switch = switch_carries body tags own;
  trim = trim_carries body tags own;
  written = λ key. written_carries key body tags own;
  write = λ key. write_carries key body tags own;
  queue = λ q. queue_carries q body tags own;
  commit = commit_carries body tags own;
}

pub says : (x : Live Body) → OwnTags x.holds x.tags → Carries x.holds x.tags
says x own = carries x.holds x.tags own

-- The call tag of a path is carried by its calls alone.

module _ (path : List ℕ) (ok : IsPath path) where
  -- the other tags are above it, and users' tags below
  above : (t : ℕ) → 2 * 2 ^ 56 ≤ t → eqb (call_tag path) t ≡ false
  above t le = ne_eqb (call_tag path) t (λ e. omega (arith, e, le, number_below path ok))

  calls_same : (p : List ℕ) → IsPath p → eqb (call_tag path) (call_tag p) ≡ bytes_eq path p
  calls_same p there = at (keys_cases path p)
    where
      at : (path ≡ p) ⊎ (bytes_eq path p ≡ false) → eqb (call_tag path) (call_tag p) ≡ bytes_eq path p
      at (inl same) = eq-eqb (call_tag path) (call_tag p) (ap call_tag same) ∙ sym (ap (bytes_eq path) (sym same) ∙ same_itself path)
      at (inr e) =
          ne_eqb (call_tag path) (call_tag p) (λ same.
          let n : path_number path ≡ path_number p = omega (arith, same) in
          let q : path ≡ p = same_numbers path p ok there n in
          both_ways (bytes_eq path p) e (ap (bytes_eq path) (sym q) ∙ same_itself path))
          ∙ sym e

  users_none :
      (ts : List Tag) → list_all (λ t. ltb t.0 (2 ^ 56)) ts ≡ true → has_tag (call_tag path) ts ≡ false
  users_none [] all = refl
  users_none (t ∷ ts) all =
      let parts = and_parts (ltb t.0 (2 ^ 56)) (list_all (λ t. ltb t.0 (2 ^ 56)) ts) all in
      let lt = ltb-true t.0 (2 ^ 56) parts.0 in
      (λ i. ne_eqb (call_tag path) t.0 (λ e. omega (arith, e, lt)) i || users_none ts parts.1 i)

  step_above : (p : List ℕ) → 2 * 2 ^ 56 ≤ step_tag p
  step_above p = omega arith

  one_above : (t : ℕ) → 2 * 2 ^ 56 ≤ t → has_tag (call_tag path) (record { 0 = t } ∷ []) ≡ false
  one_above t le = ap (λ b. b || false) (above t le)

  two_above :
      (s t : ℕ) → 2 * 2 ^ 56 ≤ s → 2 * 2 ^ 56 ≤ t
      → has_tag (call_tag path) (record { 0 = s } ∷ record { 0 = t } ∷ []) ≡ false
  two_above s t le more = (λ i. above s le i || one_above t more i)

  called : (p : List ℕ) (call : Call) → bytes_eq path p ≡ is_some (cond (bytes_eq path p) (Some call) None)
  called p call = at (bytes_eq path p)
    where
      at : (b : Bool) → b ≡ is_some (cond b (Some call) None)
      at true = refl
      at false = refl

  or_false : (b : Bool) → (b || false) ≡ b
  or_false true = refl
  or_false false = refl

  own_call :
      (body : Body) (tags : List Tag) → OwnTags body tags → has_paths body ≡ true
      → has_tag (call_tag path) tags ≡ is_some (call_in path body)
  own_call (b.User bytes) tags own paths = users_none tags own
  own_call (b.Submit p f args) tags own paths =
      ap (has_tag (call_tag path)) own
      ∙ or_false (eqb (call_tag path) (call_tag p))
      ∙ calls_same p (and_parts _ _ paths).0
      ∙ called p (record { function = f; args = args })
  own_call (b.Spawn p i ordinal f args) tags own paths =
      let there : IsPath p = (and_parts _ _ (and_parts _ _ paths).0).0 in
      let few : length p ≤ 3 = leb-true (length p) 3 (and_parts _ _ (and_parts _ _ paths).0).1 in
      let one : is_ordinal ordinal ≡ true = (and_parts _ _ paths).1 in
      ap (has_tag (call_tag path)) own
      ∙ ap (λ b. b || (eqb (call_tag path) (call_tag (child p ordinal)) || false)) (above (step_tag p) (step_above p))
      ∙ or_false (eqb (call_tag path) (call_tag (child p ordinal)))
      ∙ calls_same (child p ordinal) (child_path p ordinal there few one)
      ∙ called (child p ordinal) (record { function = f; args = args })
  own_call (b.Init p) tags own paths = ap (has_tag (call_tag path)) own ∙ two_above (step_tag p) life_tag (omega arith) (omega arith)
  own_call (b.Read p i key) tags own paths = ap (has_tag (call_tag path)) own ∙ one_above (step_tag p) (omega arith)
  own_call (b.Write p i place key value) tags own paths = ap (has_tag (call_tag path)) own ∙ two_above (step_tag p) (key_tag 5 key) (omega arith) (omega arith)
  own_call (b.Join p i ordinal) tags own paths = ap (has_tag (call_tag path)) own ∙ one_above (step_tag p) (omega arith)
  own_call (b.Push p i queue value) tags own paths = ap (has_tag (call_tag path)) own ∙ two_above (step_tag p) (key_tag 6 queue) (omega arith) (omega arith)
  own_call (b.Pop p i queue) tags own paths = ap (has_tag (call_tag path)) own ∙ two_above (step_tag p) (key_tag 6 queue) (omega arith) (omega arith)
  own_call (b.TxnBegin p i names) tags own paths = ap (has_tag (call_tag path)) own ∙ one_above (step_tag p) (omega arith)
  own_call (b.TxnCommit p i begin names writes) tags own paths = ap (has_tag (call_tag path)) own ∙ two_above (step_tag p) commit_tag (omega arith) (omega arith)
  own_call (b.Finish p i outcome) tags own paths = ap (has_tag (call_tag path)) own ∙ two_above (step_tag p) life_tag (omega arith) (omega arith)
  own_call (b.ReadGroup p i keys) tags own paths = ap (has_tag (call_tag path)) own ∙ one_above (step_tag p) (omega arith)
  own_call (b.SwitchBegin target) tags own paths = ap (has_tag (call_tag path)) own ∙ one_above switch_tag (omega arith)
  own_call b.SwitchEnd tags own paths = ap (has_tag (call_tag path)) own ∙ one_above switch_tag (omega arith)
  own_call (b.Trim w) tags own paths = ap (has_tag (call_tag path)) own ∙ one_above trim_tag (omega arith)
  own_call (b.TrimTag number upto) tags own paths = ap (has_tag (call_tag path)) own ∙ one_above (tag_number 8 number) (omega arith)

pub tell_records :
    (path : List ℕ) (body : Body) (tags : List Tag) → IsPath path → OwnTags body tags
    → has_paths body ≡ true → TellRecords path body tags
tell_records path body tags ok own paths = record { call = own_call path ok body tags own paths; step = own_step path ok body tags own paths }

-- From the shards to what an engine sees.

pub own_ordered :
    (shards : List (List (LogRecord Body))) (vectors : List (List ℕ))
    → AllByRecursion (AllByRecursion HasOwnTags) shards → AllByRecursion HasOwnTags (order shards vectors)
own_ordered shards vectors all = each_ordered HasOwnTags shards vectors all

pub own_live : (log : List (LogRecord Body)) → AllByRecursion HasOwnTags log → HaveOwnTags (live log)
own_live log all = each_live (λ tags holds. OwnTags holds tags) log all

pub own_stay : (records : List (Live Body)) → HaveOwnTags records → StayOwn records
own_stay records all = record {
  seen = λ p. each_upto (λ x. OwnTags x.holds x.tags) p records all;
  of_tag = λ tag. each_filtered (λ (x : Live Body). OwnTags x.holds x.tags) (λ x. has_tag tag x.tags) records all;
  of_either = λ one other. each_filtered (λ (x : Live Body). OwnTags x.holds x.tags) (λ x. has_tag one x.tags || has_tag other x.tags) records all;
}

pub own_paths_stay : (records : List (Live Body)) → AllByRecursion IsWellFormedLive records → StayOwnLive records
own_paths_stay records all = record {
  tags = each_weaker IsWellFormedLive (λ (x : Live Body). OwnTags x.holds x.tags) (λ x own. own.tags) records all;
  seen = λ p. each_upto IsWellFormedLive p records all;
  of_tag = λ tag. each_filtered IsWellFormedLive (λ x. has_tag tag x.tags) records all;
}

abbrev BothOwn : Body → List Tag → Type 0
BothOwn body tags = OwnTags body tags × (has_paths body ≡ true)

pub own_paths_live :
    (log : List (LogRecord Body)) → AllByRecursion IsWellFormed log → AllByRecursion IsWellFormedLive (live log)
own_paths_live log all =
    each_weaker (λ (x : Live Body). BothOwn x.holds x.tags) IsWellFormedLive (λ x both. record { tags = both.0; paths = both.1 }) (live log)
    (each_live (λ tags holds. BothOwn holds tags) log
    (each_weaker IsWellFormed (λ (r : LogRecord Body). BothOwn r.holds r.tags) (λ r is. (is.tags, is.paths)) log all))

-- Paths of bodies in range.

first_part : (x y : Bool) → (x && y) ≡ true → x ≡ true
first_part x y h = (and_parts x y h).0

step_path : (p : List ℕ) (i : ℕ) → is_step_id p i ≡ true → is_path p ≡ true
step_path p i h = first_part _ _ (first_part _ _ h)

pub ranged_paths : (body : Body) → in_range body ≡ true → has_paths body ≡ true
ranged_paths (b.Submit p f args) h = first_part _ _ (first_part _ _ (first_part _ _ h))
ranged_paths (b.Init p) h = h
ranged_paths (b.Read p i key) h = step_path p i (first_part _ _ h)
ranged_paths (b.Write p i place key value) h = step_path p i (first_part _ _ (first_part _ _ (first_part _ _ h)))
ranged_paths (b.Spawn p i ordinal f args) h =
    let front = first_part _ _ (first_part _ _ (first_part _ _ h)) in
    let both = and_parts _ _ front in
    let step = and_parts _ _ both.0 in
    and_from _ _ (and_from _ _ (step_path p i step.0) step.1) both.1
ranged_paths (b.Join p i ordinal) h = step_path p i (first_part _ _ h)
ranged_paths (b.Push p i queue value) h = step_path p i (first_part _ _ (first_part _ _ h))
ranged_paths (b.Pop p i queue) h = step_path p i (first_part _ _ h)
ranged_paths (b.TxnBegin p i names) h = step_path p i (first_part _ _ h)
ranged_paths (b.TxnCommit p i begin names writes) h =
    step_path p i (first_part _ _ (first_part _ _ (first_part _ _ (first_part _ _ h))))
ranged_paths (b.Finish p i outcome) h = step_path p i (first_part _ _ h)
ranged_paths (b.ReadGroup p i keys) h = step_path p i (first_part _ _ h)
ranged_paths _ h = refl
